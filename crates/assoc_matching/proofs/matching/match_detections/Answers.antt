-- `matching::match_detections` meets its contract. Assumes nothing.
use Rattle.std.proofs.Common.{◌≡◌, sym, ◌∙◌, Err, rules}
use Rattle.assoc_matching.proofs.AnswerLaws.{match_ready}
use Rattle.assoc_matching.proofs.EndLaws.{match_refused, match_accepted}
use Rattle.assoc_matching.proofs.matching.match_detections.Goals as goal

pub returns-in_err-match_verdict : goal.returns-in_err-match_verdict
returns-in_err-match_verdict c =
    let e : c.from_residual.result ≡ Err c.in_err-match_verdict.field-0.0 = search rules in
    rw e (match_refused _ _ _ _ _ c.match_verdict.ensures c.in_err-match_verdict.was)

pub invariant_of-costs : goal.invariant_of-costs
invariant_of-costs c = record { sized = (match_ready _ _ _ _ _ _ (sym c.match_verdict.ensures ∙ c.in_ok-match_verdict.was)).sides }

pub match_with-requires : goal.match_with-requires
match_with-requires c = record { ready = match_ready _ _ _ _ _ _ (sym c.match_verdict.ensures ∙ c.in_ok-match_verdict.was) }

pub returns : goal.returns
returns c =
    c.match_with.ensures ∙ match_accepted _ _ _ _ _ (sym c.match_verdict.ensures ∙ c.in_ok-match_verdict.was)
