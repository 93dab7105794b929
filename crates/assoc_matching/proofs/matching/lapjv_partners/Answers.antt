-- `matching::lapjv_partners` meets its contract: a refused call changes nothing, and an accepted one leaves the work slice zero. Assumes nothing.
use Rattle.std.proofs.Common.{◌≡◌, sym, ap, ◌∙◌, Err, rules}
use lib.Ieee.{binary64, of_bits}
use Rattle.laws.specs.Tab.{tab, replicate_tab}
use Rattle.assoc_matching.specs.Answers.{partner_lent_with}
use Rattle.assoc_matching.proofs.AnswerLaws.{partner-ready}
use Rattle.assoc_matching.proofs.EndLaws.{partner-refused, partner-found}
use Rattle.assoc_matching.proofs.matching.lapjv_partners.Goals as goal

pub returns-in_err-partner_verdict : goal.returns-in_err-partner_verdict
returns-in_err-partner_verdict c =
    let e : c.from_residual.result ≡ Err c.in_err-partner_verdict.field-0.0 = search rules in
    rw e (partner-refused _ _ _ _ c.partner_verdict.ensures c.in_err-partner_verdict.was)

pub invariant_of-costs : goal.invariant_of-costs
invariant_of-costs c = record { sized = (partner-ready _ _ _ _ _ (sym c.partner_verdict.ensures ∙ c.in_ok-partner_verdict.was)).sides }

pub solve_rows-counts-requires : goal.solve_rows-counts-requires
solve_rows-counts-requires c =
    let ready = partner-ready _ _ _ _ _ (sym c.partner_verdict.ensures ∙ c.in_ok-partner_verdict.was) in
    record { some = ready.some; square = ready.room-work; rows = ready.rows }

pub returns : goal.returns
returns c =
    let a = c.args in
    let verdict = c.partner_verdict.ensures in
    let accepted = c.in_ok-partner_verdict.was in
    let solved = c.solve_rows-counts in
    let cleared = c.fill.ensures.after (λ y e. e) ∙ replicate_tab _ _ ∙ ap (tab (λ i. of_bits binary64 0)) solved.auto.work in
    partner-found _ _ _ (partner_lent_with a.partner.now a.work.now) (sym verdict ∙ accepted) solved.ensures cleared
