-- The two ends of a public call: refused with nothing changed, and accepted. Assumes nothing.
use Rattle.std.proofs.Common.{◌≡◌, ℕ, ◌<◌, false, List, length, sym, ap, ◌∙◌, Result, Ok, Err}
use Rattle.std.specs.Bool.{⊤}
use lib.Ieee.{Float}
use Rattle.laws.specs.Tab.{tab, tab_ext}
use Rattle.lapjv.specs.declared.Counts.{Counts}
use Rattle.refusals.specs.declared.refusal.Refusal.{Refusal}
use Rattle.refusals.proofs.Laws.{number-some}
use Rattle.assoc_matching.specs.Matching.{simple, Matched, match_detections}
use Rattle.assoc_matching.specs.Answers.{Call, zeroed, PartnerLent, partner_lent_with, partner_number, partner_values, partner_call_with, partner_verdict, partner_call, MatchLent, match_lent_after, match_counts, match_call_with, match_verdict, match_call}
use Rattle.assoc_matching.specs.Partners.{counts_of, solution, solved_column, partner_of, Partnered, PartnerReady}
use Rattle.assoc_matching.specs.Private.{Solution}
use Rattle.assoc_matching.proofs.AnswerLaws.{partner-accepted}

module _ (boxes tracks : ℕ) (cost : List Float) (l : PartnerLent) where
  abbrev sought : Result ⊤ Refusal
  sought = partner_verdict boxes tracks (length cost) (length l.partner) (length l.work)

  pub partner-refused : {v : Result ⊤ Refusal} {why : Refusal} → v ≡ sought → v ≡ Err why → partner_call_with (Err why) l ≡ partner_call boxes tracks cost l
  unfolding partner_call
  partner-refused e f = rw (sym e ∙ f)

  pub partner-found : {k : Counts} {partner : List ℕ} {work : List Float} → sought ≡ Ok tt → Solution cost boxes tracks k partner → work ≡ zeroed l.work
      → partner_call_with (Ok k) (partner_lent_with partner work) ≡ partner_call boxes tracks cost l
  unfolding partner_call
  partner-found e w z = rw (e, w.counts, w.partners, z)

  -- for a caller that knows the sizes: it is not turned down
  module _ (ready : PartnerReady boxes tracks (length cost) (length l.partner) (length l.work)) (r : Result Counts Refusal) {after : PartnerLent} (call : partner_call_with r after ≡ partner_call boxes tracks cost l) where
    accepted : sought ≡ Ok tt
    accepted = partner-accepted ready

    pub partner-says : partner_number r ≡ 0
    unfolding partner_call
    partner-says = ap (λ (c : Call Counts PartnerLent). c.number) call ∙ rw accepted

    -- and where the direct path is not open, what it finds are the pairs
    pub partners_are : (t : Float) → simple cost boxes tracks t ≡ false → Partnered cost boxes tracks t (partner_values r) after.partner
    unfolding partner_call
    partners_are t s =
        let counts : partner_values r ≡ counts_of (solution cost boxes tracks) = ap (λ (c : Call Counts PartnerLent). c.counts) call ∙ rw accepted in
        let partners : after.partner ≡ tab (solved_column cost boxes tracks) boxes = ap (λ (c : Call Counts PartnerLent). c.lent.partner) call ∙ rw accepted in
        record {
          counts = counts ∙ rw s;
          partners = partners ∙ tab_ext (solved_column cost boxes tracks) (partner_of cost boxes tracks t) boxes (λ (i : ℕ) (h : i < boxes). rw s);
        }

    pub partners_clear : after.work ≡ zeroed l.work
    unfolding partner_call
    partners_clear = ap (λ (c : Call Counts PartnerLent). c.lent.work) call ∙ rw accepted

-- what a caller reads off an answer: its counts, and that one with the number 0 is no refusal
pub partners-found : {cost : List Float} {n m : ℕ} {t : Float} {r : Result Counts Refusal} {k : Counts} {partner : List ℕ} → r ≡ Ok k → Partnered cost n m t (partner_values r) partner → Partnered cost n m t k partner
partners-found e w = record { counts = sym (ap partner_values e) ∙ w.counts; partners = w.partners }

pub partner_not_refused : {r : Result Counts Refusal} {why : Refusal} → partner_number r ≡ 0 → r ≡ Err why → ⊥
partner_not_refused {r} {why} z e = number-some why (rw e at z)

module _ (boxes tracks : ℕ) (cost : List Float) (threshold : Float) (l : MatchLent) where
  abbrev verdict : Result ⊤ Refusal
  verdict = match_verdict boxes tracks (length cost) (length l.pair_boxes) (length l.pair_tracks) (length l.work)

  abbrev value : Matched
  value = match_detections cost boxes tracks threshold

  pub match_refused : {v : Result ⊤ Refusal} {why : Refusal} → v ≡ verdict → v ≡ Err why → match_call_with (Err why) l ≡ match_call boxes tracks cost threshold l
  unfolding match_call
  match_refused e f = rw (sym e ∙ f)

  pub match_accepted : verdict ≡ Ok tt → match_call_with (Ok (match_counts value)) (match_lent_after value l) ≡ match_call boxes tracks cost threshold l
  unfolding match_call
  match_accepted e = rw e
