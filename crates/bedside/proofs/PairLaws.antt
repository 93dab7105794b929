-- Answers in C's form, from what the routine answers and what is said of its answer. Assumes nothing.
use mathlib.Core.Path.{◌≡◌, sym, ap, ◌∙◌}
use mathlib.Core.List.{List}
use Prim.Native.Nat.{ℕ}
use lib.Ieee.{Float}
use Rattle.std.specs.Bool.{⊤}
use Rattle.std.proofs.Common.{Result}
use Rattle.refusals.specs.Refusal.{verdict_number}
use Rattle.assoc_similarity.specs.Sizes.{after}
use Rattle.refusals.specs.declared.refusal.Refusal.{Refusal}
use Rattle.assoc_matching.specs.declared.matching.MatchCounts.{MatchCounts}
use Rattle.assoc_assignment.specs.declared.assignment.AssignmentCounts.{AssignmentCounts}
use Rattle.assoc_assignment.specs.Answers.{call_with}
use Rattle.assoc_matching.specs.Answers.{Call, MatchLent}
use Rattle.bedside_answers.specs.declared.pairs.Matched.{Matched}
use Rattle.bedside_answers.specs.declared.pairs.Assignment.{Assignment}
use Rattle.bedside_answers.specs.Pairs.{MatrixInC, assignment_in_c, match_call_in_c, call_in_c}

-- r is the number of the answer w, which is the verdict v, and the slice is as w leaves it
pub in_c : (v w : Result ⊤ Refusal) (cell : ℕ → ℕ → Float) (boxes tracks : ℕ) (out : List Float) (r : ℕ) (out' : List Float) →
    r ≡ verdict_number w → w ≡ v → out' ≡ after w cell boxes tracks out → MatrixInC v cell boxes tracks out r out'
in_c v w cell boxes tracks out r out' said is left =
    record { number = said ∙ ap verdict_number is; cells = left ∙ ap (λ (u : Result ⊤ Refusal). after u cell boxes tracks out) is }

-- r is what is said of an answer in C's form, and k what the call says and leaves
pub match_in-c : (l : MatchLent) {r said : Matched} {k : Call MatchCounts MatchLent} → r ≡ said → match_call_in_c said l ≡ k → match_call_in_c r l ≡ k
match_in-c l e w = ap (λ (r : Matched). match_call_in_c r l) e ∙ w

-- and with the count of rejected pairs, which C is not told
pub assignment-in-c : {L : Type 0} (a : Result AssignmentCounts Refusal) (l : L) {r : Assignment} {k : Call AssignmentCounts L} → r ≡ assignment_in_c a → call_with a l ≡ k → call_in_c k.counts.rejected r l ≡ k
assignment-in-c {L} a l {r} {k} e w =
    ap (λ (q : Assignment). call_in_c k.counts.rejected q l) e ∙ ap (λ (n : ℕ). call_in_c n (assignment_in_c a) l) (sym (ap (λ (q : Call AssignmentCounts L). q.counts.rejected) w)) ∙ w
