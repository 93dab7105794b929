-- An answer of `mot_line` in C's form. Assumes nothing.
use mathlib.Core.Path.{◌≡◌, ap, ◌∙◌}
use mathlib.Core.List.{List}
use Prim.Native.Nat.{ℕ}
use Rattle.std.proofs.Common.{Result}
use Rattle.mot_line.specs.declared.call.Refusal.{Refusal}
use Rattle.mot_line.specs.Call.{Outcome, outcome, mot_line}
use Rattle.bedside_answers.specs.declared.mot.MotAnswer.{MotAnswer}
use Rattle.bedside_answers.specs.Mot.{answered_in_c, LineInC}

-- r is the answer a in C's form
pub line-in-c : (l : List ℕ) (previous : ℕ) (out : List ℕ) {r : MotAnswer} {a : Result ℕ Refusal} {out' : List ℕ} → r ≡ answered_in_c a → outcome a out' ≡ mot_line l previous out → LineInC l previous out r out'
line-in-c l previous out e w = record { answer = e ∙ ap (λ (c : Outcome). answered_in_c c.answer) w; cells = ap (λ (c : Outcome). c.out) w }
