-- An answer of `forget` and `forget_set` in C's form. Assumes nothing.
use mathlib.Core.Path.{◌≡◌, ap, ◌∙◌}
use Rattle.boost_tracker_table.specs.Lent.{Table, Call, call_with}
use Rattle.boost_tracker_forget.specs.declared.drops.Forgotten.{Forgotten}
use Rattle.bedside_answers.specs.declared.forget.ForgetAnswer.{ForgetAnswer}
use Rattle.bedside_answers.specs.Forget.{forgotten_in_c, call_in_c}

-- r is the answer a in C's form, and k what the call answers and leaves
pub forget_in-c : (t : Table) {r : ForgetAnswer} {a : Forgotten} {k : Call Forgotten Table} → r ≡ forgotten_in_c a → call_with a t ≡ k → call_with r t ≡ call_in_c k
forget_in-c t e w = ap (λ (r : ForgetAnswer). call_with r t) e ∙ ap call_in_c w
