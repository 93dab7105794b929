-- An answer of `update` or of `why` in C's form. Assumes nothing.
use mathlib.Core.Path.{◌≡◌, ap, ◌∙◌}
use Rattle.std.proofs.Common.{Result}
use Rattle.boost_tracker_table.specs.Lent.{Call, call_with}
use Rattle.boost_tracker.specs.Frame.{Memory}
use Rattle.boost_tracker.specs.declared.frame.UpdateAnswer.{UpdateAnswer}
use Rattle.boost_tracker_why.specs.declared.refusal.WhyRefusal.{WhyRefusal}
use Rattle.boost_tracker_why.specs.Answers.{Work}
use Rattle.bedside_answers.specs.declared.frame.Updated.{Updated}
use Rattle.bedside_answers.specs.declared.why.Explained.{Explained}
use Rattle.boost_tracker_fate.specs.declared.kinds.Explanation.{Explanation}
use Rattle.bedside_answers.specs.Frame.{updated_in_c, call_in_c}
use Rattle.bedside_answers.specs.Why as why

-- r is the answer a in C's form, and k what the call answers and leaves
pub update-in-c : (m : Memory) {r : Updated} {a : UpdateAnswer} {k : Call UpdateAnswer Memory} → r ≡ updated_in_c a → call_with a m ≡ k → call_with r m ≡ call_in_c k
update-in-c m e w = ap (λ (r : Updated). call_with r m) e ∙ ap call_in_c w

pub why_in-c : (l : Work) {r : Explained} {a : Result Explanation WhyRefusal} {k : Call (Result Explanation WhyRefusal) Work} → r ≡ why.why_in_c a → call_with a l ≡ k → call_with r l ≡ why.call_in_c k
why_in-c l e w = ap (λ (r : Explained). call_with r l) e ∙ ap why.call_in_c w
