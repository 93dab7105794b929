-- `bedside::forget::bedside_forget_set` meets its contract: the answer of `forget_set`, in C's form. Assumes nothing.
use Rattle.bedside.proofs.ForgetLaws.{forget_in-c}
use Rattle.bedside.proofs.forget.bedside_forget_set.Goals as goal

pub returns : goal.returns
returns c = forget_in-c _ c.from.ensures c.forget_set.ensures
