-- `bedside::forget::bedside_forget` meets its contract: the answer of `forget`, in C's form. Assumes nothing.
use Rattle.bedside.proofs.ForgetLaws.{forget_in-c}
use Rattle.bedside.proofs.forget.bedside_forget.Goals as goal

pub returns : goal.returns
returns c = forget_in-c _ c.from.ensures c.forget.ensures
