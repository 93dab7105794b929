-- `bedside::why::bedside_why` meets its contract: the answer of `why`, in C's form. Assumes nothing.
use Rattle.bedside.proofs.FrameLaws.{why_in-c}
use Rattle.bedside.proofs.why.bedside_why.Goals as goal

pub returns : goal.returns
returns c = why_in-c _ c.from.ensures c.why.ensures
