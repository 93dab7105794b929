-- `bedside::mot::bedside_mot_line` meets its contract: the answer of `mot_line`, in C's form. Assumes nothing.
use Rattle.bedside.proofs.MotLaws.{line-in-c}
use Rattle.bedside.proofs.mot.bedside_mot_line.Goals as goal

pub returns : goal.returns
returns c = line-in-c _ _ _ c.from.ensures c.mot_line.ensures
