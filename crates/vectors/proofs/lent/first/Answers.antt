-- `vectors::lent::first` meets its contract: what is lent are the first elements, and no more than there are. Assumes nothing.
use mathlib.Core.Path.{sym}
use native.Mathlib.Omega.{arith}
use lib.Seq.{length-take-le}
use Rattle.vectors.proofs.Parts.{first}
use Rattle.vectors.proofs.lent.first.Goals as goal

pub slice_bounds-result-end : goal.slice_bounds-result-end
slice_bounds-result-end g c = sym (length-take-le _ _ (omega arith))

pub returns : goal.returns
returns g c = first _ _ _ c.at_most-end.ensures.value
