-- `association::assign` meets its contract. The two matrices are lent as parts. Assumes nothing.
use mathlib.Core.Path.{sym, ◌∙◌}
use native.Mathlib.Omega.{arith}
use lib.Seq.{length-take-le}
use Rattle.assoc.proofs.AssociationLaws.{half-done}
use Rattle.assoc.proofs.association.assign.Goals as goal

pub returns : goal.returns
returns c = let a = c.args in c.linear_assignment.ensures ∙ half-done a.boxes a.tracks a.threshold a.cells.now _

pub slice_bounds-linear_assignment-end-2 : goal.slice_bounds-linear_assignment-end-2
slice_bounds-linear_assignment-end-2 c = sym (length-take-le _ _ (omega (arith, c.requires.2)))
