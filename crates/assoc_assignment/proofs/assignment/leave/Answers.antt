-- `assignment::leave` meets its contract. The local arrays are lent with a mark for each box and each track. Assumes nothing.
use mathlib.Core.Path.{sym}
use mathlib.Core.Bool.{false}
use native.Mathlib.Omega.{arith}
use lib.Seq.{length-take-le}
use Rattle.assoc_direct.proofs.DirectLaws.{clean}
use Rattle.assoc_assignment.proofs.ListLaws.{clean_as}
use Rattle.assoc_assignment.proofs.assignment.leave.Goals as goal

pub slice_bounds-dets-end : goal.slice_bounds-dets-end
slice_bounds-dets-end c =
    omega (arith, c.args.iou.sized.few-rows)

pub slice_bounds-leave_with-end : goal.slice_bounds-leave_with-end
slice_bounds-leave_with-end c =
    sym (length-take-le _ _ (omega (arith, c.args.iou.sized.few-rows)))

pub slice_bounds-trks-end : goal.slice_bounds-trks-end
slice_bounds-trks-end c =
    omega (arith, c.args.iou.sized.few-cols)

pub slice_bounds-leave_with-end-2 : goal.slice_bounds-leave_with-end-2
slice_bounds-leave_with-end-2 c =
    sym (length-take-le _ _ (omega (arith, c.args.iou.sized.few-cols)))

pub leave_with-requires : goal.leave_with-requires
leave_with-requires c = record { rows = c.requires.rows; room = c.requires.room; clean = (clean_as c.requires.rows (clean c.args.iou.nrows 255 false c.args.iou.sized.few-rows), clean c.args.iou.ncols 255 false c.args.iou.sized.few-cols) }

pub returns : goal.returns
returns c = c.leave_with.ensures
