-- `boost_tracker_vectors::play` is safe: each length lent is within its slice. Assumes nothing.
use mathlib.Core.Path.{sym}
use native.Mathlib.Omega.{arith}
use lib.Seq.{length-take-le}
use Rattle.boost_tracker_vectors.proofs.play.Goals as goal

pub slice_bounds-step-end-2 : goal.slice_bounds-step-end-2
slice_bounds-step-end-2 c = sym (length-take-le _ _ (omega arith))

pub slice_bounds-step-end-4 : goal.slice_bounds-step-end-4
slice_bounds-step-end-4 c = sym (length-take-le _ _ (omega arith))

pub slice_bounds-step-end-6 : goal.slice_bounds-step-end-6
slice_bounds-step-end-6 c = sym (length-take-le _ _ (omega arith))
