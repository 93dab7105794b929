-- `retain::retain_boxes` meets its contract. The loop's invariant: of the boxes before i the corners of the retained are in the front, w of them. Assumes nothing.
use lib.ListN.{length}
use Rattle.laws.specs.Kept.{Keeping}
use Rattle.boost_tracker_definition.specs.Update.{corners_of, xyxy_of, remains}
use Rattle.boost_tracker_pairs.proofs.retain.retain_boxes.Given as goal

abbrev pub invariant-loop-i : goal.invariant-loop-i
invariant-loop-i l = Keeping (λ k. corners_of (xyxy_of l.objects k)) 4 (remains l.thresh l.scores) (λ k. k) l.initial.corners (length l.scores) l.i l.w l.corners
