-- The answers of `mh_dist::distance_rows`: it meets its contract. Its invariant is in Invariants.antt. Assumes nothing.
use mathlib.Core.Path.{◌∙◌}
use Rattle.boost_tracker_mh_dist.proofs.MhLaws.{distance_is}
use Rattle.std.proofs.Common.{zero-mul}
use Rattle.laws.specs.Grid.{row-part, row_next, rows_on, rows_start}
use Rattle.laws.specs.Tab.{length-tab, tab_ext}
use Rattle.boost_tracker_mh_dist.proofs.mh_dist.distance_rows.Goals as goal

pub loop-i-preserved : goal.loop-i-preserved
loop-i-preserved c =
    let inv = c.loop-i.invariant in
    rw (row_next c.loop-i.i c.args.tracks)
    (rows_on inv c.loop-i-test.true (λ k. length-tab _ _)
    (c.distance_row.ensures
    ∙ rw (row-part inv c.loop-i-test.true, c.convert_bbox_to_z.ensures, c.det.ensures)
    (tab_ext _ _ _ (λ j h. distance_is c.args.detections.now c.args.x.now c.args.sigma.now c.loop-i.i j))))

pub loop-i-init : goal.loop-i-init
loop-i-init c = rw (zero-mul c.args.tracks) (rows_start c.requires.room)
