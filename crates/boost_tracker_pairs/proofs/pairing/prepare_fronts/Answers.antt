-- `pairing::prepare_fronts` meets its contract: the fronts are lent, and what is behind them does not matter. Assumes nothing.
use mathlib.Core.Path.{◌∙◌, sym}
use Prim.Native.Nat.{◌+◌, ◌*◌}
use native.Mathlib.Omega.{arith}
use lib.ListN.{length, take}
use lib.Seq.{length-take-le}
use Rattle.boost_tracker_verdict.specs.Boxes.{boxes_with}
use Rattle.boost_tracker_verdict.specs.Verdict.{boxes_in}
use Rattle.boost_tracker_pairs.specs.Private.{predicted_in}
use Rattle.boost_tracker_pairs.proofs.PairLaws.{Roomy, roomy-fits, readied_longer}
use Rattle.boost_tracker_pairs.proofs.pairing.prepare_fronts.Goals as goal
use Rattle.boost_tracker_pairs.proofs.pairing.prepare_fronts.Goals.{Start}

room-known : (c : Start) → Roomy (length c.args.corners.now) (length c.args.kept_labels.now) (length c.args.scores.now) (length c.args.trks.now) (length c.args.confs.now)
room-known c = roomy-fits _ _ _ _ _ c.requires.roomy

pub overflow_add-frame : goal.overflow_add-frame
overflow_add-frame c = omega (arith, c.requires.counts.1)

pub overflow_mul-of_boxes : goal.overflow_mul-of_boxes
overflow_mul-of_boxes c = omega (arith, c.requires.sizes.few-boxes)

pub overflow_mul-of_tracks : goal.overflow_mul-of_tracks
overflow_mul-of_tracks c = omega (arith, c.requires.sizes.placed)

pub slice_bounds-prepare_with-end : goal.slice_bounds-prepare_with-end
slice_bounds-prepare_with-end c = sym (length-take-le _ _ c.requires.counts.0)

pub slice_bounds-prepare_with-end-2 : goal.slice_bounds-prepare_with-end-2
slice_bounds-prepare_with-end-2 c = omega (arith, c.requires.sizes.few-boxes, (room-known (goal.at.slice_bounds-prepare_with-end-2 c).Start).corners_fit)

pub slice_bounds-prepare_with-end-3 : goal.slice_bounds-prepare_with-end-3
slice_bounds-prepare_with-end-3 c = sym (length-take-le _ _ (omega (arith, c.requires.sizes.few-boxes, (room-known (goal.at.slice_bounds-prepare_with-end-3 c).Start).corners_fit)))

pub slice_bounds-prepare_with-end-4 : goal.slice_bounds-prepare_with-end-4
slice_bounds-prepare_with-end-4 c = omega (arith, c.requires.sizes.few-boxes, (room-known (goal.at.slice_bounds-prepare_with-end-4 c).Start).scores_fit)

pub slice_bounds-prepare_with-end-5 : goal.slice_bounds-prepare_with-end-5
slice_bounds-prepare_with-end-5 c = sym (length-take-le _ _ (omega (arith, c.requires.sizes.few-boxes, (room-known (goal.at.slice_bounds-prepare_with-end-5 c).Start).scores_fit)))

pub slice_bounds-prepare_with-end-6 : goal.slice_bounds-prepare_with-end-6
slice_bounds-prepare_with-end-6 c = omega (arith, c.requires.sizes.placed, (room-known (goal.at.slice_bounds-prepare_with-end-6 c).Start).trks_fit)

pub slice_bounds-prepare_with-end-7 : goal.slice_bounds-prepare_with-end-7
slice_bounds-prepare_with-end-7 c = sym (length-take-le _ _ (omega (arith, c.requires.sizes.placed, (room-known (goal.at.slice_bounds-prepare_with-end-7 c).Start).trks_fit)))

pub slice_bounds-prepare_with-end-8 : goal.slice_bounds-prepare_with-end-8
slice_bounds-prepare_with-end-8 c = omega (arith, c.requires.sizes.placed, (room-known (goal.at.slice_bounds-prepare_with-end-8 c).Start).confs_fit)

pub slice_bounds-prepare_with-end-9 : goal.slice_bounds-prepare_with-end-9
slice_bounds-prepare_with-end-9 c = sym (length-take-le _ _ (omega (arith, c.requires.sizes.placed, (room-known (goal.at.slice_bounds-prepare_with-end-9 c).Start).confs_fit)))

pub slice_bounds-x-end : goal.slice_bounds-x-end
slice_bounds-x-end c = omega (arith, c.requires.sizes.placed)

pub slice_bounds-prepare_with-end-10 : goal.slice_bounds-prepare_with-end-10
slice_bounds-prepare_with-end-10 c = sym (length-take-le _ _ (omega (arith, c.requires.sizes.placed)))

pub slice_bounds-sigma-end : goal.slice_bounds-sigma-end
slice_bounds-sigma-end c = omega (arith, c.requires.sizes.placed)

pub slice_bounds-prepare_with-end-11 : goal.slice_bounds-prepare_with-end-11
slice_bounds-prepare_with-end-11 c = sym (length-take-le _ _ (omega (arith, c.requires.sizes.placed)))

pub prepare_with-requires : goal.prepare_with-requires
prepare_with-requires c =
    let p = c.requires in
    let m = room-known (goal.at.prepare_with-requires c).Start in record {
      sizes = p.sizes;
      low = p.low;
      lent = (
        record {
          corners_fit = length-take-le _ _ (omega (arith, p.sizes.few-boxes, m.corners_fit));
          scores_fit = length-take-le _ _ (omega (arith, p.sizes.few-boxes, m.scores_fit));
          trks_fit = length-take-le _ _ (omega (arith, p.sizes.placed, m.trks_fit));
          confs_fit = length-take-le _ _ (omega (arith, p.sizes.placed, m.confs_fit));
        },
        record { x_fits = length-take-le _ _ (omega (arith, p.sizes.placed)); sigma-fits = length-take-le _ _ (omega (arith, p.sizes.placed)) },
      );
    }

pub returns : goal.returns
returns c =
    let a = c.args in
    let p = c.requires.sizes in
    let m = room-known (goal.at.returns c).Start in
    let with = c.prepare_with in
    readied_longer a.settings (a.state.frames + 1) (boxes_with a.boxes.now a.box_labels.now) (predicted_in a.floats.now a.counters.now a.state.count) (take a.state.count a.labels.now)
    a.state.count a.seen _ _ _ _
    (with.auto.corners ∙ length-take-le (boxes_in a.boxes.now * 4) a.corners.now (omega (arith, p.few-boxes, m.corners_fit)))
    (with.auto.scores ∙ length-take-le (boxes_in a.boxes.now) a.scores.now (omega (arith, p.few-boxes, m.scores_fit)))
    (with.auto.trks ∙ length-take-le (a.state.count * 4) a.trks.now (omega (arith, p.placed, m.trks_fit)))
    (with.auto.confs ∙ length-take-le a.state.count a.confs.now (omega (arith, p.placed, m.confs_fit))) with.ensures
