-- `association::matrices` meets its contract: the costs are stored over the front, and the IoU matrix behind them. Assumes nothing.
use mathlib.Core.Path.{sym}
use native.Mathlib.Omega.{arith}
use lib.Seq.{length-take-le}
use Rattle.labels.specs.Label.{same_label, alike}
use Rattle.assoc.proofs.AssociationLaws.{costs-ready, overlaps_ready, halves}
use Rattle.assoc.proofs.association.matrices.Goals as goal

pub costs-requires : goal.costs-requires
costs-requires c = let a = c.args in costs-ready a.scene.boxes a.scene.tracks a.cells.now c.requires

pub overlaps-requires : goal.overlaps-requires
overlaps-requires c =
    overlaps_ready c.args.scene.boxes c.args.scene.tracks c.args.cells.now c.requires c.costs.new.cells c.costs.auto.cells

pub returns : goal.returns
returns c =
    let iou = c.overlaps.ensures in
    let a = c.args in record {
      answer = iou.answer;
      cells = halves (alike same_label a.scene.box_labels.now a.scene.track_labels.now) a.params a.scene.boxes a.scene.tracks a.scene.detections.now a.scene.corners.now a.scene.track_confidence.now a.scene.detection_confidence.now
          a.cells.now c.requires c.costs.ensures iou.cells;
    }

pub slice_bounds-costs-end-2 : goal.slice_bounds-costs-end-2
slice_bounds-costs-end-2 c = sym (length-take-le _ _ (omega (arith, c.requires.room)))
