-- `association::overlaps` meets its contract: iou_batch refuses nothing of what it is lent, and the cells of boxes and tracks that are not alike are marked over what it stores. Assumes nothing.
use mathlib.Core.Path.{refl, ◌∙◌}
use Rattle.labels.specs.Label.{same_label, alike}
use Rattle.assoc_similarity.specs.Overlap.{iou_batch}
use Rattle.assoc.proofs.AssociationLaws.{corners-accepted, not_refused, stored, unlike_marked}
use Rattle.assoc.proofs.association.overlaps.Goals as goal

pub returns-in_err-iou_batch : goal.returns-in_err-iou_batch
returns-in_err-iou_batch c =
    let fits = c.requires.2 in
    absurd (not_refused (c.iou_batch.ensures.answer ∙ corners-accepted c.requires.0 c.requires.1 fits.detections_fit fits.corners_fit fits.room) c.in_err-iou_batch.was)

pub returns : goal.returns
returns c =
    let a = c.args in
    let accepted = c.in_ok-iou_batch.was in
    let cell = iou_batch a.scene.detections.now a.scene.corners.now in record {
      answer = refl;
      cells = unlike_marked (alike same_label a.scene.box_labels.now a.scene.track_labels.now) cell a.scene.boxes a.scene.tracks a.cells.now
          (stored cell a.scene.boxes a.scene.tracks a.cells.now accepted c.iou_batch.ensures.cells) c.set_unlike_cells.ensures;
    }
