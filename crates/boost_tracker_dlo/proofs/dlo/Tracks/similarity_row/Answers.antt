-- The answers of `dlo::Tracks::similarity_row`: it meets its contract: the row of the IoU, or a third of the three rows. Assumes nothing.
use Rattle.std.proofs.Common.{length, refl, sym, ◌∙◌}
use Rattle.boost_tracker_dlo.proofs.DloLaws.{off, on, plain_row, rich_row-is}
use Rattle.boost_tracker_dlo.proofs.RowLaws.{one_confident}
use Rattle.boost_tracker_boosts.specs.Rows.{OneBox}
use Rattle.boost_tracker_boosts.proofs.OneRow.{one-accepted, row-filled}
use Rattle.assoc_similarity.specs.Overlap.{iou_batch, soft_biou_batch}
use Rattle.boost_tracker_dlo.proofs.dlo.Tracks.similarity_row.Goals as goal

pub returns-then-not-q : goal.returns-then-not-q
returns-then-not-q c =
    let w = c.args in
    let t = w.self in
    let one : OneBox (length w.det.now) (length t.corners.now) (length w.row.now) = rw c.requires.1.1.1 (record { four = c.requires.0; trks_fit = t.corners_fit; few = t.few }) in
    row-filled (iou_batch w.det.now t.corners.now) _ w.row.now (c.iou_batch.ensures.answer ∙ one-accepted one) c.iou_batch.ensures.cells refl
    ∙ plain_row w.q w.det.now t.corners.now t.confs.now _ _ (off _ c.if-not-q.true)

pub returns : goal.returns
returns c =
    let w = c.args in
    let t = w.self in
    let one : OneBox (length w.det.now) (length t.corners.now) (length w.row.now) = rw c.requires.1.1.1 (record { four = c.requires.0; trks_fit = t.corners_fit; few = t.few }) in
    let beside = c.requires.1.1.0 ∙ sym c.requires.1.1.1 in
    rich_row-is w.q w.det.now t.corners.now t.confs.now _ _ _ _ (on _ c.if-not-q.false)
    (row-filled (soft_biou_batch w.det.now t.corners.now t.confs.now) _ w.sbiou.now
    (c.soft_biou_batch.ensures.answer ∙ one_confident one (t.confs_fit ∙ sym c.requires.1.1.1) beside) c.soft_biou_batch.ensures.cells beside)
    c.shape_row.ensures
    c.rich_row.ensures
