-- `association::costs` meets its contract: the costs of boxes and tracks that are not alike are set over what is stored. Assumes nothing.
use lib.Ieee.{nan}
use Rattle.laws.specs.Grid.{cell_at}
use Rattle.labels.specs.Label.{same_label, alike}
use Rattle.floats.specs.Single.{plus_zero}
use Rattle.assoc_cost.specs.Cost.{cost_matrix}
use Rattle.assoc.proofs.AssociationLaws.{unlike_set_lem}
use Rattle.assoc.proofs.association.costs.Goals as goal

pub returns : goal.returns
returns c =
    let a = c.args in
    unlike_set_lem (alike same_label a.scene.box_labels.now a.scene.track_labels.now)
    (cost_matrix a.params a.scene.detections.now a.scene.corners.now a.scene.track_confidence.now a.scene.detection_confidence.now (cell_at nan a.scene.tracks a.cells.now)) plus_zero a.scene.boxes a.scene.tracks a.cells.now
    c.associate_cost.ensures c.set_unlike_cells.ensures
