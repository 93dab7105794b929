-- `batch::shape_similarity_v2` meets its contract: its exponent is the definition's. Assumes nothing.
use Rattle.std.proofs.Common.{rules}
use Rattle.assoc_boxes.specs.Shape.{exponent_v2, shape_v2}
use Rattle.assoc_similarity.proofs.batch.shape_similarity_v2.Goals as goal

pub returns-clause-cells : goal.returns-clause-cells
unfolding shape_v2
returns-clause-cells c = c.shapes.ensures.cells exponent_v2 (λ det trk r q. search rules)
