-- `batch::shape_similarity_v1` meets its contract: its exponent is the definition's. Assumes nothing.
use Rattle.std.proofs.Common.{rules}
use Rattle.assoc_boxes.specs.Shape.{exponent_v1, shape_v1}
use Rattle.assoc_similarity.proofs.batch.shape_similarity_v1.Goals as goal

pub returns-clause-cells : goal.returns-clause-cells
unfolding shape_v1
returns-clause-cells c = c.shapes.ensures.cells exponent_v1 (λ det trk r q. search rules)
