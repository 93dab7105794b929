-- `solve` meets its contract. The second half begins with what Pairs proves of the definition's first. Assumes nothing.
use Rattle.lapjv_definition.proofs.HalvesLaws.{reduction-zeros}
use Rattle.lapjv_definition.proofs.Pairs.{assign_begun, assign_result}
use Rattle.lapjv_augmentation.proofs.solve.Goals as goal

pub ca_dense-scans-requires : goal.ca_dense-scans-requires
ca_dense-scans-requires c =
    let q = c.requires in
    let w = assign_begun c.args.costs.side c.args.costs.square.some c.args.costs.cells.now (reduction-zeros c.args.x.now c.args.y.now c.args.v.now c.args.costs.square q.0 q.1 q.2 q.3 c.reduction-b.ensures) in
    (w.few, w.below, w.len_free, w.len_v, q.4, q.5, q.6, w.ok)

pub returns : goal.returns
returns c =
    let q = c.requires in
    assign_result c.args.costs.side c.args.costs.square.some c.args.costs.cells.now (reduction-zeros c.args.x.now c.args.y.now c.args.v.now c.args.costs.square q.0 q.1 q.2 q.3 c.reduction-b.ensures) c.ca_dense-scans.ensures
