-- `ca_dense` meets its contract. The invariant: each row is once some column's or once free, and the passes left give the whole. The bound on the scans keeps their sum small. Assumes nothing.
use mathlib.Core.Path.{◌∙◌}
use native.Mathlib.Omega.{arith}
use Rattle.lapjv_definition.proofs.CaEnds.{ca_few, ca_scans, ca_holed, ca_again, ca_done}
use Rattle.lapjv_augmentation.proofs.ca.ca_dense.Goals as goal

pub overflow_add-scans : goal.overflow_add-scans
overflow_add-scans c =
    let q = c.requires in
    omega (arith, ca_few c.loop-row_n.invariant q.1 c.loop-row_n-test.true c.args.costs.square.small, ca_scans c.loop-row_n.invariant q.1 c.loop-row_n-test.true c.find_path_dense-p.ensures, c.args.costs.square.small)

pub augment-requires : goal.augment-requires
augment-requires c =
    let q = c.requires in
    let i = c.loop-row_n.invariant in
    (c.find_path_dense-p.auto.pred ∙ i.len_pred, i.ok.len_x, i.ok.len_y, ca_holed c.loop-row_n.invariant q.1 c.loop-row_n-test.true c.find_path_dense-p.ensures)

pub loop-row_n-preserved : goal.loop-row_n-preserved
loop-row_n-preserved c =
    let q = c.requires in
    let k = c.find_path_dense-p.auto in
    ca_again c.loop-row_n.invariant q.1 c.loop-row_n-test.true c.find_path_dense-p.ensures c.augment.ensures _ _ k.v k.pred k.d k.cols

pub returns : goal.returns
returns c = ca_done c.loop-row_n.invariant c.loop-row_n-test.false
