-- `reduce` meets its contract. The three stages hand on what Pairs proves of the definition's. Assumes nothing.
use native.Mathlib.Omega.{arith}
use Rattle.lapjv_definition.proofs.Pairs.{reduce_first, reduce_few, reduce_second, reduce_few₂, reduce_small, reduce_result}
use Rattle.lapjv_reduction.proofs.reduce.Goals as goal

pub carr_dence-a-requires : goal.carr_dence-a-requires
carr_dence-a-requires c =
    let a = c.args in
    let q = c.requires in
    let o = reduce_first a.costs.side c.args.costs.square.some a.costs.cells.now a.free_rows.now q.0 c.ccrt_dense-ret.ensures in
    (omega (arith, reduce_few a.costs.side c.args.costs.square.some a.costs.cells.now a.free_rows.now q.0 c.ccrt_dense-ret.ensures), o.below, o.len_free, o.len_x, o.len_y, o.len_v)

pub carr_dence-b-requires : goal.carr_dence-b-requires
carr_dence-b-requires c =
    let a = c.args in
    let q = c.requires in
    let o = reduce_second a.costs.side c.args.costs.square.some a.costs.cells.now a.free_rows.now q.0 c.ccrt_dense-ret.ensures c.carr_dence-a.ensures in
    (reduce_few₂ a.costs.side c.args.costs.square.some a.costs.cells.now a.free_rows.now q.0 c.ccrt_dense-ret.ensures c.carr_dence-a.ensures, o.below, o.len_free, o.len_x, o.len_y, o.len_v)

pub overflow_add-result : goal.overflow_add-result
overflow_add-result c =
    let a = c.args in
    let q = c.requires in
    omega (arith, reduce_small a.costs.side c.args.costs.square.some a.costs.cells.now a.free_rows.now q.0 c.ccrt_dense-ret.ensures c.carr_dence-a.ensures c.carr_dence-b.ensures c.args.costs.square.small)

pub returns : goal.returns
returns c =
    let a = c.args in
    let q = c.requires in
    reduce_result a.costs.side c.args.costs.square.some a.costs.cells.now a.free_rows.now q.0 c.ccrt_dense-ret.ensures c.carr_dence-a.ensures c.carr_dence-b.ensures
