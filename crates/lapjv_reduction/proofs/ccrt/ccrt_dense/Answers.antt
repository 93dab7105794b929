-- `ccrt_dense` meets its contract. The four parts are the definition's, one after the other. Assumes nothing.
use mathlib.Core.Path.{ap, ◌∙◌}
use lib.ListN.{length, length-replicate}
use Rattle.lapjv_definition.proofs.CcrtEnds.{ccrt_below}
use Rattle.lapjv_reduction.proofs.ccrt.ccrt_dense.Goals as goal

pub ccrt_cols-requires : goal.ccrt_cols-requires
ccrt_cols-requires c =
    let r = c.ccrt_rows in
    let i = c.ccrt_init in
    let a = c.requires in
    (ccrt_below _ _ _ _ _ _ c.args.costs.square.some i.ensures.1 (i.auto.v ∙ a.3) r.ensures, i.auto.x ∙ a.1, r.auto.y ∙ i.auto.y ∙ a.2, ap length a.4 ∙ length-replicate _ _)
