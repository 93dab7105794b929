-- `find_path_dense` meets its contract. The search begins level and ends with a free column, so that lo, the columns and the prices are within the slices. Assumes nothing.
use mathlib.Core.Path.{refl, sym, ◌∙◌}
use native.Mathlib.Omega.{arith}
use Rattle.lapjv_definition.proofs.EntryLaws.{owner_row, owned}
use Rattle.lapjv_definition.proofs.CaEnds.{path_begin, path_is, path_ok, path_result}
use Rattle.lapjv_augmentation.proofs.path.find_path_dense.Goals as goal

pub search-s-requires : goal.search-s-requires
search-s-requires c =
    let q = c.requires in
    (c.path_init.auto.d ∙ q.4, q.1, q.2, path_begin c.path_init.ensures.1 c.path_init.ensures.2 q.0, q.6)

pub raise-requires : goal.raise-requires
raise-requires c =
    let a = c.args in
    let q = c.requires in
    let w = path_ok a.costs.side a.costs.cells.now a.start_i a.y.now a.v.now q.1 q.6 q.0 c.path_init.ensures c.search-s.ensures.left in
    (w.low, w.few-ready, (λ k hk. w.ok.below k (omega (arith, w.ok.len_cols))), w.ok.len_cols, c.search-s.auto.d ∙ c.path_init.auto.d ∙ q.4, q.2)

pub unwrap-requires : goal.unwrap-requires
unwrap-requires c =
    let a = c.args in
    let q = c.requires in
    let w = path_ok a.costs.side a.costs.cells.now a.start_i a.y.now a.v.now q.1 q.6 q.0 c.path_init.ensures c.search-s.ensures.left in
    rw (c.search-s.ensures.column, owner_row _ _ w.found.col) refl

pub returns : goal.returns
returns c =
    let a = c.args in
    let q = c.requires in
    rw (owned _ _ (sym c.search-s.ensures.column ∙ c.unwrap.ensures)).1
    (path_result a.costs.side a.costs.cells.now a.start_i a.y.now a.v.now (path_is a.costs.side a.costs.cells.now a.start_i a.y.now a.v.now c.path_init.ensures c.search-s.ensures.left) c.raise.ensures)
