-- `search_step` meets its contract. One pass of the search: what find_dense, last_free and scan_dense leave, put together by the laws of SearchEnds.
-- Assumes nothing.
use mathlib.Core.Path.{refl, sym, ◌∙◌}
use native.Mathlib.Omega.{arith}
use Rattle.lapjv_definition.proofs.EntryLaws.{owner_free, found_in, found_none}
use Rattle.lapjv_definition.proofs.FoundLaws.{searched_at}
use Rattle.lapjv_definition.proofs.SearchEnds.{lo-in, find-done, find-high, find-top, find-held, find-same, scan-few, pass_found, pass_hit, pass_none}
use Rattle.lapjv_augmentation.proofs.path.search_step.Goals as goal

pub find_dense-hi-requires : goal.find_dense-hi-requires
find_dense-hi-requires c =
    let q = c.requires in
    let o = q.5.ok in
    (lo-in o q.1 q.6, q.0, o.len_cols, λ k hk. o.below k (omega (arith, o.len_cols)))

pub last_free-free-requires : goal.last_free-free-requires
last_free-free-requires c =
    let d = c.args.d.now in
    let q = c.requires in
    let f = c.find_dense-hi.ensures in
    let w = find-done q.5.ok q.1 q.6 d f in
    (omega (arith, find-high q.5.ok q.1 q.6 d f), find-top q.5.ok q.1 q.6 d f, (λ k hk. w.below k (omega (arith, w.len_cols))), w.len_cols, q.1)

pub returns-then-is_some : goal.returns-then-is_some
returns-then-is_some c =
    let f = c.find_dense-hi.ensures in
    λ g. searched_at c.last_free-free.ensures (pass_found _ _ _ _ _ c.requires.3 f.0 f.1 refl (found_in c.last_free-free.ensures (sym c.is_some.ensures ∙ c.if-is_some.true)))

pub scan_dense-a-requires : goal.scan_dense-a-requires
scan_dense-a-requires c =
    let q = c.requires in (
      q.0,
      q.1,
      q.2,
      record {
        start = q.5.start;
        ok = find-held q.5.ok q.1 q.6 c.args.d.now c.find_dense-hi.ensures refl (found_none c.last_free-free.ensures (sym c.is_some.ensures ∙ c.if-is_some.false));
      },
    )

pub overflow_add-scans : goal.overflow_add-scans
overflow_add-scans c =
    let a = c.args in
    let q = c.requires in
    omega (
      arith,
      scan-few q.5.ok q.1 q.6 a.d.now c.find_dense-hi.ensures refl a.costs.cells.now a.v.now (found_none c.last_free-free.ensures (sym c.is_some.ensures ∙ c.if-is_some.false)) c.scan_dense-a.ensures.left,
      q.5.ok.top,
      q.4,
      c.args.costs.square.small,
    )

pub returns-then-is_some-2 : goal.returns-then-is_some-2
returns-then-is_some-2 c =
    let q = c.requires in
    let f = c.find_dense-hi.ensures in
    let none = found_none c.last_free-free.ensures (sym c.is_some.ensures ∙ c.if-is_some.false) in
    let a = c.scan_dense-a.ensures in
    λ g. searched_at a.column (pass_hit _ _ _ _ _ q.3 f.0 f.1 refl none (find-same q.5.ok q.1 q.6 c.args.d.now f refl none) a.left (found_in a.column (sym c.is_some-2.ensures ∙ c.if-is_some-2.true)))

pub returns : goal.returns
returns c =
    let q = c.requires in
    let f = c.find_dense-hi.ensures in
    let none = found_none c.last_free-free.ensures (sym c.is_some.ensures ∙ c.if-is_some.false) in
    let a = c.scan_dense-a.ensures in
    let more = found_none a.column (sym c.is_some-2.ensures ∙ c.if-is_some-2.false) in
    λ g. searched_at (sym (owner_free _ _ more)) (pass_none _ _ _ _ _ q.3 f.0 f.1 refl none (find-same q.5.ok q.1 q.6 c.args.d.now f refl none) a.left more)
