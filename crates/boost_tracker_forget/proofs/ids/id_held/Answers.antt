-- `ids::id_held` meets its contract. The loop's invariant: the ids of the tracks from i on decide. Assumes nothing.
use mathlib.Core.Path.{◌∙◌}
use mathlib.Core.List.{List}
use Prim.Native.Nat.{ℕ, ◌≤◌, ◌<◌}
use lib.ListN.{length}
use Rattle.laws.specs.Deciding.{decided, undecided, exhausted}
use Rattle.laws.specs.Elem.{elem, elem-here, elem-behind, elem-none}
use Rattle.boost_tracker_table.specs.Table.{tracks, ids_of}
use Rattle.boost_tracker_forget.proofs.ForgetLaws.{held-many, held_at}
use Rattle.boost_tracker_forget.proofs.ids.id_held.Goals as goal

pub returns-then-id-load : goal.returns-then-id-load
returns-then-id-load c =
    let at = c.loop-i in
    let a = c.args in
    let ids : List ℕ = ids_of (tracks a.floats.now a.counters.now a.held) in
    let low : at.i < length ids = rw (held-many a.floats.now a.counters.now a.held c.placed-n.ensures) c.loop-i-test.true in
    decided (elem a.id) ids 0 at.i at.invariant low (elem-here a.id _ _ (c.if-id-load.true ∙ held_at _ _ _ at.i c.load.ensures))

pub loop-i-preserved : goal.loop-i-preserved
loop-i-preserved c =
    let at = c.loop-i in
    let a = c.args in
    let ids : List ℕ = ids_of (tracks a.floats.now a.counters.now a.held) in
    let low : at.i < length ids = rw (held-many a.floats.now a.counters.now a.held c.placed-n.ensures) c.loop-i-test.true in
    let is = held_at _ _ _ at.i c.load.ensures in
    undecided (elem a.id) ids 0 at.i at.invariant low (elem-behind a.id _ _ (λ e. c.if-id-load.false (rw is e)))

pub returns : goal.returns
returns c =
    let at = c.loop-i in
    let a = c.args in
    let ids : List ℕ = ids_of (tracks a.floats.now a.counters.now a.held) in
    let all : length ids ≤ at.i = rw (held-many a.floats.now a.counters.now a.held c.placed-n.ensures) c.loop-i-test.false in
    exhausted (elem a.id) ids 0 at.i at.invariant all (elem-none a.id)
