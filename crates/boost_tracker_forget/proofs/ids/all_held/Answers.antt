-- `ids::all_held` meets its contract. The loop's invariant: the ids from there on decide. Assumes nothing.
use mathlib.Core.Path.{sym, ◌∙◌}
use mathlib.Core.Bool.{Bool}
use Prim.Native.Nat.{ℕ}
use Rattle.laws.specs.Deciding.{decided, undecided, exhausted}
use Rattle.laws.specs.Every.{every}
use Rattle.boost_tracker_forget.proofs.ForgetLaws.{every_not, every-behind, every-none}
use Rattle.boost_tracker_forget.proofs.ids.all_held.Invariants.{is_held}
use Rattle.boost_tracker_forget.proofs.ids.all_held.Goals as goal

pub returns-then-not-id_held : goal.returns-then-not-id_held
returns-then-not-id_held c =
    let at = c.loop-id in
    let a = c.args in
    let q : ℕ → Bool = is_held a.floats.now a.counters.now a.held in
    decided (every q) a.ids.now 0 at.id-index at.invariant c.loop-id-test.true (every_not q _ _ (sym c.id_held.ensures ∙ c.if-not-id_held.true))

pub loop-id-preserved : goal.loop-id-preserved
loop-id-preserved c =
    let at = c.loop-id in
    let a = c.args in
    let q : ℕ → Bool = is_held a.floats.now a.counters.now a.held in
    undecided (every q) a.ids.now 0 at.id-index at.invariant c.loop-id-test.true (every-behind q _ _ (sym c.id_held.ensures ∙ c.if-not-id_held.false))

pub returns : goal.returns
returns c =
    let at = c.loop-id in
    let a = c.args in
    let q : ℕ → Bool = is_held a.floats.now a.counters.now a.held in
    exhausted (every q) a.ids.now 0 at.id-index at.invariant c.loop-id-test.false (every-none q)
