-- `carr_turn` meets its contract. The four steps are the definition's turn, by `turn_law`. Assumes nothing.
use mathlib.Core.Path.{◌∙◌}
use native.Mathlib.Omega.{arith}
use Rattle.lapjv_definition.specs.Private.{carr_take}
use Rattle.lapjv_definition.proofs.CarrLaws.{turn_j1, turn_j, turn_law}
use Rattle.lapjv_reduction.proofs.carr.carr_turn.Goals as goal
use Rattle.lapjv_reduction.proofs.carr.carr_turn.Goals.{then-p, else-p}

pub offset_bounds-y-t : goal.offset_bounds-y-t
offset_bounds-y-t c = omega (arith, turn_j1 _ _ _ _ _ c.carr_two-t.ensures c.args.costs.square.some)

pub bounds-y-t : goal.bounds-y-t
bounds-y-t c =
    omega (arith, turn_j1 _ _ _ _ _ c.carr_two-t.ensures c.args.costs.square.some)

pub offset_bounds-v-t : goal.offset_bounds-v-t
offset_bounds-v-t c =
    omega (arith, turn_j1 _ _ _ _ _ c.carr_two-t.ensures c.args.costs.square.some)

pub bounds-v-t : goal.bounds-v-t
bounds-v-t c =
    omega (arith, turn_j1 _ _ _ _ _ c.carr_two-t.ensures c.args.costs.square.some)

pub offset_bounds-v-p : goal.offset_bounds-v-p
offset_bounds-v-p c =
    omega (arith, turn_j c.args.costs.side _ _ _ _ _ _ c.carr_pick-p.ensures (turn_j1 _ _ _ _ _ c.carr_two-t.ensures c.args.costs.square.some), c.requires.7, c.args.costs.square.small)

pub bounds-v-p : goal.bounds-v-p
bounds-v-p c =
    omega (arith, turn_j c.args.costs.side _ _ _ _ _ _ c.carr_pick-p.ensures (turn_j1 _ _ _ _ _ c.carr_two-t.ensures c.args.costs.square.some), c.requires.7)

pub carr_take-requires : goal.carr_take-requires
carr_take-requires c =
    (c.requires.3, turn_j c.args.costs.side _ _ _ _ _ _ c.carr_pick-p.ensures (turn_j1 _ _ _ _ _ c.carr_two-t.ensures c.args.costs.square.some), c.requires.0, c.requires.1, c.requires.2, c.requires.4, c.requires.5, c.requires.6)

pub returns : goal.returns
unfolding carr_take
returns c =
    c.carr_take.ensures _ ∙ turn_law _ _ _ _ _ _ c.carr_two-t.ensures c.carr_pick-p.ensures
    (elim c.if-p.branch [ then-p w ↦ rw (w.if-p.true, w.v-is) | else-p w ↦ rw (w.if-p.false, w.v-is) ])
