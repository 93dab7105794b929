-- `turns::hand` meets its contract: the call is the definition's, with as much of the work slices as the frame needs and the text behind what waits. Assumes nothing.
use mathlib.Core.Path.{refl, sym}
use native.Mathlib.Omega.{arith}
use lib.Seq.{length-take-le}
use mathlib.Core.Path.{◌≡◌}
use Prim.Native.Nat.{ℕ, ◌*◌, ◌≤◌}
use Rattle.trackbox_feed.specs.Trackbox.{lent_doubles, lent_singles}
use Rattle.trackbox_io.specs.Turn.{arrays}
use Rattle.trackbox_io.proofs.TurnLaws.{not_handed, handed}
use Rattle.trackbox_io.proofs.turns.hand.Goals as goal

-- as much is lent as there is
doubles-fit : (n size : ℕ) → n ≤ lent_doubles → size ≡ lent_doubles → n ≤ size
doubles-fit n size h e = omega (arith, h, e)

singles-fit : (n size : ℕ) → 4 * n ≤ lent_singles → size ≡ lent_singles → 4 * n ≤ size
singles-fit n size h e = omega (arith, h, e)

pub overflow_mul-cells32 : goal.overflow_mul-cells32
overflow_mul-cells32 c = record { fits = omega (arith, c.needed-cells.ensures.doubles.bound) }

pub item-requires : goal.item-requires
item-requires c = omega (arith, c.requires.stands.got, c.requires.sizes.input)

pub slice_bounds-take-end : goal.slice_bounds-take-end
slice_bounds-take-end c = doubles-fit _ _ c.needed-cells.ensures.doubles.bound c.requires.sizes.doubles

pub slice_bounds-take-end-2 : goal.slice_bounds-take-end-2
slice_bounds-take-end-2 c = sym (length-take-le _ _ (doubles-fit _ _ c.needed-cells.ensures.doubles.bound c.requires.sizes.doubles))

pub slice_bounds-take-end-3 : goal.slice_bounds-take-end-3
slice_bounds-take-end-3 c = singles-fit _ _ c.needed-cells.ensures.singles.bound c.requires.sizes.singles

pub slice_bounds-take-end-4 : goal.slice_bounds-take-end-4
slice_bounds-take-end-4 c = sym (length-take-le _ _ (singles-fit _ _ c.needed-cells.ensures.singles.bound c.requires.sizes.singles))

pub slice_bounds-take-count : goal.slice_bounds-take-count
slice_bounds-take-count c = omega (arith, c.requires.stands.used, c.requires.sizes.text)

pub slice_bounds-take-start : goal.slice_bounds-take-start
slice_bounds-take-start c = omega (arith, c.requires.stands.used, c.requires.sizes.text)

pub returns : goal.returns
returns c =
    let a = c.args in
    let last = c.take-fed.new in
    handed a.p (arrays a.input.now a.text.now a.floats.now a.counters.now a.labels.now a.boxes.now a.box_labels.now a.out.now a.work64.now a.work32.now)
    (arrays a.input.now _ last.floats last.counters last.labels last.boxes last.box_labels last.out _ _)
    last.text last.work64 last.work32 c.needed-cells.result c.item.result c.take-fed.result
    c.if-not-p.false c.needed-cells.ensures c.item.ensures c.take-fed.ensures refl c.answered.ensures

pub returns-then-not-p : goal.returns-then-not-p
returns-then-not-p c = not_handed c.args.p _ c.if-not-p.true
