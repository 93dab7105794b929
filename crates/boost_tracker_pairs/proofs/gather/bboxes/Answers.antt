-- `gather::bboxes` meets its contract. The loop's invariant: the corners of the first i objects are stored, and the next start at `at`. Assumes nothing.
use mathlib.Core.Path.{◌∙◌, ap, refl, sym}
use native.Mathlib.Nat.{le_of_eq}
use Rattle.std.proofs.Common.{zero-mul}
use native.Mathlib.Omega.{arith}
use Rattle.laws.specs.Grid.{row-part, row_room, row_next, rows_end, rows_on, rows_start}
use Rattle.boost_tracker_definition.specs.Update.{corners_of}
use Rattle.boost_tracker_pairs.proofs.GatherLaws.{bboxes_are}
use Rattle.boost_tracker_pairs.proofs.gather.bboxes.Goals as goal

pub loop-i-preserved : goal.loop-i-preserved
loop-i-preserved c = rw (row_next c.loop-i.i 4) (rows_on c.loop-i.invariant c.loop-i-test.true (λ k. refl) (c.put_four.ensures ∙ c.of_corners.ensures ∙ ap corners_of c.xyxy_of.ensures))

pub returns : goal.returns
returns c = let a = c.args in rows_end c.loop-i.invariant c.loop-i-test.false ∙ bboxes_are a.objects.now a.corners.now c.requires

pub loop-i-init : goal.loop-i-init
loop-i-init c = rw (zero-mul 4) (rows_start (le_of_eq (sym c.requires)))

pub slice_bounds-put_four-count : goal.slice_bounds-put_four-count
slice_bounds-put_four-count c = omega (arith, row_room c.loop-i.invariant c.loop-i-test.true)

pub slice_bounds-put_four-start : goal.slice_bounds-put_four-start
slice_bounds-put_four-start c = omega (arith, row_room c.loop-i.invariant c.loop-i-test.true)

pub slice_bounds-put_four-end : goal.slice_bounds-put_four-end
slice_bounds-put_four-end c = omega (arith, row_room c.loop-i.invariant c.loop-i-test.true)

pub xyxy_of-requires : goal.xyxy_of-requires
xyxy_of-requires c = omega (arith, c.loop-i-test.true)

pub put_four-requires : goal.put_four-requires
put_four-requires c = row-part c.loop-i.invariant c.loop-i-test.true
