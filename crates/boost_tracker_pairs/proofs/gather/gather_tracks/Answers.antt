-- `gather::gather_tracks` meets its contract. The loop's invariant: what is read of the first j tracks is stored, and the next rows start at `at`. Assumes nothing.
use native.Mathlib.Omega.{arith}
use Rattle.std.proofs.Common.{zero-mul}
use Rattle.laws.specs.Grid.{row-part, row_room, row_next}
use Rattle.boost_tracker_pairs.proofs.GatherLaws.{predicted-many, gather_start, gather_on, gather_end}
use Rattle.boost_tracker_pairs.proofs.gather.gather_tracks.Goals as goal

pub loop-j-init : goal.loop-j-init
loop-j-init c = rw (zero-mul 4) (gather_start _ _ _ c.requires.sizes.0 c.requires.sizes.1)

pub predicted-t-requires : goal.predicted-t-requires
predicted-t-requires c = (c.loop-j-test.true, c.requires.room)

pub overflow_add-at : goal.overflow_add-at
overflow_add-at c = omega (arith, row_room c.loop-j.invariant.trks-rows c.loop-j-test.true)

pub offset_bounds-trks-at : goal.offset_bounds-trks-at
offset_bounds-trks-at c = omega (arith, row_room c.loop-j.invariant.trks-rows c.loop-j-test.true)

pub slice_bounds-put_track-count : goal.slice_bounds-put_track-count
slice_bounds-put_track-count c = omega (arith, row_room c.loop-j.invariant.trks-rows c.loop-j-test.true)

pub slice_bounds-put_track-start : goal.slice_bounds-put_track-start
slice_bounds-put_track-start c = omega (arith, row_room c.loop-j.invariant.trks-rows c.loop-j-test.true)

pub slice_bounds-put_track-end : goal.slice_bounds-put_track-end
slice_bounds-put_track-end c = omega (arith, row_room c.loop-j.invariant.trks-rows c.loop-j-test.true)

pub overflow_add-at-in-loop-j : goal.overflow_add-at-in-loop-j
overflow_add-at-in-loop-j c = omega (arith, row_room c.loop-j.invariant.x-rows c.loop-j-test.true)

pub offset_bounds-x-at : goal.offset_bounds-x-at
offset_bounds-x-at c = omega (arith, row_room c.loop-j.invariant.x-rows c.loop-j-test.true)

pub slice_bounds-put_track-count-in-loop-j : goal.slice_bounds-put_track-count-in-loop-j
slice_bounds-put_track-count-in-loop-j c = omega (arith, row_room c.loop-j.invariant.x-rows c.loop-j-test.true)

pub slice_bounds-put_track-start-in-loop-j : goal.slice_bounds-put_track-start-in-loop-j
slice_bounds-put_track-start-in-loop-j c = omega (arith, row_room c.loop-j.invariant.x-rows c.loop-j-test.true)

pub slice_bounds-put_track-end-in-loop-j : goal.slice_bounds-put_track-end-in-loop-j
slice_bounds-put_track-end-in-loop-j c = omega (arith, row_room c.loop-j.invariant.x-rows c.loop-j-test.true)

pub overflow_add-at-in-loop-j-2 : goal.overflow_add-at-in-loop-j-2
overflow_add-at-in-loop-j-2 c = omega (arith, row_room c.loop-j.invariant.sigma-rows c.loop-j-test.true)

pub offset_bounds-sigma-at : goal.offset_bounds-sigma-at
offset_bounds-sigma-at c = omega (arith, row_room c.loop-j.invariant.sigma-rows c.loop-j-test.true)

pub slice_bounds-put_track-count-in-loop-j-2 : goal.slice_bounds-put_track-count-in-loop-j-2
slice_bounds-put_track-count-in-loop-j-2 c = omega (arith, row_room c.loop-j.invariant.sigma-rows c.loop-j-test.true)

pub slice_bounds-put_track-start-in-loop-j-2 : goal.slice_bounds-put_track-start-in-loop-j-2
slice_bounds-put_track-start-in-loop-j-2 c = omega (arith, row_room c.loop-j.invariant.sigma-rows c.loop-j-test.true)

pub slice_bounds-put_track-end-in-loop-j-2 : goal.slice_bounds-put_track-end-in-loop-j-2
slice_bounds-put_track-end-in-loop-j-2 c = omega (arith, row_room c.loop-j.invariant.sigma-rows c.loop-j-test.true)

pub put_track-requires : goal.put_track-requires
put_track-requires c =
    let w = c.loop-j.invariant in
    let h = c.loop-j-test.true in
    record { rows = (row-part w.trks-rows h, row-part w.x-rows h, row-part w.sigma-rows h); entry = omega (arith, h, w.confs-filled.same, c.requires.sizes.0.1) }

pub loop-j-preserved : goal.loop-j-preserved
loop-j-preserved c =
    let e = c.put_track.ensures in
    rw (row_next c.loop-j.j 4) (gather_on _ _ _ c.requires.sizes.0 c.requires.sizes.1 c.loop-j.invariant c.loop-j-test.true c.predicted-t.ensures e.trk e.state e.variances e.conf)

pub returns : goal.returns
returns c =
    let a = c.args in
    gather_end _ _ _ c.requires.sizes.0 c.requires.sizes.1 c.loop-j.invariant c.loop-j-test.false (predicted-many a.floats.now a.counters.now a.held c.requires.room)
