-- `corrections::follow` meets its contract: where counts, places and ids fit and every index is of a box, the matched tracks are corrected, then tracks are started behind them with their boxes' labels. Assumes nothing.
use mathlib.Core.Path.{◌∙◌, sym}
use mathlib.Core.List.{List}
use Prim.Native.Nat.{ℕ}
use native.Mathlib.Omega.{arith}
use lib.ListN.{length, take}
use lib.Seq.{length-take-le}
use Rattle.boost_tracker_table.specs.Table.{places_in}
use Rattle.boost_tracker_follow.specs.Corrections.{Listed}
use Rattle.boost_tracker_follow.proofs.FitLaws.{FollowRoom, inside-listed}
use Rattle.boost_tracker_follow.proofs.FollowLaws.{not_fitting, room_of, follows, not_listed, both_inside, listed}
use Rattle.boost_tracker_follow.proofs.corrections.follow.Goals as goal
use Rattle.boost_tracker_follow.proofs.corrections.follow.Goals.{Else-not-fits, Else-not-known}

-- the fronts of the lists, as long as the counts say
abbrev pair-boxes : Else-not-fits → List ℕ
pair-boxes e = take e.args.counts.pairs e.args.pair_boxes.now

abbrev pair-tracks : Else-not-fits → List ℕ
pair-tracks e = take e.args.counts.pairs e.args.pair_tracks.now

abbrev unmatched : Else-not-fits → List ℕ
unmatched e = take e.args.counts.detections e.args.unmatched.now

-- the first test has told that counts, places and ids fit
fit : (e : Else-not-fits)
    → FollowRoom e.args.held (places_in (length e.args.floats.now) (length e.args.counters.now) (length e.args.labels.now)) e.args.last e.args.counts
    (length e.args.pair_boxes.now) (length e.args.pair_tracks.now) (length e.args.unmatched.now)
fit e =
    let a = e.args in
    room_of a.held a.last a.corners.now a.box_labels.now a.counts a.pair_boxes.now a.pair_tracks.now a.unmatched.now a.floats.now a.counters.now a.labels.now
    e.places_in-places.ensures e.fits.ensures e.if-not-fits.false

-- the second has told that every index is of a box
all_listed : (c : Else-not-known) → Listed (take c.args.counts.pairs c.args.pair_boxes.now) (length c.args.corners.now) × Listed (take c.args.counts.detections c.args.unmatched.now) (length c.args.corners.now)
all_listed c =
    let a = c.args in
    let known = both_inside a.held a.last a.corners.now a.box_labels.now a.counts (take c.args.counts.pairs c.args.pair_boxes.now) (take c.args.counts.pairs c.args.pair_tracks.now) (take c.args.counts.detections c.args.unmatched.now) a.floats.now a.counters.now a.labels.now
    c.all_inside.ensures c.all_inside-2.ensures c.if-not-known.false in
    (inside-listed (take c.args.counts.pairs c.args.pair_boxes.now) (length a.corners.now) known.0, inside-listed (take c.args.counts.detections c.args.unmatched.now) (length a.corners.now) known.1)

pub returns-then-not-fits : goal.returns-then-not-fits
returns-then-not-fits c =
    let a = c.args in
    not_fitting a.held a.last a.corners.now a.box_labels.now a.counts a.pair_boxes.now a.pair_tracks.now a.unmatched.now a.floats.now a.counters.now a.labels.now
    c.places_in-places.ensures c.fits.ensures c.if-not-fits.true

pub returns-then-not-known : goal.returns-then-not-known
returns-then-not-known c =
    let a = c.args in
    follows a.held a.last a.corners.now a.box_labels.now a.counts a.pair_boxes.now a.pair_tracks.now a.unmatched.now a.floats.now a.counters.now a.labels.now
    c.places_in-places.ensures c.fits.ensures c.if-not-fits.false
    (not_listed a.held a.last a.corners.now a.box_labels.now a.counts (pair-boxes (goal.at.returns-then-not-known c).Else-not-fits) (pair-tracks (goal.at.returns-then-not-known c).Else-not-fits) (unmatched (goal.at.returns-then-not-known c).Else-not-fits) a.floats.now a.counters.now a.labels.now
    c.all_inside.ensures c.all_inside-2.ensures c.if-not-known.true)

pub correct_matched-requires : goal.correct_matched-requires
correct_matched-requires c =
    let w = fit (goal.at.correct_matched-requires c).Else-not-fits in
    record { sizes = (omega (arith, w.room), length-take-le _ _ w.pairs-in-tracks ∙ sym (length-take-le _ _ w.pairs-in-boxes)); within = (all_listed (goal.at.correct_matched-requires c).Else-not-known).0 }

pub start_unmatched-requires : goal.start_unmatched-requires
start_unmatched-requires c =
    let w = fit (goal.at.start_unmatched-requires c).Else-not-fits in
    let kept = c.correct_matched.auto in
    record { sizes = rw (kept.floats, kept.counters, length-take-le _ _ w.started-in) (omega (arith, w.room), w.ids_fit); within = (all_listed (goal.at.start_unmatched-requires c).Else-not-known).1 }

pub start_labels-requires : goal.start_labels-requires
start_labels-requires c =
    let w = fit (goal.at.start_labels-requires c).Else-not-fits in
    rw (length-take-le _ _ w.started-in) (omega (arith, w.room))

pub returns : goal.returns
returns c =
    let a = c.args in
    follows a.held a.last a.corners.now a.box_labels.now a.counts a.pair_boxes.now a.pair_tracks.now a.unmatched.now a.floats.now a.counters.now a.labels.now
    c.places_in-places.ensures c.fits.ensures c.if-not-fits.false
    (listed a.held a.last a.corners.now a.box_labels.now a.counts (pair-boxes (goal.at.returns c).Else-not-fits) (pair-tracks (goal.at.returns c).Else-not-fits) (unmatched (goal.at.returns c).Else-not-fits) a.floats.now a.counters.now a.labels.now
    c.all_inside.ensures c.all_inside-2.ensures c.if-not-known.false
    (omega (arith, (fit (goal.at.returns c).Else-not-fits).room)) c.correct_matched.ensures c.start_unmatched.ensures c.start_labels.ensures)

pub slice_bounds-all_inside-end : goal.slice_bounds-all_inside-end
slice_bounds-all_inside-end c = sym (length-take-le _ _ (fit (goal.at.slice_bounds-all_inside-end c).Else-not-fits).pairs-in-boxes)

pub slice_bounds-all_inside-end-2 : goal.slice_bounds-all_inside-end-2
slice_bounds-all_inside-end-2 c = sym (length-take-le _ _ (fit (goal.at.slice_bounds-all_inside-end-2 c).Else-not-fits).started-in)

pub slice_bounds-correct_matched-end : goal.slice_bounds-correct_matched-end
slice_bounds-correct_matched-end c = sym (length-take-le _ _ (fit (goal.at.slice_bounds-correct_matched-end c).Else-not-fits).pairs-in-boxes)

pub slice_bounds-correct_matched-end-2 : goal.slice_bounds-correct_matched-end-2
slice_bounds-correct_matched-end-2 c = sym (length-take-le _ _ (fit (goal.at.slice_bounds-correct_matched-end-2 c).Else-not-fits).pairs-in-tracks)

pub slice_bounds-start_unmatched-end : goal.slice_bounds-start_unmatched-end
slice_bounds-start_unmatched-end c = sym (length-take-le _ _ (fit (goal.at.slice_bounds-start_unmatched-end c).Else-not-fits).started-in)

pub slice_bounds-start_labels-end : goal.slice_bounds-start_labels-end
slice_bounds-start_labels-end c = sym (length-take-le _ _ (fit (goal.at.slice_bounds-start_labels-end c).Else-not-fits).started-in)
