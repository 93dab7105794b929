-- `places::lot_of` meets its contract: each return is a case of the definition by lists. Assumes nothing.
use native.Mathlib.Omega.{arith}
use Rattle.boost_tracker_fate.proofs.PlaceLaws.{place-most}
use Rattle.boost_tracker_fate.proofs.LotCases.{lot-under, lot-paired, lot-alone, lot-refused}
use Rattle.boost_tracker_fate.proofs.places.lot_of.Goals as goal

pub returns-then-not-retained : goal.returns-then-not-retained
returns-then-not-retained c = lot-under c.args.retained c.args.d c.args.rejected c.args.pair_boxes.now c.args.pair_tracks.now c.args.unmatched.now c.args.left.now c.if-not-retained.true

pub returns-then-pair-pair_boxes : goal.returns-then-pair-pair_boxes
returns-then-pair-pair_boxes c = lot-paired c.args.retained c.args.d c.args.rejected c.args.pair_boxes.now c.args.pair_tracks.now c.args.unmatched.now c.args.left.now c.if-not-retained.false c.place_in-pair.ensures c.if-pair-pair_boxes.true c.number_at.ensures

pub returns-then-place-alone : goal.returns-then-place-alone
returns-then-place-alone c = lot-alone c.args.retained c.args.d c.args.rejected c.args.pair_boxes.now c.args.pair_tracks.now c.args.unmatched.now c.args.left.now c.if-not-retained.false c.place_in-pair.ensures c.if-pair-pair_boxes.false c.place_in-place.ensures c.saturating_sub-alone.ensures c.if-place-alone.true

pub overflow_add-at : goal.overflow_add-at
overflow_add-at c =
    let a = c.args in
    omega (arith, c.saturating_sub.ensures, c.saturating_sub-alone.ensures, c.place_in-place.ensures, place-most a.d a.unmatched.now, c.ranges)

pub returns : goal.returns
returns c = lot-refused c.args.retained c.args.d c.args.rejected c.args.pair_boxes.now c.args.pair_tracks.now c.args.unmatched.now c.args.left.now
    c.if-not-retained.false c.place_in-pair.ensures c.if-pair-pair_boxes.false c.place_in-place.ensures c.saturating_sub-alone.ensures c.if-place-alone.false c.saturating_sub.ensures c.number_at-2.ensures
