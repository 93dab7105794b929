-- `pairing::pairs` meets its contract: the fronts of its lists are associated, or they are too short and nothing changes. Assumes nothing.
use mathlib.Core.Path.{◌≡◌, ◌∙◌, sym}
use mathlib.Core.Bool.{true}
use Prim.Native.Nat.{◌≤◌}
use native.Mathlib.Omega.{arith}
use lib.ListN.{length}
use lib.Seq.{length-take-le}
use Rattle.assoc.specs.Answers.{lent_with}
use Rattle.boost_tracker_pairs.specs.Pairs.{inputs_with}
use Rattle.boost_tracker_pairs.proofs.PairLaws.{Roomy, roomy-fits}
use Rattle.boost_tracker_pairs.proofs.EndLaws.{fits-known, pairs-short, pairs-done}
use Rattle.boost_tracker_pairs.proofs.pairing.pairs.Goals as goal
use Rattle.boost_tracker_pairs.proofs.pairing.pairs.Goals.{Else-not-fits}

-- what is known once the test is passed
known : (c : Else-not-fits) → (c.args.kept ≤ 255) × (c.args.held ≤ 255) × (c.args.held ≤ length c.args.labels.now) × (c.roomy-lists.result ≡ true)
known c = fits-known _ _ _ _ (sym c.fits.ensures ∙ c.if-not-fits.false)

roomy-known : (c : Else-not-fits) → Roomy (length c.args.corners.now) (length c.args.kept_labels.now) (length c.args.scores.now) (length c.args.trks.now) (length c.args.confs.now)
roomy-known c = roomy-fits _ _ _ _ _ (sym c.roomy-lists.ensures ∙ (known c).3)

pub returns-then-not-fits : goal.returns-then-not-fits
returns-then-not-fits c =
    let a = c.args in
    pairs-short a.settings a.kept a.held (inputs_with a.corners.now a.kept_labels.now a.scores.now a.trks.now a.confs.now) a.labels.now
    (lent_with a.pair_boxes.now a.pair_tracks.now a.unmatched.now a.left.now a.work64.now a.work32.now) c.roomy-lists.ensures c.fits.ensures (c.if-not-fits.true)

pub overflow_mul-of_boxes : goal.overflow_mul-of_boxes
overflow_mul-of_boxes c = omega (arith, (known (goal.at.overflow_mul-of_boxes c).Else-not-fits).0)

pub overflow_mul-of_tracks : goal.overflow_mul-of_tracks
overflow_mul-of_tracks c = omega (arith, (known (goal.at.overflow_mul-of_tracks c).Else-not-fits).1)

pub slice_bounds-associate_within-end : goal.slice_bounds-associate_within-end
slice_bounds-associate_within-end c = sym (length-take-le _ _ (omega (arith, (known (goal.at.slice_bounds-associate_within-end c).Else-not-fits).0, (roomy-known (goal.at.slice_bounds-associate_within-end c).Else-not-fits).corners_fit)))

pub slice_bounds-associate_within-end-2 : goal.slice_bounds-associate_within-end-2
slice_bounds-associate_within-end-2 c = sym (length-take-le _ _ (omega (arith, (known (goal.at.slice_bounds-associate_within-end-2 c).Else-not-fits).1, (roomy-known (goal.at.slice_bounds-associate_within-end-2 c).Else-not-fits).trks_fit)))

pub slice_bounds-associate_within-end-3 : goal.slice_bounds-associate_within-end-3
slice_bounds-associate_within-end-3 c = sym (length-take-le _ _ (omega (arith, (known (goal.at.slice_bounds-associate_within-end-3 c).Else-not-fits).1, (roomy-known (goal.at.slice_bounds-associate_within-end-3 c).Else-not-fits).confs_fit)))

pub slice_bounds-associate_within-end-4 : goal.slice_bounds-associate_within-end-4
slice_bounds-associate_within-end-4 c = sym (length-take-le _ _ (omega (arith, (known (goal.at.slice_bounds-associate_within-end-4 c).Else-not-fits).0, (roomy-known (goal.at.slice_bounds-associate_within-end-4 c).Else-not-fits).scores_fit)))

pub slice_bounds-associate_within-end-5 : goal.slice_bounds-associate_within-end-5
slice_bounds-associate_within-end-5 c = sym (length-take-le _ _ (omega (arith, (known (goal.at.slice_bounds-associate_within-end-5 c).Else-not-fits).0, (roomy-known (goal.at.slice_bounds-associate_within-end-5 c).Else-not-fits).labels_fit)))

pub slice_bounds-associate_within-end-6 : goal.slice_bounds-associate_within-end-6
slice_bounds-associate_within-end-6 c = sym (length-take-le _ _ (known (goal.at.slice_bounds-associate_within-end-6 c).Else-not-fits).2)

pub returns : goal.returns
returns c =
    let a = c.args in
    let found = c.associate_within in
    pairs-done a.settings a.kept a.held (inputs_with a.corners.now a.kept_labels.now a.scores.now a.trks.now a.confs.now) a.labels.now
    (lent_with a.pair_boxes.now a.pair_tracks.now a.unmatched.now a.left.now a.work64.now a.work32.now) c.roomy-lists.ensures c.fits.ensures found.result
    (c.if-not-fits.false) c.params.ensures found.ensures
