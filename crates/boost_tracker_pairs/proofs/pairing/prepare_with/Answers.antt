-- `pairing::prepare_with` meets its contract: what is retained between the boosts and the distances is the definition's. Assumes nothing.
use mathlib.Core.Path.{◌≡◌, ◌∙◌, sym}
use Prim.Native.Nat.{◌*◌, ◌≤◌}
use native.Mathlib.Nat.{le_refl}
use native.Mathlib.Omega.{arith}
use lib.ListN.{length}
use lib.Seq.{length-take-le}
use Rattle.boost_tracker_verdict.specs.Boxes.{boxes_with}
use Rattle.boost_tracker_verdict.specs.Verdict.{boxes_in}
use Rattle.boost_tracker_pairs.specs.Private.{predicted_in}
use Rattle.boost_tracker_pairs.proofs.PairLaws.{distant_room, readied_is}
use Rattle.boost_tracker_pairs.proofs.pairing.prepare_with.Goals as goal
use Rattle.boost_tracker_pairs.proofs.pairing.prepare_with.Goals.{After-retain-kept}

-- no more boxes are retained than there are, and their corners have room
fewer : (c : After-retain-kept) → c.retain-kept.result ≤ boxes_in c.args.objects.now
fewer c = omega (arith, c.retain-kept.ensures.few, c.raise-once.auto.scores, c.requires.lent.0.scores_fit)

cornered : (c : After-retain-kept) → length c.retain-kept.new.corners ≡ boxes_in c.args.objects.now * 4
cornered c = c.retain-kept.auto.corners ∙ c.raise-once.auto.corners ∙ c.requires.lent.0.corners_fit

corners-kept : (c : After-retain-kept) → c.retain-kept.result * 4 ≤ length c.retain-kept.new.corners
corners-kept c = omega (arith, fewer c, c.requires.sizes.few-boxes, cornered c)

pub raise-once-requires : goal.raise-once-requires
raise-once-requires c = let p = c.requires in record { sizes = record { few-boxes = p.sizes.few-boxes; placed = p.sizes.placed; labelled = le_refl _; singles = p.sizes.singles }; low = p.low; lent = p.lent }

pub retain-kept-requires : goal.retain-kept-requires
retain-kept-requires c =
    let lent = c.requires.lent.0 in
    let raised = c.raise-once in (raised.auto.scores ∙ lent.scores_fit, (raised.auto.corners ∙ lent.corners_fit, c.requires.sizes.labelled))

pub overflow_mul-end : goal.overflow_mul-end
overflow_mul-end c = omega (arith, fewer (goal.at.overflow_mul-end c).After-retain-kept, c.requires.sizes.few-boxes)

pub slice_bounds-mh_dist-end : goal.slice_bounds-mh_dist-end
slice_bounds-mh_dist-end c = corners-kept (goal.at.slice_bounds-mh_dist-end c).After-retain-kept

pub slice_bounds-mh_dist-end-2 : goal.slice_bounds-mh_dist-end-2
slice_bounds-mh_dist-end-2 c = sym (length-take-le _ _ (corners-kept (goal.at.slice_bounds-mh_dist-end-2 c).After-retain-kept))

pub mh_dist-requires : goal.mh_dist-requires
mh_dist-requires c =
    let raised = c.raise-once in
    let p = c.requires in
    let stated = p.lent.1 in
    rw raised.auto.work32
    (distant_room c.retain-kept.result p.sizes (fewer (goal.at.mh_dist-requires c).After-retain-kept) (length-take-le _ _ (corners-kept (goal.at.mh_dist-requires c).After-retain-kept))
    (record { x_fits = raised.auto.x ∙ stated.x_fits; sigma-fits = raised.auto.sigma ∙ stated.sigma-fits }))

pub returns : goal.returns
returns c =
    let a = c.args in
    let P = predicted_in a.floats.now a.counters.now a.held in
    let raised = c.raise-once in
    readied_is a.settings a.frame (boxes_with a.objects.now a.box_labels.now) P a.labels.now a.held a.seen a.kept_labels.now raised.new.work32 raised.ensures
    c.seen_in-asked.ensures c.retain-kept.ensures (raised.auto.scores ∙ c.requires.lent.0.scores_fit)
    (c.mh_dist.ensures P raised.ensures.read.states)
