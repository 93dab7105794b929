-- What holds of an accepted call of associate or associate_within, of the definitions alone, and what specs/Account.antt states of the lists that a caller gets. Assumes nothing.
use mathlib.Core.Path.{◌≡◌, refl, sym, ap, ◌∙◌}
use mathlib.Core.Bool.{Bool, true}
use mathlib.Core.List.{List, []}
use Prim.Native.Nat.{ℕ, ◌+◌, ◌*◌, ◌≤◌, ◌<◌}
use lib.Ieee.{Float, nan, le}
use lib.ListN.{length, length-map, get_or, take, get_or-map}
use borrow.Author.Tests.{eqb-true}
use Rattle.laws.specs.Tests.{and_left, and_right}
use Rattle.laws.specs.Over.{over-front}
use Rattle.laws.specs.Grid.{grid, grid-at}
use Rattle.labels.specs.Label.{label_at, same_label, alike, where_alike}
use Rattle.floats.specs.Single.{one, plus_zero}
use Rattle.assoc_cost.specs.declared.cost.AssociateParams.{AssociateParams}
use Rattle.std.proofs.Common.{Ok}
use Rattle.assoc_similarity.specs.Overlap.{box_at, overlap, iou_batch}
use Rattle.assoc_similarity.specs.Mahalanobis.{mh_dist_similarity}
use Rattle.refusals.proofs.Laws.{accepted_of}
use Rattle.assoc_matching.specs.Matching.{Pair, pair, boxes_of, tracks_of}
use Rattle.assoc_matching.specs.Answers.{Call, call_by}
use Rattle.assoc_assignment.specs.declared.assignment.AssignmentCounts.{AssignmentCounts}
use Rattle.assoc_assignment.specs.Assignment.{Assignment, valid_match}
use Rattle.assoc_assignment.specs.Account.{Accounted}
use Rattle.assoc_assignment.specs.Answers.{room_of, assignment_counts, no_counts, assignment_values, call_with}
use Rattle.assoc_assignment.proofs.AccountLaws.{accounted}
use Rattle.assoc.specs.Association.{ious, label_rule, costs, stands, associate_by, associate}
use Rattle.assoc.specs.Answers.{Lent, lent_after, associate_call, within_call}
use Rattle.assoc_verdict.specs.Verdict.{within_verdict, associate_verdict}
use Rattle.assoc.specs.Account.{Account, written, AccountedFor, lists_of, AccountedByDefinition}
use Rattle.assoc.proofs.AssociationLaws.{as_assigned}
use Rattle.assoc_verdict.proofs.Laws.{associate-ready, within-ready}

-- for at most 255 boxes and 255 tracks, and floats of any bit patterns, by any rule for two labels: no pair joins two that are not alike, and every pair's IoU is at least the threshold
pub account : (same : ℕ → ℕ → Bool) (params : AssociateParams) (boxes tracks : ℕ) (detections corners mahalanobis track_confidence detection_confidence : List Float) (box_labels track_labels : List ℕ)
    → boxes ≤ 255 → tracks ≤ 255
    → Accounted (stands (alike same box_labels track_labels) (ious (alike same box_labels track_labels) boxes tracks detections corners) tracks params.iou_threshold) boxes tracks
    (associate_by same params boxes tracks detections corners mahalanobis track_confidence detection_confidence box_labels track_labels)
account same params boxes tracks detections corners mahalanobis track_confidence detection_confidence box_labels track_labels few-boxes few-tracks =
    let like : ℕ → ℕ → Bool = alike same box_labels track_labels in
    let ok : Pair → Bool = stands like (ious like boxes tracks detections corners) tracks params.iou_threshold in
    let cost : List Float = costs like params boxes tracks detections corners track_confidence detection_confidence (mh_dist_similarity mahalanobis one boxes tracks) in
    rw (← as_assigned same params boxes tracks detections corners mahalanobis track_confidence detection_confidence box_labels track_labels)
    (accounted ok cost boxes tracks params.iou_threshold few-boxes few-tracks)

-- the IoU is the ratio of the overlap under the label rule, whatever its areas
pub ious_are_ratios : (like : ℕ → ℕ → Bool) (boxes tracks : ℕ) (detections corners : List Float)
    → ious like boxes tracks detections corners ≡ grid (λ i j. (label_rule (like i j) (overlap (box_at detections i) (box_at corners j))).ratio) boxes tracks []
ious_are_ratios like boxes tracks detections corners = refl

-- what it is for a pair to stand
pub stands_alike : (like : ℕ → ℕ → Bool) (iou : List Float) (tracks : ℕ) (threshold : Float) (p : Pair) → stands like iou tracks threshold p ≡ true → like p.box p.track ≡ true
unfolding stands
stands_alike like iou tracks threshold p e = and_left (like p.box p.track) (valid_match iou tracks threshold p) e

pub stands-above : (like : ℕ → ℕ → Bool) (iou : List Float) (tracks : ℕ) (threshold : Float) (p : Pair) → stands like iou tracks threshold p ≡ true → le threshold (get_or iou (p.box * tracks + p.track) nan) ≡ true
unfolding stands valid_match
stands-above like iou tracks threshold p e = and_right (like p.box p.track) (valid_match iou tracks threshold p) e

module _ (params : AssociateParams) (boxes tracks : ℕ) (detections corners mahalanobis track_confidence detection_confidence : List Float) (box_labels track_labels : List ℕ) (l : Lent) where
  -- its number is 0 only where no condition of a refusal holds
  pub associate-passes : (associate_call params boxes tracks detections corners mahalanobis track_confidence detection_confidence box_labels track_labels l).number ≡ 0
      → associate_verdict params boxes tracks (length detections) (length corners) (length mahalanobis) (length track_confidence) (length detection_confidence) box_labels track_labels
      (room_of l.lists) (length l.work64) (length l.work32) ≡ Ok tt
  unfolding associate_call
  associate-passes e = accepted_of _ e

  pub associate_account : (associate_call params boxes tracks detections corners mahalanobis track_confidence detection_confidence box_labels track_labels l).number ≡ 0
      → Accounted (stands (alike same_label box_labels track_labels) (ious (alike same_label box_labels track_labels) boxes tracks detections corners) tracks params.iou_threshold) boxes tracks
      (associate params boxes tracks detections corners mahalanobis track_confidence detection_confidence box_labels track_labels)
  associate_account e =
      let fits = (associate-ready _ _ _ _ _ _ _ _ _ _ _ _ _ (associate-passes e)).0.cornered in
      account same_label params boxes tracks detections corners mahalanobis track_confidence detection_confidence box_labels track_labels fits.few-rows fits.few-cols

module _ (params : AssociateParams) (boxes tracks : ℕ) (detections corners track_confidence detection_confidence : List Float) (box_labels track_labels : List ℕ) (l : Lent) where
  pub within-passes : (within_call params boxes tracks detections corners track_confidence detection_confidence box_labels track_labels l).number ≡ 0
      → within_verdict params boxes tracks (length detections) (length corners) (length track_confidence) (length detection_confidence) (room_of l.lists) (length l.work64) (length l.work32) ≡ Ok tt
  unfolding within_call
  within-passes e = accepted_of _ e

  pub within_account : (within_call params boxes tracks detections corners track_confidence detection_confidence box_labels track_labels l).number ≡ 0
      → Accounted (stands (alike same_label box_labels track_labels) (ious (alike same_label box_labels track_labels) boxes tracks detections corners) tracks params.iou_threshold) boxes tracks
      (associate params boxes tracks detections corners (take (boxes * tracks) l.work32) track_confidence detection_confidence box_labels track_labels)
  within_account e =
      let fits = (within-ready _ _ _ _ _ _ _ _ _ _ (within-passes e)).cornered in
      account same_label params boxes tracks detections corners (take (boxes * tracks) l.work32) track_confidence detection_confidence box_labels track_labels fits.few-rows fits.few-cols

-- ---- the lists that a caller gets

-- an assignment by the rule of document 02 is accounted for in the caller's words
module _ (boxes tracks : ℕ) (detections corners : List Float) (box_labels track_labels : List ℕ) (threshold : Float) (a : Assignment) where
  abbrev like : ℕ → ℕ → Bool
  like = alike same_label box_labels track_labels

  abbrev ok : Pair → Bool
  ok = stands like (ious like boxes tracks detections corners) tracks threshold

  abbrev at : ℕ → Pair
  at k = get_or a.matches k (pair 0 0)

  box-is : (k : ℕ) → get_or (boxes_of a.matches) k 0 ≡ (at k).box
  box-is k = get_or-map (λ (p : Pair). p.box) a.matches k (pair 0 0)

  track-is : (k : ℕ) → get_or (tracks_of a.matches) k 0 ≡ (at k).track
  track-is k = get_or-map (λ (p : Pair). p.track) a.matches k (pair 0 0)

  module _ (acc : Accounted ok boxes tracks a) (k : ℕ) (h : k < length (boxes_of a.matches)) where
    within : k < length a.matches
    within = rw (length-map a.matches (λ (p : Pair). p.box)) at h

    is-like : like (at k).box (at k).track ≡ true
    is-like = stands_alike like (ious like boxes tracks detections corners) tracks threshold (at k) (acc.stands k within)

    box-low : (at k).box < boxes
    box-low = rw (box-is k) at (acc.boxes-once.below k h)

    track-low : (at k).track < tracks
    track-low = let low = acc.tracks-once.below k (rw (length-map a.matches (λ (p : Pair). p.track)) within) in rw (track-is k) at low

    -- where alike, the cell is the IoU
    cell-is : get_or (ious like boxes tracks detections corners) ((at k).box * tracks + (at k).track) nan ≡ iou_batch detections corners (at k).box (at k).track
    cell-is = grid-at (where_alike like (iou_batch detections corners) plus_zero) boxes tracks _ nan (at k).box (at k).track box-low track-low ∙ rw is-like

    is-above : le threshold (iou_batch detections corners (at k).box (at k).track) ≡ true
    is-above = rw cell-is at (stands-above like (ious like boxes tracks detections corners) tracks threshold (at k) (acc.stands k within))

    labels-same : label_at box_labels (at k).box ≡ label_at track_labels (at k).track
    unfolding same_label
    labels-same = eqb-true (label_at box_labels (at k).box) (label_at track_labels (at k).track) is-like

  pub lists_account : Accounted ok boxes tracks a → Account threshold boxes tracks detections corners box_labels track_labels (lists_of a)
  lists_account acc = record {
    boxes-apart = acc.boxes-once;
    tracks-apart = acc.tracks-once;
    boxes-once = acc.boxes-whole;
    tracks-once = acc.tracks-whole;
    halves = length-map a.matches (λ (p : Pair). p.box) ∙ sym (length-map a.matches (λ (p : Pair). p.track));
    overlapping = λ k h. rw (box-is k, track-is k) (is-above acc k h);
    equal_labels = λ k h. rw (box-is k, track-is k) (labels-same acc k h);
  }

  -- what is written of lists, read back
  written_is : (l : Lent) → written (assignment_counts a) (lent_after a l).lists ≡ lists_of a
  written_is l =
      let ms : List Pair = a.matches in
      let many : length ms ≡ length (boxes_of ms) = sym (length-map ms (λ (p : Pair). p.box)) in
      let as_many : length ms ≡ length (tracks_of ms) = sym (length-map ms (λ (p : Pair). p.track)) in
      rw (
        over-front (boxes_of ms) l.lists.pair_boxes (length ms) many,
        over-front (tracks_of ms) l.lists.pair_tracks (length ms) as_many,
        over-front a.unmatched_detections l.lists.unmatched_detections _ refl,
        over-front a.unmatched_tracks l.lists.unmatched_tracks _ refl,
      )

pub associate-lists : AccountedByDefinition
associate-lists params boxes tracks detections corners mahalanobis track_confidence detection_confidence box_labels track_labels few-boxes few-tracks =
    lists_account boxes tracks detections corners box_labels track_labels params.iou_threshold _
    (account same_label params boxes tracks detections corners mahalanobis track_confidence detection_confidence box_labels track_labels few-boxes few-tracks)

pub accounted_for : AccountedFor
unfolding associate_call
accounted_for params boxes tracks detections corners mahalanobis track_confidence detection_confidence box_labels track_labels l l' r ends accepted =
    let a : Assignment = associate params boxes tracks detections corners mahalanobis track_confidence detection_confidence box_labels track_labels in
    let zero = sym (ap (λ (c : Call AssignmentCounts Lent). c.number) ends) ∙ accepted in
    let passes = associate-passes params boxes tracks detections corners mahalanobis track_confidence detection_confidence box_labels track_labels l zero in
    let done : call_with r l' ≡ call_by (Ok tt) (assignment_counts a) (lent_after a l) no_counts l = rw passes at ends in
    let counts : assignment_values r ≡ assignment_counts a = ap (λ (c : Call AssignmentCounts Lent). c.counts) done in
    let left : l' ≡ lent_after a l = ap (λ (c : Call AssignmentCounts Lent). c.lent) done in
    let acc = associate_account params boxes tracks detections corners mahalanobis track_confidence detection_confidence box_labels track_labels l zero in
    rw (counts, left, written_is boxes tracks detections corners box_labels track_labels params.iou_threshold a l)
    (lists_account boxes tracks detections corners box_labels track_labels params.iou_threshold a acc)
