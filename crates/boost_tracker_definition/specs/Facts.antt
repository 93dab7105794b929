-- What holds of an accepted frame, for callers: the table that it leaves is sound, every pair's track is corrected, new tracks get ids above the last one given and their boxes' labels, no pair joins two labels,
-- and the assignment's work is bounded.
-- Each is said of one frame, and `frame_facts` of proofs/FactLaws.antt says that it holds; what follows for whole histories of frames is stated in boost_tracker_history.
use Rattle.std.specs.Prelude.{◌≡◌, true, false, List, ℕ, ◌+◌, ◌-◌, ◌*◌, ◌/◌, ◌≤◌, ◌<◌, max, length, get_or}
use Rattle.labels.specs.Label.{label_at, unlabelled, same_label}
use Rattle.strack.specs.Strack as strack
use Rattle.boost_tracker_mh_dist.specs.MhDist.{det}
use Rattle.assoc_matching.specs.Matching.{Pair, pair}
use Rattle.boost_tracker_settings.specs.declared.settings.Settings.{Settings}
use Rattle.boost_tracker_verdict.specs.declared.sound.State.{State}
use Rattle.boost_tracker_table.specs.Table.{Track}
use Rattle.boost_tracker_table.specs.Lent.{Table, tracks_in, labels_in}
use Rattle.boost_tracker_verdict.specs.Boxes.{Boxes}
use Rattle.boost_tracker_verdict.specs.Sound.{sound_table}
use Rattle.boost_tracker_definition.specs.Update.{tracker_at, det_labels, Stages, state_after, labels_started, labels_retained}

-- pair k, and what the correction of its predicted track by its box answers
abbrev pub pair_at : Stages → ℕ → Pair
pair_at g k = get_or g.result.matches k (pair 0 0)

abbrev pub correction_at : Stages → ℕ → ℕ × Track
correction_at g k = strack.update (tracker_at g.predicted (pair_at g k).track) (det g.det_bboxes (pair_at g k).box)

-- the labels of the retained boxes, and of all trackers after step 7
abbrev pub labels_of_boxes : Boxes → Stages → List ℕ
labels_of_boxes boxes g = det_labels boxes.labels g.remain_inds

abbrev pub labels_all : Boxes → List ℕ → Stages → List ℕ
labels_all boxes labels g = labels_started boxes.labels labels g

-- the trackers before the frame with their labels, and the table after it
pub record FrameFacts (self : Settings) (state : State) (boxes : Boxes) (trackers : List Track) (labels : List ℕ) (g : Stages) (after : Table) : Type 0 where
  -- the table holds the retained tracks, and is sound: the next frame is not turned down with 11
  pub holds : tracks_in after (length g.retained) ≡ g.retained
  pub sound : sound_table (state_after g) after ≡ true
  -- no correction is refused, and each pair's track is the corrected one
  pub accepted : (k : ℕ) → k < length g.result.matches → (correction_at g k).0 ≡ 0
  pub corrected : (k : ℕ) → k < length g.result.matches → tracker_at g.matched (pair_at g k).track ≡ (correction_at g k).1
  -- no track is lost at a match
  pub matched-many : length g.matched ≡ length trackers
  -- a held track keeps its id; the unmatched boxes' tracks stand behind those held and get the ids after the state's last one, in their order
  pub many : length g.started.trackers ≡ length trackers + length g.result.unmatched_detections
  pub old_ids : (i : ℕ) → i < length trackers → (tracker_at g.started.trackers i).id ≡ (tracker_at trackers i).id
  pub new-ids : (k : ℕ) → k < length g.result.unmatched_detections → (tracker_at g.started.trackers (length trackers + k)).id ≡ state.last + k + 1
  pub last_id : (state_after g).last ≡ state.last + length g.result.unmatched_detections
  -- a held track keeps its label, and a new one has its box's
  pub many-labels : length (labels_all boxes labels g) ≡ length g.started.trackers
  pub old_labels : (i : ℕ) → i < length trackers → label_at (labels_all boxes labels g) i ≡ label_at labels i
  pub new-labels : (k : ℕ) → k < length g.result.unmatched_detections
      → label_at (labels_all boxes labels g) (length trackers + k) ≡ label_at boxes.labels (get_or g.remain_inds (get_or g.result.unmatched_detections k 0) 0)
  -- the table holds the labels of the retained tracks, and each is one: the next frame is not turned down with 10
  pub holds-labels : labels_in after (length g.retained) ≡ labels_retained self (labels_all boxes labels g) g
  pub labelled : unlabelled after.labels (length g.retained) ≡ false
  -- no pair joins two labels
  pub paired_alike : (k : ℕ) → k < length g.result.matches → same_label (label_at (labels_of_boxes boxes g) (pair_at g k).box) (label_at labels (pair_at g k).track) ≡ true
  -- row turns and column scans, by the larger of retained boxes and tracks
  pub turns : g.result.turns ≤ 2 * max (length g.det_scores) (length trackers) * (max (length g.det_scores) (length trackers) - 1)
  pub scans : g.result.scans ≤ max (length g.det_scores) (length trackers) * (max (length g.det_scores) (length trackers) - 1) / 2
