-- "The cause named is proved to be what the frame's work does with that box": of box b of an accepted frame, whose value is g, and of what is told of it. Boxes are meant by their indices as given.
-- `fate_facts` of proofs/Theorem.antt says that it holds, and `explained` of every call that explains a box.
use Rattle.std.specs.Prelude.{◌≡◌, true, false, not, ◌&&◌, List, map, ℕ, ◌+◌, ◌-◌, ◌*◌, ◌<◌, length, get_or, take, Float}
use Rattle.std.specs.Float.{nan}
use Rattle.std.specs.Float.Ieee.{le}
use Rattle.laws.specs.Count.{bit}
use Rattle.laws.specs.Elem.{elem}
use Rattle.laws.specs.Occurs.{occurs}
use Rattle.labels.specs.Label.{label_at, same_label, alike}
use Rattle.strack.specs.Strack as strack
use Rattle.assoc_matching.specs.Matching.{boxes_of}
use Rattle.assoc.specs.Association.{ious}
use Rattle.boost_tracker_settings.specs.declared.settings.Settings.{Settings}
use Rattle.boost_tracker_table.specs.Table.{young}
use Rattle.boost_tracker_verdict.specs.declared.sound.State.{State}
use Rattle.boost_tracker_verdict.specs.Boxes.{Boxes}
use Rattle.boost_tracker_definition.specs.Update.{tracker_at, xyxy_of, Stages}
use Rattle.boost_tracker_definition.specs.Facts.{labels_of_boxes}
use Rattle.boost_tracker_fate.specs.declared.kinds.Fate.{Fate}
use Rattle.boost_tracker_fate.specs.declared.kinds.Fate.TheVariants.{Matched, Started, UnderThreshold, Rejected}
use Rattle.boost_tracker_fate.specs.declared.kinds.Partner.{Partner}
use Rattle.boost_tracker_fate.specs.declared.kinds.Explanation.{Explanation}
use Rattle.boost_tracker_fate.specs.Partner.{nobody}
use Rattle.boost_tracker_why.specs.Why.{retained_as}

-- ---- the frame's lists, by indices as given

-- retained box d
abbrev pub given_as : Stages → ℕ → ℕ
given_as g d = get_or g.remain_inds d 0

abbrev pub matched_boxes : Stages → List ℕ
matched_boxes g = map (given_as g) (boxes_of g.result.matches)

abbrev pub rejected_boxes : Stages → List ℕ
rejected_boxes g = map (given_as g) (boxes_of g.result.rejected)

abbrev pub unmatched_boxes : Stages → List ℕ
unmatched_boxes g = map (given_as g) g.result.unmatched_detections

-- the last of the unmatched are the rejected pairs'; those before them are in no pair
abbrev pub unpaired_boxes : Stages → List ℕ
unpaired_boxes g = map (given_as g) (take (length g.result.unmatched_detections - length g.result.rejected) g.result.unmatched_detections)

-- where each fate says that box b is
abbrev pub Named : Stages → ℕ → Fate → Type 0
Named g b (Matched id) = elem b (matched_boxes g) ≡ true
Named g b (Started id) = elem b (unpaired_boxes g) ≡ true
Named g b UnderThreshold = elem b g.remain_inds ≡ false
Named g b (Rejected id) = elem b (rejected_boxes g) ≡ true

-- ---- the track that it was paired with

-- iou_matrix of the frame's association
abbrev pub ious_of : Boxes → List ℕ → Stages → List Float
ious_of boxes labels g = ious (alike same_label (labels_of_boxes boxes g) labels) (length g.det_scores) (length g.predicted) g.det_bboxes g.trks

-- held track t is the one that is told of, with its label's test and its cell of this matrix
pub record Told (boxes : Boxes) (labels : List ℕ) (g : Stages) (b t : ℕ) (p : Partner) : Type 0 where
  pub held : t < length g.predicted
  pub its_id : p.id ≡ (tracker_at g.predicted t).id
  pub its_label : p.alike ≡ same_label (label_at boxes.labels b) (label_at labels t)
  pub its_iou : p.iou ≡ get_or (ious_of boxes labels g) (retained_as g b * length g.predicted + t) nan

-- ---- what the frame leaves of it

-- matched: the track with this id, which is held, is the predicted one corrected with this box after the frame, and is not retired; the two are alike, and their IoU is at least the threshold
pub record MatchedTo (self : Settings) (boxes : Boxes) (labels : List ℕ) (g : Stages) (b id : ℕ) (p : Partner) : Type 0 where
  pub track : ℕ
  pub told : Told boxes labels g b track p
  pub its_id : (tracker_at g.predicted track).id ≡ id
  pub its_track : tracker_at g.started.trackers track ≡ (strack.update (tracker_at g.predicted track) (xyxy_of boxes.values b)).1
  pub same_id : (tracker_at g.started.trackers track).id ≡ id
  pub stays : young self.max_age (tracker_at g.started.trackers track) ≡ true
  pub alike : p.alike ≡ true
  pub above : le self.iou_threshold p.iou ≡ true

-- started: the frame's table before retirement has a new track of this box with this id, by its place in the unmatched list, and it is not retired
pub record StartedAs (self : Settings) (state : State) (boxes : Boxes) (g : Stages) (b id : ℕ) : Type 0 where
  pub place : ℕ
  pub within : place < length g.result.unmatched_detections
  pub its_box : given_as g (get_or g.result.unmatched_detections place 0) ≡ b
  pub its_id : id ≡ state.last + place + 1
  pub its_track : tracker_at g.started.trackers (length g.predicted + place) ≡ strack.new (xyxy_of boxes.values b) id
  pub stays : young self.max_age (tracker_at g.started.trackers (length g.predicted + place)) ≡ true

-- rejected as a pair with a held track: the two are not alike, or their IoU is not at least the threshold
pub record RejectedWith (self : Settings) (boxes : Boxes) (labels : List ℕ) (g : Stages) (b : ℕ) (p : Partner) : Type 0 where
  pub track : ℕ
  pub told : Told boxes labels g b track p
  pub falls : (p.alike && le self.iou_threshold p.iou) ≡ false

-- in none of the lists
pub record LeftOut (g : Stages) (b : ℕ) : Type 0 where
  pub not_matched : occurs b (matched_boxes g) ≡ 0
  pub not_unmatched : occurs b (unmatched_boxes g) ≡ 0

-- ---- all of it

pub record FateFacts (self : Settings) (state : State) (boxes : Boxes) (labels : List ℕ) (g : Stages) (b : ℕ) (e : Explanation) : Type 0 where
  -- a box is retained where its score after both boosts is at least the threshold
  pub threshold : elem b g.remain_inds ≡ le self.det_thresh e.score_duo
  -- it is under the threshold, matched, rejected or unpaired: exactly one of these, and that one is named
  pub one : bit (not (elem b g.remain_inds)) + (occurs b (matched_boxes g) + (occurs b (rejected_boxes g) + occurs b (unpaired_boxes g))) ≡ 1
  pub named : Named g b e.fate
  pub matched : (id : ℕ) → e.fate ≡ Matched id → MatchedTo self boxes labels g b id e.partner
  pub started : (id : ℕ) → e.fate ≡ Started id → StartedAs self state boxes g b id × (e.partner ≡ nobody)
  pub under : e.fate ≡ UnderThreshold → LeftOut g b × (e.partner ≡ nobody)
  pub rejected : (id : ℕ) → e.fate ≡ Rejected id → StartedAs self state boxes g b id × RejectedWith self boxes labels g b e.partner
  -- each track that the frame starts is of the unmatched box of its place: so none starts from a box that is in no list
  pub starts : (k : ℕ) → k < length g.result.unmatched_detections
      → tracker_at g.started.trackers (length g.predicted + k) ≡ strack.new (xyxy_of boxes.values (given_as g (get_or g.result.unmatched_detections k 0))) (state.last + k + 1)
