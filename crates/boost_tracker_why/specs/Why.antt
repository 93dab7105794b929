-- Document 02, N9: "A tool takes a table, a frame and a box index and names the box's fate: matched to a track, started as a new id unpaired, under the score threshold after both boosts, or rejected as a pair and
-- started as a new id. Each but the third gives the id of the track matched or started. It shows the score as given, after the DLO boost and after the DUO boost, and the id, IoU and areas of the track it was paired
-- with, or zeros." g is the frame's own value: what its steps leave.
use Rattle.std.specs.Prelude.{cond, not, List, ℕ, ◌+◌, length, get_or}
use Rattle.std.specs.Float.{nan}
use Rattle.laws.specs.Elem.{elem}
use Rattle.labels.specs.Label.{label_at, same_label}
use Rattle.strack.specs.Strack.{get_state}
use Rattle.assoc_matching.specs.Matching.{Pair, boxes_of, tracks_of}
use Rattle.boost_tracker_verdict.specs.Boxes.{Boxes}
use Rattle.boost_tracker_definition.specs.Update.{tracker_at, xyxy_of, prob_of, Stages}
use Rattle.boost_tracker_fate.specs.declared.kinds.Lot.{Lot}
use Rattle.boost_tracker_fate.specs.declared.kinds.Lot.TheVariants as lot
use Rattle.boost_tracker_fate.specs.declared.kinds.Fate.{Fate}
use Rattle.boost_tracker_fate.specs.declared.kinds.Fate.TheVariants.{Matched, Started, UnderThreshold, Rejected}
use Rattle.boost_tracker_fate.specs.declared.kinds.Partner.{Partner}
use Rattle.boost_tracker_fate.specs.declared.kinds.Explanation.{Explanation}
use Rattle.boost_tracker_fate.specs.Fate.{place_in}
use Rattle.boost_tracker_fate.specs.Partner.{partner_with, nobody}

-- ---- what the frame does with box b as given

-- its index among the retained boxes, which the pairs and the unmatched list go by
abbrev pub retained_as : Stages → ℕ → ℕ
retained_as g b = place_in b g.remain_inds

-- the track of its pair
abbrev pub track_in : List Pair → ℕ → ℕ
track_in pairs d = get_or (tracks_of pairs) (place_in d (boxes_of pairs)) 0

-- under the threshold it is not retained; the matched boxes and the rejected pairs' have a track; each unmatched box, the rejected among them, starts one by its place in the unmatched list
unfoldable pub lot_of : Stages → ℕ → Lot
lot_of g b =
    let d : ℕ = retained_as g b in
    let place : ℕ = place_in d g.result.unmatched_detections in
    cond (not (elem b g.remain_inds)) lot.Under
    (cond (elem d (boxes_of g.result.matches)) (lot.Paired (track_in g.result.matches d))
    (cond (elem d (boxes_of g.result.rejected)) (lot.Refused (track_in g.result.rejected d) place)
    (lot.Alone place)))

-- ---- the ids

-- a started track stands behind the held ones, in the order of the unmatched list
abbrev pub started_id : Stages → ℕ → ℕ
started_id g place = (tracker_at g.started.trackers (length g.predicted + place)).id

abbrev pub held_id : Stages → ℕ → ℕ
held_id g t = (tracker_at g.predicted t).id

abbrev pub fate_of : Stages → Lot → Fate
fate_of g lot.Under = UnderThreshold
fate_of g (lot.Paired t) = Matched (held_id g t)
fate_of g (lot.Refused t place) = Rejected (started_id g place)
fate_of g (lot.Alone place) = Started (started_id g place)

-- ---- the track it was paired with

-- of the predicted track
abbrev pub paired_with : Stages → Boxes → List ℕ → ℕ → ℕ → Partner
paired_with g boxes labels b t = partner_with (same_label (label_at boxes.labels b) (label_at labels t)) (xyxy_of boxes.values b) (get_state (tracker_at g.predicted t)) (held_id g t)

abbrev pub partner_in : Stages → Boxes → List ℕ → ℕ → Lot → Partner
partner_in g boxes labels b lot.Under = nobody
partner_in g boxes labels b (lot.Paired t) = paired_with g boxes labels b t
partner_in g boxes labels b (lot.Refused t place) = paired_with g boxes labels b t
partner_in g boxes labels b (lot.Alone place) = nobody

-- ---- all of it

unfoldable pub explanation : Stages → Boxes → List ℕ → ℕ → Explanation
explanation g boxes labels b = record {
  fate = fate_of g (lot_of g b);
  score = prob_of boxes.values b;
  score_dlo = get_or g.after_dlo b nan;
  score_duo = get_or g.after_duo b nan;
  partner = partner_in g boxes labels b (lot_of g b);
}
