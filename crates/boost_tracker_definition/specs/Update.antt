-- boost_tracker.rs, `update_impl`, lines 249-390 without ECC, with the label rule of document 02, N2: a frame, step by step, under the Rust's names. `Stages` has what each step leaves.
-- An object is five floats of `objects`: left, top, width, height, score. dets[i] of the Rust is box i of a list that has four corners for each, and element i of a list of scores.
-- The labels of objects and trackers stand beside them. The rule for two labels is a parameter: with `same_label` it is 02's, and with `always` the Rust's frame, which knows no labels (Unlabelled).
use Rattle.std.specs.Prelude.{Bool, cond, ◌&&◌, ℕ, ◌+◌, ◌*◌, ltb, length, get_or, Float}
use mathlib.Core.List.{List, [], ◌∷◌, ◌++◌, map, foldl}
use Rattle.std.specs.Float.{nan}
use Rattle.std.specs.Float.Ieee.{le}
use Rattle.laws.specs.Tab.{tab, indices}
use Rattle.laws.specs.Laid.{rows}
use Rattle.laws.specs.Sieve.{sieve}
use Rattle.laws.specs.Grid.{grid}
use Rattle.labels.specs.Label.{label_at, same_label, alike}
use Rattle.strack.specs.declared.rect.Xyxy.{Xyxy}
use Rattle.strack.specs.Rect.{get_xyxy}
use Rattle.strack.specs.Strack.{new, predict, get_state, get_confidence}
use Rattle.assoc_cost.specs.declared.cost.AssociateParams.{AssociateParams}
use Rattle.boost_tracker_dlo.specs.declared.dlo.DloSettings.{DloSettings}
use Rattle.boost_tracker_mh_dist.specs.MhDist.{det, get_mh_dist_matrix}
use Rattle.boost_tracker_dlo.specs.Dlo.{dlo_confidence_boost}
use Rattle.records.specs.BoxRecord.{box_values}
use Rattle.boost_tracker_duo.specs.Duo.{duo_confidence_boost}
use Rattle.assoc_matching.specs.Matching.{Pair}
use Rattle.assoc_assignment.specs.Assignment.{Assignment}
use Rattle.assoc.specs.Association.{associate_by}
use Rattle.boost_tracker_settings.specs.declared.settings.Settings.{Settings}
use Rattle.boost_tracker_verdict.specs.declared.sound.State.{State}
use Rattle.boost_tracker_table.specs.Table.{Track, blank, corrected, young, retained, labels_where}
use Rattle.boost_tracker_emission.specs.Record.{nine_tenths}
use Rattle.boost_tracker_emission.specs.Emission.{emitted}
use Rattle.boost_tracker_verdict.specs.Boxes.{Boxes}
use Rattle.boost_tracker_verdict.specs.Verdict.{boxes_in}

-- ---- the objects, lines 267-274

-- [x1, y1, x2, y2]
abbrev pub corners_of : Xyxy → List Float
corners_of b = b.x1 ∷ b.y1 ∷ b.x2 ∷ b.y2 ∷ []

-- !xs.is_empty()
abbrev pub some : {A : Type 0} → List A → Bool
some xs = ltb 0 (length xs)

-- trackers[j]
abbrev pub tracker_at : List Track → ℕ → Track
tracker_at trackers j = get_or trackers j blank

-- o.get_rect().get_xyxy() and o.get_prob() of object i
abbrev pub xyxy_of : List Float → ℕ → Xyxy
xyxy_of objects i = get_xyxy (record { left = get_or objects (i * box_values) nan; top = get_or objects (i * box_values + 1) nan; width = get_or objects (i * box_values + 2) nan; height = get_or objects (i * box_values + 3) nan })

abbrev pub prob_of : List Float → ℕ → Float
prob_of objects i = get_or objects (i * box_values + 4) nan

-- the corners and the scores of dets
unfoldable pub bboxes : List Float → List Float
bboxes objects = rows corners_of (tab (xyxy_of objects) (boxes_in objects))

unfoldable pub scores : List Float → List Float
scores objects = tab (prob_of objects) (boxes_in objects)

-- ---- step 1, lines 276-285: of the predicted trackers

unfoldable pub trks : List Track → List Float
trks trackers = rows corners_of (map get_state trackers)

unfoldable pub confs : List Track → List Float
confs trackers = map (λ t. get_confidence t nine_tenths) trackers

-- ---- step 2, lines 287-294: the boosts

-- what dlo_confidence_boost reads of self
abbrev pub dlo_settings : Settings → DloSettings
dlo_settings self = record {
  rich = self.use_rich_similarity;
  corrected = self.use_shape_similarity_correction;
  soft = self.use_soft_boost;
  varying = self.use_varying_threshold;
  coef = self.dlo_boost_coef;
  thresh = self.det_thresh;
}

-- self.dlo_confidence_boost(&mut dets, &trks, &confs), by whether box i and tracker j are alike, and self.duo_confidence_boost(&mut dets)
unfoldable pub dlo : (ℕ → ℕ → Bool) → Settings → List Float → List Float → List Float → List Track → List Float → List Float
dlo like self bboxes trks confs trackers scores =
    dlo_confidence_boost like (dlo_settings self) bboxes trks confs (get_mh_dist_matrix bboxes (tracker_at trackers)) (λ j. (tracker_at trackers j).since) (length scores) (length trackers) scores

unfoldable pub duo : Settings → ℕ → List Float → List Track → List Float → List Float
duo self frame_count bboxes trackers scores =
    duo_confidence_boost frame_count self.det_thresh bboxes (get_mh_dist_matrix bboxes (tracker_at trackers)) (length scores) (length trackers) scores

unfoldable pub after_dlo : (ℕ → ℕ → Bool) → Settings → List Float → List Float → List Float → List Track → List Float → List Float
after_dlo like self bboxes trks confs trackers scores = cond (self.use_dlo_boost && some trackers) (dlo like self bboxes trks confs trackers scores) scores

unfoldable pub after_duo : Settings → ℕ → List Float → List Track → List Float → List Float
after_duo self frame_count bboxes trackers scores = cond (self.use_duo_boost && some trackers) (duo self frame_count bboxes trackers scores) scores

-- ---- step 3, lines 296-310: the boxes that are retained

abbrev pub remains : Float → List Float → ℕ → Bool
remains det_thresh scores i = le det_thresh (get_or scores i nan)

unfoldable pub remain_inds : Float → List Float → List ℕ
remain_inds det_thresh scores = sieve (remains det_thresh scores) (indices (length scores))

unfoldable pub det_bboxes : List Float → List ℕ → List Float
det_bboxes objects remain_inds = rows (λ i. corners_of (xyxy_of objects i)) remain_inds

unfoldable pub det_scores : List Float → List ℕ → List Float
det_scores scores remain_inds = map (λ i. get_or scores i nan) remain_inds

-- and their labels
unfoldable pub det_labels : List ℕ → List ℕ → List ℕ
det_labels box_labels remain_inds = map (label_at box_labels) remain_inds

-- ---- steps 4 and 5, lines 312-342: the association

-- get_mh_dist_matrix, for so many boxes
unfoldable pub mh_dist : ℕ → List Float → List Track → List Float
mh_dist dets det_bboxes trackers = grid (get_mh_dist_matrix det_bboxes (tracker_at trackers)) dets (length trackers) []

-- the flags say which of the Options are there: mh_dist if it has a row and a column, the confidences if neither list is empty
abbrev pub params : Settings → ℕ → ℕ → AssociateParams
params self num_dets num_trks = record {
  iou_threshold = self.iou_threshold;
  lambda_iou = self.lambda_iou;
  lambda_mhd = self.lambda_mhd;
  lambda_shape = self.lambda_shape;
  use_shape_similarity_correction = self.use_shape_similarity_correction;
  has_mahalanobis = ltb 0 num_dets && ltb 0 num_trks;
  has_confidence = ltb 0 num_trks && ltb 0 num_dets;
}

unfoldable pub result : (ℕ → ℕ → Bool) → Settings → List Float → List Float → List Track → List Float → List Float → List ℕ → List ℕ → Assignment
result same self det_bboxes det_scores trackers trks confs det_labels labels =
    associate_by same (params self (length det_scores) (length trackers)) (length det_scores) (length trackers) det_bboxes trks (mh_dist (length det_scores) det_bboxes trackers) confs det_scores det_labels labels

-- ---- step 6, lines 344-348: self.trackers[trk_idx].update(&det_bboxes[det_idx], score), which does not use the score

unfoldable pub matched : List Float → List Pair → List Track → List Track
matched det_bboxes matches trackers = foldl (λ ts p. corrected ts p.track (det det_bboxes p.box)) trackers matches

-- ---- step 7, lines 350-360: a tracker for each unmatched detection

pub record Started : Type 0 where
  pub track_id_count : ℕ
  pub trackers : List Track

abbrev pub started_from : ℕ → List Track → Started
started_from track_id_count trackers = record { track_id_count = track_id_count; trackers = trackers }

abbrev pub start_one : Float → List Float → List Float → Started → ℕ → Started
start_one det_thresh det_bboxes det_scores s det_idx =
    cond (le det_thresh (get_or det_scores det_idx nan))
    (started_from (s.track_id_count + 1) (s.trackers ++ (new (det det_bboxes det_idx) (s.track_id_count + 1) ∷ [])))
    s

unfoldable pub started : Float → List Float → List Float → List ℕ → Started → Started
started det_thresh det_bboxes det_scores unmatched_detections s = foldl (start_one det_thresh det_bboxes det_scores) s unmatched_detections

-- ---- all steps; step 8, lines 362-387, is the output and the retained of the table's definitions

pub record Stages : Type 0 where
  pub frame_count : ℕ
  -- 1
  pub predicted : List Track
  pub trks : List Float
  pub confs : List Float
  -- 2: the scores after each boost
  pub after_dlo : List Float
  pub after_duo : List Float
  -- 3
  pub remain_inds : List ℕ
  pub det_bboxes : List Float
  pub det_scores : List Float
  -- 4
  pub mh_dist : List Float
  -- 5
  pub result : Assignment
  -- 6
  pub matched : List Track
  -- 7: all trackers, and the last id
  pub started : Started
  -- 8: the tracks that are put out, and those that stay
  pub output : List Track
  pub retained : List Track

-- from the scores after the DLO boost on, by the pairs of the boxes that remain, of which the indices, corners and scores are given
unfoldable pub stages_from : Settings → ℕ → ℕ → List Float → List Track → List Float → (List ℕ → List Float → List Float → Assignment) → Stages
stages_from self frame_count track_id_count objects predicted once pairs =
    let twice : List Float = after_duo self frame_count (bboxes objects) predicted once in
    let inds : List ℕ = remain_inds self.det_thresh twice in
    let boxes : List Float = det_bboxes objects inds in
    let probs : List Float = det_scores twice inds in
    let found : Assignment = pairs inds boxes probs in
    let hit : List Track = matched boxes found.matches predicted in
    let all : Started = started self.det_thresh boxes probs found.unmatched_detections (started_from track_id_count hit) in
    record {
      frame_count = frame_count;
      predicted = predicted;
      trks = trks predicted;
      confs = confs predicted;
      after_dlo = once;
      after_duo = twice;
      remain_inds = inds;
      det_bboxes = boxes;
      det_scores = probs;
      mh_dist = mh_dist (length probs) boxes predicted;
      result = found;
      matched = hit;
      started = all;
      output = emitted frame_count self.min_hits all.trackers;
      retained = retained self.max_age all.trackers;
    }

-- from the predicted trackers on, by a rule for two labels
unfoldable pub steps : (ℕ → ℕ → Bool) → Settings → ℕ → ℕ → Boxes → List Track → List ℕ → Stages
steps same self frame_count track_id_count objects predicted labels =
    let ts : List Float = trks predicted in
    let cs : List Float = confs predicted in
    stages_from self frame_count track_id_count objects.values predicted
    (after_dlo (alike same objects.labels labels) self (bboxes objects.values) ts cs predicted (scores objects.values))
    (λ inds boxes probs. result same self boxes probs predicted ts cs (det_labels objects.labels inds) labels)

-- self.frame_count += 1, then every tracker is predicted
unfoldable pub update_by : (ℕ → ℕ → Bool) → Settings → State → Boxes → List Track → List ℕ → Stages
update_by same self state objects trackers labels = steps same self (state.frames + 1) state.last objects (map predict trackers) labels

abbrev pub update : Settings → State → Boxes → List Track → List ℕ → Stages
update = update_by same_label

-- ---- the labels of the trackers, 02, N2: "A new track takes its box's label", and a held one keeps its own

-- after step 7
unfoldable pub labels_started : List ℕ → List ℕ → Stages → List ℕ
labels_started box_labels labels g = labels ++ map (label_at (det_labels box_labels g.remain_inds)) g.result.unmatched_detections

-- of the trackers that are retained
abbrev pub labels_retained : Settings → List ℕ → Stages → List ℕ
labels_retained self all g = labels_where (young self.max_age) g.started.trackers all

-- what stands beside the table then
abbrev pub state_after : Stages → State
state_after g = record { count = length g.retained; last = g.started.track_id_count; frames = g.frame_count }
