-- What only the contracts between private functions cite: sizes that they ask for, and what a step leaves.
use Rattle.std.specs.Prelude.{◌≡◌, List, [], ◌∷◌, map, ℕ, ◌*◌, ◌≤◌, ◌<◌, ◌^◌, max, length, get_or, take, Float}
use Rattle.laws.specs.Laid.{rows, laid}
use Rattle.laws.specs.Over.{over}
use Rattle.labels.specs.Label.{same_label, alike}
use Rattle.floats.specs.Single.{plus_zero}
use Rattle.strack.specs.Strack.{predict, get_kf_state, get_kf_covariance_diag}
use Rattle.boost_tracker_mh_dist.specs.MhDist.{row, reciprocals}
use Rattle.boost_tracker_settings.specs.declared.settings.Settings.{Settings}
use Rattle.boost_tracker_table.specs.Table.{Track, capacity, tracks}
use Rattle.boost_tracker_verdict.specs.Boxes.{Boxes}
use Rattle.boost_tracker_verdict.specs.Verdict.{boxes_in}
use Rattle.boost_tracker_pairs.specs.declared.gather.Four.{Four}
use Rattle.boost_tracker_pairs.specs.declared.pairing.Prepared.{Prepared}
use Rattle.boost_tracker_pairs.specs.Pairs.{Inputs, PreparedAs}
use Rattle.boost_tracker_definition.specs.Update.{corners_of, xyxy_of, tracker_at, bboxes, scores, trks, confs, after_dlo, after_duo, remain_inds, det_bboxes, det_scores, det_labels, steps}

-- ---- gathering

abbrev pub four_floats : Four → List Float
four_floats v = v.a ∷ v.b ∷ v.c ∷ v.d ∷ []

-- the held tracks, predicted
abbrev pub predicted_in : List Float → List ℕ → ℕ → List Track
predicted_in f c held = map predict (tracks f c held)

-- the times since update, and that they fit u32
unfoldable pub since_of : List Track → List ℕ
since_of trackers = map (λ t. t.since) trackers

abbrev pub SinceLow : ℕ → List Track → Type 0
SinceLow held trackers = (j : ℕ) → j < held → (tracker_at trackers j).since < 2 ^ 32

-- local lists for n boxes, and for the tracks
pub record LocalRoom (held n corners scores trks confs : ℕ) : Type 0 where
  pub corners_fit : corners ≡ n * 4
  pub scores_fit : scores ≡ n
  pub trks_fit : trks ≡ held * 4
  pub confs_fit : confs ≡ held

pub record StateRoom (held x sigma : ℕ) : Type 0 where
  pub x_fits : x ≡ held * 4
  pub sigma-fits : sigma ≡ held * 4

-- the lists of the tracks
pub record TrackLists : Type 0 where
  pub trks : List Float
  pub confs : List Float
  pub x : List Float
  pub sigma : List Float

abbrev pub track_lists_with : List Float → List Float → List Float → List Float → TrackLists
track_lists_with trks confs x sigma = record { trks = trks; confs = confs; x = x; sigma = sigma }

-- x and sigma of get_mh_dist_matrix are those of the tracks
unfoldable pub states_of : List Track → List Float
states_of trackers = rows row (map get_kf_state trackers)

unfoldable pub sigmas_of : List Track → List Float
sigmas_of trackers = rows row (map (λ t. reciprocals (get_kf_covariance_diag t)) trackers)

pub record States (held : ℕ) (trackers : List Track) (x sigma : List Float) : Type 0 where
  pub many : length trackers ≡ held
  pub states_are : x ≡ states_of trackers
  pub sigmas_are : sigma ≡ sigmas_of trackers

pub record TracksRead (held : ℕ) (trackers : List Track) (l : TrackLists) : Type 0 where
  pub trks_are : l.trks ≡ trks trackers
  pub confs_are : l.confs ≡ confs trackers
  pub states : States held trackers l.x l.sigma

-- ---- distances and boosts

pub record Distant (boxes held corners x sigma out : ℕ) : Type 0 where
  pub few-boxes : boxes ≤ 255
  pub few-tracks : held ≤ 255
  pub corners_fit : corners ≡ boxes * 4
  pub x_fits : x ≡ held * 4
  pub sigma-fits : sigma ≡ held * 4
  pub room : boxes * held ≤ out

-- what the DLO boost reads of the tracks besides
pub record TrackRoom (held floats counters trks confs : ℕ) : Type 0 where
  pub placed : held ≤ capacity floats counters
  pub trks_fit : trks ≡ held * 4
  pub confs_fit : confs ≡ held

-- ---- the retained boxes

pub record KeptBoxes (thresh : Float) (objects probs corners₀ corners : List Float) (w : ℕ) : Type 0 where
  pub count : w ≡ length (remain_inds thresh probs)
  pub cells : corners ≡ laid (λ i. corners_of (xyxy_of objects i)) 4 (remain_inds thresh probs) corners₀

-- the lists of the boxes
pub record BoxLists : Type 0 where
  pub scores : List Float
  pub corners : List Float
  pub labels : List ℕ

abbrev pub box_lists_with : List Float → List Float → List ℕ → BoxLists
box_lists_with scores corners labels = record { scores = scores; corners = corners; labels = labels }

pub record Retained (thresh : Float) (boxes : Boxes) (l₀ l : BoxLists) (kept : ℕ) : Type 0 where
  pub count : kept ≡ length (remain_inds thresh l₀.scores)
  pub corners_are : l.corners ≡ over (det_bboxes boxes.values (remain_inds thresh l₀.scores)) l₀.corners
  pub scores_are : take kept l.scores ≡ det_scores l₀.scores (remain_inds thresh l₀.scores)
  pub labels_are : l.labels ≡ over (det_labels boxes.labels (remain_inds thresh l₀.scores)) l₀.labels
  pub few : kept ≤ length l₀.scores

-- ---- steps 1 to 4 of predicted tracks, with the labels of all held ones

module _ (self : Settings) (frame : ℕ) (boxes : Boxes) (predicted : List Track) (labels : List ℕ) where
  abbrev pub once : List Float
  once = after_dlo (alike same_label boxes.labels labels) self (bboxes boxes.values) (trks predicted) (confs predicted) predicted (scores boxes.values)

  abbrev pub twice : List Float
  twice = after_duo self frame (bboxes boxes.values) predicted once

  abbrev pub inds : List ℕ
  inds = remain_inds self.det_thresh twice

  -- after the boosts; one is the score of the box that is asked about after the first
  pub record Raised (held seen : ℕ) (one : Float) (corners probs : List Float) (l : TrackLists) : Type 0 where
    pub first : one ≡ get_or once seen plus_zero
    pub raised : probs ≡ twice
    pub corners_are : corners ≡ bboxes boxes.values
    pub read : TracksRead held predicted l

  -- before the association, whatever the last id
  pub record Readied (held seen : ℕ) (r : Prepared) (l : Inputs) (work : List Float) : Type 0 where
    pub few : r.kept ≤ boxes_in boxes.values
    pub prepared : (last : ℕ) → PreparedAs self boxes (steps same_label self frame last boxes predicted labels) held seen r l work

-- what steps 1 to 4 ask for
pub record Room (held n floats counters labels work32 : ℕ) : Type 0 where
  pub few-boxes : n ≤ 255
  pub placed : held ≤ capacity floats counters
  pub labelled : n ≤ labels
  pub singles : 4 * (max held n * max held n) ≤ work32

-- ---- the association

-- for as many boxes as there are scores
pub record Sized (held corners trks confs scores work64 work32 : ℕ) : Type 0 where
  pub few-boxes : scores ≤ 255
  pub few-tracks : held ≤ 255
  pub corners_fit : corners ≡ scores * 4
  pub trks_fit : trks ≡ held * 4
  pub confs_fit : confs ≡ held
  pub doubles : max scores held * max scores held ≤ work64
  pub singles : 4 * (max scores held * max scores held) ≤ work32

-- result lists for any pairs
pub record ListRoom (pair_boxes pair_tracks unmatched left : ℕ) : Type 0 where
  pub pair-boxes_fit : 255 ≤ pair_boxes
  pub pair-tracks_fit : 255 ≤ pair_tracks
  pub unmatched_fit : 255 ≤ unmatched
  pub left_fit : 255 ≤ left
