-- What only the contracts between private functions cite: the track of a box's pair in the table, what the pairs say of a box, and what an accepted frame is asked.
use Rattle.std.specs.Prelude.{◌≡◌, true, List, ℕ, ◌+◌, ◌≤◌, ◌<◌, ◌^◌, length, get_or, take, Float, Option, Some, None, Ok}
use Rattle.std.specs.Float.Ieee.{le}
use Rattle.labels.specs.Label.{label_at, same_label}
use Rattle.strack.specs.Strack.{predict, get_state}
use Rattle.assoc_matching.specs.Answers.{zeroed}
use Rattle.assoc_assignment.specs.declared.assignment.AssignmentCounts.{AssignmentCounts}
use Rattle.assoc_assignment.specs.Answers.{Lists}
use Rattle.assoc.specs.Answers.{cleared}
use Rattle.boost_tracker_settings.specs.declared.settings.Settings.{Settings}
use Rattle.boost_tracker_table.specs.Table.{Track, blank, tracks}
use Rattle.boost_tracker_table.specs.Lent.{Table, tracks_in, labels_in, Call, call_with}
use Rattle.boost_tracker_verdict.specs.declared.sound.State.{State}
use Rattle.boost_tracker_verdict.specs.Boxes.{Boxes}
use Rattle.boost_tracker_verdict.specs.Verdict.{boxes_in, verdict}
use Rattle.boost_tracker_definition.specs.Update.{xyxy_of, prob_of, Stages, update}
use Rattle.boost_tracker_seen.specs.declared.seen.Seen.{Seen}
use Rattle.boost_tracker_pairs.specs.declared.pairing.Prepared.{Prepared}
use Rattle.boost_tracker_pairs.specs.Pairs.{Inputs, roomy_for, PreparedAs}
use Rattle.boost_tracker_fate.specs.declared.kinds.Lot.{Lot}
use Rattle.boost_tracker_fate.specs.declared.kinds.Partner.{Partner}
use Rattle.boost_tracker_fate.specs.Partner.{partner_with, nobody}
use Rattle.boost_tracker_fate.specs.Private.{lot_by, track_of, place_of, told_by}
use Rattle.boost_tracker_fate.specs.declared.kinds.Explanation.{Explanation}
use Rattle.boost_tracker_why.specs.Why.{explanation}
use Rattle.boost_tracker_why.specs.Answers.{Work, work_with}

-- ---- the track of its pair, in the table

abbrev pub read_as : List Float → List ℕ → ℕ → ℕ → Track
read_as f c held t = predict (get_or (tracks f c held) t blank)

unfoldable pub met_by : List Float → List ℕ → List ℕ → ℕ → List Float → List ℕ → ℕ → ℕ → Partner
met_by f c labels held values box_labels b t =
    partner_with (same_label (label_at box_labels b) (label_at labels t)) (xyxy_of values b) (get_state (read_as f c held t)) (read_as f c held t).id

-- the track of its pair, if it has one
abbrev pub met_if : List Float → List ℕ → List ℕ → ℕ → List Float → List ℕ → ℕ → Option ℕ → Partner
met_if f c labels held values box_labels b None = nobody
met_if f c labels held values box_labels b (Some t) = met_by f c labels held values box_labels b t

unfoldable pub partner_by : List Float → List ℕ → List ℕ → ℕ → List Float → List ℕ → ℕ → Lot → Partner
partner_by f c labels held values box_labels b l = met_if f c labels held values box_labels b (track_of l)

-- ---- the id of the track that starts at its place

-- by the last id given
abbrev pub started_at : ℕ → Lot → ℕ
started_at last l = last + place_of l + 1

-- ---- by the pairs that step 5 found

-- what is read of the lists, the table and the boxes is there
pub record Answerable (state : State) (t : Table) (boxes : Boxes) (b : ℕ) (l : Lists) (counts : AssignmentCounts) : Type 0 where
  pub few : (counts.pairs ≤ 255) × (counts.detections ≤ 255) × (counts.tracks ≤ 255)
  pub pair-boxes_fit : length l.pair_boxes ≡ 255
  pub pair-tracks_fit : length l.pair_tracks ≡ 255
  pub unmatched_fit : length l.unmatched_detections ≡ 255
  pub left_fit : length l.unmatched_tracks ≡ 255
  pub boxes-low : boxes_in boxes.values ≤ 255
  pub given : b < boxes_in boxes.values
  pub labelled : state.count ≤ length t.labels
  pub ids-low : state.last + 256 < 2 ^ 64

abbrev pub lot_in : Settings → Seen → Lists → AssignmentCounts → Lot
lot_in s seen l counts =
    lot_by (le s.det_thresh seen.twice) seen.before counts.rejected (take counts.pairs l.pair_boxes) (take counts.pairs l.pair_tracks)
    (take counts.detections l.unmatched_detections) (take counts.tracks l.unmatched_tracks)

abbrev pub answered_by : Settings → State → Seen → Table → Boxes → ℕ → Lists → AssignmentCounts → Explanation
answered_by s state seen t boxes b l counts =
    let lot : Lot = lot_in s seen l counts in
    let partner : Partner = partner_by t.floats t.counters (labels_in t state.count) state.count boxes.values boxes.labels b lot in
    told_by lot partner (started_at state.last lot) (prob_of boxes.values b) seen.once seen.twice

-- ---- an accepted frame

-- that has the box, and of which `prepare` left this
pub record Asked (s : Settings) (state : State) (boxes : Boxes) (t : Table) (b : ℕ) (p : Prepared) (i : Inputs) (l : Work) : Type 0 where
  pub room : ℕ
  pub accepts : verdict s state t boxes room (length l.work64) (length l.work32) ≡ Ok tt
  pub given : b < boxes_in boxes.values
  pub roomy : roomy_for i ≡ true
  pub prepared : PreparedAs s boxes (update s state boxes (tracks_in t state.count) (labels_in t state.count)) state.count b p i l.work32

-- its box explained, and the work slices zero
abbrev pub explained_call : Settings → State → Boxes → Table → ℕ → Work → Call Explanation Work
explained_call s state boxes t b l =
    let labels : List ℕ = labels_in t state.count in
    let g : Stages = update s state boxes (tracks_in t state.count) labels in
    call_with (explanation g boxes labels b) (work_with (zeroed l.work64) (cleared l.work32))
