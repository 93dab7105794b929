-- What a call of `prepare`, steps 1 to 4 of a frame, and a call of `pairs`, step 5, answer and leave in lent memory; g is the definition's value. The table is only read, so that the tracks that are paired are predicted
-- and the lent ones are as they were.
use Rattle.std.specs.Prelude.{◌≡◌, Bool, cond, ◌&&◌, List, ℕ, ◌*◌, min, leb, ltb, length, get_or, take, Float, ⊤, Result, Ok, Err}
use Rattle.laws.specs.Count.{count_where}
use Rattle.floats.specs.Single.{plus_zero}
use Rattle.strack.specs.declared.rect.Xyxy.{Xyxy}
use Rattle.refusals.specs.declared.refusal.Refusal.TheVariants.{TooShort}
use Rattle.assoc_matching.specs.Answers as Matching
use Rattle.assoc_assignment.specs.declared.assignment.AssignmentCounts.{AssignmentCounts}
use Rattle.assoc_assignment.specs.Answers as Assignments
use Rattle.assoc.specs.Answers as Association
use Rattle.assoc.specs.Answers.{within_call}
use Rattle.boost_tracker_settings.specs.declared.settings.Settings.{Settings}
use Rattle.boost_tracker_table.specs.Lent.{Table, tracks_in, labels_in}
use Rattle.boost_tracker_verdict.specs.declared.refusal.Refusal.{Refusal}
use Rattle.boost_tracker_verdict.specs.declared.refusal.Refusal.TheVariants.{WorkShort}
use Rattle.boost_tracker_verdict.specs.declared.sound.State.{State}
use Rattle.boost_tracker_verdict.specs.Boxes.{Boxes}
use Rattle.boost_tracker_verdict.specs.Verdict.{boxes_in, verdict, or_else}
use Rattle.boost_tracker_definition.specs.Update.{xyxy_of, remains, det_labels, params, Stages, update}
use Rattle.boost_tracker_seen.specs.declared.seen.Seen.{Seen}
use Rattle.boost_tracker_pairs.specs.declared.pairing.Prepared.{Prepared}

-- ---- lent memory

-- what step 5 reads of steps 1 to 4 besides the distances: of the retained boxes, and of the predicted tracks
pub record Inputs : Type 0 where
  pub corners : List Float
  pub labels : List ℕ
  pub scores : List Float
  pub trks : List Float
  pub confs : List Float

abbrev pub inputs_with : List Float → List ℕ → List Float → List Float → List Float → Inputs
inputs_with corners labels scores trks confs = record { corners = corners; labels = labels; scores = scores; trks = trks; confs = confs }

-- lists for 255 boxes and 255 tracks
unfoldable pub roomy : ℕ → ℕ → ℕ → ℕ → ℕ → Bool
roomy corners labels scores trks confs = ((leb 1020 corners && leb 255 labels) && (leb 255 scores && leb 1020 trks)) && leb 255 confs

abbrev pub roomy_for : Inputs → Bool
roomy_for l = roomy (length l.corners) (length l.labels) (length l.scores) (length l.trks) (length l.confs)

-- ---- a box

abbrev pub nowhere : Xyxy
nowhere = record { x1 = plus_zero; y1 = plus_zero; x2 = plus_zero; y2 = plus_zero }

-- the corners of object i, or zeros where there is none
unfoldable pub xyxy_at : List Float → ℕ → Xyxy
xyxy_at objects i = cond (ltb i (boxes_in objects)) (xyxy_of objects i) nowhere

-- ---- steps 1 to 4

-- of box i the scores after each boost, and how many boxes before it are retained
abbrev pub seen_in : Float → List Float → List Float → ℕ → Seen
seen_in det_thresh once twice i = record { once = get_or once i plus_zero; twice = get_or twice i plus_zero; before = count_where (remains det_thresh twice) (min i (length twice)) }

-- the fronts of the lists are the definition's; `work` has the distances in its front, and i is the box that the caller asks about
pub record PreparedAs (s : Settings) (boxes : Boxes) (g : Stages) (held i : ℕ) (r : Prepared) (l : Inputs) (work : List Float) : Type 0 where
  pub count : r.kept ≡ length g.remain_inds
  pub seen-is : r.seen ≡ seen_in s.det_thresh g.after_dlo g.after_duo i
  pub corners_are : take (r.kept * 4) l.corners ≡ g.det_bboxes
  pub labels_are : take r.kept l.labels ≡ det_labels boxes.labels g.remain_inds
  pub scores_are : take r.kept l.scores ≡ g.det_scores
  pub trks_are : take (held * 4) l.trks ≡ g.trks
  pub confs_are : take held l.confs ≡ g.confs
  pub distances_are : take (r.kept * held) work ≡ g.mh_dist

-- what an answer says of the call
abbrev pub verdict_in : Result Prepared Refusal → Result ⊤ Refusal
verdict_in (Ok r) = Ok tt
verdict_in (Err why) = Err why

-- a call, by the lengths of the output and of the work slice of doubles that the caller has: the frame's verdict, and where that accepts and the lists are too short, 19. A refused call changes nothing
module _ (s : Settings) (state : State) (boxes : Boxes) (t : Table) (room work64 : ℕ) where
  abbrev pub prepare_verdict : Inputs → List Float → Result ⊤ Refusal
  prepare_verdict l work = or_else (verdict s state t boxes room work64 (length work)) (cond (roomy_for l) (Ok tt) (Err WorkShort))

  pub record PrepareCall (i : ℕ) (l₀ : Inputs) (work₀ : List Float) (r : Result Prepared Refusal) (l : Inputs) (work : List Float) : Type 0 where
    pub says : verdict_in r ≡ prepare_verdict l₀ work₀
    pub refused : {why : Refusal} → r ≡ Err why → (l ≡ l₀) × (work ≡ work₀)
    pub prepared : {p : Prepared} → r ≡ Ok p → PreparedAs s boxes (update s state boxes (tracks_in t state.count) (labels_in t state.count)) state.count i p l work

-- ---- step 5

-- lists with room for any have so many boxes and tracks in their fronts
abbrev pub fits : ℕ → ℕ → ℕ → Bool → Bool
fits kept held track_labels lists = ((leb kept 255 && leb held 255) && leb held track_labels) && lists

-- a call: the association of these fronts; where they are too short, 33, and nothing is changed
unfoldable pub pairs_call : Settings → ℕ → ℕ → Inputs → List ℕ → Association.Lent → Matching.Call AssignmentCounts Association.Lent
pairs_call s kept held l track_labels lent =
    cond (fits kept held (length track_labels) (roomy_for l))
    (within_call (params s kept held) kept held (take (kept * 4) l.corners) (take (held * 4) l.trks) (take held l.confs) (take kept l.scores) (take kept l.labels) (take held track_labels) lent)
    (Assignments.call_with (Err TooShort) lent)
