-- With `always`, and with one label everywhere, the frame is the one without labels: the statement of specs/Unlabelled. Assumes nothing.
use mathlib.Core.Path.{◌≡◌, refl, sym, ap, ◌∙◌}
use mathlib.Core.Bool.{Bool, true, cond, ◌&&◌}
use mathlib.Core.List.{List, map}
use Prim.Native.Nat.{ℕ, ◌+◌, ◌≤◌, ◌<◌}
use native.Mathlib.Omega.{arith}
use lib.ListN.{length, length-map, get_or}
use lib.Ieee.{Float}
use borrow.Author.Tests.{eq-eqb}
use Rattle.laws.specs.Tab.{map_at}
use Rattle.labels.specs.Label.{label_at, same_label, always, alike}
use Rattle.strack.specs.Strack.{predict}
use Rattle.boost_tracker_mh_dist.specs.MhDist.{get_mh_dist_matrix}
use Rattle.boost_tracker_dlo.proofs.Laws.{dlo-alike}
use Rattle.assoc_assignment.specs.Assignment.{Assignment}
use Rattle.assoc.specs.Unlabelled.{associate_unlabelled}
use Rattle.assoc.proofs.UnlabelledLaws.{with_always, with_equal}
use Rattle.boost_tracker_settings.specs.declared.settings.Settings.{Settings}
use Rattle.boost_tracker_verdict.specs.declared.sound.State.{State}
use Rattle.boost_tracker_table.specs.Table.{Track}
use Rattle.boost_tracker_verdict.specs.Boxes.{Boxes}
use Rattle.boost_tracker_verdict.specs.Verdict.{boxes_in}
use Rattle.boost_tracker_definition.specs.Update.{some, tracker_at, bboxes, scores, trks, confs, dlo_settings, dlo, after_dlo, after_duo, remain_inds, det_bboxes, det_scores, det_labels, mh_dist, params, result, stages_from, steps, update_by}
use Rattle.boost_tracker_definition.specs.Unlabelled.{dlo_unlabelled, steps_unlabelled, OfBefore}
use Rattle.boost_tracker_definition.proofs.LabelFacts.{remain_below}
use Rattle.boost_tracker_definition.proofs.FactLaws.{dlo-many, duo-many, scores-many, scores_of, kept_few}

-- two ways of pairing that agree on the boxes that remain
stages_agree : (self : Settings) (frame last : ℕ) (objects : List Float) (predicted : List Track) (once : List Float) (pairs pairs' : List ℕ → List Float → List Float → Assignment)
    → (let twice : List Float = after_duo self frame (bboxes objects) predicted once in
    let inds : List ℕ = remain_inds self.det_thresh twice in
    pairs inds (det_bboxes objects inds) (det_scores twice inds) ≡ pairs' inds (det_bboxes objects inds) (det_scores twice inds))
    → stages_from self frame last objects predicted once pairs ≡ stages_from self frame last objects predicted once pairs'
unfolding stages_from
stages_agree self frame last objects predicted once pairs pairs' e = rw e

label_at_lem : (box_labels inds : List ℕ) (i : ℕ) → i < length inds → label_at (det_labels box_labels inds) i ≡ label_at box_labels (get_or inds i 0)
unfolding det_labels
label_at_lem box_labels inds i h = map_at (label_at box_labels) inds i 0 0 h

module _ (self : Settings) (frame last : ℕ) (objects : Boxes) (predicted : List Track) (labels : List ℕ) where
  abbrev values : List Float
  values = objects.values

  abbrev ts : List Float
  ts = trks predicted

  abbrev cs : List Float
  cs = confs predicted

  -- the pairs by a rule, and those without labels
  abbrev pairs_by : (ℕ → ℕ → Bool) → List ℕ → List Float → List Float → Assignment
  pairs_by same inds boxes probs = result same self boxes probs predicted ts cs (det_labels objects.labels inds) labels

  abbrev pairs_plain : List ℕ → List Float → List Float → Assignment
  pairs_plain inds boxes probs = associate_unlabelled (params self (length probs) (length predicted)) (length probs) (length predicted) boxes ts (mh_dist (length probs) boxes predicted) cs probs

  -- the scores after the DLO boost by a rule, and those without labels
  abbrev once_by : (ℕ → ℕ → Bool) → List Float
  once_by same = after_dlo (alike same objects.labels labels) self (bboxes values) ts cs predicted (scores values)

  abbrev once_plain : List Float
  once_plain = cond (self.use_dlo_boost && some predicted) (dlo_unlabelled self (bboxes values) ts cs predicted (scores values)) (scores values)

  dlo_plain : (same : ℕ → ℕ → Bool) → ((i j : ℕ) → i < boxes_in values → j < length predicted → alike same objects.labels labels i j ≡ true) → once_by same ≡ once_plain
  unfolding after_dlo dlo dlo_unlabelled
  dlo_plain same e =
      ap (λ (l : List Float). cond (self.use_dlo_boost && some predicted) l (scores values))
      (dlo-alike (alike same objects.labels labels) (dlo_settings self) (bboxes values) ts cs (get_mh_dist_matrix (bboxes values) (tracker_at predicted)) (λ j. (tracker_at predicted j).since)
      (length (scores values)) (length predicted) (scores values) (λ i j hi hj. e i j (rw (scores-many values) at hi) hj))

  -- the frame of before, where scores and pairs are
  plain_of : (same : ℕ → ℕ → Bool) → once_by same ≡ once_plain
      → (let twice : List Float = after_duo self frame (bboxes values) predicted (once_by same) in
      let inds : List ℕ = remain_inds self.det_thresh twice in
      pairs_by same inds (det_bboxes values inds) (det_scores twice inds) ≡ pairs_plain inds (det_bboxes values inds) (det_scores twice inds))
      → steps same self frame last objects predicted labels ≡ steps_unlabelled self frame last values predicted
  unfolding steps steps_unlabelled
  plain_of same once pairs =
      stages_agree self frame last values predicted (once_by same) (pairs_by same) pairs_plain pairs
      ∙ ap (λ (l : List Float). stages_from self frame last values predicted l pairs_plain) once

  pub steps-always : steps always self frame last objects predicted labels ≡ steps_unlabelled self frame last values predicted
  unfolding result
  steps-always =
      let twice : List Float = after_duo self frame (bboxes values) predicted (once_by always) in
      let inds : List ℕ = remain_inds self.det_thresh twice in
      let probs : List Float = det_scores twice inds in
      let boxes : List Float = det_bboxes values inds in
      plain_of always (dlo_plain always (λ i j hi hj. refl))
      (with_always (params self (length probs) (length predicted)) (length probs) (length predicted) boxes ts (mh_dist (length probs) boxes predicted) cs probs (det_labels objects.labels inds) labels)

  -- one label everywhere
  module _ (label : ℕ) (few-boxes : boxes_in values ≤ 255) (few-tracks : length predicted ≤ 255) (boxes_are : (i : ℕ) → i < boxes_in values → label_at objects.labels i ≡ label)
      (tracks_are : (j : ℕ) → j < length predicted → label_at labels j ≡ label) where
    all_alike : (i j : ℕ) → i < boxes_in values → j < length predicted → alike same_label objects.labels labels i j ≡ true
    unfolding same_label
    all_alike i j hi hj = eq-eqb _ _ (boxes_are i hi ∙ sym (tracks_are j hj))

    pub steps_equal : steps same_label self frame last objects predicted labels ≡ steps_unlabelled self frame last values predicted
    unfolding result
    steps_equal =
        let twice : List Float = after_duo self frame (bboxes values) predicted (once_by same_label) in
        let inds : List ℕ = remain_inds self.det_thresh twice in
        let probs : List Float = det_scores twice inds in
        let boxes : List Float = det_bboxes values inds in
        let many : length twice ≡ boxes_in values =
        duo-many self frame (bboxes values) predicted (once_by same_label) ∙ dlo-many (alike same_label objects.labels labels) self (bboxes values) ts cs predicted (scores values) ∙ scores-many values in
        let few : length probs ≤ boxes_in values = rw many at (kept_few self.det_thresh twice) in
        let remain_are : (i : ℕ) → i < length probs → label_at (det_labels objects.labels inds) i ≡ label =
        λ i h. let c : i < length inds = rw (scores_of twice inds) at h in
        let low : get_or inds i 0 < boxes_in values = rw many at (remain_below self.det_thresh twice i c) in
        label_at_lem objects.labels inds i c ∙ boxes_are (get_or inds i 0) low in
        plain_of same_label (dlo_plain same_label all_alike)
        (with_equal (params self (length probs) (length predicted)) (length probs) (length predicted) boxes ts (mh_dist (length probs) boxes predicted) cs probs (det_labels objects.labels inds) labels label
        (omega (arith, few, few-boxes)) few-tracks remain_are tracks_are)

pub of_before : (self : Settings) (state : State) (objects : Boxes) (trackers : List Track) (labels : List ℕ) → OfBefore self state objects trackers labels
unfolding update_by
of_before self state objects trackers labels =
    record {
      always-is = steps-always self (state.frames + 1) state.last objects (map predict trackers) labels;
      equal_is = λ label few-boxes few-tracks boxes_are tracks_are.
          steps_equal self (state.frames + 1) state.last objects (map predict trackers) labels label few-boxes (rw (length-map trackers predict) few-tracks) boxes_are
          (λ j h. tracks_are j (rw (length-map trackers predict) at h));
    }
