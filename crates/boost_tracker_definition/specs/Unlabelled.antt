-- boost_tracker.rs's frame, which knows no labels, and what document 02, N2, asks: "With equal labels everywhere the results are those of before."
-- `of_before` of proofs/UnlabelledLaws.antt proves it. Stages has no label in it, so that every stage is meant: scores, pairs, lists, counts, tracks, and what is put out.
use Rattle.std.specs.Prelude.{◌≡◌, cond, ◌||◌, ◌&&◌, List, map, ℕ, ◌+◌, ◌≤◌, ◌<◌, eqb, length, Float}
use Rattle.labels.specs.Label.{label_at, always}
use Rattle.strack.specs.Strack.{predict}
use Rattle.boost_tracker_mh_dist.specs.MhDist.{get_mh_dist_matrix}
use Rattle.boost_tracker_dlo.specs.Dlo.{similarity, boosted}
use Rattle.assoc.specs.Unlabelled.{associate_unlabelled}
use Rattle.boost_tracker_settings.specs.declared.settings.Settings.{Settings}
use Rattle.boost_tracker_verdict.specs.declared.sound.State.{State}
use Rattle.boost_tracker_table.specs.Table.{Track}
use Rattle.boost_tracker_verdict.specs.Boxes.{Boxes}
use Rattle.boost_tracker_verdict.specs.Verdict.{boxes_in}
use Rattle.boost_tracker_definition.specs.Update.{some, tracker_at, bboxes, scores, trks, confs, dlo_settings, mh_dist, params, Stages, stages_from, update_by, update}

-- dlo_confidence_boost, lines 475-572
unfoldable pub dlo_unlabelled : Settings → List Float → List Float → List Float → List Track → List Float → List Float
dlo_unlabelled self bboxes trks confs trackers scores =
    cond (eqb (length trackers) 0 || eqb (length scores) 0) scores
    (boosted (dlo_settings self) (similarity (dlo_settings self) bboxes trks confs (get_mh_dist_matrix bboxes (tracker_at trackers)) (length scores)) (λ j. (tracker_at trackers j).since) (length scores) (length trackers) scores)

-- from the predicted trackers on, lines 276-390
unfoldable pub steps_unlabelled : Settings → ℕ → ℕ → List Float → List Track → Stages
steps_unlabelled self frame_count track_id_count objects predicted =
    let ts : List Float = trks predicted in
    let cs : List Float = confs predicted in
    stages_from self frame_count track_id_count objects predicted
    (cond (self.use_dlo_boost && some predicted) (dlo_unlabelled self (bboxes objects) ts cs predicted (scores objects)) (scores objects))
    (λ inds boxes probs. associate_unlabelled (params self (length probs) (length predicted)) (length probs) (length predicted) boxes ts (mh_dist (length probs) boxes predicted) cs probs)

abbrev pub update_unlabelled : Settings → State → List Float → List Track → Stages
update_unlabelled self state objects trackers = steps_unlabelled self (state.frames + 1) state.last objects (map predict trackers)

pub record OfBefore (self : Settings) (state : State) (objects : Boxes) (trackers : List Track) (labels : List ℕ) : Type 0 where
  -- by the rule that tells no two labels apart, whatever the labels
  pub always-is : update_by always self state objects trackers labels ≡ update_unlabelled self state objects.values trackers
  -- by 02's rule, with one label everywhere
  pub equal_is : (label : ℕ) → boxes_in objects.values ≤ 255 → length trackers ≤ 255
      → ((i : ℕ) → i < boxes_in objects.values → label_at objects.labels i ≡ label) → ((j : ℕ) → j < length trackers → label_at labels j ≡ label)
      → update self state objects trackers labels ≡ update_unlabelled self state objects.values trackers
