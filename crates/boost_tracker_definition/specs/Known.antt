-- Document 01's first example, computed by the definition: the box 10, 20, 32, 64 with score 0.75, alone in frame 1 of an empty table. A box below the threshold starts no track, and one at the threshold does.
-- The box has label 1, as 02's N2 gives it, and so has its track; a member of staff starts a track of label 3, also where a partner's track is held at that place: no pair, and two tracks.
-- And a confidence of the boosts and the pairing above 1: it is not capped, whatever the setting cap_confidence has written to the output.
use Rattle.std.specs.Prelude.{◌≡◌, refl, List, [], ◌∷◌, map, ℕ, Float}
use Rattle.std.specs.Float.{binary32}
use Rattle.std.specs.Float.Ieee.{of_bits, to_bits, is_nan, add, sub, mul, div, lt, le, eq}
use Rattle.floats.specs.Known.{f32}
use Rattle.floats_pick.specs.Pick.{larger, smaller}
use Rattle.floats.specs.Power.{powi}
use Rattle.laws.specs.Tab.{tab}
use Rattle.laws.specs.Fold.{fold}
use Rattle.laws.specs.Laid.{rows, laid}
use Rattle.laws.specs.Packed.{packed}
use Rattle.laws.specs.Joined.{joined}
use Rattle.laws.specs.Sieve.{sieve}
use Rattle.laws.specs.Elem.{elem}
use Rattle.laws.specs.Count.{count_where}
use Rattle.laws.specs.Most.{most}
use Rattle.labels.specs.Label.{same_label}
use Rattle.strack.specs.Rect.{width_of}
use Rattle.strack.specs.Strack.{new as new_track, predict, get_state, confidence}
use Rattle.boost_tracker_mh_dist.specs.MhDist.{reciprocal, mh_dist as distance}
use Rattle.boost_tracker_dlo.specs.Dlo.{max_s, coefficient, boosted, dlo_confidence_boost}
use Rattle.boost_tracker_duo.specs.Duo.{min_mh_dist, is_candidate, boost_candidates, duo_confidence_boost}
use Rattle.assoc_matching.specs.Matching.{boxes_of, above, simple, simple_matches, match_detections}
use Rattle.assoc_assignment.specs.Assignment.{unmatched, assigned_by}
use Rattle.assoc.specs.Association.{stands, associate_by}
use Rattle.boost_tracker_settings.specs.declared.settings.Settings.{Settings}
use Rattle.boost_tracker_verdict.specs.declared.sound.State.{State}
use Rattle.boost_tracker_settings.specs.Settings.{new}
use Rattle.boost_tracker_table.specs.Table.{Track}
use Rattle.boost_tracker_emission.specs.Record.{record_of}
use Rattle.boost_tracker_verdict.specs.Boxes.{boxes_with}
use Rattle.boost_tracker_definition.specs.Update.{Stages, xyxy_of, bboxes, scores, trks, confs, after_dlo, after_duo, dlo, duo, remain_inds, det_bboxes, det_scores, mh_dist, det_labels, result, matched, started, stages_from, steps, update_by, update, state_after, labels_started}

-- trackbox's settings
abbrev settings : Settings
settings = new (f32 0x3f19_999a) (f32 0x3e99_999a) 30 3

abbrev empty : State
empty = record { count = 0; last = 0; frames = 0 }

abbrev box : ℕ → List Float
box score = f32 0x4120_0000 ∷ f32 0x41a0_0000 ∷ f32 0x4200_0000 ∷ f32 0x4280_0000 ∷ f32 score ∷ []

-- a frame's new count, last id and frame count
abbrev counts : Stages → List ℕ
counts g = (state_after g).count ∷ (state_after g).last ∷ (state_after g).frames ∷ []

-- a track record, as trackbox prints it
abbrev shown : Track → List ℕ
shown t =
    (record_of 1 t 1).frame ∷ (record_of 1 t 1).id ∷ to_bits binary32 (record_of 1 t 1).left ∷ to_bits binary32 (record_of 1 t 1).top ∷ to_bits binary32 (record_of 1 t 1).width ∷ to_bits binary32 (record_of 1 t 1).height
    ∷ to_bits binary32 (record_of 1 t 1).confidence ∷ (record_of 1 t 1).label ∷ []

abbrev first : ℕ → Stages
first score = update settings empty (boxes_with (box score) (1 ∷ [])) [] []

abbrev staffed : Stages
staffed = update settings empty (boxes_with (box 0x3f40_0000) (3 ∷ [])) [] []

-- a partner's track, held after frame 1, and staff in its place
abbrev partner : Track
partner = new_track (xyxy_of (box 0) 0) 1

abbrev leaning : Stages
leaning = update settings (record { count = 1; last = 1; frames = 1 }) (boxes_with (box 0x3f40_0000) (3 ∷ [])) (partner ∷ []) (2 ∷ [])

-- how many pairs, and both unmatched lists
abbrev lists : Stages → List (List ℕ)
lists g = boxes_of g.result.matches ∷ g.result.unmatched_detections ∷ g.result.unmatched_tracks ∷ []

-- a track of age 7 with time since update 0: predicted ones, as a frame has them here, have 1 or more, so that of these none is above 1
abbrev seen : Track
seen = record { kf = (new_track (xyxy_of (box 0) 0) 1).kf; id = 1; since = 0; streak = 3; age = 7 }

pub known : (map shown (first 0x3f40_0000).output ≡ (1 ∷ 1 ∷ 0x4120_0000 ∷ 0x41a0_0000 ∷ 0x4200_0000 ∷ 0x4280_0000 ∷ 0x3ef4_e351 ∷ 1 ∷ []) ∷ []) × (counts (first 0x3f40_0000) ≡ 1 ∷ 1 ∷ 1 ∷ [])
    × (counts (first 0x3f00_0000) ≡ 0 ∷ 0 ∷ 1 ∷ []) × (counts (first 0x3f19_999a) ≡ 1 ∷ 1 ∷ 1 ∷ [])
    × (labels_started (1 ∷ []) [] (first 0x3f40_0000) ≡ 1 ∷ []) × (labels_started (3 ∷ []) [] staffed ≡ 3 ∷ [])
    × (lists leaning ≡ [] ∷ (0 ∷ []) ∷ (0 ∷ []) ∷ []) × (counts leaning ≡ 2 ∷ 2 ∷ 2 ∷ []) × (labels_started (3 ∷ []) (2 ∷ []) leaning ≡ 2 ∷ 3 ∷ [])
    × (map (to_bits binary32) (confs (seen ∷ [])) ≡ 0x3f8e_38e4 ∷ [])
unfolding update_by steps stages_from bboxes scores trks confs after_dlo after_duo dlo duo remain_inds det_bboxes det_scores det_labels mh_dist result associate_by stands same_label matched started labels_started
    dlo_confidence_boost boosted coefficient max_s duo_confidence_boost boost_candidates is_candidate min_mh_dist distance reciprocal assigned_by unmatched match_detections above simple simple_matches
    tab fold rows laid packed joined sieve elem count_where most record_of new_track predict get_state width_of confidence powi larger smaller of_bits to_bits is_nan add sub mul div lt le eq
known = (refl, refl, refl, refl, refl, refl, refl, refl, refl, refl)
