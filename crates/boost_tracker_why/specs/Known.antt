-- The four fates, computed by the definition: first of a frame whose lists are given, of four boxes and two held tracks with the ids 3 and 5, then of document 01's first example, the box 10, 20, 32, 64 alone in frame 1 of
-- an empty table with trackbox's settings, with score 0.75 and with 0.5.
use Rattle.std.specs.Prelude.{◌≡◌, refl, List, [], ◌∷◌, map, ℕ}
use Rattle.std.specs.Float.Ieee.{of_bits, le}
use Rattle.floats.specs.Known.{f32}
use Rattle.laws.specs.Tab.{tab}
use Rattle.laws.specs.Laid.{rows}
use Rattle.laws.specs.Sieve.{sieve}
use Rattle.laws.specs.Elem.{elem}
use Rattle.strack.specs.Strack.{new as new_track}
use Rattle.assoc_matching.specs.Matching.{pair}
use Rattle.assoc_assignment.specs.Assignment.{assignment}
use Rattle.assoc.specs.Association.{associate_by}
use Rattle.boost_tracker_settings.specs.declared.settings.Settings.{Settings}
use Rattle.boost_tracker_settings.specs.Settings.{new}
use Rattle.boost_tracker_table.specs.Table.{Track, blank}
use Rattle.boost_tracker_verdict.specs.declared.sound.State.{State}
use Rattle.boost_tracker_verdict.specs.Boxes.{boxes_with}
use Rattle.boost_tracker_definition.specs.Update.{Stages, started_from, bboxes, scores, trks, confs, after_dlo, after_duo, remain_inds, det_bboxes, det_scores, mh_dist, det_labels, result, matched, started, stages_from, steps, update_by, update}
use Rattle.boost_tracker_fate.specs.declared.kinds.Fate.{Fate}
use Rattle.boost_tracker_fate.specs.declared.kinds.Fate.TheVariants.{Matched, Started, UnderThreshold, Rejected}
use Rattle.boost_tracker_fate.specs.Fate.{place_in}
use Rattle.boost_tracker_why.specs.Why.{lot_of, fate_of}

abbrev track : ℕ → Track
track i = record { kf = blank.kf; id = i; since = 0; streak = 0; age = 0 }

-- box 1 is not retained; of the others box 2 is matched to the first track, box 3 is rejected as a pair with the second, and box 0 is in no pair
abbrev listed : Stages
listed = record {
  frame_count = 9;
  predicted = track 3 ∷ track 5 ∷ [];
  trks = [];
  confs = [];
  after_dlo = [];
  after_duo = [];
  remain_inds = 0 ∷ 2 ∷ 3 ∷ [];
  det_bboxes = [];
  det_scores = [];
  mh_dist = [];
  result = assignment (pair 1 0 ∷ []) (0 ∷ 2 ∷ []) (1 ∷ []) (pair 2 1 ∷ []) 0 0;
  matched = [];
  started = started_from 7 (track 3 ∷ track 5 ∷ track 6 ∷ track 7 ∷ []);
  output = [];
  retained = [];
}

abbrev fates : Stages → List ℕ → List Fate
fates g boxes = map (λ b. fate_of g (lot_of g b)) boxes

abbrev settings : Settings
settings = new (f32 0x3f19_999a) (f32 0x3e99_999a) 30 3

abbrev empty : State
empty = record { count = 0; last = 0; frames = 0 }

abbrev first : ℕ → Stages
first score = update settings empty (boxes_with (f32 0x4120_0000 ∷ f32 0x41a0_0000 ∷ f32 0x4200_0000 ∷ f32 0x4280_0000 ∷ f32 score ∷ []) (1 ∷ [])) [] []

pub known : (fates listed (0 ∷ 1 ∷ 2 ∷ 3 ∷ []) ≡ Started 6 ∷ UnderThreshold ∷ Matched 3 ∷ Rejected 7 ∷ [])
    × (fates (first 0x3f40_0000) (0 ∷ []) ≡ Started 1 ∷ []) × (fates (first 0x3f00_0000) (0 ∷ []) ≡ UnderThreshold ∷ [])
unfolding lot_of place_in elem update_by steps stages_from bboxes scores trks confs after_dlo after_duo remain_inds det_bboxes det_scores det_labels mh_dist result associate_by matched started tab rows sieve new_track of_bits le
known = (refl, refl, refl)
