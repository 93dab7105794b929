-- Demand 1: a frame is worked whole or turned down. `conditions` has each refusal of document 01 by its own words, whatever the others say, and among them those of 02's N2: "10 a label other than 1 to 3 of a held
-- track, after 11 and before 12; 20 such a label in a box, with the lowest such index, after 16 and before 17". `WholeOrTurnedDown` holds of every call that ends as `update`'s contract says:
-- `worked-whole_or_turned_down` of proofs/Theorem.antt.
use Rattle.std.specs.Prelude.{◌≡◌, Bool, cond, not, ◌||◌, List, [], ◌∷◌, ℕ, ◌+◌, ◌*◌, ◌/◌, ◌≤◌, max, leb, ltb, eqb, length}
use Rattle.std.specs.Float.Ieee.Scale.{finite}
use Rattle.laws.specs.Scan.{lowest}
use Rattle.laws.specs.Every.{every}
use Rattle.labels.specs.Label.{unlabelled_at, unlabelled}
use Rattle.records.specs.TrackRecord.{track_bytes}
use Rattle.boost_tracker_settings.specs.declared.settings.Settings.{Settings}
use Rattle.boost_tracker_verdict.specs.declared.sound.State.{State}
use Rattle.boost_tracker_table.specs.Lent.{places_of, tracks_in}
use Rattle.boost_tracker_verdict.specs.Boxes.{Boxes}
use Rattle.boost_tracker_verdict.specs.Sound.{sound_table}
use Rattle.boost_tracker_verdict.specs.Verdict.{answer, workable, setting_floats, bad_box_at, boxes_in}
use Rattle.boost_tracker.specs.declared.frame.UpdateAnswer.{UpdateAnswer}
use Rattle.boost_tracker.specs.Frame.{refused_answer, accepted_answer, Memory, memory_after, worked, labels_of}

module _ (s : Settings) (state : State) (boxes : Boxes) (m : Memory) where
  -- the boxes, held plus boxes, the places, the larger of held and boxes, the lowest bad box, and the lowest without a label
  abbrev pub given : ℕ
  given = boxes_in boxes.values

  abbrev pub records : ℕ
  records = state.count + given

  abbrev pub places : ℕ
  places = places_of m.table

  abbrev pub side : ℕ
  side = max state.count given

  abbrev pub lowest_bad : ℕ
  lowest_bad = lowest (bad_box_at boxes.values) given

  abbrev pub lowest_unlabelled : ℕ
  lowest_unlabelled = lowest (unlabelled_at boxes.labels) given

  -- the refusals, each with its number
  abbrev pub conditions : List (ℕ × Bool)
  conditions =
      (11, not (sound_table state m.table))
      ∷ (10, unlabelled m.table.labels state.count)
      ∷ (12, not (every workable (tracks_in m.table state.count)))
      ∷ (13, not (every finite (setting_floats s)))
      ∷ (14, ltb 255 given)
      ∷ (15, ltb places records)
      ∷ (16, ltb lowest_bad given)
      ∷ (20, unlabelled boxes.labels given)
      ∷ (17, leb 2147483647 state.frames)
      ∷ (18, ltb (length m.output / track_bytes) records)
      ∷ (19, ltb (length m.work64) (side * side) || ltb (length m.work32) (4 * (side * side)))
      ∷ []

-- the first number whose condition holds, and 0 where none does
unfoldable pub first : List (ℕ × Bool) → ℕ
first [] = 0
first (c ∷ cs) = cond c.1 c.0 (first cs)

-- the answer of refusal n: with 16 and 20 the box goes along
abbrev pub said : ℕ → ℕ → ℕ → ℕ × ℕ
said n bad unlabelled = (n, cond (eqb n 16) bad (cond (eqb n 20) unlabelled 0))

-- n is the first refusal that applies: that is the answer, and all memory is as before
pub record TurnedDown (n bad unlabelled : ℕ) (state : State) (m : Memory) (r : UpdateAnswer) (m' : Memory) : Type 0 where
  pub says : answer r.verdict ≡ said n bad unlabelled
  pub rest : r ≡ refused_answer r.verdict state
  pub memory : m' ≡ m

pub data WholeOrTurnedDown (s : Settings) (state : State) (boxes : Boxes) (m : Memory) (r : UpdateAnswer) (m' : Memory) : Type 0 where
  turned_down : 10 ≤ first (conditions s state boxes m) → TurnedDown (first (conditions s state boxes m)) (lowest_bad s state boxes m) (lowest_unlabelled s state boxes m) state m r m'
      → WholeOrTurnedDown s state boxes m r m'
  -- the answer and each cell of memory are the definition's
  whole : first (conditions s state boxes m) ≡ 0 → r ≡ accepted_answer (worked s state boxes m) → m' ≡ memory_after s (labels_of state boxes m (worked s state boxes m)) (worked s state boxes m) m
      → WholeOrTurnedDown s state boxes m r m'
