-- Document 02, N2: "With equal labels everywhere the results are those of before." Of the frame boost_tracker_definition's Unlabelled says it; here it is said of a call of `update` and all that it leaves: pairs, lists and
-- counts, the table but its labels, the records but their labels; and the labels that it leaves are that one label. `equal_labels` of proofs/Theorem.antt proves it.
use Rattle.std.specs.Prelude.{◌≡◌, Bool, List, ◌++◌, ℕ, ◌<◌, length, replicate, Ok}
use Rattle.laws.specs.Laid.{laid}
use Rattle.labels.specs.Label.{label_at}
use Rattle.floats.specs.Single.{plus_zero}
use Rattle.assoc_matching.specs.Answers.{zeroed}
use Rattle.assoc.specs.Answers.{cleared}
use Rattle.records.specs.declared.track_record.TrackRecord.{TrackRecord}
use Rattle.records.specs.Field.{little_endian, five}
use Rattle.records.specs.TrackRecord.{track_bytes}
use Rattle.boost_tracker_settings.specs.declared.settings.Settings.{Settings}
use Rattle.boost_tracker_verdict.specs.declared.sound.State.{State}
use Rattle.boost_tracker_table.specs.Table.{Track, place_floats, place_counters, floats_of, counters_of, filled_up, zero_filled}
use Rattle.boost_tracker_table.specs.Lent.{places_of, tracks_in, call_with}
use Rattle.boost_tracker_emission.specs.Record.{record_of, written}
use Rattle.boost_tracker_verdict.specs.Boxes.{Boxes}
use Rattle.boost_tracker_verdict.specs.Verdict.{boxes_in}
use Rattle.boost_tracker_definition.specs.Update.{Stages}
use Rattle.boost_tracker_definition.specs.Unlabelled.{update_unlabelled}
use Rattle.boost_tracker.specs.declared.frame.UpdateAnswer.{UpdateAnswer}
use Rattle.boost_tracker.specs.Frame.{accepted_answer, Memory, worked, updated}

-- ---- before labels

-- the frame of before, which looks at no label
abbrev pub before : Settings → State → Boxes → Memory → Stages
before s state boxes m = update_unlabelled s state boxes.values (tracks_in m.table state.count)

-- document 01: "A track record is 32 bytes: frame u32, id u64, left, top, width, height, confidence as f32."
abbrev pub bytes_before : Bool → ℕ → Track → List ℕ
bytes_before cap frame t =
    let r : TrackRecord = written cap (record_of frame t 0) in
    little_endian 4 r.frame ++ (little_endian 8 r.id ++ five r.left r.top r.width r.height r.confidence)

-- ---- one label everywhere

-- of every held track and of every box
pub record OneLabel (label : ℕ) (state : State) (boxes : Boxes) (m : Memory) : Type 0 where
  pub of_tracks : (j : ℕ) → j < state.count → label_at m.table.labels j ≡ label
  pub of_boxes_lem : (i : ℕ) → i < boxes_in boxes.values → label_at boxes.labels i ≡ label

-- g is the frame of before; r and m' are answered and left
pub record ResultsOfBefore (label : ℕ) (s : Settings) (state : State) (boxes : Boxes) (m : Memory) (g : Stages) (r : UpdateAnswer) (m' : Memory) : Type 0 where
  -- every stage, and so the pairs and the lists
  pub stages : worked s state boxes m ≡ g
  -- the state, and the counts: of tracks put out, row turns, column scans
  pub answer : r ≡ accepted_answer g
  -- the table but its labels: the retained tracks, zero in every place beyond them, and cells past the places, of which there are no more than labels, as they were
  pub floats : m'.table.floats ≡ filled_up floats_of place_floats plus_zero g.retained (places_of m.table) m.table.floats
  pub counters : m'.table.counters ≡ filled_up counters_of place_counters 0 g.retained (places_of m.table) m.table.counters
  -- the records but their labels: those of before, each with that label behind it
  pub records : m'.output ≡ laid (λ t. bytes_before s.cap_confidence g.frame_count t ++ little_endian 1 label) track_bytes g.output m.output
  -- the labels are that one label, of each track that is held then
  pub labels : m'.table.labels ≡ zero_filled (replicate (length g.retained) label) (places_of m.table) m.table.labels
  pub work64 : m'.work64 ≡ zeroed m.work64
  pub work32 : m'.work32 ≡ cleared m.work32

-- every accepted call of `update`, by its contract
abbrev pub EqualLabels : Type 0
EqualLabels =
    (label : ℕ) (s : Settings) (state : State) (boxes : Boxes) (m : Memory) (r : UpdateAnswer) (m' : Memory)
    → call_with r m' ≡ updated s state boxes m → r.verdict ≡ Ok tt → OneLabel label state boxes m → ResultsOfBefore label s state boxes m (before s state boxes m) r m'
