-- An accepted frame is `Ready`: each group of tests that passed, and what follows of it. Assumes nothing.
use mathlib.Core.Path.{◌≡◌, refl}
use mathlib.Core.Bool.{Bool, true, false, not, ◌||◌}
use mathlib.Core.List.{List}
use Prim.Native.Nat.{ℕ, ◌+◌, ◌*◌, ◌/◌, ◌≤◌, ◌<◌, max}
use native.Mathlib.Omega.{arith}
use lib.Dec.{leb, ltb, eqb}
use lib.ListN.{length, get_or}
use lib.Ieee.Scale.{finite}
use borrow.Author.Tests.{ltb-false, leb-true, leb-false, not-false}
use Rattle.std.specs.Bool.{⊤}
use Rattle.std.proofs.Common.{Result, Ok, Err}
use Rattle.laws.specs.Choose.{cond_no}
use Rattle.laws.specs.Tests.{and_left, and_right, or_none}
use Rattle.laws.specs.Scan.{lowest}
use Rattle.laws.specs.Every.{every, every-at, lowest-none}
use Rattle.labels.specs.Label.{unlabelled_at, unlabelled}
use Rattle.strack.specs.declared.rect.Xyxy.{Xyxy}
use Rattle.strack_filter.specs.KalmanFilter.{updatable}
use Rattle.strack.specs.Strack.{predict, update}
use Rattle.strack.proofs.Laws.{update-accepted, update-refused}
use Rattle.records.specs.TrackRecord.{track_bytes}
use Rattle.boost_tracker_settings.specs.declared.settings.Settings.{Settings}
use Rattle.boost_tracker_table.specs.Table.{Track, floats_of, blank}
use Rattle.boost_tracker_table.specs.Lent.{Table, places_of, tracks_in}
use Rattle.boost_tracker_table.proofs.Laws.{capacity-room, tracks-many}
use Rattle.boost_tracker_verdict.specs.declared.refusal.Refusal.{Refusal}
use Rattle.boost_tracker_verdict.specs.declared.refusal.Refusal.TheVariants.{TableNotSound, TrackNotLabelled, TrackNotWorkable, SettingNotFinite, TooManyBoxes, TableFull, BadBox, BoxNotLabelled, TooManyFrames, OutputShort, WorkShort}
use Rattle.boost_tracker_verdict.specs.declared.sound.State.{State}
use Rattle.boost_tracker_verdict.specs.Boxes.{Boxes}
use Rattle.boost_tracker_verdict.specs.Sound.{rising, counters_in, sound, sound_table}
use Rattle.boost_tracker_verdict.specs.Verdict.{workable, setting_floats, bad_box_at, boxes_in, of_table, of_boxes, of_room, or_else, verdict}
use Rattle.boost_tracker_verdict.specs.Ready.{HeldTrack, Ready}

-- `updatable` of a predicted track says exactly whether its correction is accepted, whatever the box
pub accepted_exactly : (t : Track) (bbox : Xyxy) → updatable (predict t).kf ≡ eqb (update (predict t) bbox).0 0
accepted_exactly t bbox = by_cases (updatable (predict t).kf) refl
  where
    by_cases : (b : Bool) → updatable (predict t).kf ≡ b → b ≡ eqb (update (predict t) bbox).0 0
    by_cases true e = rw (update-accepted (predict t) bbox e)
    by_cases false e = rw (update-refused (predict t) bbox e)

-- ---- each group of tests

refused : (why : Refusal) → ◌≡◌ {A = Result ⊤ Refusal} (Err why) (Ok tt) → ⊥
refused why q = let z : ◌≡◌ {A = ℕ} 0 1 = cc in omega arith

record TablePassed (s : Settings) (state : State) (t : Table) : Type 0 where
  pub is-sound : sound_table state t ≡ true
  pub is-labelled : state.count ≤ lowest (unlabelled_at t.labels) state.count
  pub is-workable : every workable (tracks_in t state.count) ≡ true
  pub is_finite : every finite (setting_floats s) ≡ true

table-passed : (s : Settings) (state : State) (t : Table) → of_table s state t ≡ Ok tt → TablePassed s state t
unfolding of_table
table-passed s state t e =
    let s₁ = cond_no (not (sound_table state t)) (Err TableNotSound) _ (Ok tt) (refused TableNotSound) e in
    let s₂ = cond_no (unlabelled t.labels state.count) (Err TrackNotLabelled) _ (Ok tt) (refused TrackNotLabelled) s₁.1 in
    let s₃ = cond_no (not (every workable (tracks_in t state.count))) (Err TrackNotWorkable) _ (Ok tt) (refused TrackNotWorkable) s₂.1 in
    let s₄ = cond_no (not (every finite (setting_floats s))) (Err SettingNotFinite) (Ok tt) (Ok tt) (refused SettingNotFinite) s₃.1 in
    record { is-sound = not-false _ s₁.0; is-labelled = ltb-false _ state.count s₂.0; is-workable = not-false _ s₃.0; is_finite = not-false _ s₄.0 }

record BoxesPassed (held places : ℕ) (boxes : Boxes) : Type 0 where
  pub low : boxes_in boxes.values ≤ 255
  pub placed : held + boxes_in boxes.values ≤ places
  pub none-bad : boxes_in boxes.values ≤ lowest (bad_box_at boxes.values) (boxes_in boxes.values)
  pub none-unlabelled : boxes_in boxes.values ≤ lowest (unlabelled_at boxes.labels) (boxes_in boxes.values)

boxes-passed : (held places : ℕ) (boxes : Boxes) → of_boxes held places boxes ≡ Ok tt → BoxesPassed held places boxes
unfolding of_boxes
boxes-passed held places boxes e =
    let n : ℕ = boxes_in boxes.values in
    let bad : ℕ = lowest (bad_box_at boxes.values) n in
    let bare : ℕ = lowest (unlabelled_at boxes.labels) n in
    let s₁ = cond_no (ltb 255 n) (Err TooManyBoxes) _ (Ok tt) (refused TooManyBoxes) e in
    let s₂ = cond_no (ltb places (held + n)) (Err TableFull) _ (Ok tt) (refused TableFull) s₁.1 in
    let s₃ = cond_no (ltb bad n) (Err (BadBox bad)) _ (Ok tt) (refused (BadBox bad)) s₂.1 in
    let s₄ = cond_no (ltb bare n) (Err (BoxNotLabelled bare)) (Ok tt) (Ok tt) (refused (BoxNotLabelled bare)) s₃.1 in
    record { low = ltb-false 255 n s₁.0; placed = ltb-false places (held + n) s₂.0; none-bad = ltb-false bad n s₃.0; none-unlabelled = ltb-false bare n s₄.0 }

record RoomPassed (held n frames out work64 work32 : ℕ) : Type 0 where
  pub few-frames : frames < 2147483647
  pub records : held + n ≤ out / track_bytes
  pub enough64 : max held n * max held n ≤ work64
  pub enough32 : 4 * (max held n * max held n) ≤ work32

room-passed : (held n frames out work64 work32 : ℕ) → of_room held n frames out work64 work32 ≡ Ok tt → RoomPassed held n frames out work64 work32
unfolding of_room
room-passed held n frames out work64 work32 e =
    let m : ℕ = max held n in
    let s₁ = cond_no (leb 2147483647 frames) (Err TooManyFrames) _ (Ok tt) (refused TooManyFrames) e in
    let s₂ = cond_no (ltb (out / track_bytes) (held + n)) (Err OutputShort) _ (Ok tt) (refused OutputShort) s₁.1 in
    let s₃ = cond_no (ltb work64 (m * m) || ltb work32 (4 * (m * m))) (Err WorkShort) (Ok tt) (Ok tt) (refused WorkShort) s₂.1 in
    let w = or_none (ltb work64 (m * m)) (ltb work32 (4 * (m * m))) s₃.0 in
    record {
      few-frames = leb-false 2147483647 frames s₁.0;
      records = ltb-false (out / track_bytes) (held + n) s₂.0;
      enough64 = ltb-false work64 (m * m) w.0;
      enough32 = ltb-false work32 (4 * (m * m)) w.1;
    }

-- ---- a sound table

record SoundParts (places : ℕ) (state : State) (ts : List Track) : Type 0 where
  pub within : state.count ≤ places
  pub rises : rising 0 ts ≡ true
  pub known-ids : every (λ t. leb t.id state.last) ts ≡ true
  pub last-low : state.last ≤ 255 * state.frames
  pub counters-low : every (counters_in state.frames) ts ≡ true

sound-parts : (places : ℕ) (state : State) (ts : List Track) → sound places state ts ≡ true → SoundParts places state ts
unfolding sound
sound-parts places state ts e =
    let r₁ = and_right (leb state.count places) _ e in
    let r₂ = and_right (rising 0 ts) _ r₁ in
    let r₃ = and_right (every (λ t. leb t.id state.last) ts) _ r₂ in
    record {
      within = leb-true state.count places (and_left (leb state.count places) _ e);
      rises = and_left (rising 0 ts) _ r₁;
      known-ids = and_left (every (λ t. leb t.id state.last) ts) _ r₂;
      last-low = leb-true state.last (255 * state.frames) (and_left (leb state.last (255 * state.frames)) _ r₃);
      counters-low = and_right (leb state.last (255 * state.frames)) _ r₃;
    }

-- ---- what the second and the third group of tests need of those before

pub held-few : (s : Settings) (state : State) (t : Table) → of_table s state t ≡ Ok tt → state.count ≤ 255
held-few s state t e =
    let within = (sound-parts _ state _ (table-passed s state t e).is-sound).within in
    omega arith

pub boxes-few : (held places : ℕ) (boxes : Boxes) → of_boxes held places boxes ≡ Ok tt → boxes_in boxes.values ≤ 255
boxes-few held places boxes e = (boxes-passed held places boxes e).low

-- ---- the whole

both : (a b : Result ⊤ Refusal) → or_else a b ≡ Ok tt → (a ≡ Ok tt) × (b ≡ Ok tt)
both (Ok tt) b e = (refl, e)
both (Err why) b e = absurd (refused why e)

held-track : (state : State) (ts : List Track) (i : ℕ) → i < length ts → every workable ts ≡ true → every (λ t. leb t.id state.last) ts ≡ true → every (counters_in state.frames) ts ≡ true
    → HeldTrack state (get_or ts i blank)
unfolding workable
held-track state ts i h w k n =
    let t : Track = get_or ts i blank in
    let works = every-at workable ts w i blank h in
    let counts = every-at (counters_in state.frames) ts n i blank h in
    let later = and_right (leb t.since state.frames) _ counts in
    record {
      id_low = leb-true t.id state.last (every-at (λ t. leb t.id state.last) ts k i blank h);
      since_low = leb-true t.since state.frames (and_left (leb t.since state.frames) _ counts);
      streak_low = leb-true t.streak state.frames (and_left (leb t.streak state.frames) _ later);
      age_low = leb-true t.age state.frames (and_right (leb t.streak state.frames) _ later);
      finite_floats = and_left (every finite (floats_of t)) _ works;
      correctable = and_right (every finite (floats_of t)) _ works;
    }

pub ready : (s : Settings) (state : State) (t : Table) (boxes : Boxes) (out work64 work32 : ℕ) → verdict s state t boxes out work64 work32 ≡ Ok tt → Ready s state t boxes out work64 work32
unfolding verdict
ready s state t boxes out work64 work32 e =
    let held : ℕ = state.count in
    let n : ℕ = boxes_in boxes.values in
    let split = both (of_table s state t) _ e in
    let rest = both (of_boxes held (places_of t) boxes) _ split.1 in
    let table = table-passed s state t split.0 in
    let parts = sound-parts _ state _ table.is-sound in
    let box = boxes-passed _ _ boxes rest.0 in
    let space = room-passed _ _ _ out work64 work32 rest.1 in
    let within = parts.within in
    let many : length (tracks_in t held) ≡ held = tracks-many t.floats t.counters held (omega (arith, within)) in
    let records = space.records in
    record {
      room = capacity-room (length t.floats) (length t.counters);
      held = within;
      boxes-low = box.low;
      boxes-in = omega arith;
      space = box.placed;
      output = omega (arith, records);
      doubles = space.enough64;
      singles = space.enough32;
      frames-low = space.few-frames;
      ids-low = parts.last-low;
      many = many;
      ids_rise = parts.rises;
      each = λ i h. held-track state (tracks_in t held) i (rw many h) table.is-workable parts.known-ids parts.counters-low;
      settings_finite = table.is_finite;
      good = lowest-none (bad_box_at boxes.values) n box.none-bad;
      labels-good = λ j h. not-false _ (lowest-none (unlabelled_at t.labels) held table.is-labelled j h);
      box-labels-good = λ i h. not-false _ (lowest-none (unlabelled_at boxes.labels) n box.none-unlabelled i h);
    }
