-- What the loops over a list of ids know, and what the returns of a drop are. Assumes nothing.
use mathlib.Core.Path.{◌≡◌, refl, sym, ap, ◌∙◌}
use mathlib.Core.Bool.{Bool, true, false, not}
use mathlib.Core.List.{List, [], ◌∷◌}
use Prim.Native.Nat.{ℕ, ◌≤◌, min}
use native.Mathlib.Nat.{le_trans}
use native.Mathlib.Omega.{arith}
use lib.ListN.{length, length-map, get_or, get_or-map}
use lib.Ieee.{Float}
use Rattle.std.specs.Bool.{⊤}
use Rattle.std.proofs.Common.{Result, Ok, Err}
use Rattle.std.specs.Prelude.{is_err, ◌==◌}
use borrow.Author.Tests.{not-false, eqb-true}
use Rattle.laws.specs.Choose.{cond_no}
use Rattle.laws.specs.Tests.{false_not_true}
use Rattle.laws.specs.Every.{every}
use Rattle.labels.specs.Label.{unlabelled}
use Rattle.boost_tracker_table.specs.Table.{Track, ids_of, blank, capacity, places_in, placed, tracks, unlisted, KeptWhere, Emptied, labels_kept, labels_emptied}
use Rattle.boost_tracker_table.specs.Lent.{Table, table_with, places_of, tracks_in, Call, call_with}
use Rattle.boost_tracker_table.proofs.Laws.{tracks-placed, tracks-many, lay_here, lay_finished}
use Rattle.boost_tracker_table.proofs.LabelLaws.{labels-finished}
use Rattle.boost_tracker_verdict.specs.declared.sound.State.{State}
use Rattle.boost_tracker_verdict.specs.Sound.{sound_table}
use Rattle.boost_tracker_verdict.proofs.SoundLaws.{sound-placed}
use Rattle.boost_tracker_forget.specs.declared.refusal.ForgetRefusal.{ForgetRefusal}
use Rattle.boost_tracker_forget.specs.declared.refusal.ForgetRefusal.TheVariants.{TableNotSound, TrackNotLabelled, IdTwice, IdNotHeld}
use Rattle.boost_tracker_forget.specs.Forget.{twice, all_held, first_of, verdict, without, ends, forgotten}

-- ---- ids that are held

pub held-many : (f : List Float) (c : List ℕ) (held : ℕ) {n : ℕ} → n ≡ placed (length f) (length c) held → length (ids_of (tracks f c held)) ≡ n
held-many f c held e = length-map (tracks f c held) (λ (t : Track). t.id) ∙ tracks-placed f c held ∙ sym e

pub held_at : (f : List Float) (c : List ℕ) (held i : ℕ) {t : Track} → t ≡ get_or (tracks f c held) i blank → t.id ≡ get_or (ids_of (tracks f c held)) i 0
held_at f c held i e = ap (λ (t : Track). t.id) e ∙ sym (get_or-map (λ (t : Track). t.id) (tracks f c held) i blank)

module _ (q : ℕ → Bool) where
  pub every_not : (x : ℕ) (xs : List ℕ) → q x ≡ false → every q (x ∷ xs) ≡ false
  unfolding every
  every_not x xs e = rw e

  pub every-behind : (x : ℕ) (xs : List ℕ) → q x ≡ true → every q (x ∷ xs) ≡ every q xs
  unfolding every
  every-behind x xs e = rw e

  pub every-none : every q [] ≡ true
  unfolding every
  every-none = refl

-- ---- what is known of an accepted drop

refused : (why : ForgetRefusal) → ◌≡◌ {A = Result ⊤ ForgetRefusal} (Err why) (Ok tt) → ⊥
refused why q = let z : ◌≡◌ {A = ℕ} 0 1 = cc in omega arith

pub record Droppable (s : State) (t : Table) (ids : List ℕ) : Type 0 where
  pub is-sound : sound_table s t ≡ true
  pub is-labelled : unlabelled t.labels s.count ≡ false
  pub none-twice : twice ids ≡ false
  pub all_held : all_held (tracks_in t s.count) ids ≡ true

pub droppable : (s : State) (t : Table) (ids : List ℕ) → verdict s t ids ≡ Ok tt → Droppable s t ids
unfolding verdict first_of
droppable s t ids e =
    let s₁ = cond_no (not (sound_table s t)) (Err TableNotSound) _ (Ok tt) (refused TableNotSound) e in
    let s₂ = cond_no (unlabelled t.labels s.count) (Err TrackNotLabelled) _ (Ok tt) (refused TrackNotLabelled) s₁.1 in
    let s₃ = cond_no (twice ids) (Err IdTwice) _ (Ok tt) (refused IdTwice) s₂.1 in
    let s₄ = cond_no (not (all_held (tracks_in t s.count) ids)) (Err IdNotHeld) (Ok tt) (Ok tt) (refused IdNotHeld) s₃.1 in
    record { is-sound = not-false _ s₁.0; is-labelled = s₂.0; none-twice = s₃.0; all_held = not-false _ s₄.0 }

pub accepts : {s : State} {t : Table} {ids : List ℕ} → Droppable s t ids → verdict s t ids ≡ Ok tt
unfolding verdict first_of
accepts w = rw (w.is-sound, w.is-labelled, w.none-twice, w.all_held)

-- ---- what a drop leaves

-- labels and tracks are kept, and zeros put beyond them
pub drop-is : (s : State) (f : List Float) (c n ids : List ℕ) {f₁ f₂ : List Float} {c₁ c₂ n₁ n₂ : List ℕ} {places count : ℕ}
    → s.count ≤ places_in (length f) (length c) (length n) → places ≡ places_in (length f) (length c) (length n)
    → n₁ ≡ labels_kept (unlisted ids) f c s.count n → KeptWhere (unlisted ids) f c s.count f₁ c₁ count
    → Emptied f₁ c₁ (placed (length f₁) (length c₁) places) (tracks f₁ c₁ (min count places)) f₂ c₂ → n₂ ≡ labels_emptied count places n₁
    → call_with (record { count = count; last = s.last; frames = s.frames }) (table_with f₂ c₂ n₂) ≡ without s (table_with f c n) ids
drop-is s f c n ids {f₁} {f₂} {c₁} {c₂} {n₁} {n₂} {places} {count} room ep named keeps empties clears =
    let fits : s.count ≤ places = rw ep room in
    let low : places ≤ capacity (length f) (length c) = rw ep (omega arith) in
    let long : places ≤ length n = rw ep (omega arith) in
    let many : length (tracks f c s.count) ≡ s.count = tracks-many f c s.count (le_trans fits low) in
    let ends = lay_finished (lay_here f c s.count) many fits low keeps empties in
    let labelled = labels-finished f c n s.count (unlisted ids) places fits low long ends.0 named clears in
    rw (ends.0, ends.1.floats, ends.1.counters, labelled, ep)

-- ---- a call

module _ (s : State) (t : Table) (ids : List ℕ) {v : Result ⊤ ForgetRefusal} (e : v ≡ verdict s t ids) where
  pub forgets_not : is_err v ≡ true → call_with (record { verdict = v; state = s }) t ≡ forgotten s t ids
  unfolding forgotten
  forgets_not h = rw (← e) (by_cases v h)
    where
      by_cases : (v : Result ⊤ ForgetRefusal) → is_err v ≡ true → call_with (record { verdict = v; state = s }) t ≡ ends v s t ids
      by_cases (Ok _) h = absurd (false_not_true h)
      by_cases (Err why) h = refl

  accepted : is_err v ≡ false → v ≡ Ok tt
  accepted = by_cases v
    where
      by_cases : (v : Result ⊤ ForgetRefusal) → is_err v ≡ false → v ≡ Ok tt
      by_cases (Ok tt) h = refl
      by_cases (Err why) h = absurd (false_not_true (sym h))

  pub accepted-placed : is_err v ≡ false → s.count ≤ places_of t
  accepted-placed h = sound-placed (places_of t) s (tracks_in t s.count) (droppable s t ids (sym e ∙ accepted h)).is-sound

  pub forgets-none : is_err v ≡ false → (length ids == 0) ≡ true → call_with (record { verdict = v; state = s }) t ≡ forgotten s t ids
  unfolding forgotten
  forgets-none h n = rw (← e, accepted h) (by_cases ids n)
    where
      by_cases : (xs : List ℕ) → (length xs == 0) ≡ true → call_with (record { verdict = Ok tt; state = s }) t ≡ ends (Ok tt) s t xs
      by_cases [] n = refl
      by_cases (x ∷ xs) n = let none = eqb-true (length (x ∷ xs)) 0 n in absurd (omega (arith, none))

  pub forgets-some : {s' : State} {t' : Table} → is_err v ≡ false → (length ids == 0) ≡ false → call_with s' t' ≡ without s t ids → call_with (record { verdict = v; state = s' }) t' ≡ forgotten s t ids
  unfolding forgotten
  forgets-some {s'} {t'} h n w = rw (← e, accepted h) (by_cases ids n w)
    where
      by_cases : (xs : List ℕ) → (length xs == 0) ≡ false → call_with s' t' ≡ without s t xs → call_with (record { verdict = Ok tt; state = s' }) t' ≡ ends (Ok tt) s t xs
      by_cases [] n w = absurd (false_not_true (sym n))
      by_cases (x ∷ xs) n w = ap (λ (k : Call State Table). call_with (record { verdict = Ok tt; state = k.answer }) k.lent) w
