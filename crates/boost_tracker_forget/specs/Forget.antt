-- Document 02, N11: "Dropping one id is wanted, and the same for a set of ids in one call. A set is dropped whole or not at all, an empty set changes nothing, otherwise places beyond the new count become zero,
-- the remaining tracks retain order and values, last id and frame count are unchanged .. Turned away: 11, then 10 of the frame; then 101 an id given twice; then 102 an id not held."
use Rattle.std.specs.Prelude.{◌≡◌, Bool, false, cond, not, ◌||◌, ℕ, length, ⊤, Result, Ok, Err}
use mathlib.Core.List.{List, [], ◌∷◌}
use Rattle.laws.specs.Elem.{elem}
use Rattle.laws.specs.Every.{every}
use Rattle.laws.specs.Sieve.{sieve}
use Rattle.labels.specs.Label.{unlabelled}
use Rattle.boost_tracker_table.specs.Table.{Track, ids_of, unlisted, labels_where}
use Rattle.boost_tracker_table.specs.Lent.{Table, tracks_in, holding, Call, call_with}
use Rattle.boost_tracker_verdict.specs.declared.sound.State.{State}
use Rattle.boost_tracker_verdict.specs.Sound.{sound_table}
use Rattle.boost_tracker_forget.specs.declared.refusal.ForgetRefusal.{ForgetRefusal}
use Rattle.boost_tracker_forget.specs.declared.refusal.ForgetRefusal.TheVariants.{TableNotSound, TrackNotLabelled, IdTwice, IdNotHeld}
use Rattle.boost_tracker_forget.specs.declared.drops.Forgotten.{Forgotten}

-- ---- the numbers

abbrev pub number : ForgetRefusal → ℕ
number TableNotSound = 11
number TrackNotLabelled = 10
number IdTwice = 101
number IdNotHeld = 102

-- 0 where it is accepted
abbrev pub answer : Result ⊤ ForgetRefusal → ℕ
answer (Ok _) = 0
answer (Err why) = number why

-- ---- when a drop is turned away

-- some id stands again behind itself
unfoldable pub twice : List ℕ → Bool
twice [] = false
twice (id ∷ ids) = elem id ids || twice ids

abbrev pub all_held : List Track → List ℕ → Bool
all_held ts ids = every (λ id. elem id (ids_of ts)) ids

-- each reason by its own words, whatever the others say, in 02's order
abbrev pub conditions : State → Table → List ℕ → List (ForgetRefusal × Bool)
conditions s t ids =
    (TableNotSound, not (sound_table s t))
    ∷ (TrackNotLabelled, unlabelled t.labels s.count)
    ∷ (IdTwice, twice ids)
    ∷ (IdNotHeld, not (all_held (tracks_in t s.count) ids))
    ∷ []

-- the first that applies
unfoldable pub first_of : List (ForgetRefusal × Bool) → Result ⊤ ForgetRefusal
first_of [] = Ok tt
first_of (c ∷ cs) = cond c.1 (Err c.0) (first_of cs)

unfoldable pub verdict : State → Table → List ℕ → Result ⊤ ForgetRefusal
verdict s t ids = first_of (conditions s t ids)

abbrev pub Accepts : State → Table → List ℕ → Type 0
Accepts s t ids = verdict s t ids ≡ Ok tt

-- ---- what it leaves

abbrev pub remaining : List ℕ → List Track → List Track
remaining ids ts = sieve (unlisted ids) ts

abbrev pub state_without : State → Table → List ℕ → State
state_without s t ids = record { count = length (remaining ids (tracks_in t s.count)); last = s.last; frames = s.frames }

-- the remaining tracks with their labels, zero in every place beyond them, and cells past the places as they were
abbrev pub without : State → Table → List ℕ → Call State Table
without s t ids =
    let ts : List Track = tracks_in t s.count in
    call_with (state_without s t ids) (holding (remaining ids ts) (labels_where (unlisted ids) ts t.labels) t)

-- an empty set changes nothing, not even places beyond the count
abbrev pub dropped : State → Table → List ℕ → Call State Table
dropped s t [] = call_with s t
dropped s t (id ∷ ids) = without s t (id ∷ ids)

-- ---- a call

-- a refused call changes nothing
abbrev pub ends : Result ⊤ ForgetRefusal → State → Table → List ℕ → Call Forgotten Table
ends (Ok _) s t ids = let k : Call State Table = dropped s t ids in call_with (record { verdict = Ok tt; state = k.answer }) k.lent
ends (Err why) s t ids = call_with (record { verdict = Err why; state = s }) t

unfoldable pub forgotten : State → Table → List ℕ → Call Forgotten Table
forgotten s t ids = ends (verdict s t ids) s t ids
