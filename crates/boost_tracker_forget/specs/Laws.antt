-- What holds of drops, in document 02's words. proofs/Theorem.antt proves it.
use Rattle.std.specs.Prelude.{◌≡◌, true, false, List, [], ◌∷◌, ◌++◌, ℕ, ◌+◌, ◌-◌, ◌*◌, ◌≤◌, length, drop, replicate, ⊤, Result, Ok, Err}
use Rattle.laws.specs.Occurs.{occurs}
use Rattle.floats.specs.Single.{plus_zero}
use Rattle.labels.specs.Label.{unlabelled}
use Rattle.boost_tracker_table.specs.Table.{place_floats, place_counters, ids_of, unlisted, labels_where}
use Rattle.boost_tracker_table.specs.Lent.{Table, places_of, tracks_in, labels_in, Call, call_with}
use Rattle.boost_tracker_verdict.specs.declared.sound.State.{State}
use Rattle.boost_tracker_verdict.specs.Sound.{sound_table}
use Rattle.boost_tracker_forget.specs.declared.refusal.ForgetRefusal.{ForgetRefusal}
use Rattle.boost_tracker_forget.specs.declared.drops.Forgotten.{Forgotten}
use Rattle.boost_tracker_forget.specs.Forget.{conditions, first_of, Accepts, remaining, forgotten}

-- ---- a drop that is accepted: what it leaves in state and table

pub record Dropped (s : State) (t : Table) (ids : List ℕ) (s' : State) (t' : Table) : Type 0 where
  -- "the remaining tracks retain order and values", their labels too
  pub tracks_are : tracks_in t' s'.count ≡ remaining ids (tracks_in t s.count)
  pub labels_are : labels_in t' s'.count ≡ labels_where (unlisted ids) (tracks_in t s.count) t.labels
  -- an id of the list was held and is no longer, and every other id is held or not, as it was: `occurs id l` is how often an id stands in a list
  pub each : (id : ℕ) → occurs id (ids_of (tracks_in t' s'.count)) + occurs id ids ≡ occurs id (ids_of (tracks_in t s.count))
  -- a track goes for each id
  pub many : s'.count + length ids ≡ s.count
  -- "last id and frame count are unchanged"
  pub last-is : s'.last ≡ s.last
  pub frames_are : s'.frames ≡ s.frames
  -- the next call is not turned down with 11 or 10
  pub sound : sound_table s' t' ≡ true
  pub labelled : unlabelled t'.labels s'.count ≡ false

-- ---- every call, by its contract

-- "A set is dropped whole or not at all": whole where no condition of `conditions` holds, and otherwise with the first that does
pub data WholeOrNotAtAll (s : State) (t : Table) (ids : List ℕ) (r : Forgotten) (t' : Table) : Type 0 where
  whole : first_of (conditions s t ids) ≡ Ok tt → r.verdict ≡ Ok tt → Dropped s t ids r.state t' → WholeOrNotAtAll s t ids r t'
  not_at-all : (why : ForgetRefusal) → first_of (conditions s t ids) ≡ Err why → r.verdict ≡ Err why → r.state ≡ s → t' ≡ t → WholeOrNotAtAll s t ids r t'

-- `whole_or_not_at-all`
abbrev pub EveryCall : Type 0
EveryCall = (s : State) (t : Table) (ids : List ℕ) (r : Forgotten) (t' : Table) → call_with r t' ≡ forgotten s t ids → WholeOrNotAtAll s t ids r t'

-- "an empty set changes nothing", whatever is answered: `none_changes_nothing`
abbrev pub NoneChangesNothing : Type 0
NoneChangesNothing = (s : State) (t : Table) (r : Forgotten) (t' : Table) → call_with r t' ≡ forgotten s t [] → (r.state ≡ s) × (t' ≡ t)

-- "otherwise places beyond the new count become zero": what stands behind the remaining tracks, zeros up to the last place and the cells past it as they were
pub record Zeroed (t : Table) (count : ℕ) (t' : Table) : Type 0 where
  pub floats : drop (count * place_floats) t'.floats ≡ replicate (places_of t * place_floats - count * place_floats) plus_zero ++ drop (places_of t * place_floats) t.floats
  pub counters : drop (count * place_counters) t'.counters ≡ replicate (places_of t * place_counters - count * place_counters) 0 ++ drop (places_of t * place_counters) t.counters
  pub labels : drop count t'.labels ≡ replicate (places_of t - count) 0 ++ drop (places_of t) t.labels

-- `zeros-beyond`
abbrev pub ZerosBeyond : Type 0
ZerosBeyond = (s : State) (t : Table) (id : ℕ) (ids : List ℕ) → Accepts s t (id ∷ ids) → Zeroed t (forgotten s t (id ∷ ids)).answer.state.count (forgotten s t (id ∷ ids)).lent

-- no list that is longer than the tracks held is accepted, so a caller may turn a longer one away unread: `no_longer`
abbrev pub NoLonger : Type 0
NoLonger = (s : State) (t : Table) (ids : List ℕ) → Accepts s t ids → length ids ≤ s.count

-- ---- "an accepted drop of one id or more equals dropping its members singly in whatever order"

-- calls of `forget` in a row, one for each id, every call on the state and the table that the one before left: what each answers, and what the last leaves
unfoldable pub answers : State → Table → List ℕ → List (Result ⊤ ForgetRefusal)
answers s t [] = []
answers s t (id ∷ ids) =
    let k : Call Forgotten Table = forgotten s t (id ∷ []) in
    k.answer.verdict ∷ answers k.answer.state k.lent ids

unfoldable pub singly : State → Table → List ℕ → Call State Table
singly s t [] = call_with s t
singly s t (id ∷ ids) =
    let k : Call Forgotten Table = forgotten s t (id ∷ []) in
    singly k.answer.state k.lent ids

-- xs has the ids of the list in whatever order: each is accepted, and in the end state and table are those that the one call leaves. `in_any_order`
abbrev pub InAnyOrder : Type 0
InAnyOrder = (s : State) (t : Table) (ids xs : List ℕ) → Accepts s t ids → ((id : ℕ) → occurs id xs ≡ occurs id ids)
    → (answers s t xs ≡ replicate (length xs) (Ok tt)) × (singly s t xs ≡ call_with (forgotten s t ids).answer.state (forgotten s t ids).lent)
