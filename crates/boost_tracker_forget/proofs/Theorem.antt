-- What specs/Laws.antt states holds. Assumes nothing.
use mathlib.Core.Path.{◌≡◌, refl, sym, ap, ◌∙◌}
use mathlib.Core.Bool.{Bool, true, false, cond, not}
use mathlib.Core.List.{List, [], ◌∷◌, ◌++◌}
use Prim.Native.Nat.{ℕ, ◌+◌, ◌-◌, ◌*◌, ◌≤◌, ◌<◌}
use native.Mathlib.Omega.{arith}
use lib.ListN.{length, length-append, length-map, get_or, replicate, take, drop}
use lib.Seq.{get_or-take, length-take-le, drop_at}
use Rattle.std.specs.Bool.{⊤}
use Rattle.std.proofs.Common.{Result, Ok, Err}
use Rattle.laws.specs.Tests.{and_left, or_none}
use Rattle.laws.specs.Tab.{map-tab, tab_of, indices}
use Rattle.laws.specs.Sieve.{sieve-all}
use Rattle.laws.specs.Occurs.{occurs, occurs-append, occurs-sieve}
use Rattle.laws.specs.Elem.{elem, in-stands, stands-in, out_none}
use Rattle.laws.specs.Every.{every}
use Rattle.laws.specs.Picked.{sieve_image}
use Rattle.laws.specs.Laid.{rows, length-rows}
use Rattle.floats.specs.Single.{plus_zero}
use Rattle.labels.specs.Label.{label_at}
use Rattle.boost_tracker_table.specs.Table.{place_floats, place_counters, floats_of, counters_of, Track, ids_of, blank, unlisted, labels_where, filled_up, zero_filled}
use Rattle.boost_tracker_table.specs.Lent.{Table, places_of, tracks_in, Call, call_with}
use Rattle.boost_tracker_table.proofs.LabelLaws.{labels-many}
use Rattle.boost_tracker_verdict.specs.declared.sound.State.{State}
use Rattle.boost_tracker_verdict.proofs.SoundLaws.{sound-placed, sound-rising, rising-once}
use Rattle.boost_tracker_forget.specs.declared.refusal.ForgetRefusal.{ForgetRefusal}
use Rattle.boost_tracker_forget.specs.declared.drops.Forgotten.{Forgotten}
use Rattle.boost_tracker_forget.specs.Forget.{twice, first_of, conditions, verdict, Accepts, remaining, without, dropped, ends, forgotten}
use Rattle.boost_tracker_forget.specs.Laws.{Dropped, WholeOrNotAtAll, whole, not_at-all, EveryCall, NoneChangesNothing, ZerosBeyond, NoLonger, answers, singly, InAnyOrder}
use Rattle.boost_tracker_forget.proofs.ForgetLaws.{Droppable, droppable, accepts}
use Rattle.boost_tracker_forget.proofs.IdLaws.{each-passes, all_pass, once, not_twice, first-stands, same-many}
use Rattle.boost_tracker_forget.proofs.OrderLaws.{tracks-held, left-tracks, left-labels, left-sound, left-labelled, drop-drop, without_agree}

-- ---- an accepted drop

module _ (s : State) (t : Table) (ids : List ℕ) (accepted : Accepts s t ids) where
  abbrev ts : List Track
  ts = tracks_in t s.count

  knows : Droppable s t ids
  knows = droppable s t ids accepted

  pub room : s.count ≤ places_of t
  room = sound-placed (places_of t) s ts knows.is-sound

  -- no id is held twice
  held-once : (b : ℕ) → occurs b (ids_of ts) ≤ 1
  held-once = rising-once 0 ts (sound-rising (places_of t) s ts knows.is-sound)

  left-each : (b : ℕ) → occurs b (ids_of (remaining ids ts)) + occurs b ids ≡ occurs b (ids_of ts)
  left-each b = rw (← sieve_image (λ y. not (elem y ids)) (λ (t : Track). t.id) ts, occurs-sieve b (λ y. not (elem y ids)) (ids_of ts)) (by_cases (elem b ids) refl)
    where
      by_cases : (v : Bool) → elem b ids ≡ v → cond (not v) (occurs b (ids_of ts)) 0 + occurs b ids ≡ occurs b (ids_of ts)
      by_cases true e =
          let named = in-stands b ids e in
          let is_held = in-stands b (ids_of ts) (each-passes (λ id. elem id (ids_of ts)) ids knows.all_held b named) in
          let not_again = once ids knows.none-twice b in
          let held = held-once b in
          omega (arith, named, is_held, not_again, held)
      by_cases false e = let none = out_none b ids e in omega (arith, none)

  left-many : length (remaining ids ts) + length ids ≡ s.count
  left-many =
      let left : List ℕ = ids_of (remaining ids ts) in
      let all = same-many (left ++ ids) (ids_of ts) (λ b. occurs-append b left ids ∙ left-each b) held-once in
      let parts = length-append left ids in
      let left-ids = length-map (remaining ids ts) (λ (t : Track). t.id) in
      let ids-held = length-map ts (λ (t : Track). t.id) in
      let held = tracks-held (unlisted ids) s t room in
      omega (arith, all, parts, left-ids, ids-held, held)

-- the labels of all held tracks are the front of the table's
all-labels : (p : Track → Bool) (ts : List Track) (l : List ℕ) → ((x : Track) → p x ≡ true) → length ts ≤ length l → take (length ts) l ≡ labels_where p ts l
unfolding labels_where
all-labels p ts l all h =
    let n : ℕ = length ts in
    rw (sieve-all (λ i. p (get_or ts i blank)) (λ i. all (get_or ts i blank)) (indices n), map-tab (label_at l) (λ i. i) n)
    (tab_of (label_at l) (take n l) n 0 (length-take-le n l h) (λ i b. get_or-take n l i 0 b))

none-listed : (x : Track) → unlisted [] x ≡ true
unfolding elem
none-listed x = refl

pub every_drop : (s : State) (t : Table) (ids : List ℕ) → Accepts s t ids → Dropped s t ids (dropped s t ids).answer (dropped s t ids).lent
every_drop s t [] accepted =
    let ts : List Track = tracks_in t s.count in
    let has_room = room s t [] accepted in
    let all : remaining [] ts ≡ ts = sieve-all (unlisted []) none-listed ts in
    let many = tracks-held (unlisted []) s t has_room in
    let low : length ts ≤ length t.labels = omega (arith, has_room, many) in
    record {
      tracks_are = sym all;
      labels_are = rw many at (all-labels (unlisted []) ts t.labels none-listed low);
      each = λ id. rw all at (left-each s t [] accepted id);
      many = omega arith;
      last-is = refl;
      frames_are = refl;
      sound = (knows s t [] accepted).is-sound;
      labelled = (knows s t [] accepted).is-labelled;
    }
every_drop s t (id ∷ ids) accepted =
    let p : Track → Bool = unlisted (id ∷ ids) in
    let has_room = room s t (id ∷ ids) accepted in
    let tracks = left-tracks p s t has_room in
    record {
      tracks_are = tracks;
      labels_are = left-labels p s t has_room;
      each = λ b. rw tracks (left-each s t (id ∷ ids) accepted b);
      many = left-many s t (id ∷ ids) accepted;
      last-is = refl;
      frames_are = refl;
      sound = left-sound p s t has_room (knows s t (id ∷ ids) accepted).is-sound;
      labelled = left-labelled p s t has_room (knows s t (id ∷ ids) accepted).is-labelled;
    }

-- ---- every call

first-is-said : (s : State) (t : Table) (ids : List ℕ) → first_of (conditions s t ids) ≡ verdict s t ids
unfolding verdict
first-is-said s t ids = refl

pub whole_or_not_at-all : EveryCall
unfolding forgotten
whole_or_not_at-all s t ids r t' leaves = by_cases (verdict s t ids) refl leaves
  where
    by_cases : (v : Result ⊤ ForgetRefusal) → verdict s t ids ≡ v → call_with r t' ≡ ends v s t ids → WholeOrNotAtAll s t ids r t'
    by_cases (Ok tt) e leaves =
        let answers = ap (λ (k : Call Forgotten Table). k.answer) leaves in
        let lent = ap (λ (k : Call Forgotten Table). k.lent) leaves in
        rw (answers, lent) (whole (first-is-said s t ids ∙ e) refl (every_drop s t ids e))
    by_cases (Err why) e leaves =
        let answers = ap (λ (k : Call Forgotten Table). k.answer) leaves in
        let lent = ap (λ (k : Call Forgotten Table). k.lent) leaves in
        rw (answers, lent) (not_at-all why (first-is-said s t ids ∙ e) refl refl refl)

pub none_changes_nothing : NoneChangesNothing
unfolding forgotten
none_changes_nothing s t r t' leaves = by_cases (verdict s t []) leaves
  where
    by_cases : (v : Result ⊤ ForgetRefusal) → call_with r t' ≡ ends v s t [] → (r.state ≡ s) × (t' ≡ t)
    by_cases (Ok tt) leaves = (ap (λ (k : Call Forgotten Table). k.answer.state) leaves, ap (λ (k : Call Forgotten Table). k.lent) leaves)
    by_cases (Err why) leaves = (ap (λ (k : Call Forgotten Table). k.answer.state) leaves, ap (λ (k : Call Forgotten Table). k.lent) leaves)

-- ---- behind the remaining tracks

filled-beyond : {A : Type 0} (enc : Track → List A) (s : ℕ) (size : (x : Track) → length (enc x) ≡ s) (nought : A) (xs : List Track) (places : ℕ) (l : List A)
    → drop (length xs * s) (filled_up enc s nought xs places l) ≡ replicate (places * s - length xs * s) nought ++ drop (places * s) l
unfolding filled_up
filled-beyond enc s size nought xs places l = drop_at (rows enc xs) (replicate (places * s - length xs * s) nought ++ drop (places * s) l) (length xs * s) (length-rows enc s size xs)

zero-beyond : (xs : List ℕ) (n places : ℕ) (l : List ℕ) → length xs ≡ n → drop n (zero_filled xs places l) ≡ replicate (places - n) 0 ++ drop places l
unfolding zero_filled
zero-beyond xs n places l e = rw (← e) (drop_at xs (replicate (places - length xs) 0 ++ drop places l) (length xs) refl)

pub zeros-beyond : ZerosBeyond
unfolding forgotten
zeros-beyond s t id ids accepted =
    let p : Track → Bool = unlisted (id ∷ ids) in
    let ts : List Track = tracks_in t s.count in
    let left : List Track = remaining (id ∷ ids) ts in
    rw accepted
    (record {
      floats = filled-beyond floats_of place_floats (λ x. refl) plus_zero left (places_of t) t.floats;
      counters = filled-beyond counters_of place_counters (λ x. refl) 0 left (places_of t) t.counters;
      labels = zero-beyond (labels_where p ts t.labels) (length left) (places_of t) t.labels (labels-many p ts t.labels);
    })

pub no_longer : NoLonger
no_longer s t ids accepted = let many = (every_drop s t ids accepted).many in omega (arith, many)

-- ---- one by one

-- a list that is accepted is accepted in any order
in_order : (s : State) (t : Table) (ids xs : List ℕ) → Accepts s t ids → ((id : ℕ) → occurs id xs ≡ occurs id ids) → Accepts s t xs
in_order s t ids xs accepted same =
    let knows = droppable s t ids accepted in
    let is_held : ℕ → Bool = λ id. elem id (ids_of (tracks_in t s.count)) in
    accepts
    (record {
      is-sound = knows.is-sound;
      is-labelled = knows.is-labelled;
      none-twice = not_twice xs (λ b. rw (same b) (once ids knows.none-twice b));
      all_held = all_pass is_held xs (λ b h. each-passes is_held ids knows.all_held b (rw (same b) at h));
    })

module _ (s : State) (t : Table) (x : ℕ) (xs : List ℕ) (accepted : Accepts s t (x ∷ xs)) where
  -- its first id alone is
  first-accepted : Accepts s t (x ∷ [])
  unfolding twice elem every
  first-accepted =
      let knows = droppable s t (x ∷ xs) accepted in
      accepts (record { is-sound = knows.is-sound; is-labelled = knows.is-labelled; none-twice = refl; all_held = rw (and_left (elem x (ids_of (tracks_in t s.count))) _ knows.all_held) })

  abbrev s' : State
  s' = (without s t (x ∷ [])).answer

  abbrev t' : Table
  t' = (without s t (x ∷ [])).lent

  pub first-is : forgotten s t (x ∷ []) ≡ call_with (record { verdict = Ok tt; state = s' }) t'
  unfolding forgotten
  first-is = rw first-accepted

  -- and the others are on what that leaves
  pub rest-accepted : Accepts s' t' xs
  unfolding occurs twice
  rest-accepted =
      let knows = droppable s t (x ∷ xs) accepted in
      let left = every_drop s t (x ∷ []) first-accepted in
      let held : List ℕ = ids_of (tracks_in t s.count) in
      let held_then : List ℕ = ids_of (tracks_in t' s'.count) in
      let still : (b : ℕ) → 0 < occurs b xs → elem b held_then ≡ true = λ b h.
      let not_again : occurs b (x ∷ xs) ≤ 1 = once (x ∷ xs) knows.none-twice b in
      let is_held : 0 < occurs b held = in-stands b held (each-passes (λ id. elem id held) (x ∷ xs) knows.all_held b (omega (arith, h))) in
      let each : occurs b held_then + occurs b (x ∷ []) ≡ occurs b held = left.each b in
      stands-in b held_then (omega (arith, h, not_again, is_held, each)) in
      accepts (record { is-sound = left.sound; is-labelled = left.labelled; none-twice = (or_none (elem x xs) (twice xs) knows.none-twice).1; all_held = all_pass (λ id. elem id held_then) xs still })

all-accepted : (xs : List ℕ) (s : State) (t : Table) → Accepts s t xs → answers s t xs ≡ replicate (length xs) (Ok tt)
unfolding answers
all-accepted [] s t accepted = refl
all-accepted (x ∷ xs) s t accepted =
    let rest = all-accepted xs (without s t (x ∷ [])).answer (without s t (x ∷ [])).lent (rest-accepted s t x xs accepted) in
    rw (first-is s t x xs accepted) (ap (λ (l : List (Result ⊤ ForgetRefusal)). Ok tt ∷ l) rest)

singly-is : (xs : List ℕ) (s : State) (t : Table) (x : ℕ) → Accepts s t (x ∷ xs) → singly s t (x ∷ xs) ≡ without s t (x ∷ xs)
unfolding singly
singly-is [] s t x accepted = rw (first-is s t x [] accepted)
singly-is (y ∷ ys) s t x accepted =
    let rest = singly-is ys (without s t (x ∷ [])).answer (without s t (x ∷ [])).lent y (rest-accepted s t x (y ∷ ys) accepted) in
    rw (first-is s t x (y ∷ ys) accepted) (rest ∙ drop-drop s t (x ∷ []) (y ∷ ys) (room s t (x ∷ (y ∷ ys)) accepted))

none-stands : (x : ℕ) → occurs x [] ≡ 0
unfolding occurs
none-stands x = refl

in_the_end : (s : State) (t : Table) (ids xs : List ℕ) → Accepts s t ids → Accepts s t xs → ((id : ℕ) → occurs id xs ≡ occurs id ids)
    → singly s t xs ≡ call_with (forgotten s t ids).answer.state (forgotten s t ids).lent
unfolding singly forgotten
in_the_end s t [] [] accepted all e = rw accepted
in_the_end s t [] (x ∷ xs) accepted all e = let a = first-stands x xs in let b = e x in let c = none-stands x in absurd (omega arith)
in_the_end s t (id ∷ ids) [] accepted all e = let a = first-stands id ids in let b = e id in let c = none-stands id in absurd (omega arith)
in_the_end s t (id ∷ ids) (x ∷ xs) accepted all e = rw accepted (singly-is xs s t x all ∙ without_agree s t (x ∷ xs) (id ∷ ids) e)

pub in_any_order : InAnyOrder
in_any_order s t ids xs accepted same =
    let all = in_order s t ids xs accepted same in
    (all-accepted xs s t all, in_the_end s t ids xs accepted all same)
