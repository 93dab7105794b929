-- What a sound table tells, and that some of its tracks are sound too: ids that rise, none of them twice. Assumes nothing.
use mathlib.Core.Path.{◌≡◌, refl}
use mathlib.Core.Bool.{Bool, true, false, cond}
use mathlib.Core.List.{List, [], ◌∷◌}
use Prim.Native.Nat.{ℕ, ◌+◌, ◌*◌, ◌≤◌, zero-le}
use native.Mathlib.Nat.{le_trans}
use native.Mathlib.Omega.{arith}
use lib.Dec.{leb, ltb, eqb}
use lib.ListN.{length}
use borrow.Author.Tests.{ltb-true, lt-ltb, leb-true, le-leb, eqb-true, ne_eqb}
use Rattle.laws.specs.Tests.{and_left, and_right}
use Rattle.laws.specs.Count.{bit}
use Rattle.laws.specs.Sieve.{sieve, sieve-few}
use Rattle.laws.specs.Occurs.{occurs}
use Rattle.laws.specs.Every.{every, every-sieve}
use Rattle.boost_tracker_table.specs.Table.{Track, ids_of}
use Rattle.boost_tracker_verdict.specs.declared.sound.State.{State}
use Rattle.boost_tracker_verdict.specs.Sound.{rising, counters_in, sound}

-- ---- ids that rise

pub rising_lower : (low high : ℕ) (ts : List Track) → low ≤ high → rising high ts ≡ true → rising low ts ≡ true
unfolding rising
rising_lower low high [] h e = refl
rising_lower low high (t ∷ ts) h e =
    let above = ltb-true high t.id (and_left (ltb high t.id) _ e) in
    rw (lt-ltb low t.id (omega arith)) (and_right (ltb high t.id) _ e)

rising-sieve : (q : Track → Bool) (low : ℕ) (ts : List Track) → rising low ts ≡ true → rising low (sieve q ts) ≡ true
unfolding rising sieve
rising-sieve q low [] e = refl
rising-sieve q low (t ∷ ts) e = by_cases (q t) (rising-sieve q t.id ts (and_right (ltb low t.id) _ e))
  where
    first : ltb low t.id ≡ true
    first = and_left (ltb low t.id) _ e

    by_cases : (b : Bool) → rising t.id (sieve q ts) ≡ true → rising low (cond b (t ∷ sieve q ts) (sieve q ts)) ≡ true
    by_cases true r = rw first r
    by_cases false r = rising_lower low t.id (sieve q ts) (let h = ltb-true low t.id first in omega arith) r

-- an id that is not above where they start is none of them
rising_none : (b low : ℕ) (ts : List Track) → b ≤ low → rising low ts ≡ true → occurs b (ids_of ts) ≡ 0
unfolding rising occurs
rising_none b low [] h e = refl
rising_none b low (t ∷ ts) h e =
    let above = ltb-true low t.id (and_left (ltb low t.id) _ e) in
    let none = rising_none b t.id ts (omega arith) (and_right (ltb low t.id) _ e) in
    rw (ne_eqb b t.id (λ q. omega arith)) (omega arith)

-- none of them stands twice
pub rising-once : (low : ℕ) (ts : List Track) → rising low ts ≡ true → (b : ℕ) → occurs b (ids_of ts) ≤ 1
unfolding rising occurs
rising-once low [] e b = zero-le
rising-once low (t ∷ ts) e b = by_cases (eqb b t.id) refl (rising-once t.id ts rest b)
  where
    rest : rising t.id ts ≡ true
    rest = and_right (ltb low t.id) _ e

    by_cases : (v : Bool) → eqb b t.id ≡ v → occurs b (ids_of ts) ≤ 1 → bit v + occurs b (ids_of ts) ≤ 1
    by_cases true q r = let same = eqb-true b t.id q in let none = rising_none b t.id ts (omega arith) rest in omega arith
    by_cases false q r = omega arith

-- ---- a sound table

module _ (places : ℕ) (s : State) (ts : List Track) (is-sound : sound places s ts ≡ true) where
  pub sound-placed : s.count ≤ places
  unfolding sound
  sound-placed = leb-true s.count places (and_left (leb s.count places) _ is-sound)

  pub sound-rising : rising 0 ts ≡ true
  unfolding sound
  sound-rising = and_left (rising 0 ts) _ (and_right (leb s.count places) _ is-sound)

-- tracks that stay, with the same last id and frame count
pub sound-sieve : (q : Track → Bool) (places : ℕ) (s : State) (ts : List Track) → length ts ≤ places → sound places s ts ≡ true
    → sound places (record { count = length (sieve q ts); last = s.last; frames = s.frames }) (sieve q ts) ≡ true
unfolding sound
sound-sieve q places s ts room is-sound =
    let rest = and_right (leb s.count places) _ is-sound in
    let rises = and_left (rising 0 ts) _ rest in
    let rest₂ = and_right (rising 0 ts) _ rest in
    let low = and_left (every (λ t. leb t.id s.last) ts) _ rest₂ in
    let rest₃ = and_right (every (λ t. leb t.id s.last) ts) _ rest₂ in
    let last-low = and_left (leb s.last (255 * s.frames)) _ rest₃ in
    let counted = and_right (leb s.last (255 * s.frames)) _ rest₃ in
    rw (le-leb (length (sieve q ts)) places (le_trans (sieve-few q ts) room), rising-sieve q 0 ts rises, every-sieve (λ t. leb t.id s.last) q ts low, last-low)
    (every-sieve (counters_in s.frames) q ts counted)
