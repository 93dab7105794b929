-- One pass over the tracks, with the id before, decides what the definition says in three. Assumes nothing.
use mathlib.Core.Path.{◌≡◌, refl, sym, ap, ◌∙◌}
use mathlib.Core.Bool.{Bool, true, false, ◌&&◌}
use mathlib.Core.List.{List, [], ◌∷◌}
use Prim.Native.Nat.{ℕ, ◌*◌, ◌≤◌}
use lib.Dec.{leb, ltb}
use borrow.Author.Tests.{le-leb}
use Rattle.laws.specs.Every.{every, chain}
use Rattle.boost_tracker_verdict.specs.declared.sound.State.{State}
use Rattle.boost_tracker_table.specs.Table.{Track}
use Rattle.boost_tracker_verdict.specs.Sound.{rising, counters_in, sound}
use Rattle.boost_tracker_verdict.specs.Private.{orderly, id_of}

-- the tests of one track and of the rest, sorted by kind
sorted : (a b c r p q : Bool) → (((a && b) && c) && (r && (p && q))) ≡ ((a && r) && ((b && p) && (c && q)))
sorted false b c r p q = refl
sorted true true true r p q = refl
sorted true true false true true q = refl
sorted true true false true false q = refl
sorted true true false false p q = refl
sorted true false c true p q = refl
sorted true false c false p q = refl

chain_kinds : (last frames low : ℕ) (ts : List Track) → chain (orderly last frames) id_of low ts ≡ (rising low ts && (every (λ t. leb t.id last) ts && every (counters_in frames) ts))
unfolding chain rising every
chain_kinds last frames low [] = refl
chain_kinds last frames low (t ∷ ts) =
    ap (λ (b : Bool). orderly last frames low t && b) (chain_kinds last frames t.id ts)
    ∙ sorted (ltb low t.id) (leb t.id last) (counters_in frames t) (rising t.id ts) (every (λ t. leb t.id last) ts) (every (counters_in frames) ts)

-- one of four tests first
third : (r a b c : Bool) → (r && (a && (b && c))) ≡ (b && (r && (a && c)))
third true true b c = refl
third true false true c = refl
third true false false c = refl
third false a true c = refl
third false a false c = refl

module _ (s : State) (places : ℕ) (ts : List Track) where
  pub sound-is : sound places s ts ≡ (leb s.count places && (leb s.last (255 * s.frames) && chain (orderly s.last s.frames) id_of 0 ts))
  unfolding sound
  sound-is =
      ap (λ (b : Bool). leb s.count places && b)
      (third (rising 0 ts) (every (λ t. leb t.id s.last) ts) (leb s.last (255 * s.frames)) (every (counters_in s.frames) ts)
      ∙ ap (λ (b : Bool). leb s.last (255 * s.frames) && b) (sym (chain_kinds s.last s.frames 0 ts)))

  pub passed : s.count ≤ places → leb s.last (255 * s.frames) ≡ true → chain (orderly s.last s.frames) id_of 0 ts ≡ sound places s ts
  passed h e = sym (sound-is ∙ rw (le-leb s.count places h, e))
