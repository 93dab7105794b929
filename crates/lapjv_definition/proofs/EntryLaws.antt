-- What an entry of x or y shows of itself, below n and not. Assumes nothing.
use mathlib.Core.Path.{◌≡◌, refl, sym, ◌∙◌}
use mathlib.Core.Bool.{Bool, true, false}
use Prim.Native.Nat.{ℕ, ◌<◌, ◌≤◌}
use native.Mathlib.Omega.{arith}
use native.Mathlib.Decide.{dec_lt}
use borrow.Author.Tests.{leb-true, leb-false, lt-ltb, le-ltb, lt-leb, le-leb}
use lib.Dec.{leb}
use Rattle.std.specs.Prelude.{Option, Some, None, is_some, unwrap_or, not}
use Rattle.lapjv_definition.specs.Entry.{owner_of, is_free, row_of}

pub owner_row : (n r : ℕ) → r < n → owner_of n r ≡ Some r
unfolding owner_of
owner_row n r h = rw (lt-ltb r n h)

pub owner_free : (n r : ℕ) → n ≤ r → owner_of n r ≡ None
unfolding owner_of
owner_free n r h = rw (le-ltb r n h)

pub free_is : (n r : ℕ) → is_free (owner_of n r) ≡ leb n r
unfolding is_free
free_is n r = go (dec_lt r n)
  where
    go : Dec (r < n) → is_free (owner_of n r) ≡ leb n r
    go (yes h) = rw (owner_row n r h, lt-leb n r h)
    go (no h) = let q : n ≤ r = omega arith in rw (owner_free n r q, le-leb n r q)

pub free_true : (n r : ℕ) → is_free (owner_of n r) ≡ true → n ≤ r
free_true n r e = leb-true n r (sym (free_is n r) ∙ e)

pub free_false : (n r : ℕ) → is_free (owner_of n r) ≡ false → r < n
free_false n r e = leb-false n r (sym (free_is n r) ∙ e)

pub free_no : (n r : ℕ) → r < n → is_free (owner_of n r) ≡ false
free_no n r h = free_is n r ∙ lt-leb n r h

pub free_yes : (n r : ℕ) → n ≤ r → is_free (owner_of n r) ≡ true
free_yes n r h = free_is n r ∙ le-leb n r h

pub row_is : (n r : ℕ) → r < n → row_of n (owner_of n r) ≡ r
unfolding row_of
row_is n r h = rw (owner_row n r h)

-- what the code asks of an entry
pub none_free : (o : Option ℕ) (b : Bool) → is_some o ≡ not b → b ≡ is_free o
unfolding is_free
none_free (Some r) true e = cc
none_free (Some r) false e = refl
none_free None true e = refl
none_free None false e = cc

pub or_row : (n : ℕ) (o : Option ℕ) → unwrap_or o n ≡ row_of n o
unfolding row_of
or_row n (Some r) = refl
or_row n None = refl

-- what a found owner tells of the entry
pub owned : (n r : ℕ) {i : ℕ} → owner_of n r ≡ Some i → (r < n) × (i ≡ r)
unfolding owner_of
owned n r {i} e = go (dec_lt r n)
  where
    go : Dec (r < n) → (r < n) × (i ≡ r)
    go (yes h) = (h, let q : Some i ≡ Some r = sym e ∙ owner_row n r h in cc)
    go (no h) = let q : Some i ≡ None = sym e ∙ owner_free n r (omega arith) in absurd cc

pub not_owned : (n r : ℕ) → owner_of n r ≡ None → n ≤ r
unfolding owner_of
not_owned n r e = go (dec_lt r n)
  where
    go : Dec (r < n) → n ≤ r
    go (yes h) = let q : None ≡ Some r = sym e ∙ owner_row n r h in absurd cc
    go (no h) = omega arith

-- the same of an option that is asked whether it is one
pub found_in : {n r : ℕ} {o : Option ℕ} → o ≡ owner_of n r → is_some o ≡ true → r < n
found_in {n} {r} {o} e h = go o (sym e) h
  where
    go : (o : Option ℕ) → owner_of n r ≡ o → is_some o ≡ true → r < n
    go (Some i) e h = (owned n r e).0
    go None e h = absurd cc

pub found_none : {n r : ℕ} {o : Option ℕ} → o ≡ owner_of n r → is_some o ≡ false → n ≤ r
found_none {n} {r} {o} e h = go o (sym e) h
  where
    go : (o : Option ℕ) → owner_of n r ≡ o → is_some o ≡ false → n ≤ r
    go (Some i) e h = absurd cc
    go None e h = not_owned n r e
