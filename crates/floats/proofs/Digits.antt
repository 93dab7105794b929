-- How many binary digits a number has, and what `compare` says of two numbers. Assumes nothing.
use Rattle.std.proofs.Common.{◌≡◌, ℕ, zero, suc, ◌^◌, ◌<◌, ◌≤◌, true, false, ◌⊎◌, sym, refl, subst, inl, inr, true≢false, lt_of_lt_of_le, le_of_lt, lt_irrefl, le_antisymm, lt_of_not-le, not-le_of_lt, arith, pow_mono, ne_eqb, le-leb}
use Prim.Native.Nat.{compare, Ordering}
use lib.Dec.{is_le, compare_is_eq}
use borrow.Author.Tests.{lt-leb}
use lib.Ieee.{size}
use lib.Ieee.Digits.{size-lt, size-le}

pub size_gt : (n j : ℕ) → 2 ^ j ≤ n → j < size n
size_gt n j h = lt_of_not-le (λ (g : size n ≤ j). not-le_of_lt (lt_of_lt_of_le (size-lt n) (pow_mono g)) h)

pub size_is : (n a : ℕ) → 2 ^ a ≤ n → n < 2 ^ suc a → size n ≡ suc a
size_is n a lo hi = le_antisymm (size-le n (suc a) hi) (size_gt n a lo)

pub none_or_some : (k : ℕ) → k ≡ 0 ⊎ 0 < k
none_or_some zero = inl refl
none_or_some (suc k) = inr (omega arith)

module _ (a b : ℕ) where
  pub compare_lt : a < b → compare a b ≡ Ordering.lt
  compare_lt h = go (compare a b) (le-leb a b (le_of_lt h)) (ne_eqb a b (λ e. lt_irrefl b (subst (λ (x : ℕ). x < b) e h)))
    where
      go : (o : Ordering) → is_le o ≡ true → compare_is_eq o ≡ false → o ≡ Ordering.lt
      go Ordering.lt p q = refl
      go Ordering.eq p q = absurd (true≢false q)
      go Ordering.gt p q = absurd (true≢false (sym p))

  pub compare_gt : b < a → compare a b ≡ Ordering.gt
  compare_gt h = go (compare a b) (lt-leb a b h)
    where
      go : (o : Ordering) → is_le o ≡ false → o ≡ Ordering.gt
      go Ordering.lt p = absurd (true≢false p)
      go Ordering.eq p = absurd (true≢false p)
      go Ordering.gt p = refl
