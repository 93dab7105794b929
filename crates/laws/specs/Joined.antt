-- Lists given by their index, one behind the other: what a loop that pushes some elements at each index gives. Assumes nothing.
use Rattle.std.specs.Prelude.{◌≡◌, Bool, length}
use Rattle.std.proofs.Math.Path.{refl, ap}
use Rattle.std.proofs.Common.{sym, ◌∙◌, le_refl, le_trans, eq-or-lt_of_le, le_of_suc-le-suc, ⊎_elim, add-one, arith, length-append}
use mathlib.Core.List.{List, [], ◌∷◌, ◌++◌, append-nil}
use Prim.Native.Nat.{ℕ, zero, suc, ◌+◌, ◌≤◌, ◌<◌}
use Rattle.laws.specs.Tab.{tab, indices}
use Rattle.laws.specs.Sieve.{sieve, sieve-append}
use Rattle.laws.specs.Laid.{rows, rows_append}

module _ {A : Type 0} where
  -- f 0, then f 1, .. then f (n - 1)
  unfoldable pub joined : (ℕ → List A) → ℕ → List A
  joined f n = rows f (indices n)

  pub joined-none : (f : ℕ → List A) → joined f 0 ≡ []
  unfolding joined tab rows
  joined-none f = refl

  pub joined_suc : (f : ℕ → List A) (n : ℕ) → joined f (suc n) ≡ joined f n ++ f n
  unfolding joined tab rows
  joined_suc f n = rows_append f (indices n) (n ∷ []) ∙ ap (λ (l : List A). rows f (indices n) ++ l) (append-nil (f n))

  pub joined-more : (f : ℕ → List A) (k : ℕ) → joined f k ++ f k ≡ joined f (k + 1)
  joined-more f k = rw add-one (sym (joined_suc f k))

  pub joined_ext : (f g : ℕ → List A) (n : ℕ) → ((i : ℕ) → i < n → f i ≡ g i) → joined f n ≡ joined g n
  joined_ext f g zero e = joined-none f ∙ sym (joined-none g)
  joined_ext f g (suc n) e = rw (joined_suc f n, joined_suc g n, joined_ext f g n (λ (i : ℕ) (h : i < n). e i (omega arith)), e n (le_refl (suc n)))

  -- nothing is pushed
  pub joined_nil : (f : ℕ → List A) (n : ℕ) → ((i : ℕ) → i < n → f i ≡ []) → joined f n ≡ []
  joined_nil f zero e = joined-none f
  joined_nil f (suc n) e = rw (joined_suc f n, joined_nil f n (λ (i : ℕ) (h : i < n). e i (omega arith)), e n (le_refl (suc n)))

  -- from m on nothing is pushed
  pub joined_cut : (f : ℕ → List A) (m n : ℕ) → m ≤ n → ((i : ℕ) → m ≤ i → f i ≡ []) → joined f n ≡ joined f m
  joined_cut f m zero h e = let z : m ≡ 0 = omega arith in rw z
  joined_cut f m (suc n) h e =
      ⊎_elim
      (λ (q : m ≡ suc n). rw q)
      (λ (l : m < suc n). rw (joined_suc f n, joined_cut f m n (le_of_suc-le-suc l) e, e n (le_of_suc-le-suc l)) (append-nil (joined f m)))
      (eq-or-lt_of_le h)

  pub joined_grow : (f : ℕ → List A) (i n : ℕ) → i ≤ n → length (joined f i) ≤ length (joined f n)
  joined_grow f i zero h = let z : i ≡ 0 = omega arith in rw z (le_refl (length (joined f 0)))
  joined_grow f i (suc n) h =
      ⊎_elim
      (λ (q : i ≡ suc n). rw q (le_refl (length (joined f (suc n)))))
      (λ (l : i < suc n). le_trans (joined_grow f i n (le_of_suc-le-suc l)) (rw (joined_suc f n, length-append (joined f n) (f n)) (omega arith)))
      (eq-or-lt_of_le h)

  pub joined-sieve : (q : A → Bool) (f : ℕ → List A) (n : ℕ) → sieve q (joined f n) ≡ joined (λ i. sieve q (f i)) n
  unfolding sieve
  joined-sieve q f zero = rw (joined-none f, joined-none (λ i. sieve q (f i)))
  joined-sieve q f (suc n) = rw (joined_suc f n, joined_suc (λ i. sieve q (f i)) n, sieve-append q (joined f n) (f n), joined-sieve q f n)
