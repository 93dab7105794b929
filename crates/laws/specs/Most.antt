-- The largest of some numbers: what a loop that looks for a number above a bound knows. Assumes nothing.
use Rattle.std.specs.Prelude.{◌≡◌, refl, true, false, ℕ, zero, suc, ◌+◌, ◌≤◌, ◌<◌, max, leb}
use Rattle.std.proofs.Common.{⊎_elim, zero-le, le_refl, not-suc-le-zero, eq-or-lt_of_le, le_of_suc-le-suc, add-one, arith, le-leb, leb-true}
use Rattle.std.proofs.lemmas.Bool.{lt-leb}

-- the largest of f 0 .. f (n - 1), and 0
unfoldable pub most : (ℕ → ℕ) → ℕ → ℕ
most f zero = 0
most f (suc n) = max (most f n) (f n)

pub most-least : (f : ℕ → ℕ) (n k : ℕ) → ((i : ℕ) → i < n → f i ≤ k) → most f n ≤ k
unfolding most
most-least f zero k h = zero-le
most-least f (suc n) k h =
    let before = most-least f n k (λ (i : ℕ) (l : i < n). h i (omega arith)) in
    let this = h n (le_refl (suc n)) in
    omega arith

pub most-at : (f : ℕ → ℕ) (n i : ℕ) → i < n → f i ≤ most f n
unfolding most
most-at f zero i h = elim h [ ]
most-at f (suc n) i h =
    ⊎_elim
    (λ (e : i ≡ n). rw e (omega arith))
    (λ (b : i < n). let a = most-at f n i b in omega arith)
    (eq-or-lt_of_le (le_of_suc-le-suc h))

pub most_ext : (f g : ℕ → ℕ) (n : ℕ) → ((i : ℕ) → i < n → f i ≡ g i) → most f n ≡ most g n
unfolding most
most_ext f g zero e = refl
most_ext f g (suc n) e = rw (most_ext f g n (λ (i : ℕ) (h : i < n). e i (omega arith)), e n (le_refl (suc n)))

-- what a loop that leaves at a number above b knows at k: none before k is
pub record Low (f : ℕ → ℕ) (b n k : ℕ) : Type 0 where
  pub upto : k ≤ n
  pub under : (i : ℕ) → i < k → f i ≤ b

module _ (f : ℕ → ℕ) (b n : ℕ) where
  pub low-start : Low f b n 0
  low-start = record { upto = zero-le; under = λ (i : ℕ) (h : i < 0). absurd (not-suc-le-zero h) }

  pub low-on : {k v : ℕ} → Low f b n k → k < n → v ≡ f k → v ≤ b → Low f b n (k + 1)
  low-on {k} {v} w h e l = record {
    upto = omega arith;
    under = λ (i : ℕ) (q : i < k + 1). ⊎_elim (λ (s : i ≡ k). rw s (rw e at l)) (λ (s : i < k). w.under i s) (eq-or-lt_of_le (le_of_suc-le-suc (rw add-one at q)));
  }

  pub low_end : {k : ℕ} → Low f b n k → n ≤ k → leb (most f n) b ≡ true
  low_end {k} w h = le-leb (most f n) b (most-least f n b (λ (i : ℕ) (q : i < n). w.under i (omega arith)))

  -- the loop leaves at k
  pub high : {k v : ℕ} → k < n → v ≡ f k → b < v → leb (most f n) b ≡ false
  high {k} {v} h e l = lt-leb (most f n) b (omega (arith, most-at f n k h))

  pub low-at : leb (most f n) b ≡ true → (i : ℕ) → i < n → f i ≤ b
  low-at e i h = omega (arith, most-at f n i h, leb-true (most f n) b e)
