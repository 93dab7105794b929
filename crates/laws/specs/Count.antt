-- How many indices pass a test. Assumes nothing.
use Rattle.std.specs.Prelude.{◌≡◌, refl, Bool, true, false, ℕ, zero, suc, ◌+◌, ◌≤◌, ◌<◌, ltb, eqb}
use Rattle.std.proofs.Common.{zero-le, le_refl, add-one, arith, ltb-true, ltb-false, eqb-true, lt-ltb, le-ltb}
use Rattle.std.proofs.lemmas.Bool.{eqb-false}

abbrev pub bit : Bool → ℕ
bit true = 1
bit false = 0

pub bit_le : (b : Bool) → bit b ≤ 1
bit_le true = omega arith
bit_le false = omega arith

-- how many i below n there are with p i
unfoldable pub count_where : (ℕ → Bool) → ℕ → ℕ
count_where p zero = 0
count_where p (suc n) = count_where p n + bit (p n)

pub count_none : (p : ℕ → Bool) → 0 ≡ count_where p 0
unfolding count_where
count_none p = refl

pub count-more : (p : ℕ → Bool) (k : ℕ) → count_where p k + bit (p k) ≡ count_where p (k + 1)
unfolding count_where
count-more p k = rw add-one

pub count-few : (p : ℕ → Bool) (n : ℕ) → count_where p n ≤ n
unfolding count_where
count-few p zero = zero-le
count-few p (suc n) = let h = count-few p n in let b = bit_le (p n) in omega arith

bit_mono : (a b : Bool) → (a ≡ true → b ≡ true) → bit a ≤ bit b
bit_mono true b h = rw (h refl) (le_refl 1)
bit_mono false b h = zero-le

-- a test that holds less often
pub count_mono : (p q : ℕ → Bool) (n : ℕ) → ((i : ℕ) → i < n → p i ≡ true → q i ≡ true) → count_where p n ≤ count_where q n
unfolding count_where
count_mono p q zero h = zero-le
count_mono p q (suc n) h =
    let a = count_mono p q n (λ (i : ℕ) (l : i < n) e. h i (omega arith) e) in
    let b = bit_mono (p n) (q n) (h n (le_refl (suc n))) in
    omega arith

-- one number is met once below n, or not at all
pub count-is : (b n : ℕ) → count_where (λ i. eqb b i) n ≡ bit (ltb b n)
unfolding count_where
count-is b zero = rw (le-ltb b 0 zero-le)
count-is b (suc n) = let e = count-is b n in rw e (here (eqb b n) refl)
  where
    here : (v : Bool) → eqb b n ≡ v → bit (ltb b n) + bit v ≡ bit (ltb b (suc n))
    here true e = let h = eqb-true b n e in rw (le-ltb b n (omega arith), lt-ltb b (suc n) (omega arith))
    here false e = before (ltb b n) refl
      where
        before : (w : Bool) → ltb b n ≡ w → bit w + 0 ≡ bit (ltb b (suc n))
        before true l = let h = ltb-true b n l in rw (lt-ltb b (suc n) (omega arith))
        before false l = let h = ltb-false b n l in let d : b ≡ n → ⊥ = eqb-false b n e in rw (le-ltb b (suc n) (omega arith))
