-- The sum of a weight over places of a list, and what a store does to it: with the weight `is i` it counts how often i occurs. Assumes nothing.
use Rattle.std.specs.Prelude.{◌≡◌, refl, cond, List, ℕ, zero, suc, ◌+◌, ◌<◌, ◌≤◌, length, get_or, set, eqb}
use Rattle.std.proofs.Common.{sym, arith, add-zero, get_or-set_same, get_or-set_other, eq-eqb, ne_eqb}
use Rattle.std.proofs.Math.Decide.{ℕ_discrete}

-- w of the m entries of l from place a on, added up
unfoldable pub total : (ℕ → ℕ) → List ℕ → ℕ → ℕ → ℕ
total w l zero a = 0
total w l (suc m) a = w (get_or l a 0) + total w l m (a + 1)

-- 1 where z is i, and 0 elsewhere
unfoldable pub is : ℕ → ℕ → ℕ
is i z = cond (eqb i z) 1 0

pub is_same : (i z : ℕ) → i ≡ z → is i z ≡ 1
unfolding is
is_same i z e = rw (eq-eqb i z e)

pub is_other : (i z : ℕ) → (i ≡ z → ⊥) → is i z ≡ 0
unfolding is
is_other i z e = rw (ne_eqb i z e)

-- a store outside the places changes nothing
pub total-out : (w : ℕ → ℕ) (l : List ℕ) (m a j r : ℕ) → ((k : ℕ) → a ≤ k → k < a + m → k ≡ j → ⊥) → total w (set l j r) m a ≡ total w l m a
unfolding total
total-out w l zero a j r h = refl
total-out w l (suc m) a j r h =
    rw (get_or-set_other l j a r 0 (h a (omega arith) (omega arith)), total-out w l m (a + 1) j r (λ k p q. h k (omega arith) (omega arith)))

-- a store of r at a place j among them: w r comes in, and w of the old entry goes
pub total-in : (w : ℕ → ℕ) (l : List ℕ) (m a j r : ℕ) → j < length l → a ≤ j → j < a + m
    → total w (set l j r) m a + w (get_or l j 0) ≡ total w l m a + w r
unfolding total
total-in w l zero a j r hj lo hi = absurd (omega arith)
total-in w l (suc m) a j r hj lo hi = go (ℕ_discrete a j) (total-in w l m (a + 1) j r hj)
  where
    go : Dec (a ≡ j) → (a + 1 ≤ j → j < a + 1 + m → total w (set l j r) m (a + 1) + w (get_or l j 0) ≡ total w l m (a + 1) + w r)
        → w (get_or (set l j r) a 0) + total w (set l j r) m (a + 1) + w (get_or l j 0) ≡ w (get_or l a 0) + total w l m (a + 1) + w r
    go (yes e) ih =
        rw (e, get_or-set_same l j r 0 hj, total-out w l m (j + 1) j r (λ k p q s. omega arith))
        (omega arith)
    go (no e) ih =
        rw (get_or-set_other l j a r 0 e)
        (omega (arith, ih (omega arith) (omega arith)))

-- no places
pub total-zero : (w : ℕ → ℕ) (l : List ℕ) (m a : ℕ) → m ≡ 0 → total w l m a ≡ 0
unfolding total
total-zero w l m a e = rw e

-- one place more at the end
pub total_snoc : (w : ℕ → ℕ) (l : List ℕ) (m a : ℕ) → total w l (suc m) a ≡ total w l m a + w (get_or l (a + m) 0)
unfolding total
total_snoc w l zero a = rw (add-zero a) (omega arith)
total_snoc w l (suc m) a =
    let e : a + 1 + m ≡ a + suc m = omega arith in
    let h = total_snoc w l m (a + 1) in
    rw (← e) (omega (arith, h))

-- the first place apart
pub total_cons : (w : ℕ → ℕ) (l : List ℕ) (m m' a : ℕ) → m ≡ suc m' → total w l m a ≡ w (get_or l a 0) + total w l m' (a + 1)
unfolding total
total_cons w l m m' a e = rw e

-- each of the places counts
pub total_ge : (w : ℕ → ℕ) (l : List ℕ) (m a k : ℕ) → a ≤ k → k < a + m → w (get_or l k 0) ≤ total w l m a
unfolding total
total_ge w l zero a k lo hi = absurd (omega arith)
total_ge w l (suc m) a k lo hi = go (ℕ_discrete a k) (total_ge w l m (a + 1) k)
  where
    go : Dec (a ≡ k) → (a + 1 ≤ k → k < a + 1 + m → w (get_or l k 0) ≤ total w l m (a + 1)) → w (get_or l k 0) ≤ w (get_or l a 0) + total w l m (a + 1)
    go (yes e) ih = rw (← e) (omega arith)
    go (no e) ih = omega (arith, ih (omega arith) (omega arith))

-- a value that is counted stands at one of the places
pub total-find : (i : ℕ) (l : List ℕ) (m a : ℕ) → 1 ≤ total (is i) l m a → (k : ℕ) × (a ≤ k) × (k < a + m) × (get_or l k 0 ≡ i)
unfolding total
total-find i l zero a h = absurd (omega arith)
total-find i l (suc m) a h = go (ℕ_discrete i (get_or l a 0)) (total-find i l m (a + 1))
  where
    go : Dec (i ≡ get_or l a 0) → (1 ≤ total (is i) l m (a + 1) → (k : ℕ) × (a + 1 ≤ k) × (k < a + 1 + m) × (get_or l k 0 ≡ i)) → (k : ℕ) × (a ≤ k) × (k < a + suc m) × (get_or l k 0 ≡ i)
    go (yes e) ih = (a, omega arith, omega arith, sym e)
    go (no e) ih = let (k, p, q, r) = ih (omega (arith, is_other i (get_or l a 0) e)) in (k, omega arith, omega arith, r)
