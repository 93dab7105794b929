-- A list with two entries exchanged. Assumes nothing.
use Rattle.std.specs.Prelude.{◌≡◌, refl, List, ℕ, ◌<◌, ◌≤◌, length, get_or, set}
use Rattle.std.proofs.Common.{sym, ◌∙◌, arith, length-set, get_or-set_same, get_or-set_other}
use Rattle.std.proofs.Math.Decide.{ℕ_discrete}
use Rattle.laws.specs.Below.{Below, below_set}

-- the entries at k and h change places
abbrev pub swapped : List ℕ → ℕ → ℕ → List ℕ
swapped l k h = set (set l k (get_or l h 0)) h (get_or l k 0)

pub swapped-below : (n : ℕ) (l : List ℕ) (k h : ℕ) → Below n l → k < length l → h < length l → Below n (swapped l k h)
swapped-below n l k h b hk hh = below_set n (set l k (get_or l h 0)) h (get_or l k 0) (below_set n l k (get_or l h 0) b (b h hh)) (b k hk)

-- where an entry of the swapped list comes from
pub data Comes (k h a : ℕ) : ℕ → Type 0 where
  same : (a ≡ k → ⊥) → (a ≡ h → ⊥) → Comes k h a a
  at-k : a ≡ k → Comes k h a h
  at-h : a ≡ h → Comes k h a k

pub swapped_len : (l : List ℕ) (k h : ℕ) → length (swapped l k h) ≡ length l
swapped_len l k h = simp length-set

pub swapped_at : (l : List ℕ) (k h a : ℕ) → k < length l → h < length l → (b : ℕ) × Comes k h a b × (get_or (swapped l k h) a 0 ≡ get_or l b 0)
swapped_at l k h a hk hh = go (ℕ_discrete a h) (ℕ_discrete a k)
  where
    go : Dec (a ≡ h) → Dec (a ≡ k) → (b : ℕ) × Comes k h a b × (get_or (swapped l k h) a 0 ≡ get_or l b 0)
    go (yes e) q = (k, at-h e, rw (e) (get_or-set_same (set l k (get_or l h 0)) h (get_or l k 0) 0 (rw length-set hh)))
    go (no e) (yes q) = (h, at-k q, get_or-set_other (set l k (get_or l h 0)) h a (get_or l k 0) 0 e ∙ rw (q) (get_or-set_same l k (get_or l h 0) 0 hk))
    go (no e) (no q) = (a, same q e, get_or-set_other (set l k (get_or l h 0)) h a (get_or l k 0) 0 e ∙ get_or-set_other l k a (get_or l h 0) 0 q)

-- the exchange moves no two places to one
pub comes_once : (k h a a' b b' : ℕ) → Comes k h a b → Comes k h a' b' → b ≡ b' → a ≡ a'
comes_once k h a a' b b' (same p q) (same p' q') e = e
comes_once k h a a' b b' (same p q) (at-k e') e = absurd (q e)
comes_once k h a a' b b' (same p q) (at-h e') e = absurd (p e)
comes_once k h a a' b b' (at-k p) (same p' q') e = absurd (q' (sym e))
comes_once k h a a' b b' (at-k p) (at-k p') e = p ∙ sym p'
comes_once k h a a' b b' (at-k p) (at-h p') e = p ∙ sym e ∙ sym p'
comes_once k h a a' b b' (at-h p) (same p' q') e = absurd (p' (sym e))
comes_once k h a a' b b' (at-h p) (at-k p') e = p ∙ sym e ∙ sym p'
comes_once k h a a' b b' (at-h p) (at-h p') e = p ∙ sym p'

pub comes_in : (n k h a b : ℕ) → Comes k h a b → k < n → h < n → a < n → b < n
comes_in n k h a b (same p q) hk hh ha = ha
comes_in n k h a b (at-k p) hk hh ha = hh
comes_in n k h a b (at-h p) hk hh ha = hk

-- places before both are where they were, and others stay at or after both
pub comes_low : (lo k h a b : ℕ) → Comes k h a b → lo ≤ k → lo ≤ h → a < lo → b ≡ a
comes_low lo k h a b (same p q) hk hh ha = refl
comes_low lo k h a b (at-k p) hk hh ha = absurd (omega arith)
comes_low lo k h a b (at-h p) hk hh ha = absurd (omega arith)

pub comes_high : (lo k h a b : ℕ) → Comes k h a b → lo ≤ k → lo ≤ h → lo ≤ a → lo ≤ b
comes_high lo k h a b (same p q) hk hh ha = ha
comes_high lo k h a b (at-k p) hk hh ha = hh
comes_high lo k h a b (at-h p) hk hh ha = hk
