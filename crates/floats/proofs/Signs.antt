-- A signed number by its sign: where a test says that it is below 0 it is `negsuc n`, and -1 minus it is n; else it is `pos n`. With each of the two comes what the casts and differences of the code ask. Assumes nothing.
use Rattle.std.proofs.Common.{◌≡◌, ℕ, zero, suc, ◌-◌, ◌^◌, ◌<◌, true, false, cond, T, ltb, ℤ, pos, negsuc, ◌-ℤ◌, nat_abs, sym, refl, ap, ◌∙◌, subst, true≢false, zero-add, arith, to_z-of_z, w64, Fits, SFits, to_z, of_z, ltb-true, le-ltb}
use lib.Signed.{lt_z, non_neg}
use mir.Syntax.{Width}
use mir.Val.{bits, hbits}
use mir.Facts.{to_z_pos, Fits-nat_abs}

-- the number that the machine reads back of z's bits
abbrev pub read : Width → ℤ → ℤ
read w z = to_z w (of_z w z)

pub mirrored : (n : ℕ) → negsuc 0 -ℤ negsuc n ≡ pos n
mirrored n = ap (λ b. cond b (negsuc (1 - suc (suc n))) (pos (suc n - 1))) (le-ltb (suc n) 1 (omega arith)) ∙ ap pos (omega arith)

not_below : (n : ℕ) → n < 0 → ⊥
not_below n h = omega arith

pub below-zero : (w : Width) (z : ℤ) → SFits w z → lt_z (read w z) (pos 0) ≡ true → (n : ℕ) × (z ≡ negsuc n) × (negsuc 0 -ℤ read w z ≡ pos n) × (n < 2 ^ hbits w)
below-zero w z h t = go z h (to_z-of_z h) (ap (λ x. lt_z x (pos 0)) (sym (to_z-of_z h)) ∙ t)
  where
    go : (z : ℤ) → SFits w z → read w z ≡ z → lt_z z (pos 0) ≡ true → (n : ℕ) × (z ≡ negsuc n) × (negsuc 0 -ℤ read w z ≡ pos n) × (n < 2 ^ hbits w)
    go (pos n) h e t = absurd (not_below n (ltb-true n 0 t))
    go (negsuc n) h e t = (n, refl, ap (λ x. negsuc 0 -ℤ x) e ∙ mirrored n, h.sfits)

pub from_zero : (w : Width) (z : ℤ) → SFits w z → lt_z (read w z) (pos 0) ≡ false → (n : ℕ) × (z ≡ pos n) × (read w z ≡ pos n) × (n < 2 ^ hbits w)
from_zero w z h t = go z h (to_z-of_z h) (ap (λ x. lt_z x (pos 0)) (sym (to_z-of_z h)) ∙ t)
  where
    go : (z : ℤ) → SFits w z → read w z ≡ z → lt_z z (pos 0) ≡ false → (n : ℕ) × (z ≡ pos n) × (read w z ≡ pos n) × (n < 2 ^ hbits w)
    go (pos n) h e t = (n, refl, e, h.sfits)
    go (negsuc n) h e t = absurd (true≢false t)

-- ---- a negative z is mirrored, -1 - z, and cast
module _ (w : Width) (z : ℤ) (h : SFits w z) (t : lt_z (read w z) (pos 0) ≡ true) where
  pub below : (n : ℕ) × (z ≡ negsuc n) × (negsuc 0 -ℤ read w z ≡ pos n) × (n < 2 ^ hbits w)
  below = below-zero w z h t

  pub mirror_fits : SFits w (negsuc 0 -ℤ read w z)
  mirror_fits = subst (λ (x : ℤ). SFits w x) (sym below.2) (record { sfits = below.3 })

  pub mirror_held : read w (negsuc 0 -ℤ read w z) ≡ pos below.0
  mirror_held = to_z-of_z mirror_fits ∙ below.2

  pub mirror_is : nat_abs (read w (negsuc 0 -ℤ read w z)) ≡ below.0
  mirror_is = ap nat_abs mirror_held

  pub mirror_cast : T (ltb (hbits w) (bits w)) → T (non_neg (read w (negsuc 0 -ℤ read w z))) × Fits w (nat_abs (read w (negsuc 0 -ℤ read w z)))
  mirror_cast b = subst (λ (x : ℤ). T (non_neg x) × Fits w (nat_abs x)) (sym mirror_held) (tt, Fits-nat_abs {w = w} {z = pos below.0} b (record { sfits = below.3 }))

-- ---- one that is not negative is cast
module _ (w : Width) (z : ℤ) (h : SFits w z) (t : lt_z (read w z) (pos 0) ≡ false) where
  pub above : (n : ℕ) × (z ≡ pos n) × (read w z ≡ pos n) × (n < 2 ^ hbits w)
  above = from_zero w z h t

  pub held-is : nat_abs (read w z) ≡ above.0
  held-is = ap nat_abs above.2

  pub held_cast : T (ltb (hbits w) (bits w)) → T (non_neg (read w z)) × Fits w (nat_abs (read w z))
  held_cast b = subst (λ (x : ℤ). T (non_neg x) × Fits w (nat_abs x)) (sym above.2) (tt, Fits-nat_abs {w = w} {z = pos above.0} b (record { sfits = above.3 }))

-- ---- a u64 below 2^63 as an i64, and -1 minus it
pub turned : (r : ℕ) → negsuc 0 -ℤ pos r ≡ negsuc r
turned zero = refl
turned (suc r) = ap (λ (x : ℕ). negsuc (suc x)) (zero-add r)

module _ (r : ℕ) (h : r < 2 ^ 63) where
  pub cast_fits : SFits w64 (pos r)
  cast_fits = record { sfits = h }

  pub cast_is : to_z w64 r ≡ pos r
  cast_is = to_z_pos w64 h

  down : negsuc 0 -ℤ to_z w64 r ≡ negsuc r
  down = ap (λ (x : ℤ). negsuc 0 -ℤ x) cast_is ∙ turned r

  pub turned-fits : SFits w64 (negsuc 0 -ℤ to_z w64 r)
  turned-fits = subst (λ (x : ℤ). SFits w64 x) (sym down) (record { sfits = h })

  pub turned-is : read w64 (negsuc 0 -ℤ to_z w64 r) ≡ negsuc r
  turned-is = to_z-of_z turned-fits ∙ down
