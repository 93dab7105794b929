-- Each finite f32 in parts: a is what its bit pattern's fields are read as. Assumes nothing.
use Rattle.std.proofs.Common.{◌≡◌, ℕ, zero, suc, ◌+◌, ◌-◌, ◌/◌, ◌%◌, ◌^◌, ◌<◌, Bool, true, false, cond, T, eqb, leb, ◌⊎◌, sym, refl, ap, ◌∙◌, subst, inl, inr, le_of_suc-le-suc, le-add_right, lt_irrefl, mod-lt, arith, lit<}
use lib.Arith.{lt_of_le-ne}
use borrow.Author.Tests.{eqb-false}
use lib.Ieee.{Float, nan, inf, binary32, fits, odd, of_fields, of_bits, to_bits}
use lib.Ieee.Exact.{odd_sign}
use lib.Ieee.Scale.{finite}
use lib.Ieee.Bits.{of_bits-to_bits}
use Rattle.floats.specs.Private.{Parts}
use Rattle.floats.proofs.Digits.{none_or_some}

-- a field of 0: the digits alone
low_field : (s : Bool) (t : ℕ) → t < 2 ^ 23 → Parts (of_fields binary32 s 0 t) s t 0
unfolding of_fields
low_field s t h = record { value = odd_sign 24 s t 0 149; short = omega arith; full = λ g. absurd (lt_irrefl 0 g); near = omega arith }

-- a field of all ones is not finite
not_ones : (b u s : Bool) (v : Float) → T (finite (cond b (cond u (inf s) nan) v)) → b ≡ false
not_ones true true s v h = absurd h
not_ones true false s v h = absurd h
not_ones false u s v h = refl

-- any other: the leading digit before them, at the place that the field says
high_field : (s : Bool) (x t : ℕ) → x < 255 → t < 2 ^ 23 → T (finite (of_fields binary32 s (suc x) t)) → Parts (of_fields binary32 s (suc x) t) s (2 ^ 23 + t) x
unfolding of_fields
high_field s x t X H h =
    let v = odd 24 s (2 ^ 23 + t) x 149 in
    let e : eqb (suc x) 255 ≡ false = not_ones (eqb (suc x) 255) (eqb t 0) s v h in
    let ne : suc x ≡ 255 → ⊥ = eqb-false (suc x) 255 e in
    let X' : suc x < 255 = lt_of_le-ne X ne in
    subst (λ (b : Bool). Parts (cond b (cond (eqb t 0) (inf s) nan) v) s (2 ^ 23 + t) x) (sym e)
    (record { value = odd_sign 24 s (2 ^ 23 + t) x 149; short = omega arith; full = λ g. le-add_right (2 ^ 23) t; near = omega arith })

module _ (a : Float) (F : T (fits binary32 a)) (h : T (finite a)) where
  unfoldable pub pattern : ℕ
  pattern = to_bits binary32 a

  fields_are : of_fields binary32 (leb (2 ^ 31) pattern) (pattern % 2 ^ 31 / 2 ^ 23) (pattern % 2 ^ 23) ≡ a
  unfolding pattern of_bits
  fields_are = of_bits-to_bits binary32 a F

  digits_lt : pattern % 2 ^ 23 < 2 ^ 23
  digits_lt = mod-lt pattern (lit< tt)

  field_lt : pattern % 2 ^ 31 / 2 ^ 23 < 256
  field_lt = omega arith

  -- the parts as the code reads them off, and that there are some
  pub low-is : pattern % 2 ^ 31 / 2 ^ 23 ≡ 0 → Parts a (leb (2 ^ 31) pattern) (pattern % 2 ^ 23) 0
  low-is e = subst (λ (x : Float). Parts x (leb (2 ^ 31) pattern) (pattern % 2 ^ 23) 0) (ap (λ (x : ℕ). of_fields binary32 (leb (2 ^ 31) pattern) x (pattern % 2 ^ 23)) (sym e) ∙ fields_are) (low_field (leb (2 ^ 31) pattern) (pattern % 2 ^ 23) digits_lt)

  at_field : (x : ℕ) → x < 256 → (x ≡ 0 → ⊥) → of_fields binary32 (leb (2 ^ 31) pattern) x (pattern % 2 ^ 23) ≡ a → Parts a (leb (2 ^ 31) pattern) (2 ^ 23 + pattern % 2 ^ 23) (x - 1)
  at_field zero X some e = absurd (some refl)
  at_field (suc x) X some e =
      subst (λ (y : ℕ). Parts a (leb (2 ^ 31) pattern) (2 ^ 23 + pattern % 2 ^ 23) y) (less x)
      (subst (λ (v : Float). Parts v (leb (2 ^ 31) pattern) (2 ^ 23 + pattern % 2 ^ 23) x) e
      (high_field (leb (2 ^ 31) pattern) x (pattern % 2 ^ 23) (le_of_suc-le-suc X) digits_lt (subst (λ (v : Float). T (finite v)) (sym e) h)))
    where
      less : (x : ℕ) → x ≡ suc x - 1
      less x = omega arith

  pub high_is : (pattern % 2 ^ 31 / 2 ^ 23 ≡ 0 → ⊥) → Parts a (leb (2 ^ 31) pattern) (2 ^ 23 + pattern % 2 ^ 23) (pattern % 2 ^ 31 / 2 ^ 23 - 1)
  high_is some = at_field (pattern % 2 ^ 31 / 2 ^ 23) field_lt some fields_are

  pub parts_of : (s : Bool) × (d : ℕ) × (k : ℕ) × Parts a s d k
  parts_of = go (none_or_some (pattern % 2 ^ 31 / 2 ^ 23))
    where
      go : (pattern % 2 ^ 31 / 2 ^ 23 ≡ 0) ⊎ (0 < pattern % 2 ^ 31 / 2 ^ 23) → (s : Bool) × (d : ℕ) × (k : ℕ) × Parts a s d k
      go (inl z) = (leb (2 ^ 31) pattern, pattern % 2 ^ 23, 0, low-is z)
      go (inr p) = (leb (2 ^ 31) pattern, 2 ^ 23 + pattern % 2 ^ 23, pattern % 2 ^ 31 / 2 ^ 23 - 1, high_is (λ z. omega arith))
