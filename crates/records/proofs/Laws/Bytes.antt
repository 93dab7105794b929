-- Numbers and floats in bytes, there and back. Assumes nothing.
use mathlib.Core.Path.{◌≡◌, refl, sym, ap, subst, ◌∙◌}
use mathlib.Core.Bool.{Bool, true, false, not, cond, true≢false}
use mathlib.Core.List.{List, [], ◌∷◌, ◌++◌}
use Prim.Native.Nat.{ℕ, zero, suc, ◌+◌, ◌*◌, ◌/◌, ◌%◌, ◌^◌, ◌≤◌, ◌<◌}
use native.Mathlib.Nat.{le_trans, lt_of_not-le, div-lt_iff_lt-mul, pow-succ', mul_comm, min-le_left}
use native.Mathlib.Decide.{dec_le}
use native.Mathlib.Omega.{arith}
use lib.Dec.{T, lit<}
use lib.Ieee.{Float, nan, inf, fin, binary32, fits, is_nan, nan_bits, to_bits}
use lib.Ieee.Bits.{of_bits-to_bits, to_bits-of_bits, to_bits-lt, nan_bits_is}
use lib.ListN.{length, get_or, take, drop, length-take, length-drop, get_or-eq_default}
use lib.Seq.{length-take-le, get_or-take, get_or-drop, take-add, drop-drop}
use Rattle.records.specs.Field.{AreBytes, little_endian, value, bits, float, part, float_at}

pub quotient-below : (b k n : ℕ) → 0 < b → n < b ^ suc k → n / b < b ^ k
quotient-below b k n p h = (div-lt_iff_lt-mul p).1 (rw (pow-succ' b k, mul_comm) at h)

-- ---- numbers

pub value_le : (k n : ℕ) → n < 256 ^ k → value (little_endian k n) ≡ n
unfolding little_endian value
value_le zero n h = omega arith
value_le (suc k) n h = let r = value_le k (n / 256) (quotient-below 256 k n (lit< tt) h) in omega arith

pub le_value : (l : List ℕ) → AreBytes l → little_endian (length l) (value l) ≡ l
unfolding little_endian value
le_value [] h = refl
le_value (b ∷ l) h =
    let small : b < 256 = h 0 in
    let low : (b + 256 * value l) % 256 ≡ b = omega arith in
    let high : (b + 256 * value l) / 256 ≡ value l = omega arith in
    rw (low, high) (ap (λ (r : List ℕ). b ∷ r) (le_value l (λ i. h (suc i))))

pub value-below : (l : List ℕ) → AreBytes l → value l < 256 ^ length l
unfolding value
value-below [] h = lit< tt
value-below (b ∷ l) h = let small : b < 256 = h 0 in let r = value-below l (λ i. h (suc i)) in let p = pow-succ' 256 (length l) in omega arith

-- ---- parts

pub part_bytes : (at k : ℕ) (l : List ℕ) → AreBytes l → AreBytes (part at k l)
part_bytes at k l h i = go (dec_le k i)
  where
    short : (k : ℕ) (l : List ℕ) → length (take k l) ≤ k
    short k l = rw length-take (min-le_left k (length l))

    go : Dec (k ≤ i) → get_or (take k (drop at l)) i 0 < 256
    go (yes past) = rw (get_or-eq_default (take k (drop at l)) 0 (le_trans (short k (drop at l)) past)) (lit< tt)
    go (no within) = rw (get_or-take k (drop at l) i 0 (lt_of_not-le within), get_or-drop at l i 0) (h (at + i))

pub part-long : (at k : ℕ) (l : List ℕ) → at + k ≤ length l → length (part at k l) ≡ k
part-long at k l h = length-take-le k (drop at l) (rw length-drop (omega arith))

-- two parts, one behind the other
pub rejoin : (l : List ℕ) (at k m : ℕ) → part at k l ++ part (at + k) m l ≡ part at (k + m) l
rejoin l at k m = sym (take-add k m (drop at l) ∙ rw drop-drop)

pub le_part : (at k : ℕ) (l : List ℕ) → AreBytes l → at + k ≤ length l → little_endian k (value (part at k l)) ≡ part at k l
le_part at k l h n = let e = part-long at k l n in ap (λ (j : ℕ). little_endian j (value (part at k l))) (sym e) ∙ le_value (part at k l) (part_bytes at k l h)

-- ---- floats

pub is_nan_lem : (x : Float) → is_nan x ≡ true → nan ≡ x
unfolding is_nan
is_nan_lem nan e = refl
is_nan_lem (inf s) e = absurd (true≢false (sym e))
is_nan_lem (fin s m k) e = absurd (true≢false (sym e))

pub float_le : (x : Float) → T (fits binary32 x) → float (value (little_endian 4 (bits x))) ≡ x
float_le x h = ap float (value_le 4 (bits x) (to_bits-lt binary32 x h)) ∙ of_bits-to_bits binary32 x h

-- four bytes that are read as an f32 and written again: those of the one NaN where they are a pattern of a NaN, and otherwise the same
abbrev pub settled : List ℕ → List ℕ
settled b = cond (nan_bits binary32 (value b)) (0 ∷ 0 ∷ 0xc0 ∷ 0x7f ∷ []) b

settle : (n : ℕ) (b : List ℕ) → n < 2 ^ 32 → little_endian 4 n ≡ b → (t : Bool) → nan_bits binary32 n ≡ t → little_endian 4 (bits (float n)) ≡ cond t (0 ∷ 0 ∷ 0xc0 ∷ 0x7f ∷ []) b
unfolding little_endian to_bits
settle n b h e true t = ap (λ (x : Float). little_endian 4 (bits x)) (sym (is_nan_lem (float n) (sym (nan_bits_is binary32 n) ∙ t)))
settle n b h e false t = ap (little_endian 4) (to_bits-of_bits binary32 n h (subst (λ (s : Bool). T (not s)) (sym (sym (nan_bits_is binary32 n) ∙ t)) tt)) ∙ e

pub settled-part : (at : ℕ) (l : List ℕ) → AreBytes l → at + 4 ≤ length l → little_endian 4 (bits (float_at at l)) ≡ settled (part at 4 l)
settled-part at l h n =
    let b = part at 4 l in
    let e = part-long at 4 l n in
    settle (value b) b (subst (λ (k : ℕ). value b < 256 ^ k) e (value-below b (part_bytes at 4 l h))) (le_part at 4 l h n) (nan_bits binary32 (value b)) refl
