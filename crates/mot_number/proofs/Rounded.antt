-- What `round` gives of a fraction: the nearest f32, a tie to the even one. Assumes nothing.
use mathlib.Core.Path.{◌≡◌, refl, sym, ap, subst, ◌∙◌}
use mathlib.Core.Logic.{◌⊎◌, inl, inr}
use mathlib.Core.Bool.{Bool, true, false, cond}
use Prim.Native.Nat.{ℕ, zero, suc, ◌+◌, ◌-◌, ◌*◌, ◌/◌, ◌%◌, ◌^◌, ◌≤◌, ◌<◌, compare, Ordering}
use native.Mathlib.Nat.{le_trans, le_of_eq, lt_of_lt_of_le, lt_of_le_of_lt, lt_of_not-le, le_of_lt, lt_irrefl, le-add_right, mul_assoc, mul_comm, mul_right_comm, one-mul, zero-mul, suc-mul}
use native.Mathlib.Nat.{add-zero, add-mul, mul-pos, mul-le-mul_right, mul-lt-mul_of_pos_right, eq_of_mul-eq-mul_right, mod-lt, le-div_iff_mul-le, div-lt_iff_lt-mul, div-eq_of_lt-le, div-div-eq-div-mul, le_of_suc-le-suc, div-add-mod', zero-div}
use native.Mathlib.Omega.{arith}
use lib.Arith.{lt_of_le-ne}
use lib.Dec.{T, ltb, is_le, compare_is_eq}
use lib.IntN.{pos}
use lib.Pow.{pow-add, pow_pos, pow_mono, pow-lt, shl_lt}
use borrow.Author.Tests.{leb-true, leb-false, eqb-true, eqb-false, ltb-true, ltb-false}
use lib.Ieee.{Float, nan, inf, fin, binary32, down, size, nearest, odd, units, round, neg, fits}
use lib.Ieee.Digits.{size-le}
use lib.Ieee.Fits.{down_pos, round_is, nearest-le, kept-lt}
use lib.Ieee.Exact.{HasValue, units_val}
use lib.Ieee.Nearest.{closest, nearest-ge}
use lib.Ieee.Scale.{finite}
use Rattle.floats.proofs.Digits.{compare_lt}
use Rattle.floats.proofs.Fields.{parts_of}
use Rattle.mot_number.specs.Laws.{dist, apart, NearestFraction}

-- ---- quotient and remainder, and what is closest by them

divides : (x d q r : ℕ) → r < d → x ≡ q * d + r → (x / d ≡ q) × (x % d ≡ r)
divides x d q r h e =
    let n = add-mul q 1 d in
    let o = one-mul d in
    let is : x / d ≡ q = div-eq_of_lt-le d (omega arith) (omega arith) in
    let m : q * d + x % d ≡ x = subst (λ (y : ℕ). y * d + x % d ≡ x) is (div-add-mod' x d) in
    (is, omega arith)

closest_of : (x d q r : ℕ) → r < d → x ≡ q * d + r → closest x d ≡ nearest q (compare (r * 2) d)
closest_of x d q r h e =
    let p = divides x d q r h e in
    ap (λ (y : ℕ). nearest y (compare (x % d * 2) d)) p.0 ∙ ap (λ (y : ℕ). nearest q (compare (y * 2) d)) p.1

-- ---- zero keeps its sign, and a sign is only written before

no_units : (s : Bool) → units binary32 s 0 0 ≡ fin s 0 (pos 0)
unfolding units odd
no_units s = refl

pub round_zero : (s : Bool) (den : ℕ) → 0 < den → round binary32 s 0 den ≡ fin s 0 (pos 0)
unfolding size
round_zero s den h =
    round_is binary32 s 0 den
    ∙ ap (λ (x : ℕ). units binary32 s (closest 0 (den * 2 ^ (size x - 24))) (size x - 24)) (zero-div den)
    ∙ ap (λ (x : ℕ). units binary32 s x 0) (closest_of 0 (den * 1) 0 0 (omega arith) (omega arith) ∙ ap (nearest 0) (compare_lt 0 (den * 1) (omega arith)))
    ∙ no_units s

neg_odd : (d q k l : ℕ) → neg (odd d false q k l) ≡ odd d true q k l
unfolding neg odd
neg_odd d zero k l = refl
neg_odd d (suc q) k l = refl

neg_units : (q k : ℕ) → neg (units binary32 false q k) ≡ units binary32 true q k
unfolding units neg
neg_units q k = go (ltb (q * 2 ^ k) (2 ^ 277))
  where
    go : (b : Bool) → neg (cond b (odd 25 false q k 149) (inf false)) ≡ cond b (odd 25 true q k 149) (inf true)
    go true = neg_odd 25 q k 149
    go false = refl

pub round_neg : (num den : ℕ) → neg (round binary32 false num den) ≡ round binary32 true num den
round_neg num den = ap neg (round_is binary32 false num den) ∙ neg_units _ _ ∙ sym (round_is binary32 true num den)

-- ---- of the multiples of u, `closest x u` of them is nearest to x. Where another is as near, it is even

module _ (x u : ℕ) (some : 0 < u) where
  q : ℕ
  q = x / u

  r : ℕ
  r = x % u

  parts : q * u + r ≡ x
  unfolding q r
  parts = div-add-mod' x u

  r_lt : r < u
  unfolding r
  r_lt = mod-lt x some

  below : (c d : ℕ) → c < d → c * u + u ≤ d * u
  below c d h = subst (λ (w : ℕ). w ≤ d * u) (suc-mul c u) (mul-le-mul_right u h)

  -- where c multiples are: below the quotient q and the next, one of them, or above
  data Place (c : ℕ) : Type 0 where
    under : c * u + u ≤ q * u → Place c
    here : c ≡ q → Place c
    next : c ≡ suc q → Place c
    beyond : suc q * u + u ≤ c * u → Place c

  place : (c : ℕ) → Place c
  place c = go (ltb c q) (ltb (suc q) c) (ltb c (suc q)) refl refl refl
    where
      go : (a b d : Bool) → ltb c q ≡ a → ltb (suc q) c ≡ b → ltb c (suc q) ≡ d → Place c
      go true b d e f g = under (below c q (ltb-true _ _ e))
      go false true d e f g = beyond (below (suc q) c (ltb-true _ _ f))
      go false false true e f g = let l : q ≤ c = ltb-false _ _ e in let m : c < suc q = ltb-true _ _ g in here (omega arith)
      go false false false e f g = let l : c ≤ suc q = ltb-false _ _ f in let m : suc q ≤ c = ltb-false _ _ g in next (omega arith)

  abbrev Best : ℕ → ℕ → Type 0
  Best m c = (dist x (m * u) ≤ dist x (c * u)) × (dist x (c * u) ≡ dist x (m * u) → (c ≡ m) ⊎ (m % 2 ≡ 0))

  -- m multiples are no farther than both neighbours of x
  best_of : (m D c : ℕ) → dist x (m * u) ≡ D → D ≤ r → D ≤ u - r → (r ≡ D → (q ≡ m) ⊎ (m % 2 ≡ 0)) → (u - r ≡ D → (suc q ≡ m) ⊎ (m % 2 ≡ 0)) → Best m c
  best_of m D c e h g a b = go (place c)
    where
      go : Place c → Best m c
      go (under l) = let p = parts in let t = r_lt in (omega arith, λ f. absurd (omega arith))
      go (here i) =
          let p = parts in
          let t = r_lt in
          let w : c * u ≡ q * u = ap (λ (y : ℕ). y * u) i in
          let d : dist x (c * u) ≡ r = omega arith in
          (omega arith, λ f. subst (λ (y : ℕ). (y ≡ m) ⊎ (m % 2 ≡ 0)) (sym i) (a (sym d ∙ f ∙ e)))
      go (next i) =
          let p = parts in
          let t = r_lt in
          let w : c * u ≡ q * u + u = ap (λ (y : ℕ). y * u) i ∙ suc-mul q u in
          let d : dist x (c * u) ≡ u - r = omega arith in
          (omega arith, λ f. subst (λ (y : ℕ). (y ≡ m) ⊎ (m % 2 ≡ 0)) (sym i) (b (sym d ∙ f ∙ e)))
      go (beyond l) = let p = parts in let t = r_lt in let n = suc-mul q u in (omega arith, λ f. absurd (omega arith))

  best : (c : ℕ) → Best (closest x u) c
  unfolding q r
  best c = go (compare (r * 2) u) refl
    where
      even : (b : ℕ) → b < 2 → q % 2 ≡ b → r * 2 ≡ u → dist x ((q + b) * u) ≡ r
      even zero l e h = let p = parts in let t = r_lt in let m : (q + 0) * u ≡ q * u = ap (λ (y : ℕ). y * u) (add-zero q) in omega arith
      even (suc zero) l e h = let p = parts in let t = r_lt in let m : (q + 1) * u ≡ q * u + 1 * u = add-mul q 1 u in let o = one-mul u in omega arith
      even (suc (suc b)) l e h = absurd (omega arith)

      go : (o : Ordering) → compare (r * 2) u ≡ o → Best (nearest q o) c
      go Ordering.lt e =
          let h : r * 2 < u = lt_of_le-ne (leb-true _ _ (ap is_le e)) (eqb-false _ _ (ap compare_is_eq e)) in
          let p = parts in
          best_of q r c (omega arith) (omega arith) (omega arith) (λ f. inl refl) (λ f. absurd (omega arith))
      go Ordering.eq e =
          let h : r * 2 ≡ u = eqb-true _ _ (ap compare_is_eq e) in
          best_of (q + q % 2) r c (even (q % 2) (omega arith) refl h) (omega arith) (omega arith) (λ f. inr (omega arith)) (λ f. inr (omega arith))
      go Ordering.gt e =
          let h : u < r * 2 = leb-false _ _ (ap is_le e) in
          let p = parts in
          let t = r_lt in
          let n = suc-mul q u in
          best_of (suc q) (u - r) c (omega arith) (omega arith) (omega arith) (λ f. absurd (omega arith)) (λ f. inl refl)

  -- so it is within half a unit of x
  half_of : 2 * dist x (closest x u * u) ≤ u
  unfolding q r
  half_of =
      let p = parts in
      let t = r_lt in
      let a : dist x (closest x u * u) ≤ dist x (q * u) = (best q).0 in
      let b : dist x (closest x u * u) ≤ dist x (suc q * u) = (best (suc q)).0 in
      let n = suc-mul q u in
      omega arith

-- ---- with signs

-- what is no farther than 0 is no farther than anything on the other side of it
apart-least : (s t : Bool) (x m b : ℕ) → dist x m ≤ dist x b → dist x m ≤ x → apart s x s m ≤ apart s x t b
apart-least true true x m b h g = h
apart-least true false x m b h g = le_trans g (le-add_right x b)
apart-least false true x m b h g = le_trans g (le-add_right x b)
apart-least false false x m b h g = h

apart-even : (s t : Bool) (x m b : ℕ) (E : Type 0) → dist x m ≤ x → apart s x t b ≡ apart s x s m → (dist x b ≡ dist x m → E) → (b ≡ 0 → dist x 0 ≡ dist x m → E) → E
apart-even true true x m b E h e f g = f e
apart-even true false x m b E h e f g = g (omega arith) (omega arith)
apart-even false true x m b E h e f g = g (omega arith) (omega arith)
apart-even false false x m b E h e f g = f e

-- ---- an f32 is a whole number of units, and how many is one number

finite_of : (x : Float) (t : Bool) (a : ℕ) → HasValue x t a (2 ^ 149) → T (finite x)
finite_of nan t a v = absurd v
finite_of (inf s) t a v = absurd v
finite_of (fin s m e) t a v = tt

one_value : (x : Float) (s t : Bool) (a b : ℕ) → HasValue x s a (2 ^ 149) → HasValue x t b (2 ^ 149) → a ≡ b
one_value nan s t a b v w = absurd v
one_value (inf z) s t a b v w = absurd v
one_value (fin z m e) s t a b v w = eq_of_mul-eq-mul_right (down e) (down_pos e) a b (sym v.1 ∙ w.1)

-- it is a multiple of 2^k units, or it is below 2^23 of these
multiple_or_below : (k d p : ℕ) → d < 2 ^ 24 → ((c : ℕ) × (d * 2 ^ p ≡ c * 2 ^ k)) ⊎ ((0 < k) × (d * 2 ^ p < 2 ^ 23 * 2 ^ k))
multiple_or_below k d p h = go (ltb p k) refl
  where
    go : (b : Bool) → ltb p k ≡ b → ((c : ℕ) × (d * 2 ^ p ≡ c * 2 ^ k)) ⊎ ((0 < k) × (d * 2 ^ p < 2 ^ 23 * 2 ^ k))
    go true e =
        let l : p < k = ltb-true _ _ e in
        inr (omega arith, lt_of_lt_of_le (shl_lt 24 p h) (le_trans (pow_mono {i = 24 + p} {j = 23 + k} (omega arith)) (le_of_eq (pow-add 2 23 k))))
    go false e =
        let l : k ≤ p = ltb-false _ _ e in
        let f : p ≡ p - k + k = omega arith in
        inl (d * 2 ^ (p - k), ap (λ (x : ℕ). d * x) (ap (λ (x : ℕ). 2 ^ x) f ∙ pow-add 2 (p - k) k) ∙ sym (mul_assoc d (2 ^ (p - k)) (2 ^ k)))

farther : (x b c : ℕ) → b < c → c ≤ x → dist x c < dist x b
farther x b c h l = omega arith

from-none : (x z : ℕ) → z ≡ 0 → dist x z ≤ x
from-none x z e = omega arith

-- ---- num / den in units, of which `round` drops k digits and keeps the number M
module _ (num den : ℕ) (some : 0 < den) where
  abbrev units_of : ℕ
  units_of = num * 2 ^ 149

  abbrev dropped_of : ℕ
  dropped_of = size (num * 2 ^ 149 / den) - 24

  abbrev kept_of : ℕ
  kept_of = closest (num * 2 ^ 149) (den * 2 ^ dropped_of)

  unit : 0 < den * 2 ^ dropped_of
  unit = mul-pos some (pow_pos dropped_of)

  -- where digits are dropped, 24 are left
  full : 0 < dropped_of → 2 ^ 23 * (den * 2 ^ dropped_of) ≤ units_of
  full h =
      let l : 2 ^ (23 + dropped_of) ≤ num * 2 ^ 149 / den = le_of_suc-le-suc (lt_of_not-le (λ g. let s = size-le (num * 2 ^ 149 / den) (23 + dropped_of) g in omega arith)) in
      le_trans (le_of_eq (ap (λ (x : ℕ). 2 ^ 23 * x) (mul_comm den (2 ^ dropped_of)) ∙ sym (mul_assoc (2 ^ 23) (2 ^ dropped_of) den) ∙ ap (λ (x : ℕ). x * den) (sym (pow-add 2 23 dropped_of))))
      ((le-div_iff_mul-le some).0 l)

  kept_least : 0 < dropped_of → 2 ^ 23 ≤ kept_of
  kept_least h = le_trans ((le-div_iff_mul-le unit).1 (full h)) (nearest-ge _ (compare (num * 2 ^ 149 % (den * 2 ^ dropped_of) * 2) (den * 2 ^ dropped_of)))

  kept_most : kept_of ≤ 2 ^ 24
  kept_most = le_trans (nearest-le _ (compare (num * 2 ^ 149 % (den * 2 ^ dropped_of) * 2) (den * 2 ^ dropped_of))) (subst (λ (x : ℕ). x < 2 ^ 24) (div-div-eq-div-mul (num * 2 ^ 149) den (2 ^ dropped_of)) (kept-lt 24 (num * 2 ^ 149 / den)))

  -- no f32 of a units is nearer; where one is as near, and is another, what was kept is even
  abbrev Beats : ℕ → Type 0
  Beats a =
      (dist units_of (kept_of * 2 ^ dropped_of * den) ≤ dist units_of (a * den))
      × (dist units_of (a * den) ≡ dist units_of (kept_of * 2 ^ dropped_of * den) → (a ≡ kept_of * 2 ^ dropped_of) ⊎ (kept_of % 2 ≡ 0))

  turned : (m : ℕ) → m * 2 ^ dropped_of * den ≡ m * (den * 2 ^ dropped_of)
  turned m = mul_assoc m (2 ^ dropped_of) den ∙ ap (λ (x : ℕ). m * x) (mul_comm (2 ^ dropped_of) den)

  beats_multiple : (a c : ℕ) → a ≡ c * 2 ^ dropped_of → Beats a
  beats_multiple a c e =
      let b = best units_of (den * 2 ^ dropped_of) unit c in
      let f : a * den ≡ c * (den * 2 ^ dropped_of) = ap (λ (x : ℕ). x * den) e ∙ turned c in
      let m : dist units_of (a * den) ≡ dist units_of (c * (den * 2 ^ dropped_of)) = ap (dist units_of) f in
      let n : dist units_of (kept_of * 2 ^ dropped_of * den) ≡ dist units_of (kept_of * (den * 2 ^ dropped_of)) = ap (dist units_of) (turned kept_of) in
      (le_trans (le_of_eq n) (le_trans b.0 (le_of_eq (sym m))), λ g. same (b.1 (sym m ∙ g ∙ n)))
    where
      same : (c ≡ kept_of) ⊎ (kept_of % 2 ≡ 0) → (a ≡ kept_of * 2 ^ dropped_of) ⊎ (kept_of % 2 ≡ 0)
      same (inl i) = inl (e ∙ ap (λ (x : ℕ). x * 2 ^ dropped_of) i)
      same (inr i) = inr i

  beats_below : (a : ℕ) → 0 < dropped_of → a < 2 ^ 23 * 2 ^ dropped_of → Beats a
  beats_below a h l =
      let b = best units_of (den * 2 ^ dropped_of) unit (2 ^ 23) in
      let f = full h in
      let g : a * den < 2 ^ 23 * (den * 2 ^ dropped_of) = subst (λ (x : ℕ). a * den < x) (turned (2 ^ 23)) (mul-lt-mul_of_pos_right l some) in
      let n : dist units_of (kept_of * 2 ^ dropped_of * den) ≡ dist units_of (kept_of * (den * 2 ^ dropped_of)) = ap (dist units_of) (turned kept_of) in
      let c : dist units_of (kept_of * (den * 2 ^ dropped_of)) ≤ dist units_of (2 ^ 23 * (den * 2 ^ dropped_of)) = b.0 in
      let d : dist units_of (kept_of * 2 ^ dropped_of * den) < dist units_of (a * den) = lt_of_le_of_lt (le_trans (le_of_eq n) c) (farther units_of (a * den) (2 ^ 23 * (den * 2 ^ dropped_of)) g f) in
      (le_of_lt d, λ e. absurd (lt_irrefl _ (lt_of_lt_of_le d (le_of_eq e))))

  beats : (x : Float) (t : Bool) (a : ℕ) → T (fits binary32 x) → HasValue x t a (2 ^ 149) → Beats a
  beats x t a f v =
      let p = parts_of x f (finite_of x t a v) in
      subst Beats (one_value x p.0 t (p.1 * 2 ^ p.2) a p.3.value v) (go p.1 p.2 (multiple_or_below dropped_of p.1 p.2 p.3.short))
    where
      go : (d k : ℕ) → ((c : ℕ) × (d * 2 ^ k ≡ c * 2 ^ dropped_of)) ⊎ ((0 < dropped_of) × (d * 2 ^ k < 2 ^ 23 * 2 ^ dropped_of)) → Beats (d * 2 ^ k)
      go d k (inl m) = beats_multiple (d * 2 ^ k) m.0 m.1
      go d k (inr m) = beats_below (d * 2 ^ k) m.0 m.1

  -- below 2^127 nothing becomes an infinity
  rounded-value : (s : Bool) → num < 2 ^ 127 * den → HasValue (round binary32 s num den) s (kept_of * 2 ^ dropped_of) (2 ^ 149)
  rounded-value s h =
      subst (λ (x : Float). HasValue x s (kept_of * 2 ^ dropped_of) (2 ^ 149)) (sym (round_is binary32 s num den))
      (units_val binary32 s kept_of dropped_of (lt_of_le_of_lt (mul-le-mul_right (2 ^ dropped_of) kept_most) (lt_of_le_of_lt (le_of_eq (sym (pow-add 2 24 dropped_of))) (pow-lt {i = 24 + dropped_of} {j = 277} (omega (arith, short))))))
    where
      short : size (num * 2 ^ 149 / den) ≤ 276
      short = size-le (num * 2 ^ 149 / den) 276 ((div-lt_iff_lt-mul some).1 (lt_of_lt_of_le (mul-lt-mul_of_pos_right h (pow_pos 149)) (le_of_eq (mul_right_comm (2 ^ 127) den (2 ^ 149)))))

  zero-fits : (s : Bool) → T (fits binary32 (fin s 0 (pos 0)))
  unfolding fits
  zero-fits s = tt

  zero-value : (s : Bool) → HasValue (fin s 0 (pos 0)) s 0 (2 ^ 149)
  zero-value s = (refl, refl)

  -- 0 is an f32 too
  no_farther : dist units_of (kept_of * 2 ^ dropped_of * den) ≤ units_of
  no_farther = le_trans (beats (fin false 0 (pos 0)) false 0 (zero-fits false) (zero-value false)).0 (from-none units_of (0 * den) (zero-mul den))

  nearest_of : (s : Bool) (x : Float) (t : Bool) (a : ℕ) → T (fits binary32 x) → HasValue x t a (2 ^ 149) → apart s units_of s (kept_of * 2 ^ dropped_of * den) ≤ apart s units_of t (a * den)
  nearest_of s x t a f v = apart-least s t units_of (kept_of * 2 ^ dropped_of * den) (a * den) (beats x t a f v).0 no_farther

  even_of : (s : Bool) (x : Float) (t : Bool) (a : ℕ) → T (fits binary32 x) → HasValue x t a (2 ^ 149)
      → apart s units_of t (a * den) ≡ apart s units_of s (kept_of * 2 ^ dropped_of * den) → (a ≡ kept_of * 2 ^ dropped_of) ⊎ (kept_of % 2 ≡ 0)
  even_of s x t a f v e =
      apart-even s t units_of (kept_of * 2 ^ dropped_of * den) (a * den) _ no_farther e (beats x t a f v).1
      (λ z d. other (eq_of_mul-eq-mul_right den some a 0 (z ∙ sym (zero-mul den))) ((beats (fin false 0 (pos 0)) false 0 (zero-fits false) (zero-value false)).1 (ap (dist units_of) (zero-mul den) ∙ d)))
    where
      other : a ≡ 0 → (0 ≡ kept_of * 2 ^ dropped_of) ⊎ (kept_of % 2 ≡ 0) → (a ≡ kept_of * 2 ^ dropped_of) ⊎ (kept_of % 2 ≡ 0)
      other z (inl i) = inl (z ∙ i)
      other z (inr i) = inr i

  half_unit : 2 * dist units_of (kept_of * 2 ^ dropped_of * den) ≤ 2 ^ dropped_of * den
  half_unit =
      let h = half_of units_of (den * 2 ^ dropped_of) unit in
      le_trans (le_of_eq (ap (λ (x : ℕ). 2 * dist units_of x) (turned kept_of))) (le_trans h (le_of_eq (mul_comm den (2 ^ dropped_of))))

-- for every fraction below 2^127, so for every one of a u64 and what is not 0
pub round_nearest : (s : Bool) (num den : ℕ) → 0 < den → num < 2 ^ 127 * den → NearestFraction s num den (round binary32 s num den)
round_nearest s num den h l = record {
  M = kept_of num den h;
  k = dropped_of num den h;
  value = rounded-value num den h s l;
  most = kept_most num den h;
  least = kept_least num den h;
  nearest = nearest_of num den h s;
  even = even_of num den h s;
  half = half_unit num den h;
}
