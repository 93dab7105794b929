-- The root of an f32 above zero and finite, by its parts: which number of units it is. Assumes nothing.
use Rattle.std.proofs.Common.{◌≡◌, ℕ, zero, suc, ◌+◌, ◌-◌, ◌*◌, ◌/◌, ◌^◌, ◌<◌, ◌≤◌, Bool, true, false, T, ltb, sym, refl, ap, ◌∙◌, subst, lt_of_lt_of_le, mul_assoc, mul-pos, mul_right_comm, mul-div_cancel, arith, pow_pos, pow_mono, shl_lt, ltb-false, ltb-true}
use lib.Ieee.{Float, nan, inf, fin, binary32, up, down, fits, units}
use lib.Ieee.Exact.{HasValue, units_val}
use lib.Ieee.Fits.{down_pos}
use lib.Ieee.Positive.{positive, positive-finite, positive_of_value, value_pos, first_pos}
use Rattle.floats.specs.Root.{whole_root, root_of_squares, root}
use Rattle.floats.specs.Laws.{NearestRoot}
use Rattle.floats.specs.Private.{Parts, Significant}
use Rattle.floats.proofs.Fields.{parts_of}
use Rattle.floats.proofs.Squares.{wide_of, drop_of, Within, rounds_down, rounds_up, within_down, within_up, down_full, up_full}

-- the sign of a value above zero is that of its parts
pub parts-above : (x : Float) (s : Bool) (d k : ℕ) → T (positive x) → Parts x s d k → s ≡ false
parts-above nan s d k h p = absurd h
parts-above (inf t) s d k h p = absurd h
parts-above (fin true m e) s d k h p = absurd h
parts-above (fin false m e) s d k h p = sym p.value.0

pub significance : (x : Float) (d k : ℕ) → T (positive x) → Parts x false d k → Significant d k
significance x d k h p = record { some = first_pos d (2 ^ k) (value_pos x (d * 2 ^ k) (2 ^ 149) h (pow_pos 149) p.value); short = p.short; near = p.near }

-- x in squares of the unit
crossed : (a b c : ℕ) → a * 2 ^ 149 ≡ b * c → a * 2 ^ 298 ≡ b * 2 ^ 149 * c
crossed a b c e = sym (mul_assoc a (2 ^ 149) (2 ^ 149)) ∙ ap (λ (x : ℕ). x * 2 ^ 149) e ∙ mul_right_comm b c (2 ^ 149)

pub square-value : (x : Float) (d k : ℕ) → HasValue x false (d * 2 ^ k) (2 ^ 149) → HasValue x false (d * 2 ^ k * 2 ^ 149) (2 ^ 298)
square-value nan d k v = absurd v
square-value (inf t) d k v = absurd v
square-value (fin t m e) d k v = (v.0, crossed (m * up e) (d * 2 ^ k) (down e) v.1)

pub root_of_parts : (x : Float) (d k : ℕ) → T (positive x) → HasValue x false (d * 2 ^ k) (2 ^ 149) → root x ≡ root_of_squares (d * 2 ^ k * 2 ^ 149)
unfolding root
root_of_parts nan d k h v = absurd h
root_of_parts (inf t) d k h v = absurd h
root_of_parts (fin true m e) d k h v = absurd h
root_of_parts (fin false zero e) d k h v = absurd h
root_of_parts (fin false (suc m) e) d k h v =
    ap root_of_squares (ap (λ (y : ℕ). y / down e) (crossed (suc m * up e) (d * 2 ^ k) (down e) v.1) ∙ mul-div_cancel (d * 2 ^ k * 2 ^ 149) (down_pos e))

-- the units M × 2^k that are found, and how near they are
abbrev pub Found : Float → ℕ → ℕ → ℕ → Type 0
Found r n M k = (r ≡ units binary32 false M k) × (HasValue r false (M * 2 ^ k) (2 ^ 149)) × ((2 ^ 23 ≤ M) × (M < 2 ^ 24)) × Within n M k

module _ (x : Float) (d k : ℕ) (h : T (positive x)) (p : Parts x false d k) where
  n : ℕ
  n = d * 2 ^ k * 2 ^ 149

  abbrev q : ℕ
  q = whole_root 24 (wide_of d k)

  significant : Significant d k
  significant = significance x d k h p

  -- M has 24 digits, and few enough are dropped that it is no infinity
  finds : (M : ℕ) → units binary32 false M (drop_of d k) ≡ root_of_squares n → (2 ^ 23 ≤ M) × (M < 2 ^ 24) → Within n M (drop_of d k) → Found (root x) n M (drop_of d k)
  unfolding n
  finds M e b w =
      let is : root x ≡ units binary32 false M (drop_of d k) = root_of_parts x d k h p.value ∙ sym e in
      let l = p.near in
      (is, subst (λ (r : Float). HasValue r false (M * 2 ^ drop_of d k) (2 ^ 149)) (sym is) (units_val binary32 false M (drop_of d k) (lt_of_lt_of_le (shl_lt 24 (drop_of d k) b.1) (pow_mono {i = 24 + drop_of d k} {j = 277} (omega arith)))), b, w)

  pub found : (M : ℕ) × Found (root x) (d * 2 ^ k * 2 ^ 149) M (drop_of d k)
  unfolding n
  found = go (ltb q (wide_of d k - q * q)) refl
    where
      go : (b : Bool) → ltb q (wide_of d k - q * q) ≡ b → (M : ℕ) × Found (root x) n M (drop_of d k)
      go true e =
          let t = ltb-true q (wide_of d k - q * q) e in
          (q + 1, finds (q + 1) (rounds_up d k significant q refl t) (up_full d k significant q refl t) (within_up d k significant q refl t))
      go false e =
          let t = ltb-false q (wide_of d k - q * q) e in
          (q, finds q (rounds_down d k significant q refl t) (down_full d k significant q refl) (within_down d k significant q refl t))

-- ---- for each f32 that is finite and above zero

pub root-nearest : (x : Float) → T (fits binary32 x) → T (positive x) → NearestRoot x (root x)
root-nearest x f h =
    let p = parts_of x f (positive-finite x h) in
    let e = parts-above x p.0 p.1 p.2 h p.3 in
    let a = subst (λ (s : Bool). Parts x s p.1 p.2) e p.3 in
    let r = found x p.1 p.2 h a in
    record {
      n = p.1 * 2 ^ p.2 * 2 ^ 149;
      M = r.0;
      k = _;
      argument = square-value x p.1 p.2 a.value;
      result = r.1.0;
      value = r.1.1;
      least = r.1.2.0;
      most = r.1.2.1;
      over = r.1.3.0;
      under = r.1.3.1;
    }

-- the root has 24 digits, so it is above zero
pub root_positive : (x : Float) → T (fits binary32 x) → T (positive x) → T (positive (root x))
root_positive x f h =
    let r = root-nearest x f h in
    positive_of_value (root x) (r.M * 2 ^ r.k) (2 ^ 149) r.value (mul-pos (let l = r.least in omega arith) (pow_pos r.k))
