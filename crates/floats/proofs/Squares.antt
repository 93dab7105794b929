-- The root of d × 2^k units, which are d × 2^k × 2^149 squares of the unit, by the digits of d: which units it is, and how near they are. Assumes nothing.
use Rattle.std.proofs.Common.{◌≡◌, ℕ, zero, suc, ◌+◌, ◌-◌, ◌*◌, ◌/◌, ◌%◌, ◌^◌, ◌<◌, ◌≤◌, false, ◌⊎◌, sym, refl, ap, ◌∙◌, subst, inl, inr, le_trans, le_of_eq, lt_of_lt_of_le, le_of_suc-le-suc, lt_of_le_of_lt, mul-le-mul_right, mul_assoc, mul-le-mul, mul-lt-mul_of_pos_right, lt_of_not-le, not-le_of_lt, mul-div_cancel, add-one, arith, pow_pos, pow_mono, pow-add, shl_lt, shl_exact}
use Prim.Native.Nat.{compare, Ordering}
use lib.Count.{count_leading_zeros, leading_top}
use lib.Ieee.{binary32, size, nearest, units}
use Rattle.floats.specs.Root.{whole_root, root_of_squares}
use Rattle.floats.specs.Private.{Significant}
use Rattle.floats.proofs.Digits.{size_is, none_or_some, compare_lt, compare_gt}
use Rattle.floats.proofs.Roots.{IsRoot, whole_is, square-even, square-next}

-- as the code counts: how many digits of the root are dropped, how far d is shifted for that, and what it then is
abbrev pub drop_of : ℕ → ℕ → ℕ
drop_of d k = (32 - count_leading_zeros 32 d + k + 150) / 2 - 24

abbrev pub shift_of : ℕ → ℕ → ℕ
shift_of d k = k + 149 - 2 * drop_of d k

abbrev pub wide_of : ℕ → ℕ → ℕ
wide_of d k = (d * 2 ^ shift_of d k) % 2 ^ 64

-- twice the distance of M × 2^k from the root of n is below 2^k: by squares, both sides doubled
abbrev pub Within : ℕ → ℕ → ℕ → Type 0
Within n M k = ((2 * M - 1) * (2 * M - 1) * 2 ^ (2 * k) < 4 * n) × (4 * n < (2 * M + 1) * (2 * M + 1) * 2 ^ (2 * k))

-- the squares of 2 q + 1 and 2 q - 1 by that of q
square_odd : (q : ℕ) → (2 * q + 1) * (2 * q + 1) ≡ 4 * (q * q) + 4 * q + 1
square_odd q = let a = square-even q in let b = square-next (2 * q) in ap (λ (x : ℕ). x * x) (add-one (2 * q)) ∙ omega arith

odd_lt : (q : ℕ) → 0 < q → (2 * q - 1) * (2 * q - 1) < 4 * (q * q)
odd_lt zero h = absurd (omega arith)
odd_lt (suc p) h =
    let e : 2 * suc p - 1 ≡ 2 * p + 1 = omega arith in
    let a = square_odd p in
    let b = square-next p in
    subst (λ (x : ℕ). x * x < 4 * (suc p * suc p)) (sym e) (omega arith)

module _ (d k : ℕ) (h : Significant d k) where
  -- the top digit of d is at the place j
  top : (j : ℕ) × (count_leading_zeros 32 d + suc j ≡ 32) × (2 ^ j ≤ d) × (d < 2 ^ suc j)
  top = leading_top 32 d h.some (omega arith)

  j : ℕ
  j = top.0

  digits_are : count_leading_zeros 32 d + suc j ≡ 32
  unfolding j
  digits_are = top.1

  lo : 2 ^ j ≤ d
  unfolding j
  lo = top.2

  hi : d < 2 ^ suc j
  unfolding j
  hi = top.3

  j_le : j ≤ 23
  j_le = le_of_suc-le-suc (lt_of_not-le {n = 24} {m = j} (λ g. not-le_of_lt h.short (le_trans (pow_mono g) lo)))

  dropped : ℕ
  dropped = drop_of d k

  shift : ℕ
  shift = shift_of d k

  dropped-is : dropped ≡ (suc j + k + 150) / 2 - 24
  unfolding dropped
  dropped-is = let l = digits_are in let e : 32 - count_leading_zeros 32 d ≡ suc j = omega arith in ap (λ (x : ℕ). (x + k + 150) / 2 - 24) e

  shift_is : shift ≡ k + 149 - 2 * dropped
  unfolding shift dropped
  shift_is = refl

  wide_is : wide_of d k ≡ d * 2 ^ shift
  unfolding shift
  wide_is = shl_exact (suc j) shift 64 hi (let a = dropped-is in let b = shift_is in let c = j_le in omega arith)

  pub wide_lt : wide_of d k < 2 ^ 48
  wide_lt = subst (λ (x : ℕ). x < 2 ^ 48) (sym wide_is) (lt_of_lt_of_le (shl_lt (suc j) shift hi) (pow_mono {i = suc j + shift} {j = 48} (let a = dropped-is in let b = shift_is in let c = j_le in omega arith)))

  wide_ge : 2 ^ 46 ≤ wide_of d k
  wide_ge = subst (λ (x : ℕ). 2 ^ 46 ≤ x) (sym wide_is) (le_trans (pow_mono {i = 46} {j = j + shift} (let a = dropped-is in let b = shift_is in let c = j_le in omega arith)) (le_trans (le_of_eq (pow-add 2 j shift)) (mul-le-mul_right (2 ^ shift) lo)))

  -- where all 48 places are used, the lowest 24 are empty
  wide_le : wide_of d k ≤ 2 ^ 48 - 2 ^ 24
  wide_le = go (none_or_some (shift - 23))
    where
      low : shift ≤ 23 → wide_of d k < 2 ^ 47
      low h = subst (λ (x : ℕ). x < 2 ^ 47) (sym wide_is) (lt_of_lt_of_le (shl_lt (suc j) shift hi) (pow_mono {i = suc j + shift} {j = 47} (let a = j_le in omega arith)))

      high : 24 ≤ shift → wide_of d k ≡ d * 2 ^ (shift - 24) * 2 ^ 24
      high h = let e : shift ≡ shift - 24 + 24 = omega arith in wide_is ∙ ap (λ (x : ℕ). d * x) (ap (λ (x : ℕ). 2 ^ x) e ∙ pow-add 2 (shift - 24) 24) ∙ sym (mul_assoc d (2 ^ (shift - 24)) (2 ^ 24))

      go : (shift - 23 ≡ 0) ⊎ (0 < shift - 23) → wide_of d k ≤ 2 ^ 48 - 2 ^ 24
      go (inl z) = let a = low (omega arith) in omega arith
      go (inr p) = let a = high (omega arith) in let b = wide_lt in omega arith

  n : ℕ
  n = d * 2 ^ k * 2 ^ 149

  n-is : n ≡ wide_of d k * 2 ^ (2 * dropped)
  unfolding n
  n-is =
      let e : k + 149 ≡ shift + 2 * dropped = let a = dropped-is in let b = shift_is in let c = j_le in omega arith in
      mul_assoc d (2 ^ k) (2 ^ 149) ∙ ap (λ (x : ℕ). d * x) (sym (pow-add 2 k 149) ∙ ap (λ (x : ℕ). 2 ^ x) e ∙ pow-add 2 shift (2 * dropped))
      ∙ sym (mul_assoc d (2 ^ shift) (2 ^ (2 * dropped))) ∙ ap (λ (x : ℕ). x * 2 ^ (2 * dropped)) (sym wide_is)

  size_n : size n ≡ suc (j + k + 149)
  unfolding n
  size_n =
      size_is (d * 2 ^ k * 2 ^ 149) (j + k + 149)
      (le_trans (le_of_eq (pow-add 2 (j + k) 149)) (mul-le-mul_right (2 ^ 149) (le_trans (le_of_eq (pow-add 2 j k)) (mul-le-mul_right (2 ^ k) lo))))
      (lt_of_lt_of_le (shl_lt (suc j + k) 149 (shl_lt (suc j) k hi)) (pow_mono {i = suc j + k + 149} {j = suc (j + k + 149)} (omega arith)))

  drops : (size n + 1) / 2 - 24 ≡ dropped
  drops = ap (λ (x : ℕ). (x + 1) / 2 - 24) size_n ∙ (let a = dropped-is in omega arith)

  -- q is the whole part of the root of what is kept
  module _ (q : ℕ) (Q : q ≡ whole_root 24 (wide_of d k)) where
    pub root_is : IsRoot (wide_of d k) q
    root_is = subst (λ (x : ℕ). IsRoot (wide_of d k) x) (sym Q) (whole_is 24 (wide_of d k) wide_lt)

    q_lt : q < 2 ^ 24
    q_lt = lt_of_not-le (λ (g : 2 ^ 24 ≤ q). not-le_of_lt (lt_of_le_of_lt root_is.0 wide_lt) (mul-le-mul g g))

    q_ge : 2 ^ 23 ≤ q
    q_ge = le_of_suc-le-suc (lt_of_not-le (λ (g : suc q ≤ 2 ^ 23). not-le_of_lt (lt_of_le_of_lt wide_ge root_is.1) (mul-le-mul g g)))

    pub kept : (q ≤ 2 ^ 24) × ((0 < drop_of d k → 2 ^ 23 ≤ q) × (drop_of d k < 1024))
    unfolding dropped
    kept = let a = dropped-is in let b = j_le in let x = q_lt in (omega arith, ((λ _. q_ge), omega arith))

    pub kept_next : (q + 1 ≤ 2 ^ 24) × ((0 < drop_of d k → 2 ^ 23 ≤ q + 1) × (drop_of d k < 1024))
    unfolding dropped
    kept_next = let a = dropped-is in let b = j_le in let x = q_lt in let y = q_ge in (omega arith, ((λ _. omega arith), omega arith))

    middle : ℕ
    middle = (2 * q + 1) * (2 * q + 1)

    rooted_is : root_of_squares n ≡ units binary32 false (nearest q (compare (4 * n) (middle * 2 ^ (2 * dropped)))) dropped
    unfolding root_of_squares middle
    rooted_is =
        ap (λ (x : ℕ). units binary32 false (nearest (whole_root 24 (n / 2 ^ (2 * x))) (compare (4 * n) ((2 * whole_root 24 (n / 2 ^ (2 * x)) + 1) * (2 * whole_root 24 (n / 2 ^ (2 * x)) + 1) * 2 ^ (2 * x)))) x) drops
        ∙ ap (λ (x : ℕ). units binary32 false (nearest x (compare (4 * n) ((2 * x + 1) * (2 * x + 1) * 2 ^ (2 * dropped)))) dropped)
        (ap (whole_root 24) (ap (λ (x : ℕ). x / 2 ^ (2 * dropped)) n-is ∙ mul-div_cancel (wide_of d k) (pow_pos (2 * dropped))) ∙ sym Q)

    four-n : 4 * n ≡ 4 * wide_of d k * 2 ^ (2 * dropped)
    four-n = ap (λ (x : ℕ). 4 * x) n-is ∙ sym (mul_assoc 4 (wide_of d k) (2 ^ (2 * dropped)))

    -- what is left of n over the square of q says on which side of the middle the root lies
    under_middle : wide_of d k - q * q ≤ q → 4 * wide_of d k < middle
    unfolding middle
    under_middle t = let a = square_odd q in let b = root_is.0 in omega arith

    over_middle : q < wide_of d k - q * q → middle < 4 * wide_of d k
    unfolding middle
    over_middle t = let a = square_odd q in let b = root_is.0 in omega arith

    scaled : {a b : ℕ} → a < b → a * 2 ^ (2 * dropped) < b * 2 ^ (2 * dropped)
    scaled h = mul-lt-mul_of_pos_right h (pow_pos (2 * dropped))

    pub rounds_down : wide_of d k - q * q ≤ q → units binary32 false q (drop_of d k) ≡ root_of_squares (d * 2 ^ k * 2 ^ 149)
    unfolding n dropped
    rounds_down t = sym (rooted_is ∙ ap (λ (o : Ordering). units binary32 false (nearest q o) dropped) (compare_lt _ _ (subst (λ (x : ℕ). x < middle * 2 ^ (2 * dropped)) (sym four-n) (scaled (under_middle t)))))

    pub rounds_up : q < wide_of d k - q * q → units binary32 false (q + 1) (drop_of d k) ≡ root_of_squares (d * 2 ^ k * 2 ^ 149)
    unfolding n dropped
    rounds_up t =
        ap (λ (x : ℕ). units binary32 false x dropped) (add-one q)
        ∙ sym (rooted_is ∙ ap (λ (o : Ordering). units binary32 false (nearest q o) dropped) (compare_gt _ _ (subst (λ (x : ℕ). middle * 2 ^ (2 * dropped) < x) (sym four-n) (scaled (over_middle t)))))

    -- ---- how near it is
    within : (M : ℕ) → (2 * M - 1) * (2 * M - 1) < 4 * wide_of d k → 4 * wide_of d k < (2 * M + 1) * (2 * M + 1) → Within (d * 2 ^ k * 2 ^ 149) M (drop_of d k)
    unfolding n dropped
    within M lo hi =
        (subst (λ (x : ℕ). (2 * M - 1) * (2 * M - 1) * 2 ^ (2 * dropped) < x) (sym four-n) (scaled lo), subst (λ (x : ℕ). x < (2 * M + 1) * (2 * M + 1) * 2 ^ (2 * dropped)) (sym four-n) (scaled hi))

    pub within_down : wide_of d k - q * q ≤ q → Within (d * 2 ^ k * 2 ^ 149) q (drop_of d k)
    unfolding middle
    within_down t = let g = q_ge in within q (let a = odd_lt q (omega arith) in let b = root_is.0 in omega arith) (under_middle t)

    pub within_up : q < wide_of d k - q * q → Within (d * 2 ^ k * 2 ^ 149) (q + 1) (drop_of d k)
    unfolding middle
    within_up t =
        let e : 2 * (q + 1) - 1 ≡ 2 * q + 1 = omega arith in
        within (q + 1) (subst (λ (x : ℕ). x * x < 4 * wide_of d k) (sym e) (over_middle t))
        (let a = square_odd (q + 1) in let b : wide_of d k < (q + 1) * (q + 1) = subst (λ (x : ℕ). wide_of d k < x * x) (sym (add-one q)) root_is.1 in omega arith)

    -- 24 digits are kept: a q of all ones is not rounded up, since n has no digit in its lowest places
    pub down_full : (2 ^ 23 ≤ q) × (q < 2 ^ 24)
    down_full = (q_ge, q_lt)

    pub up_full : q < wide_of d k - q * q → (2 ^ 23 ≤ q + 1) × (q + 1 < 2 ^ 24)
    up_full t = let g = q_ge in (omega arith, lt_of_not-le (λ (g : 2 ^ 24 ≤ q + 1). no g))
      where
        no : 2 ^ 24 ≤ q + 1 → ⊥
        no g =
            let l = q_lt in
            let e : q ≡ 16777215 = omega arith in
            let s : q * q ≡ 16777215 * 16777215 = ap (λ (x : ℕ). x * x) e in
            let w = wide_le in
            omega arith
