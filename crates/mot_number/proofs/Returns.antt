-- The returns of the functions that read a text. Assumes nothing.
use mathlib.Core.Path.{◌≡◌, refl, sym, ap, subst, ◌∙◌}
use mathlib.Core.Bool.{Bool, true, false, cond, ◌&&◌}
use mathlib.Core.List.{List, [], ◌∷◌, ◌++◌, append-nil}
use Prim.Native.Nat.{ℕ, ◌+◌, ◌-◌, ◌*◌, ◌^◌, ◌≤◌, ◌<◌}
use native.Mathlib.Nat.{pow-le-pow_right}
use native.Mathlib.Omega.{arith}
use lib.Dec.{lit<, leb}
use lib.ListN.{length, take, drop, length-drop, drop_of_length-le}
use lib.Seq.{take_all}
use lib.Ieee.{Float}
use borrow.Author.Tests.{leb-true, lt-ltb, le-ltb}
use Rattle.mot_number.specs.Index.{index_of}
use Rattle.laws.specs.Tests.{and_left, and_right}
use Rattle.laws.specs.Every.{every}
use Rattle.std.specs.Prelude.{Option, None, Some}
use Rattle.mot_number.specs.Number.{is_digit, one_to_six, whole_of, behind_of, has_point, is_unsigned, is_negative, with_digits, rounded, number_of, frame_number}
use Rattle.mot_number.specs.Private.{digits_of, unsigned_of}
use Rattle.mot_number.proofs.Reading.{six_says, bytes_make, digits_in, digits-short}

-- ---- one to six digits

module _ (v : ℕ) (t : List ℕ) (r : Option ℕ) (e : r ≡ digits_of v t) where
  pub not_six : r ≡ None → one_to_six t ≡ false
  not_six m = go (one_to_six t) refl (unfold digits_of in e)
    where
      go : (b : Bool) → one_to_six t ≡ b → r ≡ cond b (Some (with_digits v t)) None → one_to_six t ≡ false
      go true f g = let z : ◌≡◌ {A = ℕ} 0 1 = cc in absurd (omega arith)
      go false f g = f

  pub six : (w : ℕ) → r ≡ Some w → (one_to_six t ≡ true) × (w ≡ with_digits v t)
  six w m = go (one_to_six t) refl (unfold digits_of in e)
    where
      go : (b : Bool) → one_to_six t ≡ b → r ≡ cond b (Some (with_digits v t)) None → (one_to_six t ≡ true) × (w ≡ with_digits v t)
      go true f g = (f, cc)
      go false f g = let z : ◌≡◌ {A = ℕ} 0 1 = cc in absurd (omega arith)

-- they make a number below a million
pub six_small : (t : List ℕ) → one_to_six t ≡ true → with_digits 0 t < 1000000
six_small t e =
    let s = six_says t e in
    let m : with_digits 0 t ≡ with_digits 0 _ = ap (with_digits 0) (sym s.spell) in
    let b = bytes_make 0 (digits_in t) in
    let l = digits-short 0 (digits_in t) s.digits in
    let p : 10 ^ length (digits_in t) ≤ 1000000 = pow-le-pow_right (lit< tt) {i = length (digits_in t)} {j = 6} s.most in
    omega arith

pub six_few : (t : List ℕ) → one_to_six t ≡ true → length t < 7
unfolding one_to_six
six_few t e = let h : length t ≤ 6 = leb-true _ _ (and_right (leb 1 (length t)) (leb (length t) 6) (and_left (leb 1 (length t) && leb (length t) 6) (every is_digit t) e)) in omega arith

-- ---- a frame number

pub no-frame : (t : List ℕ) → one_to_six t ≡ false → None ≡ frame_number t
unfolding frame_number
no-frame t e = rw e

pub a-frame : (t : List ℕ) (v : ℕ) → (one_to_six t ≡ true) × (v ≡ with_digits 0 t) → Some v ≡ frame_number t
unfolding frame_number
a-frame t v e = rw e.0 (ap Some e.1)

-- ---- a number behind its sign

with_append : (v : ℕ) (a b : List ℕ) → with_digits v (a ++ b) ≡ with_digits (with_digits v a) b
unfolding with_digits
with_append v [] b = refl
with_append v (x ∷ xs) b = with_append (v * 10 + (x - 48)) xs b

module _ (u : List ℕ) (negative : Bool) (point : ℕ) (point_is : point ≡ index_of 46 u) where
  whole_part : take point u ≡ whole_of u
  whole_part = ap (λ (k : ℕ). take k u) point_is

  module _ (r : Option ℕ) (e : r ≡ digits_of 0 (take point u)) where
    pub no_whole : r ≡ None → None ≡ unsigned_of negative u
    unfolding unsigned_of is_unsigned
    no_whole m = let f : one_to_six (whole_of u) ≡ false = ap one_to_six (sym whole_part) ∙ not_six 0 (take point u) r e m in rw f

    module _ (w : ℕ) (m : r ≡ Some w) where
      whole_six : one_to_six (whole_of u) ≡ true
      whole_six = ap one_to_six (sym whole_part) ∙ (six 0 (take point u) r e w m).0

      whole_is : w ≡ with_digits 0 (whole_of u)
      whole_is = (six 0 (take point u) r e w m).1 ∙ ap (with_digits 0) whole_part

      pub whole-small : w < 1000000
      whole-small = subst (λ (x : ℕ). x < 1000000) (sym whole_is) (six_small (whole_of u) whole_six)

      pub no_point : point ≡ length u → (v : Float) → v ≡ rounded negative w 0 → Some v ≡ unsigned_of negative u
      unfolding unsigned_of is_unsigned
      no_point h v f =
          let i = point_is in
          let p : has_point u ≡ false = le-ltb (index_of 46 u) (length u) (omega arith) in
          let b : behind_of u ≡ [] = drop_of_length-le u {i = index_of 46 u + 1} (omega arith) in
          let n : with_digits 0 (whole_of u ++ []) ≡ w = ap (with_digits 0) (append-nil (whole_of u)) ∙ sym whole_is in
          rw (whole_six, p, b, n) (ap Some f)

      -- behind the point
      module _ (h : point ≡ length u → ⊥) (le : point ≤ length u) where
        abbrev rest : List ℕ
        rest = take (length u - (point + 1)) (drop (point + 1) u)

        rest-is : rest ≡ behind_of u
        rest-is = take_all (length u - (point + 1)) (drop (point + 1) u) (let l = length-drop (point + 1) u in omega arith) ∙ ap (λ (k : ℕ). drop (k + 1) u) point_is

        pointed : has_point u ≡ true
        pointed = let i = point_is in lt-ltb (index_of 46 u) (length u) (lt_of h (subst (λ (x : ℕ). x ≤ length u) i le))
          where
            lt_of : (point ≡ length u → ⊥) → index_of 46 u ≤ length u → index_of 46 u < length u
            lt_of g k = let i = point_is in omega (arith, g)

        module _ (s : Option ℕ) (f : s ≡ digits_of w rest) where
          pub no-behind : s ≡ None → None ≡ unsigned_of negative u
          unfolding unsigned_of is_unsigned
          no-behind k = let b : one_to_six (behind_of u) ≡ false = ap one_to_six (sym rest-is) ∙ not_six w rest s f k in rw (whole_six, pointed, b)

          module _ (x : ℕ) (g : s ≡ Some x) where
            pub behind-few : length rest < 7
            behind-few = six_few rest (six w rest s f x g).0

            pub both : (v : Float) → v ≡ rounded negative x (length rest) → Some v ≡ unsigned_of negative u
            unfolding unsigned_of is_unsigned
            both v k =
                let b : one_to_six (behind_of u) ≡ true = ap one_to_six (sym rest-is) ∙ (six w rest s f x g).0 in
                let n : with_digits 0 (whole_of u ++ behind_of u) ≡ x = with_append 0 (whole_of u) (behind_of u) ∙ ap (λ (y : ℕ). with_digits y (behind_of u)) (sym whole_is) ∙ ap (with_digits w) (sym rest-is) ∙ sym (six w rest s f x g).1 in
                rw (whole_six, pointed, b, n, ← rest-is) (ap Some k)

-- ---- the sign

pub minus-some : (t : List ℕ) (b : Bool) → b ≡ is_negative t → b ≡ true → 1 ≤ length t
minus-some [] b e f = let z : ◌≡◌ {A = ℕ} 0 1 = cc in absurd (omega arith)
minus-some (x ∷ xs) b e f = omega arith

pub minus_number : (t : List ℕ) (b : Bool) → b ≡ is_negative t → b ≡ true → (r : Option Float) → r ≡ unsigned_of true (take (length t - 1) (drop 1 t)) → r ≡ number_of t
unfolding number_of unsigned_of
minus_number t b e f r g =
    let n : is_negative t ≡ true = sym e ∙ f in
    let d : take (length t - 1) (drop 1 t) ≡ drop 1 t = take_all (length t - 1) (drop 1 t) (let l = length-drop 1 t in omega arith) in
    g ∙ rw (d, n)

pub plain_number : (t : List ℕ) (b : Bool) → b ≡ is_negative t → b ≡ false → (r : Option Float) → r ≡ unsigned_of false t → r ≡ number_of t
unfolding number_of unsigned_of
plain_number t b e f r g = let n : is_negative t ≡ false = sym e ∙ f in g ∙ rw n
