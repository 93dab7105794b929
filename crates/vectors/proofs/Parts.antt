-- A place beyond the end of a list counts as its end. Assumes nothing.
use mathlib.Core.Path.{◌≡◌, sym, ap, ◌∙◌}
use mathlib.Core.List.{List, [], ◌∷◌, ◌++◌, append_assoc}
use Prim.Native.Nat.{ℕ, zero, suc, ◌+◌, ◌-◌, ◌≤◌, min}
use native.Mathlib.Omega.{arith}
use native.Mathlib.Nat.{le_trans, min-le_right, zero-min, min-zero, suc-min-suc, sub-zero, zero-sub, suc-sub-suc}
use lib.ListN.{length, get_or, take, drop, length-take, length-drop, length-append}
use lib.Seq.{slice, take-nil, take_at, drop_at, length-take-le}
use lib.Ieee.{Float}
use borrow.Rule.Slice.PartMut.{put_mid}
use Rattle.laws.specs.Splice.{mid_is}
use Rattle.vectors.specs.Held.{start, end, KeepsOutside}

module _ {A : Type 0} where
  take_within : (n : ℕ) (l : List A) → take (min n (length l)) l ≡ take n l
  take_within zero l = rw (zero-min (length l))
  take_within (suc n) [] = rw (min-zero (suc n))
  take_within (suc n) (x ∷ xs) = rw (suc-min-suc n (length xs)) (ap (λ (r : List A). x ∷ r) (take_within n xs))

  drop-within : (n : ℕ) (l : List A) → drop (min n (length l)) l ≡ drop n l
  drop-within zero l = rw (zero-min (length l))
  drop-within (suc n) [] = rw (min-zero (suc n))
  drop-within (suc n) (x ∷ xs) = rw (suc-min-suc n (length xs)) (drop-within n xs)

  -- what is taken from a place on, and what is left of the elements up to another
  cut : (a e : ℕ) (l : List A) → take (e - a) (drop a l) ≡ slice a e l
  cut zero e l = rw (sub-zero e)
  cut (suc a) zero l = rw (zero-sub (suc a))
  cut (suc a) (suc e) [] = take-nil (suc e - suc a)
  cut (suc a) (suc e) (x ∷ xs) = rw (suc-sub-suc e a) (cut a e xs)

  pub first : (n e : ℕ) (l : List A) → e ≡ min n (length l) → take e l ≡ take n l
  first n e l h = ap (λ (k : ℕ). take k l) h ∙ take_within n l

  pub middle : (start end a e : ℕ) (l : List A) → e ≡ min end (length l) → a ≡ min start e → take (e - a) (drop a l) ≡ slice start end l
  middle start end a e l he ha =
      let whole : length (take e l) ≡ e = ap length (first end e l he) ∙ length-take end l ∙ sym he in
      cut a e l
      ∙ ap (λ (k : ℕ). drop k (take e l)) (ha ∙ ap (min start) (sym whole))
      ∙ drop-within start (take e l)
      ∙ ap (drop start) (first end e l he)

-- what a part that was lent leaves outside it
pub outside : (w : List ℕ) (l vs : List Float) (a e : ℕ) → e ≡ end w l → a ≡ min (get_or w 0 0) e → length vs ≡ length (take (e - a) (drop a l)) → KeepsOutside w l (put_mid a (e - a) l vs)
outside w l vs a e he ha h =
    let in_e : e ≤ length l = rw he (min-le_right (get_or w 1 0) (length l)) in
    let in-a : a ≤ e = rw ha (min-le_right (get_or w 0 0) e) in
    let size : length vs ≡ e - a = h ∙ length-take-le (e - a) (drop a l) (rw (length-drop a l) (omega arith)) in
    let front : length (take a l ++ vs) ≡ e = length-append (take a l) vs ∙ rw (length-take-le a l (le_trans in-a in_e), size) (omega (arith, in-a)) in
    let last : a + length vs ≡ e = rw size (omega (arith, in-a)) in
    let whole : put_mid a (e - a) l vs ≡ (take a l ++ vs) ++ drop e l =
    mid_is l a (e - a) vs size ∙ sym (append_assoc (take a l) vs _) ∙ ap (λ (n : ℕ). (take a l ++ vs) ++ drop n l) last in
    let starts : start w l ≡ a = ap (min (get_or w 0 0)) (sym he) ∙ sym ha in
    let before : take a ((take a l ++ vs) ++ drop e l) ≡ take a l =
    ap (take a) (append_assoc (take a l) vs (drop e l)) ∙ take_at (take a l) (vs ++ drop e l) a (length-take-le a l (le_trans in-a in_e)) in
    rw (starts, sym he, whole) (before, drop_at (take a l ++ vs) (drop e l) e front)
