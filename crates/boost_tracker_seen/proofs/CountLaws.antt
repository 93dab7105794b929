-- The retained boxes among the first are counted as the definition does. Assumes nothing.
use Rattle.std.proofs.Common.{◌≡◌, ℕ, zero, suc, ◌≤◌, min, Bool, true, false, cond, List, length, take, refl, sym, ◌∙◌, add-one, arith, ltb}
use Rattle.std.specs.List.{filter}
use Rattle.std.proofs.lemmas.List.Filters.{length-filter_more}
use lib.Ieee.{Float, nan, le}
use lib.Seq.{take_all}
use borrow.Author.Tests.{ltb-true, ltb-false}
use Rattle.laws.specs.Count.{bit, count_where}
use Rattle.boost_tracker_definition.specs.Update.{remains}
use Rattle.boost_tracker_seen.specs.Seen.{remain_before}

as_bit : (b : Bool) → cond b 1 0 ≡ bit b
as_bit true = refl
as_bit false = refl

module _ (thresh : Float) (l : List Float) where
  front-counted : (n : ℕ) → n ≤ length l → length (filter (le thresh) (take n l)) ≡ count_where (remains thresh l) n
  unfolding count_where
  front-counted zero h = refl
  front-counted (suc n) h =
      let more = length-filter_more (le thresh) l n nan h in
      let before = front-counted n (omega arith) in
      rw add-one at more ∙ rw (before, as_bit)

  pub retained-counted : (i : ℕ) → length (filter (le thresh) (take i l)) ≡ remain_before thresh l i
  unfolding remain_before
  retained-counted i = by_cases (ltb i (length l)) refl
    where
      by_cases : (b : Bool) → ltb i (length l) ≡ b → length (filter (le thresh) (take i l)) ≡ count_where (remains thresh l) (min i (length l))
      by_cases true e = let h = ltb-true i (length l) e in let q : min i (length l) ≡ i = omega (arith, h) in rw q (front-counted i (omega (arith, h)))
      by_cases false e =
          let h = ltb-false i (length l) e in
          let q : min i (length l) ≡ length l = omega (arith, h) in
          let all : take i l ≡ take (length l) l = take_all i l h ∙ sym (take_all (length l) l (omega arith)) in
          rw (q, all) (front-counted (length l) (omega arith))
