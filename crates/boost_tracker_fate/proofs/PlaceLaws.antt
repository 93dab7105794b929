-- The place of a number in a list: where it is, and what stands there. Assumes nothing.
use mathlib.Core.Path.{◌≡◌, refl, sym, ap, ◌∙◌}
use mathlib.Core.Bool.{Bool, true, false, cond, ◌||◌}
use mathlib.Core.List.{List, [], ◌∷◌, ◌++◌}
use Prim.Native.Nat.{ℕ, zero, suc, ◌+◌, ◌≤◌, ◌<◌}
use native.Mathlib.Nat.{le_refl, not-suc-le-zero}
use native.Mathlib.Omega.{arith}
use borrow.Author.Tests.{eqb-true, eq-eqb, lt-ltb, le-ltb, ltb-true, ltb-false}
use lib.Dec.{eqb, ltb}
use lib.ListN.{length, length-append, get_or}
use Rattle.laws.specs.Tests.{true_not_false, false_not_true}
use Rattle.laws.specs.Tab.{tab, indices}
use Rattle.laws.specs.Count.{bit, count_where}
use Rattle.std.specs.List.{position, position_or_len}
use Rattle.std.specs.Option.{unwrap_or}
use Rattle.std.proofs.Common.{Option, Some, None}
use Rattle.std.proofs.lemmas.Grind.{common_steps}
use Rattle.std.proofs.lemmas.List.Sums.{prefix_len-le-length}
use Rattle.std.proofs.lemmas.List.Recursion.{is_position_or_len}
use Rattle.laws.specs.Sieve.{sieve, sieve-more}
use Rattle.laws.specs.Elem.{elem, elem-occurs}
use Rattle.laws.specs.Occurs.{occurs, occurs-sieve, occurs-indices}
use Rattle.laws.specs.Picked.{elem-picked}
use Rattle.boost_tracker_fate.specs.Fate.{place_in}

-- ---- in a list, and in none

pub place-in : (k : ℕ) (xs : List ℕ) → elem k xs ≡ true → (place_in k xs < length xs) × (get_or xs (place_in k xs) 0 ≡ k)
unfolding place_in elem
place-in k [] e = absurd (false_not_true e)
place-in k (x ∷ xs) e = by_cases (eqb k x) refl e (place-in k xs)
  where
    by_cases : (b : Bool) → eqb k x ≡ b → (b || elem k xs) ≡ true → (elem k xs ≡ true → (place_in k xs < length xs) × (get_or xs (place_in k xs) 0 ≡ k))
        → (cond b 0 (suc (place_in k xs)) < suc (length xs)) × (get_or (x ∷ xs) (cond b 0 (suc (place_in k xs))) 0 ≡ k)
    by_cases true q f r = (omega arith, sym (eqb-true k x q))
    by_cases false q f r = let l = (r f).0 in (omega arith, (r f).1)

pub place_out : (k : ℕ) (xs : List ℕ) → elem k xs ≡ false → place_in k xs ≡ length xs
unfolding place_in elem
place_out k [] e = refl
place_out k (x ∷ xs) e = by_cases (eqb k x) e (place_out k xs)
  where
    by_cases : (b : Bool) → (b || elem k xs) ≡ false → (elem k xs ≡ false → place_in k xs ≡ length xs) → cond b 0 (suc (place_in k xs)) ≡ suc (length xs)
    by_cases true f r = absurd (true_not_false f)
    by_cases false f r = ap suc (r f)

pub place-most : (k : ℕ) (xs : List ℕ) → place_in k xs ≤ length xs
place-most k xs = by_cases (elem k xs) refl
  where
    by_cases : (b : Bool) → elem k xs ≡ b → place_in k xs ≤ length xs
    by_cases true e = let l = (place-in k xs e).0 in omega arith
    by_cases false e = let q = place_out k xs e in omega arith

-- the test by places is the test by elements
pub place_test : (k : ℕ) (xs : List ℕ) → ltb (place_in k xs) (length xs) ≡ elem k xs
place_test k xs = by_cases (elem k xs) refl
  where
    by_cases : (b : Bool) → elem k xs ≡ b → ltb (place_in k xs) (length xs) ≡ b
    by_cases true e = lt-ltb (place_in k xs) (length xs) (place-in k xs e).0
    by_cases false e = le-ltb (place_in k xs) (length xs) (let q = place_out k xs e in omega arith)

-- ---- in two lists, one behind the other

pub place-front : (k : ℕ) (xs ys : List ℕ) → elem k xs ≡ true → place_in k (xs ++ ys) ≡ place_in k xs
unfolding place_in elem
place-front k [] ys e = absurd (false_not_true e)
place-front k (x ∷ xs) ys e = by_cases (eqb k x) e (place-front k xs ys)
  where
    by_cases : (b : Bool) → (b || elem k xs) ≡ true → (elem k xs ≡ true → place_in k (xs ++ ys) ≡ place_in k xs) → cond b 0 (suc (place_in k (xs ++ ys))) ≡ cond b 0 (suc (place_in k xs))
    by_cases true f r = refl
    by_cases false f r = ap suc (r f)

pub place-back : (k : ℕ) (xs ys : List ℕ) → elem k xs ≡ false → place_in k (xs ++ ys) ≡ length xs + place_in k ys
unfolding place_in elem
place-back k [] ys e = omega arith
place-back k (x ∷ xs) ys e = by_cases (eqb k x) e (place-back k xs ys)
  where
    by_cases : (b : Bool) → (b || elem k xs) ≡ false → (elem k xs ≡ false → place_in k (xs ++ ys) ≡ length xs + place_in k ys) → cond b 0 (suc (place_in k (xs ++ ys))) ≡ suc (length xs) + place_in k ys
    by_cases true f r = absurd (true_not_false f)
    by_cases false f r = let q = r f in omega arith

-- ---- as std's search finds it

unwrap_cut : (a n : ℕ) → a ≤ n → unwrap_or (cond (ltb a n) (Some a) None) n ≡ a
unwrap_cut a n h = grind (arith, common_steps)

place_position : (k : ℕ) (xs : List ℕ) → place_in k xs ≡ position_or_len (eqb k) xs
unfolding place_in
place_position k xs = is_position_or_len (place_in k) (eqb k) refl (λ x ys. let e : 1 + place_in k ys ≡ suc (place_in k ys) = omega arith in rw e) xs

pub place-found : (k : ℕ) (xs : List ℕ) (r : Option ℕ) → r ≡ position (eqb k) xs → unwrap_or r (length xs) ≡ place_in k xs
place-found k xs r e = rw (e, place_position k xs) (unwrap_cut (position_or_len (eqb k) xs) (length xs) (prefix_len-le-length _ xs))

-- ---- among the indices that pass a test

count-sieve : (p : ℕ → Bool) (n : ℕ) → length (sieve p (indices n)) ≡ count_where p n
unfolding sieve tab count_where
count-sieve p zero = refl
count-sieve p (suc n) = rw (sieve-more p (indices n) n) (by_cases (p n) (count-sieve p n))
  where
    by_cases : (b : Bool) → length (sieve p (indices n)) ≡ count_where p n → length (cond b (sieve p (indices n) ++ (n ∷ [])) (sieve p (indices n))) ≡ count_where p n + bit b
    by_cases true r = length-append (sieve p (indices n)) (n ∷ []) ∙ ap (λ (k : ℕ). k + 1) r
    by_cases false r = omega arith

cond_same : (b : Bool) (n : ℕ) → cond b n n ≡ n
cond_same true n = refl
cond_same false n = refl

-- an index is not among those below it
not_yet : (p : ℕ → Bool) (n : ℕ) → elem n (sieve p (indices n)) ≡ false
not_yet p n =
    let none : occurs n (indices n) ≡ 0 = occurs-indices n n ∙ ap bit (le-ltb n n (le_refl n)) in
    let kept : occurs n (sieve p (indices n)) ≡ 0 = occurs-sieve n p (indices n) ∙ rw none (cond_same (p n) 0) in
    elem-occurs n (sieve p (indices n)) ∙ ap (ltb 0) kept ∙ le-ltb 0 0 (le_refl 0)

alone_at : (n : ℕ) → place_in n (n ∷ []) ≡ 0
unfolding place_in
alone_at n = rw (eq-eqb n n refl)

-- the last of them
last-picked : (p : ℕ → Bool) (n : ℕ) → p n ≡ true → place_in n (cond (p n) (sieve p (indices n) ++ (n ∷ [])) (sieve p (indices n))) ≡ count_where p n
last-picked p n e =
    let back = place-back n (sieve p (indices n)) (n ∷ []) (not_yet p n) in
    let here = alone_at n in
    let many = count-sieve p n in
    let sum : place_in n (sieve p (indices n) ++ (n ∷ [])) ≡ count_where p n = omega (arith, back, here, many) in
    rw e sum

-- the others are before it
first-picked : (p : ℕ → Bool) (n b : ℕ) (v : Bool) → b < n → p b ≡ true → place_in b (sieve p (indices n)) ≡ count_where p b
    → place_in b (cond v (sieve p (indices n) ++ (n ∷ [])) (sieve p (indices n))) ≡ count_where p b
first-picked p n b true l e r = place-front b (sieve p (indices n)) (n ∷ []) (elem-picked p n b l ∙ e) ∙ r
first-picked p n b false l e r = r

pub place-picked : (p : ℕ → Bool) (n b : ℕ) → b < n → p b ≡ true → place_in b (sieve p (indices n)) ≡ count_where p b
unfolding tab
place-picked p zero b h e = absurd (not-suc-le-zero h)
place-picked p (suc n) b h e = rw (sieve-more p (indices n) n) (by_cases (ltb b n) refl (λ l. place-picked p n b l e))
  where
    by_cases : (w : Bool) → ltb b n ≡ w → (b < n → place_in b (sieve p (indices n)) ≡ count_where p b)
        → place_in b (cond (p n) (sieve p (indices n) ++ (n ∷ [])) (sieve p (indices n))) ≡ count_where p b
    by_cases true l r = first-picked p n b (p n) (ltb-true b n l) e (r (ltb-true b n l))
    by_cases false l r =
        let q = ltb-false b n l in
        let same : b ≡ n = omega (arith, q, h) in
        let passes : p n ≡ true = sym (ap p same) ∙ e in
        rw same (last-picked p n passes)
