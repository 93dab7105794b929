-- Lists of ids: none stands twice, each is among others, and how many there are. Assumes nothing.
use mathlib.Core.Path.{◌≡◌, refl, sym, ap, ◌∙◌}
use mathlib.Core.Bool.{Bool, true, false, cond, not, ◌||◌}
use mathlib.Core.List.{List, [], ◌∷◌, ◌++◌}
use Prim.Native.Nat.{ℕ, suc, ◌+◌, ◌≤◌, ◌<◌, zero-le}
use native.Mathlib.Nat.{le_of_eq, le_trans}
use native.Mathlib.Numerals.{add-one}
use native.Mathlib.Omega.{arith}
use lib.Dec.{eqb}
use lib.ListN.{length, get_or, take, drop, take-append-drop}
use lib.Seq.{take-suc, drop-cons}
use borrow.Author.Tests.{eqb-true, eq-eqb}
use Rattle.laws.specs.Tests.{false_not_true, and_left, and_right, or_none}
use Rattle.laws.specs.Count.{bit}
use Rattle.laws.specs.Sieve.{sieve, sieve-few}
use Rattle.laws.specs.Occurs.{occurs, occurs-append, occurs-sieve}
use Rattle.laws.specs.Elem.{elem, elem-occurs, in-stands, stands-in, out_none, none_out}
use Rattle.laws.specs.Every.{every}
use Rattle.boost_tracker_forget.specs.Forget.{twice}

-- ---- a test that each of them passes

module _ (q : ℕ → Bool) where
  pub each-passes : (xs : List ℕ) → every q xs ≡ true → (b : ℕ) → 0 < occurs b xs → q b ≡ true
  unfolding every occurs
  each-passes [] e b h = absurd (omega arith)
  each-passes (x ∷ xs) e b h = by_cases (eqb b x) refl h (each-passes xs (and_right (q x) _ e) b)
    where
      by_cases : (v : Bool) → eqb b x ≡ v → 0 < bit v + occurs b xs → (0 < occurs b xs → q b ≡ true) → q b ≡ true
      by_cases true s h rest = rw (eqb-true b x s) (and_left (q x) _ e)
      by_cases false s h rest = rest (omega arith)

  pub all_pass : (xs : List ℕ) → ((b : ℕ) → 0 < occurs b xs → q b ≡ true) → every q xs ≡ true
  unfolding every occurs
  all_pass [] h = refl
  all_pass (x ∷ xs) h = rw (h x (rw (eq-eqb x x refl) (omega arith)), all_pass xs (λ b s. h b (omega arith)))

-- ---- none twice

-- one more that is not among them
one_more : (b x : ℕ) (xs : List ℕ) (v : Bool) → eqb b x ≡ v → occurs x xs ≤ 0 → occurs b xs ≤ 1 → bit v + occurs b xs ≤ 1
one_more b x xs true e none rest = let none_too : occurs b xs ≤ 0 = rw (eqb-true b x e) none in omega arith
one_more b x xs false e none rest = omega arith

pub once : (xs : List ℕ) → twice xs ≡ false → (b : ℕ) → occurs b xs ≤ 1
unfolding twice occurs
once [] n b = zero-le
once (x ∷ xs) n b = let parts = or_none (elem x xs) (twice xs) n in one_more b x xs (eqb b x) refl (out_none x xs parts.0) (once xs parts.1 b)

pub not_twice : (xs : List ℕ) → ((b : ℕ) → occurs b xs ≤ 1) → twice xs ≡ false
unfolding twice occurs
not_twice [] h = refl
not_twice (x ∷ xs) h =
    let here : bit (eqb x x) + occurs x xs ≤ 1 = h x in
    let one : bit (eqb x x) ≡ 1 = rw (eq-eqb x x refl) in
    rw (none_out x xs (omega arith)) (not_twice xs (λ b. let l = h b in omega arith))

-- ---- each id looked for before its place

pub first-stands : (x : ℕ) (xs : List ℕ) → 1 ≤ occurs x (x ∷ xs)
unfolding occurs
first-stands x xs = rw (eq-eqb x x refl) (omega arith)

last-stands : (b x : ℕ) (xs : List ℕ) → occurs b (xs ++ (x ∷ [])) ≡ bit (eqb b x) + occurs b xs
unfolding occurs
last-stands b x xs = occurs-append b xs (x ∷ []) ∙ omega arith

pub none_yet : twice [] ≡ false
unfolding twice
none_yet = refl

module _ (ids : List ℕ) where
  -- it is not there
  pub once_more : (i : ℕ) → i < length ids → twice (take i ids) ≡ false → elem (get_or ids i 0) (take i ids) ≡ false → twice (take (i + 1) ids) ≡ false
  once_more i h n e =
      let x : ℕ = get_or ids i 0 in
      let before : List ℕ = take i ids in
      let each : (b : ℕ) → occurs b (before ++ (x ∷ [])) ≤ 1 = λ b. rw (last-stands b x before) (one_more b x before (eqb b x) refl (out_none x before e) (once before n b)) in
      rw (add-one i, take-suc ids i 0 h) (not_twice (before ++ (x ∷ [])) each)

  -- it is
  pub twice_found : (i : ℕ) → i < length ids → elem (get_or ids i 0) (take i ids) ≡ true → true ≡ twice ids
  twice_found i h e = by_cases (twice ids) refl
    where
      by_cases : (v : Bool) → twice ids ≡ v → true ≡ twice ids
      by_cases true q = sym q
      by_cases false q =
          let x : ℕ = get_or ids i 0 in
          let few = once ids q x in
          let before = in-stands x (take i ids) e in
          let parts : occurs x ids ≡ occurs x (take i ids) + occurs x (drop i ids) = ap (occurs x) (sym (take-append-drop i ids)) ∙ occurs-append x (take i ids) (drop i ids) in
          let here : 1 ≤ occurs x (drop i ids) = rw (drop-cons ids i 0 h) (first-stands x (drop (suc i) ids)) in
          absurd (omega (arith, few, before, parts, here))

-- ---- the pigeonhole

-- a list without a number that it has is shorter
shorter : (x : ℕ) (ys : List ℕ) → elem x ys ≡ true → length (sieve (λ y. not (eqb x y)) ys) < length ys
unfolding elem sieve
shorter x [] e = absurd (false_not_true e)
shorter x (y ∷ ys) e = by_cases (eqb x y) e (sieve-few (λ y. not (eqb x y)) ys) (shorter x ys)
  where
    by_cases : (b : Bool) → (b || elem x ys) ≡ true → length (sieve (λ y. not (eqb x y)) ys) ≤ length ys → (elem x ys ≡ true → length (sieve (λ y. not (eqb x y)) ys) < length ys)
        → length (cond (not b) (y ∷ sieve (λ y. not (eqb x y)) ys) (sieve (λ y. not (eqb x y)) ys)) < suc (length ys)
    by_cases true e few r = omega arith
    by_cases false e few r = let l = r e in omega arith

-- a number that passes a test is in what the test leaves
elem_still : (q : ℕ → Bool) (z : ℕ) (ys : List ℕ) → q z ≡ true → elem z (sieve q ys) ≡ elem z ys
elem_still q z ys e = elem-occurs z (sieve q ys) ∙ rw (occurs-sieve z q ys, e) (sym (elem-occurs z ys))

still_in : (x : ℕ) (xs ys : List ℕ) → elem x xs ≡ false → every (λ z. elem z ys) xs ≡ true → every (λ z. elem z (sieve (λ y. not (eqb x y)) ys)) xs ≡ true
unfolding elem every
still_in x [] ys n e = refl
still_in x (z ∷ zs) ys n e =
    let parts = or_none (eqb x z) (elem x zs) n in
    let other : not (eqb x z) ≡ true = rw parts.0 in
    rw (elem_still (λ y. not (eqb x y)) z ys other, and_left (elem z ys) _ e) (still_in x zs ys parts.1 (and_right (elem z ys) _ e))

-- numbers that are all in a list, none of them twice, are no more than the list has
few-in : (xs ys : List ℕ) → twice xs ≡ false → every (λ x. elem x ys) xs ≡ true → length xs ≤ length ys
unfolding twice every
few-in [] ys n e = zero-le
few-in (x ∷ xs) ys n e =
    let parts = or_none (elem x xs) (twice xs) n in
    let short = shorter x ys (and_left (elem x ys) _ e) in
    let rest = few-in xs (sieve (λ y. not (eqb x y)) ys) parts.1 (still_in x xs ys parts.0 (and_right (elem x ys) _ e)) in
    omega arith

-- two lists of the same numbers, none of them twice, are as long as each other
pub same-many : (xs ys : List ℕ) → ((b : ℕ) → occurs b xs ≡ occurs b ys) → ((b : ℕ) → occurs b ys ≤ 1) → length xs ≡ length ys
same-many xs ys same once =
    let few = few-in xs ys (not_twice xs (λ b. le_trans (le_of_eq (same b)) (once b))) (all_pass (λ x. elem x ys) xs (λ b h. stands-in b ys (let e = same b in omega arith))) in
    let all = few-in ys xs (not_twice ys once) (all_pass (λ y. elem y xs) ys (λ b h. stands-in b xs (let e = same b in omega arith))) in
    omega arith
