-- Indices picked by a test and mapped: what is folded over them, and what is among them. Assumes nothing.
use Rattle.std.specs.Prelude.{◌≡◌, Bool, ◌&&◌, ◌||◌, eqb, ltb, length, get_or}
use Rattle.std.proofs.Math.Path.{refl}
use Rattle.std.proofs.Common.{sym, ap, ◌∙◌, le_refl, arith, ltb-true, lt-ltb, eq-eqb, ne_eqb}
use Rattle.std.proofs.Math.Bool.{true, false, cond, or-true}
use mathlib.Core.List.{List, [], ◌∷◌, ◌++◌, map, map-append, foldl, foldl-append}
use Prim.Native.Nat.{ℕ, zero, suc, ◌<◌}
use Rattle.std.proofs.Math.Decide.{ℕ_discrete}
use Rattle.laws.specs.Tab.{tab, length-tab, tab-at, tab_of, map-tab, indices}
use Rattle.laws.specs.Fold.{fold}
use Rattle.laws.specs.Sieve.{sieve, sieve-more}
use Rattle.laws.specs.Occurs.{occurs-sieve, occurs-indices}
use Rattle.laws.specs.Elem.{elem, elem-append, elem-occurs}
use Rattle.laws.specs.Every.{every, every-at, every_of, every-sieve}

module _ {A : Type 0} (g : A → ℕ → A) (z : A) where
  -- a fold over the picked ones is a loop that passes the others by
  pub fold-picked : (p : ℕ → Bool) (n : ℕ) → foldl g z (sieve p (indices n)) ≡ fold (λ b j. cond (p j) (g b j) b) z n
  unfolding fold tab sieve
  fold-picked p zero = refl
  fold-picked p (suc n) = rw (sieve-more p (indices n) n) (by_cases (p n) (fold-picked p n))
    where
      xs : List ℕ
      xs = sieve p (indices n)

      f : A
      f = fold (λ b j. cond (p j) (g b j) b) z n

      by_cases : (b : Bool) → foldl g z xs ≡ f → foldl g z (cond b (xs ++ (n ∷ [])) xs) ≡ cond b (g f n) f
      by_cases true e = foldl-append g z xs (n ∷ []) ∙ ap (λ (a : A). g a n) e
      by_cases false e = e

pub foldl_image : {A X Y : Type 0} (g : A → Y → A) (f : X → Y) (z : A) (xs : List X) → foldl g z (map f xs) ≡ foldl (λ a x. g a (f x)) z xs
foldl_image g f z [] = refl
foldl_image g f z (x ∷ xs) = foldl_image g f (g z (f x)) xs

module _ {X : Type 0} where
  -- a sieve of a sieve
  pub sieve-sieve : (p q : X → Bool) (xs : List X) → sieve p (sieve q xs) ≡ sieve (λ x. q x && p x) xs
  unfolding sieve
  sieve-sieve p q [] = refl
  sieve-sieve p q (x ∷ xs) = by_cases (q x) (p x) refl (sieve-sieve p q xs)
    where
      by_cases : (a b : Bool) → p x ≡ b → sieve p (sieve q xs) ≡ sieve (λ y. q y && p y) xs
          → sieve p (cond a (x ∷ sieve q xs) (sieve q xs)) ≡ cond (a && b) (x ∷ sieve (λ y. q y && p y) xs) (sieve (λ y. q y && p y) xs)
      by_cases true true u e = rw (u, e)
      by_cases true false u e = rw (u, e)
      by_cases false b u e = e

  -- a sieve of images
  pub sieve_image : {Y : Type 0} (p : Y → Bool) (f : X → Y) (xs : List X) → sieve p (map f xs) ≡ map f (sieve (λ x. p (f x)) xs)
  unfolding sieve
  sieve_image p f [] = refl
  sieve_image p f (x ∷ xs) = rw (sieve_image p f xs) (by_cases (p (f x)))
    where
      by_cases : (b : Bool) → cond b (f x ∷ map f (sieve (λ y. p (f y)) xs)) (map f (sieve (λ y. p (f y)) xs)) ≡ map f (cond b (x ∷ sieve (λ y. p (f y)) xs) (sieve (λ y. p (f y)) xs))
      by_cases true = refl
      by_cases false = refl

-- those that pass, by their places
pub sieve-places : {X : Type 0} (p : X → Bool) (xs : List X) (d : X) → map (λ i. get_or xs i d) (sieve (λ i. p (get_or xs i d)) (indices (length xs))) ≡ sieve p xs
sieve-places {X} p xs d =
    let at : ℕ → X = λ i. get_or xs i d in
    sym (sieve_image p at (indices (length xs))) ∙ ap (sieve p) (map-tab at (λ i. i) (length xs) ∙ sym (tab_of at xs (length xs) d refl (λ i h. refl)))

-- tests that agree below n
pub picked_ext : (p q : ℕ → Bool) (n : ℕ) → ((j : ℕ) → j < n → p j ≡ q j) → sieve p (indices n) ≡ sieve q (indices n)
unfolding tab sieve
picked_ext p q zero e = refl
picked_ext p q (suc n) e = sieve-more p (indices n) n ∙ rw (picked_ext p q n (λ j h. e j (omega arith)), e n (le_refl (suc n))) (sym (sieve-more q (indices n) n))

-- a picked index is one of those looked at
pub picked-below : (p : ℕ → Bool) (n k : ℕ) → k < length (sieve p (indices n)) → get_or (sieve p (indices n)) k 0 < n
picked-below p n k h =
    let low : every (λ i. ltb i n) (indices n) ≡ true =
    every_of (λ i. ltb i n) (indices n) 0 (λ i b. let c : i < n = rw (length-tab (λ i. i) n) at b in rw (tab-at (λ i. i) n i 0 c) (lt-ltb i n c)) in
    ltb-true _ n (every-at (λ i. ltb i n) (sieve p (indices n)) (every-sieve (λ i. ltb i n) p (indices n) low) k 0 h)

-- k is among the picked ones where it passes
pub elem-picked : (p : ℕ → Bool) (n k : ℕ) → k < n → elem k (sieve p (indices n)) ≡ p k
elem-picked p n k h = elem-occurs k (sieve p (indices n)) ∙ rw (occurs-sieve k p (indices n), occurs-indices k n, lt-ltb k n h) (by_cases (p k))
  where
    by_cases : (b : Bool) → ltb 0 (cond b 1 0) ≡ b
    by_cases true = refl
    by_cases false = refl

-- the image of k is among the images of the picked ones where k is, as no other has its image
pub elem_image : (f : ℕ → ℕ) (p : ℕ → Bool) (k n : ℕ) → ((i : ℕ) → i < n → f k ≡ f i → k ≡ i) → elem (f k) (map f (sieve p (indices n))) ≡ elem k (sieve p (indices n))
unfolding tab sieve elem
elem_image f p k zero h = refl
elem_image f p k (suc n) h = rw (sieve-more p (indices n) n) (by_cases (p n) (elem_image f p k n (λ i q. h i (omega arith))))
  where
    xs : List ℕ
    xs = sieve p (indices n)

    same : eqb (f k) (f n) ≡ eqb k n
    same = go (ℕ_discrete k n)
      where
        go : Dec (k ≡ n) → eqb (f k) (f n) ≡ eqb k n
        go (yes e) = eq-eqb (f k) (f n) (ap f e) ∙ sym (eq-eqb k n e)
        go (no e) = ne_eqb (f k) (f n) (λ d. e (h n (le_refl (suc n)) d)) ∙ sym (ne_eqb k n e)

    by_cases : (b : Bool) → elem (f k) (map f xs) ≡ elem k xs → elem (f k) (map f (cond b (xs ++ (n ∷ [])) xs)) ≡ elem k (cond b (xs ++ (n ∷ [])) xs)
    by_cases true e = rw (map-append f xs (n ∷ []), elem-append (f k) (map f xs) (f n ∷ []), elem-append k xs (n ∷ []), e, same)
    by_cases false e = e

-- among the images of those that pass one of two tests
pub elem_either : {X : Type 0} (f : X → ℕ) (p q : X → Bool) (k : ℕ) (xs : List X)
    → (elem k (map f (sieve p xs)) || elem k (map f (sieve q xs))) ≡ elem k (map f (sieve (λ x. p x || q x) xs))
unfolding sieve elem
elem_either f p q k [] = refl
elem_either f p q k (x ∷ xs) = by_cases (p x) (q x) (eqb k (f x)) refl (elem_either f p q k xs)
  where
    us : List ℕ
    us = map f (sieve p xs)

    vs : List ℕ
    vs = map f (sieve q xs)

    ws : List ℕ
    ws = map f (sieve (λ y. p y || q y) xs)

    by_cases : (a b e : Bool) → eqb k (f x) ≡ e → (elem k us || elem k vs) ≡ elem k ws
        → (elem k (map f (cond a (x ∷ sieve p xs) (sieve p xs))) || elem k (map f (cond b (x ∷ sieve q xs) (sieve q xs)))) ≡ elem k (map f (cond (a || b) (x ∷ sieve (λ y. p y || q y) xs) (sieve (λ y. p y || q y) xs)))
    by_cases true true true m h = rw m
    by_cases true true false m h = rw m h
    by_cases true false true m h = rw m
    by_cases true false false m h = rw m h
    by_cases false true true m h = rw m (or-true (elem k us))
    by_cases false true false m h = rw m h
    by_cases false false e m h = h
