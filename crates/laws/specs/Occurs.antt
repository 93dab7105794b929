-- How often a number stands in a list: lists without repetition, and the pigeonhole. Assumes nothing.
use Rattle.std.specs.Prelude.{◌≡◌, refl, Bool, true, false, cond, not, List, [], ◌∷◌, ◌++◌, map, ℕ, zero, suc, ◌+◌, ◌≤◌, ◌<◌, ltb, eqb, length, get_or}
use Rattle.std.proofs.Common.{sym, ap, ◌∙◌, zero-le, le_refl, le_of_eq, add-zero, zero-add, le_trans, not-suc-le-zero, le_of_suc-le-suc, one-add, arith, ltb-true, eqb-true, lt-ltb, eq-eqb, ne_eqb}
use Rattle.std.proofs.lemmas.Bool.{eqb-false}
use Rattle.laws.specs.Tab.{tab, indices}
use Rattle.laws.specs.Sieve.{sieve}
use Rattle.laws.specs.Count.{bit, bit_le, count_where, count-is}

-- how often b stands in a list
unfoldable pub occurs : ℕ → List ℕ → ℕ
occurs b [] = 0
occurs b (x ∷ xs) = bit (eqb b x) + occurs b xs

pub occurs-append : (b : ℕ) (xs ys : List ℕ) → occurs b (xs ++ ys) ≡ occurs b xs + occurs b ys
unfolding occurs
occurs-append b [] ys = omega arith
occurs-append b (x ∷ xs) ys = let e = occurs-append b xs ys in omega arith

occurs_up : (b n : ℕ) → occurs b (indices n) ≡ count_where (λ i. eqb b i) n
unfolding occurs count_where tab
occurs_up b zero = refl
occurs_up b (suc n) = occurs-append b (indices n) (n ∷ []) ∙ rw (occurs_up b n) (ap (λ (k : ℕ). count_where (λ i. eqb b i) n + k) (add-zero (bit (eqb b n))))

pub occurs-indices : (b n : ℕ) → occurs b (indices n) ≡ bit (ltb b n)
occurs-indices b n = occurs_up b n ∙ count-is b n

pub occurs-sieve : (b : ℕ) (q : ℕ → Bool) (xs : List ℕ) → occurs b (sieve q xs) ≡ cond (q b) (occurs b xs) 0
unfolding occurs sieve
occurs-sieve b q [] = by_cases (q b)
  where
    by_cases : (v : Bool) → ◌≡◌ {A = ℕ} 0 (cond v 0 0)
    by_cases true = refl
    by_cases false = refl
occurs-sieve b q (x ∷ xs) = by_cases (eqb b x) refl (q x) refl (occurs-sieve b q xs)
  where
    by_cases : (v : Bool) → eqb b x ≡ v → (w : Bool) → q x ≡ w → occurs b (sieve q xs) ≡ cond (q b) (occurs b xs) 0
        → occurs b (cond w (x ∷ sieve q xs) (sieve q xs)) ≡ cond (q b) (bit v + occurs b xs) 0
    by_cases true e true f r = let s = eqb-true b x e in let g : q b ≡ true = rw s f in rw (g, e) (ap (λ (k : ℕ). 1 + k) (rw g at r))
    by_cases true e false f r = let s = eqb-true b x e in let g : q b ≡ false = rw s f in rw g (rw g at r)
    by_cases false e true f r = rw (e, zero-add, zero-add) r
    by_cases false e false f r = rw zero-add r

-- what passes a test and what does not are all, by any number that each has
pub occurs_both : {X : Type 0} (g : X → ℕ) (p : X → Bool) (xs : List X) (b : ℕ) → occurs b (map g (sieve p xs)) + occurs b (map g (sieve (λ x. not (p x)) xs)) ≡ occurs b (map g xs)
unfolding sieve occurs
occurs_both g p [] b = refl
occurs_both g p (x ∷ xs) b = by_cases (p x) (occurs_both g p xs b)
  where
    by_cases : (v : Bool) → occurs b (map g (sieve p xs)) + occurs b (map g (sieve (λ x. not (p x)) xs)) ≡ occurs b (map g xs)
        → occurs b (map g (cond v (x ∷ sieve p xs) (sieve p xs))) + occurs b (map g (cond (not v) (x ∷ sieve (λ x. not (p x)) xs) (sieve (λ x. not (p x)) xs))) ≡ bit (eqb b (g x)) + occurs b (map g xs)
    by_cases true e = omega arith
    by_cases false e = omega arith

-- 1, 2, .. n with a 0 before them are the indices of n + 1
occurs-from-one : (b n : ℕ) → bit (eqb b 0) + occurs b (tab suc n) ≡ occurs b (indices (suc n))
unfolding tab occurs
occurs-from-one b zero = refl
occurs-from-one b (suc n) =
    let e = occurs-from-one b n in
    let l = occurs-append b (tab suc n) (suc n ∷ []) in
    let r = occurs-append b (indices (suc n)) (suc n ∷ []) in
    omega arith

-- of 1, 2, .. n none stands twice
pub occurs-counted : (b n : ℕ) → occurs b (tab suc n) ≤ 1
occurs-counted b n = let e = occurs-from-one b n in let i = occurs-indices b (suc n) in let h = bit_le (ltb b (suc n)) in omega arith

eqb_sym : (a b : ℕ) → eqb a b ≡ eqb b a
eqb_sym a b = by_cases (eqb b a) refl
  where
    by_cases : (v : Bool) → eqb b a ≡ v → eqb a b ≡ v
    by_cases true e = eq-eqb a b (sym (eqb-true b a e))
    by_cases false e = ne_eqb a b (λ (q : a ≡ b). eqb-false b a e (sym q))

-- f 0 + .. + f (n - 1)
unfoldable pub sum_upto : (ℕ → ℕ) → ℕ → ℕ
sum_upto f zero = 0
sum_upto f (suc n) = sum_upto f n + f n

sum_add : (f g : ℕ → ℕ) (n : ℕ) → sum_upto (λ i. f i + g i) n ≡ sum_upto f n + sum_upto g n
unfolding sum_upto
sum_add f g zero = refl
sum_add f g (suc n) = let e = sum_add f g n in omega arith

sum-zero : (n : ℕ) → sum_upto (λ i. 0) n ≡ 0
unfolding sum_upto
sum-zero zero = refl
sum-zero (suc n) = let e = sum-zero n in omega arith

sum_ones : (f : ℕ → ℕ) (n : ℕ) → ((i : ℕ) → f i ≤ 1) → sum_upto f n ≤ n
unfolding sum_upto
sum_ones f zero h = zero-le
sum_ones f (suc n) h = let a = sum_ones f n h in let b = h n in omega arith

sum-each : (f : ℕ → ℕ) (n : ℕ) → ((i : ℕ) → i < n → f i ≡ 1) → sum_upto f n ≡ n
unfolding sum_upto
sum-each f zero h = refl
sum-each f (suc n) h = let a = sum-each f n (λ (i : ℕ) (l : i < n). h i (omega arith)) in let b = h n (le_refl (suc n)) in omega arith

sum-count : (x n : ℕ) → sum_upto (λ b. bit (eqb b x)) n ≡ count_where (λ b. eqb x b) n
unfolding sum_upto count_where
sum-count x zero = refl
sum-count x (suc n) = rw (sum-count x n, eqb_sym n x)

sum_is : (x n : ℕ) → x < n → sum_upto (λ b. bit (eqb b x)) n ≡ 1
sum_is x n h = sum-count x n ∙ count-is x n ∙ rw (lt-ltb x n h)

occurs-sum : (xs : List ℕ) (n : ℕ) → ((b : ℕ) → 0 < occurs b xs → b < n) → length xs ≡ sum_upto (λ b. occurs b xs) n
unfolding occurs
occurs-sum [] n h = sym (sum-zero n)
occurs-sum (x ∷ xs) n h =
    let here : x < n = h x (rw (eq-eqb x x refl) (omega arith)) in
    let r : length xs ≡ sum_upto (λ b. occurs b xs) n = occurs-sum xs n (λ (b : ℕ) (q : 0 < occurs b xs). h b (omega arith)) in
    sym (sum_add (λ b. bit (eqb b x)) (λ b. occurs b xs) n ∙ rw (sum_is x n here, ← r) (one-add (length xs)))

-- where only numbers below n may stand
inside : (xs : List ℕ) (n b : ℕ) → occurs b xs ≤ bit (ltb b n) → 0 < occurs b xs → b < n
inside xs n b h q = by_cases (ltb b n) refl h
  where
    by_cases : (v : Bool) → ltb b n ≡ v → occurs b xs ≤ bit v → b < n
    by_cases true e l = ltb-true b n e
    by_cases false e l = absurd (no (occurs b xs) q l)
      where
        no : (k : ℕ) → 0 < k → k ≤ 0 → ⊥
        no k q l = omega arith

-- numbers below n, none twice, are no more than n
pub occurs-few : (xs : List ℕ) (n : ℕ) → ((b : ℕ) → occurs b xs ≤ bit (ltb b n)) → length xs ≤ n
occurs-few xs n h =
    rw (occurs-sum xs n (λ (b : ℕ) (q : 0 < occurs b xs). inside xs n b (h b) q))
    (sum_ones (λ b. occurs b xs) n (λ (b : ℕ). le_trans (h b) (bit_le (ltb b n))))

-- numbers below n, each of them once, are n
pub occurs-all : (xs : List ℕ) (n : ℕ) → ((b : ℕ) → occurs b xs ≡ bit (ltb b n)) → length xs ≡ n
occurs-all xs n h =
    occurs-sum xs n (λ (b : ℕ) (q : 0 < occurs b xs). inside xs n b (le_of_eq (h b)) q)
    ∙ sum-each (λ b. occurs b xs) n (λ (b : ℕ) (l : b < n). h b ∙ rw (lt-ltb b n l))

-- what stands at a place stands in the list
occurs-at : (xs : List ℕ) (i d : ℕ) → i < length xs → 1 ≤ occurs (get_or xs i d) xs
unfolding occurs
occurs-at [] i d h = absurd (not-suc-le-zero h)
occurs-at (x ∷ xs) zero d h = rw (eq-eqb x x refl) (omega arith)
occurs-at (x ∷ xs) (suc i) d h = let r = occurs-at xs i d (le_of_suc-le-suc h) in omega arith

-- each of them is below n
pub occurs-below : (xs : List ℕ) (n : ℕ) → ((b : ℕ) → occurs b xs ≤ bit (ltb b n)) → (i d : ℕ) → i < length xs → get_or xs i d < n
occurs-below xs n h i d l = inside xs n (get_or xs i d) (h (get_or xs i d)) (occurs-at xs i d l)

twice : (x : ℕ) (xs : List ℕ) (b : ℕ) → x ≡ b → 1 ≤ occurs b xs → bit (eqb x x) + occurs x xs ≤ 1 → ⊥
twice x xs b e l k = let a : 1 ≤ occurs x xs = rw e l in let o : bit (eqb x x) ≡ 1 = rw (eq-eqb x x refl) in omega arith

-- in a list without repetition two places that hold the same are one
pub occurs-apart : (xs : List ℕ) (d : ℕ) → ((b : ℕ) → occurs b xs ≤ 1) → (i j : ℕ) → i < length xs → j < length xs → get_or xs i d ≡ get_or xs j d → i ≡ j
unfolding occurs
occurs-apart [] d h i j p q e = absurd (not-suc-le-zero p)
occurs-apart (x ∷ xs) d h zero zero p q e = refl
occurs-apart (x ∷ xs) d h zero (suc j) p q e = absurd (twice x xs (get_or xs j d) e (occurs-at xs j d (le_of_suc-le-suc q)) (h x))
occurs-apart (x ∷ xs) d h (suc i) zero p q e = absurd (twice x xs (get_or xs i d) (sym e) (occurs-at xs i d (le_of_suc-le-suc p)) (h x))
occurs-apart (x ∷ xs) d h (suc i) (suc j) p q e = ap suc (occurs-apart xs d (λ (b : ℕ). let k = h b in omega arith) i j (le_of_suc-le-suc p) (le_of_suc-le-suc q) e)
