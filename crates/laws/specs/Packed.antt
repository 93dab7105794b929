-- Records given by their index, laid over the front of a list: what a loop that stores one record a turn leaves. Assumes nothing.
use Rattle.std.specs.Prelude.{◌≡◌, List, [], ◌++◌, ℕ, ◌+◌, ◌*◌, ◌≤◌, ◌<◌, length, take, drop}
use Rattle.std.proofs.Common.{sym, ◌∙◌, append-nil, zero-le, le_refl, drop_of_length-le, take_at}
use Rattle.std.proofs.Math.Path.{ap}
use Rattle.std.proofs.Math.Numerals.{add-one}
use Rattle.laws.specs.Tab.{tab, length-tab, tab-at, tab_ext, map-tab, indices}
use Rattle.laws.specs.Splice.{splice}
use Rattle.laws.specs.Laid.{rows, rows-map, length-rows, laid, laid_none, laid_more, laid-rest, laid-at, laid_kept, laid-whole, length-laid}

module _ {A : Type 0} (f : ℕ → List A) (s : ℕ) (l : List A) where
  -- l, with its front replaced by the records f 0 .. f (k - 1), each of s elements
  unfoldable pub packed : ℕ → List A
  packed k = laid f s (indices k) l

  pub packed_none : l ≡ packed 0
  unfolding packed tab
  packed_none = laid_none f s l

  module _ (size : (i : ℕ) → length (f i) ≡ s) where
    -- a store of the next record
    pub packed_more : (k : ℕ) → splice (packed k) (k * s) (f k) ≡ packed (k + 1)
    unfolding packed tab
    packed_more k = rw add-one (rw (length-tab (λ i. i) k) at (laid_more f s size (indices k) l k))

    -- what is not yet replaced
    pub packed-rest : (k : ℕ) → drop (k * s) (packed k) ≡ drop (k * s) l
    unfolding packed
    packed-rest k = laid-rest f s size (indices k) l k (rw length-tab (le_refl k))

    pub packed-at : (n i : ℕ) → i < n → take s (drop (i * s) (packed n)) ≡ f i
    unfolding packed
    packed-at n i h = laid-at f s size (indices n) l i 0 (rw length-tab h) ∙ ap f (tab-at (λ i. i) n i 0 h)

    pub length-packed : (k : ℕ) → k * s ≤ length l → length (packed k) ≡ length l
    unfolding packed
    length-packed k h = length-laid f s size (indices k) l (rw length-tab h)

-- only what lies behind the records is kept of the list
pub packed_kept : {A : Type 0} (f : ℕ → List A) (s : ℕ) (l k : List A) (n : ℕ) → drop (n * s) l ≡ drop (n * s) k → packed f s l n ≡ packed f s k n
unfolding packed
packed_kept f s l k n e = laid_kept f s (indices n) l k (rw length-tab e)

-- the records alone, read back
pub packed-front : {A : Type 0} (f : ℕ → List A) (s : ℕ) (l : List A) (size : (i : ℕ) → length (f i) ≡ s) (n : ℕ) → take (n * s) (packed f s l n) ≡ packed f s [] n
unfolding packed laid
packed-front {A} f s l size n =
    let k : length (rows f (indices n)) ≡ n * s = length-rows f s size (indices n) ∙ ap (λ (j : ℕ). j * s) (length-tab (λ i. i) n) in
    take_at (rows f (indices n)) _ (n * s) k
    ∙ sym (ap (λ (r : List A). rows f (indices n) ++ r) (drop_of_length-le [] {i = length (indices n) * s} zero-le) ∙ append-nil (rows f (indices n)))

-- records of a list that is given by its elements
pub packed-laid : {X A : Type 0} (enc : X → List A) (g : ℕ → X) (s : ℕ) (l : List A) (n : ℕ) → packed (λ i. enc (g i)) s l n ≡ laid enc s (tab g n) l
unfolding packed laid
packed-laid enc g s l n = rw (rows-map enc g (indices n), map-tab, length-tab (λ i. i) n, length-tab g n)

-- records that fill a list
pub packed-whole : {X A : Type 0} (enc : X → List A) (g : ℕ → X) (s : ℕ) (l : List A) (n : ℕ) → length l ≡ n * s → packed (λ i. enc (g i)) s l n ≡ rows enc (tab g n)
packed-whole enc g s l n e = packed-laid enc g s l n ∙ laid-whole enc s (tab g n) l (e ∙ ap (λ (k : ℕ). k * s) (sym (length-tab g n)))

-- records that agree at each index
pub packed_ext : {A : Type 0} (f g : ℕ → List A) (s : ℕ) (l : List A) (n : ℕ) → ((i : ℕ) → i < n → f i ≡ g i) → packed f s l n ≡ packed g s l n
packed_ext {A} f g s l n e =
    let whole : List A → List A = λ (r : List A). r in
    packed-laid whole f s l n ∙ ap (λ (rs : List (List A)). laid whole s rs l) (tab_ext f g n e) ∙ sym (packed-laid whole g s l n)
