-- A list given by its elements (`tab`), and one whose front is given so (`filled`): what a loop that stores one element a turn leaves. Assumes nothing.
use Rattle.std.specs.Prelude.{◌≡◌, length, set, replicate}
use Rattle.std.proofs.Math.Path.{refl, sym, ap, subst}
use Rattle.std.proofs.Common.{◌∙◌, not-suc-le-zero, le_refl, eq-or-lt_of_le, le_of_suc-le-suc, length-set, drop-cons, get_or-append-add, ext_get_or}
use mathlib.Core.List.{List, [], ◌∷◌, ◌++◌, map, append-nil, append_assoc, map-append}
use Rattle.std.proofs.Math.Logic.{⊎_elim}
use Prim.Native.Nat.{ℕ, zero, suc, ◌+◌, ◌-◌, ◌≤◌, ◌<◌, zero-le}
use Rattle.std.proofs.Math.Numerals.{add-one}
use native.Mathlib.Omega.{arith}
use Rattle.std.proofs.lemmas.List.{length-map, length-replicate, get_or-replicate, set_at}
use Rattle.std.proofs.Math.ListN.{get_or, drop, length-append, get_or-append, get_or-map}
use Rattle.std.proofs.Math.Seq.{drop-length, drop_at, get_or_at, get_or-drop, append_snoc}

module _ {A : Type 0} where
  -- f 0, f 1, .. f (n - 1)
  unfoldable pub tab : (ℕ → A) → ℕ → List A
  tab f zero = []
  tab f (suc n) = tab f n ++ (f n ∷ [])

  -- l, with its first k elements replaced by f 0 .. f (k - 1)
  unfoldable pub filled : (ℕ → A) → List A → ℕ → List A
  filled f l k = tab f k ++ drop k l

  -- ---- tab
  pub length-tab : (f : ℕ → A) (n : ℕ) → length (tab f n) ≡ n
  unfolding tab
  length-tab f zero = refl
  length-tab f (suc n) = length-append (tab f n) (f n ∷ []) ∙ ap (λ (k : ℕ). k + 1) (length-tab f n) ∙ add-one n

  pub tab-more : (f : ℕ → A) (n : ℕ) → tab f n ++ (f n ∷ []) ≡ tab f (n + 1)
  unfolding tab
  tab-more f n = rw add-one

  pub tab-at : (f : ℕ → A) (n i : ℕ) (d : A) → i < n → get_or (tab f n) i d ≡ f i
  unfolding tab
  tab-at f zero i d h = elim h [ ]
  tab-at f (suc n) i d h =
      ⊎_elim
      (λ (e : i ≡ n). get_or_at (tab f n) (f n) [] d i (length-tab f n ∙ sym e) ∙ ap f (sym e))
      (λ (b : i < n). get_or-append (tab f n) (f n ∷ []) d i (rw length-tab b) ∙ tab-at f n i d b)
      (eq-or-lt_of_le (le_of_suc-le-suc h))

  pub tab_ext : (f g : ℕ → A) (n : ℕ) → ((i : ℕ) → i < n → f i ≡ g i) → tab f n ≡ tab g n
  unfolding tab
  tab_ext f g zero e = refl
  tab_ext f g (suc n) e = rw (tab_ext f g n (λ (i : ℕ) (h : i < n). e i (omega arith)), e n (le_refl (suc n)))

  -- a list that has these elements
  pub tab_of : (f : ℕ → A) (l : List A) (n : ℕ) (d : A) → length l ≡ n → ((i : ℕ) → i < n → get_or l i d ≡ f i) → l ≡ tab f n
  tab_of f l n d e h =
      ext_get_or d l (tab f n) (e ∙ sym (length-tab f n)) (λ (i : ℕ) (q : i < length l). let r : i < n = rw e at q in h i r ∙ sym (tab-at f n i d r))

  -- the first m elements, and n more
  pub tab_add : (f : ℕ → A) (m n : ℕ) → tab f (m + n) ≡ tab f m ++ tab (λ i. f (m + i)) n
  unfolding tab
  tab_add f m zero = let e : m + 0 ≡ m = omega arith in ap (tab f) e ∙ sym (append-nil (tab f m))
  tab_add f m (suc n) =
      let e : m + suc n ≡ suc (m + n) = omega arith in
      ap (tab f) e ∙ ap (λ (l : List A). l ++ (f (m + n) ∷ [])) (tab_add f m n) ∙ append_assoc (tab f m) (tab (λ i. f (m + i)) n) (f (m + n) ∷ [])

  pub replicate_tab : (n : ℕ) (a : A) → replicate n a ≡ tab (λ _. a) n
  replicate_tab n a = tab_of (λ _. a) (replicate n a) n a (length-replicate n a) (λ i h. get_or-replicate n i a a h)

  -- ---- filled
  filled_none : (f : ℕ → A) (l : List A) → l ≡ filled f l 0
  unfolding filled tab
  filled_none f l = refl

  filled_more : (f : ℕ → A) (l : List A) (k : ℕ) → k < length l → set (filled f l k) k (f k) ≡ filled f l (k + 1)
  unfolding filled tab
  filled_more f l k h =
      rw (drop-cons l k (f k), add-one)
      (set_at (tab f k) (get_or l k (f k)) (drop (suc k) l) (f k) k (length-tab f k) ∙ sym (append_snoc (tab f k) (f k) (drop (suc k) l)))

  pub filled-all : (f : ℕ → A) (l : List A) → filled f l (length l) ≡ tab f (length l)
  unfolding filled
  filled-all f l = rw (drop-length l) (append-nil (tab f (length l)))

  pub filled_past : (f : ℕ → A) (l : List A) (k i : ℕ) (d : A) → k ≤ i → get_or (filled f l k) i d ≡ get_or l i d
  unfolding filled
  filled_past f l k i d h =
      let e : k + (i - k) ≡ i = omega arith in
      let g : get_or (tab f k ++ drop k l) (k + (i - k)) d ≡ get_or (drop k l) (i - k) d =
      subst (λ (n : ℕ). get_or (tab f k ++ drop k l) (n + (i - k)) d ≡ get_or (drop k l) (i - k) d) (length-tab f k) (get_or-append-add (tab f k) (drop k l) (i - k) d) in
      rw e at (g ∙ get_or-drop k l (i - k) d)

  pub filled_at : (f : ℕ → A) (l : List A) (k i : ℕ) (d : A) → i < k → get_or (filled f l k) i d ≡ f i
  unfolding filled
  filled_at f l k i d h = get_or-append (tab f k) (drop k l) d i (rw length-tab h) ∙ tab-at f k i d h

  -- what is not replaced
  pub filled-rest : (f : ℕ → A) (l : List A) (k : ℕ) → drop k (filled f l k) ≡ drop k l
  unfolding filled
  filled-rest f l k = drop_at (tab f k) (drop k l) k (length-tab f k)

  -- ---- within a list the default of `get_or` does not matter
  pub get_d_any : (l : List A) (i : ℕ) (d e : A) → i < length l → get_or l i d ≡ get_or l i e
  get_d_any [] i d e h = absurd (not-suc-le-zero h)
  get_d_any (x ∷ l) zero d e h = refl
  get_d_any (x ∷ l) (suc i) d e h = get_d_any l i d e (le_of_suc-le-suc h)

-- what f makes of an element
pub map_at : {A B : Type 0} (f : A → B) (xs : List A) (k : ℕ) (d : A) (e : B) → k < length xs → get_or (map f xs) k e ≡ f (get_or xs k d)
map_at f xs k d e h = get_d_any (map f xs) k e (f d) (rw (length-map xs f) h) ∙ get_or-map f xs k d

pub map-tab : {A B : Type 0} (g : A → B) (f : ℕ → A) (n : ℕ) → map g (tab f n) ≡ tab (λ i. g (f i)) n
unfolding tab
map-tab g f zero = refl
map-tab g f (suc n) = map-append g (tab f n) (f n ∷ []) ∙ ap (λ (l : List _). l ++ (g (f n) ∷ [])) (map-tab g f n)

-- what h makes of each element, by its index
pub tab-map : {X Y : Type 0} (h : X → Y) (xs : List X) (n : ℕ) (d : X) → length xs ≡ n → tab (λ i. h (get_or xs i d)) n ≡ map h xs
tab-map h xs n d e = sym (map-tab h (λ i. get_or xs i d) n) ∙ ap (map h) (sym (tab_of (λ i. get_or xs i d) xs n d e (λ i q. refl)))

-- 0, 1, .. n - 1
abbrev pub indices : ℕ → List ℕ
indices n = tab (λ i. i) n

-- what a loop that fills l by f, up to n, knows when k elements are stored and the list is out
pub record Filling {A : Type 0} (f : ℕ → A) (l : List A) (n k : ℕ) (out : List A) : Type 0 where
  pub upto : k ≤ n
  pub cells : out ≡ filled f l k
  pub same : length out ≡ length l

module _ {A : Type 0} (f : ℕ → A) (l : List A) (n : ℕ) where
  pub fill_start : Filling f l n 0 l
  fill_start = record { upto = zero-le; cells = filled_none f l; same = refl }

  -- one more element is stored
  pub fill_on : {k : ℕ} {out : List A} {v : A} → Filling f l n k out → k < n → n ≤ length l → v ≡ f k → Filling f l n (k + 1) (set out k v)
  fill_on {k} {out} {v} w h r e =
      let z : set out k v ≡ filled f l (k + 1) = ap (λ (a : List A). set a k v) w.cells ∙ ap (set (filled f l k) k) e ∙ filled_more f l k (omega arith) in
      record { upto = omega arith; cells = z; same = length-set out k v ∙ w.same }

  -- an element that is not stored yet is as it was
  pub fill_ahead : {k : ℕ} {out : List A} → Filling f l n k out → (d : A) → get_or out k d ≡ get_or l k d
  fill_ahead {k} {out} w d = ap (λ (a : List A). get_or a k d) w.cells ∙ filled_past f l k k d (le_refl k)

  pub fill_end : {k : ℕ} {out : List A} → Filling f l n k out → n ≤ k → out ≡ filled f l n
  fill_end {k} {out} w h = let e : k ≡ n = omega arith in rw e at w.cells

  -- the whole list is stored over
  pub fill_whole : {k : ℕ} {out : List A} → Filling f l n k out → n ≤ k → length l ≡ n → out ≡ tab f n
  fill_whole w h e = fill_end w h ∙ ap (filled f l) (sym e) ∙ filled-all f l ∙ ap (tab f) e
