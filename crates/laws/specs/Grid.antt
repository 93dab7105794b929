-- A flat matrix: n rows of m cells, cell (i, j) at i * m + j. What a loop that stores one row a turn leaves, and what it knows. Assumes nothing.
use Rattle.std.specs.Prelude.{◌≡◌, refl, List, [], ℕ, ◌+◌, ◌-◌, ◌*◌, ◌≤◌, ◌<◌, length, get_or, take, drop}
use Rattle.std.proofs.Common.{sym, ap, ◌∙◌, zero-le, zero-mul, add-mul, one-mul, mul-le-mul_right, le_of_eq, arith, drop_of_length-le, get_or-take, get_or-drop}
use Rattle.std.proofs.Math.Nat.{add-sub_cancel_left}
use borrow.Rule.Slice.PartMut.{put_mid, mid_len}
use Rattle.laws.specs.Tab.{tab, tab-at, tab_ext, length-tab}
use Rattle.laws.specs.Splice.{splice, mid_splice}
use Rattle.laws.specs.Packed.{packed, packed_none, packed_more, packed-at, packed-rest, packed_kept, packed_ext, packed-front, length-packed}

pub row_next : (i m : ℕ) → (i + 1) * m ≡ i * m + m
row_next i m = add-mul i 1 m ∙ ap (λ (k : ℕ). i * m + k) (one-mul m)

-- row i lies before the end
pub row_ends : (n m i : ℕ) → i < n → i * m + m ≤ n * m
row_ends n m i h =
    let e : (i + 1) * m ≡ i * m + m = row_next i m in
    let k : (i + 1) * m ≤ n * m = mul-le-mul_right m (omega arith) in
    omega arith

module _ {A : Type 0} where
  -- cell (i, j) of the flat matrix l of m columns
  abbrev pub cell_at : A → ℕ → List A → ℕ → ℕ → A
  cell_at d m l i j = get_or l (i * m + j) d

  -- l, with the rows f 0 .. f (n - 1) of m cells over its front
  abbrev pub grid : (ℕ → ℕ → A) → ℕ → ℕ → List A → List A
  grid f n m l = packed (λ i. tab (f i) m) m l n

  module _ (f : ℕ → ℕ → A) (n m : ℕ) (l : List A) where
    pub grid-at : (d : A) (i j : ℕ) → i < n → j < m → cell_at d m (grid f n m l) i j ≡ f i j
    grid-at d i j hi hj =
        let row : take m (drop (i * m) (grid f n m l)) ≡ tab (f i) m = packed-at (λ k. tab (f k) m) m l (λ k. length-tab (f k) m) n i hi in
        sym (get_or-drop (i * m) (grid f n m l) j d) ∙ sym (get_or-take m (drop (i * m) (grid f n m l)) j d hj)
        ∙ ap (λ (r : List A). get_or r j d) row ∙ tab-at (f i) m j d hj

    -- cells past the rows are kept
    pub grid_past : drop (n * m) (grid f n m l) ≡ drop (n * m) l
    grid_past = packed-rest (λ k. tab (f k) m) m l (λ k. length-tab (f k) m) n

    -- a matrix over a matrix of the same sides
    pub grid-over : (g : ℕ → ℕ → A) → grid g n m (grid f n m l) ≡ grid g n m l
    grid-over g = packed_kept (λ i. tab (g i) m) m (grid f n m l) l n grid_past

    -- a matrix that takes up the whole list
    pub grid-whole : length l ≡ n * m → grid f n m l ≡ grid f n m []
    grid-whole e = packed_kept (λ i. tab (f i) m) m l [] n (drop_of_length-le l (le_of_eq e) ∙ sym (drop_of_length-le [] {i = n * m} zero-le))

    -- the matrix alone, read back
    pub grid-front : take (n * m) (grid f n m l) ≡ grid f n m []
    grid-front = packed-front (λ i. tab (f i) m) m l (λ i. length-tab (f i) m) n

    -- matrices whose cells agree
    pub grid_ext : (g : ℕ → ℕ → A) → ((i j : ℕ) → i < n → j < m → f i j ≡ g i j) → grid f n m l ≡ grid g n m l
    grid_ext g e = packed_ext (λ i. tab (f i) m) (λ i. tab (g i) m) m l n (λ i hi. tab_ext (f i) (g i) m (λ j hj. e i j hi hj))

    pub length-grid : n * m ≤ length l → length (grid f n m l) ≡ length l
    length-grid h = length-packed (λ i. tab (f i) m) m l (λ i. length-tab (f i) m) n h

-- what a loop over the n rows of m cells knows when i are stored, the next starts at `at`, and the list is out
pub record Rowing {A : Type 0} (row : ℕ → List A) (n m : ℕ) (l : List A) (i at : ℕ) (out : List A) : Type 0 where
  pub room : n * m ≤ length l
  pub upto : i ≤ n
  pub place : at ≡ i * m
  pub cells : out ≡ packed row m l i
  pub same : length out ≡ length l

module _ {A : Type 0} {row : ℕ → List A} {n m : ℕ} {l : List A} where
  pub rows_start : n * m ≤ length l → Rowing row n m l 0 0 l
  rows_start r = record { room = r; upto = zero-le; place = sym (zero-mul m); cells = packed_none row m l; same = refl }

  pub rows_end : {i at : ℕ} {out : List A} → Rowing row n m l i at out → n ≤ i → out ≡ packed row m l n
  rows_end {i} {at} {out} w h = let e : i ≡ n = omega arith in rw e at w.cells

  module _ {i at : ℕ} {out : List A} (w : Rowing row n m l i at out) (h : i < n) where
    -- the part out[at .. at + m], row i, lies within the rows and the list, and is m long
    pub row_inside : at + m ≤ n * m
    row_inside = omega (arith, row_ends n m i h, w.place)

    pub row_room : at + m ≤ length out
    row_room = omega (arith, row_inside, w.same, w.room)

    pub row-part : length (take (at + m - at) (drop at out)) ≡ m
    row-part = mid_len at (at + m) out row_room ∙ add-sub_cancel_left at m

    module _ (size : (k : ℕ) → length (row k) ≡ m) where
      -- it is not stored over yet
      pub row_before : take (at + m - at) (drop at out) ≡ take m (drop (i * m) l)
      row_before = rw (add-sub_cancel_left, w.cells, w.place, packed-rest row m l size i)

      pub row-cell : (d : A) (j : ℕ) → j < m → get_or (take (at + m - at) (drop at out)) j d ≡ cell_at d m l i j
      row-cell d j b = ap (λ (r : List A). get_or r j d) row_before ∙ get_or-take m (drop (i * m) l) j d b ∙ get_or-drop (i * m) l j d

      -- each of its cells made of the one that was there
      pub row-over : (f : ℕ → A → A) (d : A) → tab (λ j. f j (get_or (take (at + m - at) (drop at out)) j d)) (length (take (at + m - at) (drop at out))) ≡ tab (λ j. f j (cell_at d m l i j)) m
      row-over f d = rw row-part (tab_ext _ _ m (λ j b. ap (f j) (row-cell d j b)))

      -- it comes back as row i
      pub rows_on : {vs : List A} → vs ≡ row i → Rowing row n m l (i + 1) (at + m) (put_mid at (at + m - at) out vs)
      rows_on {vs} e =
          let p : put_mid at (at + m - at) out vs ≡ splice out at (row i) = mid_splice out at m vs (ap length e ∙ size i) ∙ ap (splice out at) e in
          let z : put_mid at (at + m - at) out vs ≡ packed row m l (i + 1) =
          p ∙ ap (λ (o : List A). splice o at (row i)) w.cells ∙ ap (λ (a : ℕ). splice (packed row m l i) a (row i)) w.place ∙ packed_more row m l size i in
          let next : at + m ≡ (i + 1) * m = ap (λ (k : ℕ). k + m) w.place ∙ sym (row_next i m) in
          let within : at + m ≤ length l = omega (arith, row_room, w.same) in
          record {
            room = w.room;
            upto = omega arith;
            place = next;
            cells = z;
            same = ap length z ∙ length-packed row m l size (i + 1) (rw (← next) within);
          }
