-- A matrix that is filled row by row: what the loop knows, and what a caller makes of its end. Assumes nothing.
use Rattle.std.specs.Prelude.{◌≡◌, List, ℕ, zero, suc, ◌+◌, ◌-◌, ◌*◌, ◌<◌, ◌≤◌, refl, length, get_or, take, drop}
use Rattle.std.proofs.Common.{sym, ap, ◌∙◌, ⊎_elim, not-suc-le-zero, eq-or-lt_of_le, le_of_suc-le-suc, add-one, add-zero, zero-mul, arith, get_or-take, get_or-drop}
use Rattle.std.proofs.Math.Nat.{add-sub_cancel_left}
use Rattle.std.proofs.lemmas.Slice.{take-put_mid_below, drop-put_mid, between-put_mid}
use borrow.Rule.Slice.PartMut.{put_mid, mid_len, same_len_mid}
use Rattle.std.proofs.lemmas.Bool.{cases_lt}
use Rattle.std.proofs.lemmas.List.{ext_get_or}
use Rattle.laws.specs.Grid.{cell_at, grid, grid-at, grid_past, length-grid, row_next, row_ends}
use Rattle.cells.specs.Filled.{Filled, RowsFilled}

-- a list in which the m elements from a on came back as vs
module _ {A : Type 0} (l : List A) (a m : ℕ) (vs : List A) (d : A) (room : a + m ≤ length l) (size : length vs ≡ m) where
  cut : a + m - a ≡ m
  cut = add-sub_cancel_left a m

  pub back-before : (k : ℕ) → k < a → get_or (put_mid a (a + m - a) l vs) k d ≡ get_or l k d
  back-before k h =
      sym (get_or-take a (put_mid a (a + m - a) l vs) k d h)
      ∙ ap (λ r. get_or r k d) (take-put_mid_below a (a + m - a) l vs a (omega arith) (omega arith)) ∙ get_or-take a l k d h

  pub back-within : (j : ℕ) → j < m → get_or (put_mid a (a + m - a) l vs) (a + j) d ≡ get_or vs j d
  back-within j h =
      let p = put_mid a (a + m - a) l vs in
      let e : take (a + m - a) (drop a p) ≡ vs = between-put_mid a (a + m - a) l vs (a + m) (omega arith) (size ∙ sym cut) in
      sym (get_or-drop a p j d) ∙ sym (get_or-take (a + m - a) (drop a p) j d (rw cut h)) ∙ ap (λ r. get_or r j d) e

  pub back-behind : (k : ℕ) → a + m ≤ k → get_or (put_mid a (a + m - a) l vs) k d ≡ get_or l k d
  back-behind k h =
      let p = put_mid a (a + m - a) l vs in
      let e : drop k p ≡ drop k l = drop-put_mid a (a + m - a) l vs k (rw cut h) (omega arith) (size ∙ sym cut) in
      ap (λ n. get_or p n d) (sym (add-zero k)) ∙ sym (get_or-drop k p 0 d) ∙ ap (λ r. get_or r 0 d) e ∙ get_or-drop k l 0 d ∙ ap (λ n. get_or l n d) (add-zero k)

module _ {A : Type 0} {makes : ℕ → ℕ → A → A → Type 0} {m : ℕ} {l : List A} where
  pub no_rows : RowsFilled makes 0 m l l
  no_rows = record { same = refl; each = λ i j d h. absurd (not-suc-le-zero h); rest = λ k d h. refl }

  module _ {n i : ℕ} {out : List A} (w : RowsFilled makes i m l out) (h : i < n) (room : n * m ≤ length l) where
    pub row_room : i * m + m ≤ length out
    row_room = omega (arith, row_ends n m i h, w.same, room)

    pub row-size : length (take (i * m + m - i * m) (drop (i * m) out)) ≡ m
    row-size = mid_len (i * m) (i * m + m) out row_room ∙ add-sub_cancel_left (i * m) m

    -- row i is not made yet
    pub row_held : (j : ℕ) (d : A) → j < m → get_or (take (i * m + m - i * m) (drop (i * m) out)) j d ≡ cell_at d m l i j
    row_held j d b =
        get_or-take (i * m + m - i * m) (drop (i * m) out) j d (rw (add-sub_cancel_left (i * m) m) b)
        ∙ get_or-drop (i * m) out j d ∙ w.rest (i * m + j) d (omega arith)

    -- it comes back made
    pub row_made : {can : ℕ → A → A → Type 0} {vs : List A} → Filled can (take (i * m + m - i * m) (drop (i * m) out)) vs
        → ((j : ℕ) (v r : A) → can j v r → makes i j v r) → RowsFilled makes (i + 1) m l (put_mid (i * m) (i * m + m - i * m) out vs)
    row_made {can} {vs} f e =
        let size : length vs ≡ m = f.same ∙ row-size in
        record {
          same = same_len_mid (i * m) (i * m + m - i * m) out vs f.same ∙ w.same;
          each = λ i' j d a b. ⊎_elim
              (λ (q : i' ≡ i). rw (q, back-within out (i * m) m vs d row_room size j b) (rw (row_held j d b) at (e j _ _ (f.each j d (rw row-size b)))))
              (λ (q : i' < i).
              let inside : i' * m + m ≤ i * m = row_ends i m i' q in
              rw (back-before out (i * m) m vs d row_room size (i' * m + j) (omega arith)) (w.each i' j d q b))
              (eq-or-lt_of_le (le_of_suc-le-suc (rw add-one at a)));
          rest = λ k d b.
              let next : i * m + m ≤ k = rw row_next at b in
              back-behind out (i * m) m vs d row_room size k next ∙ w.rest k d (omega arith);
        }

-- ---- read as a matrix

-- place k of a matrix, by its row and its column
record Placed (n m k : ℕ) : Type 0 where
  i : ℕ
  j : ℕ
  above : i < n
  left : j < m
  is : i * m + j ≡ k

placed : (n m k : ℕ) → k < n * m → Placed n m k
placed zero m k h = absurd (not-suc-le-zero (rw zero-mul at h))
placed (suc n) m k h = ⊎_elim
    (λ (q : k < n * m). let p = placed n m k q in record { i = p.i; j = p.j; above = omega (arith, p.above); left = p.left; is = p.is })
    (λ (q : n * m ≤ k). record { i = n; j = k - n * m; above = omega arith; left = omega (arith, row_next n m, add-one n, rw (← add-one n) at h); is = omega arith })
    (cases_lt k (n * m))

-- where each cell that may be made is f of its row and its column
pub filled_grid : {A : Type 0} {makes : ℕ → ℕ → A → A → Type 0} {n m : ℕ} {l out : List A} (d : A) (f : ℕ → ℕ → A) → RowsFilled makes n m l out → n * m ≤ length l
    → ((i j : ℕ) → i < n → j < m → makes i j (cell_at d m l i j) (cell_at d m out i j) → cell_at d m out i j ≡ f i j) → out ≡ grid f n m l
filled_grid {A} {makes} {n} {m} {l} {out} d f w room e = ext_get_or d out (grid f n m l) (w.same ∙ sym (length-grid f n m l room)) (λ k h. ⊎_elim (within k) (past k) (cases_lt k (n * m)))
  where
    within : (k : ℕ) → k < n * m → get_or out k d ≡ get_or (grid f n m l) k d
    within k q =
        let p = placed n m k q in
        let same : cell_at d m out p.i p.j ≡ cell_at d m (grid f n m l) p.i p.j =
        e p.i p.j p.above p.left (w.each p.i p.j d p.above p.left) ∙ sym (grid-at f n m l d p.i p.j p.above p.left) in
        rw p.is at same

    past : (k : ℕ) → n * m ≤ k → get_or out k d ≡ get_or (grid f n m l) k d
    past k q =
        let s : n * m + (k - n * m) ≡ k = omega arith in
        let same : get_or (grid f n m l) (n * m + (k - n * m)) d ≡ get_or l (n * m + (k - n * m)) d =
        sym (get_or-drop (n * m) (grid f n m l) (k - n * m) d) ∙ ap (λ r. get_or r (k - n * m) d) (grid_past f n m l) ∙ get_or-drop (n * m) l (k - n * m) d in
        w.rest k d q ∙ sym (rw s at same)
