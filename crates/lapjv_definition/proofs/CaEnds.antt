-- ca_dense, of the definition alone: each free row gets a column, in at most n (n - 1) / 2 scans, and the rows and the columns are paired one to one. Assumes nothing.
use mathlib.Core.Path.{◌≡◌, refl, sym, ap, ◌∙◌, subst}
use mathlib.Core.List.{List}
use Prim.Native.Nat.{ℕ, zero, suc, ◌+◌, ◌-◌, ◌*◌, ◌<◌, ◌≤◌}
use native.Mathlib.Omega.{arith}
use native.Mathlib.Nat.{add-zero, suc-mul, mul-suc, le_trans, mul-le-mul_right, mul-le-mul_left}
use lib.ListN.{length, get_or}
use lib.Ieee.{Float, nan}
use Rattle.laws.specs.Fuel.{fuel_suc, fuel_zero}
use Rattle.laws.specs.Tab.{tab, length-tab, tab-at}
use Rattle.laws.specs.Total.{total, is, total_ge, total_cons, is_same, is_other}
use Rattle.lapjv_definition.specs.Ca.{augmented, Augmented, augment_from, Assigned, assigned, ca_from}
use Rattle.lapjv_definition.specs.Invariant.{at-start, Hole, Holed, SearchOk, Searching, FoundOk, taken, tri, CaOk}
use Rattle.lapjv_definition.specs.Path.{first_d, Search, search_at, search_from, search_start, Pathed, pathed, find_path_dense, raise_from}
use Rattle.lapjv_definition.specs.Scan.{scanning}
use Rattle.lapjv_definition.proofs.AugmentLaws.{Done, augment-is, augment-ends}
use Rattle.lapjv_definition.proofs.SearchEnds.{SearchDone, search-level, search-ends, lo-in, few}
use Rattle.lapjv_definition.proofs.SearchLaws.{taken-row, taken_none}

-- the search begins
pub search-start : (n start : ℕ) (y : List ℕ) → start < n → SearchOk n start y 0 0 (tab (λ i. i) n) (tab (λ i. start) n)
search-start n start y h = record {
  starts = h;
  len_cols = length-tab (λ i. i) n;
  len_pred = length-tab (λ i. start) n;
  order = omega arith;
  top = omega arith;
  below = λ k hk. omega (arith, tab-at (λ i. i) n k 0 hk);
  once = λ k l hk hl e. omega (arith, tab-at (λ i. i) n k 0 hk, tab-at (λ i. i) n l 0 hl);
  held = λ k hk. absurd (omega arith);
  preds = λ k hk. absurd (omega arith);
  ahead = λ k lk kn. at-start (tab-at (λ i. start) n (get_or (tab (λ i. i) n) k 0) 0 (omega (arith, tab-at (λ i. i) n k 0 kn)));
}

-- find_path_dense's search, whole
pub path_done : (n : ℕ) (cost : List Float) (i : ℕ) (y : List ℕ) (v : List Float) → length y ≡ n → total (taken n) y n 0 < n → i < n
    → SearchDone n i y (search_from n cost y v n (search_start n cost i v))
path_done n cost i y v ly tn hi = search-ends n i y cost v ly tn n (search_start n cost i v) (λ q. absurd (omega arith))
    (λ q. record { ok = search-start n i y hi; same = refl; count = refl }) (λ q. omega arith)

-- x and y before the pass for start, a column being free
pub record Open (n start : ℕ) (x y : List ℕ) : Type 0 where
  pub starts : start < n
  pub len_x : length x ≡ n
  pub len_y : length y ≡ n
  pub room : total (taken n) y n 0 < n
  pub back : (j : ℕ) → j < n → get_or y j 0 < n → get_or x (get_or y j 0) 0 ≡ j
  pub alone : (j : ℕ) → j < n → get_or y j 0 ≡ start → ⊥

-- ---- one pass of ca_dense: the path to a free column, and the way back

module _ (n : ℕ) (cost : List Float) (start : ℕ) (x y : List ℕ) (v : List Float) (o : Open n start x y) where
  p : Search
  p = search_from n cost y v n (search_start n cost start v)

  done : SearchDone n start y p
  unfolding p
  done = path_done n cost start y v o.len_y o.room o.starts

  target : (ℕ → ℕ) → ℕ
  target w = total w y n 0 + w start - w (get_or y p.st.final_j 0)

  hole : Hole n start p.st.pred p.st.cols target done.at p.st.final_j x y
  unfolding target
  hole = record {
    len_x = o.len_x;
    len_y = o.len_y;
    col = done.found.col;
    starts = o.starts;
    count = λ w. omega (arith, total_ge w y n 0 p.st.final_j (omega arith) (omega (arith, done.found.col)));
    back = λ k hk q. o.back k hk;
    open_start = λ k hk q. o.alone k hk;
    apart = λ k hk e. omega (arith, done.found.vacant, rw e at (done.ok.held k (omega (arith, done.ok.order))));
    cols-in = λ k hk. done.ok.below k (omega (arith, done.ok.order, done.ok.top));
    held = λ k hk. done.ok.held k (omega (arith, done.ok.order));
    once = λ k l hk hl. done.ok.once k l (omega (arith, done.ok.order, done.ok.top)) (omega (arith, done.ok.order, done.ok.top));
    preds = done.ok.preds;
    pred-j = done.found.from;
  }

  -- the columns on the way are fewer than n
  short : done.at < n
  short = omega (arith, few n start y done.at done.top p.st.cols p.st.pred done.ok o.len_y, done.ok.order, o.room)

  path_end : Done n start target (augment_from n p.st.pred start n n p.st.final_j x y)
  path_end = rw (augment-is n p.st.pred start n n p.st.final_j x y (λ e. omega (arith, o.starts)))
      (augment-ends n start p.st.pred p.st.cols target n done.at n p.st.final_j x y short hole)

  pub path_level : (m : ℕ) → n ≤ (search_from n cost y v m (search_start n cost start v)).st.final_j
      → ((search_from n cost y v m (search_start n cost start v)).lo ≡ (search_from n cost y v m (search_start n cost start v)).st.hi)
      × ((search_from n cost y v m (search_start n cost start v)).lo < n)
  path_level m h =
      let l = search-level n start y cost v o.len_y o.room m (search_start n cost start v) (λ q. record { ok = search-start n start y o.starts; same = refl; count = refl }) h in
      (l.same, lo-in l.ok o.len_y o.room)

  pub path_found : (find_path_dense n cost start y v).final_j < n
  unfolding find_path_dense p
  path_found = done.found.col

  pub path_back : (augment_from n (find_path_dense n cost start y v).pred start n n (find_path_dense n cost start y v).final_j x y).i ≡ start
  unfolding find_path_dense p
  path_back = path_end.ended

  pub path_holed : Holed n start (find_path_dense n cost start y v).pred n (find_path_dense n cost start y v).final_j x y
  unfolding find_path_dense p
  path_holed = record { cols = p.st.cols; target = target; b = done.at; less = short; hole = hole }

-- ---- ca_dense, pass by pass

module _ (n n_free_rows : ℕ) (free_rows : List ℕ) (below : (k : ℕ) → k < n_free_rows → get_or free_rows k 0 < n) (cost : List Float) (r : ℕ) (s : Assigned) (o : CaOk n n_free_rows free_rows r s) (more : r < n_free_rows) where
  abbrev start : ℕ
  start = get_or free_rows r 0

  head : (w : ℕ → ℕ) → total w free_rows (n_free_rows - r) r ≡ w start + total w free_rows (n_free_rows - (r + 1)) (r + 1)
  head w = total_cons w free_rows (n_free_rows - r) (n_free_rows - (r + 1)) r (omega arith)

  pub ca_open : Open n (get_or free_rows r 0) s.x s.y
  ca_open = record {
    starts = below r more;
    len_x = o.len_x;
    len_y = o.len_y;
    room = omega (arith, o.sum);
    back = o.back;
    alone = λ k hk e. omega (
      arith,
      o.once start (below r more),
      head (is start),
      is_same start start refl,
      total_ge (is start) s.y n 0 k (omega arith) (omega arith),
      is_same start (get_or s.y k 0) (sym e),
    );
  }

  abbrev q : Search
  q = p n cost start s.x s.y s.v ca_open

  abbrev A : Augmented
  A = augment_from n q.st.pred start n n q.st.final_j s.x s.y

  found : FoundOk n start s.y (done n cost start s.x s.y s.v ca_open).at q.st.cols q.st.pred q.st.final_j
  found = (done n cost start s.x s.y s.v ca_open).found

  end : Done n start (target n cost start s.x s.y s.v ca_open) A
  end = path_end n cost start s.x s.y s.v ca_open

  counted : (w : ℕ → ℕ) → w (get_or s.y q.st.final_j 0) ≡ 0 → total w A.y n 0 ≡ total w s.y n 0 + w start
  unfolding target
  counted w e = omega (arith, end.count w)

  tris : total (taken n) A.y n 0 ≡ suc (total (taken n) s.y n 0)
  tris = omega (arith, counted (taken n) (taken_none n (get_or s.y q.st.final_j 0) found.vacant), taken-row n start (below r more))

  next : (v : List Float) → CaOk n n_free_rows free_rows (r + 1) (assigned A.x A.y v (s.scans + q.scans))
  unfolding tri
  next v = record {
    len_x = end.len_x;
    len_y = end.len_y;
    once = λ i hi. omega (arith, o.once i hi, head (is i), counted (is i) (is_other i (get_or s.y q.st.final_j 0) (λ e. omega (arith, found.vacant))));
    back = end.back;
    sum = omega (arith, o.sum, tris);
    scans = rw tris (omega (arith, o.scans, (done n cost start s.x s.y s.v ca_open).scans));
  }

pub ca_passes : (n n_free_rows : ℕ) (free_rows : List ℕ) → ((k : ℕ) → k < n_free_rows → get_or free_rows k 0 < n) → (cost : List Float) (m r : ℕ) (s : Assigned) → r + m ≤ n_free_rows → CaOk n n_free_rows free_rows r s
    → CaOk n n_free_rows free_rows (r + m) (ca_from n cost free_rows m r s)
unfolding ca_from p find_path_dense
ca_passes n n_free_rows free_rows b cost zero r s e o = subst (λ (q : ℕ). CaOk n n_free_rows free_rows q s) (sym (add-zero r)) o
ca_passes n n_free_rows free_rows b cost (suc m) r s e o =
    let one : r + 1 + m ≡ r + suc m = omega arith in
    subst (λ (q : ℕ). CaOk n n_free_rows free_rows q (ca_from n cost free_rows (suc m) r s)) one
    (ca_passes n n_free_rows free_rows b cost m (r + 1) _ (omega arith) (next n n_free_rows free_rows b cost r s o (omega arith) _))

-- ---- find_path_dense in the code

-- the search begins with what path_init left
pub path_begin : {n i : ℕ} {y cols pred : List ℕ} → cols ≡ tab (λ i. i) n → pred ≡ tab (λ x. i) n → i < n → Searching n y 0 0 cols pred
path_begin {n} {i} {y} ec ep h = record { start = i; ok = rw (ec, ep) (search-start n i y h) }

-- the search as the code runs it, with what path_init left
pub path_is : (n : ℕ) (cost : List Float) (i : ℕ) (y : List ℕ) (v : List Float) {d : List Float} {cols pred : List ℕ} {t : Search}
    → (d ≡ first_d n cost i v) × (cols ≡ tab (λ x. x) n) × (pred ≡ tab (λ x. i) n)
    → t ≡ search_from n cost y v n (search_at (scanning d cols pred 0 n) 0 0 0) → t ≡ search_from n cost y v n (search_start n cost i v)
path_is n cost i y v e g = rw (e.0, e.1, e.2) at g

pub path_ok : (n : ℕ) (cost : List Float) (i : ℕ) (y : List ℕ) (v : List Float) {d : List Float} {cols pred : List ℕ} {t : Search} → length y ≡ n → total (taken n) y n 0 < n → i < n
    → (d ≡ first_d n cost i v) × (cols ≡ tab (λ x. x) n) × (pred ≡ tab (λ x. i) n)
    → t ≡ search_from n cost y v n (search_at (scanning d cols pred 0 n) 0 0 0) → SearchDone n i y t
path_ok n cost i y v ly tn h e g = rw (path_is n cost i y v e g) (path_done n cost i y v ly tn h)

pub path_result : (n : ℕ) (cost : List Float) (i : ℕ) (y : List ℕ) (v : List Float) {v' d : List Float} {cols pred : List ℕ} {hi f lo ready c : ℕ}
    → search_at (scanning d cols pred hi f) lo ready c ≡ search_from n cost y v n (search_start n cost i v)
    → v' ≡ raise_from cols d (get_or d (get_or cols lo 0) nan) ready 0 v → pathed v' pred f c ≡ find_path_dense n cost i y v
unfolding find_path_dense
path_result n cost i y v e ev = rw (← e, ev)

-- ---- ca_dense, a pass at a time, for the loop of the code

pub tri_le : (t : ℕ) → tri t ≤ t * t
unfolding tri
tri_le zero = omega arith
tri_le (suc t) = omega (arith, tri_le t, suc-mul t (suc t), mul-suc t t)

-- the passes after one that found p
abbrev ca_to : (n n_free_rows : ℕ) (free_rows : List ℕ) (cost : List Float) (r : ℕ) (s : Assigned) → Pathed → Assigned
ca_to n n_free_rows free_rows cost r s p =
    let a = augment_from n p.pred (get_or free_rows r 0) n n p.final_j s.x s.y in
    ca_from n cost free_rows (n_free_rows - (r + 1)) (r + 1) (assigned a.x a.y p.v (s.scans + p.scans))

ca_step : (n n_free_rows : ℕ) (free_rows : List ℕ) (cost : List Float) (r : ℕ) (s : Assigned) → r < n_free_rows
    → ca_from n cost free_rows (n_free_rows - r) r s ≡ ca_to n n_free_rows free_rows cost r s (find_path_dense n cost (get_or free_rows r 0) s.y s.v)
unfolding ca_from
ca_step n n_free_rows free_rows cost r s h = rw (fuel_suc n_free_rows r h)

pub record CaInv (n n_free_rows : ℕ) (free_rows : List ℕ) (cost : List Float) (R : Assigned) (pred : List ℕ) (d : List Float) (cols : List ℕ) (r : ℕ) (s : Assigned) : Type 0 where
  pub ok : CaOk n n_free_rows free_rows r s
  pub to : r ≤ n_free_rows
  pub len_v : length s.v ≡ n
  pub len_pred : length pred ≡ n
  pub len_d : length d ≡ n
  pub len_cols : length cols ≡ n
  pub rest : ca_from n cost free_rows (n_free_rows - r) r s ≡ R

module _ {n n_free_rows : ℕ} {free_rows : List ℕ} {cost : List Float} {R : Assigned} {pred : List ℕ} {d : List Float} {cols : List ℕ} {r : ℕ} {s : Assigned}
    (inv : CaInv n n_free_rows free_rows cost R pred d cols r s) (below : (k : ℕ) → k < n_free_rows → get_or free_rows k 0 < n) (more : r < n_free_rows) where
  pub ca_room : total (taken n) s.y n 0 < n
  ca_room = omega (arith, inv.ok.sum)

  pub ca_few : n ≤ 255 → s.scans ≤ 65025
  ca_few small = omega (arith, inv.ok.scans, tri_le t, le_trans (mul-le-mul_right t few-t) (mul-le-mul_left 255 few-t))
    where
      t : ℕ
      t = total (taken n) s.y n 0

      few-t : total (taken n) s.y n 0 ≤ 255
      few-t = omega (arith, ca_room)

  module _ {v' : List Float} {pred' : List ℕ} {f c : ℕ} (e : pathed v' pred' f c ≡ find_path_dense n cost (get_or free_rows r 0) s.y s.v) where
    abbrev P : Search
    P = search_from n cost s.y s.v n (search_start n cost (get_or free_rows r 0) s.v)

    e-pred : pred' ≡ P.st.pred
    unfolding find_path_dense
    e-pred = ap (λ (z : Pathed). z.pred) e

    e-found : f ≡ P.st.final_j
    unfolding find_path_dense
    e-found = ap (λ (z : Pathed). z.final_j) e

    e-scans : c ≡ P.scans
    unfolding find_path_dense
    e-scans = ap (λ (z : Pathed). z.scans) e

    pub ca_scans : c ≤ n
    ca_scans = omega (arith, e-scans, (path_done n cost (get_or free_rows r 0) s.y s.v inv.ok.len_y ca_room (below r more)).scans, ca_room)

    pub ca_holed : Holed n (get_or free_rows r 0) pred' n f s.x s.y
    ca_holed = rw (ap (λ (z : Pathed). z.pred) e, ap (λ (z : Pathed). z.final_j) e)
        (path_holed n cost (get_or free_rows r 0) s.x s.y s.v (ca_open n n_free_rows free_rows below cost r s inv.ok more))

    module _ {x' y' : List ℕ} (g : augmented (get_or free_rows r 0) x' y' ≡ augment_from n pred' (get_or free_rows r 0) n n f s.x s.y) where
      g-is : augmented (get_or free_rows r 0) x' y' ≡ augment_from n P.st.pred (get_or free_rows r 0) n n P.st.final_j s.x s.y
      g-is = rw (e-pred, e-found) at g

      pub ca_next : CaOk n n_free_rows free_rows (r + 1) (assigned x' y' v' (s.scans + c))
      unfolding p
      ca_next = rw (e-scans, ap (λ (z : Augmented). z.x) g-is, ap (λ (z : Augmented). z.y) g-is) (next n n_free_rows free_rows below cost r s inv.ok more v')

      ca_rest : ca_from n cost free_rows (n_free_rows - r) r s ≡ ca_from n cost free_rows (n_free_rows - (r + 1)) (r + 1) (assigned x' y' v' (s.scans + c))
      ca_rest = ca_step n n_free_rows free_rows cost r s more ∙ sym (ap (ca_to n n_free_rows free_rows cost r s) e)
          ∙ sym (ap (λ (z : Augmented). ca_from n cost free_rows (n_free_rows - (r + 1)) (r + 1) (assigned z.x z.y v' (s.scans + c))) g)

      pub ca_again : (d' : List Float) (cols' : List ℕ) → length v' ≡ length s.v → length pred' ≡ length pred → length d' ≡ length d → length cols' ≡ length cols
          → CaInv n n_free_rows free_rows cost R pred' d' cols' (r + 1) (assigned x' y' v' (s.scans + c))
      ca_again d' cols' lv lp ld lc = record {
        ok = ca_next;
        to = omega arith;
        len_v = lv ∙ inv.len_v;
        len_pred = lp ∙ inv.len_pred;
        len_d = ld ∙ inv.len_d;
        len_cols = lc ∙ inv.len_cols;
        rest = sym ca_rest ∙ inv.rest;
      }

pub ca_done : {n n_free_rows : ℕ} {free_rows : List ℕ} {cost : List Float} {R : Assigned} {pred : List ℕ} {d : List Float} {cols : List ℕ} {r : ℕ} {s : Assigned}
    → CaInv n n_free_rows free_rows cost R pred d cols r s → n_free_rows ≤ r → s ≡ R
unfolding ca_from
ca_done {n_free_rows = n_free_rows} {r = r} inv h = rw (fuel_zero n_free_rows r h) at inv.rest
