-- find_path_dense, of the definition alone: it finds a free column, after no more scans than there are columns with rows. Assumes nothing.
use mathlib.Core.Path.{◌≡◌, refl, sym, ap, ◌∙◌, subst}
use mathlib.Core.Bool.{Bool, true, false, cond}
use mathlib.Core.List.{List}
use Prim.Native.Nat.{ℕ, zero, suc, ◌+◌, ◌-◌, ◌<◌, ◌≤◌}
use native.Mathlib.Omega.{arith}
use native.Mathlib.Decide.{ℕ_discrete, dec_lt}
use borrow.Author.Tests.{lt-ltb, le-ltb, ltb-true, ltb-false, eq-eqb, eqb-true, eqb-false}
use lib.Dec.{ltb, eqb}
use lib.ListN.{length, get_or}
use lib.Ieee.{Float, nan, le, lt}
use Rattle.std.specs.Prelude.{Option, is_some}
use Rattle.laws.specs.Swap.{swapped}
use Rattle.laws.specs.Total.{total}
use Rattle.lapjv_definition.specs.Entry.{owner_of, is_free}
use Rattle.lapjv_definition.specs.Find.{Finding, finding, find_step, find_from, find_dense}
use Rattle.lapjv_definition.specs.Invariant.{SearchOk, FoundOk, taken}
use Rattle.lapjv_definition.specs.Path.{last_free, Search, search_at, search_step, search_from}
use Rattle.lapjv_definition.specs.Scan.{Scanning, scanning, Scans, scans_at, scan_all}
use Rattle.lapjv_definition.proofs.EntryLaws.{free_true, free_false, row_is, owner_free, found_none}
use Rattle.lapjv_definition.proofs.SearchLaws.{swap_ok, swap_low, ScanOk, row_ok, scan_lit, scanned_few}

-- ---- find_dense

pub record FindOk (n start : ℕ) (y : List ℕ) (lo k : ℕ) (pred : List ℕ) (s : Finding) : Type 0 where
  pub ok : SearchOk n start y lo lo s.cols pred
  pub low : s.hi ≤ k
  pub high : lo < s.hi

module _ (n start : ℕ) (y : List ℕ) (lo : ℕ) (pred : List ℕ) where
  swap_find : (cols : List ℕ) (k h : ℕ) → SearchOk n start y lo lo cols pred → lo ≤ h → h ≤ k → k < n → SearchOk n start y lo lo (swapped cols k h) pred
  swap_find cols k h o lh hk kn = swap_ok n start y lo lo cols pred o k h lh hk kn lo (omega arith) o.top
      (λ a ha. rw (swap_low n lo cols k h o.len_cols lh hk kn a ha) (o.held a ha))

  find_step_ok : (dj : Float) (k : ℕ) (s : Finding) → FindOk n start y lo k pred s → k < n → FindOk n start y lo (k + 1) pred (find_step lo dj k s.hi s.mind s.cols)
  find_step_ok dj k s o kn = go (le dj s.mind) (lt dj s.mind)
    where
      go : (p q : Bool) → FindOk n start y lo (k + 1) pred
          (cond p (cond q (finding (lo + 1) dj (swapped s.cols k lo)) (finding (s.hi + 1) s.mind (swapped s.cols k s.hi))) (finding s.hi s.mind s.cols))
      go true true = record { ok = swap_find s.cols k lo o.ok (omega arith) (omega (arith, o.low, o.high)) kn; low = omega (arith, o.low, o.high); high = omega arith }
      go true false = record { ok = swap_find s.cols k s.hi o.ok (omega (arith, o.high)) o.low kn; low = omega (arith, o.low); high = omega (arith, o.high) }
      go false q = record { ok = o.ok; low = omega (arith, o.low); high = o.high }

  find-from-ok : (d : List Float) (m k : ℕ) (s : Finding) → k + m ≡ n → FindOk n start y lo k pred s → FindOk n start y lo n pred (find_from d lo m k s)
  unfolding find_from
  find-from-ok d zero k s e o = record { ok = o.ok; low = omega (arith, o.low); high = o.high }
  find-from-ok d (suc m) k s e o =
      find-from-ok d m (k + 1) (find_step lo (get_or d (get_or s.cols k 0) nan) k s.hi s.mind s.cols) (omega arith) (find_step_ok (get_or d (get_or s.cols k 0) nan) k s o (omega arith))

  pub find-ok : (d : List Float) (cols : List ℕ) → SearchOk n start y lo lo cols pred → lo < n → FindOk n start y lo n pred (find_dense n lo d cols)
  find-ok d cols o ln =
      find-from-ok d (n - (lo + 1)) (lo + 1) (finding (lo + 1) (get_or d (get_or cols lo 0) nan) cols) (omega arith) (record { ok = o; low = omega arith; high = omega arith })

-- ---- the last free column

module _ (n start : ℕ) (y : List ℕ) (lo : ℕ) (cols pred : List ℕ) (o : SearchOk n start y lo lo cols pred) where
  pub last-hit : (m k f : ℕ) → lo ≤ k → k + m ≤ n → (f < n → FoundOk n start y lo cols pred f) → last_free n cols y m k f < n → FoundOk n start y lo cols pred (last_free n cols y m k f)
  unfolding last_free
  last-hit zero k f lk km hf h = hf h
  last-hit (suc m) k f lk km hf h =
      last-hit m (k + 1) (cond (is_free (owner_of n (get_or y (get_or cols k 0) 0))) (get_or cols k 0) f) (omega arith) (omega arith) (go (is_free (owner_of n (get_or y (get_or cols k 0) 0))) refl) h
    where
      go : (b : Bool) → is_free (owner_of n (get_or y (get_or cols k 0) 0)) ≡ b → cond b (get_or cols k 0) f < n → FoundOk n start y lo cols pred (cond b (get_or cols k 0) f)
      go true e h = record { col = h; vacant = free_true n (get_or y (get_or cols k 0) 0) e; from = o.ahead k lk (omega arith) }
      go false e h = hf h

  pub last_none : (m k f : ℕ) → k + m ≤ n → n ≤ last_free n cols y m k f → ((a : ℕ) → k ≤ a → a < k + m → get_or y (get_or cols a 0) 0 < n) × (n ≤ f)
  unfolding last_free
  last_none zero k f km h = ((λ a p q. absurd (omega arith)), h)
  last_none (suc m) k f km h = go (is_free (owner_of n (get_or y (get_or cols k 0) 0))) refl (last_none m (k + 1) (cond (is_free (owner_of n (get_or y (get_or cols k 0) 0))) (get_or cols k 0) f) (omega arith) h)
    where
      go : (b : Bool) → is_free (owner_of n (get_or y (get_or cols k 0) 0)) ≡ b
          → ((a : ℕ) → k + 1 ≤ a → a < k + 1 + m → get_or y (get_or cols a 0) 0 < n) × (n ≤ cond b (get_or cols k 0) f)
          → ((a : ℕ) → k ≤ a → a < k + suc m → get_or y (get_or cols a 0) 0 < n) × (n ≤ f)
      go true e ih = absurd (omega (arith, ih.1, o.below k (omega arith)))
      go false e ih = ((λ a p q. at a p q (ℕ_discrete a k)), ih.1)
        where
          at : (a : ℕ) → k ≤ a → a < k + suc m → Dec (a ≡ k) → get_or y (get_or cols a 0) 0 < n
          at a p q (yes r) = rw r (free_false n (get_or y (get_or cols k 0) 0) e)
          at a p q (no r) = ih.0 a (omega arith) (omega arith)

-- ---- scan_dense's outer loop

pub record AllOk (n start : ℕ) (y : List ℕ) (lo h c : ℕ) (a : Scans) : Type 0 where
  pub ok : SearchOk n start y a.lo a.st.hi a.st.cols a.st.pred
  pub more : lo ≤ a.lo
  pub step : lo < h → lo < a.lo
  pub count : a.scans + lo ≡ a.lo + c
  pub hit : a.st.final_j < n → FoundOk n start y a.lo a.st.cols a.st.pred a.st.final_j
  pub none : n ≤ a.st.final_j → a.lo ≡ a.st.hi

all_more : (n start : ℕ) (y : List ℕ) (lo h h' c : ℕ) (a : Scans) → AllOk n start y (lo + 1) h' (c + 1) a → AllOk n start y lo h c a
all_more n start y lo h h' c a o = record { ok = o.ok; more = omega (arith, o.more); step = λ q. omega (arith, o.more); count = omega (arith, o.count); hit = o.hit; none = o.none }

pub all-ends : (n start : ℕ) (y : List ℕ) (cost v : List Float) (m lo c : ℕ) (s : Scanning) → n ≤ lo + m → s.final_j ≡ n
    → SearchOk n start y lo s.hi s.cols s.pred → AllOk n start y lo s.hi c (scan_all n cost y v m lo c s)
unfolding scan_all
all-ends n start y cost v zero lo c s fuel f o = record { ok = o; more = omega arith; step = λ q. omega (arith, o.top); count = omega arith; hit = λ h. absurd (omega arith); none = λ h. omega (arith, o.order, o.top) }
all-ends n start y cost v (suc m) lo c s fuel f o = go (eqb lo s.hi) refl (ltb t.final_j n) refl (λ q h. all-ends n start y cost v m (lo + 1) (c + 1) t (omega arith) ((ok q).none h) (ok q).ok)
  where
    t : Scanning
    t = scan_lit n cost y v s.d s.cols s.pred s.hi lo

    ok : lo < s.hi → ScanOk n start y (lo + 1) (get_or y (get_or s.cols lo 0) 0) n t
    ok q = rw (row_is n (get_or y (get_or s.cols lo 0) 0) (o.held lo q)) (row_ok n start y lo s.hi cost v _ _ s.d s.cols s.pred o q)

    go : (b : Bool) → eqb lo s.hi ≡ b → (b' : Bool) → ltb t.final_j n ≡ b'
        → (lo < s.hi → n ≤ t.final_j → AllOk n start y (lo + 1) t.hi (c + 1) (scan_all n cost y v m (lo + 1) (c + 1) t))
        → AllOk n start y lo s.hi c (cond b (scans_at s lo c) (cond b' (scans_at t (lo + 1) (c + 1)) (scan_all n cost y v m (lo + 1) (c + 1) t)))
    go true e b' e' ih = record { ok = o; more = omega arith; step = λ q. omega (arith, eqb-true lo s.hi e); count = omega arith; hit = λ h. absurd (omega arith); none = λ h. eqb-true lo s.hi e }
    go false e true e' ih =
        let q : lo < s.hi = lt_of (eqb-false lo s.hi e) in
        record { ok = (ok q).ok; more = omega arith; step = λ w. omega arith; count = omega arith; hit = (ok q).hit; none = λ h. absurd (omega (arith, ltb-true t.final_j n e')) }
      where
        lt_of : (lo ≡ s.hi → ⊥) → lo < s.hi
        lt_of ne = omega (arith, o.order)
    go false e false e' ih = all_more n start y lo s.hi t.hi c _ (ih (omega (arith, o.order, eqb-false lo s.hi e)) (ltb-false t.final_j n e'))

-- ---- the whole search

module _ (n start : ℕ) (y : List ℕ) (lo : ℕ) (cols pred : List ℕ) (o : SearchOk n start y lo lo cols pred) where
  pub last-same : (m k f : ℕ) → k + m ≤ n → n ≤ last_free n cols y m k f → last_free n cols y m k f ≡ f
  unfolding last_free
  last-same zero k f km h = refl
  last-same (suc m) k f km h = go (is_free (owner_of n (get_or y (get_or cols k 0) 0))) (last-same m (k + 1) (cond (is_free (owner_of n (get_or y (get_or cols k 0) 0))) (get_or cols k 0) f) (omega arith) h)
    where
      R : ℕ
      R = last_free n cols y m (k + 1) (cond (is_free (owner_of n (get_or y (get_or cols k 0) 0))) (get_or cols k 0) f)

      go : (b : Bool) → R ≡ cond b (get_or cols k 0) f → R ≡ f
      go true ih = absurd (omega (arith, h, o.below k (omega arith)))
      go false ih = ih

-- with the columns from lo to hi found to have rows
hold : (n start : ℕ) (y : List ℕ) (lo hi : ℕ) (cols pred : List ℕ) → SearchOk n start y lo lo cols pred → lo ≤ hi → hi ≤ n
    → ((a : ℕ) → lo ≤ a → a < hi → get_or y (get_or cols a 0) 0 < n) → SearchOk n start y lo hi cols pred
hold n start y lo hi cols pred o lh hn h = record {
  starts = o.starts;
  len_cols = o.len_cols;
  len_pred = o.len_pred;
  order = lh;
  top = hn;
  below = o.below;
  once = o.once;
  held = λ k hk. go k hk (dec_lt k lo);
  preds = o.preds;
  ahead = o.ahead;
}
  where
    go : (k : ℕ) → k < hi → Dec (k < lo) → get_or y (get_or cols k 0) 0 < n
    go k hk (yes q) = o.held k q
    go k hk (no q) = h k (omega arith) hk

pub few : (n start : ℕ) (y : List ℕ) (lo hi : ℕ) (cols pred : List ℕ) → SearchOk n start y lo hi cols pred → length y ≡ n → hi ≤ total (taken n) y n 0
few n start y lo hi cols pred o ly = scanned_few n cols hi y ly (λ k h. o.below k (omega (arith, o.top))) (λ k l h h'. o.once k l (omega (arith, o.top)) (omega (arith, o.top))) o.held

-- the loop's variables where it is tested: nothing found yet
pub record Level (n start : ℕ) (y : List ℕ) (s : Search) : Type 0 where
  pub ok : SearchOk n start y s.lo s.lo s.st.cols s.st.pred
  pub same : s.lo ≡ s.st.hi
  pub count : s.scans ≡ s.lo

pub record SearchDone (n start : ℕ) (y : List ℕ) (s : Search) : Type 0 where
  pub at : ℕ
  pub top : ℕ
  pub ok : SearchOk n start y at top s.st.cols s.st.pred
  pub found : FoundOk n start y at s.st.cols s.st.pred s.st.final_j
  pub scans : s.scans ≤ total (taken n) y n 0
  pub low : s.lo < n
  pub few-ready : s.n_ready ≤ n

-- after a pass of the loop that began at lo
pub record Passed (n start : ℕ) (y : List ℕ) (lo : ℕ) (t : Search) : Type 0 where
  pub hit : t.st.final_j < n → SearchDone n start y t
  pub none : n ≤ t.st.final_j → Level n start y t
  pub more : n ≤ t.st.final_j → lo < t.lo

module _ {n start : ℕ} {y : List ℕ} {lo : ℕ} {cols pred : List ℕ} (o : SearchOk n start y lo lo cols pred) (ly : length y ≡ n) (tn : total (taken n) y n 0 < n) where
  lo-few : lo ≤ total (taken n) y n 0
  lo-few = few n start y lo lo cols pred o ly

  pub lo-in : lo < n
  lo-in = omega (arith, lo-few)

  -- what find_dense leaves
  module _ (d : List Float) {h : ℕ} {c : List ℕ} (e : (h ≡ (find_dense n lo d cols).hi) × (c ≡ (find_dense n lo d cols).cols)) where
    pub find-done : SearchOk n start y lo lo c pred
    find-done = rw e.1 (find-ok n start y lo pred d cols o lo-in).ok

    pub find-high : lo < h
    find-high = rw e.0 (find-ok n start y lo pred d cols o lo-in).high

    pub find-top : h ≤ n
    find-top = rw e.0 (find-ok n start y lo pred d cols o lo-in).low

    within : lo + (h - lo) ≤ n
    within = omega (arith, find-high, find-top)

    module _ {j : ℕ} (ej : j ≡ last_free n c y (h - lo) lo n) where
      pub find-hit : j < n → FoundOk n start y lo c pred j
      find-hit q = rw ej (last-hit n start y lo c pred find-done (h - lo) lo n (omega arith) within (λ z. absurd (omega arith)) (rw ej at q))

      pub find-same : n ≤ j → j ≡ n
      find-same q = ej ∙ last-same n start y lo c pred find-done (h - lo) lo n within (rw ej at q)

      pub find-held : n ≤ j → SearchOk n start y lo h c pred
      find-held q = hold n start y lo h c pred find-done (omega (arith, find-high)) find-top
          (λ k p r. (last_none n start y lo c pred find-done (h - lo) lo n within (rw ej at q)).0 k p (omega (arith, find-high)))

      -- what scan_dense leaves
      pub scan-done : (cost v : List Float) → n ≤ j → AllOk n start y lo h 0 (scan_all n cost y v (n - lo) lo 0 (scanning d c pred h j))
      scan-done cost v q = all-ends n start y cost v (n - lo) lo 0 (scanning d c pred h j) (omega arith) (find-same q) (find-held q)

      pub scan-few : (cost v : List Float) → n ≤ j → {t : Scanning} {l k : ℕ} → scans_at t l k ≡ scan_all n cost y v (n - lo) lo 0 (scanning d c pred h n) → k ≤ n
      scan-few cost v q {t} {l} {k} es =
          let a : AllOk n start y lo h 0 (scans_at t l k) =
          subst (λ (z : Scans). AllOk n start y lo h 0 z) (sym es) (all-ends n start y cost v (n - lo) lo 0 (scanning d c pred h n) (omega arith) refl (find-held q)) in
          omega (arith, a.count, a.ok.order, a.ok.top)

-- a pass of the loop
pub search_pass : (n start : ℕ) (y : List ℕ) (cost v : List Float) → length y ≡ n → total (taken n) y n 0 < n → (s : Search) → Level n start y s
    → Passed n start y s.lo (search_step n cost y v s)
unfolding search_step
search_pass n start y cost v ly tn s l = rw (eq-eqb s.lo s.st.hi l.same) (go (ltb j n) refl (ltb a.st.final_j n) refl)
  where
    f : Finding
    f = find_dense n s.lo s.st.d s.st.cols

    j : ℕ
    j = last_free n f.cols y (f.hi - s.lo) s.lo n

    t : Scanning
    t = scanning s.st.d f.cols s.st.pred f.hi j

    a : Scans
    a = scan_all n cost y v (n - s.lo) s.lo 0 t

    ao : n ≤ j → AllOk n start y s.lo f.hi 0 a
    ao h = scan-done l.ok ly tn s.st.d {h = f.hi} {c = f.cols} (refl, refl) {j = j} refl cost v h

    low : s.lo ≤ total (taken n) y n 0
    low = lo-few l.ok ly tn

    level : n ≤ j → n ≤ a.st.final_j → SearchOk n start y a.lo a.lo a.st.cols a.st.pred
    level h h' = subst (λ (q : ℕ). SearchOk n start y a.lo q a.st.cols a.st.pred) (sym ((ao h).none h')) (ao h).ok

    go : (b : Bool) → ltb j n ≡ b → (b' : Bool) → ltb a.st.final_j n ≡ b'
        → Passed n start y s.lo (cond b (search_at t s.lo s.lo s.scans)
        (cond b' (search_at (scanning a.st.d a.st.cols a.st.pred f.hi a.st.final_j) s.lo s.lo (s.scans + a.scans)) (search_at a.st a.lo s.lo (s.scans + a.scans))))
    go true e b' e' = record {
      hit = λ q. record {
        at = s.lo;
        top = s.lo;
        ok = find-done l.ok ly tn s.st.d {h = f.hi} {c = f.cols} (refl, refl);
        found = find-hit l.ok ly tn s.st.d {h = f.hi} {c = f.cols} (refl, refl) {j = j} refl q;
        scans = omega (arith, low, l.count);
        low = omega (arith, low);
        few-ready = omega (arith, low);
      };
      none = λ q. absurd (omega (arith, ltb-true j n e));
      more = λ q. absurd (omega (arith, ltb-true j n e));
    }
    go false e true e' =
        let h : n ≤ j = ltb-false j n e in
        record {
          hit = λ q. record {
            at = a.lo;
            top = a.st.hi;
            ok = (ao h).ok;
            found = (ao h).hit q;
            scans = omega (arith, few n start y a.lo a.st.hi a.st.cols a.st.pred (ao h).ok ly, (ao h).count, (ao h).ok.order, l.count);
            low = omega (arith, low);
            few-ready = omega (arith, low);
          };
          none = λ q. absurd (omega (arith, ltb-true a.st.final_j n e'));
          more = λ q. absurd (omega (arith, ltb-true a.st.final_j n e'));
        }
    go false e false e' =
        let h : n ≤ j = ltb-false j n e in
        let h' : n ≤ a.st.final_j = ltb-false a.st.final_j n e' in
        record {
          hit = λ q. absurd (omega arith);
          none = λ q. record { ok = level h h'; same = (ao h).none h'; count = omega (arith, (ao h).count, l.count) };
          more = λ q. (ao h).step (find-high l.ok ly tn s.st.d {h = f.hi} {c = f.cols} (refl, refl));
        }

-- each pass that begins is at such a place
pub search-level : (n start : ℕ) (y : List ℕ) (cost v : List Float) → length y ≡ n → total (taken n) y n 0 < n → (m : ℕ) (s : Search)
    → (n ≤ s.st.final_j → Level n start y s) → n ≤ (search_from n cost y v m s).st.final_j → Level n start y (search_from n cost y v m s)
unfolding search_from
search-level n start y cost v ly tn zero s none = none
search-level n start y cost v ly tn (suc m) s none =
    go (ltb s.st.final_j n) refl (λ q. search-level n start y cost v ly tn m (search_step n cost y v s) (search_pass n start y cost v ly tn s (none q)).none)
  where
    R : Search
    R = search_from n cost y v m (search_step n cost y v s)

    go : (b : Bool) → ltb s.st.final_j n ≡ b → (n ≤ s.st.final_j → n ≤ R.st.final_j → Level n start y R) → n ≤ (cond b s R).st.final_j → Level n start y (cond b s R)
    go true e ih h = none h
    go false e ih h = ih (ltb-false s.st.final_j n e) h

-- THE SEARCH ENDS: a column is free, so it finds one, and it scans no more columns than have rows
pub search-ends : (n start : ℕ) (y : List ℕ) (cost v : List Float) → length y ≡ n → total (taken n) y n 0 < n → (m : ℕ) (s : Search)
    → (s.st.final_j < n → SearchDone n start y s) → (n ≤ s.st.final_j → Level n start y s) → (n ≤ s.st.final_j → n ≤ s.lo + m)
    → SearchDone n start y (search_from n cost y v m s)
unfolding search_from
search-ends n start y cost v ly tn zero s hit none fuel = go (dec_lt s.st.final_j n)
  where
    go : Dec (s.st.final_j < n) → SearchDone n start y s
    go (yes q) = hit q
    go (no q) = absurd (omega (arith, fuel (omega arith), few n start y s.lo s.lo s.st.cols s.st.pred (none (omega arith)).ok ly))
search-ends n start y cost v ly tn (suc m) s hit none fuel =
    go (ltb s.st.final_j n) refl (λ q. search-ends n start y cost v ly tn m (search_step n cost y v s) (pass q).hit (pass q).none (λ z. omega (arith, fuel q, (pass q).more z)))
  where
    pass : n ≤ s.st.final_j → Passed n start y s.lo (search_step n cost y v s)
    pass q = search_pass n start y cost v ly tn s (none q)

    go : (b : Bool) → ltb s.st.final_j n ≡ b → (n ≤ s.st.final_j → SearchDone n start y (search_from n cost y v m (search_step n cost y v s)))
        → SearchDone n start y (cond b s (search_from n cost y v m (search_step n cost y v s)))
    go true e ih = hit (ltb-true s.st.final_j n e)
    go false e ih = ih (ltb-false s.st.final_j n e)

-- ---- the same, a pass at a time, for the loop of the code

pub record SearchInv (n : ℕ) (cost : List Float) (y : List ℕ) (v : List Float) (R s : Search) : Type 0 where
  pub start : ℕ
  pub fuel : ℕ
  pub len_d : length s.st.d ≡ n
  pub len_cols : length s.st.cols ≡ n
  pub len_pred : length s.st.pred ≡ n
  pub none : n ≤ s.st.final_j → Level n start y s
  pub enough : n ≤ s.st.final_j → n ≤ s.lo + fuel
  pub rest : search_from n cost y v fuel s ≡ R

-- what is left of a search that has found a column, or has not yet
pub search_left : ℕ → Option ℕ → ℕ → ℕ
search_left n found lo = cond (is_some found) 0 (suc (n - lo))

search-next : (n : ℕ) (cost : List Float) (y : List ℕ) (v : List Float) (m : ℕ) (s : Search) → n ≤ s.st.final_j → search_from n cost y v (suc m) s ≡ search_from n cost y v m (search_step n cost y v s)
unfolding search_from
search-next n cost y v m s h = rw (le-ltb s.st.final_j n h)

module _ {n : ℕ} {cost : List Float} {y : List ℕ} {v : List Float} {R s : Search} (inv : SearchInv n cost y v R s) (ly : length y ≡ n) (tn : total (taken n) y n 0 < n) (h : n ≤ s.st.final_j) where
  pub inv_lo : s.lo < n
  inv_lo = omega (arith, few n inv.start y s.lo s.lo s.st.cols s.st.pred (inv.none h).ok ly)

  module _ {t : Search} (e : t ≡ search_step n cost y v s) where
    passed : Passed n inv.start y s.lo t
    passed = rw e (search_pass n inv.start y cost v ly tn s (inv.none h))

    pub search_again : length t.st.d ≡ length s.st.d → length t.st.cols ≡ length s.st.cols → length t.st.pred ≡ length s.st.pred → SearchInv n cost y v R t
    search_again ld lc lp = record {
      start = inv.start;
      fuel = inv.fuel - 1;
      len_d = ld ∙ inv.len_d;
      len_cols = lc ∙ inv.len_cols;
      len_pred = lp ∙ inv.len_pred;
      none = passed.none;
      enough = λ q. omega (arith, inv.enough h, passed.more q);
      rest = rw e (sym (search-next n cost y v (inv.fuel - 1) s h) ∙ ap (λ (m : ℕ). search_from n cost y v m s) one ∙ inv.rest);
    }
      where
        one : suc (inv.fuel - 1) ≡ inv.fuel
        one = omega (arith, inv.enough h, inv_lo)

    pub search-less : {o o' : Option ℕ} → o ≡ owner_of n s.st.final_j → o' ≡ owner_of n t.st.final_j → search_left n o' t.lo < search_left n o s.lo
    unfolding search_left
    search-less {o} {o'} eo eo' = rw (eo ∙ owner_free n s.st.final_j h) (go (is_some o') refl)
      where
        go : (b : Bool) → is_some o' ≡ b → cond b 0 (suc (n - t.lo)) < suc (n - s.lo)
        go true q = omega arith
        go false q = omega (arith, passed.more (found_none eo' q), inv_lo)

pub search-done : {n : ℕ} {cost : List Float} {y : List ℕ} {v : List Float} {R s : Search} → SearchInv n cost y v R s → s.st.final_j < n → s ≡ R
unfolding search_from
search-done {n} {cost} {y} {v} {R} {s} inv h = sym (stop inv.fuel) ∙ inv.rest
  where
    stop : (m : ℕ) → search_from n cost y v m s ≡ s
    stop zero = refl
    stop (suc m) = rw (lt-ltb s.st.final_j n h)

-- ---- one pass of the loop in the code

module _ (n : ℕ) (cost : List Float) (y : List ℕ) (v : List Float) (s : Search) (e : s.lo ≡ s.st.hi)
    {h : ℕ} {c : List ℕ} (eh : h ≡ (find_dense n s.lo s.st.d s.st.cols).hi) (ec : c ≡ (find_dense n s.lo s.st.d s.st.cols).cols)
    {j : ℕ} (ej : j ≡ last_free n c y (h - s.lo) s.lo n) where
  pub pass_found : j < n → search_at (scanning s.st.d c s.st.pred h j) s.lo s.lo s.scans ≡ search_step n cost y v s
  unfolding search_step
  pass_found q = rw (eq-eqb s.lo s.st.hi e, ← eh, ← ec, ← ej, lt-ltb j n q)

  module _ (none : n ≤ j) (jn : j ≡ n) {d' : List Float} {c' p' : List ℕ} {h' f l k : ℕ}
      (es : scans_at (scanning d' c' p' h' f) l k ≡ scan_all n cost y v (n - s.lo) s.lo 0 (scanning s.st.d c s.st.pred h n)) where
    pass_scan : search_step n cost y v s
        ≡ cond (ltb f n) (search_at (scanning d' c' p' h f) s.lo s.lo (s.scans + k)) (search_at (scanning d' c' p' h' f) l s.lo (s.scans + k))
    unfolding search_step
    pass_scan = rw (eq-eqb s.lo s.st.hi e, ← eh, ← ec, ← ej, le-ltb j n none, jn, ← es)

    pub pass_hit : f < n → search_at (scanning d' c' p' h f) s.lo s.lo (s.scans + k) ≡ search_step n cost y v s
    pass_hit q = sym (rw (lt-ltb f n q) at pass_scan)

    pub pass_none : n ≤ f → search_at (scanning d' c' p' h' f) l s.lo (s.scans + k) ≡ search_step n cost y v s
    pass_none q = sym (rw (le-ltb f n q) at pass_scan)
