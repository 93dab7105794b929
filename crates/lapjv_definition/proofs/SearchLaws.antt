-- The search keeps what `SearchOk` says, of the definition alone. Assumes nothing.
use mathlib.Core.Path.{◌≡◌, refl, sym, ap, ◌∙◌}
use mathlib.Core.Bool.{Bool, true, false, cond}
use mathlib.Core.List.{List}
use Prim.Native.Nat.{ℕ, zero, suc, ◌+◌, ◌-◌, ◌<◌, ◌≤◌}
use native.Mathlib.Omega.{arith}
use native.Mathlib.Decide.{ℕ_discrete, dec_lt}
use borrow.Author.Tests.{lt-ltb, le-ltb, eq-eqb, ne_eqb}
use lib.Dec.{ltb}
use lib.ListN.{length, get_or, set, length-set}
use lib.Seq.{get_or-set_same, get_or-set_other}
use lib.Ieee.{Float, nan, lt, eq}
use Rattle.laws.specs.Fuel.{fuel_suc}
use Rattle.laws.specs.Swap.{swapped, swapped_len, swapped_at, Comes, same, at-k, at-h, comes_once, comes_in, comes_low, comes_high}
use Rattle.laws.specs.Total.{total, total-in}
use Rattle.lapjv_definition.specs.Cost.{at, ◌⊖◌}
use Rattle.lapjv_definition.specs.Entry.{owner_of, is_free, row_of}
use Rattle.lapjv_definition.specs.Invariant.{From, at-start, via, SearchOk, Searching, FoundOk, taken}
use Rattle.lapjv_definition.specs.Scan.{Scanning, scanning, scan_at, scan_step, scan_from, scan_row, Scans, scans_at, scan_all}
use Rattle.lapjv_definition.proofs.EntryLaws.{free_true, free_false, row_is}

-- rows read at places before lo, where lists agree
from-cols : (y cols cols' : List ℕ) (start lo b i : ℕ) → ((k : ℕ) → k < lo → get_or cols' k 0 ≡ get_or cols k 0) → b ≤ lo → From y cols start b i → From y cols' start b i
from-cols y cols cols' start lo b i h le (at-start e) = at-start e
from-cols y cols cols' start lo b i h le (via k hk e) = via k hk (rw (h k (omega arith)) e)

pub from_more : (y cols : List ℕ) (start b b' i : ℕ) → b ≤ b' → From y cols start b i → From y cols start b' i
from_more y cols start b b' i h (at-start e) = at-start e
from_more y cols start b b' i h (via k hk e) = via k (omega arith) e

pub swap_low : (n lo : ℕ) (cols : List ℕ) (k h : ℕ) → length cols ≡ n → lo ≤ h → h ≤ k → k < n → (a : ℕ) → a < lo → get_or (swapped cols k h) a 0 ≡ get_or cols a 0
swap_low n lo cols k h len lh hk kn a ha =
    let (b, q, e) = swapped_at cols k h a (omega arith) (omega arith) in
    e ∙ ap (λ (z : ℕ). get_or cols z 0) (comes_low lo k h a b q (omega arith) lh ha)

module _ (n start : ℕ) (y : List ℕ) (lo hi : ℕ) (cols pred : List ℕ) (o : SearchOk n start y lo hi cols pred) where
  -- an exchange of two places at or after hi, of which the first ones up to top still have rows
  pub swap_ok : (k h : ℕ) → lo ≤ h → h ≤ k → k < n → (top : ℕ) → lo ≤ top → top ≤ n
      → ((a : ℕ) → a < top → get_or y (get_or (swapped cols k h) a 0) 0 < n)
      → SearchOk n start y lo top (swapped cols k h) pred
  swap_ok k h lh hk kn top lt tn held' = record {
    starts = o.starts;
    len_cols = swapped_len cols k h ∙ o.len_cols;
    len_pred = o.len_pred;
    order = lt;
    top = tn;
    below = λ a ha. let (b, q, e) = at a in rw e (o.below b (comes_in n k h a b q kn (omega arith) ha));
    once = λ a a' ha ha' e.
        let (b, q, f) = at a in
        let (b', q', f') = at a' in
        comes_once k h a a' b b' q q' (o.once b b' (comes_in n k h a b q kn (omega arith) ha) (comes_in n k h a' b' q' kn (omega arith) ha') (sym f ∙ e ∙ f'));
    held = held';
    preds = λ a ha. rw (lows a ha) (from-cols y cols (swapped cols k h) start lo a _ lows (omega arith) (o.preds a ha));
    ahead = λ a la an.
        let (b, q, f) = at a in
        rw f (from-cols y cols (swapped cols k h) start lo lo _ lows (omega arith) (o.ahead b (comes_high lo k h a b q (omega arith) lh la) (comes_in n k h a b q kn (omega arith) an)));
  }
    where
      at : (a : ℕ) → (b : ℕ) × Comes k h a b × (get_or (swapped cols k h) a 0 ≡ get_or cols b 0)
      at a = swapped_at cols k h a (omega (arith, o.len_cols)) (omega (arith, o.len_cols))

      lows : (a : ℕ) → a < lo → get_or (swapped cols k h) a 0 ≡ get_or cols a 0
      lows a ha = let (b, q, e) = at a in e ∙ ap (λ (z : ℕ). get_or cols z 0) (comes_low lo k h a b q (omega arith) lh ha)

  -- a new pred of a column at or after lo
  pub pred-ok : (k i : ℕ) → lo ≤ k → k < n → From y cols start lo i → SearchOk n start y lo hi cols (set pred (get_or cols k 0) i)
  pred-ok k i lk kn f = record {
    starts = o.starts;
    len_cols = o.len_cols;
    len_pred = length-set pred (get_or cols k 0) i ∙ o.len_pred;
    order = o.order;
    top = o.top;
    below = o.below;
    once = o.once;
    held = o.held;
    preds = λ a ha. rw (get_or-set_other pred (get_or cols k 0) (get_or cols a 0) i 0 (λ e. omega (arith, o.once a k (omega (arith, o.order, o.top)) kn e))) (o.preds a ha);
    ahead = λ a la an. go a la an (ℕ_discrete a k);
  }
    where
      go : (a : ℕ) → lo ≤ a → a < n → Dec (a ≡ k) → From y cols start lo (get_or (set pred (get_or cols k 0) i) (get_or cols a 0) 0)
      go a la an (yes e) = rw (e, get_or-set_same pred (get_or cols k 0) i 0 (omega (arith, o.below k kn, o.len_pred))) f
      go a la an (no e) = rw (get_or-set_other pred (get_or cols k 0) (get_or cols a 0) i 0 (λ q. e (o.once a k an kn q))) (o.ahead a la an)

-- ---- a pass of the inner loop of scan_dense

pub record ScanOk (n start : ℕ) (y : List ℕ) (lo i k : ℕ) (s : Scanning) : Type 0 where
  pub ok : SearchOk n start y lo s.hi s.cols s.pred
  pub low : s.hi ≤ k
  pub row : From y s.cols start lo i
  pub none : n ≤ s.final_j → s.final_j ≡ n
  pub hit : s.final_j < n → FoundOk n start y lo s.cols s.pred s.final_j

module _ (n start : ℕ) (y : List ℕ) (lo : ℕ) where
  scan_at-ok : (hi : ℕ) (cols pred : List ℕ) (o : SearchOk n start y lo hi cols pred) (i k : ℕ) (cred : Float) (d : List Float) → From y cols start lo i → hi ≤ k → k < n
      → (p q r : Bool) → is_free (owner_of n (get_or y (get_or cols k 0) 0)) ≡ r
      → ScanOk n start y lo i (k + 1) (scan_at n i k (get_or cols k 0) cred p q r d cols pred hi)
  scan_at-ok hi cols pred o i k cred d f hk kn true true true e = record {
    ok = pred-ok n start y lo hi cols pred o k i (omega (arith, o.order)) kn f;
    low = omega arith;
    row = f;
    none = λ h. absurd (omega (arith, o.below k kn));
    hit = λ h. record {
      col = h;
      vacant = free_true n (get_or y (get_or cols k 0) 0) e;
      from = rw (get_or-set_same pred (get_or cols k 0) i 0 (omega (arith, o.below k kn, o.len_pred))) f;
    };
  }
  scan_at-ok hi cols pred o i k cred d f hk kn true true false e = record {
    ok = swap_ok n start y lo hi cols (set pred (get_or cols k 0) i) (pred-ok n start y lo hi cols pred o k i (omega (arith, o.order)) kn f) k hi o.order hk kn (hi + 1)
        (omega (arith, o.order)) (omega arith) held';
    low = omega arith;
    row = from-cols y cols (swapped cols k hi) start lo lo i (swap_low n lo cols k hi o.len_cols o.order hk kn) (omega arith) f;
    none = λ h. refl;
    hit = λ h. absurd (omega arith);
  }
    where
      held' : (a : ℕ) → a < hi + 1 → get_or y (get_or (swapped cols k hi) a 0) 0 < n
      held' a ha = go (swapped_at cols k hi a (omega (arith, o.len_cols)) (omega (arith, o.len_cols)))
        where
          go : (b : ℕ) × Comes k hi a b × (get_or (swapped cols k hi) a 0 ≡ get_or cols b 0) → get_or y (get_or (swapped cols k hi) a 0) 0 < n
          go (b, q, g) = rw g (low b q)
            where
              low : (b : ℕ) → Comes k hi a b → get_or y (get_or cols b 0) 0 < n
              low b (same u w) = o.held a (omega (arith, w))
              low b (at-k u) = let z : hi ≡ k = omega arith in rw z (free_false n (get_or y (get_or cols k 0) 0) e)
              low b (at-h u) = free_false n (get_or y (get_or cols k 0) 0) e
  scan_at-ok hi cols pred o i k cred d f hk kn true false r e = record {
    ok = pred-ok n start y lo hi cols pred o k i (omega (arith, o.order)) kn f;
    low = omega arith;
    row = f;
    none = λ h. refl;
    hit = λ h. absurd (omega arith);
  }
  scan_at-ok hi cols pred o i k cred d f hk kn false q r e = record { ok = o; low = omega arith; row = f; none = λ h. refl; hit = λ h. absurd (omega arith) }

-- ---- the inner loop of scan_dense

scan_ok_more : (n start : ℕ) (y : List ℕ) (lo i k k' : ℕ) (s : Scanning) → k ≤ k' → ScanOk n start y lo i k s → ScanOk n start y lo i k' s
scan_ok_more n start y lo i k k' s h o = record { ok = o.ok; low = omega (arith, o.low); row = o.row; none = o.none; hit = o.hit }

pub scan_from-ok : (n start : ℕ) (y : List ℕ) (lo i : ℕ) (cost v : List Float) (h mind : Float) (m k : ℕ) (s : Scanning) → k + m ≡ n → ScanOk n start y lo i k s
    → ScanOk n start y lo i n (scan_from n cost y v i h mind m k s)
unfolding scan_from
scan_from-ok n start y lo i cost v h mind zero k s e o = scan_ok_more n start y lo i k n s (omega arith) o
scan_from-ok n start y lo i cost v h mind (suc m) k s e o =
    go (ltb (scan_step n cost y v i h mind k s.d s.cols s.pred s.hi).final_j n)
    step (scan_from-ok n start y lo i cost v h mind m (k + 1) (scan_step n cost y v i h mind k s.d s.cols s.pred s.hi) (omega arith) step)
  where
    step : ScanOk n start y lo i (k + 1) (scan_step n cost y v i h mind k s.d s.cols s.pred s.hi)
    step =
        let j = get_or s.cols k 0 in
        let cred = at cost n i j ⊖ get_or v j nan ⊖ h in
        scan_at-ok n start y lo s.hi s.cols s.pred o.ok i k cred s.d o.row o.low (omega arith) (lt cred (get_or s.d j nan)) (eq cred mind) (is_free (owner_of n (get_or y j 0))) refl

    go : (b : Bool) → {t r : Scanning} → ScanOk n start y lo i (k + 1) t → ScanOk n start y lo i n r → ScanOk n start y lo i n (cond b t r)
    go true {t} p q = scan_ok_more n start y lo i (k + 1) n t (omega arith) p
    go false p q = q

-- ---- the scanned columns are no more than the columns that have rows

pub taken-row : (n z : ℕ) → z < n → taken n z ≡ 1
unfolding taken
taken-row n z h = rw (lt-ltb z n h)

pub taken_none : (n z : ℕ) → n ≤ z → taken n z ≡ 0
unfolding taken
taken_none n z h = rw (le-ltb z n h)

taken_free : (n : ℕ) → taken n n ≡ 0
unfolding taken
taken_free n = rw (le-ltb n n (omega arith))

taken_le : (n z : ℕ) → taken n z ≤ 1
taken_le n z = go (dec_lt z n)
  where
    go : Dec (z < n) → taken n z ≤ 1
    go (yes h) = omega (arith, taken-row n z h)
    go (no h) = omega (arith, taken_none n z (omega arith))

pub total_le : (n : ℕ) (y : List ℕ) (m a : ℕ) → total (taken n) y m a ≤ m
unfolding total
total_le n y zero a = omega arith
total_le n y (suc m) a = omega (arith, taken_le n (get_or y a 0), total_le n y m (a + 1))

-- where a column is free, not all are counted
pub total-less : (n : ℕ) (y : List ℕ) (m a k : ℕ) → a ≤ k → k < a + m → n ≤ get_or y k 0 → total (taken n) y m a < m
unfolding total
total-less n y zero a k p q h = absurd (omega arith)
total-less n y (suc m) a k p q h = go (ℕ_discrete k a) (total-less n y m (a + 1) k)
  where
    go : Dec (k ≡ a) → (a + 1 ≤ k → k < a + 1 + m → n ≤ get_or y k 0 → total (taken n) y m (a + 1) < m) → taken n (get_or y a 0) + total (taken n) y m (a + 1) < suc m
    go (yes e) ih = omega (arith, total_le n y m (a + 1), taken_none n (get_or y a 0) (rw e at h))
    go (no e) ih = omega (arith, taken_le n (get_or y a 0), ih (omega arith) (omega arith) h)

-- and where not all are counted, a column is free
pub free_col : (n : ℕ) (y : List ℕ) (m a : ℕ) → total (taken n) y m a < m → (k : ℕ) × (a ≤ k) × (k < a + m) × (n ≤ get_or y k 0)
unfolding total
free_col n y zero a h = absurd (omega arith)
free_col n y (suc m) a h = go (dec_lt (get_or y a 0) n) (free_col n y m (a + 1))
  where
    go : Dec (get_or y a 0 < n) → (total (taken n) y m (a + 1) < m → (k : ℕ) × (a + 1 ≤ k) × (k < a + 1 + m) × (n ≤ get_or y k 0)) → (k : ℕ) × (a ≤ k) × (k < a + suc m) × (n ≤ get_or y k 0)
    go (yes q) ih = let (k, p, l, f) = ih (omega (arith, taken-row n (get_or y a 0) q)) in (k, omega arith, omega arith, f)
    go (no q) ih = (a, omega arith, omega arith, omega arith)

pub scanned_few : (n : ℕ) (cols : List ℕ) (lo : ℕ) (y : List ℕ) → length y ≡ n → ((k : ℕ) → k < lo → get_or cols k 0 < n)
    → ((k k' : ℕ) → k < lo → k' < lo → get_or cols k 0 ≡ get_or cols k' 0 → k ≡ k')
    → ((k : ℕ) → k < lo → get_or y (get_or cols k 0) 0 < n)
    → lo ≤ total (taken n) y n 0
scanned_few n cols zero y len cin once held = omega arith
scanned_few n cols (suc lo) y len cin once held =
    let j = get_or cols lo 0 in
    let hj : j < n = cin lo (omega arith) in
    omega (
      arith,
      scanned_few n cols lo (set y j n) (length-set y j n ∙ len) (λ k h. cin k (omega arith)) (λ k l h h'. once k l (omega arith) (omega arith))
          (λ k h. rw (get_or-set_other y j (get_or cols k 0) n 0 (λ e. omega (arith, once k lo (omega arith) (omega arith) e))) (held k (omega arith))),
      total-in (taken n) y n 0 j n (omega arith) (omega arith) (omega arith),
      taken-row n (get_or y j 0) (held lo (omega arith)),
      taken_free n,
    )

-- ---- the outer loop of scan_dense

-- column lo is scanned next
pub scan-next : (n start : ℕ) (y : List ℕ) (lo hi : ℕ) (d : List Float) (cols pred : List ℕ) → SearchOk n start y lo hi cols pred → lo < hi
    → ScanOk n start y (lo + 1) (get_or y (get_or cols lo 0) 0) hi (scanning d cols pred hi n)
scan-next n start y lo hi d cols pred o h = record {
  ok = record {
    starts = o.starts;
    len_cols = o.len_cols;
    len_pred = o.len_pred;
    order = omega arith;
    top = o.top;
    below = o.below;
    once = o.once;
    held = o.held;
    preds = λ k hk. go k hk (ℕ_discrete k lo);
    ahead = λ k lk kn. from_more y cols start lo (lo + 1) _ (omega arith) (o.ahead k (omega arith) kn);
  };
  low = omega arith;
  row = via lo (omega arith) refl;
  none = λ h. refl;
  hit = λ h. absurd (omega arith);
}
  where
    go : (k : ℕ) → k < lo + 1 → Dec (k ≡ lo) → From y cols start k (get_or pred (get_or cols k 0) 0)
    go k hk (yes e) = rw e (o.ahead lo (omega arith) (omega (arith, o.top)))
    go k hk (no e) = o.preds k (omega arith)

pub row_ok : (n start : ℕ) (y : List ℕ) (lo hi : ℕ) (cost v : List Float) (h mind : Float) (d : List Float) (cols pred : List ℕ) → SearchOk n start y lo hi cols pred → lo < hi
    → ScanOk n start y (lo + 1) (get_or y (get_or cols lo 0) 0) n (scan_row n cost y v (get_or y (get_or cols lo 0) 0) h mind d cols pred hi)
row_ok n start y lo hi cost v h mind d cols pred o lh =
    scan_from-ok n start y (lo + 1) (get_or y (get_or cols lo 0) 0) cost v h mind (n - hi) hi (scanning d cols pred hi n) (omega (arith, o.top)) (scan-next n start y lo hi d cols pred o lh)

abbrev pub scan_h : ℕ → List Float → List ℕ → List Float → ℕ → Float → Float
scan_h n cost y v j mind = at cost n (get_or y j 0) j ⊖ get_or v j nan ⊖ mind

abbrev pub scan_lo : ℕ → List Float → List ℕ → List Float → List Float → List ℕ → List ℕ → ℕ → ℕ → Scanning
scan_lo n cost y v d cols pred hi lo =
    let j = get_or cols lo 0 in
    scan_row n cost y v (get_or y j 0) (scan_h n cost y v j (get_or d j nan)) (get_or d j nan) d cols pred hi

-- the same, as the definition reads the row
abbrev pub scan_lit : ℕ → List Float → List ℕ → List Float → List Float → List ℕ → List ℕ → ℕ → ℕ → Scanning
scan_lit n cost y v d cols pred hi lo =
    let j = get_or cols lo 0 in
    let i = row_of n (owner_of n (get_or y j 0)) in
    scan_row n cost y v i (at cost n i j ⊖ get_or v j nan ⊖ get_or d j nan) (get_or d j nan) d cols pred hi

pub record AllInv (n : ℕ) (cost : List Float) (y : List ℕ) (v : List Float) (R : Scans) (lo hi c : ℕ) (d : List Float) (cols pred : List ℕ) : Type 0 where
  pub any : Searching n y lo hi cols pred
  pub len_d : length d ≡ n
  pub few : c ≤ lo
  pub rest : scan_all n cost y v (n - lo) lo c (scanning d cols pred hi n) ≡ R

all-next : (n : ℕ) (cost : List Float) (y : List ℕ) (v : List Float) (lo hi c : ℕ) (d : List Float) (cols pred : List ℕ) (t : Scanning) → lo < hi → hi ≤ n → get_or y (get_or cols lo 0) 0 < n
    → t ≡ scan_lo n cost y v d cols pred hi lo
    → scan_all n cost y v (n - lo) lo c (scanning d cols pred hi n)
    ≡ cond (ltb t.final_j n) (scans_at t (lo + 1) (c + 1)) (scan_all n cost y v (n - (lo + 1)) (lo + 1) (c + 1) t)
unfolding scan_all
all-next n cost y v lo hi c d cols pred t lh hn hr e = rw (fuel_suc n lo (omega arith), ne_eqb lo hi (λ q. omega arith), row_is n (get_or y (get_or cols lo 0) 0) hr, e)

module _ {n : ℕ} {cost : List Float} {y : List ℕ} {v : List Float} {R : Scans} {lo hi c : ℕ} {d : List Float} {cols pred : List ℕ} (inv : AllInv n cost y v R lo hi c d cols pred) (lh : lo < hi) where
  module _ (d' : List Float) (cols' pred' : List ℕ) (hi' f : ℕ) (e : scanning d' cols' pred' hi' f ≡ scan_lo n cost y v d cols pred hi lo) where
    all_eq : cond (ltb f n) (scans_at (scanning d' cols' pred' hi' f) (lo + 1) (c + 1)) (scan_all n cost y v (n - (lo + 1)) (lo + 1) (c + 1) (scanning d' cols' pred' hi' f)) ≡ R
    all_eq = sym (all-next n cost y v lo hi c d cols pred (scanning d' cols' pred' hi' f) lh inv.any.ok.top (inv.any.ok.held lo lh) e) ∙ inv.rest

    all-ok : ScanOk n inv.any.start y (lo + 1) (get_or y (get_or cols lo 0) 0) n (scanning d' cols' pred' hi' f)
    all-ok = rw e (row_ok n inv.any.start y lo hi cost v _ _ d cols pred inv.any.ok lh)

    pub all_found : f < n → scans_at (scanning d' cols' pred' hi' f) (lo + 1) (c + 1) ≡ R
    all_found h = rw (lt-ltb f n h) at all_eq

    pub all_again : n ≤ f → length d' ≡ length d → AllInv n cost y v R (lo + 1) hi' (c + 1) d' cols' pred'
    all_again h ld = record {
      any = record { start = inv.any.start; ok = all-ok.ok };
      len_d = ld ∙ inv.len_d;
      few = omega (arith, inv.few);
      rest = rw (le-ltb f n h, all-ok.none h) at all_eq;
    }

pub all_done : {n : ℕ} {cost : List Float} {y : List ℕ} {v : List Float} {R : Scans} {lo hi c : ℕ} {d : List Float} {cols pred : List ℕ} → AllInv n cost y v R lo hi c d cols pred
    → lo ≡ hi → scans_at (scanning d cols pred hi n) lo c ≡ R
unfolding scan_all
all_done {n} {cost} {y} {v} {R} {lo} {hi} {c} {d} {cols} {pred} inv e = sym (stop (n - lo)) ∙ inv.rest
  where
    stop : (m : ℕ) → scan_all n cost y v m lo c (scanning d cols pred hi n) ≡ scans_at (scanning d cols pred hi n) lo c
    stop zero = refl
    stop (suc m) = rw (eq-eqb lo hi e)
