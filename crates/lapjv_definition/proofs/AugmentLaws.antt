-- The augmenting path, of the definition alone: it ends at its starting row, and each row is once some column's again. Assumes nothing.
use mathlib.Core.Path.{◌≡◌, refl, sym, ap, ◌∙◌, subst}
use mathlib.Core.Bool.{cond}
use mathlib.Core.List.{List}
use Prim.Native.Nat.{ℕ, zero, suc, ◌+◌, ◌-◌, ◌<◌, ◌≤◌}
use native.Mathlib.Omega.{arith}
use native.Mathlib.Decide.{ℕ_discrete}
use native.Mathlib.Nat.{sub-zero}
use borrow.Author.Tests.{eq-eqb, ne_eqb}
use lib.Dec.{eqb}
use lib.ListN.{length, get_or, set, length-set}
use lib.Seq.{get_or-set_same, get_or-set_other}
use Rattle.laws.specs.Fuel.{fuel_suc}
use Rattle.laws.specs.Total.{total, total-in}
use Rattle.lapjv_definition.specs.Ca.{Augmented, augmented, augment_from}
use Rattle.lapjv_definition.specs.Entry.{owner_of, row_of}
use Rattle.lapjv_definition.specs.Invariant.{From, at-start, via, Hole, Holed}
use Rattle.lapjv_definition.proofs.EntryLaws.{row_is}

-- ---- the loop with its test at the end of a pass

-- the Rust's loop tests i before each pass; this one tests it after
unfoldable pub back_from : ℕ → List ℕ → ℕ → ℕ → ℕ → ℕ → List ℕ → List ℕ → Augmented
back_from n pred start zero i j x y = augmented i x y
back_from n pred start (suc m) i j x y =
    let i' = get_or pred j 0 in
    let r = back_from n pred start m i' (row_of n (owner_of n (get_or x i' 0))) (set x i' j) (set y j i') in
    cond (eqb i' start) (augmented i' (set x i' j) (set y j i')) r

-- where the first test holds, it is the same
pub augment-is : (n : ℕ) (pred : List ℕ) (start m i j : ℕ) (x y : List ℕ) → (i ≡ start → ⊥) → augment_from n pred start m i j x y ≡ back_from n pred start m i j x y
unfolding augment_from back_from
augment-is n pred start zero i j x y h = refl
augment-is n pred start (suc m) i j x y h =
    rw (ne_eqb i start h) (go (ℕ_discrete i' start) m (λ q. augment-is n pred start m i' (row_of n (owner_of n (get_or x i' 0))) (set x i' j) (set y j i') q))
  where
    i' : ℕ
    i' = get_or pred j 0

    go : Dec (get_or pred j 0 ≡ start) → (m : ℕ)
        → ((get_or pred j 0 ≡ start → ⊥) → augment_from n pred start m (get_or pred j 0) (row_of n (owner_of n (get_or x (get_or pred j 0) 0))) (set x (get_or pred j 0) j) (set y j (get_or pred j 0))
        ≡ back_from n pred start m (get_or pred j 0) (row_of n (owner_of n (get_or x (get_or pred j 0) 0))) (set x (get_or pred j 0) j) (set y j (get_or pred j 0)))
        → augment_from n pred start m (get_or pred j 0) (row_of n (owner_of n (get_or x (get_or pred j 0) 0))) (set x (get_or pred j 0) j) (set y j (get_or pred j 0))
        ≡ cond (eqb (get_or pred j 0) start) (augmented (get_or pred j 0) (set x (get_or pred j 0) j) (set y j (get_or pred j 0)))
        (back_from n pred start m (get_or pred j 0) (row_of n (owner_of n (get_or x (get_or pred j 0) 0))) (set x (get_or pred j 0) j) (set y j (get_or pred j 0)))
    go (yes e) zero ih = rw (eq-eqb (get_or pred j 0) start e)
    go (yes e) (suc m) ih = rw (eq-eqb (get_or pred j 0) start e)
    go (no e) m ih = rw (ne_eqb (get_or pred j 0) start e) (ih e)

-- ---- the path

pub record Done (n start : ℕ) (target : (ℕ → ℕ) → ℕ) (r : Augmented) : Type 0 where
  pub ended : r.i ≡ start
  pub len_x : length r.x ≡ n
  pub len_y : length r.y ≡ n
  pub count : (w : ℕ → ℕ) → total w r.y n 0 ≡ target w
  pub back : (k : ℕ) → k < n → get_or r.y k 0 < n → get_or r.x (get_or r.y k 0) 0 ≡ k

-- what is read at columns of cols before b is not changed by a store at j
from-set : (y cols : List ℕ) (start b b' i j r : ℕ) → ((k : ℕ) → k < b → get_or cols k 0 ≡ j → ⊥) → b' ≤ b → From y cols start b' i → From (set y j r) cols start b' i
from-set y cols start b b' i j r ap h (at-start e) = at-start e
from-set y cols start b b' i j r ap h (via k hk e) = via k hk (rw (get_or-set_other y j (get_or cols k 0) r 0 (ap k (omega arith))) e)

module _ (n start : ℕ) (pred cols : List ℕ) (target : (ℕ → ℕ) → ℕ) (b j : ℕ) (x y : List ℕ) (o : Hole n start pred cols target b j x y) where
  abbrev i : ℕ
  i = get_or pred j 0

  counts : (w : ℕ → ℕ) → total w (set y j i) n 0 + w (get_or y j 0) ≡ total w y n 0 + w i
  counts w = total-in w y n 0 j i (omega (arith, o.col, o.len_y)) (omega arith) (omega (arith, o.col))

  last : i ≡ start → Done n start target (augmented i (set x i j) (set y j i))
  last e = record {
    ended = e;
    len_x = length-set x i j ∙ o.len_x;
    len_y = length-set y j i ∙ o.len_y;
    count = λ w. omega (arith, counts w, o.count w, ap w e);
    back = λ k hk hy. go k hk hy (ℕ_discrete k j);
  }
    where
      go : (k : ℕ) → k < n → get_or (set y j i) k 0 < n → Dec (k ≡ j) → get_or (set x i j) (get_or (set y j i) k 0) 0 ≡ k
      go k hk hy (yes q) = rw (q, get_or-set_same y j i 0 (omega (arith, o.col, o.len_y)), get_or-set_same x i j 0 (omega (arith, o.starts, o.len_x)))
      go k hk hy (no q) =
          let g : get_or (set y j i) k 0 ≡ get_or y k 0 = get_or-set_other y j k i 0 q in
          rw (g, get_or-set_other x i (get_or y k 0) j 0 (λ z. o.open_start k hk q (z ∙ e))) (o.back k hk q (rw g at hy))

  module _ (k' : ℕ) (hk : k' < b) (e : i ≡ get_or y (get_or cols k' 0) 0) (ns : i ≡ start → ⊥) where
    abbrev j' : ℕ
    j' = get_or cols k' 0

    other : j' ≡ j → ⊥
    other = o.apart k' hk

    row_in : i < n
    row_in = rw e (o.held k' hk)

    -- the next column is the one whose row this was
    pub next-is : get_or x i 0 ≡ j'
    next-is = rw e (o.back j' (o.cols-in k' hk) other (o.held k' hk))

    next : Hole n start pred cols target k' j' (set x i j) (set y j i)
    next = record {
      len_x = length-set x i j ∙ o.len_x;
      len_y = length-set y j i ∙ o.len_y;
      col = o.cols-in k' hk;
      starts = o.starts;
      count = λ w. rw (get_or-set_other y j j' i 0 other, ← e) (omega (arith, counts w, o.count w));
      back = λ k hk q hy. go k hk q hy (ℕ_discrete k j);
      open_start = λ k hk q. op k hk (ℕ_discrete k j);
      apart = λ k h q. omega (arith, o.once k k' (omega arith) hk q);
      cols-in = λ k h. o.cols-in k (omega arith);
      held = λ k h. rw (get_or-set_other y j (get_or cols k 0) i 0 (o.apart k (omega arith))) (o.held k (omega arith));
      once = λ k l h h'. o.once k l (omega arith) (omega arith);
      preds = λ k h. from-set y cols start b k (get_or pred (get_or cols k 0) 0) j i o.apart (omega arith) (o.preds k (omega arith));
      pred-j = from-set y cols start b k' (get_or pred j' 0) j i o.apart (omega arith) (o.preds k' hk);
    }
      where
        go : (k : ℕ) → k < n → (k ≡ j' → ⊥) → get_or (set y j i) k 0 < n → Dec (k ≡ j) → get_or (set x i j) (get_or (set y j i) k 0) 0 ≡ k
        go k hk q hy (yes p) = rw (p, get_or-set_same y j i 0 (omega (arith, o.col, o.len_y)), get_or-set_same x i j 0 (omega (arith, row_in, o.len_x)))
        go k hk q hy (no p) =
            let g : get_or (set y j i) k 0 ≡ get_or y k 0 = get_or-set_other y j k i 0 p in
            let bk : get_or x (get_or y k 0) 0 ≡ k = o.back k hk p (rw g at hy) in
            rw (g, get_or-set_other x i (get_or y k 0) j 0 (λ z. q (sym bk ∙ ap (λ (r : ℕ). get_or x r 0) z ∙ next-is))) bk

        op : (k : ℕ) → k < n → Dec (k ≡ j) → get_or (set y j i) k 0 ≡ start → ⊥
        op k hk (yes p) z = ns (sym (rw p (get_or-set_same y j i 0 (omega (arith, o.col, o.len_y)))) ∙ z)
        op k hk (no p) z = o.open_start k hk p (sym (get_or-set_other y j k i 0 p) ∙ z)

-- THE PATH ENDS: with fuel for the columns before it, at the starting row
pub augment-ends : (n start : ℕ) (pred cols : List ℕ) (target : (ℕ → ℕ) → ℕ) (m b i j : ℕ) (x y : List ℕ) → b < m → Hole n start pred cols target b j x y
    → Done n start target (back_from n pred start m i j x y)
unfolding back_from
augment-ends n start pred cols target zero b i j x y h o = absurd (omega arith)
augment-ends n start pred cols target (suc m) b i j x y h o =
    go (ℕ_discrete (get_or pred j 0) start) o.pred-j (augment-ends n start pred cols target m)
  where
    R : Augmented
    R = back_from n pred start m (get_or pred j 0) (row_of n (owner_of n (get_or x (get_or pred j 0) 0))) (set x (get_or pred j 0) j) (set y j (get_or pred j 0))

    go : Dec (get_or pred j 0 ≡ start) → From y cols start b (get_or pred j 0)
        → ((b i j : ℕ) (x y : List ℕ) → b < m → Hole n start pred cols target b j x y → Done n start target (back_from n pred start m i j x y))
        → Done n start target (cond (eqb (get_or pred j 0) start) (augmented (get_or pred j 0) (set x (get_or pred j 0) j) (set y j (get_or pred j 0))) R)
    go (yes e) f ih = rw (eq-eqb (get_or pred j 0) start e) (last n start pred cols target b j x y o e)
    go (no e) (at-start q) ih = absurd (e q)
    go (no e) (via k hk q) ih =
        rw (ne_eqb (get_or pred j 0) start e, next-is n start pred cols target b j x y o k hk q e, row_is n (get_or cols k 0) (o.cols-in k hk))
        (ih k (get_or pred j 0) (get_or cols k 0) (set x (get_or pred j 0) j) (set y j (get_or pred j 0)) (omega arith) (next n start pred cols target b j x y o k hk q e))

-- ---- the same, a step at a time, for the loop of the code

module _ {n start : ℕ} {pred x y : List ℕ} {m j : ℕ} (o : Holed n start pred m j x y) where
  pub holed_step : (get_or pred j 0 ≡ start → ⊥) → Holed n start pred (m - 1) (row_of n (owner_of n (get_or x (get_or pred j 0) 0))) (set x (get_or pred j 0) j) (set y j (get_or pred j 0))
  holed_step ns = go o.hole.pred-j
    where
      go : From y o.cols start o.b (get_or pred j 0) → Holed n start pred (m - 1) (row_of n (owner_of n (get_or x (get_or pred j 0) 0))) (set x (get_or pred j 0) j) (set y j (get_or pred j 0))
      go (at-start e) = absurd (ns e)
      go (via k hk e) = record {
        cols = o.cols;
        target = o.target;
        b = k;
        less = omega (arith, o.less);
        hole = rw (next-is n start pred o.cols o.target o.b j x y o.hole k hk e ns, row_is n (get_or o.cols k 0) (o.hole.cols-in k hk)) (next n start pred o.cols o.target o.b j x y o.hole k hk e ns);
      }

augment_step : (pred : List ℕ) (start n k i j : ℕ) (x y : List ℕ) → k < n → back_from n pred start (n - k) i j x y
    ≡ cond (eqb (get_or pred j 0) start) (augmented (get_or pred j 0) (set x (get_or pred j 0) j) (set y j (get_or pred j 0)))
    (back_from n pred start (n - (k + 1)) (get_or pred j 0) (row_of n (owner_of n (get_or x (get_or pred j 0) 0))) (set x (get_or pred j 0) j) (set y j (get_or pred j 0)))
unfolding back_from
augment_step pred start n k i j x y h = rw (fuel_suc n k h)

pub record AugInv (n start : ℕ) (pred : List ℕ) (R : Augmented) (k j : ℕ) (x y : List ℕ) : Type 0 where
  pub i : ℕ
  pub to : k ≤ n
  pub len_x : length x ≡ n
  pub len_y : length y ≡ n
  pub holed : Holed n start pred (n - k) j x y
  pub rest : back_from n pred start (n - k) i j x y ≡ R

module _ {n start : ℕ} {pred : List ℕ} {R : Augmented} {k j : ℕ} {x y : List ℕ} (inv : AugInv n start pred R k j x y) where
  pub aug_found : k < n → get_or pred j 0 ≡ start → augmented start (set x (get_or pred j 0) j) (set y j (get_or pred j 0)) ≡ R
  aug_found hk e = ap (λ (z : ℕ). augmented z (set x (get_or pred j 0) j) (set y j (get_or pred j 0))) (sym e) ∙ (rw (eq-eqb (get_or pred j 0) start e) at (sym (augment_step pred start n k inv.i j x y hk) ∙ inv.rest))

  pub aug_again : k < n → (get_or pred j 0 ≡ start → ⊥) → AugInv n start pred R (k + 1) (row_of n (owner_of n (get_or x (get_or pred j 0) 0))) (set x (get_or pred j 0) j) (set y j (get_or pred j 0))
  aug_again hk e = record {
    i = get_or pred j 0;
    to = omega arith;
    len_x = length-set x (get_or pred j 0) j ∙ inv.len_x;
    len_y = length-set y j (get_or pred j 0) ∙ inv.len_y;
    holed = subst (λ (q : ℕ). Holed n start pred q (row_of n (owner_of n (get_or x (get_or pred j 0) 0))) (set x (get_or pred j 0) j) (set y j (get_or pred j 0))) less (holed_step inv.holed e);
    rest = rw (ne_eqb (get_or pred j 0) start e) at (sym (augment_step pred start n k inv.i j x y hk) ∙ inv.rest);
  }
    where
      less : n - k - 1 ≡ n - (k + 1)
      less = omega arith

pub aug_start : {n start : ℕ} {pred : List ℕ} {j : ℕ} {x y : List ℕ} → length x ≡ n → length y ≡ n → Holed n start pred n j x y
    → AugInv n start pred (augment_from n pred start n n j x y) 0 j x y
aug_start {n} {start} {pred} {j} {x} {y} lx ly h = record {
  i = n;
  to = omega arith;
  len_x = lx;
  len_y = ly;
  holed = rw (sub-zero n) h;
  rest = rw (sub-zero n) (sym (augment-is n pred start n n j x y (λ e. omega (arith, h.hole.starts))));
}
