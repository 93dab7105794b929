-- The inner loop of scan_dense, pass by pass, for the loop of the code. Assumes nothing.
use mathlib.Core.Path.{◌≡◌, sym, ◌∙◌}
use mathlib.Core.Bool.{Bool, true, false, cond}
use mathlib.Core.List.{List}
use Prim.Native.Nat.{ℕ, ◌+◌, ◌-◌, ◌<◌, ◌≤◌}
use native.Mathlib.Omega.{arith}
use borrow.Author.Tests.{lt-ltb, le-ltb}
use lib.Dec.{ltb}
use lib.ListN.{length, get_or}
use lib.Ieee.{Float, nan, lt, eq}
use Rattle.laws.specs.Below.{Below}
use Rattle.laws.specs.Fuel.{fuel_suc, fuel_zero}
use Rattle.laws.specs.Swap.{swapped-below}
use Rattle.lapjv_definition.specs.Cost.{at, ◌⊖◌}
use Rattle.lapjv_definition.specs.Entry.{owner_of, is_free}
use Rattle.lapjv_definition.specs.Scan.{Scanning, scanning, scan_at, scan_step, scan_from}

-- what a pass keeps: cols stays below n, hi grows by one at most, and what is found is a column
pub record Kept (n k : ℕ) (s : Scanning) : Type 0 where
  pub below : Below n s.cols
  pub low : s.hi ≤ k + 1
  pub none : n ≤ s.final_j → s.final_j ≡ n

scan_at_kept : (n i k j : ℕ) (cred : Float) (p q r : Bool) (d : List Float) (cols pred : List ℕ) (hi : ℕ) → Below n cols → k < length cols → hi ≤ k → j < n
    → Kept n k (scan_at n i k j cred p q r d cols pred hi)
scan_at_kept n i k j cred true true true d cols pred hi b hk hh hj = record { below = b; low = omega arith; none = omega arith }
scan_at_kept n i k j cred true true false d cols pred hi b hk hh hj = record { below = swapped-below n cols k hi b hk (omega arith); low = omega arith; none = omega arith }
scan_at_kept n i k j cred true false r d cols pred hi b hk hh hj = record { below = b; low = omega arith; none = omega arith }
scan_at_kept n i k j cred false q r d cols pred hi b hk hh hj = record { below = b; low = omega arith; none = omega arith }

pub scan_step_kept : (n : ℕ) (cost : List Float) (y : List ℕ) (v : List Float) (i : ℕ) (h mind : Float) (k : ℕ) (d : List Float) (cols pred : List ℕ) (hi : ℕ)
    → Below n cols → k < length cols → hi ≤ k → Kept n k (scan_step n cost y v i h mind k d cols pred hi)
scan_step_kept n cost y v i h mind k d cols pred hi b hk hh =
    let j = get_or cols k 0 in
    let cred = at cost n i j ⊖ get_or v j nan ⊖ h in
    scan_at_kept n i k j cred (lt cred (get_or d j nan)) (eq cred mind) (is_free (owner_of n (get_or y j 0))) d cols pred hi b hk hh (b k hk)

pub record ScanInv (n : ℕ) (cost : List Float) (y : List ℕ) (v : List Float) (i : ℕ) (h mind : Float) (R : Scanning)
    (d : List Float) (cols pred : List ℕ) (hi k : ℕ) : Type 0 where
  pub to : k ≤ n
  pub low : hi ≤ k
  pub len_d : length d ≡ n
  pub len_cols : length cols ≡ n
  pub len_pred : length pred ≡ n
  pub below : Below n cols
  pub rest : scan_from n cost y v i h mind (n - k) k (scanning d cols pred hi n) ≡ R

scan_step_lem : (n : ℕ) (cost : List Float) (y : List ℕ) (v : List Float) (i : ℕ) (h mind : Float) (d : List Float) (cols pred : List ℕ) (hi k : ℕ) (t : Scanning) → k < n
    → t ≡ scan_step n cost y v i h mind k d cols pred hi
    → scan_from n cost y v i h mind (n - k) k (scanning d cols pred hi n) ≡ cond (ltb t.final_j n) t (scan_from n cost y v i h mind (n - (k + 1)) (k + 1) t)
unfolding scan_from
scan_step_lem n cost y v i h mind d cols pred hi k t hk e = rw (fuel_suc n k hk, e)

module _ {n : ℕ} {cost : List Float} {y : List ℕ} {v : List Float} {i : ℕ} {h mind : Float} {R : Scanning} {d : List Float} {cols pred : List ℕ} {hi k : ℕ}
    (inv : ScanInv n cost y v i h mind R d cols pred hi k) where
  module _ (d' : List Float) (cols' pred' : List ℕ) (hi' f : ℕ) (hk : k < n)
      (e : scanning d' cols' pred' hi' f ≡ scan_step n cost y v i h mind k d cols pred hi) where
    next : cond (ltb f n) (scanning d' cols' pred' hi' f) (scan_from n cost y v i h mind (n - (k + 1)) (k + 1) (scanning d' cols' pred' hi' f)) ≡ R
    next = sym (scan_step_lem n cost y v i h mind d cols pred hi k (scanning d' cols' pred' hi' f) hk e) ∙ inv.rest

    kept : Kept n k (scanning d' cols' pred' hi' f)
    kept = rw e (scan_step_kept n cost y v i h mind k d cols pred hi inv.below (omega arith) inv.low)

    pub scan_again : n ≤ f
        → length d' ≡ length d → length cols' ≡ length cols → length pred' ≡ length pred
        → ScanInv n cost y v i h mind R d' cols' pred' hi' (k + 1)
    scan_again fn ld lc lp = record {
      to = omega arith;
      low = kept.low;
      len_d = omega arith;
      len_cols = omega arith;
      len_pred = omega arith;
      below = kept.below;
      rest = rw (le-ltb f n fn, kept.none fn) at next;
    }

    pub scan-found : f < n → scanning d' cols' pred' hi' f ≡ R
    scan-found fn = rw (lt-ltb f n fn) at next

  pub scan-done : n ≤ k → scanning d cols pred hi n ≡ R
  unfolding scan_from
  scan-done h = rw (fuel_zero n k h) at inv.rest
