-- The loops of carr_dence and scan_dense end by their own tests before their fuel does, and find_dense answers within its range, whatever the lists. Assumes
-- nothing.
use mathlib.Core.Path.{◌≡◌, refl}
use mathlib.Core.Bool.{Bool, true, false, cond}
use mathlib.Core.List.{List}
use Prim.Native.Nat.{ℕ, zero, suc, ◌+◌, ◌-◌, ◌*◌, ◌<◌, ◌≤◌}
use native.Mathlib.Omega.{arith}
use native.Mathlib.Decide.{dec_lt}
use native.Mathlib.Nat.{mul-le-mul_right, one-mul}
use borrow.Author.Tests.{ltb-true, eqb-true, eqb-false}
use lib.Dec.{ltb, eqb}
use lib.ListN.{get_or}
use lib.Ieee.{Float, nan, lt, le, eq}
use Rattle.laws.specs.Swap.{swapped}
use Rattle.lapjv_definition.specs.Carr.{Carrying, carrying, carr_turn, carr_from, carr_dence}
use Rattle.lapjv_definition.specs.Cost.{at, ◌⊖◌}
use Rattle.lapjv_definition.specs.Entry.{owner_of, is_free, row_of}
use Rattle.lapjv_definition.specs.Find.{Finding, finding, find_step, find_from, find_dense}
use Rattle.lapjv_definition.specs.Scan.{Scanning, scan_at, scan_step, scan_from, scan_row, scans_at, scan_all, scan_dense}
use Rattle.lapjv_definition.proofs.CarrLaws.{Room, turn_room, turns-one, from_turn, from-stop}
use Rattle.lapjv_definition.proofs.FindLaws.{find_step-hi}

-- ---- carr_dence

-- with fuel for what is left of n_free_rows × n turns
carr_stops : (n n_free_rows : ℕ) (cost : List Float) → 1 ≤ n → (fuel : ℕ) (s : Carrying) → Room n s → n_free_rows * n ≤ s.rr_cnt + fuel → n_free_rows ≤ (carr_from n cost n_free_rows fuel s).current
carr_stops n n_free_rows cost some zero s room enough = go (dec_lt s.current n_free_rows)
  where
    go : Dec (s.current < n_free_rows) → n_free_rows ≤ (carr_from n cost n_free_rows zero s).current
    go (yes h) = absurd (omega (arith, mul-le-mul_right {m = s.current + 1} {n = n_free_rows} n (omega arith), room))
    go (no h) = rw (from-stop n cost n_free_rows zero s (omega arith)) (omega arith)
carr_stops n n_free_rows cost some (suc fuel) s room enough =
    go (dec_lt s.current n_free_rows) (carr_stops n n_free_rows cost some fuel (carr_turn n cost s) (turn_room n cost s some room) (omega (arith, turns-one n cost s)))
  where
    go : Dec (s.current < n_free_rows) → n_free_rows ≤ (carr_from n cost n_free_rows fuel (carr_turn n cost s)).current → n_free_rows ≤ (carr_from n cost n_free_rows (suc fuel) s).current
    go (yes h) ih = rw (from_turn n cost n_free_rows (suc fuel) fuel s refl h) ih
    go (no h) ih = rw (from-stop n cost n_free_rows (suc fuel) s (omega arith)) (omega arith)

pub carr_test : (n : ℕ) (cost : List Float) → 1 ≤ n → (n_free_rows : ℕ) (free_rows x y : List ℕ) (v : List Float) → n_free_rows ≤ (carr_dence n cost n_free_rows free_rows x y v).current
carr_test n cost some n_free_rows free_rows x y v = carr_stops n n_free_rows cost some (n_free_rows * n) (carrying 0 0 0 free_rows x y v) (omega (arith, one-mul n)) (omega arith)

-- ---- scan_dense

-- hi stays, or grows by one, and never passes n
record Grown (low top hi : ℕ) : Type 0 where
  from : low ≤ hi
  to : hi ≤ top

step_grown : (n i k j : ℕ) (cred_ij : Float) (p q r : Bool) (d : List Float) (cols pred : List ℕ) (hi : ℕ) → hi ≤ k → Grown hi (k + 1) (scan_at n i k j cred_ij p q r d cols pred hi).hi
step_grown n i k j cred_ij true true true d cols pred hi h = record { from = omega arith; to = omega arith }
step_grown n i k j cred_ij true true false d cols pred hi h = record { from = omega arith; to = omega arith }
step_grown n i k j cred_ij true false r d cols pred hi h = record { from = omega arith; to = omega arith }
step_grown n i k j cred_ij false q r d cols pred hi h = record { from = omega arith; to = omega arith }

module _ (n : ℕ) (cost : List Float) (y : List ℕ) (v : List Float) where
  row-grown : (i : ℕ) (h mind : Float) (m k : ℕ) (s : Scanning) → k + m ≡ n → s.hi ≤ k → Grown s.hi n (scan_from n cost y v i h mind m k s).hi
  unfolding scan_from
  row-grown i h mind zero k s e le = record { from = omega arith; to = omega arith }
  row-grown i h mind (suc m) k s e le = go (ltb t.final_j n) (row-grown i h mind m (k + 1) t (omega arith) step.to)
    where
      t : Scanning
      t = scan_step n cost y v i h mind k s.d s.cols s.pred s.hi

      step : Grown s.hi (k + 1) t.hi
      step =
          let j = get_or s.cols k 0 in
          let cred_ij = at cost n i j ⊖ get_or v j nan ⊖ h in
          step_grown n i k j cred_ij (lt cred_ij (get_or s.d j nan)) (eq cred_ij mind) (is_free (owner_of n (get_or y j 0))) s.d s.cols s.pred s.hi le

      go : (b : Bool) → Grown t.hi n (scan_from n cost y v i h mind m (k + 1) t).hi → Grown s.hi n (cond b t (scan_from n cost y v i h mind m (k + 1) t)).hi
      go true ih = record { from = step.from; to = omega (arith, step.to) }
      go false ih = record { from = omega (arith, step.from, ih.from); to = ih.to }

  -- with fuel for the columns from lo on
  scan_stops : (fuel lo c : ℕ) (s : Scanning) → n ≤ lo + fuel → lo ≤ s.hi → s.hi ≤ n
      → n ≤ (scan_all n cost y v fuel lo c s).st.final_j → (scan_all n cost y v fuel lo c s).lo ≡ (scan_all n cost y v fuel lo c s).st.hi
  unfolding scan_all
  scan_stops zero lo c s enough low top = λ none. omega arith
  scan_stops (suc fuel) lo c s enough low top = go (eqb lo s.hi) refl (ltb t.final_j n) refl (λ h. scan_stops fuel (lo + 1) (c + 1) t (omega arith) (omega (arith, grown.from)) grown.to)
    where
      i : ℕ
      i = row_of n (owner_of n (get_or y (get_or s.cols lo 0) 0))

      mind : Float
      mind = get_or s.d (get_or s.cols lo 0) nan

      t : Scanning
      t = scan_row n cost y v i (at cost n i (get_or s.cols lo 0) ⊖ get_or v (get_or s.cols lo 0) nan ⊖ mind) mind s.d s.cols s.pred s.hi

      grown : Grown s.hi n t.hi
      grown = row-grown i _ mind (n - s.hi) s.hi _ (omega arith) (omega arith)

      go : (b : Bool) → eqb lo s.hi ≡ b → (b' : Bool) → ltb t.final_j n ≡ b'
          → (lo < s.hi → n ≤ (scan_all n cost y v fuel (lo + 1) (c + 1) t).st.final_j → (scan_all n cost y v fuel (lo + 1) (c + 1) t).lo ≡ (scan_all n cost y v fuel (lo + 1) (c + 1) t).st.hi)
          → n ≤ (cond b (scans_at s lo c) (cond b' (scans_at t (lo + 1) (c + 1)) (scan_all n cost y v fuel (lo + 1) (c + 1) t))).st.final_j
          → (cond b (scans_at s lo c) (cond b' (scans_at t (lo + 1) (c + 1)) (scan_all n cost y v fuel (lo + 1) (c + 1) t))).lo
          ≡ (cond b (scans_at s lo c) (cond b' (scans_at t (lo + 1) (c + 1)) (scan_all n cost y v fuel (lo + 1) (c + 1) t))).st.hi
      go true e b' e' ih none = eqb-true lo s.hi e
      go false e true e' ih none = absurd (omega (arith, none, ltb-true t.final_j n e'))
      go false e false e' ih none = ih (omega (arith, eqb-false lo s.hi e)) none

  pub scan_test : (lo : ℕ) (s : Scanning) → lo ≤ s.hi → s.hi ≤ n
      → n ≤ (scan_dense n cost lo y v s).st.final_j → (scan_dense n cost lo y v s).lo ≡ (scan_dense n cost lo y v s).st.hi
  scan_test lo s low top = scan_stops (n - lo) lo 0 s (omega arith) low top

-- ---- find_dense

find-low : (lo : ℕ) (dj : Float) (k hi : ℕ) (mind : Float) (cols : List ℕ) → lo < hi → lo < (find_step lo dj k hi mind cols).hi
find-low lo dj k hi mind cols h = go (le dj mind) (lt dj mind)
  where
    go : (p q : Bool) → lo < (cond p (cond q (finding (lo + 1) dj (swapped cols k lo)) (finding (hi + 1) mind (swapped cols k hi))) (finding hi mind cols)).hi
    go true true = omega arith
    go true false = omega arith
    go false q = h

-- the passes from k on
find-grown : (d : List Float) (lo m k : ℕ) (s : Finding) → lo < s.hi → s.hi ≤ k → (lo < (find_from d lo m k s).hi) × ((find_from d lo m k s).hi ≤ k + m)
unfolding find_from
find-grown d lo zero k s low top = (low, omega arith)
find-grown d lo (suc m) k s low top =
    let dj = get_or d (get_or s.cols k 0) nan in
    let (a, b) = find-grown d lo m (k + 1) (find_step lo dj k s.hi s.mind s.cols) (find-low lo dj k s.hi s.mind s.cols low)
    (find_step-hi lo dj k s.hi s.mind s.cols top (omega arith)) in
    (a, omega (arith, b))

pub find_range : (n lo : ℕ) (d : List Float) (cols : List ℕ) → lo < n → (lo < (find_dense n lo d cols).hi) × ((find_dense n lo d cols).hi ≤ n)
find_range n lo d cols h =
    let (a, b) = find-grown d lo (n - (lo + 1)) (lo + 1) (finding (lo + 1) (get_or d (get_or cols lo 0) nan) cols) (omega arith) (omega arith) in
    (a, omega arith)
