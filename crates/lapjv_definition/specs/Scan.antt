-- `scan_dense`, lines 183 to 233 of lapjv.rs. n stands for -1. A column scan is a pass of its outer loop, one that leaves by its return included.
use Rattle.std.specs.Prelude.{Bool, cond, List, ℕ, zero, suc, ◌+◌, ◌-◌, ltb, eqb, get_or, set, Float}
use Rattle.std.specs.Float.{nan}
use Rattle.std.specs.Float.Ieee.{lt, eq}
use Rattle.laws.specs.Swap.{swapped}
use Rattle.lapjv_definition.specs.Cost.{at, ◌⊖◌}
use Rattle.lapjv_definition.specs.Entry.{owner_of, is_free, row_of}

-- ---- lines 213 to 228: the inner loop

-- final_j is the column that the Rust returns, n where it goes on
pub record Scanning : Type 0 where
  pub d : List Float
  pub cols : List ℕ
  pub pred : List ℕ
  pub hi : ℕ
  pub final_j : ℕ

abbrev pub scanning : List Float → List ℕ → List ℕ → ℕ → ℕ → Scanning
scanning d cols pred hi final_j = record { d = d; cols = cols; pred = pred; hi = hi; final_j = final_j }

-- the pass at k, where j is cols[k], by its three tests: cred_ij < d[j], cred_ij == mind, y[j] < 0
abbrev pub scan_at : ℕ → ℕ → ℕ → ℕ → Float → Bool → Bool → Bool → List Float → List ℕ → List ℕ → ℕ → Scanning
scan_at n i k j cred_ij lowers level vacant d cols pred hi =
    cond lowers
    (cond level
    (cond vacant
    (scanning (set d j cred_ij) cols (set pred j i) hi j)
    (scanning (set d j cred_ij) (swapped cols k hi) (set pred j i) (hi + 1) n))
    (scanning (set d j cred_ij) cols (set pred j i) hi n))
    (scanning d cols pred hi n)

abbrev pub scan_step : ℕ → List Float → List ℕ → List Float → ℕ → Float → Float → ℕ → List Float → List ℕ → List ℕ → ℕ → Scanning
scan_step n cost y v i h mind k d cols pred hi =
    let j = get_or cols k 0 in
    let cred_ij = at cost n i j ⊖ get_or v j nan ⊖ h in
    scan_at n i k j cred_ij (lt cred_ij (get_or d j nan)) (eq cred_ij mind) (is_free (owner_of n (get_or y j 0))) d cols pred hi

-- the passes at k, k + 1, .., m of them; one that finds a free column is the last
unfoldable pub scan_from : ℕ → List Float → List ℕ → List Float → ℕ → Float → Float → ℕ → ℕ → Scanning → Scanning
scan_from n cost y v i h mind zero k s = s
scan_from n cost y v i h mind (suc m) k s =
    let t = scan_step n cost y v i h mind k s.d s.cols s.pred s.hi in
    let r = scan_from n cost y v i h mind m (k + 1) t in
    cond (ltb t.final_j n) t r

abbrev pub scan_row : ℕ → List Float → List ℕ → List Float → ℕ → Float → Float → List Float → List ℕ → List ℕ → ℕ → Scanning
scan_row n cost y v i h mind d cols pred hi = scan_from n cost y v i h mind (n - hi) hi (scanning d cols pred hi n)

-- ---- lines 199 to 229: the outer loop

pub record Scans : Type 0 where
  pub st : Scanning
  pub lo : ℕ
  pub scans : ℕ

abbrev pub scans_at : Scanning → ℕ → ℕ → Scans
scans_at st lo scans = record { st = st; lo = lo; scans = scans }

-- while lo != hi. The Rust bounds this loop by nothing; here it has fuel, one for each scan. The fuel never runs out: `scan` of `Ends`, in Bounds.antt,
-- says that at the end the loop's test fails or a column was returned.
unfoldable pub scan_all : ℕ → List Float → List ℕ → List Float → ℕ → ℕ → ℕ → Scanning → Scans
scan_all n cost y v zero lo scans s = scans_at s lo scans
scan_all n cost y v (suc fuel) lo scans s =
    let j = get_or s.cols lo 0 in
    let i = row_of n (owner_of n (get_or y j 0)) in
    let mind = get_or s.d j nan in
    let h = at cost n i j ⊖ get_or v j nan ⊖ mind in
    let t = scan_row n cost y v i h mind s.d s.cols s.pred s.hi in
    let r = scan_all n cost y v fuel (lo + 1) (scans + 1) t in
    cond (eqb lo s.hi) (scans_at s lo scans)
    (cond (ltb t.final_j n) (scans_at t (lo + 1) (scans + 1)) r)

abbrev pub scan_dense : ℕ → List Float → ℕ → List ℕ → List Float → Scanning → Scans
scan_dense n cost lo y v s = scan_all n cost y v (n - lo) lo 0 s
