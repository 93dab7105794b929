-- `find_path_dense`, lines 235 to 282 of lapjv.rs. n stands for -1.
use Rattle.std.specs.Prelude.{cond, List, ℕ, zero, suc, ◌+◌, ◌-◌, ltb, eqb, get_or, set, Float}
use Rattle.std.specs.Float.{nan, binary64}
use Rattle.std.specs.Float.Ieee.{add}
use Rattle.laws.specs.Tab.{tab}
use Rattle.lapjv_definition.specs.Cost.{at, ◌⊖◌}
use Rattle.lapjv_definition.specs.Entry.{owner_of, is_free}
use Rattle.lapjv_definition.specs.Find.{find_dense}
use Rattle.lapjv_definition.specs.Scan.{Scanning, scanning, scan_dense}

-- d, cols, pred, hi and final_j are in st; scans are those of all calls of scan_dense
pub record Search : Type 0 where
  pub st : Scanning
  pub lo : ℕ
  pub n_ready : ℕ
  pub scans : ℕ

abbrev pub search_at : Scanning → ℕ → ℕ → ℕ → Search
search_at st lo n_ready scans = record { st = st; lo = lo; n_ready = n_ready; scans = scans }

-- d[i] = cost[start_i][i] - v[i], for every i
abbrev pub first_d : ℕ → List Float → ℕ → List Float → List Float
first_d n cost start_i v = tab (λ i. at cost n start_i i ⊖ get_or v i nan) n

-- lines 243 to 254
abbrev pub search_start : ℕ → List Float → ℕ → List Float → Search
search_start n cost start_i v = search_at (scanning (first_d n cost start_i v) (tab (λ i. i) n) (tab (λ i. start_i) n) 0 n) 0 0 0

-- lines 262 to 264: if y[j] < 0, where yj is y[j]
abbrev pub last_step : ℕ → ℕ → ℕ → ℕ → ℕ
last_step n j yj final_j = cond (is_free (owner_of n yj)) j final_j

-- the passes at k, k + 1, .., m of them: the last free column among them
unfoldable pub last_free : ℕ → List ℕ → List ℕ → ℕ → ℕ → ℕ → ℕ
last_free n cols y zero k final_j = final_j
last_free n cols y (suc m) k final_j = let j = get_or cols k 0 in last_free n cols y m (k + 1) (last_step n j (get_or y j 0) final_j)

-- lines 258 to 265; final_j is -1 before
abbrev pub search_find : ℕ → List ℕ → Search → Search
search_find n y s =
    let f = find_dense n s.lo s.st.d s.st.cols in
    search_at (scanning s.st.d f.cols s.st.pred f.hi (last_free n f.cols y (f.hi - s.lo) s.lo n)) s.lo s.lo s.scans

-- lines 268 to 270: scan_dense, which leaves lo and hi as they were where it returns a column
abbrev pub search_scan : ℕ → List Float → List ℕ → List Float → Search → Search
search_scan n cost y v s =
    let a = scan_dense n cost s.lo y v s.st in
    cond (ltb a.st.final_j n)
    (search_at (scanning a.st.d a.st.cols a.st.pred s.st.hi a.st.final_j) s.lo s.n_ready (s.scans + a.scans))
    (search_at a.st a.lo s.n_ready (s.scans + a.scans))

-- one pass, lines 257 to 271
unfoldable pub search_step : ℕ → List Float → List ℕ → List Float → Search → Search
search_step n cost y v s =
    let t = cond (eqb s.lo s.st.hi) (search_find n y s) s in
    cond (ltb t.st.final_j n) t (search_scan n cost y v t)

-- while final_j == -1. The Rust bounds this loop by nothing; here it has fuel, one for each pass. The fuel never runs out: `search` of `Ends`, in
-- Bounds.antt, says that a column is found.
unfoldable pub search_from : ℕ → List Float → List ℕ → List Float → ℕ → Search → Search
search_from n cost y v zero s = s
search_from n cost y v (suc fuel) s =
    let r = search_from n cost y v fuel (search_step n cost y v s) in
    cond (ltb s.st.final_j n) s r

-- lines 276 to 279: v[j] += d[j] - mind, at cols[k], .., m of them
unfoldable pub raise_from : List ℕ → List Float → Float → ℕ → ℕ → List Float → List Float
raise_from cols d mind zero k v = v
raise_from cols d mind (suc m) k v =
    let j = get_or cols k 0 in
    raise_from cols d mind m (k + 1) (set v j (add binary64 (get_or v j nan) (get_or d j nan ⊖ mind)))

pub record Pathed : Type 0 where
  pub v : List Float
  pub pred : List ℕ
  pub final_j : ℕ
  pub scans : ℕ

abbrev pub pathed : List Float → List ℕ → ℕ → ℕ → Pathed
pathed v pred final_j scans = record { v = v; pred = pred; final_j = final_j; scans = scans }

unfoldable pub find_path_dense : ℕ → List Float → ℕ → List ℕ → List Float → Pathed
find_path_dense n cost start_i y v =
    let p = search_from n cost y v n (search_start n cost start_i v) in
    let mind = get_or p.st.d (get_or p.st.cols p.lo 0) nan in
    pathed (raise_from p.st.cols p.st.d mind p.n_ready 0 v) p.st.pred p.st.final_j p.scans
