-- `bounds` and `ends`: what specs/Bounds.antt states holds for every side from 1 and every list of costs. Assumes nothing.
use mathlib.Core.Path.{◌≡◌}
use mathlib.Core.List.{List}
use Prim.Native.Nat.{ℕ, ◌-◌, ◌*◌, ◌≤◌}
use native.Mathlib.Omega.{arith}
use native.Mathlib.Nat.{mul_assoc}
use lib.Ieee.{Float}
use Rattle.lapjv_definition.specs.Bounds.{Bounds, Partial, Ends}
use Rattle.lapjv_definition.specs.Lapjv.{lapjv}
use Rattle.lapjv_definition.proofs.CaEnds.{Open, path_level, path_found, path_back}
use Rattle.lapjv_definition.proofs.LoopEnds.{carr_test, scan_test, find_range}
use Rattle.lapjv_definition.proofs.Pairs.{lapjv-pairs, lapjv-turns, lapjv-scans, lapjv-ret, lapjv-passes}
use Rattle.lapjv_definition.proofs.SearchLaws.{total-less, free_col}

pub bounds : (n : ℕ) (cost : List Float) → 1 ≤ n → Bounds n cost
bounds n cost some = record {
  pairs = lapjv-pairs n some cost;
  turns = rw mul_assoc (lapjv-turns n some cost);
  scans = omega (arith, lapjv-scans n some cost);
  side-one = λ e. none e;
  no_error = lapjv-ret n some cost;
}
  where
    none : n ≡ 1 → (lapjv n cost).turns ≡ 0
    none e = let z : n * (n - 1) ≡ 0 = rw e in omega (arith, lapjv-turns n some cost)

-- a free column leaves room
begun : {n free_row : ℕ} {x y : List ℕ} → Partial n free_row x y → Open n free_row x y
begun {n} {free_row} {x} {y} o = record {
  starts = o.row;
  len_x = o.len_x;
  len_y = o.len_y;
  room = total-less n y n 0 o.col (omega arith) (omega (arith, o.col-in)) o.col_free;
  back = o.back;
  alone = o.alone;
}

-- and where there is room, a column is free
partial : {n free_row : ℕ} {x y : List ℕ} → Open n free_row x y → Partial n free_row x y
partial {n} {free_row} {x} {y} o =
    let (k, p, q, h) = free_col n y n 0 o.room in
    record {
      row = o.starts;
      len_x = o.len_x;
      len_y = o.len_y;
      back = o.back;
      alone = o.alone;
      col = k;
      col-in = omega arith;
      col_free = h;
    }

pub ends : (n : ℕ) (cost : List Float) → 1 ≤ n → Ends n cost
ends n cost some = record {
  carr = carr_test n cost some;
  scan = λ lo y v s. scan_test n cost y v lo s;
  find = find_range n;
  passes = λ row_n h. partial (lapjv-passes n some cost row_n h);
  level = λ free_row x y v o. path_level n cost free_row x y v (begun o);
  search = λ free_row x y v o. path_found n cost free_row x y v (begun o);
  augment = λ free_row x y v o. path_back n cost free_row x y v (begun o);
}
