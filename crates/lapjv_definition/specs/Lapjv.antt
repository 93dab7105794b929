-- `lapjv`, lines 319 to 358 of lapjv.rs, from line 340 on: what stands before, its refusals, is in crates/lapjv, specs/Answers.antt, as document 01 has it.
-- Turns and scans are counted along.
use Rattle.std.specs.Prelude.{cond, List, ℕ, zero, suc, ◌+◌, ltb, replicate, Float}
use Rattle.lapjv_definition.specs.Ca.{ca_dense}
use Rattle.lapjv_definition.specs.Carr.{carr_dence}
use Rattle.lapjv_definition.specs.Ccrt.{ccrt_dense}

-- ---- lines 344 to 347: while ret > 0 && i < 2

pub record Rounds : Type 0 where
  pub ret : ℕ
  pub turns : ℕ
  pub free_rows : List ℕ
  pub x : List ℕ
  pub y : List ℕ
  pub v : List Float

abbrev pub rounds_at : ℕ → ℕ → List ℕ → List ℕ → List ℕ → List Float → Rounds
rounds_at ret turns free_rows x y v = record { ret = ret; turns = turns; free_rows = free_rows; x = x; y = y; v = v }

-- ret = carr_dence(..)
abbrev pub round_step : ℕ → List Float → Rounds → Rounds
round_step n cost s =
    let c = carr_dence n cost s.ret s.free_rows s.x s.y s.v in
    rounds_at c.new_free_rows (s.turns + c.rr_cnt) c.free_rows c.x c.y c.v

-- the loop with 2 - i rounds to come
unfoldable pub rounds_from : ℕ → List Float → ℕ → Rounds → Rounds
rounds_from n cost zero s = s
rounds_from n cost (suc m) s =
    let r = rounds_from n cost m (round_step n cost s) in
    cond (ltb 0 s.ret) r s

-- lines 340 to 347
abbrev pub rounds : ℕ → List Float → Rounds
rounds n cost =
    let a = ccrt_dense n cost (replicate n 0) in
    rounds_from n cost 2 (rounds_at a.n_free_rows 0 a.free_rows a.x a.y a.v)

-- ---- the whole

-- ret is what line 351 tests: the Rust gives an error where it is above 0, which is never (`no_error` of `Bounds`)
pub record Assignment : Type 0 where
  pub ret : ℕ
  pub x : List ℕ
  pub y : List ℕ
  pub turns : ℕ
  pub scans : ℕ

abbrev pub assignment : ℕ → List ℕ → List ℕ → ℕ → ℕ → Assignment
assignment ret x y turns scans = record { ret = ret; x = x; y = y; turns = turns; scans = scans }

-- ca_dense returns 0
unfoldable pub lapjv : ℕ → List Float → Assignment
lapjv n cost =
    let b = rounds n cost in
    let e = ca_dense n cost b.ret b.free_rows b.x b.y b.v in
    cond (ltb 0 b.ret) (assignment 0 e.x e.y b.turns e.scans) (assignment b.ret b.x b.y b.turns 0)
