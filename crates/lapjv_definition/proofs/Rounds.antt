-- lapjv's tests `ret > 0` change nothing: with no free row, a round and ca_dense do nothing and count nothing. Assumes nothing.
use mathlib.Core.Path.{◌≡◌, refl, sym, ap, ◌∙◌}
use mathlib.Core.Bool.{cond}
use mathlib.Core.List.{List}
use Prim.Native.Nat.{ℕ, zero, suc, ◌+◌}
use native.Mathlib.Omega.{arith}
use native.Mathlib.Nat.{zero-mul, add-zero}
use borrow.Author.Tests.{lt-ltb}
use lib.Dec.{ltb}
use lib.ListN.{replicate}
use lib.Ieee.{Float}
use Rattle.lapjv_definition.specs.Ca.{assigned, ca_from}
use Rattle.lapjv_definition.specs.Carr.{Carrying, carrying, carr_from, carr_dence}
use Rattle.lapjv_definition.specs.Ccrt.{ccrt_dense}
use Rattle.lapjv_definition.specs.Lapjv.{Assignment, assignment, Rounds, rounds_at, round_step, rounds_from, lapjv}

-- a round with no free row
carr-none : (n : ℕ) (cost : List Float) (free_rows x y : List ℕ) (v : List Float) → carr_dence n cost 0 free_rows x y v ≡ carrying 0 0 0 free_rows x y v
unfolding carr_from
carr-none n cost free_rows x y v = rw (zero-mul n)

round_none : (n : ℕ) (cost : List Float) (t : ℕ) (free_rows x y : List ℕ) (v : List Float) → round_step n cost (rounds_at 0 t free_rows x y v) ≡ rounds_at 0 t free_rows x y v
round_none n cost t free_rows x y v =
    ap (λ (c : Carrying). rounds_at c.new_free_rows (t + c.rr_cnt) c.free_rows c.x c.y c.v) (carr-none n cost free_rows x y v)
    ∙ ap (λ (k : ℕ). rounds_at 0 k free_rows x y v) (add-zero t)

round_stop : (n : ℕ) (cost : List Float) (m t : ℕ) (free_rows x y : List ℕ) (v : List Float) → rounds_from n cost m (rounds_at 0 t free_rows x y v) ≡ rounds_at 0 t free_rows x y v
unfolding rounds_from
round_stop n cost zero t free_rows x y v = refl
round_stop n cost (suc m) t free_rows x y v = refl

round_next : (n : ℕ) (cost : List Float) (m r t : ℕ) (free_rows x y : List ℕ) (v : List Float)
    → rounds_from n cost (suc m) (rounds_at r t free_rows x y v) ≡ rounds_from n cost m (round_step n cost (rounds_at r t free_rows x y v))
unfolding rounds_from
round_next n cost m zero t free_rows x y v = sym (ap (rounds_from n cost m) (round_none n cost t free_rows x y v) ∙ round_stop n cost m t free_rows x y v)
round_next n cost m (suc r) t free_rows x y v = rw (lt-ltb 0 (suc r) (omega arith))

pub two-rounds : (n : ℕ) (cost : List Float) (s : Rounds) → rounds_from n cost 2 s ≡ round_step n cost (round_step n cost s)
unfolding rounds_from
two-rounds n cost s = round_next n cost 1 s.ret s.turns s.free_rows s.x s.y s.v ∙ round_next n cost 0 w.ret w.turns w.free_rows w.x w.y w.v
  where
    w : Rounds
    w = round_step n cost s

-- what lapjv gives after its loop, the test left out
abbrev pub finished : ℕ → List Float → Rounds → Assignment
finished n cost b =
    let e = ca_from n cost b.free_rows b.ret 0 (assigned b.x b.y b.v 0) in
    assignment 0 e.x e.y b.turns e.scans

last_test : (n : ℕ) (cost : List Float) (r t : ℕ) (free_rows x y : List ℕ) (v : List Float)
    → cond (ltb 0 r) (finished n cost (rounds_at r t free_rows x y v)) (assignment r x y t 0) ≡ finished n cost (rounds_at r t free_rows x y v)
unfolding ca_from
last_test n cost zero t free_rows x y v = refl
last_test n cost (suc r) t free_rows x y v = rw (lt-ltb 0 (suc r) (omega arith))

pub lapjv_plain : (n : ℕ) (cost : List Float)
    → lapjv n cost ≡ finished n cost (round_step n cost (round_step n cost (let a = ccrt_dense n cost (replicate n 0) in rounds_at a.n_free_rows 0 a.free_rows a.x a.y a.v)))
unfolding lapjv
lapjv_plain n cost =
    last_test n cost b.ret b.turns b.free_rows b.x b.y b.v
    ∙ ap (finished n cost) (two-rounds n cost (let a = ccrt_dense n cost (replicate n 0) in rounds_at a.n_free_rows 0 a.free_rows a.x a.y a.v))
  where
    b : Rounds
    b = rounds_from n cost 2 (let a = ccrt_dense n cost (replicate n 0) in rounds_at a.n_free_rows 0 a.free_rows a.x a.y a.v)
