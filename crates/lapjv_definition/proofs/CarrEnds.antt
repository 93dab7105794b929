-- carr_dence, of the definition alone: it ends with no row left to turn, in at most nfree × n turns, with each row once some column's or once free. Assumes nothing.
use mathlib.Core.Path.{refl}
use mathlib.Core.List.{List}
use Prim.Native.Nat.{ℕ, zero, suc, ◌+◌, ◌*◌, ◌<◌, ◌≤◌}
use native.Mathlib.Omega.{arith}
use native.Mathlib.Decide.{dec_lt}
use native.Mathlib.Nat.{mul-le-mul_right}
use lib.Ieee.{Float}
use Rattle.lapjv_definition.specs.Carr.{Carrying, carrying, carr_turn, carr_from, carr_dence}
use Rattle.lapjv_definition.proofs.CarrLaws.{CarrOk, turn_take, turn_ok, turns-one, from_turn, from-stop}
use Rattle.lapjv_definition.proofs.Own.{Own, own-take}

own_turn : (n n_free_rows : ℕ) (cost : List Float) (s : Carrying) → 1 ≤ n → n_free_rows ≤ n → CarrOk n n_free_rows s → Own n n_free_rows s → s.current < n_free_rows → Own n n_free_rows (carr_turn n cost s)
own_turn n n_free_rows cost s some nf ok own more =
    let k = turn_take n cost s some in
    rw k.turn (own-take n n_free_rows s own ok.len_y ok.len_x ok.len_free more nf ok.new k.v k.j k.col (ok.below s.current more) k.retry)

pub record Ended (n n_free_rows : ℕ) (s : Carrying) : Type 0 where
  pub ok : CarrOk n n_free_rows s
  pub own : Own n n_free_rows s
  pub done : n_free_rows ≤ s.current

-- with fuel for what is left of nfree × n turns
ends : (n n_free_rows : ℕ) (cost : List Float) → 1 ≤ n → n_free_rows ≤ n → (m : ℕ) (s : Carrying) → CarrOk n n_free_rows s → Own n n_free_rows s → n_free_rows * n ≤ s.rr_cnt + m
    → Ended n n_free_rows (carr_from n cost n_free_rows m s)
ends n n_free_rows cost some nf zero s ok own fuel = go (dec_lt s.current n_free_rows)
  where
    go : Dec (s.current < n_free_rows) → Ended n n_free_rows (carr_from n cost n_free_rows zero s)
    go (yes h) = absurd (omega (arith, mul-le-mul_right {m = s.current + 1} {n = n_free_rows} n (omega arith), ok.room))
    go (no h) = rw (from-stop n cost n_free_rows zero s (omega arith)) (record { ok = ok; own = own; done = omega arith })
ends n n_free_rows cost some nf (suc m) s ok own fuel = go (dec_lt s.current n_free_rows) (λ h. ends n n_free_rows cost some nf m (carr_turn n cost s) (turn_ok n n_free_rows cost s some nf ok h) (own_turn n n_free_rows cost s some nf ok own h) (omega (arith, turns-one n cost s)))
  where
    go : Dec (s.current < n_free_rows) → (s.current < n_free_rows → Ended n n_free_rows (carr_from n cost n_free_rows m (carr_turn n cost s))) → Ended n n_free_rows (carr_from n cost n_free_rows (suc m) s)
    go (yes h) ih = rw (from_turn n cost n_free_rows (suc m) m s refl h) (ih h)
    go (no h) ih = rw (from-stop n cost n_free_rows (suc m) s (omega arith)) (record { ok = ok; own = own; done = omega arith })

-- THE BOUND: at most nfree × n row turns, and none left to do
pub carr-ends : (n n_free_rows : ℕ) (cost : List Float) (free_rows x y : List ℕ) (v : List Float) → 1 ≤ n → n_free_rows ≤ n
    → CarrOk n n_free_rows (carrying 0 0 0 free_rows x y v) → Own n n_free_rows (carrying 0 0 0 free_rows x y v)
    → Ended n n_free_rows (carr_dence n cost n_free_rows free_rows x y v)
carr-ends n n_free_rows cost free_rows x y v some nf ok own = ends n n_free_rows cost some nf (n_free_rows * n) (carrying 0 0 0 free_rows x y v) ok own (omega arith)
