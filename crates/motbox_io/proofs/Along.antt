-- What holds after the turns of a run: `rest` is what was read behind the lines that are taken, and whatever follows it, its records come behind those that were written or wait.
use mathlib.Core.Path.{◌≡◌}
use mathlib.Core.Bool.{true, false, ◌||◌}
use mathlib.Core.List.{List, ◌++◌}
use Prim.Native.Nat.{ℕ}
use Rattle.motbox_io.specs.declared.progress.Progress.{Progress}
use Rattle.motbox_io.specs.Text.{lines_of, converting, behind, converted, motbox}
use Rattle.motbox_io.specs.Turn.{held}
use Rattle.motbox_io.specs.Run.{waiting}
use Rattle.motbox_io.specs.Printed.{Onward, line_at}

pub record Along (read written : List ℕ) (p : Progress) (input out : List ℕ) : Type 0 where
  pub rest : List ℕ
  pub is_held : p.going ≡ true → rest ≡ held p input
  -- in a run that goes on no call failed, and no line was turned away
  pub sound : p.going ≡ true → (p.failed ≡ false) × (p.refusal ≡ 0)
  pub goes : (p.going || p.failed) ≡ true → (tail : List ℕ) → Onward p tail → motbox (read ++ tail) ≡ behind (written ++ waiting p out) (converted p.previous p.lines (lines_of (rest ++ tail)))
  pub done : (p.going || p.failed) ≡ false → (tail : List ℕ) → Onward p tail → motbox (read ++ tail) ≡ converting (written ++ waiting p out) p.refusal (line_at p)
