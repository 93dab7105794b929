-- `box_verdict::bad_box` meets its contract: each test is the definition's. Assumes nothing.
use mathlib.Core.Path.{◌≡◌, refl}
use mathlib.Core.Bool.{Bool, true, false, ◌&&◌}
use mathlib.Core.List.{[], ◌∷◌}
use lib.Ieee.{Float}
use lib.Ieee.Scale.{finite}
use Rattle.laws.specs.Every.{every}
use Rattle.box_verdict.specs.Box.{bad_box}
use Rattle.box_verdict.proofs.bad_box.Goals as goal

and_true : (a : Bool) → a ≡ (a && true)
and_true true = refl
and_true false = refl

-- the outcomes are given as the code has them
all-finite : (a b c d e : Float) {ra rb rc rd re : Bool} → ra ≡ finite a → rb ≡ finite b → rc ≡ finite c → rd ≡ finite d → re ≡ finite e
    → (ra && (rb && (rc && (rd && re)))) ≡ every finite (a ∷ b ∷ c ∷ d ∷ e ∷ [])
unfolding every
all-finite a b c d e ha hb hc hd he = rw (ha, hb, hc, hd, he, ← and_true (finite e))

pub returns : goal.returns
unfolding bad_box
returns c =
    let a = c.args in
    let finites = all-finite a.left a.top a.width a.height a.score c.finite.ensures c.finite-2.ensures c.finite-3.ensures c.finite-4.ensures c.finite-5.ensures in
    rw (← finites, c.beyond-4.ensures, c.beyond-3.ensures, c.beyond-2.ensures, c.beyond.ensures)
