-- The cases of `judged`, each with what its tests say. Assumes nothing.
use mathlib.Core.Path.{◌≡◌, refl}
use mathlib.Core.Bool.{Bool, true, false, cond, ◌||◌}
use Prim.Native.Nat.{ℕ, ◌+◌, ◌-◌, ◌≤◌, ◌<◌}
use native.Mathlib.Omega.{arith}
use lib.Dec.{eqb, leb, ltb}
use borrow.Author.Tests.{ltb-true, ltb-false, leb-true, leb-false, eqb-false}
use Rattle.laws.specs.Tests.{or_none}
use Rattle.std.proofs.Common.{Result, Ok, Err}
use Rattle.trackbox_stream.specs.declared.rules.OpenFrame.{OpenFrame}
use Rattle.trackbox_stream.specs.declared.rules.Refusal.TheVariants.{FrameBack, FrameFar, TooManyBoxes}
use Rattle.trackbox_stream.specs.declared.rules.Fault.{Fault}
use Rattle.trackbox_stream.specs.declared.rules.Next.{Next}
use Rattle.trackbox_stream.specs.declared.rules.Next.TheVariants as next
use Rattle.trackbox_stream.specs.Rules.{fault, opened, grown, judged}

-- not 0 and not below the previous
abbrev pub Ahead : OpenFrame → ℕ → Type 0
Ahead state frame = (eqb frame 0 || ltb frame state.frame) ≡ false

pub ahead-low : (state : OpenFrame) (frame : ℕ) → Ahead state frame → state.frame ≤ frame
ahead-low state frame e = ltb-false frame state.frame (or_none (eqb frame 0) (ltb frame state.frame) e).1

pub ahead-some : (state : OpenFrame) (frame : ℕ) → Ahead state frame → 0 < frame
ahead-some state frame e =
    let n : frame ≡ 0 → ⊥ = eqb-false frame 0 (or_none (eqb frame 0) (ltb frame state.frame) e).0 in
    omega arith

pub data Judges (state : OpenFrame) (nth frame : ℕ) : Result Next Fault → Type 0 where
  back : (eqb frame 0 || ltb frame state.frame) ≡ true → Judges state nth frame (Err (fault FrameBack nth))
  far : Ahead state frame → 1000 < frame - state.frame → Judges state nth frame (Err (fault FrameFar nth))
  later : Ahead state frame → frame - state.frame ≤ 1000 → state.frame < frame → Judges state nth frame (Ok (next.Later (frame - state.frame - 1) (opened nth frame)))
  full : Ahead state frame → frame ≡ state.frame → 64 ≤ state.boxes → Judges state nth frame (Err (fault TooManyBoxes nth))
  same : Ahead state frame → frame ≡ state.frame → state.boxes < 64 → Judges state nth frame (Ok (next.Same (grown state nth (state.boxes + 1))))

-- `judged` behind its four tests
abbrev at_limit : OpenFrame → ℕ → Bool → Result Next Fault
at_limit state nth b = cond b (Err (fault TooManyBoxes nth)) (Ok (next.Same (grown state nth (state.boxes + 1))))

abbrev at_turn : OpenFrame → ℕ → ℕ → Bool → Result Next Fault
at_turn state nth frame b = cond b (Ok (next.Later (frame - state.frame - 1) (opened nth frame))) (at_limit state nth (leb 64 state.boxes))

abbrev at_step : OpenFrame → ℕ → ℕ → Bool → Result Next Fault
at_step state nth frame b = cond b (Err (fault FrameFar nth)) (at_turn state nth frame (ltb state.frame frame))

abbrev at_number : OpenFrame → ℕ → ℕ → Bool → Result Next Fault
at_number state nth frame b = cond b (Err (fault FrameBack nth)) (at_step state nth frame (ltb 1000 (frame - state.frame)))

pub judges : (state : OpenFrame) (nth frame : ℕ) → Judges state nth frame (judged state nth frame)
unfolding judged
judges state nth frame = of_number (eqb frame 0 || ltb frame state.frame) refl
  where
    of_limit : (b : Bool) → leb 64 state.boxes ≡ b → Ahead state frame → frame ≡ state.frame → Judges state nth frame (at_limit state nth b)
    of_limit true e a q = full a q (leb-true 64 state.boxes e)
    of_limit false e a q = same a q (leb-false 64 state.boxes e)

    of_turn : (b : Bool) → ltb state.frame frame ≡ b → Ahead state frame → frame - state.frame ≤ 1000 → Judges state nth frame (at_turn state nth frame b)
    of_turn true e a n = later a n (ltb-true state.frame frame e)
    of_turn false e a n =
        let low = ahead-low state frame a in
        let high = ltb-false state.frame frame e in
        of_limit (leb 64 state.boxes) refl a (omega arith)

    of_step : (b : Bool) → ltb 1000 (frame - state.frame) ≡ b → Ahead state frame → Judges state nth frame (at_step state nth frame b)
    of_step true e a = far a (ltb-true 1000 (frame - state.frame) e)
    of_step false e a = of_turn (ltb state.frame frame) refl a (ltb-false 1000 (frame - state.frame) e)

    of_number : (b : Bool) → (eqb frame 0 || ltb frame state.frame) ≡ b → Judges state nth frame (at_number state nth frame b)
    of_number true e = back e
    of_number false e = of_step (ltb 1000 (frame - state.frame)) refl e
