-- No count grows too large: an open frame has at most 64 boxes, a record skips fewer than 1000 frames, and there are at most 64 records for each frame number. Assumes nothing.
use mathlib.Core.Path.{◌≡◌}
use Prim.Native.Nat.{ℕ, ◌+◌, ◌-◌, ◌*◌, ◌≤◌, ◌<◌, zero-le}
use native.Mathlib.Omega.{arith}
use Rattle.std.proofs.Common.{Result}
use Rattle.trackbox_stream.specs.declared.rules.OpenFrame.{OpenFrame}
use Rattle.trackbox_stream.specs.declared.rules.Fault.{Fault}
use Rattle.trackbox_stream.specs.declared.rules.Next.{Next}
use Rattle.trackbox_stream.specs.Rules.{start, nth_after, opened, grown, judged}
use Rattle.trackbox_stream.specs.Laws.{frame_numbers, Sound, Goes, on, over, stop}
use Rattle.trackbox_stream.proofs.Cases.{ahead-some, Judges, back, far, later, full, same, judges}

pub few-records : (state : OpenFrame) → Sound state → state.records ≤ 64 * state.frame
few-records state h = omega (arith, h.counts, h.early, h.most, h.none)

-- a u64 counts the records exactly
pub exact : (state : OpenFrame) → Sound state → nth_after state.records ≡ state.records + 1
exact state h = let few = few-records state h in let wide = h.wide in omega arith

pub sound-start : Sound start
sound-start = record { counts = omega arith; early = omega arith; most = zero-le; none = zero-le; wide = omega arith }

pub sound-opened : (state : OpenFrame) (nth frame : ℕ) → Sound state → nth ≡ state.records + 1 → state.frame < frame → frame < frame_numbers → Sound (opened nth frame)
sound-opened state nth frame h e l w =
    let few = few-records state h in
    record { counts = omega arith; early = omega arith; most = omega arith; none = omega arith; wide = w }

pub sound-grown : (state : OpenFrame) (nth : ℕ) → Sound state → nth ≡ state.records + 1 → 0 < state.frame → state.boxes < 64 → Sound (grown state nth (state.boxes + 1))
sound-grown state nth h e p b = record { counts = omega (arith, h.counts); early = h.early; most = omega arith; none = omega arith; wide = h.wide }

pub goes : (state : OpenFrame) (frame : ℕ) → Sound state → frame < frame_numbers → Goes (judged state (nth_after state.records) frame)
goes state frame h w = by_cases (judged state (nth_after state.records) frame) (judges state (nth_after state.records) frame)
  where
    by_cases : (n : Result Next Fault) → Judges state (nth_after state.records) frame n → Goes n
    by_cases n (back e) = stop _ _
    by_cases n (far a m) = stop _ _
    by_cases n (later a m l) = over {m = frame - state.frame - 1} (omega arith) (sound-opened state (nth_after state.records) frame h (exact state h) l w)
    by_cases n (full a q m) = stop _ _
    by_cases n (same a q m) = let p = ahead-some state frame a in on (sound-grown state (nth_after state.records) h (exact state h) (omega arith) m)
