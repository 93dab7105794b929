-- `turns::run` meets its contract. The loop's invariant: the buffers keep their lengths, and the turns that were made are a run that has come this far.
-- Assumes nothing.
use mathlib.Core.Path.{◌≡◌, sym, subst}
use mathlib.Core.Bool.{false}
use mathlib.Core.Logic.{◌⊎◌, inl, inr}
use mathlib.Core.List.{[]}
use Prim.Native.Nat.{ℕ}
use native.Mathlib.Omega.{arith}
use lib.ListN.{replicate, length-replicate}
use borrow.Author.Tests.{not-false, not-true}
use Rattle.motbox_io.specs.declared.progress.Progress.{Progress}
use Rattle.motbox_io.specs.Turn.{input_bytes, output_bytes}
use Rattle.motbox_io.specs.Run.{begun, most_turns}
use Rattle.motbox_io.proofs.TurnLaws.{stands-empties}
use Rattle.motbox_io.proofs.Theorem.{running, Looping, loops_on, loop_ends}
use Rattle.motbox_io.proofs.turns.run.Goals.{else-loop-made-test, then-loop-made-test+then-not-now}
use Rattle.motbox_io.proofs.turns.run.Goals as goal

pub loop-made-init : goal.loop-made-init
loop-made-init c =
    let input_size = length-replicate {A = ℕ} input_bytes 0 in
    let out_size = length-replicate {A = ℕ} output_bytes 0 in
    subst (λ (p : Progress). Looping 0 p (replicate input_bytes 0) (replicate output_bytes 0)) (sym c.start-now.ensures) (record {
      input_size = input_size;
      out_size = out_size;
      read = [];
      written = [];
      run = begun (replicate input_bytes 0) (replicate output_bytes 0) (omega (arith, input_size)) (omega (arith, out_size));
    })

pub loop-made-preserved : goal.loop-made-preserved
loop-made-preserved c =
    let loop = c.loop-made in
    loops_on _ _ _ _ _ _ _ c.turn-now.auto.input c.turn-now.auto.out (not-false _ c.if-not-now.false) loop.invariant c.turn-now.ensures

pub returns : goal.returns
returns c =
    let loop = c.loop-made in
    let over : (loop.now.going ≡ false) ⊎ (loop._made ≡ most_turns) =
    elim c.loop-made-test.branch [ else-loop-made-test w ↦ inr (omega (arith, w.loop-made-test.false, loop.auto._made-end)) | then-loop-made-test+then-not-now w ↦ inl (not-true _ w.if-not-now.true) ] in
    loop_ends loop._made loop.now _ loop.input loop.out over loop.invariant c.empty-last.ensures

pub slice_bounds-turn-end : goal.slice_bounds-turn-end
slice_bounds-turn-end c = sym c.loop-made.invariant.input_size

pub turn-now-requires : goal.turn-now-requires
turn-now-requires c = let r = running c.loop-made.invariant.run in record { fact_1 = r.stands; fact_2 = r.used }

pub slice_bounds-empty-end : goal.slice_bounds-empty-end
slice_bounds-empty-end c = sym c.loop-made.invariant.out_size

pub empty-last-requires : goal.empty-last-requires
empty-last-requires c = (running c.loop-made.invariant.run).used

pub slice_bounds-tell-end : goal.slice_bounds-tell-end
slice_bounds-tell-end c = sym c.loop-made.invariant.input_size

pub tell-requires : goal.tell-requires
tell-requires c = let loop = c.loop-made in stands-empties _ loop.now _ _ (running loop.invariant.run).stands c.empty-last.ensures
