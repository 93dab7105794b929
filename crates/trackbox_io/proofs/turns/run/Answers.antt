-- `turns::run` is safe and ends, and no more is left than there was. The loop's invariant: the arrays keep their lengths, what was read and what waits lies in them, and what was handed to the output and
-- waits for it is what trackbox prints of the bytes that were read (specs/Printed.antt). Assumes nothing.
use mathlib.Core.Path.{refl, sym, subst, ◌∙◌}
use Prim.Native.Nat.{ℕ}
use native.Mathlib.Omega.{arith}
use lib.ListN.{replicate, length-replicate}
use lib.Ieee.{binary32, binary64, of_bits}
use Rattle.trackbox_progress.specs.declared.progress.Progress.{Progress}
use Rattle.trackbox_feed.specs.Trackbox.{lent_floats, lent_counters, lent_labels, lent_boxes, lent_box_labels, lent_output, lent_doubles, lent_singles}
use Rattle.trackbox_io.specs.Turn.{text_bytes, input_bytes, Arrays, arrays, Sizes}
use Rattle.trackbox_io.proofs.Filling.{start_along}
use borrow.Author.Tests.{not-false}
use Rattle.trackbox_io.proofs.TurnLaws.{Running, runs_on, ends-leaves}
use Rattle.trackbox_io.proofs.turns.run.Goals as goal

abbrev zeros : Arrays
zeros =
    arrays (replicate input_bytes 0) (replicate text_bytes 0) (replicate lent_floats (of_bits binary32 0)) (replicate lent_counters 0) (replicate lent_labels 0) (replicate lent_boxes (of_bits binary32 0))
    (replicate lent_box_labels 0) (replicate lent_output 0) (replicate lent_doubles (of_bits binary64 0)) (replicate lent_singles (of_bits binary32 0))

zeros-sized : Sizes zeros
zeros-sized = record {
  input = length-replicate {A = ℕ} input_bytes 0;
  text = length-replicate {A = ℕ} text_bytes 0;
  floats = length-replicate lent_floats (of_bits binary32 0);
  counters = length-replicate {A = ℕ} lent_counters 0;
  labels = length-replicate {A = ℕ} lent_labels 0;
  boxes = length-replicate lent_boxes (of_bits binary32 0);
  box_labels = length-replicate {A = ℕ} lent_box_labels 0;
  output = length-replicate {A = ℕ} lent_output 0;
  doubles = length-replicate lent_doubles (of_bits binary64 0);
  singles = length-replicate lent_singles (of_bits binary32 0);
}

pub turns-init : goal.turns-init
turns-init c =
    subst (λ (p : Progress). Running p zeros) (sym c.start-now.ensures) (record {
      sizes = zeros-sized;
      stands = record { used = omega arith; got = omega arith };
      along = start_along c.args.bytes zeros refl zeros-sized.boxes zeros-sized.box_labels;
    })

pub turns-preserved : goal.turns-preserved
turns-preserved c =
    let loop = c.turns in
    let size = loop.invariant.sizes in
    runs_on _ _ _ _ (record {
      input = c.turn-now.auto.input ∙ size.input;
      text = c.turn-now.auto.text ∙ size.text;
      floats = c.turn-now.auto.floats ∙ size.floats;
      counters = c.turn-now.auto.counters ∙ size.counters;
      labels = c.turn-now.auto.labels ∙ size.labels;
      boxes = c.turn-now.auto.boxes ∙ size.boxes;
      box_labels = c.turn-now.auto.box_labels ∙ size.box_labels;
      output = c.turn-now.auto.out ∙ size.output;
      doubles = c.turn-now.auto.work64 ∙ size.doubles;
      singles = c.turn-now.auto.work32 ∙ size.singles;
    }) (not-false loop.now.going c.if-not-now.false) loop.invariant c.turn-now.ensures

pub slice_bounds-turn-end : goal.slice_bounds-turn-end
slice_bounds-turn-end c = sym c.turns.invariant.sizes.input

pub slice_bounds-turn-end-in-turns : goal.slice_bounds-turn-end-in-turns
slice_bounds-turn-end-in-turns c = sym c.turns.invariant.sizes.text

pub slice_bounds-turn-end-in-turns-2 : goal.slice_bounds-turn-end-in-turns-2
slice_bounds-turn-end-in-turns-2 c = sym c.turns.invariant.sizes.floats

pub slice_bounds-turn-end-in-turns-3 : goal.slice_bounds-turn-end-in-turns-3
slice_bounds-turn-end-in-turns-3 c = sym c.turns.invariant.sizes.counters

pub slice_bounds-turn-end-in-turns-4 : goal.slice_bounds-turn-end-in-turns-4
slice_bounds-turn-end-in-turns-4 c = sym c.turns.invariant.sizes.labels

pub slice_bounds-turn-end-in-turns-5 : goal.slice_bounds-turn-end-in-turns-5
slice_bounds-turn-end-in-turns-5 c = sym c.turns.invariant.sizes.boxes

pub slice_bounds-turn-end-in-turns-6 : goal.slice_bounds-turn-end-in-turns-6
slice_bounds-turn-end-in-turns-6 c = sym c.turns.invariant.sizes.box_labels

pub slice_bounds-turn-end-in-turns-7 : goal.slice_bounds-turn-end-in-turns-7
slice_bounds-turn-end-in-turns-7 c = sym c.turns.invariant.sizes.output

pub slice_bounds-turn-end-in-turns-8 : goal.slice_bounds-turn-end-in-turns-8
slice_bounds-turn-end-in-turns-8 c = sym c.turns.invariant.sizes.doubles

pub slice_bounds-turn-end-in-turns-9 : goal.slice_bounds-turn-end-in-turns-9
slice_bounds-turn-end-in-turns-9 c = sym c.turns.invariant.sizes.singles

pub turn-now-requires : goal.turn-now-requires
turn-now-requires c = record { stands = c.turns.invariant.stands; sizes = c.turns.invariant.sizes }

pub slice_bounds-end-end : goal.slice_bounds-end-end
slice_bounds-end-end c = sym c.turns.invariant.sizes.text

pub end-requires : goal.end-requires
end-requires c = omega (arith, c.turns.invariant.stands.used, c.turns.invariant.sizes.text)

pub returns : goal.returns
returns c = ends-leaves c.turns.now _ c.end.result c.end.ensures
