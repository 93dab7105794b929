-- `turns::turn` meets its contract: its three steps, one after the other. Assumes nothing.
use mathlib.Core.Path.{◌∙◌}
use native.Mathlib.Omega.{arith}
use Rattle.trackbox_io.proofs.TurnLaws.{stands-empties, stands-fills}
use Rattle.trackbox_io.proofs.turns.turn.Goals as goal

pub hand-requires : goal.hand-requires
hand-requires c =
    let size = c.requires.sizes in record {
      stands = stands-fills _ _ _ _ size.input (stands-empties _ _ _ c.requires.stands c.empty.ensures) c.read_on-ready.ensures;
      sizes = record {
        input = c.read_on-ready.auto.input ∙ size.input;
        text = size.text;
        floats = size.floats;
        counters = size.counters;
        labels = size.labels;
        boxes = size.boxes;
        box_labels = size.box_labels;
        output = size.output;
        doubles = size.doubles;
        singles = size.singles;
      };
    }

pub returns : goal.returns
returns c =
    record {
      flushed = c.empty.result;
      ready = c.read_on-ready.result;
      empties = c.empty.ensures;
      fills = c.read_on-ready.ensures;
      hands = c.hand.ensures;
    }

pub empty-requires : goal.empty-requires
empty-requires c = omega (arith, c.requires.stands.used, c.requires.sizes.text)
