-- `turns::turn` meets its contract: its three steps, one after the other. Assumes nothing.
use mathlib.Core.Path.{refl, sym, subst}
use lib.ListN.{length}
use Rattle.motbox_io.specs.Turn.{Stands}
use Rattle.motbox_io.proofs.TurnLaws.{stands-empties, stands-fills, used-empties, used-fills, turned}
use Rattle.motbox_io.proofs.turns.turn.Goals as goal

pub read_on-ready-requires : goal.read_on-ready-requires
read_on-ready-requires c = stands-empties _ c.args.p c.empty.result _ c.requires.fact_1 c.empty.ensures

pub take-requires : goal.take-requires
take-requires c =
    let s = c.args in
    let flushed = stands-empties _ s.p c.empty.result _ c.requires.fact_1 c.empty.ensures in
    let some = used-empties s.p c.empty.result (length s.out.now) _ c.requires.fact_2 c.empty.ensures in
    record {
      fact_1 = subst (Stands c.read_on-ready.result) (sym c.read_on-ready.auto.input) (stands-fills (length s.input.now) c.empty.result c.read_on-ready.result _ s.input.now c.read_on-ready.new.input refl flushed c.read_on-ready.ensures);
      fact_2 = used-fills c.empty.result c.read_on-ready.result (length s.out.now) _ s.input.now c.read_on-ready.new.input some c.read_on-ready.ensures;
    }

pub returns : goal.returns
returns c =
    turned c.args.p c.args.input.now c.args.out.now c.has_line.ensures c.dry-dry.ensures c.crowded.ensures c.empty.ensures c.read_on-ready.ensures c.take.ensures
