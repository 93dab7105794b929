-- `carr_dence` meets its contract. The invariant: what is left of the definition's turns gives the whole, and the turns so far are few (`CarrOk`); the measure is what is left of n_free_rows × n turns. Assumes nothing.
use Rattle.lapjv_definition.proofs.CarrLaws.{carr_again, carr-done, carr-less}
use Rattle.lapjv_reduction.proofs.carr.carr_dence.Goals as goal

pub loop-s-smaller : goal.loop-s-smaller
loop-s-smaller c =
    carr-less c.loop-s.invariant c.args.costs.square.some c.loop-s-test.true c.carr_turn-s.ensures

pub loop-s-preserved : goal.loop-s-preserved
loop-s-preserved c =
    carr_again c.loop-s.invariant c.args.costs.square.some c.requires.0 c.loop-s-test.true c.carr_turn-s.ensures

pub returns : goal.returns
returns c = carr-done c.loop-s.invariant c.loop-s-test.false
