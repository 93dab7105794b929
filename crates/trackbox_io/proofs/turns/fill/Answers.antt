-- `turns::fill` meets its contract. Assumes nothing.
use Rattle.program_io.proofs.Laws.{front-within}
use Rattle.trackbox_io.proofs.turns.fill.Goals as goal

pub returns : goal.returns
returns c = front-within _ c.args.input.now c.read_input.result c.read_input.ensures
