-- `vectors::input::bytes` meets its contract: reading keeps the length of the part. Assumes nothing.
use mathlib.Core.Path.{ap, ◌∙◌}
use lib.ListN.{length}
use Rattle.vectors.proofs.input.bytes.Goals as goal

pub returns : goal.returns
returns c =
    c.read_full.auto.buf ∙ ap length c.first-part.ensures
