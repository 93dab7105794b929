-- `vectors::part::floats` meets its contract: both places are within the slice. Assumes nothing.
use Rattle.vectors.proofs.Parts.{middle}
use Rattle.vectors.proofs.part.floats.Goals as goal

pub returns : goal.returns
returns c = middle _ _ _ _ _ c.at_most-e.ensures.value c.at_most-a.ensures.value
