-- `verdict::unlabelled` meets its contract. Assumes nothing.
use Rattle.assoc_verdict.proofs.verdict.unlabelled.Goals as goal

pub returns : goal.returns
returns c = rw c.first_unlabelled.ensures
