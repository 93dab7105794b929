-- `vectors_digest::random::next` meets its contract: the code's steps are the definition's. Assumes nothing.
use mathlib.Core.Path.{refl}
use Rattle.vectors_digest.specs.Random.{next}
use Rattle.vectors_digest.proofs.random.next.Goals as goal

pub returns : goal.returns
unfolding next
returns c = refl
