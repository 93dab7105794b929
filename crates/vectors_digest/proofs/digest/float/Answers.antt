-- `vectors_digest::digest::float` meets its contract: what is joined is the element's word. Assumes nothing.
use mathlib.Core.Path.{ap, ◌∙◌}
use Rattle.vectors_digest.specs.Digest.{joined}
use Rattle.vectors_digest.proofs.digest.float.Goals as goal

pub returns : goal.returns
returns c = c.join.ensures ∙ ap (joined c.args.sum) c.word.ensures
