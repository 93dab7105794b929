-- `puts::put_word` meets its contract: the part that was lent comes back as the word. Assumes nothing.
use Rattle.std.proofs.Common.{le_refl}
use Rattle.why_words.proofs.puts.put_word.Goals as goal

pub returns : goal.returns
returns c =
    record { put = c.put_bytes.ensures; few = le_refl _ }
