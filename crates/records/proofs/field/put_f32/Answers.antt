-- `records::field::put_f32` meets its contract. Assumes nothing.
use mathlib.Core.Path.{◌∙◌, ap}
use Rattle.std.specs.Int.{bytes_low_first}
use Rattle.records.proofs.Puts.{put-le}
use Rattle.records.proofs.field.put_f32.Goals as goal

pub returns : goal.returns
returns c = put-le 4 _ (c.to_le_bytes.ensures ∙ ap (bytes_low_first 0 4) c.bits.ensures) c.put_bytes.ensures
