-- `records::field::put_u8` meets its contract: a u8 is its own lowest byte. Assumes nothing.
use Rattle.records.proofs.Puts.{put_small}
use Rattle.records.proofs.field.put_u8.Goals as goal

pub returns : goal.returns
returns c = put_small _ c.ranges.n.fits c.put_bytes.ensures
