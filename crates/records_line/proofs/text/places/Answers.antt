-- `records_line::text::places` meets its contract. Assumes nothing.
use Rattle.records_line.proofs.Placing.{counted}
use Rattle.records_line.proofs.text.places.Goals as goal

pub returns : goal.returns
returns c = counted _ c.args.n _ c.max.ensures c.ranges.n.fits c.ilog10.ensures.power_le c.ilog10.ensures.next_power_gt
