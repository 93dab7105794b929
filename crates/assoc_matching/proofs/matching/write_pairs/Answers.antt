-- `matching::write_pairs` meets its contract. Assumes nothing.
use Rattle.std.proofs.Common.{rules, get_or}
use Rattle.assoc_matching.proofs.matching.write_pairs.Goals as goal

pub returns : goal.returns
returns c = c.put_pairs.ensures (λ i. get_or c.args.partner.now i 0) (λ i j h k. search rules) c.requires
