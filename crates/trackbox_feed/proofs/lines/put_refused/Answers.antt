-- `lines::put_refused` meets its contract: the line of a refusal has room. Assumes nothing.
use Rattle.std.proofs.Common.{rules}
use Rattle.trackbox_feed.proofs.LineLaws.{refused-put, refused-fitted}
use Rattle.trackbox_feed.proofs.lines.put_refused.Goals as goal

pub unwrap-requires : goal.unwrap-requires
unwrap-requires c = rw (refused-fitted _ _ _ _ _ c.requires c.write_refused.ensures) (search rules)

pub returns : goal.returns
returns c = refused-put _ _ _ _ _ c.requires c.write_refused.ensures c.unwrap.ensures
