-- `lines::track` meets its contract: there is a record k. Assumes nothing.
use mathlib.Core.Path.{◌∙◌}
use Rattle.std.proofs.Common.{rules}
use Rattle.trackbox_feed.proofs.LineLaws.{is_read, read_is}
use Rattle.trackbox_feed.proofs.lines.track.Goals as goal

pub unwrap-requires : goal.unwrap-requires
unwrap-requires c = rw (c.read_track.ensures ∙ is_read _ _ c.requires) (search rules)

pub returns : goal.returns
returns c = read_is _ _ c.requires _ c.read_track.ensures c.unwrap.ensures
