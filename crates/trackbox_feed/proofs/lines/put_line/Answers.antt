-- `lines::put_line` meets its contract: a line has room in LINE_BYTES bytes. Assumes nothing.
use native.Mathlib.Omega.{arith}
use Rattle.std.proofs.Common.{rules}
use Rattle.records_line.specs.Line.{line_bytes}
use Rattle.trackbox_feed.proofs.LineLaws.{line-room, fitted, count-is, put-within}
use Rattle.trackbox_feed.proofs.lines.put_line.Goals as goal

pub unwrap-requires : goal.unwrap-requires
unwrap-requires c = rw (fitted _ _ _ line_bytes c.requires (line-room c.args.t) _ _ c.write_line.ensures).0 (search rules)

pub overflow_add-result : goal.overflow_add-result
overflow_add-result c =
    let wrote = c.write_line.ensures in
    let room = line-room c.args.t in
    omega (arith, c.requires, room, count-is _ _ _ line_bytes c.requires room _ _ wrote c.unwrap.ensures)

pub returns : goal.returns
returns c =
    let wrote = c.write_line.ensures in
    let room = line-room c.args.t in
    record {
      put = put-within _ _ _ line_bytes c.requires room _ _ wrote c.unwrap.ensures;
      upper_bound = omega (arith, room, count-is _ _ _ line_bytes c.requires room _ _ wrote c.unwrap.ensures);
    }
