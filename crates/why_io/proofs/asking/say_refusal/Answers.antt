-- `asking::say_refusal` meets its contract: the words of a refusal. Assumes nothing.
use Rattle.why_io.proofs.SayLaws.{many_bytes, wrote_refused}
use Rattle.why_io.proofs.asking.say_refusal.Goals as goal

pub returns-in-Frame : goal.returns-in-Frame
returns-in-Frame c = rw c.in-Frame.is (wrote_refused c.args.first c.requires c.from.ensures c.write_refused.ensures (many_bytes c.write_refused.result c.unwrap_or.ensures))
