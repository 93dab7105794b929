-- `progress::answered` meets its contract: each arm is the definition's case. Assumes nothing.
use Rattle.trackbox_io.proofs.ProgressLaws.{taken-so, again_so, ended_so, short-so}
use Rattle.trackbox_io.proofs.progress.answered.Goals as goal

pub returns-in-Taken : goal.returns-in-Taken
returns-in-Taken c = taken-so c.args.p _ c.in-Taken.is c.later.ensures c.known.ensures

pub returns-in-Again : goal.returns-in-Again
returns-in-Again c = again_so c.args.p _ c.in-Again.is c.known-in-Again.ensures

pub returns-in-Ended : goal.returns-in-Ended
returns-in-Ended c = ended_so c.args.p _ c.in-Ended.is c.known-in-Ended.ensures

pub returns-in-Short : goal.returns-in-Short
returns-in-Short c = short-so c.args.p _ c.in-Short.is c.stopped.ensures
