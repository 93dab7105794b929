-- `bedside_update_answer` of include/bedside.h: an answer of `update` as the scope document's number, with 16 and 20 the index of the box, the state and the counts.
use Rattle.boost_tracker_table.specs.Lent.{Call, call_with}
use Rattle.boost_tracker_verdict.specs.Verdict.{answer}
use Rattle.boost_tracker.specs.Frame.{Memory}
use Rattle.boost_tracker.specs.declared.frame.UpdateAnswer.{UpdateAnswer}
use Rattle.bedside_answers.specs.declared.frame.Updated.{Updated}

abbrev pub updated_in_c : UpdateAnswer → Updated
updated_in_c a =
    record { refusal = (answer a.verdict).0; index = (answer a.verdict).1; state = a.state; emitted = a.emitted; turns = a.turns; scans = a.scans }

-- the answer of a call in C's form, and memory as it leaves it
abbrev pub call_in_c : Call UpdateAnswer Memory → Call Updated Memory
call_in_c k = call_with (updated_in_c k.answer) k.lent
