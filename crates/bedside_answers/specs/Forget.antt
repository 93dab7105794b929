-- `bedside_forgotten` of include/bedside.h: an answer of `forget` or `forget_set` as document 02's number, and the state.
use Rattle.boost_tracker_table.specs.Lent.{Table, Call, call_with}
use Rattle.boost_tracker_forget.specs.Forget.{answer}
use Rattle.boost_tracker_forget.specs.declared.drops.Forgotten.{Forgotten}
use Rattle.bedside_answers.specs.declared.forget.ForgetAnswer.{ForgetAnswer}

abbrev pub forgotten_in_c : Forgotten → ForgetAnswer
forgotten_in_c a = record { refusal = answer a.verdict; state = a.state }

-- the answer of a call in C's form, and the table as it leaves it
abbrev pub call_in_c : Call Forgotten Table → Call ForgetAnswer Table
call_in_c k = call_with (forgotten_in_c k.answer) k.lent
