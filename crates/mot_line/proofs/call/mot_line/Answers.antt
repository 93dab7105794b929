-- `call::mot_line` meets its contract: each return is a case of the definition. Assumes nothing.
use mathlib.Core.Path.{◌≡◌}
use mathlib.Core.List.{List}
use Prim.Native.Nat.{ℕ}
use Rattle.std.proofs.Common.{rules, Option, None, Result, Err}
use Rattle.std.specs.Option.{ok_or}
use Rattle.mot_line.specs.declared.call.Refusal.{Refusal}
use Rattle.mot_line.specs.Call.{Outcome, outcome}
use Rattle.mot_line.proofs.Answers.{no_form, bad-values, no_room, is_read}
use Rattle.mot_line.proofs.call.mot_line.Goals as goal

-- what `ok_or` made of nothing is handed on
handed : {A : Type 0} (o : Option A) (r : Result ℕ Refusal) (why x : Refusal) (out : List ℕ) (ends : Outcome) → r ≡ Err x → ◌≡◌ {A = Result A Refusal} (Err x) (ok_or o why) → o ≡ None → outcome (Err why) out ≡ ends → outcome r out ≡ ends
handed o r why x out ends e f g h = let i : ◌≡◌ {A = Result _ Refusal} (Err x) (Err why) = (rw g at f) in let j : x ≡ why = cc in rw (e, j) h

pub returns-in_err-b : goal.returns-in_err-b
returns-in_err-b c =
    let s = c.args in
    let e : c.from_residual.result ≡ Err c.in_err-b.field-0.0 = search rules in
    let none = c.in_err-b.ensures.ok_part in
    handed _ _ _ _ s.out.now _ e c.in_err-b.ensures.value none (no_form s.line.now s.previous s.out.now c.box_of_line.result c.box_of_line.ensures none)

pub returns-then-bad_value : goal.returns-then-bad_value
returns-then-bad_value c =
    let s = c.args in
    bad-values s.line.now s.previous s.out.now c.box_of_line.result c.box_of_line.ensures c.in_ok-b.b c.in_ok-b.ensures.ok_part c.bad_value.result c.bad_value.ensures c.if-bad_value.true

pub returns-in_err-ok_or : goal.returns-in_err-ok_or
returns-in_err-ok_or c =
    let s = c.args in
    let e : c.from_residual-in_err-ok_or.result ≡ Err c.in_err-ok_or.field-0.0 = search rules in
    let none = c.in_err-ok_or.ensures.ok_part in
    handed _ _ _ _ c.write_box.new.out _ e c.in_err-ok_or.ensures.value none
    (no_room s.line.now s.previous s.out.now c.box_of_line.result c.box_of_line.ensures c.in_ok-b.b c.in_ok-b.ensures.ok_part c.bad_value.result c.bad_value.ensures c.if-bad_value.false
    c.write_box.result c.write_box.new.out c.write_box.ensures none)

pub returns : goal.returns
returns c =
    let s = c.args in
    is_read s.line.now s.previous s.out.now c.box_of_line.result c.box_of_line.ensures c.in_ok-b.b c.in_ok-b.ensures.ok_part c.bad_value.result c.bad_value.ensures c.if-bad_value.false
    c.write_box.result c.write_box.new.out c.write_box.ensures _ c.in_ok-ok_or.ensures.ok_part
