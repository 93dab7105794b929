-- THE THEOREMS of a fault. `laws` of proofs/Theorem.antt proves them.
use Rattle.std.specs.Prelude.{◌≡◌, Bool, true, false, cond, List, ℕ, ◌≤◌, length, ⊤, Result, Ok, Err}
use Rattle.records.specs.BoxRecord.{box_bytes}
use Rattle.mot_number.specs.Number.{is_frame, is_number}
use Rattle.mot_fields.specs.Fields.{is_minus_one}
use Rattle.mot_line.specs.Call.{refusal_number, mot_line}
use Rattle.mot_fault.specs.declared.kinds.Fault.{Fault}
use Rattle.mot_fault.specs.declared.kinds.Fault.TheVariants.{NoLineFeed, EmptyLine, CarriageReturn, FieldCount, Empty, OtherByte, MinusAlone, NoDigits, ManyDigits, NoDecimals, ManyDecimals, NotMinusOne, FilledId}
use Rattle.mot_fault.specs.declared.kinds.Fault.TheVariants.{FrameZero, FrameBack, FirstFrameFar, FrameFar, NotAboveZero, Beyond, BelowZero, AboveOne}
use Rattle.mot_fault.specs.declared.kinds.Found.{Found}
use Rattle.mot_fault.specs.declared.kinds.Report.{Report}
use Rattle.mot_fault.specs.Form.{digits_fault, number_fault, minus_one_fault, id_fault}
use Rattle.mot_fault.specs.Line.{report_of}

-- ---- the refusal that a fault belongs to: 51 of a form, and 52 of a value

abbrev pub of_value : Fault → Bool
of_value NoLineFeed = false
of_value EmptyLine = false
of_value CarriageReturn = false
of_value FieldCount = false
of_value Empty = false
of_value OtherByte = false
of_value MinusAlone = false
of_value NoDigits = false
of_value ManyDigits = false
of_value NoDecimals = false
of_value ManyDecimals = false
of_value NotMinusOne = false
of_value FilledId = false
of_value FrameZero = true
of_value FrameBack = true
of_value FirstFrameFar = true
of_value FrameFar = true
of_value NotAboveZero = true
of_value Beyond = true
of_value BelowZero = true
of_value AboveOne = true

abbrev pub refusal_of : Fault → ℕ
refusal_of fault = cond (of_value fault) 52 51

-- 0 where nothing is wrong
abbrev pub refusal_found : Result ⊤ Found → ℕ
refusal_found (Ok _) = 0
refusal_found (Err found) = refusal_of found.fault

abbrev pub refusal_reported : Result ⊤ Report → ℕ
refusal_reported (Ok _) = 0
refusal_reported (Err report) = refusal_of report.fault

-- ---- the theorems

pub record Laws : Type 0 where
  -- a field has a fault of its form exactly where it is not of its form
  pub frame_fault : (t : List ℕ) → refusal_found (digits_fault Empty ManyDigits 0 t) ≡ cond (is_frame t) 0 51
  pub number_fault_lem : (t : List ℕ) → refusal_found (number_fault t) ≡ cond (is_number t) 0 51
  pub minus-one_fault : (t : List ℕ) → refusal_found (minus_one_fault t) ≡ cond (is_minus_one t) 0 51
  pub id_fault_lem : (t : List ℕ) → refusal_found (id_fault t) ≡ cond (is_minus_one t) 0 51
  -- what is said of a line belongs to the number that a call answers which has room: so nothing is wrong where the line is read, and 51 never comes with words about a value
  pub reported : (l : List ℕ) (previous : ℕ) (out : List ℕ) → box_bytes ≤ length out → refusal_reported (report_of l previous) ≡ refusal_number (mot_line l previous out).answer
