-- What is wrong with a line: the line feed, nothing before it, a carriage return before it, the number of fields, the first field that is not of its form, the first value that is refused.
use Rattle.std.specs.Prelude.{Bool, not, cond, ◌&&◌, List, [], ◌∷◌, ℕ, zero, suc, ◌+◌, ◌-◌, min, eqb, ltb, length, get_or, Option, Some, None, ⊤, Result, Ok, Err}
use Rattle.mot_fields.specs.Fields.{fields, body}
use Rattle.records.specs.declared.box_record.BoxRecord.{BoxRecord}
use Rattle.mot_line.specs.Line.{line_of}
use Rattle.mot_fault.specs.declared.kinds.Fault.TheVariants.{NoLineFeed, EmptyLine, CarriageReturn, FieldCount}
use Rattle.mot_fault.specs.declared.kinds.Report.{Report}
use Rattle.mot_fault.specs.Form.{field_fault}
use Rattle.mot_fault.specs.Value.{reported, in_field, value_fault}

-- the last byte is this one
abbrev pub ends_with : ℕ → List ℕ → Bool
ends_with b t = ltb 0 (length t) && eqb (get_or t (length t - 1) 0) b

-- the first of n fields, from field i on, that is not of its form
unfoldable pub first_fault : ℕ → ℕ → List (List ℕ) → Result ⊤ Report
first_fault zero i fs = Ok tt
first_fault (suc n) i [] = Ok tt
first_fault (suc n) i (f ∷ fs) = in_field i (field_fault i f) (first_fault n (i + 1) fs)

abbrev pub or_else : Result ⊤ Report → Result ⊤ Report → Result ⊤ Report
or_else (Ok _) later = later
or_else (Err found) later = Err found

-- the values of a line that has the form
abbrev pub value_report : ℕ → Option BoxRecord → Result ⊤ Report
value_report previous (Some b) = value_fault previous b
value_report previous None = Ok tt

unfoldable pub field_report : List ℕ → List (List ℕ) → ℕ → Result ⊤ Report
field_report l fs previous =
    cond (not (eqb (min (length fs) 11) 10)) (reported FieldCount (min (length fs) 11) 0)
    (or_else (first_fault 10 1 fs) (value_report previous (line_of l)))

-- a line feed is 10, and a carriage return 13
unfoldable pub report_of : List ℕ → ℕ → Result ⊤ Report
report_of l previous =
    cond (not (ends_with 10 l)) (reported NoLineFeed 0 0)
    (cond (eqb (length l - 1) 0) (reported EmptyLine 0 0)
    (cond (ends_with 13 (body l)) (reported CarriageReturn 0 0)
    (field_report l (fields (body l)) previous)))
