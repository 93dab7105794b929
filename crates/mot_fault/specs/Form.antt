-- What is wrong with the form of a field: document 02, N1, "A number has an optional minus, one to six digits, and optionally a point with one to six digits; the frame is one to six digits alone",
-- "with id and the last three always `-1`".
use Rattle.std.specs.Prelude.{Bool, not, cond, List, ℕ, ◌+◌, eqb, leb, ltb, length, get_or, ⊤, Result, Ok, Err}
use Rattle.mot_number.specs.Index.{index_of}
use Rattle.laws.specs.Scan.{lowest}
use Rattle.mot_number.specs.Number.{is_digit, whole_of, behind_of, has_point, is_negative, unsigned_part, is_frame}
use Rattle.mot_fields.specs.Fields.{is_minus_one}
use Rattle.mot_fault.specs.declared.kinds.Fault.{Fault}
use Rattle.mot_fault.specs.declared.kinds.Fault.TheVariants.{Empty, OtherByte, MinusAlone, NoDigits, ManyDigits, NoDecimals, ManyDecimals, NotMinusOne, FilledId}
use Rattle.mot_fault.specs.declared.kinds.Found.{Found}

-- the first byte that is no digit, or the length
abbrev pub other_at : List ℕ → ℕ → Bool
other_at t i = not (is_digit (get_or t i 0))

abbrev pub first_other : List ℕ → ℕ
first_other t = lowest (other_at t) (length t)

-- this fault, and the byte of the field where it shows
abbrev pub at : Fault → ℕ → Result ⊤ Found
at fault byte = Err (record { fault = fault; byte = byte })

-- of a text that is to be one to six digits, behind `skip` bytes of its field
unfoldable pub digits_fault : Fault → Fault → ℕ → List ℕ → Result ⊤ Found
digits_fault none many skip t =
    cond (eqb (length t) 0) (at none 0)
    (cond (ltb (first_other t) (length t)) (at OtherByte (skip + first_other t + 1))
    (cond (ltb 6 (length t)) (at many (skip + 7)) (Ok tt)))

abbrev pub or_else : Result ⊤ Found → Result ⊤ Found → Result ⊤ Found
or_else (Ok _) later = later
or_else (Err found) later = Err found

-- of a number behind its sign: before the point, and then behind it
unfoldable pub unsigned_fault : ℕ → List ℕ → Result ⊤ Found
unsigned_fault skip u =
    or_else (digits_fault NoDigits ManyDigits skip (whole_of u))
    (cond (has_point u) (digits_fault NoDecimals ManyDecimals (skip + (index_of 46 u + 1)) (behind_of u)) (Ok tt))

unfoldable pub number_fault : List ℕ → Result ⊤ Found
number_fault t =
    cond (eqb (length t) 0) (at Empty 0)
    (cond (eqb (length (unsigned_part t)) 0) (at MinusAlone 0)
    (unsigned_fault (cond (is_negative t) 1 0) (unsigned_part t)))

unfoldable pub minus_one_fault : List ℕ → Result ⊤ Found
minus_one_fault t = cond (is_minus_one t) (Ok tt) (at NotMinusOne 0)

-- an id that is filled in, as in a result line, has the form of a frame number
unfoldable pub id_fault : List ℕ → Result ⊤ Found
id_fault t = cond (is_minus_one t) (Ok tt) (cond (is_frame t) (at FilledId 0) (at NotMinusOne 0))

-- of field i, counted from 1: frame, id, five numbers, three coordinates
unfoldable pub field_fault : ℕ → List ℕ → Result ⊤ Found
field_fault i t = cond (eqb i 1) (digits_fault Empty ManyDigits 0 t) (cond (eqb i 2) (id_fault t) (cond (leb i 7) (number_fault t) (minus_one_fault t)))
