-- Document 02, N1: "ten comma-separated fields a line (frame, id, left, top, width, height, confidence and three coordinates), with id and the last three always `-1`, each line ended by a line
-- feed". A line is a list of bytes.
use Rattle.std.specs.Prelude.{Bool, true, false, cond, ◌&&◌, List, [], ◌∷◌, ℕ, ◌-◌, eqb, length, take, get_or}

-- ---- fields

-- the first field begins with this byte
abbrev pub onto_first : ℕ → List (List ℕ) → List (List ℕ)
onto_first b [] = (b ∷ []) ∷ []
onto_first b (f ∷ fs) = (b ∷ f) ∷ fs

-- what stands between the commas, which are 44: one field more than there are commas
unfoldable pub fields : List ℕ → List (List ℕ)
fields [] = [] ∷ []
fields (b ∷ bs) = cond (eqb b 44) ([] ∷ fields bs) (onto_first b (fields bs))

-- ---- forms

-- whether a field is of a form
abbrev pub Form : Type 0
Form = List ℕ → Bool

-- `-1`
abbrev pub is_minus_one : Form
is_minus_one t = eqb (length t) 2 && (eqb (get_or t 0 0) 45 && eqb (get_or t 1 0) 49)

-- as many fields as forms, each of its form
unfoldable pub of_forms : List Form → List (List ℕ) → Bool
of_forms [] [] = true
of_forms [] (f ∷ fs) = false
of_forms (p ∷ ps) [] = false
of_forms (p ∷ ps) (f ∷ fs) = p f && of_forms ps fs

-- ---- a line: fields, and the line feed, which is 10

abbrev pub body : List ℕ → List ℕ
body l = take (length l - 1) l

abbrev pub is_ended : List ℕ → Bool
is_ended l = eqb (get_or l (length l - 1) 0) 10

unfoldable pub is_line : List Form → List ℕ → Bool
is_line forms l = is_ended l && of_forms forms (fields (body l))
