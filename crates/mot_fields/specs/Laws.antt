-- THE THEOREMS of the fields of a line. `laws` of proofs/Theorem.antt proves them.
use Rattle.std.specs.Prelude.{◌≡◌, true, false, cond, List, [], ◌∷◌, ◌++◌, ℕ, ◌≤◌, ltb, length, drop}
use Rattle.mot_number.specs.Index.{index_of}
use Rattle.mot_fields.specs.Fields.{Form, fields, is_minus_one, of_forms}
use Rattle.mot_fields.specs.Reading.{first, next, goes_on}

-- no comma stands in the text
abbrev pub Plain : List ℕ → Type 0
Plain t = index_of 44 t ≡ length t

pub record Laws : Type 0 where
  -- the fields of what is written: a text without a comma is one field, and a comma behind it begins the next
  pub fields-one : (t : List ℕ) → Plain t → fields t ≡ t ∷ []
  pub fields-more : (t rest : List ℕ) → Plain t → fields (t ++ (44 ∷ rest)) ≡ t ∷ fields rest
  -- the same from the front of a text
  pub fields_cut : (t : List ℕ) → fields t ≡ first t ∷ cond (ltb (index_of 44 t) (length t)) (fields (drop (next t) t)) []
  pub first_plain : (t : List ℕ) → Plain (first t)
  -- a field that goes on is the first of its form, and the rest of the forms is asked of the rest; where one does not, the line has not these forms
  pub goes-on : (p : Form) (ps : List Form) (t : List ℕ) → goes_on p t ≡ true → (of_forms (p ∷ ps) (fields t) ≡ of_forms ps (fields (drop (next t) t))) × (fields t ≡ first t ∷ fields (drop (next t) t)) × (next t ≤ length t)
  pub ends-here : (p q : Form) (ps : List Form) (t : List ℕ) → goes_on p t ≡ false → of_forms (p ∷ q ∷ ps) (fields t) ≡ false
  -- the last field
  pub last-minus-one : (t : List ℕ) → of_forms (is_minus_one ∷ []) (fields t) ≡ is_minus_one t
