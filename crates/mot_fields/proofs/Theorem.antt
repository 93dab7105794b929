-- `laws`: what specs/Laws.antt states holds. Assumes nothing.
use mathlib.Core.Path.{◌≡◌, refl, sym, ap, ◌∙◌}
use mathlib.Core.Bool.{Bool, true, false, ◌&&◌}
use mathlib.Core.List.{List, [], ◌∷◌}
use Prim.Native.Nat.{ℕ, suc, ◌≤◌, ◌<◌}
use native.Mathlib.Omega.{arith}
use lib.Dec.{eqb, ltb}
use lib.ListN.{length, drop}
use lib.Seq.{take_all}
use borrow.Author.Tests.{ltb-true, ltb-false, eqb-true}
use Rattle.mot_number.specs.Index.{index_of, index_after}
use Rattle.laws.specs.Tests.{and_left, and_right, true_not_false, false_not_true}
use Rattle.mot_fields.specs.Fields.{Form, fields, is_minus_one, of_forms}
use Rattle.mot_fields.specs.Reading.{first, next, goes_on}
use Rattle.mot_fields.specs.Laws.{Laws}
use Rattle.mot_fields.proofs.Cutting.{cut, followed, alone, plain_first, one_field, more-fields}

and_false : (a : Bool) → (a && false) ≡ false
and_false true = refl
and_false false = refl

module _ (t : List ℕ) where
  on : (p : Form) (ps : List Form) → goes_on p t ≡ true → (of_forms (p ∷ ps) (fields t) ≡ of_forms ps (fields (drop (next t) t))) × (fields t ≡ first t ∷ fields (drop (next t) t)) × (next t ≤ length t)
  unfolding of_forms
  on p ps e =
      let l = and_left (ltb (index_of 44 t) (length t)) (p (first t)) e in
      let f = followed t l in
      let h : index_of 44 t < length t = ltb-true _ _ l in
      (ap (of_forms (p ∷ ps)) f ∙ ap (λ (b : Bool). b && of_forms ps (fields (drop (next t) t))) (and_right (ltb (index_of 44 t) (length t)) (p (first t)) e), f, omega arith)

  off : (p q : Form) (ps : List Form) → goes_on p t ≡ false → of_forms (p ∷ q ∷ ps) (fields t) ≡ false
  off p q ps e = go (ltb (index_of 44 t) (length t)) refl e
    where
      go : (b : Bool) → ltb (index_of 44 t) (length t) ≡ b → (b && p (first t)) ≡ false → of_forms (p ∷ q ∷ ps) (fields t) ≡ false
      go true l h = unfold of_forms in ap (of_forms (p ∷ q ∷ ps)) (followed t l) ∙ ap (λ (b : Bool). b && of_forms (q ∷ ps) (fields (drop (next t) t))) h
      go false l h = unfold of_forms in ap (of_forms (p ∷ q ∷ ps)) (alone t l) ∙ and_false (p (first t))

-- ---- `-1`

pub minus-one-only : (t : List ℕ) → is_minus_one t ≡ true → t ≡ 45 ∷ 49 ∷ []
minus-one-only [] e = absurd (false_not_true e)
minus-one-only (a ∷ []) e = absurd (false_not_true e)
minus-one-only (a ∷ b ∷ []) e =
    let x : a ≡ 45 = eqb-true a 45 (and_left (eqb a 45) (eqb b 49) e) in
    let y : b ≡ 49 = eqb-true b 49 (and_right (eqb a 45) (eqb b 49) e) in
    ap (λ (k : ℕ). k ∷ b ∷ []) x ∙ ap (λ (k : ℕ). 45 ∷ k ∷ []) y
minus-one-only (a ∷ b ∷ c ∷ t) e =
    let n : suc (suc (suc (length t))) ≡ 2 = eqb-true _ _ (and_left (eqb (suc (suc (suc (length t)))) 2) (eqb a 45 && eqb b 49) e) in
    absurd (omega arith)

-- no comma stands in it
minus-one_plain : ltb (index_of 44 (45 ∷ 49 ∷ [])) 2 ≡ false
unfolding index_of index_after
minus-one_plain = refl

last_one : (t : List ℕ) → of_forms (is_minus_one ∷ []) (fields t) ≡ is_minus_one t
unfolding of_forms
last_one t = go (ltb (index_of 44 t) (length t)) refl (is_minus_one t) refl
  where
    and_true : (a : Bool) → (a && true) ≡ a
    and_true true = refl
    and_true false = refl

    go : (b : Bool) → ltb (index_of 44 t) (length t) ≡ b → (m : Bool) → is_minus_one t ≡ m → of_forms (is_minus_one ∷ []) (fields t) ≡ is_minus_one t
    go false l m e = ap (of_forms (is_minus_one ∷ [])) (alone t l ∙ ap (λ (f : List ℕ). f ∷ []) (take_all (index_of 44 t) t (ltb-false _ _ l))) ∙ and_true (is_minus_one t)
    go true l true e = absurd (true_not_false (sym l ∙ ap (λ (x : List ℕ). ltb (index_of 44 x) (length x)) (minus-one-only t e) ∙ minus-one_plain))
    go true l false e = ap (of_forms (is_minus_one ∷ [])) (followed t l ∙ ap (λ (x : List (List ℕ)). first t ∷ x) (cut (drop (next t) t))) ∙ and_false (is_minus_one (first t)) ∙ sym e

pub laws : Laws
laws = record {
  fields-one = one_field;
  fields-more = more-fields;
  fields_cut = cut;
  first_plain = plain_first;
  goes-on = λ p ps t. on t p ps;
  ends-here = λ p q ps t. off t p q ps;
  last-minus-one = last_one;
}
