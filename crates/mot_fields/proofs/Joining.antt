-- The fields of a text with commas between them are the text. Assumes nothing.
use mathlib.Core.Path.{◌≡◌, refl, sym, ap, ◌∙◌}
use mathlib.Core.Bool.{Bool, true, false}
use mathlib.Core.List.{List, [], ◌∷◌, ◌++◌}
use Prim.Native.Nat.{ℕ}
use native.Mathlib.Omega.{arith}
use lib.Dec.{ltb}
use lib.ListN.{length, drop, take-append-drop}
use lib.Seq.{take_all}
use borrow.Author.Tests.{ltb-true, ltb-false}
use Rattle.mot_number.specs.Index.{index_of}
use Rattle.mot_number.proofs.Index.{index_at}
use Rattle.mot_fields.specs.Fields.{fields}
use Rattle.mot_fields.specs.Reading.{first, next}
use Rattle.mot_fields.proofs.Cutting.{cut, followed, alone}

-- a text that has one field is that
pub last-is : (t f : List ℕ) → fields t ≡ f ∷ [] → t ≡ f
last-is t f e = go (ltb (index_of 44 t) (length t)) refl
  where
    go : (b : Bool) → ltb (index_of 44 t) (length t) ≡ b → t ≡ f
    go false l = let a = alone t l in let g : first t ≡ f = cc in sym (take_all (index_of 44 t) t (ltb-false _ _ l)) ∙ g
    go true l = let a = followed t l in let b = cut (drop (next t) t) in let z : ◌≡◌ {A = ℕ} 0 1 = cc in absurd (omega arith)

-- one that has more is the first, a comma, and what has the others
pub first-is : (t f g : List ℕ) (gs : List (List ℕ)) → fields t ≡ f ∷ g ∷ gs → (t ≡ f ++ (44 ∷ drop (next t) t)) × (fields (drop (next t) t) ≡ g ∷ gs)
first-is t f g gs e = go (ltb (index_of 44 t) (length t)) refl
  where
    go : (b : Bool) → ltb (index_of 44 t) (length t) ≡ b → (t ≡ f ++ (44 ∷ drop (next t) t)) × (fields (drop (next t) t) ≡ g ∷ gs)
    go true l =
        let a = followed t l in
        let h : first t ≡ f = cc in
        let r : fields (drop (next t) t) ≡ g ∷ gs = cc in
        (sym (take-append-drop (index_of 44 t) t) ∙ ap (λ (x : List ℕ). first t ++ x) (index_at 44 t (ltb-true _ _ l)) ∙ ap (λ (x : List ℕ). x ++ (44 ∷ drop (next t) t)) h, r)
    go false l = let a = alone t l in let z : ◌≡◌ {A = ℕ} 0 1 = cc in absurd (omega arith)
