-- The first field of a text, and the fields behind it. Assumes nothing.
use mathlib.Core.Path.{◌≡◌, refl, sym, ap, ◌∙◌}
use mathlib.Core.Bool.{Bool, true, false, cond}
use mathlib.Core.List.{List, [], ◌∷◌, ◌++◌}
use Prim.Native.Nat.{ℕ, suc, ◌+◌}
use native.Mathlib.Numerals.{add-one}
use native.Mathlib.Omega.{arith}
use lib.Dec.{eqb, ltb, leb-suc-suc}
use lib.ListN.{length, take, drop, length-append}
use lib.Seq.{take-length, take-append_seam, drop-append-add}
use borrow.Author.Tests.{le-ltb, lt-ltb, eqb-false}
use Rattle.mot_number.specs.Index.{index_of, index_after}
use Rattle.mot_number.proofs.Index.{Lacks, index-here}
use Rattle.mot_fields.specs.Fields.{onto_first, fields}
use Rattle.mot_fields.specs.Reading.{first, next}
use Rattle.mot_fields.specs.Laws.{Plain}

-- the fields behind the first, by where its comma stands
abbrev behind : ℕ → List ℕ → List (List ℕ)
behind i t = cond (ltb i (length t)) (fields (drop (i + 1) t)) []

behind_more : (i b : ℕ) (bs : List ℕ) → behind (suc i) (b ∷ bs) ≡ behind i bs
behind_more i b bs =
    ap (λ (e : Bool). cond e (fields (drop (suc i + 1) (b ∷ bs))) []) (leb-suc-suc (suc i) (length bs))
    ∙ ap (λ (k : ℕ). cond (ltb i (length bs)) (fields (drop k (b ∷ bs))) []) (add-one (suc i))
    ∙ sym (ap (λ (k : ℕ). cond (ltb i (length bs)) (fields (drop k bs)) []) (add-one i))

cut_cons : (e : Bool) (b : ℕ) (bs : List ℕ) → fields bs ≡ first bs ∷ behind (index_of 44 bs) bs
    → cond e ([] ∷ fields bs) (onto_first b (fields bs)) ≡ take (index_after e (index_of 44 bs)) (b ∷ bs) ∷ behind (index_after e (index_of 44 bs)) (b ∷ bs)
unfolding index_after
cut_cons true b bs h = ap (λ (x : Bool). [] ∷ cond x (fields bs) []) (sym (lt-ltb 0 (suc (length bs)) (omega arith)))
cut_cons false b bs h = ap (onto_first b) h ∙ ap (λ (x : List (List ℕ)). (b ∷ first bs) ∷ x) (sym (behind_more (index_of 44 bs) b bs))

pub cut : (t : List ℕ) → fields t ≡ first t ∷ cond (ltb (index_of 44 t) (length t)) (fields (drop (next t) t)) []
unfolding fields index_of
cut [] = refl
cut (b ∷ bs) = cut_cons (eqb b 44) b bs (cut bs)

-- by whether another field follows the first
pub followed : (t : List ℕ) → ltb (index_of 44 t) (length t) ≡ true → fields t ≡ first t ∷ fields (drop (next t) t)
followed t e = cut t ∙ ap (λ (b : Bool). first t ∷ cond b (fields (drop (next t) t)) []) e

pub alone : (t : List ℕ) → ltb (index_of 44 t) (length t) ≡ false → fields t ≡ first t ∷ []
alone t e = cut t ∙ ap (λ (b : Bool). first t ∷ cond b (fields (drop (next t) t)) []) e

-- no comma stands in the first field
plain_cons : (e : Bool) (b : ℕ) (bs : List ℕ) → eqb b 44 ≡ e → Plain (first bs) → Plain (take (index_after e (index_of 44 bs)) (b ∷ bs))
unfolding index_after index_of
plain_cons true b bs e h = refl
plain_cons false b bs e h = ap (λ (x : Bool). index_after x (index_of 44 (first bs))) e ∙ ap suc h

pub plain_first : (t : List ℕ) → Plain (first t)
unfolding index_of
plain_first [] = refl
plain_first (b ∷ bs) = plain_cons (eqb b 44) b bs refl (plain_first bs)

-- a text in which none stands lacks it
lacks_cons : (e : Bool) (b : ℕ) (bs : List ℕ) → eqb b 44 ≡ e → index_after e (index_of 44 bs) ≡ suc (length bs) → (b ≡ 44 → ⊥) × Plain bs
unfolding index_after
lacks_cons true b bs e h = absurd (omega arith)
lacks_cons false b bs e h = (eqb-false b 44 e, omega arith)

lacks_of : (t : List ℕ) → Plain t → Lacks 44 t
unfolding index_of
lacks_of [] e = tt
lacks_of (b ∷ bs) e = let r = lacks_cons (eqb b 44) b bs refl e in (r.0, lacks_of bs r.1)

-- ---- what is written

pub one_field : (t : List ℕ) → Plain t → fields t ≡ t ∷ []
one_field t e =
    cut t ∙ ap (λ (k : ℕ). take k t ∷ behind k t) e
    ∙ ap (λ (f : List ℕ). f ∷ behind (length t) t) (take-length t) ∙ ap (λ (b : Bool). t ∷ cond b (fields (drop (length t + 1) t)) []) (le-ltb (length t) (length t) (omega arith))

pub more-fields : (t rest : List ℕ) → Plain t → fields (t ++ (44 ∷ rest)) ≡ t ∷ fields rest
more-fields t rest e =
    let u = t ++ (44 ∷ rest) in
    let n = length-append t (44 ∷ rest) in
    cut u ∙ ap (λ (k : ℕ). take k u ∷ behind k u) (index-here 44 t rest (lacks_of t e))
    ∙ ap (λ (f : List ℕ). f ∷ behind (length t) u) (take-append_seam t (44 ∷ rest))
    ∙ ap (λ (b : Bool). t ∷ cond b (fields (drop (length t + 1) u)) []) (lt-ltb (length t) (length u) (omega arith))
    ∙ ap (λ (l : List ℕ). t ∷ fields l) (drop-append-add t (44 ∷ rest) 1)
