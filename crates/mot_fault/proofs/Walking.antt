-- The loops over the fields of a line. Assumes nothing.
use mathlib.Core.Path.{◌≡◌, refl, sym, ap, ◌∙◌}
use mathlib.Core.List.{List, [], ◌∷◌}
use Prim.Native.Nat.{ℕ, zero, suc, ◌+◌, ◌-◌, ◌≤◌, ◌<◌, min}
use native.Mathlib.Nat.{le_of_eq}
use native.Mathlib.Omega.{arith}
use lib.ListN.{length, take, drop, length-drop}
use lib.Seq.{take_all, drop-drop}
use borrow.Author.Tests.{lt-ltb, le-ltb}
use Rattle.mot_number.specs.Index.{index_of}
use Rattle.mot_fields.specs.Fields.{fields}
use Rattle.mot_fields.specs.Reading.{first}
use Rattle.mot_fields.proofs.Cutting.{cut, followed, alone}
use Rattle.mot_fault.specs.declared.kinds.Found.{Found}
use Rattle.std.specs.Bool.{⊤}
use Rattle.std.proofs.Common.{Result, Ok, Err}
use Rattle.mot_fault.specs.declared.kinds.Report.{Report}
use Rattle.mot_fault.specs.Form.{field_fault}
use Rattle.mot_fault.specs.Value.{in_field}
use Rattle.mot_fault.specs.Line.{first_fault}

-- what is left from place `at` on, as a part of a slice
abbrev pub after : List ℕ → ℕ → List ℕ
after b at = take (length b - at) (drop at b)

after_is : (b : List ℕ) (at : ℕ) → after b at ≡ drop at b
after_is b at = take_all (length b - at) (drop at b) (le_of_eq (length-drop at b))

pub after-length : (b : List ℕ) (at : ℕ) → length (after b at) ≡ length b - at
after-length b at = ap length (after_is b at) ∙ length-drop at b

-- e is where the first comma of what is left stands, or its end
module _ (b : List ℕ) (at e : ℕ) (is : e ≡ index_of 44 (after b at)) where
  comma_at : e ≡ index_of 44 (drop at b)
  comma_at = is ∙ ap (index_of 44) (after_is b at)

  first-at : take e (after b at) ≡ first (drop at b)
  first-at = ap (take e) (after_is b at) ∙ ap (λ (k : ℕ). take k (drop at b)) comma_at

  ends : length (after b at) ≤ e → fields (drop at b) ≡ first (drop at b) ∷ []
  ends h = let l = ap length (after_is b at) in let i = comma_at in alone (drop at b) (le-ltb (index_of 44 (drop at b)) (length (drop at b)) (omega arith))

  goes_on : e < length (after b at) → fields (drop at b) ≡ first (drop at b) ∷ fields (drop (at + (e + 1)) b)
  goes_on h =
      let l = ap length (after_is b at) in
      let i = comma_at in
      followed (drop at b) (lt-ltb (index_of 44 (drop at b)) (length (drop at b)) (omega arith))
      ∙ ap (λ (k : ℕ). first (drop at b) ∷ fields (drop (k + 1) (drop at b))) (sym comma_at) ∙ ap (λ (x : List ℕ). first (drop at b) ∷ fields x) (drop-drop (e + 1) at b)

-- ---- how many fields

pub record Counted (b : List ℕ) (at n : ℕ) : Type 0 where
  pub upto : at ≤ length b
  pub few : n ≤ 11
  pub rest : n + length (fields (drop at b)) ≡ 1 + length (fields b)

some_field : (t : List ℕ) → 1 ≤ length (fields t)
some_field t = let c = ap length (cut t) in omega arith

pub count-start : (b : List ℕ) → Counted b 0 1
count-start b = record { upto = omega arith; few = omega arith; rest = refl }

module _ {b : List ℕ} {at n : ℕ} (w : Counted b at n) where
  module _ (e : ℕ) (is : e ≡ index_of 44 (after b at)) where
    pub count-ends : n < 11 → length (after b at) ≤ e → n ≡ min (length (fields b)) 11
    count-ends l h = let f = ap length (ends b at e is h) in let r = w.rest in omega arith

    pub count-on : n < 11 → e < length (after b at) → Counted b (at + (e + 1)) (n + 1)
    count-on l h =
        let f = ap length (goes_on b at e is h) in
        let r = w.rest in
        let a = after-length b at in
        let u = w.upto in
        record { upto = omega arith; few = omega arith; rest = omega arith }

  pub count-full : 11 ≤ n → 11 ≡ min (length (fields b)) 11
  count-full h = let r = w.rest in let f = w.few in let s = some_field (drop at b) in omega arith

-- ---- the first that is not of its form

pub record Looked (b : List ℕ) (at i : ℕ) : Type 0 where
  pub upto : at ≤ length b
  pub few : i ≤ 11
  pub rest : first_fault (11 - i) i (fields (drop at b)) ≡ first_fault 10 1 (fields b)

pub look_start : (b : List ℕ) → Looked b 0 1
look_start b = record { upto = omega arith; few = omega arith; rest = refl }

fault_step : (n i : ℕ) (f : List ℕ) (fs : List (List ℕ)) → first_fault (suc n) i (f ∷ fs) ≡ in_field i (field_fault i f) (first_fault n (i + 1) fs)
unfolding first_fault
fault_step n i f fs = refl

none_left : (n i : ℕ) → first_fault n i [] ≡ Ok tt
unfolding first_fault
none_left zero i = refl
none_left (suc n) i = refl

no_fuel : (i : ℕ) (fs : List (List ℕ)) → first_fault zero i fs ≡ Ok tt
unfolding first_fault
no_fuel i fs = refl

module _ {b : List ℕ} {at i : ℕ} (w : Looked b at i) (h : i < 11) (e : ℕ) (is : e ≡ index_of 44 (after b at)) (r : Result ⊤ Found) (f : r ≡ field_fault i (take e (after b at))) where
  fuel : 11 - i ≡ suc (10 - i)
  fuel = omega arith

  found-is : r ≡ field_fault i (first (drop at b))
  found-is = f ∙ ap (field_fault i) (first-at b at e is)

  -- the fields behind this one, whichever they are
  step : (more : List (List ℕ)) → fields (drop at b) ≡ first (drop at b) ∷ more → first_fault 10 1 (fields b) ≡ in_field i r (first_fault (10 - i) (i + 1) more)
  step more g =
      sym w.rest ∙ ap (λ (n : ℕ). first_fault n i (fields (drop at b))) fuel ∙ ap (first_fault (suc (10 - i)) i) g ∙ fault_step (10 - i) i (first (drop at b)) more
      ∙ ap (λ (x : Result ⊤ Found). in_field i x (first_fault (10 - i) (i + 1) more)) (sym found-is)

  -- what is said of the later ones is not asked behind a fault
  pub look_found : (s : Result ⊤ Report) → s ≡ in_field i r (Ok tt) → (x : Report) → s ≡ Err x → s ≡ first_fault 10 1 (fields b)
  look_found s g x m = g ∙ same r _ (sym g ∙ m) ∙ sym (step _ (cut (drop at b)))
    where
      same : (r : Result ⊤ Found) (y : Result ⊤ Report) → in_field i r (Ok tt) ≡ Err x → in_field i r (Ok tt) ≡ in_field i r y
      same (Ok u) y k = cc
      same (Err f) y k = refl

  -- a field without a fault
  pub look_fine : (s : Result ⊤ Report) → s ≡ in_field i r (Ok tt) → s ≡ Ok tt → r ≡ Ok tt
  look_fine s g m = go r (sym g ∙ m)
    where
      go : (r : Result ⊤ Found) → in_field i r (Ok tt) ≡ Ok tt → r ≡ Ok tt
      go (Ok u) k = refl
      go (Err f) k = cc

  module _ (m : r ≡ Ok tt) where
    pub look_ends : length (after b at) ≤ e → Ok tt ≡ first_fault 10 1 (fields b)
    look_ends l = sym (step [] (ends b at e is l) ∙ ap (λ (x : Result ⊤ Found). in_field i x (first_fault (10 - i) (i + 1) [])) m ∙ none_left (10 - i) (i + 1))

    pub look_on : e < length (after b at) → Looked b (at + (e + 1)) (i + 1)
    look_on l =
        let a = after-length b at in
        let u = w.upto in
        let n : 11 - (i + 1) ≡ 10 - i = omega arith in
        record {
          upto = omega arith;
          few = omega arith;
          rest = ap (λ (k : ℕ). first_fault k (i + 1) (fields (drop (at + (e + 1)) b))) n
              ∙ sym (step (fields (drop (at + (e + 1)) b)) (goes_on b at e is l) ∙ ap (λ (x : Result ⊤ Found). in_field i x (first_fault (10 - i) (i + 1) (fields (drop (at + (e + 1)) b)))) m);
        }

pub look_full : {b : List ℕ} {at i : ℕ} → Looked b at i → 11 ≤ i → Ok tt ≡ first_fault 10 1 (fields b)
look_full {b} {at} {i} w h = let n : 11 - i ≡ 0 = omega arith in sym (sym w.rest ∙ ap (λ (k : ℕ). first_fault k i (fields (drop at b))) n ∙ no_fuel i (fields (drop at b)))
