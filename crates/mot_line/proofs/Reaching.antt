-- Through a line field by field: what was read is at the front of its fields, and the forms that are left are asked of what is left. Assumes nothing.
use mathlib.Core.Path.{◌≡◌, refl, sym, ap, subst, ◌∙◌}
use mathlib.Core.Bool.{Bool, true, false, cond}
use mathlib.Core.List.{List, [], ◌∷◌, ◌++◌, append_assoc}
use Prim.Native.Nat.{ℕ, ◌-◌, ◌≤◌}
use native.Mathlib.Nat.{le_of_eq}
use lib.ListN.{length, take, drop, length-drop}
use lib.Seq.{take_all}
use lib.Ieee.{Float}
use Rattle.std.proofs.Common.{Option, Some, None}
use Rattle.mot_number.specs.Number.{is_frame, frame_of, is_number, decimal_of, f32_of}
use Rattle.mot_fields.specs.Fields.{Form, fields, is_minus_one, of_forms}
use Rattle.mot_fields.specs.Reading.{first, next, goes_on, frame_field, number_field, minus_one_field}
use Rattle.mot_fields.proofs.Theorem.{laws}

-- ---- a field that was read: it goes on, and this is where the next one starts

pub record Goes (form : Form) (t : List ℕ) (n : ℕ) : Type 0 where
  pub on : goes_on form t ≡ true
  pub next-is : n ≡ next t

pub goes-inside : (form : Form) (t : List ℕ) (n : ℕ) → Goes form t n → n ≤ length t
goes-inside form t n g = subst (λ (k : ℕ). k ≤ length t) (sym g.next-is) (laws.goes-on form [] t g.on).2

-- what a reader of a field answered says whether its form goes on
module _ {A : Type 0} (form : Form) (value : List ℕ → A) (t : List ℕ) where
  field-goes : (v : A) (n : ℕ) → ◌≡◌ {A = Option (A × ℕ)} (Some (v, n)) (cond (goes_on form t) (Some (value (first t), next t)) None) → Goes form t n × (v ≡ value (first t))
  field-goes v n e = go (goes_on form t) refl e
    where
      go : (b : Bool) → goes_on form t ≡ b → ◌≡◌ {A = Option (A × ℕ)} (Some (v, n)) (cond b (Some (value (first t), next t)) None) → Goes form t n × (v ≡ value (first t))
      go true g h = let p : ◌≡◌ {A = A × ℕ} (v, n) (value (first t), next t) = cc in (record { on = g; next-is = ap (λ (x : A × ℕ). x.1) p }, ap (λ (x : A × ℕ). x.0) p)
      go false g h = cc

  field_stops : ◌≡◌ {A = Option (A × ℕ)} None (cond (goes_on form t) (Some (value (first t), next t)) None) → goes_on form t ≡ false
  field_stops e = go (goes_on form t) refl e
    where
      go : (b : Bool) → goes_on form t ≡ b → ◌≡◌ {A = Option (A × ℕ)} None (cond b (Some (value (first t), next t)) None) → goes_on form t ≡ false
      go true g h = cc
      go false g h = g

module _ (t : List ℕ) where
  frame-goes : (v n : ℕ) → ◌≡◌ {A = Option (ℕ × ℕ)} (Some (v, n)) (frame_field t) → Goes is_frame t n × (v ≡ frame_of (first t))
  unfolding frame_field
  frame-goes v n e = field-goes is_frame frame_of t v n e

  pub frame_stops : None ≡ frame_field t → goes_on is_frame t ≡ false
  unfolding frame_field
  frame_stops e = field_stops is_frame frame_of t e

  number-goes : (v : Float) (n : ℕ) → ◌≡◌ {A = Option (Float × ℕ)} (Some (v, n)) (number_field t) → Goes is_number t n × (v ≡ f32_of (decimal_of (first t)))
  unfolding number_field
  number-goes v n e = field-goes is_number (λ x. f32_of (decimal_of x)) t v n e

  pub number_stops : None ≡ number_field t → goes_on is_number t ≡ false
  unfolding number_field
  number_stops e = field_stops is_number (λ x. f32_of (decimal_of x)) t e

  minus-one-goes : (n : ℕ) → Some n ≡ minus_one_field t → Goes is_minus_one t n
  unfolding minus_one_field
  minus-one-goes n e = go (goes_on is_minus_one t) refl e
    where
      go : (b : Bool) → goes_on is_minus_one t ≡ b → Some n ≡ cond b (Some (next t)) None → Goes is_minus_one t n
      go true g h = record { on = g; next-is = cc }
      go false g h = cc

  pub minus-one_stops : None ≡ minus_one_field t → goes_on is_minus_one t ≡ false
  unfolding minus_one_field
  minus-one_stops e = go (goes_on is_minus_one t) refl e
    where
      go : (b : Bool) → goes_on is_minus_one t ≡ b → None ≡ cond b (Some (next t)) None → goes_on is_minus_one t ≡ false
      go true g h = cc
      go false g h = g

-- what is left from place n on, as a part of a slice
abbrev pub after : List ℕ → ℕ → List ℕ
after t n = take (length t - n) (drop n t)

after_is : (t : List ℕ) (n : ℕ) → after t n ≡ drop n t
after_is t n = take_all (length t - n) (drop n t) (le_of_eq (length-drop n t))

-- ---- the fields `read` of t₀ are read, and t is left, of which `left` of the forms are asked
pub record Reached (t₀ : List ℕ) (forms : List Form) (read : List (List ℕ)) (left : List Form) (t : List ℕ) : Type 0 where
  pub asked : of_forms forms (fields t₀) ≡ of_forms left (fields t)
  pub cut : fields t₀ ≡ read ++ fields t

pub reach_start : (t : List ℕ) (forms : List Form) → Reached t forms [] forms t
reach_start t forms = record { asked = refl; cut = refl }

module _ {t₀ : List ℕ} {forms : List Form} {read : List (List ℕ)} {p : Form} {left : List Form} {t : List ℕ} where
  pub reach_on : {n : ℕ} → Reached t₀ forms read (p ∷ left) t → Goes p t n → Reached t₀ forms (read ++ (first t ∷ [])) left (after t n)
  reach_on {n} w g =
      let s = laws.goes-on p left t g.on in
      let e : fields (drop (next t) t) ≡ fields (after t n) = ap (λ (k : ℕ). fields (drop k t)) (sym g.next-is) ∙ ap fields (sym (after_is t n)) in
      record {
        asked = w.asked ∙ s.0 ∙ ap (of_forms left) e;
        cut = w.cut ∙ ap (λ (fs : List (List ℕ)). read ++ fs) (s.1 ∙ ap (λ (fs : List (List ℕ)). first t ∷ fs) e) ∙ sym (append_assoc read (first t ∷ []) (fields (after t n)));
      }

  pub reach_off : {q : Form} {qs : List Form} → Reached t₀ forms read (p ∷ left) t → left ≡ q ∷ qs → goes_on p t ≡ false → of_forms forms (fields t₀) ≡ false
  reach_off {q} {qs} w e h = w.asked ∙ ap (λ (l : List Form). of_forms (p ∷ l) (fields t)) e ∙ laws.ends-here p q qs t h

-- ---- the same, from what a reader of a field answered

module _ {t₀ : List ℕ} {forms : List Form} {read : List (List ℕ)} {left : List Form} {t : List ℕ} where
  pub reach-number : {v : Float} {n : ℕ} → Reached t₀ forms read (is_number ∷ left) t → ◌≡◌ {A = Option (Float × ℕ)} (Some (v, n)) (number_field t) → Reached t₀ forms (read ++ (first t ∷ [])) left (after t n)
  reach-number {v} {n} w e = reach_on w (number-goes t v n e).0

  pub reach-minus-one : {n : ℕ} → Reached t₀ forms read (is_minus_one ∷ left) t → Some n ≡ minus_one_field t → Reached t₀ forms (read ++ (first t ∷ [])) left (after t n)
  reach-minus-one {n} w e = reach_on w (minus-one-goes t n e)

  pub reach-frame : {v n : ℕ} → Reached t₀ forms read (is_frame ∷ left) t → ◌≡◌ {A = Option (ℕ × ℕ)} (Some (v, n)) (frame_field t) → Reached t₀ forms (read ++ (first t ∷ [])) left (after t n)
  reach-frame {v} {n} w e = reach_on w (frame-goes t v n e).0

module _ (t : List ℕ) where
  pub number-is : {v : Float} {n : ℕ} → ◌≡◌ {A = Option (Float × ℕ)} (Some (v, n)) (number_field t) → v ≡ f32_of (decimal_of (first t))
  number-is {v} {n} e = (number-goes t v n e).1

  pub frame-is : {v n : ℕ} → ◌≡◌ {A = Option (ℕ × ℕ)} (Some (v, n)) (frame_field t) → v ≡ frame_of (first t)
  frame-is {v} {n} e = (frame-goes t v n e).1

  pub number-within : {v : Float} {n : ℕ} → ◌≡◌ {A = Option (Float × ℕ)} (Some (v, n)) (number_field t) → n ≤ length t
  number-within {v} {n} e = goes-inside is_number t n (number-goes t v n e).0

  pub minus-one-within : {n : ℕ} → Some n ≡ minus_one_field t → n ≤ length t
  minus-one-within {n} e = goes-inside is_minus_one t n (minus-one-goes t n e)

  pub frame-within : {v n : ℕ} → ◌≡◌ {A = Option (ℕ × ℕ)} (Some (v, n)) (frame_field t) → n ≤ length t
  frame-within {v} {n} e = goes-inside is_frame t n (frame-goes t v n e).0
