-- The returns of the functions that read a line. Assumes nothing.
use mathlib.Core.Path.{◌≡◌, sym, ap, ◌∙◌}
use mathlib.Core.Bool.{Bool, true, false}
use mathlib.Core.List.{List, [], ◌∷◌}
use Prim.Native.Nat.{ℕ, ◌-◌}
use native.Mathlib.Omega.{arith}
use lib.Dec.{eqb}
use lib.ListN.{length, take, get_or, get_or-eq_default}
use lib.Ieee.{Float}
use borrow.Author.Tests.{eq-eqb, ne_eqb}
use Rattle.std.proofs.Common.{Option, Some, None}
use Rattle.mot_number.specs.Number.{frame_of, decimal_of, f32_of}
use Rattle.mot_fields.specs.Fields.{fields, of_forms, is_ended, is_line}
use Rattle.records.specs.declared.box_record.BoxRecord.{BoxRecord}
use Rattle.mot_line.specs.Line.{detection, line_of}
use Rattle.mot_line.specs.Private.{coordinates, box_forms, box_fields, body_fields}
use Rattle.mot_line.proofs.Reaching.{Reached}

-- ---- the box: not of the forms, or five fields that are read

pub no-box : (frame : ℕ) (t : List ℕ) → of_forms box_forms (fields t) ≡ false → None ≡ box_fields frame (fields t)
unfolding box_fields
no-box frame t h = rw h

pub a-box : (frame : ℕ) (t u : List ℕ) (l p w h s : List ℕ) → Reached t box_forms (l ∷ p ∷ w ∷ h ∷ s ∷ []) coordinates u
    → (left top width height score : Float) → left ≡ f32_of (decimal_of l) → top ≡ f32_of (decimal_of p) → width ≡ f32_of (decimal_of w) → height ≡ f32_of (decimal_of h) → score ≡ f32_of (decimal_of s)
    → (c : Bool) → c ≡ of_forms coordinates (fields u) → c ≡ true
    → Some (record { frame = frame; left = left; top = top; width = width; height = height; score = score; label = 1 }) ≡ box_fields frame (fields t)
unfolding box_fields
a-box frame t u l p w h s r left top width height score e f g i j c k m = rw (r.asked, ← k, m, r.cut, e, f, g, i, j)

pub no-coordinates : (frame : ℕ) (t u : List ℕ) (read : List (List ℕ)) → Reached t box_forms read coordinates u → (c : Bool) → c ≡ of_forms coordinates (fields u) → c ≡ false
    → None ≡ box_fields frame (fields t)
no-coordinates frame t u read r c k m = no-box frame t (r.asked ∙ sym k ∙ m)

-- ---- frame and id before it

pub no_body : (t : List ℕ) → of_forms detection (fields t) ≡ false → None ≡ body_fields (fields t)
unfolding body_fields
no_body t h = rw h

pub a_body : (t u f i : List ℕ) → Reached t detection (f ∷ i ∷ []) box_forms u → (frame : ℕ) → frame ≡ frame_of f → (r : Option BoxRecord) → r ≡ box_fields frame (fields u) → r ≡ body_fields (fields t)
unfolding body_fields box_fields
a_body t u f i w frame e r h = h ∙ rw (w.asked, w.cut, e)

-- ---- the line feed behind it

not_ended : (l : List ℕ) → is_ended l ≡ false → None ≡ line_of l
unfolding line_of is_line
not_ended l e = rw e

pub no_line : (l : List ℕ) → length l ≡ 0 → None ≡ line_of l
no_line l e = not_ended l (ap (λ (b : ℕ). eqb b 10) (get_or-eq_default l 0 (omega arith)))

pub no-feed : (l : List ℕ) → (get_or l (length l - 1) 0 ≡ 10 → ⊥) → None ≡ line_of l
no-feed l h = not_ended l (ne_eqb (get_or l (length l - 1) 0) 10 h)

pub a-line : (l : List ℕ) → get_or l (length l - 1) 0 ≡ 10 → (r : Option BoxRecord) → r ≡ body_fields (fields (take (length l - 1) l)) → r ≡ line_of l
unfolding line_of body_fields is_line
a-line l e r h = h ∙ rw (eq-eqb (get_or l (length l - 1) 0) 10 e)
