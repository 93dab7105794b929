-- `laws`: what specs/Laws.antt states holds. Assumes nothing.
use mathlib.Core.Path.{◌≡◌, refl, sym, ap, subst, ◌∙◌}
use mathlib.Core.Bool.{Bool, true, false, not, cond, ◌&&◌, ◌||◌}
use mathlib.Core.List.{List, [], ◌∷◌}
use Prim.Native.Nat.{ℕ, suc, ◌+◌, ◌-◌, ◌*◌, ◌^◌, ◌≤◌, ◌<◌, min}
use native.Mathlib.Omega.{arith}
use lib.Dec.{eqb, ltb}
use lib.Ieee.{Float, nan, inf, fin, lt}
use lib.Ieee.Exact.{HasValue}
use lib.Ieee.Scale.{finite}
use lib.ListN.{length, take, get_or, length-append}
use lib.Seq.{get_or-append-add}
use borrow.Author.Tests.{eqb-true, eqb-false, ne_eqb, le-ltb, lt-ltb}
use Rattle.laws.specs.Every.{every}
use Rattle.laws.specs.Tests.{true_not_false}
use Rattle.floats.specs.Single.{plus_zero, one}
use Rattle.box_verdict.specs.Box.{beyond, bad_box}
use Rattle.records.specs.declared.box_record.BoxRecord.{BoxRecord}
use Rattle.records.specs.BoxRecord.{box_bytes}
use Rattle.mot_number.specs.Number.{decimal_of, f32_of}
use Rattle.mot_number.specs.Numeral.{Numeral, in_bytes, text_of}
use Rattle.mot_number.proofs.Theorem as number
use Rattle.mot_fields.specs.Fields.{Form, fields, of_forms, body, is_ended, is_line}
use Rattle.mot_line.specs.Line.{detection, is_detection, box_read, line_of}
use Rattle.mot_line.specs.Call.{most_frames_on, bad_frame, bad_value, refusal_number, Outcome, mot_line}
use Rattle.mot_line.specs.Detection.{Detection, then, minus_one, line_text, nearest_to, box_written}
use Rattle.mot_line.proofs.Answers.{by_tests, call-is}
use Rattle.mot_line.proofs.Theorem as lines
use Rattle.mot_line.proofs.Texts.{text, text-body}
use Rattle.mot_fault.specs.declared.kinds.Fault.TheVariants.{NotAboveZero, Beyond, BelowZero, AboveOne, FrameZero, FrameBack, FirstFrameFar, FrameFar, FieldCount, NoLineFeed, EmptyLine, CarriageReturn}
use Rattle.mot_fault.specs.declared.kinds.Found.{Found}
use Rattle.std.specs.Bool.{⊤}
use Rattle.std.proofs.Common.{Result, Ok, Err}
use Rattle.mot_fault.specs.declared.kinds.Report.{Report}
use Rattle.mot_fault.specs.Form.{at, field_fault}
use Rattle.mot_fault.specs.Value.{reported, frame_value, place_value, side_value, score_value, in_field, value_fault}
use Rattle.mot_fault.specs.Line.{ends_with, first_fault, or_else, value_report, field_report, report_of}
use Rattle.mot_fault.specs.Laws.{refusal_found, refusal_reported, Laws}
use Rattle.mot_fault.proofs.FieldFaults.{some_number, frame_are, number_are, minus-one_are, id_are}

-- ---- forms: what field_fault says of field i on agrees with these forms

abbrev Agree : List Form → ℕ → Type 0
Agree [] i = Unit {0}
Agree (p ∷ ps) i = ((t : List ℕ) → refusal_found (field_fault i t) ≡ cond (p t) 0 51) × Agree ps (i + 1)

agrees : Agree detection 1
unfolding field_fault
agrees = (frame_are, (id_are, (number_are, (number_are, (number_are, (number_are, (number_are, (minus-one_are, (minus-one_are, (minus-one_are, tt))))))))))

form_then : (i : ℕ) (p : Bool) (x : Result ⊤ Found) (later : Result ⊤ Report) → refusal_found x ≡ cond p 0 51 → refusal_reported (in_field i x later) ≡ cond p (refusal_reported later) 51
form_then i true (Ok tt) later e = refl
form_then i true (Err found) later e = absurd (some_number found.fault e)
form_then i false (Ok tt) later e = absurd (omega (arith, e))
form_then i false (Err found) later e = e

first_fault_lem : (ps : List Form) (i : ℕ) (fs : List (List ℕ)) → Agree ps i → length fs ≡ length ps → refusal_reported (first_fault (length ps) i fs) ≡ cond (of_forms ps fs) 0 51
unfolding first_fault of_forms
first_fault_lem [] i [] a e = refl
first_fault_lem [] i (f ∷ fs) a e = absurd (omega (arith, e))
first_fault_lem (p ∷ ps) i [] a e = absurd (omega (arith, e))
first_fault_lem (p ∷ ps) i (f ∷ fs) a e =
    form_then i (p f) (field_fault i f) (first_fault (length ps) (i + 1) fs) (a.0 f) ∙ ap (λ (n : ℕ). cond (p f) n 51) (first_fault_lem ps (i + 1) fs a.1 (omega (arith, e))) ∙ nested (p f) (of_forms ps fs)
  where
    nested : (x y : Bool) → ◌≡◌ {A = ℕ} (cond x (cond y 0 51) 51) (cond (x && y) 0 51)
    nested true y = refl
    nested false y = refl

other_count : (ps : List Form) (fs : List (List ℕ)) → (length fs ≡ length ps → ⊥) → of_forms ps fs ≡ false
unfolding of_forms
other_count [] [] n = absurd (n refl)
other_count [] (f ∷ fs) n = refl
other_count (p ∷ ps) [] n = refl
other_count (p ∷ ps) (f ∷ fs) n = go (p f) (other_count ps fs (λ e. n (ap suc e)))
  where
    go : (x : Bool) → of_forms ps fs ≡ false → (x && of_forms ps fs) ≡ false
    go true e = e
    go false e = refl

-- ---- values

value-then : (i : ℕ) (q : Bool) (x : Result ⊤ Found) (later : Result ⊤ Report) → refusal_found x ≡ cond q 52 0 → refusal_reported (in_field i x later) ≡ cond q 52 (refusal_reported later)
value-then i true (Ok tt) later e = absurd (omega (arith, e))
value-then i true (Err found) later e = e
value-then i false (Ok tt) later e = refl
value-then i false (Err found) later e = absurd (some_number found.fault e)

frame_is : (previous frame : ℕ) → refusal_found (frame_value previous frame) ≡ cond (bad_frame previous frame) 52 0
unfolding frame_value bad_frame
frame_is previous frame = go (eqb frame 0) (ltb frame previous) (ltb most_frames_on (frame - previous)) (eqb previous 0)
  where
    go : (a b c first : Bool) → refusal_found (cond a (at FrameZero 0) (cond b (at FrameBack 0) (cond c (cond first (at FirstFrameFar 0) (at FrameFar 0)) (Ok tt)))) ≡ cond ((a || b) || c) 52 0
    go true b c first = refl
    go false true c first = refl
    go false false true true = refl
    go false false true false = refl
    go false false false first = refl

place_is : (x : Float) → refusal_found (place_value x) ≡ cond (beyond x) 52 0
unfolding place_value
place_is x = go (beyond x)
  where
    go : (b : Bool) → refusal_found (cond b (at Beyond 0) (Ok tt)) ≡ cond b 52 0
    go true = refl
    go false = refl

side-is : (x : Float) → refusal_found (side_value x) ≡ cond (not (lt plus_zero x) || beyond x) 52 0
unfolding side_value
side-is x = go (not (lt plus_zero x)) (place_is x)
  where
    go : (b : Bool) → refusal_found (place_value x) ≡ cond (beyond x) 52 0 → refusal_found (cond b (at NotAboveZero 0) (place_value x)) ≡ cond (b || beyond x) 52 0
    go true e = refl
    go false e = e

score-is : (x : Float) → refusal_found (score_value x) ≡ cond (lt x plus_zero || lt one x) 52 0
unfolding score_value
score-is x = go (lt x plus_zero) (lt one x)
  where
    go : (a b : Bool) → refusal_found (cond a (at BelowZero 0) (cond b (at AboveOne 0) (Ok tt))) ≡ cond (a || b) 52 0
    go true b = refl
    go false true = refl
    go false false = refl

-- one value after the other, and document 01's 16
order : (l t w h w0 h0 s0 s1 : Bool)
    → ◌≡◌ {A = ℕ} (cond l 52 (cond t 52 (cond (not w0 || w) 52 (cond (not h0 || h) 52 (cond (s0 || s1) 52 0))))) (cond (not (w0 && h0) || ((l || (t || (w || h))) || (s0 || s1))) 52 0)
order true t w h false h0 s0 s1 = refl
order true t w h true false s0 s1 = refl
order true t w h true true s0 s1 = refl
order false true w h false h0 s0 s1 = refl
order false true w h true false s0 s1 = refl
order false true w h true true s0 s1 = refl
order false false w h false h0 s0 s1 = refl
order false false true h true false s0 s1 = refl
order false false true h true true s0 s1 = refl
order false false false h true false s0 s1 = refl
order false false false true true true s0 s1 = refl
order false false false false true true true s1 = refl
order false false false false true true false true = refl
order false false false false true true false false = refl

pub record AllFinite (b : BoxRecord) : Type 0 where
  pub left : finite b.left ≡ true
  pub top : finite b.top ≡ true
  pub width : finite b.width ≡ true
  pub height : finite b.height ≡ true
  pub score : finite b.score ≡ true

bad-box-is : (b : BoxRecord) → AllFinite b
    → bad_box b.left b.top b.width b.height b.score
    ≡ (not (lt plus_zero b.width && lt plus_zero b.height) || ((beyond b.left || (beyond b.top || (beyond b.width || beyond b.height))) || (lt b.score plus_zero || lt one b.score)))
unfolding bad_box every
bad-box-is b f = rw (f.left, f.top, f.width, f.height, f.score)

module _ (previous : ℕ) (b : BoxRecord) where
  -- what is said from a value on, and whether that value is refused
  abbrev from-score : Result ⊤ Report
  from-score = in_field 7 (score_value b.score) (Ok tt)

  abbrev from-height : Result ⊤ Report
  from-height = in_field 6 (side_value b.height) from-score

  abbrev from-width : Result ⊤ Report
  from-width = in_field 5 (side_value b.width) from-height

  abbrev from-top : Result ⊤ Report
  from-top = in_field 4 (place_value b.top) from-width

  abbrev from-left : Result ⊤ Report
  from-left = in_field 3 (place_value b.left) from-top

  abbrev bad-side : Float → Bool
  bad-side x = not (lt plus_zero x) || beyond x

  abbrev bad-score : Bool
  bad-score = lt b.score plus_zero || lt one b.score

  height-said : refusal_reported from-height ≡ cond (bad-side b.height) 52 (cond bad-score 52 0)
  height-said = value-then 6 (bad-side b.height) (side_value b.height) from-score (side-is b.height) ∙ ap (cond (bad-side b.height) 52) (value-then 7 bad-score (score_value b.score) (Ok tt) (score-is b.score))

  width-said : refusal_reported from-width ≡ cond (bad-side b.width) 52 (cond (bad-side b.height) 52 (cond bad-score 52 0))
  width-said = value-then 5 (bad-side b.width) (side_value b.width) from-height (side-is b.width) ∙ ap (cond (bad-side b.width) 52) height-said

  top-said : refusal_reported from-top ≡ cond (beyond b.top) 52 (cond (bad-side b.width) 52 (cond (bad-side b.height) 52 (cond bad-score 52 0)))
  top-said = value-then 4 (beyond b.top) (place_value b.top) from-width (place_is b.top) ∙ ap (cond (beyond b.top) 52) width-said

  left-said : AllFinite b → refusal_reported from-left ≡ cond (bad_box b.left b.top b.width b.height b.score) 52 0
  left-said f =
      value-then 3 (beyond b.left) (place_value b.left) from-top (place_is b.left) ∙ ap (cond (beyond b.left) 52) top-said
      ∙ order (beyond b.left) (beyond b.top) (beyond b.width) (beyond b.height) (lt plus_zero b.width) (lt plus_zero b.height) (lt b.score plus_zero) (lt one b.score)
      ∙ ap (λ (x : Bool). cond x 52 0) (sym (bad-box-is b f))

  values_are : AllFinite b → refusal_reported (value_fault previous b) ≡ cond (bad_value previous b) 52 0
  unfolding value_fault
  values_are f =
      value-then 1 (bad_frame previous b.frame) (frame_value previous b.frame) from-left (frame_is previous b.frame) ∙ ap (cond (bad_frame previous b.frame) 52) (left-said f)
      ∙ nested (bad_frame previous b.frame) (bad_box b.left b.top b.width b.height b.score)
    where
      nested : (x y : Bool) → ◌≡◌ {A = ℕ} (cond x 52 (cond y 52 0)) (cond (x || y) 52 0)
      nested true y = refl
      nested false y = refl

-- ---- the values of a line are finite

valued : (x : Float) (s : Bool) (a c : ℕ) → HasValue x s a c → finite x ≡ true
valued nan s a c v = absurd v
valued (inf t) s a c v = absurd v
valued (fin t m e) s a c v = refl

numeral_finite : (n : Numeral) → finite (nearest_to n) ≡ true
numeral_finite n = let r = (number.laws).read_back n in ap finite (sym (ap f32_of ((number.laws).reads n).1)) ∙ valued (f32_of (decimal_of (text_of n))) n.negative (r.M * 2 ^ r.k) (2 ^ 149) r.value

line_finite : (d : Detection) → AllFinite (box_written d)
line_finite d = record { left = numeral_finite d.left; top = numeral_finite d.top; width = numeral_finite d.width; height = numeral_finite d.height; score = numeral_finite d.score }

-- ---- no carriage return stands before the line feed of a detection line

record Last (t : List ℕ) (b : ℕ) : Type 0 where
  some : 0 < length t
  is : get_or t (length t - 1) 0 ≡ b

last_then : (f : List ℕ) {r : List ℕ} {b : ℕ} → Last r b → Last (then f r) b
last_then f {r} {b} h =
    let n = length-append f (44 ∷ r) in
    let e : length (then f r) - 1 ≡ length f + suc (length r - 1) = omega (arith, h.some) in
    record { some = omega arith; is = ap (λ (k : ℕ). get_or (then f r) k 0) e ∙ get_or-append-add f (44 ∷ r) (suc (length r - 1)) 0 ∙ h.is }

last-minus-one : Last minus_one 49
last-minus-one = record { some = omega arith; is = refl }

no_return : (d : Detection) → ends_with 13 (body (line_text d)) ≡ false
no_return d = ap (ends_with 13) (text-body d) ∙ other (text d) 49 ends (λ e. omega (arith, e))
  where
    three : Last (then minus_one (then minus_one minus_one)) 49
    three = last_then minus_one (last_then minus_one last-minus-one)

    ends : Last (text d) 49
    ends = last_then (in_bytes d.frame) (last_then minus_one (last_then (text_of d.left) (last_then (text_of d.top) (last_then (text_of d.width) (last_then (text_of d.height) (last_then (text_of d.score) three))))))

    other : (t : List ℕ) (b : ℕ) → Last t b → (b ≡ 13 → ⊥) → ends_with 13 t ≡ false
    other t b h n = let i : eqb (get_or t (length t - 1) 0) 13 ≡ false = ne_eqb _ 13 (λ e. n (sym h.is ∙ e)) in rw (lt-ltb 0 (length t) h.some, i)

-- ---- a line

or_else_lem : (p : Bool) (x y : Result ⊤ Report) → refusal_reported x ≡ cond p 0 51 → refusal_reported (or_else x y) ≡ cond p (refusal_reported y) 51
or_else_lem true (Ok tt) y e = refl
or_else_lem true (Err found) y e = absurd (some_number found.fault e)
or_else_lem false (Ok tt) y e = absurd (omega (arith, e))
or_else_lem false (Err found) y e = e

ended_same : (l : List ℕ) → ends_with 10 l ≡ is_ended l
ended_same [] = refl
ended_same (x ∷ xs) = rw (lt-ltb 0 (suc (length xs)) (omega arith))

module _ (l : List ℕ) (previous : ℕ) where
  -- what a call answers that has room
  abbrev verdict : Bool → ℕ
  verdict form = cond form (cond (bad_value previous (box_read l)) 52 0) 51

  no_return_in : is_detection l ≡ true → ends_with 13 (body l) ≡ false
  no_return_in f = let d = (lines.laws).only l f in ap (λ (t : List ℕ). ends_with 13 (body t)) d.1 ∙ no_return d.0

  finite_in : is_detection l ≡ true → AllFinite (box_read l)
  finite_in f = let d = (lines.laws).only l f in subst AllFinite (sym (ap box_read d.1 ∙ ((lines.laws).reads d.0).1)) (line_finite d.0)

  values : is_detection l ≡ true → refusal_reported (value_report previous (line_of l)) ≡ cond (bad_value previous (box_read l)) 52 0
  unfolding line_of
  values f = rw f (values_are previous (box_read l) (finite_in f))

  abbrev fs : List (List ℕ)
  fs = fields (body l)

  -- the forms of the fields, and then their values
  abbrev looked : Result ⊤ Report
  looked = or_else (first_fault 10 1 fs) (value_report previous (line_of l))

  in-ten : is_detection l ≡ of_forms detection fs → length fs ≡ 10 → refusal_reported looked ≡ verdict (of_forms detection fs)
  in-ten same n = go (of_forms detection fs) refl (or_else_lem (of_forms detection fs) (first_fault 10 1 fs) (value_report previous (line_of l)) (first_fault_lem detection 1 fs agrees n))
    where
      go : (p : Bool) → of_forms detection fs ≡ p → refusal_reported looked ≡ cond p (refusal_reported (value_report previous (line_of l))) 51 → refusal_reported looked ≡ verdict p
      go true e g = g ∙ values (same ∙ e)
      go false e g = g

  in-fields : is_detection l ≡ of_forms detection fs → refusal_reported (field_report l fs previous) ≡ verdict (of_forms detection fs)
  unfolding field_report
  in-fields same = go (eqb (min (length fs) 11) 10) refl
    where
      fewer : length fs ≡ 10 → min (length fs) 11 ≡ 10
      fewer n = omega (arith, n)

      go : (b : Bool) → eqb (min (length fs) 11) 10 ≡ b → refusal_reported (cond (not b) (reported FieldCount (min (length fs) 11) 0) looked) ≡ verdict (of_forms detection fs)
      go true e = let m = eqb-true (min (length fs) 11) 10 e in in-ten same (omega (arith, m))
      go false e = let m = eqb-false (min (length fs) 11) 10 e in sym (ap verdict (other_count detection fs (λ n. m (fewer n))))

  -- nothing before the line feed is one field
  empty-line : length l - 1 ≡ 0 → of_forms detection fs ≡ false
  unfolding fields
  empty-line z = other_count detection fs (λ n. omega (arith, n, ap (λ (k : ℕ). length (fields (take k l))) z))

  by_tests_lem : (z r : Bool) → eqb (length l - 1) 0 ≡ z → ends_with 13 (body l) ≡ r → is_detection l ≡ of_forms detection fs
      → refusal_reported (cond z (reported EmptyLine 0 0) (cond r (reported CarriageReturn 0 0) (field_report l fs previous))) ≡ verdict (of_forms detection fs)
  by_tests_lem true r e f same = sym (ap verdict (empty-line (eqb-true _ _ e)))
  by_tests_lem false true e f same = go (of_forms detection fs) refl
    where
      go : (p : Bool) → of_forms detection fs ≡ p → 51 ≡ verdict p
      go true g = absurd (true_not_false (sym f ∙ no_return_in (same ∙ g)))
      go false g = refl
  by_tests_lem false false e f same = in-fields same

  reported-is : refusal_reported (report_of l previous) ≡ verdict (is_detection l)
  unfolding report_of is_line
  reported-is = go (is_ended l) refl
    where
      go : (b : Bool) → is_ended l ≡ b
          → refusal_reported (cond (not (ends_with 10 l)) (reported NoLineFeed 0 0) (cond (eqb (length l - 1) 0) (reported EmptyLine 0 0) (cond (ends_with 13 (body l)) (reported CarriageReturn 0 0) (field_report l fs previous))))
          ≡ verdict (is_ended l && of_forms detection fs)
      go true e = rw (ended_same l, e) (by_tests_lem _ _ refl refl (ap (λ (x : Bool). x && of_forms detection fs) e))
      go false e = rw (ended_same l, e)

  answered : (out : List ℕ) → box_bytes ≤ length out → refusal_number (mot_line l previous out).answer ≡ verdict (is_detection l)
  answered out room =
      ap (λ (c : Outcome). refusal_number c.answer) (call-is l previous out) ∙ go (is_detection l) (bad_value previous (box_read l)) (ltb (length out) box_bytes) (le-ltb (length out) box_bytes room)
    where
      go : (f v r : Bool) → r ≡ false → refusal_number (by_tests f v r (box_read l) out).answer ≡ cond f (cond v 52 0) 51
      go false v r e = refl
      go true true r e = refl
      go true false r e = rw e

pub laws : Laws
laws = record { frame_fault = frame_are; number_fault_lem = number_are; minus-one_fault = minus-one_are; id_fault_lem = id_are; reported = λ l previous out room. reported-is l previous ∙ sym (answered l previous out room) }
