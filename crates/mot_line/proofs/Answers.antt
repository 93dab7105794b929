-- The returns of a call. Assumes nothing.
use mathlib.Core.Path.{◌≡◌, refl, sym, ap, ◌∙◌}
use mathlib.Core.Bool.{Bool, true, false, not, cond}
use mathlib.Core.List.{List}
use Prim.Native.Nat.{ℕ, ◌/◌}
use native.Mathlib.Omega.{arith}
use lib.Dec.{ltb}
use lib.ListN.{length}
use borrow.Author.Tests.{ltb-true, ltb-false, lt-ltb, le-ltb}
use Rattle.std.proofs.Common.{Option, Some, None, Ok, Err}
use Rattle.laws.specs.Splice.{splice}
use Rattle.records.specs.declared.box_record.BoxRecord.{BoxRecord}
use Rattle.records.specs.BoxRecord.{box_bytes, bytes_of_box, WritesBox}
use Rattle.mot_line.specs.declared.call.Refusal.TheVariants.{NotOfTheForm, BadValue, NoRoom}
use Rattle.mot_line.specs.Line.{is_detection, box_read, line_of}
use Rattle.mot_line.specs.Call.{bad_value, first_of, Outcome, outcome, ends, mot_line}

-- ---- a call by its three tests

-- whether the line is of the form, whether a value is bad, and whether there is too little room
abbrev pub by_tests : Bool → Bool → Bool → BoxRecord → List ℕ → Outcome
by_tests form bad short b out =
    cond (not form) (outcome (Err NotOfTheForm) out)
    (cond bad (outcome (Err BadValue) out)
    (cond short (outcome (Err NoRoom) out)
    (outcome (Ok b.frame) (splice out 0 (bytes_of_box b)))))

pub call-is : (l : List ℕ) (previous : ℕ) (out : List ℕ) → mot_line l previous out ≡ by_tests (is_detection l) (bad_value previous (box_read l)) (ltb (length out) box_bytes) (box_read l) out
unfolding mot_line first_of
call-is l previous out = go (is_detection l) (bad_value previous (box_read l)) (ltb (length out) box_bytes)
  where
    go : (form bad short : Bool) → ends (cond (not form) (Err NotOfTheForm) (cond bad (Err BadValue) (cond short (Err NoRoom) (Ok (box_read l).frame)))) (box_read l) out ≡ by_tests form bad short (box_read l) out
    go false bad short = refl
    go true true short = refl
    go true false true = refl
    go true false false = refl

-- ---- the returns

-- r is what the line was found to be
module _ (l : List ℕ) (previous : ℕ) (out : List ℕ) (r : Option BoxRecord) (is : r ≡ line_of l) where
  not_one : r ≡ None → is_detection l ≡ false
  not_one e = go (is_detection l) refl (unfold line_of in is)
    where
      go : (b : Bool) → is_detection l ≡ b → r ≡ cond b (Some (box_read l)) None → is_detection l ≡ false
      go true f g = let z : ◌≡◌ {A = ℕ} 0 1 = cc in absurd (omega arith)
      go false f g = f

  one : (b : BoxRecord) → r ≡ Some b → (is_detection l ≡ true) × (b ≡ box_read l)
  one b e = go (is_detection l) refl (unfold line_of in is)
    where
      go : (d : Bool) → is_detection l ≡ d → r ≡ cond d (Some (box_read l)) None → (is_detection l ≡ true) × (b ≡ box_read l)
      go true f g = (f, cc)
      go false f g = let z : ◌≡◌ {A = ℕ} 0 1 = cc in absurd (omega arith)

  pub no_form : r ≡ None → outcome (Err NotOfTheForm) out ≡ mot_line l previous out
  no_form e = sym (call-is l previous out ∙ ap (λ (form : Bool). by_tests form (bad_value previous (box_read l)) (ltb (length out) box_bytes) (box_read l) out) (not_one e))

  module _ (b : BoxRecord) (e : r ≡ Some b) (x : Bool) (f : x ≡ bad_value previous b) where
    bad-is : bad_value previous (box_read l) ≡ x
    bad-is = sym (f ∙ ap (bad_value previous) (one b e).1)

    pub bad-values : x ≡ true → outcome (Err BadValue) out ≡ mot_line l previous out
    bad-values t = rw (call-is l previous out, (one b e).0, bad-is, t)

    -- the room decides
    by_room : x ≡ false → (y : Bool) → ltb (length out) box_bytes ≡ y
        → cond y (outcome (Err NoRoom) out) (outcome (Ok b.frame) (splice out 0 (bytes_of_box b))) ≡ mot_line l previous out
    by_room t y h = rw (call-is l previous out, (one b e).0, bad-is, t, h, (one b e).1)

    -- w and out' are what writing answered and left
    module _ (t : x ≡ false) (w : Option ℕ) (out' : List ℕ) (m : WritesBox b 0 out w out') where
      pub no_room : w ≡ None → outcome (Err NoRoom) out' ≡ mot_line l previous out
      no_room s = go (ltb 0 (length out / box_bytes)) refl m.answer m.cells
        where
          go : (r : Bool) → ltb 0 (length out / box_bytes) ≡ r → w ≡ cond r (Some (length (bytes_of_box b))) None → out' ≡ cond r (splice out 0 (bytes_of_box b)) out → outcome (Err NoRoom) out' ≡ mot_line l previous out
          go true h a k = let z : ◌≡◌ {A = ℕ} 0 1 = cc in absurd (omega arith)
          go false h a k = let q = ltb-false 0 (length out / box_bytes) h in ap (outcome (Err NoRoom)) k ∙ by_room t true (lt-ltb (length out) box_bytes (omega arith))

      pub is_read : (n : ℕ) → w ≡ Some n → outcome (Ok b.frame) out' ≡ mot_line l previous out
      is_read n s = go (ltb 0 (length out / box_bytes)) refl m.answer m.cells
        where
          go : (r : Bool) → ltb 0 (length out / box_bytes) ≡ r → w ≡ cond r (Some (length (bytes_of_box b))) None → out' ≡ cond r (splice out 0 (bytes_of_box b)) out → outcome (Ok b.frame) out' ≡ mot_line l previous out
          go true h a k = let q = ltb-true 0 (length out / box_bytes) h in ap (outcome (Ok b.frame)) k ∙ by_room t false (le-ltb (length out) box_bytes (omega arith))
          go false h a k = let z : ◌≡◌ {A = ℕ} 0 1 = cc in absurd (omega arith)
