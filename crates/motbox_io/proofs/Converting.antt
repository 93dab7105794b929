-- What one line adds to the records, and that a call which has room says the same of it. Assumes nothing.
use mathlib.Core.Path.{◌≡◌, refl, sym, ap, ◌∙◌}
use mathlib.Core.Bool.{Bool, true, false}
use mathlib.Core.List.{List, [], ◌∷◌, ◌++◌, append-nil}
use Prim.Native.Nat.{ℕ, ◌+◌, ◌≤◌}
use native.Mathlib.Omega.{arith}
use lib.ListN.{length, drop, length-replicate, drop_of_length-le}
use lib.Dec.{ltb}
use borrow.Author.Tests.{le-ltb}
use Rattle.std.proofs.Common.{Result, Ok, Err}
use Rattle.laws.specs.Splice.{splice}
use Rattle.records.specs.declared.box_record.BoxRecord.{BoxRecord}
use Rattle.records.specs.BoxRecord.{box_bytes, bytes_of_box}
use Rattle.records.proofs.Laws.Lengths.{length-box}
use Rattle.mot_line.specs.declared.call.Refusal.{Refusal}
use Rattle.mot_line.specs.declared.call.Refusal.TheVariants.{NotOfTheForm, BadValue}
use Rattle.mot_line.specs.Line.{is_detection, box_read}
use Rattle.mot_line.specs.Call.{number, bad_value, Outcome, mot_line}
use Rattle.mot_line.proofs.Answers.{by_tests, call-is}
use Rattle.motbox_io.specs.Text.{converting, behind, later, on_answer, blank, converted}

-- ---- what a line adds

module _ (previous lines : ℕ) (l : List ℕ) (ls : List (List ℕ)) where
  pub line_adds : (frame : ℕ) → (mot_line l previous blank).answer ≡ Ok frame → converted previous lines (l ∷ ls) ≡ behind (mot_line l previous blank).out (converted frame (later lines) ls)
  unfolding converted
  line_adds frame e = ap (λ (a : Result ℕ Refusal). on_answer a (mot_line l previous blank).out lines (λ frame. converted frame (later lines) ls)) e

  pub line-ends : (why : Refusal) → (mot_line l previous blank).answer ≡ Err why → converted previous lines (l ∷ ls) ≡ converting [] (number why) (later lines)
  unfolding converted
  line-ends why e = ap (λ (a : Result ℕ Refusal). on_answer a (mot_line l previous blank).out lines (λ frame. converted frame (later lines) ls)) e

-- ---- a record

pub refused_not_read : (why : Refusal) (frame : ℕ) → Err why ≡ Ok frame → ⊥
refused_not_read why frame e = let z : ◌≡◌ {A = ℕ} 0 1 = cc in omega arith

-- written over as many bytes
record-alone : (b : BoxRecord) → splice blank 0 (bytes_of_box b) ≡ bytes_of_box b
record-alone b = ap (λ (x : List ℕ). bytes_of_box b ++ x) (drop_of_length-le blank {i = 0 + length (bytes_of_box b)} (omega (arith, length-box b, length-replicate {A = ℕ} box_bytes 0))) ∙ append-nil (bytes_of_box b)

-- ---- the call

-- a call that has room, by whether the line is of the form and whether a value is bad
module _ (l : List ℕ) (previous : ℕ) where
  abbrev roomy : Bool → Bool → List ℕ → Outcome
  roomy f v out = by_tests f v false (box_read l) out

  room-is : (out : List ℕ) → box_bytes ≤ length out → mot_line l previous out ≡ roomy (is_detection l) (bad_value previous (box_read l)) out
  room-is out room = call-is l previous out ∙ ap (λ (r : Bool). by_tests (is_detection l) (bad_value previous (box_read l)) r (box_read l) out) (le-ltb (length out) box_bytes room)

  blank-is : mot_line l previous blank ≡ roomy (is_detection l) (bad_value previous (box_read l)) blank
  blank-is = room-is blank (omega (arith, length-replicate {A = ℕ} box_bytes 0))

  module _ (out : List ℕ) where
    pub no_form : is_detection l ≡ false → (mot_line l previous out).answer ≡ Err NotOfTheForm
    no_form e = ap (λ (c : Outcome). c.answer) (call-is l previous out) ∙ ap (λ (f : Bool). (by_tests f (bad_value previous (box_read l)) (ltb (length out) box_bytes) (box_read l) out).answer) e

    module _ (room : box_bytes ≤ length out) where
      pub same_answer : (mot_line l previous blank).answer ≡ (mot_line l previous out).answer
      same_answer = ap (λ (c : Outcome). c.answer) blank-is ∙ go (is_detection l) (bad_value previous (box_read l)) ∙ sym (ap (λ (c : Outcome). c.answer) (room-is out room))
        where
          go : (f v : Bool) → (roomy f v blank).answer ≡ (roomy f v out).answer
          go false v = refl
          go true true = refl
          go true false = refl

      -- a line that is read: its record, and the bytes behind it as they were
      pub read-leaves : (frame : ℕ) → (mot_line l previous out).answer ≡ Ok frame
          → ((mot_line l previous out).out ≡ (mot_line l previous blank).out ++ drop box_bytes out) × (length (mot_line l previous blank).out ≡ box_bytes)
      read-leaves frame e =
          let r = go (is_detection l) (bad_value previous (box_read l)) (sym (ap (λ (c : Outcome). c.answer) (room-is out room)) ∙ e) in
          (ap (λ (c : Outcome). c.out) (room-is out room) ∙ r.0 ∙ sym (ap (λ (c : Outcome). c.out ++ drop box_bytes out) blank-is), ap (λ (c : Outcome). length c.out) blank-is ∙ r.1)
        where
          go : (f v : Bool) → (roomy f v out).answer ≡ Ok frame → ((roomy f v out).out ≡ (roomy f v blank).out ++ drop box_bytes out) × (length (roomy f v blank).out ≡ box_bytes)
          go false v g = absurd (refused_not_read NotOfTheForm frame g)
          go true true g = absurd (refused_not_read BadValue frame g)
          go true false g = (
            ap (λ (n : ℕ). bytes_of_box (box_read l) ++ drop (0 + n) out) (length-box (box_read l)) ∙ ap (λ (x : List ℕ). x ++ drop box_bytes out) (sym (record-alone (box_read l))),
            ap length (record-alone (box_read l)) ∙ length-box (box_read l),
          )
