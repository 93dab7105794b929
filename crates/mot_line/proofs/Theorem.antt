-- `laws`: what specs/Laws.antt states holds. Assumes nothing.
use mathlib.Core.Path.{◌≡◌, refl, sym, ap, ◌∙◌}
use mathlib.Core.Bool.{Bool, true, false, cond, ◌||◌}
use mathlib.Core.List.{List}
use Prim.Native.Nat.{ℕ, ◌+◌, ◌-◌, ◌≤◌}
use native.Mathlib.Omega.{arith}
use lib.Dec.{eqb, leb, ltb}
use lib.ListN.{length}
use borrow.Author.Tests.{ltb-false, le-ltb}
use Rattle.std.proofs.Common.{Result, Ok, Err}
use Rattle.laws.specs.Splice.{splice}
use Rattle.records.specs.declared.box_record.BoxRecord.{BoxRecord}
use Rattle.records.specs.BoxRecord.{box_bytes, bytes_of_box}
use Rattle.trackbox_stream.specs.declared.rules.OpenFrame.{OpenFrame}
use Rattle.trackbox_stream.specs.declared.rules.Next.TheVariants as next
use Rattle.trackbox_stream.specs.declared.rules.Refusal.TheVariants.{FrameBack, FrameFar, TooManyBoxes}
use Rattle.trackbox_stream.specs.Rules.{fault, opened, grown, judged}
use Rattle.mot_line.specs.declared.call.Refusal.{Refusal}
use Rattle.mot_line.specs.declared.call.Refusal.TheVariants.{NotOfTheForm, BadValue, NoRoom}
use Rattle.mot_line.specs.Line.{is_detection, box_read}
use Rattle.mot_line.specs.Call.{most_frames_on, bad_frame, bad_value, Outcome, outcome, mot_line}
use Rattle.mot_line.specs.Detection.{Detection, line_text, box_written}
use Rattle.mot_line.specs.Laws.{Accepted, is_frame_refused, Laws}
use Rattle.mot_line.proofs.Answers.{by_tests, call-is}
use Rattle.mot_line.proofs.Texts.{line_reads, line_means, line-only, line-short}

-- no refusal answers Read
refused_not : (why : Refusal) (frame : ℕ) (out out' : List ℕ) → outcome (Err why) out ≡ outcome (Ok frame) out' → ⊥
refused_not why frame out out' e = let f : ◌≡◌ {A = Result ℕ Refusal} (Err why) (Ok frame) = ap (λ (c : Outcome). c.answer) e in let z : ◌≡◌ {A = ℕ} 0 1 = cc in omega arith

module _ (l : List ℕ) (previous : ℕ) (out : List ℕ) (frame : ℕ) (out' : List ℕ) where
  accepted-is : mot_line l previous out ≡ outcome (Ok frame) out' → Accepted l previous out frame out'
  accepted-is g = go (is_detection l) (bad_value previous (box_read l)) (ltb (length out) box_bytes) refl refl refl (sym (call-is l previous out) ∙ g)
    where
      go : (f v r : Bool) → is_detection l ≡ f → bad_value previous (box_read l) ≡ v → ltb (length out) box_bytes ≡ r
          → by_tests f v r (box_read l) out ≡ outcome (Ok frame) out' → Accepted l previous out frame out'
      go false v r a b c e = absurd (refused_not NotOfTheForm frame out out' e)
      go true true r a b c e = absurd (refused_not BadValue frame out out' e)
      go true false true a b c e = absurd (refused_not NoRoom frame out out' e)
      go true false false a b c e =
          let d = line-only l a in
          let m : box_read l ≡ box_written d.0 = ap box_read d.1 ∙ line_means d.0 in
          let f : ◌≡◌ {A = Result ℕ Refusal} (Ok (box_read l).frame) (Ok frame) = ap (λ (x : Outcome). x.answer) e in
          let n : frame ≡ (box_read l).frame = cc in
          record {
            written = d.0;
            text = d.1;
            in_range = ap (bad_value previous) (sym m) ∙ b;
            room = ltb-false _ _ c;
            frame_is = n ∙ ap (λ (x : BoxRecord). x.frame) m;
            record_is = sym (ap (λ (x : Outcome). x.out) e) ∙ ap (λ (x : BoxRecord). splice out 0 (bytes_of_box x)) m;
          }

not_refused-is : (d : Detection) (previous : ℕ) (out : List ℕ) → bad_value previous (box_written d) ≡ false → box_bytes ≤ length out
    → mot_line (line_text d) previous out ≡ outcome (Ok (box_written d).frame) (splice out 0 (bytes_of_box (box_written d)))
not_refused-is d previous out v r =
    call-is (line_text d) previous out ∙ ap (λ (f : Bool). by_tests f (bad_value previous (box_read (line_text d))) (ltb (length out) box_bytes) (box_read (line_text d)) out) (line_reads d)
    ∙ ap (λ (b : BoxRecord). by_tests true (bad_value previous b) (ltb (length out) box_bytes) b out) (line_means d) ∙ in_range (box_written d) v
  where
    in_range : (b : BoxRecord) → bad_value previous b ≡ false → by_tests true (bad_value previous b) (ltb (length out) box_bytes) b out ≡ outcome (Ok b.frame) (splice out 0 (bytes_of_box b))
    in_range b e = rw (e, le-ltb (length out) box_bytes r)

bad-frame-is : (state : OpenFrame) (frame nth : ℕ) → is_frame_refused (judged state nth frame) ≡ bad_frame state.frame frame
unfolding judged bad_frame
bad-frame-is state frame nth = by_tests_lem (eqb frame 0 || ltb frame state.frame) (ltb most_frames_on (frame - state.frame)) (ltb state.frame frame) (leb 64 state.boxes)
  where
    by_tests_lem : (b f l m : Bool)
        → is_frame_refused (cond b (Err (fault FrameBack nth)) (cond f (Err (fault FrameFar nth)) (cond l (Ok (next.Later (frame - state.frame - 1) (opened nth frame))) (cond m (Err (fault TooManyBoxes nth)) (Ok (next.Same (grown state nth (state.boxes + 1)))))))) ≡ (b || f)
    by_tests_lem true f l m = refl
    by_tests_lem false true l m = refl
    by_tests_lem false false true m = refl
    by_tests_lem false false false true = refl
    by_tests_lem false false false false = refl

pub laws : Laws
laws = record {
  reads = λ d. (line_reads d, line_means d);
  only = line-only;
  short = line-short;
  accepted = accepted-is;
  not_refused = not_refused-is;
  bad-frame = bad-frame-is;
}
