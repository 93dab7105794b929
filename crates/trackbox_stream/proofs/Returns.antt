-- Each return of `nth_after`, `judge`, `close`, `hold` and `hold_label` is the definition's case where the tests are as that return found them. Assumes nothing.
use mathlib.Core.Path.{◌≡◌, refl, ap, ◌∙◌}
use mathlib.Core.Bool.{true, ◌||◌}
use mathlib.Core.List.{List}
use Prim.Native.Nat.{ℕ, ◌+◌, ◌-◌, ◌*◌, ◌/◌, ◌≤◌, ◌<◌}
use lib.Dec.{eqb, ltb}
use lib.Ieee.{Float}
use lib.ListN.{length, set}
use borrow.Author.Tests.{lt-ltb, le-ltb, le-leb, lt-leb}
use borrow.Rule.Slice.PartMut.{put_mid}
use Rattle.laws.specs.Splice.{mid_splice}
use Rattle.records.specs.declared.box_record.BoxRecord.{BoxRecord}
use Rattle.records.specs.BoxRecord.{box_values}
use Rattle.std.proofs.Common.{Ok, Err}
use Rattle.trackbox_stream.specs.declared.rules.OpenFrame.{OpenFrame}
use Rattle.trackbox_stream.specs.declared.rules.Refusal.TheVariants.{RecordIncomplete, FrameBack, FrameFar, TooManyBoxes}
use Rattle.trackbox_stream.specs.declared.rules.Next.TheVariants as next
use Rattle.trackbox_stream.specs.Rules.{fault, nth_after, opened, grown, judged, closed}
use Rattle.trackbox_stream.specs.Boxes.{box_floats, held_then, label_then}
use Rattle.trackbox_stream.proofs.Cases.{Ahead}

module _ (state : OpenFrame) (n frame : ℕ) (e : n ≡ nth_after state.records) where
  pub back : (eqb frame 0 || ltb frame state.frame) ≡ true → Err (fault FrameBack n) ≡ judged state (nth_after state.records) frame
  unfolding judged
  back t = rw t (ap (λ (k : ℕ). Err (fault FrameBack k)) e)

  pub far : Ahead state frame → 1000 < frame - state.frame → Err (fault FrameFar n) ≡ judged state (nth_after state.records) frame
  unfolding judged
  far t m = rw (t, lt-ltb 1000 (frame - state.frame) m) (ap (λ (k : ℕ). Err (fault FrameFar k)) e)

  pub later : Ahead state frame → frame - state.frame ≤ 1000 → state.frame < frame → (o : OpenFrame) → o ≡ opened n frame
      → Ok (next.Later (frame - state.frame - 1) o) ≡ judged state (nth_after state.records) frame
  unfolding judged
  later t m l o q =
      rw (t, le-ltb 1000 (frame - state.frame) m, lt-ltb state.frame frame l)
      (ap (λ (s : OpenFrame). Ok (next.Later (frame - state.frame - 1) s)) (q ∙ ap (λ (k : ℕ). opened k frame) e))

  pub full : Ahead state frame → frame - state.frame ≤ 1000 → frame ≤ state.frame → 64 ≤ state.boxes → Err (fault TooManyBoxes n) ≡ judged state (nth_after state.records) frame
  unfolding judged
  full t m l b =
      rw (t, le-ltb 1000 (frame - state.frame) m, le-ltb state.frame frame l, le-leb 64 state.boxes b) (ap (λ (k : ℕ). Err (fault TooManyBoxes k)) e)

  pub same : Ahead state frame → frame - state.frame ≤ 1000 → frame ≤ state.frame → state.boxes < 64 → (o : OpenFrame) → o ≡ grown state n (state.boxes + 1)
      → Ok (next.Same o) ≡ judged state (nth_after state.records) frame
  unfolding judged
  same t m l b o q =
      rw (t, le-ltb 1000 (frame - state.frame) m, le-ltb state.frame frame l, lt-leb 64 state.boxes b)
      (ap (λ (s : OpenFrame). Ok (next.Same s)) (q ∙ ap (λ (k : ℕ). grown state k (state.boxes + 1)) e))

pub cut : (state : OpenFrame) (n : ℕ) → n ≡ nth_after state.records → (rest : ℕ) → 0 < rest → Err (fault RecordIncomplete n) ≡ closed (nth_after state.records) rest
unfolding closed
cut state n e rest h = rw (lt-ltb 0 rest h) (ap (λ (k : ℕ). Err (fault RecordIncomplete k)) e)

pub clean : (nth rest : ℕ) → rest ≤ 0 → Ok tt ≡ closed nth rest
unfolding closed
clean nth rest h = rw (le-ltb 0 rest h)

pub stored : (r : BoxRecord) (k : ℕ) (l vs : List Float) → k < length l / box_values → vs ≡ box_floats r → put_mid (k * box_values) (k * box_values + box_values - k * box_values) l vs ≡ held_then r k l
unfolding held_then
stored r k l vs h e = rw (lt-ltb k (length l / box_values) h, e) (mid_splice l (k * box_values) box_values (box_floats r) refl)

pub not_stored : (r : BoxRecord) (k : ℕ) (l : List Float) → length l / box_values ≤ k → l ≡ held_then r k l
unfolding held_then
not_stored r k l h = rw (le-ltb k (length l / box_values) h)

pub label_stored : (r : BoxRecord) (k : ℕ) (l : List ℕ) → k < length l → set l k r.label ≡ label_then r k l
unfolding label_then
label_stored r k l h = rw (lt-ltb k (length l) h)

pub label_not_stored : (r : BoxRecord) (k : ℕ) (l : List ℕ) → length l ≤ k → l ≡ label_then r k l
unfolding label_then
label_not_stored r k l h = rw (le-ltb k (length l) h)
