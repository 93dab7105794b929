-- Lines one after the other: each starts where the one before ended, and together they are the lines of the records. Assumes nothing.
use mathlib.Core.Path.{◌≡◌, refl, sym, ap, subst, ◌∙◌}
use mathlib.Core.List.{List, [], ◌∷◌, ◌++◌, append_assoc, append-nil}
use Prim.Native.Nat.{ℕ, ◌+◌, ◌-◌, ◌*◌, ◌/◌, ◌≤◌, ◌<◌}
use native.Mathlib.Nat.{zero-add}
use native.Mathlib.Omega.{arith}
use lib.ListN.{length, take, drop, length-append, take-append-drop}
use lib.Seq.{drop-append-le, drop-drop}
use borrow.Author.Tests.{lt-ltb}
use borrow.Rule.Slice.PartMut.{put_mid, mid_len}
use Rattle.laws.specs.Splice.{splice, length-splice, splice-splice}
use Rattle.laws.specs.Tab.{tab, tab-more}
use Rattle.laws.specs.Laid.{rows, rows_append}
use Rattle.std.proofs.Common.{Option, Some, None}
use Rattle.records.specs.declared.track_record.TrackRecord.{TrackRecord}
use Rattle.records.specs.TrackRecord.{track_bytes, track_at}
use Rattle.records.specs.Written.{WritesText}
use Rattle.records_line.specs.Line.{line, line_bytes, refused_line}
use Rattle.records_line.proofs.Laws.{refused-most}
use Rattle.records.proofs.Laws.{text_fitted}
use Rattle.records_line.proofs.Laws.Digits.{most-places}
use Rattle.records_line.proofs.Laws.Lengths.{length-line}
use Rattle.trackbox_feed.specs.Private.{Put, read_at, lines_in}

-- ---- one text

abbrev count_of : Option ℕ → ℕ
count_of (Some n) = n
count_of None = 0

-- what lies behind a text at the front of the first k elements lies behind it in the whole
behind : (xs d : List ℕ) (k : ℕ) → length xs ≤ length (take k d) → (xs ++ drop (length xs) (take k d)) ++ drop k d ≡ xs ++ drop (length xs) d
behind xs d k h =
    append_assoc xs (drop (length xs) (take k d)) (drop k d)
    ∙ ap (λ (z : List ℕ). xs ++ z) (sym (drop-append-le (length xs) (take k d) (drop k d) h) ∙ ap (drop (length xs)) (take-append-drop k d))

module _ (l xs : List ℕ) (at k : ℕ) (room : at + k ≤ length l) (fits : length xs ≤ k) where
  part-long : length (take (at + k - at) (drop at l)) ≡ k
  part-long = mid_len at (at + k) l room ∙ (omega arith)

  -- a text of at most k bytes that was written into a part of k bytes
  module _ (w : Option ℕ) (vs : List ℕ) (e : WritesText xs (take (at + k - at) (drop at l)) w vs) where
    pub fitted : (w ≡ Some (length xs)) × (vs ≡ splice (take (at + k - at) (drop at l)) 0 xs)
    fitted = let n = part-long in text_fitted xs (take (at + k - at) (drop at l)) w vs e (omega arith)

    pub count-is : {n : ℕ} → w ≡ Some n → n ≡ length xs
    count-is q = ap count_of (sym q ∙ fitted.0)

    front-is : vs ≡ xs ++ drop (length xs) (take (at + k - at) (drop at l))
    front-is = subst (λ (m : ℕ). vs ≡ xs ++ drop m (take (at + k - at) (drop at l))) (zero-add (length xs)) fitted.1

    pub put-within : {n : ℕ} → w ≡ Some n → Put at xs l (at + n) (put_mid at (at + k - at) l vs)
    put-within q =
        let n = part-long in
        let short : length xs ≤ length (take (at + k - at) (drop at l)) = omega arith in
        record {
          ends = ap (λ (m : ℕ). at + m) (count-is q);
          cells = ap (λ (z : List ℕ). take at l ++ (z ++ drop (at + k - at) (drop at l))) front-is
              ∙ ap (λ (z : List ℕ). take at l ++ z) (behind xs (drop at l) (at + k - at) short ∙ ap (λ (z : List ℕ). xs ++ z) (drop-drop (length xs) at l));
        }

-- ---- a line

pub line-room : (t : TrackRecord) → length (line t) ≤ line_bytes
line-room t = let n = length-line t in let a = most-places t.frame in let b = most-places t.id in omega arith

pub refused-room : (number nth : ℕ) → length (refused_line number nth) ≤ line_bytes
refused-room number nth = let h = refused-most number nth in omega arith

-- a refusal at the front of the text
pub refused-put : (number nth : ℕ) (l : List ℕ) (w : Option ℕ) (out : List ℕ) {n : ℕ} → line_bytes ≤ length l → WritesText (refused_line number nth) l w out → w ≡ Some n → Put 0 (refused_line number nth) l n out
refused-put number nth l w out h e q =
    let r = refused-room number nth in
    let f = text_fitted (refused_line number nth) l w out e (omega arith) in
    record { ends = ap count_of (sym q ∙ f.0) ∙ sym (zero-add (length (refused_line number nth))); cells = f.1 }

pub refused-fitted : (number nth : ℕ) (l : List ℕ) (w : Option ℕ) (out : List ℕ) → line_bytes ≤ length l → WritesText (refused_line number nth) l w out → w ≡ Some (length (refused_line number nth))
refused-fitted number nth l w out h e = let r = refused-room number nth in (text_fitted (refused_line number nth) l w out e (omega (arith, h, r))).0

-- ---- a record of the output

abbrev record_in : Option TrackRecord → TrackRecord → TrackRecord
record_in (Some t) d = t
record_in None d = d

module _ (out : List ℕ) (k : ℕ) (h : k < length out / track_bytes) where
  pub is_read : track_at out k ≡ Some (read_at out k)
  unfolding track_at read_at
  is_read = rw (lt-ltb k (length out / track_bytes) h)

  pub read_is : {t : TrackRecord} (a : Option TrackRecord) → a ≡ track_at out k → a ≡ Some t → t ≡ read_at out k
  read_is {t} a e q = ap (λ (x : Option TrackRecord). record_in x t) (sym q ∙ e ∙ is_read)

-- ---- the lines of the records before k

pub record Lining (out l : List ℕ) (n k at : ℕ) (text : List ℕ) : Type 0 where
  pub upto : k ≤ n
  pub put : Put 0 (lines_in out k) l at text
  pub low : at ≤ k * line_bytes
  pub same : length text ≡ length l

lines_more : (out : List ℕ) (k : ℕ) → lines_in out (k + 1) ≡ lines_in out k ++ line (read_at out k)
unfolding lines_in rows
lines_more out k =
    ap (rows line) (sym (tab-more (read_at out) k)) ∙ rows_append line (tab (read_at out) k) (read_at out k ∷ []) ∙ ap (λ (z : List ℕ). rows line (tab (read_at out) k) ++ z) (append-nil (line (read_at out k)))

pub lining_start : (out l : List ℕ) (n : ℕ) → Lining out l n 0 0 l
unfolding lines_in rows tab
lining_start out l n = record { upto = omega arith; put = record { ends = refl; cells = refl }; low = omega arith; same = refl }

pub lining_on : {out l : List ℕ} {n k at end : ℕ} {text text' : List ℕ} {t : TrackRecord} → Lining out l n k at text → k < n → n * line_bytes ≤ length l → t ≡ read_at out k
    → Put at (line t) text end text' → end ≤ at + line_bytes → Lining out l n (k + 1) end text'
lining_on {out} {l} {n} {k} {at} {end} {text} {text'} {t} w h room e p low =
    let ends = p.ends in
    let before = w.low in
    let same = w.same in
    let ends₀ = w.put.ends in
    let fits : at + length (line t) ≤ length text = omega arith in
    let more = lines_more out k ∙ ap (λ (r : TrackRecord). lines_in out k ++ line r) (sym e) in
    record {
      upto = omega arith;
      put = record {
        ends = ends ∙ ap (λ (m : ℕ). m + length (line t)) ends₀ ∙ (omega (arith, length-append (lines_in out k) (line t), ap length more));
        cells = p.cells ∙ ap (λ (z : List ℕ). splice z at (line t)) w.put.cells ∙ ap (λ (m : ℕ). splice (splice l 0 (lines_in out k)) m (line t)) ends₀
            ∙ splice-splice l 0 (length (lines_in out k)) (lines_in out k) (line t) refl (omega arith)
            ∙ ap (splice l 0) (sym more);
      };
      low = omega arith;
      same = ap length p.cells ∙ length-splice text at (line t) fits ∙ same;
    }

pub lining_end : {out l : List ℕ} {n k at : ℕ} {text : List ℕ} → Lining out l n k at text → n ≤ k → Put 0 (lines_in out n) l at text
lining_end {out} {l} {n} {k} {at} {text} w h = let u = w.upto in let e : k ≡ n = omega arith in rw e at w.put
