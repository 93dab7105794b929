-- What one more record does to the frames of those that passed. Assumes nothing.
use mathlib.Core.Path.{◌≡◌, sym, ap, ◌∙◌}
use mathlib.Core.Bool.{Bool, cond}
use mathlib.Core.List.{List, [], ◌∷◌, ◌++◌, append_assoc, append-nil, foldl-append}
use Prim.Native.Nat.{ℕ, zero, suc, ◌+◌, ◌-◌, ◌≤◌, ◌<◌}
use native.Mathlib.Numerals.{add-one}
use native.Mathlib.Omega.{arith}
use lib.Dec.{eqb, ltb}
use lib.ListN.{length, length-append}
use borrow.Author.Tests.{lt-ltb, le-ltb, eq-eqb, ne_eqb}
use Rattle.laws.specs.Tab.{tab, tab_ext}
use Rattle.laws.specs.Sieve.{sieve, sieve-more}
use Rattle.records.specs.declared.box_record.BoxRecord.{BoxRecord}
use Rattle.trackbox_stream.specs.Stream.{Event, work, last_frame, boxes_of, earlier, frame_work, frames}
use Rattle.trackbox_stream.specs.declared.rules.OpenFrame.{OpenFrame}
use Rattle.trackbox_stream.specs.Feeding.{open_work, empty_work}

module _ (passed : List BoxRecord) (r : BoxRecord) where
  pub last-is : last_frame (passed ++ (r ∷ [])) ≡ r.frame
  unfolding last_frame
  last-is = foldl-append (λ (f : ℕ) (r : BoxRecord). r.frame) 0 passed (r ∷ [])

  pub boxes-in : (f : ℕ) → r.frame ≡ f → boxes_of f (passed ++ (r ∷ [])) ≡ boxes_of f passed ++ (r ∷ [])
  unfolding boxes_of
  boxes-in f e = sieve-more (λ (r : BoxRecord). eqb r.frame f) passed r ∙ rw (eq-eqb r.frame f e)

  pub boxes-out : (f : ℕ) → (r.frame ≡ f → ⊥) → boxes_of f (passed ++ (r ∷ [])) ≡ boxes_of f passed
  unfolding boxes_of
  boxes-out f e = sieve-more (λ (r : BoxRecord). eqb r.frame f) passed r ∙ rw (ne_eqb r.frame f e)

  pub earlier-same : (f : ℕ) → f ≤ r.frame → earlier f (passed ++ (r ∷ [])) ≡ earlier f passed
  unfolding earlier
  earlier-same f h = ap length (sieve-more (λ (r : BoxRecord). ltb r.frame f) passed r) ∙ rw (le-ltb r.frame f h)

  pub earlier_more : (f : ℕ) → r.frame < f → earlier f (passed ++ (r ∷ [])) ≡ earlier f passed + 1
  unfolding earlier
  earlier_more f h =
      ap length (sieve-more (λ (r : BoxRecord). ltb r.frame f) passed r)
      ∙ rw (lt-ltb r.frame f h) (length-append (sieve (λ (r : BoxRecord). ltb r.frame f) passed) (r ∷ []))

  work_kept : (f : ℕ) → f < r.frame → frame_work (passed ++ (r ∷ [])) f ≡ frame_work passed f
  unfolding frame_work
  work_kept f h =
      let n : r.frame ≡ f → ⊥ = λ e. omega arith in
      let l : f ≤ r.frame = omega arith in
      rw (boxes-out f n, earlier-same f l)

  -- frames below its own are as they were
  pub frames_kept : (n : ℕ) → n < r.frame → frames (passed ++ (r ∷ [])) n ≡ frames passed n
  unfolding frames
  frames_kept n h = tab_ext (λ (i : ℕ). frame_work (passed ++ (r ∷ [])) (i + 1)) (λ (i : ℕ). frame_work passed (i + 1)) n (λ i l. work_kept (i + 1) (omega arith))

pub frames_suc : (passed : List BoxRecord) (n : ℕ) → frames passed (suc n) ≡ frames passed n ++ (frame_work passed (suc n) ∷ [])
unfolding frames tab
frames_suc passed n = ap (λ (k : ℕ). frames passed n ++ (frame_work passed k ∷ [])) (add-one n)

-- what is known of the frames above frame p
pub record Bare (passed : List BoxRecord) (p : ℕ) : Type 0 where
  pub no-boxes : (f : ℕ) → p < f → boxes_of f passed ≡ []
  pub all-before : (f : ℕ) → p < f → earlier f passed ≡ length passed

pub bare_more : (passed : List BoxRecord) (r : BoxRecord) (p : ℕ) → Bare passed p → p ≤ r.frame → Bare (passed ++ (r ∷ [])) r.frame
bare_more passed r p b h = record {
  no-boxes = λ f l. boxes-out passed r f (λ e. omega arith) ∙ b.no-boxes f (omega arith);
  all-before = λ f l. earlier_more passed r f l ∙ ap (λ (n : ℕ). n + 1) (b.all-before f (omega arith)) ∙ sym (length-append passed (r ∷ []));
}

bare_work : (passed : List BoxRecord) (p f : ℕ) → Bare passed p → p < f → frame_work passed f ≡ work f [] (length passed + 1)
unfolding frame_work
bare_work passed p f b h = rw (b.no-boxes f h, b.all-before f h)

-- m frames above p are empty
pub frames_bare : (passed : List BoxRecord) (p m : ℕ) → Bare passed p → frames passed (p + m) ≡ frames passed p ++ empty_work m (p + 1) (length passed + 1)
unfolding empty_work tab
frames_bare passed p zero b = let z : p + 0 ≡ p = omega arith in ap (frames passed) z ∙ sym (append-nil (frames passed p))
frames_bare passed p (suc m) b =
    let z : p + suc m ≡ suc (p + m) = omega arith in
    let q : suc (p + m) ≡ p + 1 + m = omega arith in
    let l : p < p + 1 + m = omega arith in
    ap (frames passed) z
    ∙ frames_suc passed (p + m)
    ∙ ap (λ (e : Event). frames passed (p + m) ++ (e ∷ [])) (ap (frame_work passed) q ∙ bare_work passed p (p + 1 + m) b l)
    ∙ ap (λ (es : List Event). es ++ (work (p + 1 + m) [] (length passed + 1) ∷ [])) (frames_bare passed p m b)
    ∙ append_assoc (frames passed p) (empty_work m (p + 1) (length passed + 1)) (work (p + 1 + m) [] (length passed + 1) ∷ [])

-- the open frame's work is the last of the frames up to it
work-is : (passed : List BoxRecord) (f first : ℕ) (boxes : List BoxRecord) → boxes ≡ boxes_of f passed → first ≡ earlier f passed + 1 → work f boxes first ≡ frame_work passed f
unfolding frame_work
work-is passed f first boxes b e = rw (b, e)

with_open : (passed : List BoxRecord) (p first : ℕ) (boxes : List BoxRecord) (log : List Event) → log ≡ frames passed (p - 1) → boxes ≡ boxes_of p passed → first ≡ earlier p passed + 1
    → log ++ cond (eqb p 0) [] (work p boxes first ∷ []) ≡ frames passed p
with_open passed zero first boxes log l b e = append-nil log ∙ l
with_open passed (suc q) first boxes log l b e =
    let n : suc q ≡ 0 → ⊥ = λ z. omega arith in
    let m : suc q - 1 ≡ q = omega arith in
    ap (λ (t : Bool). log ++ cond t [] (work (suc q) boxes first ∷ [])) (ne_eqb (suc q) 0 n)
    ∙ ap (λ (v : Event). log ++ (v ∷ [])) (work-is passed (suc q) first boxes b e)
    ∙ ap (λ (es : List Event). es ++ (frame_work passed (suc q) ∷ [])) (l ∙ ap (frames passed) m)
    ∙ sym (frames_suc passed q)

pub open_worked : (passed : List BoxRecord) (state : OpenFrame) (boxes : List BoxRecord) (log : List Event) → log ≡ frames passed (state.frame - 1) → boxes ≡ boxes_of state.frame passed
    → state.first ≡ earlier state.frame passed + 1 → log ++ open_work state boxes ≡ frames passed state.frame
unfolding open_work
open_worked passed state boxes log l b e = with_open passed state.frame state.first boxes log l b e
