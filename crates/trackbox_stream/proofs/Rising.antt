-- The frame numbers of records that passed do not fall, so that a frame's boxes are records in a row, behind those of earlier frames. Assumes nothing.
use mathlib.Core.Path.{◌≡◌, refl, ap}
use mathlib.Core.Bool.{Bool, true, false, cond, ◌||◌}
use mathlib.Core.List.{List, [], ◌∷◌, ◌++◌, foldl}
use Prim.Native.Nat.{ℕ, ◌≤◌, ◌<◌}
use native.Mathlib.Omega.{arith}
use lib.Dec.{eqb, ltb}
use borrow.Author.Tests.{lt-ltb, le-ltb, eq-eqb, ne_eqb, ltb-false, ltb-true, eqb-true, eqb-false}
use Rattle.laws.specs.Tests.{or_none}
use Rattle.laws.specs.Choose.{cond_no}
use Rattle.laws.specs.Sieve.{sieve}
use Rattle.records.specs.declared.box_record.BoxRecord.{BoxRecord}
use Rattle.trackbox_stream.specs.Laws.{InARow}
use Rattle.trackbox_stream.specs.Stream.{last_frame, boxes_of, earlier, refusal_of, passing_with, passing}

-- no number is below the one before it, nor the first below low
pub data Rising : ℕ → List BoxRecord → Type 0 where
  none : {low : ℕ} → Rising low []
  more : {low : ℕ} {r : BoxRecord} {rs : List BoxRecord} → low ≤ r.frame → Rising r.frame rs → Rising low (r ∷ rs)

-- ---- a frame's records

none-earlier : {low : ℕ} {rs : List BoxRecord} (f : ℕ) → Rising low rs → f ≤ low → earlier f rs ≡ 0
unfolding earlier sieve
none-earlier f none h = refl
none-earlier f (more {r = r} l t) h = let g : f ≤ r.frame = omega arith in rw (le-ltb r.frame f g) (none-earlier f t g)

none-boxes : {low : ℕ} {rs : List BoxRecord} (f : ℕ) → Rising low rs → f < low → boxes_of f rs ≡ []
unfolding boxes_of sieve
none-boxes f none h = refl
none-boxes f (more {r = r} l t) h =
    let g : f < r.frame = omega arith in
    let n : r.frame ≡ f → ⊥ = λ e. omega arith in
    rw (ne_eqb r.frame f n) (none-boxes f t g)

data Order (a b : ℕ) : Type 0 where
  less : a < b → Order a b
  equal : a ≡ b → Order a b
  greater : b < a → Order a b

order : (a b : ℕ) → Order a b
order a b = by_eq (eqb a b) refl
  where
    by_lt : (v : Bool) → ltb a b ≡ v → (a ≡ b → ⊥) → Order a b
    by_lt true e n = less (ltb-true a b e)
    by_lt false e n = let h = ltb-false a b e in greater (omega arith)

    by_eq : (v : Bool) → eqb a b ≡ v → Order a b
    by_eq true e = equal (eqb-true a b e)
    by_eq false e = by_lt (ltb a b) refl (eqb-false a b e)

row_on : (f : ℕ) (r : BoxRecord) (rs : List BoxRecord) → Rising r.frame rs → InARow f rs → Order r.frame f → InARow f (r ∷ rs)
unfolding boxes_of earlier sieve
row_on f r rs t ih (less h) = let n : r.frame ≡ f → ⊥ = λ e. omega arith in rw (ne_eqb r.frame f n, lt-ltb r.frame f h) ih
row_on f r rs t ih (equal e) =
    let g : f ≤ r.frame = omega arith in
    let z = none-earlier f t g in
    rw (eq-eqb r.frame f e, le-ltb r.frame f g, z) (ap (λ (l : List BoxRecord). r ∷ l) (rw z at ih))
row_on f r rs t ih (greater h) = let n : r.frame ≡ f → ⊥ = λ e. omega arith in rw (ne_eqb r.frame f n, none-boxes f t h)

pub in_a_row : {low : ℕ} {rs : List BoxRecord} (f : ℕ) → Rising low rs → InARow f rs
unfolding boxes_of earlier sieve
in_a_row f none = refl
in_a_row f (more {r = r} {rs = rs} l t) = row_on f r rs t (in_a_row f t) (order r.frame f)

-- ---- records that passed rise

abbrev later : ℕ → BoxRecord → ℕ
later f r = r.frame

rising_snoc : {low : ℕ} {rs : List BoxRecord} (r : BoxRecord) → Rising low rs → foldl later low rs ≤ r.frame → Rising low (rs ++ (r ∷ []))
rising_snoc r none h = more h none
rising_snoc r (more l t) h = more l (rising_snoc r t h)

passes-above : (passed : List BoxRecord) (f : ℕ) → refusal_of passed f ≡ 0 → last_frame passed ≤ f
unfolding refusal_of
passes-above passed f e =
    let n : ◌≡◌ {A = ℕ} 42 0 → ⊥ = λ z. omega arith in
    let a = (cond_no (eqb f 0 || ltb f (last_frame passed)) 42 _ 0 n e).0 in
    ltb-false f (last_frame passed) (or_none (eqb f 0) (ltb f (last_frame passed)) a).1

rising-more : (passed : List BoxRecord) (r : BoxRecord) → Rising 0 passed → refusal_of passed r.frame ≡ 0 → Rising 0 (passed ++ (r ∷ []))
unfolding last_frame
rising-more passed r t e = rising_snoc r t (passes-above passed r.frame e)

rising-from : (rs passed : List BoxRecord) → Rising 0 passed → Rising 0 (passing passed rs).passed
unfolding passing
rising-from [] passed t = t
rising-from (r ∷ rs) passed t = by_cases (eqb (refusal_of passed r.frame) 0) refl (rising-from rs (passed ++ (r ∷ [])))
  where
    by_cases : (b : Bool) → eqb (refusal_of passed r.frame) 0 ≡ b → (Rising 0 (passed ++ (r ∷ [])) → Rising 0 (passing (passed ++ (r ∷ [])) rs).passed)
        → Rising 0 (cond b (passing (passed ++ (r ∷ [])) rs) (passing_with passed (refusal_of passed r.frame))).passed
    by_cases true e ih = ih (rising-more passed r t (eqb-true (refusal_of passed r.frame) 0 e))
    by_cases false e ih = t

pub rising : (rs : List BoxRecord) → Rising 0 (passing [] rs).passed
rising rs = rising-from rs [] none

-- the boxes of each frame of a stream are records in a row
pub frame-records : (rs : List BoxRecord) (f : ℕ) → InARow f (passing [] rs).passed
frame-records rs f = in_a_row f (rising rs)
