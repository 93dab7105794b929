-- `floats::root::sqrt` meets its contract: each early return is a case of the definition, and what is left is above zero and finite. Assumes nothing.
use Rattle.std.proofs.Common.{◌≡◌, ℕ, zero, suc, ◌+◌, ◌*◌, ◌<◌, Bool, true, false, ◌&&◌, ◌||◌, T, eqb, ℤ, pos, sym, refl, ap, ◌∙◌, subst, true≢false, zero-lt-suc, mul-pos, arith, lit≤, lt→ltb, ltb-true, lt-ltb, eq-eqb, eqb-true}
use mathlib.Core.Bool.{beq}
use lib.Ieee.{Float, nan, inf, fin, binary32, up, down, lt, eq, is_nan, of_bits, div}
use lib.Ieee.Fits.{up_pos}
use lib.Ieee.Positive.{positive, positive-finite}
use Rattle.floats.specs.Root.{root}
use Rattle.floats.specs.Private.{Parts}
use Rattle.floats.proofs.Nearest.{parts-above, significance, root_of_parts}
use Rattle.floats.proofs.Pack.{no_nan}
use Rattle.floats.proofs.root.sqrt.Goals as goal

nil : Float
nil = fin false 0 (pos 0)

nil_is : of_bits binary32 0 ≡ nil
unfolding nil of_bits
nil_is = refl

endless : of_bits binary32 0x7f80_0000 ≡ inf false
unfolding of_bits
endless = refl

no_number : div binary32 (of_bits binary32 0) (of_bits binary32 0) ≡ nan
unfolding div of_bits
no_number = refl

of_nan : (x : Float) → is_nan x ≡ true → x ≡ root x
unfolding is_nan root
of_nan nan h = refl
of_nan (inf s) h = absurd (true≢false (sym h))
of_nan (fin s m e) h = absurd (true≢false (sym h))

both_l : (p q : Bool) → (p && q) ≡ true → p ≡ true
both_l true q h = refl
both_l false q h = h

some : (m : ℕ) (e : ℤ) → 0 < suc m * up e
some m e = mul-pos (zero-lt-suc m) (up_pos e)

of_zero : (x : Float) → eq x nil ≡ true → x ≡ root x
unfolding eq root nil
of_zero nan h = absurd (true≢false (sym h))
of_zero (inf s) h = absurd (true≢false (sym h))
of_zero (fin s zero e) h = refl
of_zero (fin s (suc m) e) h =
    let z : suc m * up e * 1 ≡ 0 * down e = eqb-true _ _ (both_l (eqb (suc m * up e * 1) (0 * down e)) _ h) in
    let p = some m e in
    absurd (omega arith)

of-below : (x : Float) → lt x nil ≡ true → nan ≡ root x
unfolding lt root nil
of-below nan h = absurd (true≢false (sym h))
of-below (inf true) h = refl
of-below (inf false) h = absurd (true≢false (sym h))
of-below (fin true zero e) h = let z : 0 < 0 * up e * 1 + 0 * down e = ltb-true _ _ h in absurd (omega arith)
of-below (fin false zero e) h = let z : 0 * up e * 1 < 0 * down e = ltb-true _ _ h in absurd (omega arith)
of-below (fin true (suc m) e) h = refl
of-below (fin false (suc m) e) h = let z : suc m * up e * 1 < 0 * down e = ltb-true _ _ h in absurd (omega arith)

of_inf : (x : Float) → eq x (inf false) ≡ true → x ≡ root x
unfolding eq root
of_inf nan h = absurd (true≢false (sym h))
of_inf (inf true) h = absurd (true≢false (sym h))
of_inf (inf false) h = refl
of_inf (fin s m e) h = absurd (true≢false (sym h))

-- ---- what is left is above zero and finite
zeros : (s : Bool) (a b : ℕ) → a ≡ b → a ≡ 0 → (eqb a b && (beq s false || eqb a 0)) ≡ true
zeros true a b e z = cc (eq-eqb a b e, eq-eqb a 0 z)
zeros false a b e z = cc (eq-eqb a b e)

is-above : (x : Float) → is_nan x ≡ false → eq x nil ≡ false → lt x nil ≡ false → eq x (inf false) ≡ false → T (positive x)
unfolding is_nan eq lt nil
is-above nan n z l i = absurd (true≢false n)
is-above (inf true) n z l i = absurd (true≢false l)
is-above (inf false) n z l i = absurd (true≢false i)
is-above (fin s zero e) n z l i = absurd (true≢false (sym (zeros s (0 * up e * 1) (0 * down e) (omega arith) (omega arith)) ∙ z))
is-above (fin true (suc m) e) n z l i =
    let p = some m e in
    absurd (true≢false (sym (lt-ltb 0 (suc m * up e * 1 + 0 * down e) (omega arith)) ∙ l))
is-above (fin false (suc m) e) n z l i = lt→ltb 0 (suc m) (zero-lt-suc m)

-- the parts of such a value have no sign
unsigned : (x : Float) (s : Bool) (d k : ℕ) → T (positive x) → Parts x s d k → Parts x false d k
unsigned x s d k h p = subst (λ (t : Bool). Parts x t d k) (parts-above x s d k h p) p

past : (x : Float) → is_nan x ≡ false → eq x (of_bits binary32 0) ≡ false → lt x (of_bits binary32 0) ≡ false → eq x (of_bits binary32 0x7f80_0000) ≡ false → T (positive x)
past x n z l i = is-above x n (ap (eq x) (sym nil_is) ∙ z) (ap (lt x) (sym nil_is) ∙ l) (ap (eq x) (sym endless) ∙ i)

pub returns-then-is_nan : goal.returns-then-is_nan
returns-then-is_nan c = let x = c.args.x in of_nan x (sym c.is_nan.ensures.value ∙ c.if-is_nan.true)

pub returns-then-x : goal.returns-then-x
returns-then-x c = let x = c.args.x in of_zero x (ap (eq x) (sym nil_is) ∙ c.if-x.true)

pub returns-then-x-2 : goal.returns-then-x-2
returns-then-x-2 c = let x = c.args.x in no_number ∙ of-below x (ap (lt x) (sym nil_is) ∙ c.if-x-2.true)

pub float_from_bits-t-5 : goal.float_from_bits-t-5
float_from_bits-t-5 c = no_nan 0x7f80_0000 (lit≤ tt)

pub returns-then-x-3 : goal.returns-then-x-3
returns-then-x-3 c = let x = c.args.x in of_inf x (ap (eq x) (sym endless) ∙ c.if-x-3.true)

pub parts-p-requires : goal.parts-p-requires
parts-p-requires c = positive-finite c.args.x (past c.args.x (sym c.is_nan.ensures.value ∙ c.if-is_nan.false) c.if-x.false c.if-x-2.false c.if-x-3.false)

pub rooted-requires : goal.rooted-requires
rooted-requires c =
    let x = c.args.x in
    let p = c.parts-p in
    let h = past x (sym c.is_nan.ensures.value ∙ c.if-is_nan.false) c.if-x.false c.if-x-2.false c.if-x-3.false in
    significance x p.result.digits p.result.place h (unsigned x p.result.negative p.result.digits p.result.place h p.ensures)

pub returns : goal.returns
returns c =
    let x = c.args.x in
    let p = c.parts-p in
    let h = past x (sym c.is_nan.ensures.value ∙ c.if-is_nan.false) c.if-x.false c.if-x-2.false c.if-x-3.false in
    c.rooted.ensures ∙ sym (root_of_parts x p.result.digits p.result.place h (unsigned x p.result.negative p.result.digits p.result.place h p.ensures).value)
