-- Records that pass a test, laid one after the other over the front of a list: what a loop that keeps some of what it meets leaves. Assumes nothing.
use Rattle.std.specs.Prelude.{◌≡◌, Bool, ℕ, ◌+◌, ◌*◌, ◌≤◌, ◌<◌, drop}
use Rattle.std.proofs.Math.Path.{refl, sym, ap}
use Rattle.std.proofs.Common.{◌∙◌, zero-le, le_trans, arith, length-append}
use Rattle.std.proofs.Math.Bool.{true, false, cond}
use mathlib.Core.List.{List, [], ◌∷◌, ◌++◌}
use Rattle.std.proofs.Math.Nat.{mul-le-mul_right}
use Rattle.std.proofs.Math.Numerals.{add-one}
use Rattle.std.proofs.Math.ListN.{length}
use Rattle.laws.specs.Sieve.{sieve, sieve-more, sieve-few}
use Rattle.laws.specs.Tab.{tab, length-tab}
use Rattle.laws.specs.Splice.{splice}
use Rattle.laws.specs.Laid.{laid, laid_none, laid_more, laid-rest, length-laid}

-- such a loop keeps of g 0 .. g (n - 1) those that pass p, each as its s cells
module _ {X A : Type 0} (enc : X → List A) (s : ℕ) (p : X → Bool) (g : ℕ → X) where
  -- what it knows when i are looked at, w are kept, and the list is out
  pub record Keeping (l : List A) (n i w : ℕ) (out : List A) : Type 0 where
    pub room : n * s ≤ length l
    pub upto : i ≤ n
    pub few : w ≤ i
    pub count : w ≡ length (sieve p (tab g i))
    pub cells : out ≡ laid enc s (sieve p (tab g i)) l
    pub same : length out ≡ length l

module _ {X A : Type 0} (enc : X → List A) (s : ℕ) (p : X → Bool) (g : ℕ → X) (l : List A) (n : ℕ) where
  pub keep_start : n * s ≤ length l → Keeping enc s p g l n 0 0 l
  unfolding tab sieve
  keep_start h = record { room = h; upto = zero-le; few = zero-le; count = refl; cells = laid_none enc s l; same = refl }

  pub keep_end : {i w : ℕ} {out : List A} → Keeping enc s p g l n i w out → n ≤ i → (w ≡ length (sieve p (tab g n))) × (out ≡ laid enc s (sieve p (tab g n)) l)
  keep_end {i} {w} {out} k h = let e : i ≡ n = omega arith in (rw e at k.count, rw e at k.cells)

  module _ (size : (x : X) → length (enc x) ≡ s) {i w : ℕ} {out : List A} (k : Keeping enc s p g l n i w out) where
    -- what is not looked at yet is as it was
    pub keep_ahead : drop (i * s) out ≡ drop (i * s) l
    keep_ahead = ap (drop (i * s)) k.cells ∙ laid-rest enc s size (sieve p (tab g i)) l i (rw (← k.count) k.few)

    -- one more is looked at: w and the list after it, by cases on its test
    pub keep_on : {w' : ℕ} {out' : List A} → i < n → w' ≡ cond (p (g i)) (w + 1) w → out' ≡ cond (p (g i)) (splice out (w * s) (enc (g i))) out → Keeping enc s p g l n (i + 1) w' out'
    unfolding tab
    keep_on {w'} {out'} h ew eo =
        let ys : List X = sieve p (tab g i) in
        let more : cond (p (g i)) (ys ++ (g i ∷ [])) ys ≡ sieve p (tab g (i + 1)) = rw add-one (sym (sieve-more p (tab g i) (g i))) in
        let z = by_cases (p (g i)) ew eo in
        let m : w' ≡ length (sieve p (tab g (i + 1))) = rw more at z.0 in
        let c : out' ≡ laid enc s (sieve p (tab g (i + 1))) l = rw more at z.1 in
        let few : length (sieve p (tab g (i + 1))) ≤ i + 1 = rw (length-tab g (i + 1)) at (sieve-few p (tab g (i + 1))) in
        let fits : length (sieve p (tab g (i + 1))) * s ≤ n * s = mul-le-mul_right s (le_trans few (omega arith)) in
        record { room = k.room; upto = omega arith; few = rw m few; count = m; cells = c; same = ap length c ∙ length-laid enc s size (sieve p (tab g (i + 1))) l (le_trans fits k.room) }
      where
        by_cases : (b : Bool) → w' ≡ cond b (w + 1) w → out' ≡ cond b (splice out (w * s) (enc (g i))) out
            → (w' ≡ length (cond b (sieve p (tab g i) ++ (g i ∷ [])) (sieve p (tab g i)))) × (out' ≡ laid enc s (cond b (sieve p (tab g i) ++ (g i ∷ [])) (sieve p (tab g i))) l)
        by_cases true a e =
            (a ∙ ap (λ (m : ℕ). m + 1) k.count ∙ sym (length-append (sieve p (tab g i)) (g i ∷ [])), e ∙ rw (k.cells, k.count) (laid_more enc s size (sieve p (tab g i)) l (g i)))
        by_cases false a e = (a ∙ k.count, e ∙ k.cells)
