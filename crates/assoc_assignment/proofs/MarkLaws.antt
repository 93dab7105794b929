-- The matched boxes and tracks as marks, and the unmarked pushed in ascending order. Assumes nothing.
use mathlib.Core.Path.{◌≡◌, refl, sym, ap, ◌∙◌}
use mathlib.Core.List.{List, [], ◌∷◌, ◌++◌, append-nil}
use mathlib.Core.Bool.{Bool, true, false, cond, not, ◌||◌}
use Prim.Native.Nat.{ℕ, zero, suc, ◌+◌, ◌≤◌, ◌<◌}
use native.Mathlib.Nat.{le_refl}
use native.Mathlib.Omega.{arith}
use lib.Dec.{ltb, eqb}
use lib.ListN.{length, get_or, set, length-set}
use lib.Seq.{get_or-set_same, get_or-set_other}
use borrow.Author.Tests.{ltb-true, eqb-true, eqb-false}
use Rattle.laws.specs.Tab.{tab, tab-at, tab_of, length-tab, indices}
use Rattle.laws.specs.Sieve.{sieve, sieve-more, maybe}
use Rattle.laws.specs.Elem.{elem, elem-append}
use Rattle.laws.specs.Joined.{joined-none}
use Rattle.assoc_matching.specs.Matching.{Pair, boxes_of, tracks_of}
use Rattle.assoc_matching.specs.Partners.{pairs_of, Clean}
use Rattle.assoc_direct.proofs.PairLaws.{paired, map-pairs}
use Rattle.assoc_assignment.specs.Assignment.{unmatched}
use Rattle.assoc_assignment.specs.Private.{Mark, Marked}

-- ---- marked

-- one more number is marked
mark_one : (xs : List ℕ) (m j : ℕ) → j < m → set (tab (λ k. elem k xs) m) j true ≡ tab (λ k. elem k (xs ++ (j ∷ []))) m
unfolding elem
mark_one xs m j h =
    tab_of (λ k. elem k (xs ++ (j ∷ []))) (set (tab (λ k. elem k xs) m) j true) m false
    (length-set (tab (λ k. elem k xs) m) j true ∙ length-tab (λ k. elem k xs) m)
    (λ (k : ℕ) (l : k < m). rw (elem-append k xs (j ∷ [])) (by_cases k l (eqb k j) refl))
  where
    marked : (b : Bool) → true ≡ (b || (true || false))
    marked true = refl
    marked false = refl

    kept : (b : Bool) → b ≡ (b || (false || false))
    kept true = refl
    kept false = refl

    by_cases : (k : ℕ) → k < m → (v : Bool) → eqb k j ≡ v → get_or (set (tab (λ k. elem k xs) m) j true) k false ≡ (elem k xs || (v || false))
    by_cases k l true e =
        ap (λ (i : ℕ). get_or (set (tab (λ k. elem k xs) m) j true) i false) (eqb-true k j e)
        ∙ get_or-set_same (tab (λ k. elem k xs) m) j true false (rw (length-tab (λ k. elem k xs) m) h) ∙ marked (elem k xs)
    by_cases k l false e = get_or-set_other (tab (λ k. elem k xs) m) j k true false (eqb-false k j e) ∙ tab-at (λ k. elem k xs) m k false l ∙ kept (elem k xs)

mark_maybe : (xs : List ℕ) (m j : ℕ) (b : Bool) (marks marks' : List Bool) → (b ≡ true → j < m) → marks ≡ tab (λ k. elem k xs) m → marks' ≡ cond b (set marks j true) marks
    → marks' ≡ tab (λ k. elem k (xs ++ maybe b j)) m
mark_maybe xs m j true marks marks' h e f = f ∙ ap (λ (l : List Bool). set l j true) e ∙ mark_one xs m j (h refl)
mark_maybe xs m j false marks marks' h e f = f ∙ e ∙ rw (append-nil xs)

pub marked_same : {ps : List Pair} {n m : ℕ} {boxes tracks : List Bool} → Marked ps n m boxes tracks → (length boxes ≡ n) × (length tracks ≡ m)
marked_same {ps} {n} {m} w = (ap length w.boxes_are ∙ length-tab (λ b. elem b (boxes_of ps)) n, ap length w.tracks_are ∙ length-tab (λ b. elem b (tracks_of ps)) m)

module _ (m : ℕ) (f : ℕ → ℕ) (n : ℕ) where
  pub mark_start : {boxes tracks : List Bool} → Clean n false boxes → Clean m false tracks → Marked (pairs_of m f 0) n m boxes tracks
  unfolding pairs_of elem
  mark_start {boxes} {tracks} c d = rw (joined-none (λ i. paired m i (f i))) (record {
    boxes_are = tab_of (λ b. elem b []) boxes n false c.same (λ (i : ℕ) (h : i < n). c.cells i h);
    tracks_are = tab_of (λ b. elem b []) tracks m false d.same (λ (i : ℕ) (h : i < m). d.cells i h);
  })

  pub mark_on : {i : ℕ} {boxes tracks boxes' tracks' : List Bool} → Marked (pairs_of m f i) n m boxes tracks → i < n → Mark (ltb (f i) m) i (f i) boxes tracks boxes' tracks'
      → Marked (pairs_of m f (i + 1)) n m boxes' tracks'
  mark_on {i} {boxes} {tracks} {boxes'} {tracks'} w h s = record {
    boxes_are = rw (map-pairs (λ (p : Pair). p.box) m f i) (mark_maybe (boxes_of (pairs_of m f i)) n i (ltb (f i) m) boxes boxes' (λ e. h) w.boxes_are s.boxes_are);
    tracks_are = rw (map-pairs (λ (p : Pair). p.track) m f i) (mark_maybe (tracks_of (pairs_of m f i)) m (f i) (ltb (f i) m) tracks tracks' (λ e. ltb-true (f i) m e) w.tracks_are s.tracks_are);
  }

-- ---- unmarked

sieve_ext : (p q : ℕ → Bool) (n k : ℕ) → k ≤ n → ((i : ℕ) → i < n → p i ≡ q i) → sieve p (indices k) ≡ sieve q (indices k)
unfolding sieve tab
sieve_ext p q n zero h e = refl
sieve_ext p q n (suc k) h e = sieve-more p (indices k) k ∙ rw (sieve_ext p q n k (omega arith) e, e k h) (sym (sieve-more q (indices k) k))

-- what is not marked is not matched
pub unmarked : (xs : List ℕ) (n : ℕ) (marks : List Bool) → marks ≡ tab (λ b. elem b xs) n → sieve (λ j. not (get_or marks j false)) (indices (length marks)) ≡ unmatched xs n
unfolding unmatched
unmarked xs n marks e =
    rw (e, length-tab (λ b. elem b xs) n)
    (sieve_ext (λ j. not (get_or (tab (λ b. elem b xs) n) j false)) (λ b. not (elem b xs)) n n (le_refl n) (λ (i : ℕ) (h : i < n). ap not (tab-at (λ b. elem b xs) n i false h)))
