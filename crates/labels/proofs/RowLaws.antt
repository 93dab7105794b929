-- The labels of a row: what the loop that asks whether they are all one knows, and that the row stays then. Assumes nothing.
use mathlib.Core.Path.{◌≡◌, refl, ap}
use mathlib.Core.Bool.{Bool, true, false, cond, ◌&&◌}
use mathlib.Core.List.{List, [], ◌∷◌, ◌++◌}
use Prim.Native.Nat.{ℕ, ◌+◌, ◌<◌}
use native.Mathlib.Numerals.{add-one}
use lib.ListN.{length, get_or, take}
use lib.Seq.{take-suc, get_or-take}
use lib.Ieee.{Float, nan}
use Rattle.laws.specs.Every.{every, every-at, every_append}
use Rattle.laws.specs.Tab.{tab_of, tab_ext}
use Rattle.labels.specs.Label.{same_label, unlike_set}

last_one : (b : Bool) → (b && true) ≡ b
last_one true = refl
last_one false = refl

-- one more is looked at; b is its test
pub every-on : (p : ℕ → Bool) (l : List ℕ) (j : ℕ) {all b : Bool} → all ≡ every p (take j l) → j < length l → b ≡ p (get_or l j 0) → (all && b) ≡ every p (take (j + 1) l)
unfolding every
every-on p l j {all} {b} e h f =
    let more : every p (take j l ++ (get_or l j 0 ∷ [])) ≡ (every p (take j l) && (p (get_or l j 0) && true)) = every_append p (take j l) (get_or l j 0 ∷ []) in
    rw (add-one, take-suc l j 0 h, more, last_one (p (get_or l j 0)), e, f)

module _ (label : ℕ) (labels : List ℕ) (value : Float) (row : List Float) where
  pub row_stays : length labels ≡ length row → every (same_label label) labels ≡ true → row ≡ unlike_set label labels value row
  row_stays same e = tab_of _ row (length row) nan refl (λ j h. rw (every-at (same_label label) labels e j 0 (rw same h)))

  -- by the first labels alone, as many as there are cells
  pub front-set : unlike_set label (take (length row) labels) value row ≡ unlike_set label labels value row
  front-set = tab_ext _ _ (length row) (λ j h. ap (λ (l : ℕ). cond (same_label label l) (get_or row j nan) value) (get_or-take (length row) labels j 0 h))
