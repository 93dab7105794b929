-- Document 02, N2: "A box and a track carry a label, 1 sleeper, 2 partner, 3 staff, in one byte beside the old fields. Where labels differ, the IoU, the cost
-- given to the pairing and the DLO similarity of that box and track are taken as 0": set to 0, whatever they were, a NaN too.
use Rattle.std.specs.Prelude.{◌≡◌, refl, Bool, true, false, not, cond, ◌&&◌, List, ℕ, leb, ltb, eqb, length, get_or, Float}
use Rattle.std.specs.Float.{nan}
use Rattle.laws.specs.Tab.{tab}
use Rattle.laws.specs.Scan.{lowest}

-- 1 to 3
unfoldable pub is_label : ℕ → Bool
is_label label = leb 1 label && leb label 3

-- label i; one that is not there is as label 0
abbrev pub label_at : List ℕ → ℕ → ℕ
label_at labels i = get_or labels i 0

-- "a label other than 1 to 3"
abbrev pub unlabelled_at : List ℕ → ℕ → Bool
unlabelled_at labels i = not (is_label (label_at labels i))

-- one of the first n
abbrev pub unlabelled : List ℕ → ℕ → Bool
unlabelled labels n = ltb (lowest (unlabelled_at labels) n) n

-- ---- alike

-- the one test of two labels
unfoldable pub same_label : ℕ → ℕ → Bool
same_label a b = eqb a b

-- the rule that tells no two apart
abbrev pub always : ℕ → ℕ → Bool
always a b = true

-- box i and track j, by a rule
abbrev pub alike : (ℕ → ℕ → Bool) → List ℕ → List ℕ → ℕ → ℕ → Bool
alike same box_labels track_labels i j = same (label_at box_labels i) (label_at track_labels j)

-- a matrix, with this value in the cells of boxes and tracks that are not alike
abbrev pub where_alike : {A : Type 0} → (ℕ → ℕ → Bool) → (ℕ → ℕ → A) → A → ℕ → ℕ → A
where_alike like cell value i j = cond (like i j) (cell i j) value

-- the row of a box with this label, with this value in the cells of tracks that are not alike
abbrev pub unlike_set : ℕ → List ℕ → Float → List Float → List Float
unlike_set label track_labels value row = tab (λ j. cond (same_label label (label_at track_labels j)) (get_or row j nan) value) (length row)

-- ---- known

known-labels : (is_label 0 ≡ false) × (is_label 1 ≡ true) × (is_label 2 ≡ true) × (is_label 3 ≡ true) × (is_label 4 ≡ false) × (is_label 255 ≡ false)
unfolding is_label
known-labels = (refl, refl, refl, refl, refl, refl)
