-- Records with equal fields are equal; and five floats with a label behind them, byte by byte. Assumes nothing.
use mathlib.Core.Path.{◌≡◌}
use mathlib.Core.List.{List, ◌++◌, append_assoc}
use Prim.Native.Nat.{ℕ}
use lib.Ieee.{Float}
use Rattle.records.specs.declared.box_record.BoxRecord.{BoxRecord}
use Rattle.records.specs.declared.track_record.TrackRecord.{TrackRecord}

abbrev pub box_with : ℕ → Float → Float → Float → Float → Float → ℕ → BoxRecord
box_with f a b c d e m = record { frame = f; left = a; top = b; width = c; height = d; score = e; label = m }

abbrev pub track_with : ℕ → ℕ → Float → Float → Float → Float → Float → ℕ → TrackRecord
track_with f i a b c d e m = record { frame = f; id = i; left = a; top = b; width = c; height = d; confidence = e; label = m }

pub box-fields : {f f' m m' : ℕ} {a a' b b' c c' d d' e e' : Float} → f ≡ f' → a ≡ a' → b ≡ b' → c ≡ c' → d ≡ d' → e ≡ e' → m ≡ m' → box_with f a b c d e m ≡ box_with f' a' b' c' d' e' m'
box-fields p q r s t u v = rw (p, q, r, s, t, u, v)

pub track-fields : {f f' i i' m m' : ℕ} {a a' b b' c c' d d' e e' : Float} → f ≡ f' → i ≡ i' → a ≡ a' → b ≡ b' → c ≡ c' → d ≡ d' → e ≡ e' → m ≡ m'
    → track_with f i a b c d e m ≡ track_with f' i' a' b' c' d' e' m'
track-fields p o q r s t u v = rw (p, o, q, r, s, t, u, v)

-- five lists and one behind them, nested to the right throughout
pub five-then : (a b c d e xs : List ℕ) → (a ++ (b ++ (c ++ (d ++ e)))) ++ xs ≡ a ++ (b ++ (c ++ (d ++ (e ++ xs))))
five-then a b c d e xs = rw (append_assoc a, append_assoc b, append_assoc c, append_assoc d)
