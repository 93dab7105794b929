-- Tracks of one label: their records are those of before with the label behind each, and the labels that are kept are that label. Assumes nothing.
use mathlib.Core.Path.{◌≡◌, refl, sym, ap, ◌∙◌}
use mathlib.Core.Bool.{Bool}
use mathlib.Core.List.{List, [], ◌∷◌, ◌++◌}
use Prim.Native.Nat.{ℕ, suc, ◌<◌}
use native.Mathlib.Omega.{arith}
use lib.ListN.{length, length-map, get_or, replicate}
use Rattle.laws.specs.Tab.{tab_of, replicate_tab, map_at, indices}
use Rattle.laws.specs.Sieve.{sieve}
use Rattle.laws.specs.Picked.{sieve-places, picked-below}
use Rattle.laws.specs.Laid.{rows, laid, rows-map}
use Rattle.labels.specs.Label.{label_at}
use Rattle.records.specs.Field.{little_endian}
use Rattle.records.specs.TrackRecord.{track_bytes}
use Rattle.boost_tracker_table.specs.Table.{Track, blank, labels_where}
use Rattle.boost_tracker_emission.specs.Record.{record_of, record_bytes}
use Rattle.boost_tracker_emission.specs.Emission.{emits, emitted, emitted_inds, bytes_at}
use Rattle.boost_tracker_emission.proofs.Laws.{emitted-many}
use Rattle.boost_tracker_table.proofs.LabelLaws.{labels-many}
use Rattle.boost_tracker.specs.Unlabelled.{bytes_before}

-- records that agree on a list's elements
rows_agree : {X A : Type 0} (f g : X → List A) (xs : List X) (d : X) → ((k : ℕ) → k < length xs → f (get_or xs k d) ≡ g (get_or xs k d)) → rows f xs ≡ rows g xs
unfolding rows
rows_agree f g [] d e = refl
rows_agree f g (x ∷ xs) d e =
    let first : f x ≡ g x = e 0 (omega arith) in
    rw (first, rows_agree f g xs d (λ k h. e (suc k) (omega arith)))

-- the label is the last byte
label_last : (cap : Bool) (frame : ℕ) (t : Track) (label : ℕ) → record_bytes cap frame t label ≡ bytes_before cap frame t ++ little_endian 1 label
unfolding record_of little_endian
label_last cap frame t label = refl

module _ (ts : List Track) (labels : List ℕ) (label : ℕ) (one : (i : ℕ) → i < length ts → label_at labels i ≡ label) where
  abbrev at : ℕ → Track
  at i = get_or ts i blank

  pub records-labelled : (cap : Bool) (frame hits : ℕ) (out : List ℕ)
      → laid (bytes_at cap frame ts labels) track_bytes (emitted_inds frame hits ts) out ≡ laid (λ t. bytes_before cap frame t ++ little_endian 1 label) track_bytes (emitted frame hits ts) out
  unfolding laid
  records-labelled cap frame hits out =
      let inds : List ℕ = emitted_inds frame hits ts in
      let with : Track → List ℕ = λ t. bytes_before cap frame t ++ little_endian 1 label in
      let each : rows (bytes_at cap frame ts labels) inds ≡ rows (λ i. with (at i)) inds =
      rows_agree (bytes_at cap frame ts labels) (λ i. with (at i)) inds 0
      (λ k h. let i : ℕ = get_or inds k 0 in
      ap (record_bytes cap frame (at i)) (one i (picked-below (λ i. emits frame hits (at i)) (length ts) k h)) ∙ label_last cap frame (at i) label) in
      let all : rows (bytes_at cap frame ts labels) inds ≡ rows with (emitted frame hits ts) = each ∙ rows-map with at inds ∙ ap (rows with) (sieve-places (emits frame hits) ts blank) in
      rw (all, emitted-many frame hits ts)

  pub labels_kept_lem : (p : Track → Bool) → labels_where p ts labels ≡ replicate (length (sieve p ts)) label
  unfolding labels_where
  labels_kept_lem p =
      let inds : List ℕ = sieve (λ i. p (at i)) (indices (length ts)) in
      let n : ℕ = length (sieve p ts) in
      let many : length (labels_where p ts labels) ≡ n = labels-many p ts labels in
      tab_of (λ _. label) (labels_where p ts labels) n 0 many
      (λ k h. let c : k < length inds = rw (length-map inds (label_at labels)) at (rw (sym many) at h) in
      map_at (label_at labels) inds k 0 0 c ∙ one (get_or inds k 0) (picked-below (λ i. p (at i)) (length ts) k c))
      ∙ sym (replicate_tab n label)
