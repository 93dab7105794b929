-- The records of an accepted frame are read back from the output as they were written: each number, each float and the label of them fits its field. Assumes nothing.
use mathlib.Core.Path.{◌≡◌, refl, sym, ap, ◌∙◌}
use mathlib.Core.Bool.{true, false, cond}
use mathlib.Core.List.{List, map}
use Prim.Native.Nat.{ℕ, zero, suc, ◌+◌, ◌-◌, ◌*◌, ◌/◌, ◌%◌, ◌^◌, ◌≤◌, ◌<◌}
use native.Mathlib.Nat.{lt_of_not-le}
use native.Mathlib.Decide.{dec_le}
use native.Mathlib.Omega.{arith}
use lib.Dec.{T, eqb, leb}
use lib.IntN.{ℤ, pos, negsuc}
use lib.ListN.{length, get_or}
use lib.Ieee.{Float, binary32, of_bits, fits, mul}
use lib.Ieee.Fits.{sub-fits, mul-fits, div-fits, cond-fits}
use borrow.Author.Tests.{leb-true}
use Rattle.laws.specs.Tests.{and_left, and_right}
use Rattle.laws.specs.Every.{every}
use Rattle.laws.specs.Tab.{tab, tab_ext, tab-map}
use Rattle.laws.specs.Picked.{picked-below}
use Rattle.laws.specs.Laid.{rows, laid, laid-at}
use Rattle.floats.specs.Power.{one, powers, powi}
use Rattle.strack.specs.Strack.{get_state, confidence}
use Rattle.labels.specs.Label.{is_label, label_at}
use Rattle.records.specs.declared.track_record.TrackRecord.{TrackRecord}
use Rattle.records.specs.TrackRecord.{track_bytes, track_of}
use Rattle.records_line.specs.Line.{line}
use Rattle.records.proofs.Laws.{TrackFits, track_decode}
use Rattle.records.proofs.Laws.Lengths.{length-track}
use Rattle.boost_tracker_settings.specs.declared.settings.Settings.{Settings}
use Rattle.boost_tracker_verdict.specs.declared.sound.State.{State}
use Rattle.std.proofs.Common.{Ok}
use Rattle.boost_tracker_table.specs.Table.{Track, blank}
use Rattle.boost_tracker_table.specs.Lent.{Table, places_of, tracks_in, labels_in, holding}
use Rattle.boost_tracker_emission.specs.Emission.{emits, emitted, emitted_inds, record_at, bytes_at}
use Rattle.boost_tracker_emission.specs.Record.{nine_tenths, record_of}
use Rattle.boost_tracker_emission.proofs.Laws.{emitted-many}
use Rattle.boost_tracker_verdict.specs.Boxes.{Boxes}
use Rattle.boost_tracker_verdict.specs.Sound.{rising, sound}
use Rattle.boost_tracker_verdict.specs.Verdict.{verdict}
use Rattle.boost_tracker_verdict.specs.Ready.{Ready}
use Rattle.boost_tracker_verdict.proofs.ReadyLaws.{ready}
use Rattle.boost_tracker_definition.specs.Update.{Stages, tracker_at, stages_from, steps, update_by, update, state_after, labels_retained}
use Rattle.boost_tracker_definition.specs.Facts.{FrameFacts, labels_all}
use Rattle.boost_tracker_definition.proofs.LabelFacts.{all-labels}
use Rattle.boost_tracker_definition.proofs.FactLaws.{frame-labels, frame_facts}
use Rattle.trackbox_feed.specs.Private.{read_at, lines_in}

-- ---- the floats

one-fits : T (fits binary32 one)
unfolding one fits of_bits
one-fits = tt

powers_fit : (d : ℕ) (c : Float) (n : ℕ) (r : Float) → T (fits binary32 r) → T (fits binary32 (powers d c n r))
unfolding powers
powers_fit zero c n r h = h
powers_fit (suc d) c n r h = powers_fit d (mul binary32 c c) (n / 2) (cond (eqb (n % 2) 1) (mul binary32 r c) r) (cond-fits binary32 (eqb (n % 2) 1) (mul binary32 r c) r (mul-fits binary32 r c) h)

powi-fits : (c : Float) (e : ℤ) → T (fits binary32 (powi c e))
unfolding powi
powi-fits c (pos n) = powers_fit 32 c n one one-fits
powi-fits c (negsuc n) = div-fits binary32 one (powers 32 c (suc n) one)

confidence-fits : (age since : ℕ) (c : Float) → T (fits binary32 (confidence age since c))
unfolding confidence
confidence-fits age since c = powi-fits c _

label_low : (label : ℕ) → is_label label ≡ true → label < 2 ^ 8
unfolding is_label
label_low label e = let h = leb-true label 3 (and_right (leb 1 label) (leb label 3) e) in omega (arith, h)

record-fits : (frame : ℕ) (t : Track) (label : ℕ) → frame < 2 ^ 32 → t.id < 2 ^ 64 → label < 2 ^ 8 → TrackFits (record_of frame t label)
unfolding record_of get_state
record-fits frame t label h k b = record {
  frame = h;
  id = k;
  left = sub-fits binary32 _ _;
  top = sub-fits binary32 _ _;
  width = sub-fits binary32 _ _;
  height = sub-fits binary32 _ _;
  confidence = confidence-fits t.age t.since nine_tenths;
  label = b;
}

-- ---- the ids and the labels

module _ (s : Settings) (state : State) (t : Table) (boxes : Boxes) (out work64 work32 : ℕ) (e : verdict s state t boxes out work64 work32 ≡ Ok tt) where
  abbrev held : List Track
  held = tracks_in t state.count

  abbrev labels : List ℕ
  labels = labels_in t state.count

  abbrev g : Stages
  g = update s state boxes held labels

  -- of all trackers after step 7
  abbrev all : List ℕ
  all = labels_all boxes labels g

  abbrev after : Table
  after = holding g.retained (labels_retained s all g) t

  facts : FrameFacts s state boxes held labels g after
  facts = frame_facts s state t boxes out work64 work32 e

  known : Ready s state t boxes out work64 work32
  known = ready s state t boxes out work64 work32 e

  frame_is : g.frame_count ≡ state.frames + 1
  unfolding update_by steps stages_from
  frame_is = refl

  output-is : g.output ≡ emitted g.frame_count s.min_hits g.started.trackers
  unfolding update_by steps stages_from
  output-is = refl

  frame-low : g.frame_count < 2 ^ 32
  frame-low = let h = known.frames-low in let k = frame_is in omega arith

  last-low : (state_after g).last < 2 ^ 64
  unfolding sound
  last-low =
      let places : ℕ = places_of after in
      let then : State = state_after g in
      let ts : List Track = tracks_in after then.count in
      let r₁ = and_right (leb then.count places) _ facts.sound in
      let r₂ = and_right (rising 0 ts) _ r₁ in
      let r₃ = and_right (every (λ (t : Track). leb t.id then.last) ts) _ r₂ in
      let low = leb-true then.last (255 * then.frames) (and_left (leb then.last (255 * then.frames)) _ r₃) in
      let h = known.frames-low in
      let k = frame_is in
      omega (arith, low, h, k)

  id_low : (i : ℕ) → i < length g.started.trackers → (tracker_at g.started.trackers i).id < 2 ^ 64
  id_low i h = by_place (dec_le (length held) i)
    where
      by_place : Dec (length held ≤ i) → (tracker_at g.started.trackers i).id < 2 ^ 64
      by_place (yes past) =
          let n : ℕ = length held in
          let k : ℕ = i - n in
          let z : n + k ≡ i = omega arith in
          let few : k < length g.result.unmatched_detections = omega (arith, h, facts.many, past) in
          let new = facts.new-ids k few in
          let is = ap (λ (j : ℕ). (tracker_at g.started.trackers j).id) z in
          let last = facts.last_id in
          let low = last-low in
          omega (arith, few, new, is, last, low)
      by_place (no within) =
          let below : i < length held = lt_of_not-le within in
          let many = known.many in
          let old = facts.old_ids i below in
          let high = (known.each i (omega (arith, below, many))).id_low in
          let last = facts.last_id in
          let low = last-low in
          omega (arith, old, high, last, low)

  labelled : (i : ℕ) → i < length g.started.trackers → label_at all i < 2 ^ 8
  labelled i h =
      let many = known.many in
      let each = facts.many in
      let named = frame-labels s state t boxes out work64 work32 e in
      label_low (label_at all i) (all-labels boxes labels state.count g named (λ n. is_label n ≡ true) named.olds named.news i (omega (arith, h, many, each)))

  -- ---- the records, by their places in the table

  abbrev inds : List ℕ
  inds = emitted_inds g.frame_count s.min_hits g.started.trackers

  abbrev record_in : ℕ → TrackRecord
  record_in i = record_at g.frame_count g.started.trackers all i

  pub inds-many : length inds ≡ length g.output
  inds-many = rw output-is (emitted-many g.frame_count s.min_hits g.started.trackers)

  ind_low : (k : ℕ) → k < length inds → get_or inds k 0 < length g.started.trackers
  ind_low k h = picked-below (λ i. emits g.frame_count s.min_hits (get_or g.started.trackers i blank)) (length g.started.trackers) k h

  read_back : (l : List ℕ) (k : ℕ) → k < length inds → read_at (laid (bytes_at false g.frame_count g.started.trackers all) track_bytes inds l) k ≡ record_in (get_or inds k 0)
  unfolding read_at
  read_back l k h =
      let i : ℕ = get_or inds k 0 in
      let low = ind_low k h in
      ap track_of (laid-at (bytes_at false g.frame_count g.started.trackers all) track_bytes (λ j. length-track (record_in j)) inds l k 0 h)
      ∙ track_decode (record_in i) (record-fits g.frame_count (tracker_at g.started.trackers i) (label_at all i) frame-low (id_low i low) (labelled i low))

  pub lines_are : (l : List ℕ) → lines_in (laid (bytes_at false g.frame_count g.started.trackers all) track_bytes inds l) (length g.output) ≡ rows line (map record_in inds)
  unfolding lines_in
  lines_are l =
      let out : List ℕ = laid (bytes_at false g.frame_count g.started.trackers all) track_bytes inds l in
      ap (λ (n : ℕ). rows line (tab (read_at out) n)) (sym inds-many)
      ∙ ap (rows line) (tab_ext (read_at out) (λ (k : ℕ). record_in (get_or inds k 0)) (length inds) (read_back l) ∙ tab-map record_in inds (length inds) 0 refl)
