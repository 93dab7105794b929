-- `emission::emit` meets its contract. The loop's invariant: of the tracks before i the records of those put out are written, w of them. Assumes nothing.
use mathlib.Core.Path.{◌≡◌, refl, sym, ap, ◌∙◌}
use mathlib.Core.Bool.{Bool, cond}
use mathlib.Core.List.{List}
use Prim.Native.Nat.{ℕ, ◌+◌, ◌*◌, ◌/◌, ◌≤◌, ◌<◌, min}
use native.Mathlib.Omega.{arith}
use lib.ListN.{length, get_or}
use lib.Ieee.{Float}
use Rattle.laws.specs.Kept.{keep_start, keep_on, keep_end}
use Rattle.laws.specs.Splice.{splice}
use Rattle.labels.specs.Label.{label_at}
use Rattle.records.specs.declared.track_record.TrackRecord.{TrackRecord}
use Rattle.records.specs.TrackRecord.{track_bytes, bytes_of_track, length-track}
use Rattle.records.proofs.Laws.{record_fitted}
use Rattle.boost_tracker_table.specs.Table.{Track, blank, placed, tracks}
use Rattle.boost_tracker_table.proofs.Laws.{tracks-placed}
use Rattle.boost_tracker_emission.proofs.Laws.{emitted-many}
use Rattle.boost_tracker_emission.specs.Record.{record_of, written, record_bytes}
use Rattle.boost_tracker_emission.specs.Emission.{emits, record_at, bytes_at, Emitted}
use Rattle.boost_tracker_emission.proofs.emission.emit.Invariants.{Emitting, looked}
use Rattle.boost_tracker_emission.proofs.emission.emit.Goals as goal
use Rattle.boost_tracker_emission.proofs.emission.emit.Goals.{then-emits, else-emits}

-- one more is looked at: it is put out, or not
module _ (f : List Float) (c labels : List ℕ) (held frame hits : ℕ) (cap : Bool) (out₀ : List ℕ) {out : List ℕ} {few n i w : ℕ} {t : Track} (ef : few ≡ min held (length out₀ / track_bytes))
    (k : Emitting f c labels held frame hits cap out₀ n i w out) (h : i < n) (et : t ≡ get_or (tracks f c few) i blank) where
  load : t ≡ get_or (looked f c held out₀) i blank
  load = et ∙ ap (λ (m : ℕ). get_or (tracks f c m) i blank) ef

  again : {b : Bool} {w' : ℕ} {out' : List ℕ} → b ≡ emits frame hits t → w' ≡ cond b (w + 1) w → out' ≡ cond b (splice out (w * track_bytes) (record_bytes cap frame t (label_at labels i))) out → Emitting f c labels held frame hits cap out₀ n (i + 1) w' out'
  again eb ew eo =
      let ts : List Track = looked f c held out₀ in
      keep_on (bytes_at cap frame ts labels) track_bytes (λ k. emits frame hits (get_or ts k blank)) (λ k. k) out₀ n (λ k. length-track (written cap (record_at frame ts labels k))) k h
      (rw (eb, load) at ew) (rw (eb, load) at eo)

whole : (f : List Float) (c labels : List ℕ) (held frame hits : ℕ) (cap : Bool) (out₀ out : List ℕ) (few n w i : ℕ) → few ≡ min held (length out₀ / track_bytes) → n ≡ placed (length f) (length c) few
    → Emitting f c labels held frame hits cap out₀ n i w out → n ≤ i → Emitted (looked f c held out₀) labels frame hits cap out₀ out w
whole f c labels held frame hits cap out₀ out few n w i ef en k h =
    let ts : List Track = looked f c held out₀ in
    let e : n ≡ length ts = en ∙ ap (placed (length f) (length c)) ef ∙ sym (tracks-placed f c (min held (length out₀ / track_bytes))) in
    let z = keep_end (bytes_at cap frame ts labels) track_bytes (λ k. emits frame hits (get_or ts k blank)) (λ k. k) out₀ n k h in
    record { count = (rw e at z.0) ∙ emitted-many frame hits ts; bytes = rw e at z.1 }

pub loop-i-preserved : goal.loop-i-preserved
loop-i-preserved c =
    let a = c.args in
    let inv = c.loop-i.invariant in
    elim c.if-emits.branch [
      | then-emits w ↦
          let fitted = record_fitted track_bytes c.loop-i.w _ c.loop-i.out _ _ w.write_track.ensures (omega (arith, c.loop-i-test.true, inv.few, inv.room, inv.same)) in
          rw (w.out-is, w.w-is)
          (again _ _ a.labels.now a.held a.frame a.hits a.cap _ c.min-looked.ensures inv c.loop-i-test.true c.load-t.ensures (sym w.if-emits.true ∙ c.emits.ensures) refl
          (fitted.1 ∙ ap (λ (r : TrackRecord). splice c.loop-i.out (c.loop-i.w * track_bytes) (bytes_of_track r)) (w.written.ensures ∙ ap (written a.cap) (w.record_of.ensures ∙ ap (record_of a.frame c.load-t.result) w.label_at.ensures))))
      | else-emits w ↦
          rw (w.out-is, w.w-is) (again _ _ a.labels.now a.held a.frame a.hits a.cap _ c.min-looked.ensures inv c.loop-i-test.true c.load-t.ensures (sym w.if-emits.false ∙ c.emits.ensures) refl refl)
    ]

pub returns : goal.returns
returns c =
    let a = c.args in
    whole _ _ _ a.held a.frame a.hits a.cap _ _ _ _ _ _ c.min-looked.ensures c.placed-n.ensures c.loop-i.invariant c.loop-i-test.false

pub loop-i-init : goal.loop-i-init
loop-i-init c = keep_start _ _ _ _ _ _ (omega (arith, c.placed-n.ensures, c.min-looked.ensures))
