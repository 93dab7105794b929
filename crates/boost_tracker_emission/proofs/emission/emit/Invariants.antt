-- `emission::emit` meets its contract. The loop's invariant: of the tracks before i the records of those put out are written, w of them. Assumes nothing.
use mathlib.Core.Bool.{Bool}
use mathlib.Core.List.{List}
use Prim.Native.Nat.{ℕ, ◌/◌, min}
use lib.ListN.{length, get_or}
use lib.Ieee.{Float}
use Rattle.laws.specs.Kept.{Keeping}
use Rattle.records.specs.TrackRecord.{track_bytes}
use Rattle.boost_tracker_table.specs.Table.{Track, blank, tracks}
use Rattle.boost_tracker_emission.specs.Emission.{emits, bytes_at}
use Rattle.boost_tracker_emission.proofs.emission.emit.Given as goal

-- the tracks that are looked at
abbrev pub looked : List Float → List ℕ → ℕ → List ℕ → List Track
looked f c held out = tracks f c (min held (length out / track_bytes))

abbrev pub Emitting : List Float → List ℕ → List ℕ → ℕ → ℕ → ℕ → Bool → List ℕ → ℕ → ℕ → ℕ → List ℕ → Type 0
Emitting f c labels held frame hits cap out₀ n i w out =
    let ts : List Track = looked f c held out₀ in
    Keeping (bytes_at cap frame ts labels) track_bytes (λ k. emits frame hits (get_or ts k blank)) (λ k. k) out₀ n i w out

abbrev pub invariant-loop-i : goal.invariant-loop-i
invariant-loop-i l = Emitting l.floats l.counters l.labels l.held l.frame l.hits l.cap l.initial.out l.n l.i l.w l.out
