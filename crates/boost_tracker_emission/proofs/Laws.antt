-- What is put out: as many places as tracks. Assumes nothing.
use mathlib.Core.Path.{◌≡◌, sym, ap, ◌∙◌}
use mathlib.Core.List.{List}
use Prim.Native.Nat.{ℕ}
use lib.ListN.{length, length-map, get_or}
use Rattle.laws.specs.Picked.{sieve-places}
use Rattle.boost_tracker_table.specs.Table.{Track, blank}
use Rattle.boost_tracker_emission.specs.Emission.{emits, emitted, emitted_inds}

pub emitted-many : (frame hits : ℕ) (ts : List Track) → length (emitted_inds frame hits ts) ≡ length (emitted frame hits ts)
emitted-many frame hits ts =
    let at : ℕ → Track = λ i. get_or ts i blank in
    sym (length-map (emitted_inds frame hits ts) at) ∙ ap length (sieve-places (emits frame hits) ts blank)
