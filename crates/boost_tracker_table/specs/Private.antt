-- What only the contracts between private functions cite.
use Rattle.std.specs.Prelude.{◌≡◌, Bool}
use Rattle.boost_tracker_table.specs.Table.{Track}

-- a call of a test on tracks answers as p does
abbrev pub TellsOf : (Track → Bool → Type 0) → (Track → Bool) → Type 0
TellsOf answers p = (t : Track) (r : Bool) → answers t r → r ≡ p t
