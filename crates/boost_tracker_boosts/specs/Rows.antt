-- The row of one box, as a boost that works a box at a time lends it to the matrix routines.
use Rattle.std.specs.Prelude.{◌≡◌, ℕ, ◌*◌, ◌≤◌}

-- lengths of one box, of the corners of the tracks and of a row of cells
pub record OneBox (det trks row : ℕ) : Type 0 where
  pub four : det ≡ 4
  pub trks_fit : trks ≡ row * 4
  pub few : row ≤ 255
