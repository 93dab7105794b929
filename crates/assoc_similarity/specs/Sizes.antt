-- When a call is accepted, as assoc_sizes has it.
pub use Rattle.assoc_sizes.specs.Sizes.{of_corners, of_confidences, of_cells, of_distances, Ready, after}
