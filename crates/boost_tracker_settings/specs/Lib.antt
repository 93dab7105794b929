-- The tracker's settings: what `new` and the `with_` options give.
pub mod Settings
