-- A detection or a tracked box: `Object` of object.rs, lines 10-59: its box, its score, the id of its track if it has one. The accessors are the fields.
use Rattle.std.specs.Prelude.{ℕ, Float, Option}
use Rattle.strack.specs.declared.rect.Rect.{Rect}
use Rattle.strack.specs.declared.object.Object.{Object}

abbrev pub new : Rect → Float → Option ℕ → Object
new rect prob id = record { rect = rect; prob = prob; id = id }
