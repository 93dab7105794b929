-- `value::scaled` meets its contract. Assumes nothing.
use Rattle.std.proofs.Common.{ap}
use lib.Ieee.{Float, binary64, add, mul}
use Rattle.why_words.specs.Words.{thousand, half}
use Rattle.why_words.proofs.value.scaled.Goals as goal

pub returns : goal.returns
returns c = ap (λ (x : Float). add binary64 (mul binary64 x thousand) half) c.f32_to_f64_with_nan.ensures
