-- `floats_power::powf_1_5` meets its contract. Assumes nothing.
use mathlib.Core.Path.{ap}
use lib.Ieee.{binary32, mul}
use Rattle.floats.specs.Power.{powf15}
use Rattle.floats_power.proofs.powf_1_5.Goals as goal

pub returns : goal.returns
unfolding powf15
returns c = ap (mul binary32 c.args.m) c.sqrt.ensures
