-- `floats::packing::parts` meets its contract: a is what its bits are read as. Assumes nothing.
use Rattle.std.proofs.Common.{not, T, sym, subst}
use lib.Ieee.{Float, nan, inf, fin, is_nan}
use lib.Ieee.Scale.{finite}
use Rattle.floats.proofs.Fields.{pattern, low-is, high_is}
use Rattle.floats.proofs.packing.parts.Goals as goal

no_nan : (a : Float) → T (finite a) → T (not (is_nan a))
unfolding is_nan
no_nan nan h = absurd h
no_nan (inf s) h = tt
no_nan (fin s m e) h = tt

pub float_to_bits-bits : goal.float_to_bits-bits
float_to_bits-bits c = no_nan c.args.a c.requires

pub returns-then-field-eq0 : goal.returns-then-field-eq0
unfolding pattern
returns-then-field-eq0 c = low-is c.args.a (subst T (sym c.well_formed.0.1) tt) c.requires c.if-field-eq0.true

pub returns-else-field-eq0 : goal.returns-else-field-eq0
unfolding pattern
returns-else-field-eq0 c = high_is c.args.a (subst T (sym c.well_formed.0.1) tt) c.requires c.if-field-eq0.false
