-- `gather::xyxy_at` meets its contract. Assumes nothing.
use mathlib.Core.Path.{◌∙◌, sym}
use Rattle.boost_tracker_pairs.proofs.GatherLaws.{xyxy_here, xyxy_gone}
use Rattle.boost_tracker_pairs.proofs.gather.xyxy_at.Goals as goal

pub returns-then-i-objects : goal.returns-then-i-objects
returns-then-i-objects c = let a = c.args in c.xyxy_of.ensures ∙ sym (xyxy_here a.objects.now a.i c.if-i-objects.true)

pub returns : goal.returns
returns c = let a = c.args in sym (xyxy_gone a.objects.now a.i c.if-i-objects.false)
