-- `bedside::filter::bedside_convert_z_to_bbox` meets its contract. Assumes nothing.
use mathlib.Core.Path.{ap}
use Rattle.bedside_answers.specs.Filter.{corner_list}
use Rattle.bedside.proofs.filter.bedside_convert_z_to_bbox.Goals as goal

pub returns : goal.returns
returns c = ap corner_list c.convert_z_to_bbox-b.ensures
