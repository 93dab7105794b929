-- `bedside::filter::bedside_convert_bbox_to_z` meets its contract. Assumes nothing.
use mathlib.Core.Path.{ap}
use Rattle.bedside_answers.specs.Filter.{measurement_list}
use Rattle.bedside.proofs.filter.bedside_convert_bbox_to_z.Goals as goal

pub returns : goal.returns
returns c = ap measurement_list c.convert_bbox_to_z-m.ensures
