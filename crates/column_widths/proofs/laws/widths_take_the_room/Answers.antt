use Rattle.column_widths.proofs.AnyWidths.{take_all, take_enough}
use Rattle.column_widths.proofs.laws.widths_take_the_room.Goals as goal

pub returns-clause-all : goal.returns-clause-all
returns-clause-all c = take_all

pub returns-clause-enough : goal.returns-clause-enough
returns-clause-enough c = take_enough
