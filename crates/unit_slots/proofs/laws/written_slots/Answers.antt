use Rattle.written_files.proofs.Laws.{written_laws}
use Rattle.unit_slots.proofs.WrittenSlots.{written_slots_stand, least_layouts_stand}
use Rattle.unit_slots.proofs.laws.written_slots.Goals as goal

pub returns-clause-stand : goal.returns-clause-stand
returns-clause-stand c = written_slots_stand written_laws

pub returns-clause-least : goal.returns-clause-least
returns-clause-least c = least_layouts_stand written_laws
