use Rattle.tool_law.proofs.LawfulLosses.{equipment_lawful}
use Rattle.tool_law.proofs.laws.equipment_keeps_the_law.Goals as goal

pub returns : goal.returns
returns c = λ plan file fits can. equipment_lawful plan file fits can
