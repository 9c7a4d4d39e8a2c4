use Rattle.equipment_node.proofs.disk_step.carry_all.Goals as goal

pub returns-in-Err-clause-works : goal.returns-in-Err-clause-works
returns-in-Err-clause-works g c =
    record { at = c.in-Err.undone.at; undone = c.in-Err.ensures.carries; notes = c.cut_notes.ensures }
