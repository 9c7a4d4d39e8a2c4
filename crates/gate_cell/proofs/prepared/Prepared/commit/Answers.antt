-- The gate is written or not: what a crash leaves of the value, and that an untold disk stays so.

use Rattle.std.proofs.Common.{[], ◌∷◌}
use Rattle.disk_base.specs.declared.disk.DiskAnswer.TheVariants.{Done, Failed}
use Rattle.gate_cell.proofs.Values.{commits_spare, is_committed, settles_gate, untold}
use Rattle.gate_cell.proofs.prepared.Prepared.commit.Goals as goal

pub returns-in-Failed-clause-told : goal.returns-in-Failed-clause-told
returns-in-Failed-clause-told g c = λ s told.
    commits_spare s c.args.self.at c.args.self.second _ Failed (c.args.self.spare s told)
    (settles_gate _ _ s c.args.self.at _ c.gate_byte.result c.args.self.second Failed told c.place_in-gate.ensures c.gate_byte.ensures c.in-Failed.ensures.told)

pub returns-in-Done-clause-told : goal.returns-in-Done-clause-told
returns-in-Done-clause-told g c = λ s told.
    commits_spare s c.args.self.at c.args.self.second _ Done (c.args.self.spare s told)
    (settles_gate _ _ s c.args.self.at _ c.gate_byte.result c.args.self.second Done told c.place_in-gate.ensures c.gate_byte.ensures c.in-Done.ensures.told)

pub returns-in-Done-clause-value : goal.returns-in-Done-clause-value
returns-in-Done-clause-value g c = λ s told.
    is_committed s c.args.self.at c.args.self.second _ (c.args.self.spare s told)
    (settles_gate _ _ s c.args.self.at _ c.gate_byte.result c.args.self.second Done told c.place_in-gate.ensures c.gate_byte.ensures c.in-Done.ensures.told)

pub returns-in-Failed-clause-untold : goal.returns-in-Failed-clause-untold
returns-in-Failed-clause-untold g c = λ none. untold _ _ c.place_in-gate.result (c.gate_byte.result ∷ []) Failed none c.in-Failed.ensures.told

pub returns-in-Done-clause-untold : goal.returns-in-Done-clause-untold
returns-in-Done-clause-untold g c = λ none. untold _ _ c.place_in-gate.result (c.gate_byte.result ∷ []) Done none c.in-Done.ensures.told
