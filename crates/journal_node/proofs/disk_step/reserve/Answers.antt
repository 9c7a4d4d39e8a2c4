use Rattle.std.proofs.Common.{inl, refl}
use Rattle.journal_node.proofs.Openings.{enough, few}
use Rattle.journal_node.proofs.disk_step.reserve.Goals as goal

pub reserve_more-requires : goal.reserve_more-requires
reserve_more-requires g c = record { ready = c.requires.ready; few = few c.args.host.now c.if-has_enough.ensures }

pub returns-then-has_enough-clause-opens : goal.returns-then-has_enough-clause-opens
returns-then-has_enough-clause-opens g c = inl (enough c.args.host.now c.if-has_enough.ensures, refl, refl)
