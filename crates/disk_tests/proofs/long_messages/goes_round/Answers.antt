-- The message that was found goes on in a second slot.
use Rattle.std.proofs.Common.{◌≡◌, ◌<◌, ◌∙◌, sym, subst, arith, ℕ}
use Rattle.spool_file.specs.Sizes.{slots_for}
use Rattle.disk_tests.proofs.long_messages.goes_round.Goals as goal

pub part-requires-clause-head : goal.part-requires-clause-head
part-requires-clause-head c = λ s told. (c.in-Found.ensures.2.listed s (sym c.in-Found.ensures.0.told ∙ told)).1

pub part-requires-clause-to : goal.part-requires-clause-to
unfolding slots_for
part-requires-clause-to c = subst (λ (n : ℕ). 1 < slots_for n) (sym c.if-head-ne5000.false) (omega arith)
