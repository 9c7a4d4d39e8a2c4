-- The laws of the crates below, each as its own function has it.

use Rattle.journal_world.proofs.laws.journal_laws_hold.Goals as goal

pub returns : goal.returns
returns c = record {
  line = c.laws_hold.ensures;
  list = c.journal_is_taken_in_order.ensures;
  journals = c.journals_are_kept.ensures;
  turns = c.journals_write_in_turn.ensures;
}
