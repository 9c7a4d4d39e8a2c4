-- The law, from those of the line, of the assembly and of messages in blocks.

use Rattle.message_end.proofs.Lawful.{lawful}
use Rattle.message_end.proofs.laws.ends_are_lawful.Goals as goal

pub returns : goal.returns
returns g c = lawful (record {
  small = c.steps_are_small.ensures;
  kept = c.states_are_kept.ensures;
  standing = c.standing_goes_on.ensures;
  whole = c.whole_messages_fit.ensures;
  in_blocks = c.messages_go_in_blocks.ensures;
})
