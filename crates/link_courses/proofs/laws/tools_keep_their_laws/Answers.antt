-- The law, by the lemmas of `Living`.

use Rattle.link_courses.proofs.Living.{live-keep}
use Rattle.link_courses.proofs.laws.tools_keep_their_laws.Goals as goal

pub returns : goal.returns
returns c =
    live-keep c.equipment_keeps_the_law.ensures c.reports_are_of_their_events.ensures c.spool_is_kept.ensures.held
    c.messages_leave_in_step.ensures c.overwrites_for_puts.ensures c.setup_is_kept.ensures
