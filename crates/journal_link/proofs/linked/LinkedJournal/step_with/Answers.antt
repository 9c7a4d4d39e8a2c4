-- A step that goes on, and one that stops: what each leaves of the end, of its room and of its device.

use Rattle.std.proofs.Common.{Ok, Err, ◌∙◌}
use Rattle.journal_node.specs.Held.{disk_held}
use Rattle.message_end.specs.Ends.{input_of}
use Rattle.journal_link.specs.Linked.{linked_view}
use Rattle.journal_link.proofs.Linking.{kept_device, stopped_device, stopped_holds, stopped_leaves, stopped_left, uses_one}
use Rattle.journal_link.proofs.linked.LinkedJournal.step_with.Goals as goal

pub returns-in-Ok-clause-step : goal.returns-in-Ok-clause-step
returns-in-Ok-clause-step g c known = (c.in-Ok.ensures.moves known).gone

pub returns-in-Ok-clause-end : goal.returns-in-Ok-clause-end
returns-in-Ok-clause-end g c known = (c.in-Ok.ensures.moves known).in_state

pub returns-in-Ok-clause-room : goal.returns-in-Ok-clause-room
returns-in-Ok-clause-room g c known = uses_one (Ok tt)

pub returns-in-Ok-clause-device : goal.returns-in-Ok-clause-device
returns-in-Ok-clause-device g c =
    kept_device g.D.Disk (disk_held c.args.host) (disk_held c.in-Ok.host) c.in-Ok.ensures.disk

pub returns-in-Err-clause-step : goal.returns-in-Err-clause-step
returns-in-Err-clause-step g c known =
    stopped_leaves g.D.Disk c.args.host (input_of c.args.input) c.args.now c.step.new.out c.in-Err.ended
    (c.in-Err.ensures.moves known) c.stop.result c.stop.ensures.why (linked_view g.D.Disk c.stop.new.self.going)

pub returns-in-Err-clause-end : goal.returns-in-Err-clause-end
returns-in-Err-clause-end g c known =
    stopped_left g.D.Disk c.args.host (input_of c.args.input) c.args.now c.step.new.out c.in-Err.ended
    (c.in-Err.ensures.moves known) c.stop.result c.stop.ensures.why c.stop.new.self.spent c.stop.ensures.spent

pub returns-in-Err-clause-room : goal.returns-in-Err-clause-room
returns-in-Err-clause-room g c known = uses_one (Err c.stop.result)

pub returns-in-Err-clause-device : goal.returns-in-Err-clause-device
returns-in-Err-clause-device g c =
    stopped_device g.D.Disk c.in-Err.ended c.stop.result c.stop.ensures.why c.stop.new.self.spent c.stop.ensures.spent
    c.stop.new.self.going (c.stop.ensures.going ∙ c.requires.gone) (disk_held c.args.host) c.in-Err.ensures.disk

pub returns-in-Err-clause-sound : goal.returns-in-Err-clause-sound
returns-in-Err-clause-sound g c =
    stopped_holds g.D.Disk c.in-Err.ended c.stop.result c.stop.ensures.why c.stop.new.self.spent c.stop.ensures.spent
    c.stop.new.self.going (c.stop.ensures.going ∙ c.requires.gone)
