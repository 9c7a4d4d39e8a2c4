-- A host stays known, and has no disk to use or to count.

use Rattle.message_end.specs.Ends.{input_of}
use Rattle.end_run.proofs.Coming.{stays_always}
use Rattle.end_run.proofs.Counting.{counts_no_disk, uses_no_disk}
use Rattle.gemline_app.specs.declared.host.LinkedHost.{LinkedHost}
use Rattle.gemline_app.proofs.host.LinkedHostLinkedEnd.step.Goals as goal

pub returns-clause-end : goal.returns-clause-end
returns-clause-end c =
    let after : LinkedHost = record { host = c.step.new.self } in
    stays_always c.args.self.now.host (input_of c.args.input) c.args.now c.step.new.out after c.step.result

pub returns-clause-room : goal.returns-clause-room
returns-clause-room c = uses_no_disk _ _ _ _ c.step.result c.step.ensures.step

pub returns-clause-device : goal.returns-clause-device
returns-clause-device c = counts_no_disk _ _ _ _ c.step.result c.step.ensures.step
