-- A step leaves what its parts leave; one that stops has nothing to send.

use Rattle.std.proofs.Common.{refl, []}
use Rattle.message_end.specs.Ends.{input_of}
use Rattle.message_end.proofs.Leaving.{leaves-gone, leaves-stopped}
use Rattle.host_node.specs.Host.{parts}
use Rattle.host_node.proofs.host.Host.step_on.Goals as goal

pub returns-in-Ok : goal.returns-in-Ok
returns-in-Ok c =
    leaves-gone (parts (input_of c.args.input) c.args.now) c.args.self.now c.args.out.now c.requires.out
    c.act.new.self
    c.act.new.out c.in-Ok.ensures

pub returns-in-Err : goal.returns-in-Err
returns-in-Err c =
    leaves-stopped (parts (input_of c.args.input) c.args.now) c.args.self.now c.args.out.now c.requires.out
    c.act.new.self c.act.new.out (record { line = c.clear.new.self; notes = c.act.new.out.notes }) c.in-Err.stop
    c.in-Err.ensures refl c.clear.ensures []
