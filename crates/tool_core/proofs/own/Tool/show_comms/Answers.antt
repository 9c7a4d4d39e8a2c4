use Rattle.std.proofs.Common.{subst}
use Rattle.gem_states.specs.declared.comms.CommsState.{CommsState}
use Rattle.message_end.specs.Parts.{AreCarried}
use Rattle.tool_core.specs.Node.{node_of}
use Rattle.tool_step.specs.States.{comms_lines, request_commands}
use Rattle.tool_core.proofs.Taking.{commands_then}
use Rattle.tool_core.proofs.own.Tool.show_comms.Goals as goal

pub returns-clause-does : goal.returns-clause-does
returns-clause-does c =
    let old = node_of c.args.self.now in
    commands_then old.own (comms_lines c.args.old c.args.self.now.own.comms.state)
    (request_commands c.args.output old.own) old old (node_of c.request.new.self) c.args.out.now c.note_comms.new.out
    c.request.new.out c.request.result
    (subst
    (λ (state : CommsState).
    AreCarried (comms_lines c.args.old state) old.core c.args.out.now old.core c.note_comms.new.out) c.state.ensures
    (c.in_ok-note_comms.ensures.notes old.core))
    c.request.ensures.does
