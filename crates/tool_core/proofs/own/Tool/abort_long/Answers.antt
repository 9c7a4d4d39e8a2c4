use Rattle.std.proofs.Common.{rules, ap, ◌∙◌, [], ◌∷◌, ◌++◌}
use Rattle.message_flow.specs.declared.step.Note.{Note}
use Rattle.trace_log.specs.declared.names.Name.{Name}
use Rattle.trace_log.specs.Log.{Happening}
use Rattle.trace_log.specs.Text.{note_of}
use Rattle.tool_core.specs.Node.{node_of}
use Rattle.tool_core.proofs.Turned.{long_so}
use Rattle.tool_core.proofs.own.Tool.abort_long.Goals as goal

pub returns-clause-does : goal.returns-clause-does
returns-clause-does c =
    long_so c.args.message.now (node_of c.args.self.now) (node_of c.abort-2.new.self) c.args.out.now c.abort-2.new.out
    c.push.new.self c.abort-2.result (search rules)
    (c.in_ok-push.ensures.ok
    ∙ ap (λ (note : Note). c.args.out.now.notes ++ note ∷ [])
    (c.in_ok-too_long_note.ensures ∙ ap (λ (name : Name). note_of (Happening.TooLong name)) c.reply_name.ensures))
    c.abort-2.ensures.does
