-- One that is taken runs from now on, and one that is refused changes nothing.
use Rattle.tool_core.specs.Node.{own_of}
use Rattle.tool_core.proofs.Traced.{set_kept}
use Rattle.tool_core.proofs.own.Tool.set_trace.Goals as goal

pub returns-clause-own : goal.returns-clause-own
returns-clause-own c =
    set_kept c.set.result c.args.request.now c.args.now c.args.self.now.own.tracing.running c.set.new.self
    (own_of c.args.self.now.own) c.set.ensures.taken c.set.ensures.refused
