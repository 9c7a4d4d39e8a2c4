-- What a step of the equipment's core is.
use Rattle.trace_log.specs.Log.{Happening}
use Rattle.message_end.specs.Core.{EndView, Step}
use Rattle.tool_step.specs.declared.kind.Kind.{Kind}

abbrev pub CoreStep : Type 0
CoreStep = Step (EndView Kind) Happening
