-- The place is sent as it is put together.

use Rattle.std.proofs.Common.{ℕ, List, sym, ap, subst, ◌∙◌}
use Rattle.gl_base.specs.Sending.{Sends}
use Rattle.gl_base.specs.Told.{sink_told}
use Rattle.tool_app.specs.Outcome.{detail_of}
use Rattle.tool_app.proofs.reporting.copy_detail.Goals as goal

pub returns-in-NotSpool : goal.returns-in-NotSpool
returns-in-NotSpool g c =
    subst
    (λ (text : List ℕ).
    Sends (sink_told g.E.Sink c.args.err.now c.copy_out-in-NotSpool.new.out) text c.copy_out-in-NotSpool.result)
    (c.as_slice-in-NotSpool.ensures.value ∙ c.place_text.ensures ∙ sym (ap detail_of c.in-NotSpool.is))
    c.copy_out-in-NotSpool.ensures
