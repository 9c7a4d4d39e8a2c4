-- Where memory runs out, the others stay in front.

use Rattle.std.proofs.Common.{◌∙◌, take}
use Rattle.gem_trace.specs.Traces.{readings}
use Rattle.gem_trace.proofs.Reading.{front_left, on_err}
use Rattle.gem_trace.proofs.trace.put_readings.Goals as goal

pub returns-in_err-put_reading-clause-err : goal.returns-in_err-put_reading-clause-err
returns-in_err-put_reading-clause-err c =
    on_err c.from_residual.result
    (front_left c.args.values.now (readings c.args.vars.now (take c.loop-svid.svid-index c.args.svids.now))
    c.put_reading.new.values (c.in_err-put_reading.ensures.err ∙ c.loop-svid.invariant))
