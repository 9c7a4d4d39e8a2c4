-- What was read of a text as a script.

use Rattle.gemline_app.proofs.Hosting.{refused_for}
use Rattle.gemline_app.proofs.inputs.script_of.Goals as goal

pub returns-in-Ok : goal.returns-in-Ok
returns-in-Ok c =
    let reads = c.in-Ok.ensures in
    record { found = reads.found; fits = reads.fits; only = reads.only; outside = reads.outside }

pub returns-in-Err : goal.returns-in-Err
returns-in-Err c =
    let reads = c.in-Err.ensures in (
      c.in-Err.fault,
      refused_for c.args.side c.args.text.now c.in-Err.fault reads.only reads.line reads.outside,
      c.script_refusal.ensures,
    )
