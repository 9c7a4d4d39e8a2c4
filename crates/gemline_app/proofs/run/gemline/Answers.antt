-- The words are a command, which is carried out and told of, or they are refused.

use Rattle.std.proofs.Common.{refl}
use Rattle.gemline_app.proofs.Running.{carried_out, refused}
use Rattle.gemline_app.proofs.run.gemline.Goals as goal

pub returns-in-Ok : goal.returns-in-Ok
returns-in-Ok g c = record {
  run =
      carried_out _ _ _ _ _ _ _ _ _ _ c.in-Ok.ensures.command c.run-outcome.ensures c.report.ensures.status
      c.report.ensures.line;
}

pub returns-in-Err : goal.returns-in-Err
returns-in-Err g c = record {
  run = refused _ _ _ _ _ _ _ _ _ c.in-Err.ensures.command
      (record { left = refl; health = refl }) (record { told = refl; health = refl })
      (record { told = refl; faults = refl; file = refl })
      (record { told = refl; moment = refl; health = refl; connected = refl })
      (record { received = refl; health = refl })
      c.refuse.ensures.status c.refuse.ensures.line;
}
