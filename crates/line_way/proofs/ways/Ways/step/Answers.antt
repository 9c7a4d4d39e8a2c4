-- A step is deeds of the line that it stands for.

use Rattle.std.proofs.Common.{sym, subst}
use Rattle.std.proofs.lemmas.Result.{on_ok_weaker}
use Rattle.line_way.specs.Step.{DoesStep}
use Rattle.line_way.specs.Ways.{Ways}
use Rattle.line_way.proofs.Steps.{step-stands}
use Rattle.line_way.proofs.ways.Ways.step.Goals as goal

pub returns-clause-deeds : goal.returns-clause-deeds
returns-clause-deeds c =
    on_ok_weaker c.step_at.result
    (λ after.
    subst (λ (ways : Ways). DoesStep c.args.self.now c.args.side c.args.gives c.args.phase c.args.written.now ways) (sym after)
    (step-stands c.args.side c.args.gives c.args.phase c.args.written.now c.args.self.now))
    c.step_at.ensures.ways
