use Rattle.std.proofs.Common.{sym, subst, ℕ, Option}
use Rattle.tool_core.specs.Carried.{IsTakenBack}
use Rattle.tool_core.proofs.own.Tool.stop_last.Goals as goal

pub returns-in-Some-clause-core : goal.returns-in-Some-clause-core
returns-in-Some-clause-core c =
    subst (λ (tried : Option ℕ). IsTakenBack tried c.args.self.now.core c.remove.new.self) (sym c.in-Some.is)
    c.remove.ensures.carries
