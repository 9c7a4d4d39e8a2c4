use Rattle.std.proofs.Common.{ap, ◌∙◌, arith, []}
use Rattle.secs_items.specs.Checking.{Checking}
use Rattle.secs_items.proofs.CheckLaws.{fed_is}
use Rattle.tool_core.proofs.setup.carry_one.Goals as goal

pub feed-requires : goal.feed-requires
feed-requires c =
    let none = ap (λ (check : Checking). check.fed) c.new-check.ensures ∙ fed_is [] in
    omega (arith, none, c.requires)
