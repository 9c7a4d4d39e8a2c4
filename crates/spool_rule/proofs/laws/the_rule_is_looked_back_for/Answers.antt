-- The law, by the lemmas of `Covering`.

use Rattle.std.proofs.Common.{◌∙◌, ap}
use Rattle.spool_rule.specs.Laws.{entries_at}
use Rattle.spool_rule.specs.Rule.{covered}
use Rattle.spool_rule.proofs.Covering.{covered_as_named, rule_stands}
use Rattle.spool_rule.proofs.laws.the_rule_is_looked_back_for.Goals as goal

pub returns : goal.returns
returns c = record {
  stands = rule_stands;
  covers_as_named = λ plan past stream function.
      ap (λ rule. covered rule stream function) (rule_stands plan past)
      ∙ covered_as_named (entries_at plan past) stream function;
}
