-- The transaction that began first ends, where there is one.

use Rattle.std.proofs.Common.{refl, sym, ◌∙◌}
use Rattle.message_end.proofs.Ended.{first_ended, none_first}
use Rattle.message_end.proofs.end.MessageEnd.end_first.Goals as goal

pub returns-in_default : goal.returns-in_default
returns-in_default g c = record {
  none = none_first c.args.self.now.transactions.begun (sym c.first.ensures.primary ∙ c.in_default.is);
  same = refl;
}

pub returns : goal.returns
returns g c =
    first_ended c.in-Some.primary.0 c.in-Some.primary.1 c.args.self.now c.end.new.self c.remove.new.self
    (sym c.first.ensures.primary ∙ c.in-Some.is) c.end.ensures.carries c.remove.ensures.carries
