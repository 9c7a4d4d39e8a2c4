-- Bytes are checked the same in any cutting.

use Rattle.std.proofs.Common.{sym, ap, ◌∙◌}
use Rattle.secs_items.specs.Checking.{Checking, fed_with}
use Rattle.secs_items.proofs.CheckLaws.{counts, cut_anywhere}
use Rattle.secs_items.proofs.body_check.BodyCheck.feed.Goals as goal

pub returns-clause-counted : goal.returns-clause-counted
returns-clause-counted c =
    ap (λ (check : Checking). check.fed) c.feed_all.ensures ∙ counts c.args.self.now c.args.piece.now

pub returns-clause-stands : goal.returns-clause-stands
returns-clause-stands c =
    λ past stands. c.feed_all.ensures ∙ ap (λ (check : Checking). fed_with check c.args.piece.now) stands ∙ sym (cut_anywhere past c.args.piece.now)
