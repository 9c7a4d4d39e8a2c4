-- The reader's next line, as it is told.

use Rattle.std.proofs.Common.{ap}
use Rattle.live_teller.specs.Tellings.{tellings_of}
use Rattle.live_teller.proofs.Going.{line_next}
use Rattle.live_teller.proofs.teller.next_line.Goals as goal

pub told_of-requires : goal.told_of-requires
told_of-requires c = rw c.in-Some.is at c.in_ok-next.ensures.fits

pub returns-in-Some-clause-next : goal.returns-in-Some-clause-next
returns-in-Some-clause-next c =
    line_next _ _ (c.in-Some.number, c.in-Some.asks) _ (rw c.in-Some.is at c.in_ok-next.ensures.next)
    c.told_of.ensures.told

pub returns-in-None-clause-next : goal.returns-in-None-clause-next
returns-in-None-clause-next c = let none = rw c.in-None.is at c.in_ok-next.ensures.next in ap tellings_of none.0
