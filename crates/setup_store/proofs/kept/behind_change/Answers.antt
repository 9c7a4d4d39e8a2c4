-- The new one goes last, where it tells something.

use Rattle.std.proofs.Common.{sym, not, filter}
use Rattle.setup_store.specs.Entries.{entry_of}
use Rattle.setup_store.specs.Kept.{takes_out, tells}
use Rattle.setup_store.proofs.KeptEntries.{told_last, untold}
use Rattle.setup_store.proofs.kept.behind_change.Goals as goal

pub returns-then-not-tells : goal.returns-then-not-tells
returns-then-not-tells c = λ entries are.
    untold _ (filter (λ old. not (takes_out c.args.change.now old)) entries) (entry_of c.args.primary.now)
    (tells c.args.change.now) (c.in_ok-next.ensures entries are) (sym c.if-not-tells.ensures)

pub returns : goal.returns
returns c = λ entries are.
    told_last _ _ (filter (λ old. not (takes_out c.args.change.now old)) entries) (entry_of c.args.primary.now)
    (tells c.args.change.now) (c.in_ok-next.ensures entries are) c.in_ok-put.ensures (sym c.if-not-tells.ensures)
