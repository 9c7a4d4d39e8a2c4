-- By the size that its length gives.

use Rattle.std.proofs.Common.{◌∙◌, sym}
use Rattle.spool_file.specs.Sizes.{is_too_long, slots_for}
use Rattle.spool_slots.proofs.Fits.{fits_by, none_fits, some_fits}
use Rattle.spool_slots.proofs.known.fit_of.Goals as goal

pub returns-in-None : goal.returns-in-None
returns-in-None c =
    none_fits (is_too_long c.args.known.version c.args.known.slots c.args.len) (slots_for c.args.len)
    (sym c.message_size.ensures ∙ c.in-None.is)

pub returns-in-Some : goal.returns-in-Some
returns-in-Some c =
    let some = some_fits (is_too_long c.args.known.version c.args.known.slots c.args.len) (slots_for c.args.len)
    c.in-Some.size (sym c.message_size.ensures ∙ c.in-Some.is) in
    fits_by c.args.known c.args.len c.in-Some.size c.fit_size.result some.0 some.1 c.fit_size.ensures
