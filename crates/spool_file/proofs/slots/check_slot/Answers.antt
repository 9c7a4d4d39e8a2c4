-- The slot is ahead of the end exactly where the file's is.

use Rattle.std.proofs.Common.{◌∙◌, ap, sym}
use Rattle.spool_file.specs.Slot.{in_slot}
use Rattle.spool_file.proofs.Starts.{broken_on, same_ahead}
use Rattle.spool_file.proofs.slots.check_slot.Goals as goal

pub returns-in-Some-clause-end : goal.returns-in-Some-clause-end
returns-in-Some-clause-end g c s told =
    let is = c.in-Done.ensures.start s told in
    broken_on s.now.bytes c.read_start.new.start c.args.slot c.in-Some.place _ _ c.break_in.result is
    (same_ahead s.now.bytes c.read_start.new.start c.args.slot c.read_start.array_long is c.args.floor c.args.end)
    (sym c.in-Some.is ∙ c.start_ahead.ensures.place) c.break_in.ensures.at c.break_in.ensures.got

pub returns-in-None-clause-end : goal.returns-in-None-clause-end
returns-in-None-clause-end g c s told =
    ap (in_slot c.args.slot) (sym (same_ahead s.now.bytes c.read_start.new.start c.args.slot c.read_start.array_long
    (c.in-Done.ensures.start s told) c.args.floor c.args.end)
    ∙ sym c.start_ahead.ensures.place ∙ c.in-None.is)
