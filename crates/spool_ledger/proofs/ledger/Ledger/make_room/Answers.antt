-- As long as there is no room a message stands, and each that leaves is one less.

use Rattle.std.proofs.Common.{rules, ◌≡◌, true, false, ◌∙◌}
use Rattle.spool_ledger.specs.Ledger.{is_full}
use Rattle.spool_ledger.proofs.Keeping.{full_has_some}
use Rattle.spool_ledger.proofs.Removing.{goes_on, led_next, led_notes}
use Rattle.spool_ledger.proofs.ledger.Ledger.make_room.Goals as goal

pub oldest_out-requires : goal.oldest_out-requires
oldest_out-requires c =
    record { some = full_has_some c.oldest.self c.args.size c.oldest.invariant.0.fits (search rules) }

pub oldest-preserved : goal.oldest-preserved
oldest-preserved c =
    let full : is_full c.oldest.self.slots c.oldest.self.sizes c.args.size ≡ true = search rules in (
      goes_on c.args.size c.args.self.now c.oldest.self c.oldest_out.new.self c.args.out.now.notes c.oldest.out.notes
          c.oldest_out.new.out.notes c.oldest.invariant.0
          (full_has_some c.oldest.self c.args.size c.oldest.invariant.0.fits full) full
          c.in_ok-oldest_out.ensures.next c.in_ok-oldest_out.ensures.notes,
      c.oldest_out.ensures.line ∙ c.oldest.invariant.1,
    )

pub returns-clause-next : goal.returns-clause-next
returns-clause-next c =
    let free : is_full c.oldest.self.slots c.oldest.self.sizes c.args.size ≡ false = search rules in
    led_next c.args.size c.args.self.now c.oldest.self c.args.out.now.notes c.oldest.out.notes c.oldest.invariant.0 free

pub returns-clause-notes : goal.returns-clause-notes
returns-clause-notes c =
    let free : is_full c.oldest.self.slots c.oldest.self.sizes c.args.size ≡ false = search rules in
    led_notes c.args.size c.args.self.now c.oldest.self c.args.out.now.notes c.oldest.out.notes c.oldest.invariant.0 free
