-- In a full list room is made, and then the message fits.

use Rattle.std.proofs.Common.{rules, length, ◌≡◌, ◌++◌, ap, ℕ, ◌∙◌, Some}
use Rattle.gem_spool.specs.declared.spool.Room.TheVariants.{Full}
use Rattle.message_end.specs.Ends.{printed}
use Rattle.spool_file.specs.Sizes.{slots_for}
use Rattle.spool_ledger.specs.Ledger.{LedgerView, room_for}
use Rattle.spool_ledger.specs.Storing.{room_made, spooled}
use Rattle.spool_ledger.proofs.Keeping.{makes_room}
use Rattle.spool_ledger.proofs.Removing.{overwritten}
use Rattle.spool_ledger.proofs.ledger.Ledger.store.Goals as goal

pub put-requires-then-overwrites-clause-fits : goal.put-requires-then-overwrites-clause-fits
put-requires-then-overwrites-clause-fits c =
    let v = c.args.self.now in
    let message = spooled c.args.stream c.args.function c.args.body in
    let full : room_for c.args.self.now (length c.args.body) ≡ Full = search rules in
    let size : c.size_of.result ≡ slots_for (length c.args.body) = search rules in
    ap (λ (w : LedgerView). room_for w (length c.args.body))
    (c.in_ok-make_room-in-Full.ensures.next (Some message)
    ∙ ap (λ (n : ℕ). (room_made n (Some message) v.sizes v).next) size)
    ∙ makes_room v message c.room.ensures.is full

pub returns-in_ok-put-in-Full-clause-books : goal.returns-in_ok-put-in-Full-clause-books
returns-in_ok-put-in-Full-clause-books c =
    let v = c.args.self.now in
    let message = spooled c.args.stream c.args.function c.args.body in
    let full : room_for c.args.self.now (length c.args.body) ≡ Full = search rules in
    let size : c.size_of.result ≡ slots_for (length c.args.body) = search rules in
    overwritten (room_for v (length c.args.body)) c.args.overwrites v c.make_room.new.self
    c.put-then-overwrites.new.self message c.args.out.now.notes c.make_room.new.out.notes
    c.put-then-overwrites.new.out.notes full c.if-overwrites.true
    (c.in_ok-make_room-in-Full.ensures.next (Some message)
    ∙ ap (λ (n : ℕ). (room_made n (Some message) v.sizes v).next) size)
    (c.in_ok-make_room-in-Full.ensures.notes (Some message)
    ∙ ap (λ (n : ℕ). c.args.out.now.notes ++ printed (room_made n (Some message) v.sizes v).lines) size)
    c.in_ok-put-in-Full.ensures.next c.in_ok-put-in-Full.ensures.notes
