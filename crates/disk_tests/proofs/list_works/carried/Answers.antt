-- Each work has its turn, and the drop frees the slot of the oldest message.
use Rattle.std.proofs.Common.{◌≡◌, ◌∙◌, sym, ap, refl, arith, length, List, ℕ}
use Rattle.gem_spool.specs.Spool.{room_in}
use Rattle.gem_spool.specs.Standing.{count_of}
use Rattle.disk_tests.proofs.Due.{put-first}
use Rattle.disk_tests.proofs.list_works.carried.Goals as goal

pub carry_out-requires-clause-due : goal.carry_out-requires-clause-due
carry_out-requires-clause-due c =
    let single = c.if-not-has_single.ensures in
    let next = c.next.ensures in
    let most = c.if-next-gt100.false in
    put-first (count_of c.args.spool.spool) c.in-Ok-Ok.body c.in-Ok-Ok.last (ap length c.in-Ok-Ok.ensures)
    (ap length c.in-Ok-Ok.ensures') (omega (arith, next, most)) (single.len refl) (single.used refl) (single.room refl)
    (ap (room_in (count_of c.args.spool.spool)) (ap length c.in-Ok-Ok.ensures) ∙ sym c.room.ensures ∙ c.in-Fits.is)

pub carry_out-requires-clause-sized : goal.carry_out-requires-clause-sized
carry_out-requires-clause-sized c = λ s told.
    (tt, (c.if-not-has_single.ensures.oldest refl (omega arith) s told _, (tt, (tt, tt))))
