-- Each work has its turn, and the drop frees the slot of the oldest message.
use Rattle.std.proofs.Common.{◌≡◌, ◌∙◌, sym, ap, subst, refl, arith, append-nil, length, List, [], ℕ}
use Rattle.gem_spool.specs.Standing.{count_of}
use Rattle.gem_spool.specs.Works.{oldest_width}
use Rattle.spool_file.specs.File.{file_in}
use Rattle.spool_file.specs.Slot.{Message}
use Rattle.disk_tests.proofs.Due.{drop-first}
use Rattle.disk_tests.proofs.list_works.overwritten.Goals as goal

pub carry_out-requires-clause-due : goal.carry_out-requires-clause-due
carry_out-requires-clause-due c =
    let single = c.if-not-has_single.ensures in
    let next = c.next.ensures in
    let most = c.if-next-gt100.false in
    drop-first (count_of c.args.spool.spool) c.in-Ok-Ok.body c.in-Ok-Ok.last (ap length c.in-Ok-Ok.ensures)
    (ap length c.in-Ok-Ok.ensures') (omega (arith, next, most)) (single.len refl) (single.used refl) (single.room refl)

pub carry_out-requires-clause-sized : goal.carry_out-requires-clause-sized
carry_out-requires-clause-sized c = λ s told.
    let first =
    subst (λ (list : List Message). 1 ≡ oldest_width list) (append-nil (file_in s.now.bytes).list)
    (c.if-not-has_single.ensures.oldest refl (omega arith) s told []) in
    (first, (tt, (tt, (tt, tt))))
