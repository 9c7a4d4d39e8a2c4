-- The gate was closed, so the oldest message is gone, by the size that is known.

use Rattle.std.proofs.Common.{◌∙◌, ◌<◌, Ok, ap, sym, subst, arith}
use Rattle.disk_base.specs.declared.disk.DiskAnswer.TheVariants.{Done, Failed}
use Rattle.spool_file.specs.declared.recovery.Known.{Known}
use Rattle.spool_slots.specs.Changes.{DropsSized, HasDropped, HasLostDrop, IsFirstSize}
use Rattle.spool_slots.specs.Calls.{number_place}
use Rattle.spool_slots.specs.Spool.{IsSpool, SpoolView, in_hand}
use Rattle.spool_slots.proofs.Dropped.{drop_does, drop_lost, drop_made, drop_settles, drop_spool, drops_sized}
use Rattle.spool_slots.proofs.Dropped.{known_size, less}
use Rattle.spool_slots.proofs.spool.Spool.drop_sized.Goals as goal

pub without_first-requires-clause-first : goal.without_first-requires-clause-first
without_first-requires-clause-first g c =
    let k = c.self.inside.known in
    let one : 0 < k.len = grind (arith, c.if-self-eq0.false) in
    let size = subst (λ (v : SpoolView g.row.D.Denot). 0 < v.len → IsFirstSize g.D.Disk v c.args.size)
    (sym c.self.view_is) c.requires one in
    omega (arith, size.within)

pub taken_up-requires : goal.taken_up-requires
taken_up-requires g c =
    let k = c.self.inside.known in
    let d = c.self.inside.disk in
    let d' = c.close_first.new.disk in
    let one : 0 < k.len = grind (arith, c.if-self-eq0.false) in
    let size = subst (λ (v : SpoolView g.row.D.Denot). 0 < v.len → IsFirstSize g.D.Disk v c.args.size)
    (sym c.self.view_is) c.requires one in
    let at = number_place k.slots k.first in
    let done = c.in-Closed.ensures in
    subst (λ (n : Known). IsSpool g.D.Disk (in_hand d' n)) (sym c.without_first.ensures)
    (drop_spool g.D.Disk d d' k c.self.invariant one c.args.size
    (known_size g.D.Disk d d' k c.self.invariant one c.args.size size) size.some size.within size.last
    (drop_made g.D.Disk d d' at Done done.goes) (drop_settles g.D.Disk d d' at Done done.goes))

pub returns-in-Closed : goal.returns-in-Closed
returns-in-Closed g c =
    let k = c.self.inside.known in
    let d = c.self.inside.disk in
    let d' = c.close_first.new.disk in
    let one : 0 < k.len = grind (arith, c.if-self-eq0.false) in
    let first = subst (λ (v : SpoolView g.row.D.Denot). 0 < v.len → IsFirstSize g.D.Disk v c.args.size)
    (sym c.self.view_is) c.requires one in
    let at = number_place k.slots k.first in
    let done = c.in-Closed.ensures in
    let size = known_size g.D.Disk d d' k c.self.invariant one c.args.size first in
    subst (λ (w : SpoolView g.row.D.Denot). DropsSized g.D.Disk c.args.self c.args.size (Ok w))
    (sym (c.taken_up.ensures ∙ ap (λ (n : Known). in_hand d' n) c.without_first.ensures))
    (subst (λ (v : SpoolView g.row.D.Denot). DropsSized g.D.Disk v c.args.size (Ok (in_hand d'
    (less g.D.Disk d d' k c.self.invariant one c.args.size size)))) c.self.view_is
    (drops_sized g.D.Disk d d' k c.self.invariant one c.args.size size first.some first.within first.last
    (drop_made g.D.Disk d d' at Done done.goes) (drop_settles g.D.Disk d d' at Done done.goes)))

pub returns-in-Failed : goal.returns-in-Failed
returns-in-Failed g c =
    let k = c.self.inside.known in
    let d = c.self.inside.disk in
    let d' = c.close_first.new.disk in
    let one : 0 < k.len = grind (arith, c.if-self-eq0.false) in
    let at = number_place k.slots k.first in
    let failed = c.in-Failed.ensures in
    subst (λ (v : SpoolView g.row.D.Denot). HasDropped g.D.Disk v d' Failed × HasLostDrop g.D.Disk v d') c.self.view_is (
      drop_does g.D.Disk d d' k c.self.invariant one Failed (drop_made g.D.Disk d d' at Failed failed.goes)
          (drop_settles g.D.Disk d d' at Failed failed.goes),
      drop_lost g.D.Disk d d' k c.self.invariant one c.cut_leaves_the_chosen_byte.ensures failed.goes,
    )
