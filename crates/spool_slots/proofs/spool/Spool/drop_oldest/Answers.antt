-- The gate was closed, so the oldest message is gone; or that failed, and what a crash finds goes by the call.

use Rattle.std.proofs.Common.{◌∙◌, ◌+◌, ◌-◌, ◌<◌, ℕ, Ok, ap, sym, subst, arith}
use Rattle.disk_base.specs.declared.disk.DiskAnswer.TheVariants.{Done, Failed}
use Rattle.spool_file.specs.declared.recovery.Known.{Known}
use Rattle.spool_slots.specs.Changes.{Drops, HasDropped, HasLostDrop}
use Rattle.spool_slots.specs.Calls.{number_place}
use Rattle.spool_slots.specs.Spool.{IsSpool, SpoolView, in_hand}
use Rattle.spool_slots.proofs.Dropped.{drop_does, drop_lost, drop_made, drop_settles, drop_spool, drops, less}
use Rattle.spool_slots.proofs.Dropped.{read_size, sized}
use Rattle.spool_slots.proofs.spool.Spool.drop_oldest.Goals as goal

pub taken_up-requires : goal.taken_up-requires
taken_up-requires g c =
    let k = c.self.inside.known in
    let d = c.self.inside.disk in
    let d' = c.close_first.new.disk in
    let one : 0 < k.len = grind (arith, c.if-self-eq0.false) in
    let at = number_place k.slots k.first in
    let done = c.in-Closed.ensures in
    let bounds = sized k c.in-Closed.len c.first_size.result c.first_size.ensures.size c.first_size.ensures.some
    c.first_size.ensures.within c.first_size.ensures.last in
    subst (λ (n : Known). IsSpool g.D.Disk (in_hand d' n))
    (sym (c.without_first.ensures ∙ ap (λ (n : ℕ). record k { first = k.first + n; len = k.len - 1 })
    c.first_size.ensures.size))
    (drop_spool g.D.Disk d d' k c.self.invariant one _
    (read_size g.D.Disk d d' k c.self.invariant one c.in-Closed.len done.seen) bounds.0 bounds.1 bounds.2
    (drop_made g.D.Disk d d' at Done done.goes) (drop_settles g.D.Disk d d' at Done done.goes))

pub returns-in-Closed : goal.returns-in-Closed
returns-in-Closed g c =
    let k = c.self.inside.known in
    let d = c.self.inside.disk in
    let d' = c.close_first.new.disk in
    let one : 0 < k.len = grind (arith, c.if-self-eq0.false) in
    let at = number_place k.slots k.first in
    let done = c.in-Closed.ensures in
    let bounds = sized k c.in-Closed.len c.first_size.result c.first_size.ensures.size c.first_size.ensures.some
    c.first_size.ensures.within c.first_size.ensures.last in
    let size = read_size g.D.Disk d d' k c.self.invariant one c.in-Closed.len done.seen in
    subst (λ (w : SpoolView g.row.D.Denot). Drops g.D.Disk c.args.self (Ok w))
    (sym (c.taken_up.ensures ∙ ap (λ (n : Known). in_hand d' n)
    (c.without_first.ensures ∙ ap (λ (n : ℕ). record k { first = k.first + n; len = k.len - 1 })
    c.first_size.ensures.size)))
    (subst (λ (v : SpoolView g.row.D.Denot). Drops g.D.Disk v (Ok (in_hand d'
    (less g.D.Disk d d' k c.self.invariant one _ size)))) c.self.view_is
    (drops g.D.Disk d d' k c.self.invariant one _ size bounds.0 bounds.1 bounds.2
    (drop_made g.D.Disk d d' at Done done.goes) (drop_settles g.D.Disk d d' at Done done.goes)))

pub returns-in-Failed : goal.returns-in-Failed
returns-in-Failed g c =
    let k = c.self.inside.known in
    let d = c.self.inside.disk in
    let d' = c.close_first.new.disk in
    let one : 0 < k.len = grind (arith, c.if-self-eq0.false) in
    let at = number_place k.slots k.first in
    let failed = c.in-Failed.ensures in
    subst (λ (v : SpoolView g.row.D.Denot). HasDropped g.D.Disk v d' Failed × HasLostDrop g.D.Disk v d') c.self.view_is (
      drop_does g.D.Disk d d' k c.self.invariant one Failed (drop_made g.D.Disk d d' at Failed failed.goes)
          (drop_settles g.D.Disk d d' at Failed failed.goes),
      drop_lost g.D.Disk d d' k c.self.invariant one c.cut_leaves_the_chosen_byte.ensures failed.goes,
    )
