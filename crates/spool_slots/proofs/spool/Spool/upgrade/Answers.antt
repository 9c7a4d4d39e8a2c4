-- The gate was written, and then the name; or that failed, and what a crash finds goes by the call.

use Rattle.std.proofs.Common.{◌≡◌, ◌∙◌, Ok, ap, sym, subst}
use Rattle.disk_base.specs.declared.disk.DiskAnswer.TheVariants.{Failed}
use Rattle.spool_file.specs.declared.recovery.Known.{Known}
use Rattle.spool_slots.specs.Changes.{HasLostUpgrade, HasUpgraded, Upgrades}
use Rattle.spool_slots.specs.Spool.{IsSpool, SpoolView, in_hand}
use Rattle.spool_slots.proofs.Versions.{two, upgrade_does, upgrade_lost, version_done, version_spool}
use Rattle.spool_slots.proofs.spool.Spool.upgrade.Goals as goal

pub taken_up-requires : goal.taken_up-requires
taken_up-requires g c =
    let k = c.self.inside.known in
    let d = c.self.inside.disk in
    let d' = c.write_version.new.disk in
    let one = subst (λ (v : SpoolView g.row.D.Denot). v.version ≡ 1) (sym c.self.view_is) c.requires in
    subst (λ (n : Known). IsSpool g.D.Disk (in_hand d' n)) (sym c.upgraded.ensures)
    (version_spool g.D.Disk d d' k c.self.invariant one c.in-Done.ensures)

pub returns-in-Done : goal.returns-in-Done
returns-in-Done g c =
    let k = c.self.inside.known in
    let d = c.self.inside.disk in
    let d' = c.write_version.new.disk in
    let one = subst (λ (v : SpoolView g.row.D.Denot). v.version ≡ 1) (sym c.self.view_is) c.requires in
    subst (λ (w : SpoolView g.row.D.Denot). Upgrades g.D.Disk c.args.self (Ok w))
    (sym (c.taken_up.ensures ∙ ap (λ (n : Known). in_hand d' n) c.upgraded.ensures))
    (subst (λ (v : SpoolView g.row.D.Denot). Upgrades g.D.Disk v (Ok (in_hand d'
    (two g.D.Disk d d' k c.self.invariant one)))) c.self.view_is
    (version_done g.D.Disk d d' k c.self.invariant one c.in-Done.ensures))

pub returns-in-Failed : goal.returns-in-Failed
returns-in-Failed g c =
    let k = c.self.inside.known in
    let d = c.self.inside.disk in
    let d' = c.write_version.new.disk in
    let one = subst (λ (v : SpoolView g.row.D.Denot). v.version ≡ 1) (sym c.self.view_is) c.requires in
    subst (λ (v : SpoolView g.row.D.Denot). HasUpgraded g.D.Disk v d' Failed × HasLostUpgrade g.D.Disk v d')
    c.self.view_is (
      upgrade_does g.D.Disk d d' k c.self.invariant one Failed c.in-Failed.ensures,
      upgrade_lost g.D.Disk d d' k c.self.invariant one c.cut_leaves_the_chosen_byte.ensures c.in-Failed.ensures,
    )
