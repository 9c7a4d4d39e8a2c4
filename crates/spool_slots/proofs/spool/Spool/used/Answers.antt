-- The numbers that the messages take are as many as their slots.

use Rattle.std.proofs.Common.{◌≡◌, ◌∙◌, ◌-◌, ◌≤◌, Some, subst, sum_by, arith}
use Rattle.disk_base.specs.Story.{Story}
use Rattle.spool_file.specs.File.{file_in}
use Rattle.spool_file.specs.Slot.{width}
use Rattle.spool_slots.specs.Spool.{SpoolView}
use Rattle.spool_slots.proofs.Looking.{sum_is}
use Rattle.spool_slots.proofs.spool.Spool.used.Goals as goal

pub returns-clause-used : goal.returns-clause-used
returns-clause-used g c =
    subst (λ (v : SpoolView g.row.D.Denot). c.used.result ≡ v.next - v.first) c.self.view_is c.used.ensures

pub returns-clause-sum : goal.returns-clause-sum
returns-clause-sum g c =
    subst (λ (v : SpoolView g.row.D.Denot). (s : Story) → g.D.Disk.told v.disk ≡ Some s →
    c.used.result ≡ sum_by width (file_in s.now.bytes).list) c.self.view_is
    (λ s told. c.used.ensures ∙ sum_is s c.self.inside.known (c.self.invariant.rests s told))

pub returns-clause-range : goal.returns-clause-range
returns-clause-range g c =
    subst (λ (v : SpoolView g.row.D.Denot). c.used.result ≤ v.slots) c.self.view_is
    (omega (arith, c.used.ensures, c.self.invariant.room))
