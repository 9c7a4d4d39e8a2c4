-- What rests on the disk is the list in hand.

use Rattle.std.proofs.Common.{◌≡◌, ◌+◌, ◌≤◌, Some, subst, arith}
use Rattle.disk_base.specs.Story.{Story}
use Rattle.spool_slots.specs.Spool.{Rests, SpoolView, known_of}
use Rattle.spool_slots.proofs.spool.Spool.len.Goals as goal

pub returns-clause-rests : goal.returns-clause-rests
returns-clause-rests g c =
    subst (λ (v : SpoolView g.row.D.Denot). (s : Story) → g.D.Disk.told v.disk ≡ Some s → Rests s (known_of v)) c.self.view_is c.self.invariant.rests

pub returns-clause-from : goal.returns-clause-from
returns-clause-from g c =
    subst (λ (v : SpoolView g.row.D.Denot). v.first + v.len ≤ v.next) c.self.view_is c.self.invariant.from

pub returns-clause-none : goal.returns-clause-none
returns-clause-none g c =
    subst (λ (v : SpoolView g.row.D.Denot). v.len ≡ 0 → v.first ≡ v.next) c.self.view_is c.self.invariant.none

pub returns-clause-room : goal.returns-clause-room
returns-clause-room g c =
    subst (λ (v : SpoolView g.row.D.Denot). v.next ≤ v.first + v.slots) c.self.view_is c.self.invariant.room

pub returns-clause-range : goal.returns-clause-range
returns-clause-range g c =
    subst (λ (v : SpoolView g.row.D.Denot). c.self.inside.known.len ≤ v.slots) c.self.view_is
    (omega (arith, c.self.invariant.from, c.self.invariant.room))
