-- What is known of the oldest message's size is what the drop needs, and frees.

use Rattle.std.proofs.Common.{Err, refl, subst, arith}
use Rattle.gem_spool.proofs.Answered.{due_size}
use Rattle.spool_slots.specs.Changes.{DropsSized}
use Rattle.spool_slots.specs.declared.states.Dropping.{Dropping}
use Rattle.spool_slots.specs.declared.states.Dropping.TheVariants as dropping
use Rattle.gem_spool.proofs.spool.GemSpool.without_oldest.Goals as goal

pub drop_sized-requires : goal.drop_sized-requires
drop_sized-requires g c = λ one. due_size g.D.Disk c.args.self.spool c.args.slots c.requires.due c.requires.sized

pub returns-in-Ok : goal.returns-in-Ok
returns-in-Ok g c = (c.in-Ok.ensures, refl)

pub returns-in-Err-Empty : goal.returns-in-Err-Empty
returns-in-Err-Empty g c =
    let empty : DropsSized g.D.Disk c.args.self.spool c.args.slots (Err (dropping.Empty c.in-Err-Empty.spool)) =
    subst (λ (e : Dropping g.row.D.Denot). DropsSized g.D.Disk c.args.self.spool c.args.slots (Err e))
    c.in-Err-Empty.field-0-is c.in-Err-Empty.ensures in
    absurd (omega (arith, empty.1, c.requires.due.0))

pub returns-in-Err-Failed : goal.returns-in-Err-Failed
returns-in-Err-Failed g c =
    subst (λ (e : Dropping g.row.D.Denot). DropsSized g.D.Disk c.args.self.spool c.args.slots (Err e))
    c.in-Err-Failed.field-0-is c.in-Err-Failed.ensures
