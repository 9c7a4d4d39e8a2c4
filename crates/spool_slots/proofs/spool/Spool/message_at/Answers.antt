-- A message is there exactly where its slot says so.

use Rattle.std.proofs.Common.{inl, inr, refl, subst}
use Rattle.disk_base.specs.declared.disk.DiskAnswer.TheVariants.{Done, Failed}
use Rattle.spool_slots.specs.Changes.{Looks, LooksOn}
use Rattle.spool_slots.specs.Spool.{SpoolView}
use Rattle.spool_slots.specs.declared.states.OldestAnswer.TheVariants as oldest
use Rattle.spool_slots.proofs.Looking.{found_at, missed_out, missed_there}
use Rattle.spool_slots.proofs.spool.Spool.message_at.Goals as goal

pub returns-then-is_out : goal.returns-then-is_out
returns-then-is_out g c =
    let k = c.self.inside.known in
    let out = c.is_out.ensures.out c.if-is_out.true in
    subst (λ (v : SpoolView g.row.D.Denot). Looks g.D.Disk v v c.args.number c.args.into.now c.args.into.now oldest.Empty)
    c.self.view_is (
      λ s told. missed_out s k c.args.number (c.self.invariant.rests s told) out,
      inl (refl, refl, out),
    )

pub returns-in-Failed : goal.returns-in-Failed
returns-in-Failed g c =
    let within = c.is_out.ensures.within c.if-is_out.false in
    subst (λ (v : SpoolView g.row.D.Denot). LooksOn g.D.Disk v c.look.new.self c.args.number c.look.new.into Failed →
    Looks g.D.Disk v c.look.new.self c.args.number c.args.into.now c.look.new.into oldest.Failed) c.self.view_is
    (λ look. (look, within)) c.in-Failed.ensures

pub returns-in-Some : goal.returns-in-Some
returns-in-Some g c =
    let k = c.self.inside.known in
    let within = c.is_out.ensures.within c.if-is_out.false in
    let found = c.in-Some.ensures in
    subst (λ (v : SpoolView g.row.D.Denot). LooksOn g.D.Disk v c.look.new.self c.args.number c.look.new.into Done →
    Looks g.D.Disk v c.look.new.self c.args.number c.args.into.now c.look.new.into (oldest.Found c.in-Some.head))
    c.self.view_is
    (λ look. (
      look.0,
      within,
      record {
        slot = look.1;
        head_in = found.0;
        listed = λ s told. found_at s k (c.self.invariant.rests s told) c.self.invariant.room c.args.number
            c.look.new.into (look.1 s told) within.0 found.1 c.in-Some.head found.0;
      },
      found.1,
    )) c.in-Done.ensures

pub returns-in-None : goal.returns-in-None
returns-in-None g c =
    let k = c.self.inside.known in
    let within = c.is_out.ensures.within c.if-is_out.false in
    subst (λ (v : SpoolView g.row.D.Denot). LooksOn g.D.Disk v c.look.new.self c.args.number c.look.new.into Done →
    Looks g.D.Disk v c.look.new.self c.args.number c.args.into.now c.look.new.into oldest.Empty) c.self.view_is
    (λ look. (
      λ s told. missed_there s k (c.self.invariant.rests s told) c.self.invariant.room c.args.number c.look.new.into
          (look.1 s told) c.in-None.ensures,
      inr (look.0, within, look.1, c.in-None.ensures),
    )) c.in-Done.ensures
