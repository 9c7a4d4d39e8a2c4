-- A put by how it ends: sealed, or failed in one of its halves. Where there is room it isn't refused.

use Rattle.std.proofs.Common.{Err, inl, inr, ap, refl, subst}
use Rattle.disk_base.specs.declared.disk.DiskAnswer.TheVariants.{Failed}
use Rattle.gem_spool.proofs.Putting.{has_put, not_full, not_long, not_spent, put_done, stage_failed}
use Rattle.spool_slots.specs.Changes.{Stages}
use Rattle.spool_slots.specs.Spool.{SpoolView}
use Rattle.spool_slots.specs.declared.states.Staging.{Staging}
use Rattle.spool_slots.specs.declared.states.Staging.TheVariants as staging
use Rattle.gem_spool.proofs.spool.GemSpool.store.Goals as goal

pub returns-in-Ok-seal : goal.returns-in-Ok-seal
returns-in-Ok-seal g c =
    let m = c.args.message.now in
    let done = put_done g.D.Disk c.args.self.spool m.stream m.function m.body.now c.requires.fits c.in-Ok.staged
    c.in-Ok.ensures
    c.in-Ok-seal.spool c.in-Ok-seal.ensures in (
      done.0,
      done.1,
      refl,
      ap (λ (w : SpoolView g.row.D.Denot). record { spool = w; active = c.args.self.active }) done.2,
      done.3,
    )

pub returns-in-Err : goal.returns-in-Err
returns-in-Err g c =
    let m = c.args.message.now in (
      has_put g.D.Disk c.args.self.spool m.stream m.function m.body.now c.requires.fits c.in-Ok.staged
          c.in-Ok.ensures c.in-Err.spent.disk Failed c.in-Err.ensures.0,
      inr (c.in-Ok.staged, c.in-Ok.ensures, c.in-Err.ensures),
    )

pub returns-in-Err-Full : goal.returns-in-Err-Full
returns-in-Err-Full g c =
    let m = c.args.message.now in
    let full : Stages g.D.Disk c.args.self.spool m.stream m.function m.body.now
    (Err (staging.Full c.in-Err-Full.spool)) =
    subst (λ (e : Staging g.row.D.Denot). Stages g.D.Disk c.args.self.spool m.stream m.function m.body.now
    (Err e)) c.in-Err-Full.field-0-is
    c.in-Err-Full.ensures in
    absurd (not_full c.args.self.spool m.body.now c.requires.fits full.2)

pub returns-in-Err-TooLong : goal.returns-in-Err-TooLong
returns-in-Err-TooLong g c =
    let m = c.args.message.now in
    let long : Stages g.D.Disk c.args.self.spool m.stream m.function m.body.now
    (Err (staging.TooLong c.in-Err-TooLong.spool)) =
    subst (λ (e : Staging g.row.D.Denot). Stages g.D.Disk c.args.self.spool m.stream m.function m.body.now
    (Err e)) c.in-Err-TooLong.field-0-is
    c.in-Err-TooLong.ensures in
    absurd (not_long c.args.self.spool m.body.now c.requires.fits long.1)

pub returns-in-Err-NumbersSpent : goal.returns-in-Err-NumbersSpent
returns-in-Err-NumbersSpent g c =
    let m = c.args.message.now in
    let spent : Stages g.D.Disk c.args.self.spool m.stream m.function m.body.now
    (Err (staging.NumbersSpent c.in-Err-NumbersSpent.spool)) =
    subst (λ (e : Staging g.row.D.Denot). Stages g.D.Disk c.args.self.spool m.stream m.function m.body.now
    (Err e)) c.in-Err-NumbersSpent.field-0-is
    c.in-Err-NumbersSpent.ensures in
    absurd (not_spent c.args.self.spool m.body.now c.requires.fits spent.3)

pub returns-in-Err-Failed : goal.returns-in-Err-Failed
returns-in-Err-Failed g c =
    let m = c.args.message.now in
    let failed : Stages g.D.Disk c.args.self.spool m.stream m.function m.body.now
    (Err (staging.Failed c.in-Err-Failed.spent)) =
    subst (λ (e : Staging g.row.D.Denot). Stages g.D.Disk c.args.self.spool m.stream m.function m.body.now
    (Err e)) c.in-Err-Failed.field-0-is
    c.in-Err-Failed.ensures in (
      stage_failed g.D.Disk c.args.self.spool m.stream m.function m.body.now c.requires.fits c.in-Err-Failed.spent
          failed,
      inl failed,
    )
