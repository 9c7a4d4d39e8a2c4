-- The message stands in its slots, which are closed, or that failed: the list is as it was.

use Rattle.std.proofs.Common.{ℕ, length, Ok, sym, subst, arith}
use Rattle.disk_base.specs.declared.disk.DiskAnswer.TheVariants.{Done, Failed}
use Rattle.spool_file.proofs.BodySizes.{within_all, within_body}
use Rattle.spool_slots.specs.Calls.{part_calls}
use Rattle.spool_slots.specs.Changes.{HasRoomFor, HasStaged, LosesStage, Stages}
use Rattle.spool_slots.specs.Put.{HasPut}
use Rattle.spool_slots.specs.Spool.{IsStagedSpool, SpoolView, StagedView, in_hand, staged}
use Rattle.spool_slots.proofs.Losing.{spool_done, stage_done, stage_failed, stage_lost}
use Rattle.spool_slots.proofs.spool.Spool.stage.Goals as goal

pub put_parts-requires-clause-body : goal.put_parts-requires-clause-body
put_parts-requires-clause-body g c =
    let k = c.self.inside.known in
    within_body k.version k.slots (length c.args.message.now.body.now) c.in-Takes.ensures.0

pub put_parts-requires-clause-most : goal.put_parts-requires-clause-most
put_parts-requires-clause-most g c =
    let k = c.self.inside.known in
    let most = within_all k.version k.slots (length c.args.message.now.body.now) c.in-Takes.ensures.0 in
    omega (arith, most, c.in-Takes.ensures.1.0)

pub with_pieces-requires : goal.with_pieces-requires
with_pieces-requires g c =
    let k = c.self.inside.known in
    let d = c.self.inside.disk in
    let d' = c.put_parts.new.disk in
    let m = c.args.message.now in
    let fit = c.in-Takes.ensures in
    let room : HasRoomFor (in_hand d k) (length m.body.now) = record {
      from = let from = c.self.invariant.from in omega (arith, from);
      short = fit.0;
      free = fit.1.1;
      number = fit.1.2;
    } in
    let put = subst (λ (n : ℕ). HasPut g.D.Disk d d' k.slots k.next n
    (part_calls k.slots k.next m.stream m.function m.body.now) Done) fit.1.0 c.in-Done.ensures in
    subst (λ (n : ℕ). IsStagedSpool g.D.Disk (staged d' k n)) (sym fit.1.0)
    (spool_done g.D.Disk d d' k c.self.invariant m.stream m.function m.body.now room c.requires.stream
    c.requires.function put)

pub returns-in-Done : goal.returns-in-Done
returns-in-Done g c =
    let k = c.self.inside.known in
    let d = c.self.inside.disk in
    let d' = c.put_parts.new.disk in
    let m = c.args.message.now in
    let fit = c.in-Takes.ensures in
    let room : HasRoomFor (in_hand d k) (length m.body.now) = record {
      from = let from = c.self.invariant.from in omega (arith, from);
      short = fit.0;
      free = fit.1.1;
      number = fit.1.2;
    } in
    let put = subst (λ (n : ℕ). HasPut g.D.Disk d d' k.slots k.next n
    (part_calls k.slots k.next m.stream m.function m.body.now) Done) fit.1.0 c.in-Done.ensures in
    subst (λ (w : StagedView g.row.D.Denot). Stages g.D.Disk c.args.self m.stream m.function m.body.now (Ok w))
    (sym c.with_pieces.ensures)
    (subst (λ (v : SpoolView g.row.D.Denot). Stages g.D.Disk v m.stream m.function m.body.now
    (Ok (staged d' k c.in-Takes.size))) c.self.view_is
    (subst (λ (n : ℕ). Stages g.D.Disk (in_hand d k) m.stream m.function m.body.now (Ok (staged d' k n))) (sym fit.1.0)
    (stage_done g.D.Disk d d' k c.self.invariant m.stream m.function m.body.now room c.requires.stream
    c.requires.function put)))

pub returns-in-Failed : goal.returns-in-Failed
returns-in-Failed g c =
    let k = c.self.inside.known in
    let d = c.self.inside.disk in
    let d' = c.put_parts.new.disk in
    let m = c.args.message.now in
    let fit = c.in-Takes.ensures in
    let room : HasRoomFor (in_hand d k) (length m.body.now) = record {
      from = let from = c.self.invariant.from in omega (arith, from);
      short = fit.0;
      free = fit.1.1;
      number = fit.1.2;
    } in
    let put = subst (λ (n : ℕ). HasPut g.D.Disk d d' k.slots k.next n
    (part_calls k.slots k.next m.stream m.function m.body.now) Failed) fit.1.0 c.in-Failed.ensures in
    subst (λ (v : SpoolView g.row.D.Denot). HasStaged g.D.Disk v m.stream m.function m.body.now d' Failed
    × LosesStage g.D.Disk v m.stream m.function m.body.now d') c.self.view_is (
      stage_failed g.D.Disk d d' k c.self.invariant m.stream m.function m.body.now room put,
      stage_lost g.D.Disk d d' k c.self.invariant m.stream m.function m.body.now room put,
    )
