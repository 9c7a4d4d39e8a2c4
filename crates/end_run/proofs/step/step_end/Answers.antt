-- A step by how it ends: numbers spent, a full store, a fault of its disk, no memory, or its lines handed on.

use Rattle.std.proofs.Common.{Err, false, true, List, None, Some, refl, subst, sym}
use Rattle.std.specs.List.{flat_map}
use Rattle.gl_base.specs.Told.{sink_told}
use Rattle.message_end.specs.Ends.{Leaves, Uses, input_of}
use Rattle.message_end.specs.declared.end.Stop.{Stop}
use Rattle.message_end.specs.declared.end.Stop.TheVariants as stop
use Rattle.message_flow.specs.declared.step.Note.{Note}
use Rattle.trace_log.specs.Text.{note_line}
use Rattle.end_run.specs.declared.ending.Ending.{Ending}
use Rattle.end_run.specs.declared.ending.Ending.TheVariants as ending
use Rattle.end_run.specs.Calls.{EndsWith, PutsAsCan}
use Rattle.end_run.specs.Counts.{StepCounts, counted}
use Rattle.end_run.specs.Outcome.{Comes}
use Rattle.end_run.specs.Scenes.{Stays, scene}
use Rattle.end_run.specs.Steps.{replied, step_at}
use Rattle.end_run.proofs.Counting.{counts_behind, ends_count, puts_count}
use Rattle.end_run.proofs.Stepping.{gone_comes, lacks_memory, spent_runs, stopped_runs}
use Rattle.end_run.proofs.step.step_end.Goals as goal

pub returns-in-Err-NumbersSpent-clause-runs : goal.returns-in-Err-NumbersSpent-clause-runs
returns-in-Err-NumbersSpent-clause-runs g c =
    λ known.
    let e = g.E.LinkedEnd in
    let s = e.means c.args.end.now in
    let input = input_of c.args.input in
    let now = c.args.now in
    let spent =
    subst
    (λ (why : Stop). Leaves (e.machine.stops s input now) (e.machine.lacks_room s input now)
    (e.machine.act s input now)
    (e.means c.step.new.self) c.step.new.out (Err why))
    c.in-Err-NumbersSpent.field-0-is (c.in-Err-NumbersSpent.ensures.step known)
    in
    let left =
    subst
    (λ (why : Stop). Stays e.known e.left s input now c.step.new.out c.step.new.self (Err why))
    c.in-Err-NumbersSpent.field-0-is (c.in-Err-NumbersSpent.ensures.end known)
    in (
      Some (record { at = step_at c.args.side now input s; out = c.step.new.out; why = stop.NumbersSpent }),
      left,
      spent_runs c.notes_are_lines.ensures (step_at c.args.side now input s) (e.machine.stops s input now)
          (e.machine.asks s input now) (e.machine.lacks_room s input now) c.args.reply.now (e.machine.act s input now)
          c.step.new.out
          (scene g.L.Link g.W.Sink c.args.link.now c.args.out.now s (e.room c.args.end.now) None) refl
          (e.means c.step.new.self) (e.room c.step.new.self) _ _ false spent.1 spent.0
          c.end_with.result
          (subst
          (λ (ns : List Note). EndsWith (sink_told g.W.Sink c.args.out.now c.end_with.new.out)
          (flat_map (note_line now c.args.side) ns) ending.NumbersSpent c.end_with.result)
          c.as_slice.ensures c.end_with.ensures),
    )

pub returns-in-Err-Full-clause-runs : goal.returns-in-Err-Full-clause-runs
returns-in-Err-Full-clause-runs g c =
    λ known.
    let e = g.E.LinkedEnd in
    let s = e.means c.args.end.now in
    let input = input_of c.args.input in
    let now = c.args.now in
    let spent =
    subst
    (λ (why : Stop). Leaves (e.machine.stops s input now) (e.machine.lacks_room s input now)
    (e.machine.act s input now)
    (e.means c.step.new.self) c.step.new.out (Err why))
    c.in-Err-Full.field-0-is (c.in-Err-Full.ensures.step known)
    in
    let left =
    subst
    (λ (why : Stop). Stays e.known e.left s input now c.step.new.out c.step.new.self (Err why))
    c.in-Err-Full.field-0-is (c.in-Err-Full.ensures.end known)
    in (
      Some (record { at = step_at c.args.side now input s; out = c.step.new.out; why = stop.Full }),
      left,
      spent_runs c.notes_are_lines.ensures (step_at c.args.side now input s) (e.machine.stops s input now)
          (e.machine.asks s input now) (e.machine.lacks_room s input now) c.args.reply.now (e.machine.act s input now)
          c.step.new.out
          (scene g.L.Link g.W.Sink c.args.link.now c.args.out.now s (e.room c.args.end.now) None) refl
          (e.means c.step.new.self) (e.room c.step.new.self) _ _ true spent.1 spent.0
          c.end_with-in-Err-Full.result
          (subst
          (λ (ns : List Note). EndsWith (sink_told g.W.Sink c.args.out.now c.end_with-in-Err-Full.new.out)
          (flat_map (note_line now c.args.side) ns) ending.Full c.end_with-in-Err-Full.result)
          c.as_slice-in-Err-Full.ensures c.end_with-in-Err-Full.ensures),
    )

pub returns-in-Err-DiskFailed-clause-runs : goal.returns-in-Err-DiskFailed-clause-runs
returns-in-Err-DiskFailed-clause-runs g c =
    λ known.
    let e = g.E.LinkedEnd in
    let s = e.means c.args.end.now in
    let input = input_of c.args.input in
    let now = c.args.now in
    let halt =
    subst
    (λ (why : Stop). Leaves (e.machine.stops s input now) (e.machine.lacks_room s input now)
    (e.machine.act s input now)
    (e.means c.step.new.self) c.step.new.out (Err why))
    c.in-Err-DiskFailed.field-0-is (c.in-Err-DiskFailed.ensures.step known)
    in
    let left =
    subst
    (λ (why : Stop). Stays e.known e.left s input now c.step.new.out c.step.new.self (Err why))
    c.in-Err-DiskFailed.field-0-is (c.in-Err-DiskFailed.ensures.end known)
    in
    let short =
    subst
    (λ (why : Stop). Uses (e.room c.args.end.now) (e.machine.asks s input now) (e.room c.step.new.self)
    (Err why))
    c.in-Err-DiskFailed.field-0-is (c.in-Err-DiskFailed.ensures.room known)
    in
    let a = scene g.L.Link g.W.Sink c.args.link.now c.args.out.now s (e.room c.args.end.now) None in
    subst
    (λ (how : Ending). Comes e.known e.left c.step.new.self a
    (scene g.L.Link g.W.Sink c.args.link.now c.put_stopped.new.out (e.means c.step.new.self) (e.room c.step.new.self))
    (replied e.machine c.args.side c.args.reply.now now input s) (Some how))
    (sym c.put_stopped.ensures.is) (
      Some (record { at = step_at c.args.side now input s; out = c.step.new.out; why = stop.DiskFailed }),
      left,
      stopped_runs c.notes_are_lines.ensures (step_at c.args.side now input s) (e.machine.stops s input now)
          (e.machine.asks s input now) (e.machine.lacks_room s input now) c.args.reply.now (e.machine.act s input now)
          c.step.new.out a refl (e.means c.step.new.self)
          (e.room c.step.new.self) _ _ halt short
          (subst
          (λ (ns : List Note). PutsAsCan (sink_told g.W.Sink c.args.out.now c.put_stopped.new.out)
          (flat_map (note_line now c.args.side) ns))
          c.as_slice-in-Err-DiskFailed.ensures c.put_stopped.ensures.put),
    )

pub returns-in-Err-NoMemory-clause-runs : goal.returns-in-Err-NoMemory-clause-runs
returns-in-Err-NoMemory-clause-runs g c =
    λ known.
    let e = g.E.LinkedEnd in
    let s = e.means c.args.end.now in
    let input = input_of c.args.input in
    let now = c.args.now in
    let left =
    subst
    (λ (why : Stop). Stays e.known e.left s input now c.step.new.out c.step.new.self (Err why))
    c.in-Err-NoMemory.field-0-is (c.in-Err-NoMemory.ensures.end known)
    in (
      Some (record { at = step_at c.args.side now input s; out = c.step.new.out; why = stop.NoMemory }),
      left,
      lacks_memory c.notes_are_lines.ensures (step_at c.args.side now input s) (e.machine.stops s input now)
          (e.machine.asks s input now) (e.machine.lacks_room s input now) c.args.reply.now (e.machine.act s input now)
          c.step.new.out
          (scene g.L.Link g.W.Sink c.args.link.now c.args.out.now s (e.room c.args.end.now) None) refl
          (e.means c.step.new.self) (e.room c.step.new.self),
    )

pub returns-clause-runs : goal.returns-clause-runs
returns-clause-runs g c =
    λ known.
    let e = g.E.LinkedEnd in
    let s = e.means c.args.end.now in
    let input = input_of c.args.input in
    let now = c.args.now in
    gone_comes c.notes_are_lines.ensures (step_at c.args.side now input s) (e.machine.stops s input now)
    (e.machine.asks s input now) (e.machine.lacks_room s input now) c.args.reply.now (e.machine.act s input now)
    c.step.new.out e.known e.left c.step.new.self
    (scene g.L.Link g.W.Sink c.args.link.now c.args.out.now s (e.room c.args.end.now) None)
    (scene g.L.Link g.W.Sink c.hand_on.new.link c.hand_on.new.out (e.means c.step.new.self) (e.room c.step.new.self))
    (e.means c.step.new.self) (e.room c.step.new.self) refl (c.in-Ok.ensures.step known) (c.in-Ok.ensures.room known)
    (c.in-Ok.ensures.end known) c.hand_on.result (c.hand_on.ensures.does (e.means c.step.new.self)
    (e.room c.step.new.self) None)

pub returns-in-Err-NumbersSpent-clause-counts : goal.returns-in-Err-NumbersSpent-clause-counts
returns-in-Err-NumbersSpent-clause-counts g c =
    let e = g.E.LinkedEnd in
    let disk = e.device c.step.new.self in
    let same =
    subst (λ (why : Stop). StepCounts (e.device c.args.end.now) disk (Err why)) c.in-Err-NumbersSpent.field-0-is
    c.in-Err-NumbersSpent.ensures.device
    in
    counts_behind (counted g.L.Link g.W.Sink c.args.link.now c.args.out.now (e.device c.args.end.now))
    (counted g.L.Link g.W.Sink c.args.link.now c.args.out.now disk)
    (counted g.L.Link g.W.Sink c.args.link.now c.end_with.new.out disk) (Some c.end_with.result) (refl, refl, same)
    (ends_count (g.L.Link.health c.args.link.now).faults disk (sink_told g.W.Sink c.args.out.now c.end_with.new.out) _
    ending.NumbersSpent c.end_with.result c.end_with.ensures)

pub returns-in-Err-Full-clause-counts : goal.returns-in-Err-Full-clause-counts
returns-in-Err-Full-clause-counts g c =
    let e = g.E.LinkedEnd in
    let disk = e.device c.step.new.self in
    let same =
    subst (λ (why : Stop). StepCounts (e.device c.args.end.now) disk (Err why)) c.in-Err-Full.field-0-is
    c.in-Err-Full.ensures.device
    in
    counts_behind (counted g.L.Link g.W.Sink c.args.link.now c.args.out.now (e.device c.args.end.now))
    (counted g.L.Link g.W.Sink c.args.link.now c.args.out.now disk)
    (counted g.L.Link g.W.Sink c.args.link.now c.end_with-in-Err-Full.new.out disk) (Some c.end_with-in-Err-Full.result) (refl, refl, same)
    (ends_count (g.L.Link.health c.args.link.now).faults disk (sink_told g.W.Sink c.args.out.now c.end_with-in-Err-Full.new.out) _
    ending.Full c.end_with-in-Err-Full.result c.end_with-in-Err-Full.ensures)

pub returns-in-Err-DiskFailed-clause-counts : goal.returns-in-Err-DiskFailed-clause-counts
returns-in-Err-DiskFailed-clause-counts g c =
    let e = g.E.LinkedEnd in
    puts_count (g.L.Link.health c.args.link.now).faults (e.device c.args.end.now)
    (sink_told g.W.Sink c.args.out.now c.put_stopped.new.out) (e.device c.step.new.self) _ c.put_stopped.result
    c.put_stopped.ensures.is
    (subst (λ (why : Stop). StepCounts (e.device c.args.end.now) (e.device c.step.new.self) (Err why))
    c.in-Err-DiskFailed.field-0-is c.in-Err-DiskFailed.ensures.device)
    c.put_stopped.ensures.put

pub returns-in-Err-NoMemory-clause-counts : goal.returns-in-Err-NoMemory-clause-counts
returns-in-Err-NoMemory-clause-counts g c =
    let e = g.E.LinkedEnd in (
      refl,
      refl,
      subst (λ (why : Stop). StepCounts (e.device c.args.end.now) (e.device c.step.new.self) (Err why))
          c.in-Err-NoMemory.field-0-is c.in-Err-NoMemory.ensures.device,
    )

pub returns-clause-counts : goal.returns-clause-counts
returns-clause-counts g c =
    let e = g.E.LinkedEnd in
    counts_behind (counted g.L.Link g.W.Sink c.args.link.now c.args.out.now (e.device c.args.end.now))
    (counted g.L.Link g.W.Sink c.args.link.now c.args.out.now (e.device c.step.new.self))
    (counted g.L.Link g.W.Sink c.hand_on.new.link c.hand_on.new.out (e.device c.step.new.self)) c.hand_on.result
    (refl, refl, c.in-Ok.ensures.device) (c.hand_on.ensures.counts (e.device c.step.new.self))
