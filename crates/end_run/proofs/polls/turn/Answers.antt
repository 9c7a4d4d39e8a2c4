-- A turn by what the poll has answered: where it leads, how many lines were given, and which fault was counted.

use Rattle.std.proofs.Common.{None, Some, refl}
use Rattle.gl_base.specs.declared.link.LinkIn.TheVariants as link
use Rattle.end_run.specs.Calls.{left_of}
use Rattle.end_run.specs.Scenes.{scene}
use Rattle.end_run.specs.Script.{by_script}
use Rattle.end_run.proofs.Turning.{closed_runs, given_within, if_on, past_due, turned_by}
use Rattle.end_run.specs.Counts.{counted}
use Rattle.gl_base.specs.Told.{sink_told}
use Rattle.end_run.specs.declared.ending.Ending.TheVariants as ending
use Rattle.end_run.proofs.Counting.{counts_behind, ends_count}
use Rattle.end_run.proofs.polls.turn.Goals as goal

pub returns-in-Char-clause-turned : goal.returns-in-Char-clause-turned
returns-in-Char-clause-turned g c =
    λ known.
    let e = g.E.LinkedEnd in
    turned_by e.known e.left c.answer.new.end e.machine e.due (by_script e.told) c.args.side _
    (scene g.L.Link g.W.Sink c.answer.new.link c.answer.new.out (e.means c.answer.new.end) (e.room c.answer.new.end))
    _ _ _
    (left_of (e.means c.args.end.now) c.args.lines.now c.args.place.now)
    (left_of (e.means c.answer.new.end) c.args.lines.now c.answer.new.place) c.wait_until-until.result c.deadline.result
    c.split_at.result.1.now c.split_at.ensures.back (c.deadline.ensures known) c.wait_until-until.ensures.until
    (link.Char c.in-Char.byte c.in-Char.now) c.answer.result (λ is. cc) c.in-Char.ensures.next c.in-Char.ensures.told
    c.in-Char.ensures.time c.in-Char.ensures.moment c.in-Char.ensures.cause (c.answer.ensures.runs known)
    c.answer.ensures.now
    (if_on c.answer.result _
    (past_due c.args.lines.now c.split_at.result.1.now c.args.place.now.given c.answer.new.place.given c.in-Char.now
    c.answer.new.place.now
    c.split_at.ensures.back c.answer.ensures.now c.answer.ensures.given))

pub returns-in-Quiet-clause-turned : goal.returns-in-Quiet-clause-turned
returns-in-Quiet-clause-turned g c =
    λ known.
    let e = g.E.LinkedEnd in
    turned_by e.known e.left c.answer-in-Quiet.new.end e.machine e.due (by_script e.told) c.args.side _
    (scene g.L.Link g.W.Sink c.answer-in-Quiet.new.link c.answer-in-Quiet.new.out (e.means c.answer-in-Quiet.new.end)
    (e.room c.answer-in-Quiet.new.end)) _ _ _
    (left_of (e.means c.args.end.now) c.args.lines.now c.args.place.now)
    (left_of (e.means c.answer-in-Quiet.new.end) c.args.lines.now c.answer-in-Quiet.new.place) c.wait_until-until.result
    c.deadline.result c.split_at.result.1.now c.split_at.ensures.back (c.deadline.ensures known)
    c.wait_until-until.ensures.until (link.Quiet c.in-Quiet.now) c.answer-in-Quiet.result
    (λ is. cc) c.in-Quiet.ensures.next
    c.in-Quiet.ensures.told c.in-Quiet.ensures.time c.in-Quiet.ensures.moment c.in-Quiet.ensures.cause
    (c.answer-in-Quiet.ensures.runs known) c.answer-in-Quiet.ensures.now
    (if_on c.answer-in-Quiet.result _
    (past_due c.args.lines.now c.split_at.result.1.now c.args.place.now.given c.answer-in-Quiet.new.place.given
    c.in-Quiet.now
    c.answer-in-Quiet.new.place.now c.split_at.ensures.back c.answer-in-Quiet.ensures.now
    c.answer-in-Quiet.ensures.given))

pub returns-in-Closed-clause-turned : goal.returns-in-Closed-clause-turned
returns-in-Closed-clause-turned g c =
    λ known.
    let e = g.E.LinkedEnd in
    let here = left_of (e.means c.args.end.now) c.args.lines.now c.args.place.now in
    turned_by e.known e.left c.args.end.now e.machine e.due (by_script e.told) c.args.side _
    (scene g.L.Link g.W.Sink c.poll.new.self c.close.new.out (e.means c.args.end.now) (e.room c.args.end.now)) _ _ _
    here here c.wait_until-until.result c.deadline.result
    c.split_at.result.1.now c.split_at.ensures.back (c.deadline.ensures known) c.wait_until-until.ensures.until
    link.Closed (Some c.close.result) (λ is. cc) c.in-Closed.ensures.next c.in-Closed.ensures.told
    c.in-Closed.ensures.time
    c.in-Closed.ensures.moment c.in-Closed.ensures.cause (
      None,
      known,
      closed_runs _ _ _ c.args.side c.args.place.now.now (e.means c.args.end.now) c.close.result c.close.ensures,
    )
    refl tt

pub returns-in-Char-clause-given : goal.returns-in-Char-clause-given
returns-in-Char-clause-given g c =
    given_within c.args.lines.now c.split_at.result.1.now c.args.place.now.given c.answer.new.place.given c.in-Char.now
    c.split_at.ensures.back c.requires.given c.answer.ensures.given

pub returns-in-Quiet-clause-given : goal.returns-in-Quiet-clause-given
returns-in-Quiet-clause-given g c =
    given_within c.args.lines.now c.split_at.result.1.now c.args.place.now.given c.answer-in-Quiet.new.place.given
    c.in-Quiet.now c.split_at.ensures.back c.requires.given c.answer-in-Quiet.ensures.given

pub returns-in-Char-clause-counts : goal.returns-in-Char-clause-counts
returns-in-Char-clause-counts g c =
    let e = g.E.LinkedEnd in
    counts_behind (counted g.L.Link g.W.Sink c.args.link.now c.args.out.now (e.device c.args.end.now))
    (counted g.L.Link g.W.Sink c.poll.new.self c.args.out.now (e.device c.args.end.now))
    (counted g.L.Link g.W.Sink c.answer.new.link c.answer.new.out (e.device c.answer.new.end)) c.answer.result
    (c.in-Char.ensures.cause.same, refl, refl) c.answer.ensures.counts

pub returns-in-Quiet-clause-counts : goal.returns-in-Quiet-clause-counts
returns-in-Quiet-clause-counts g c =
    let e = g.E.LinkedEnd in
    counts_behind (counted g.L.Link g.W.Sink c.args.link.now c.args.out.now (e.device c.args.end.now))
    (counted g.L.Link g.W.Sink c.poll.new.self c.args.out.now (e.device c.args.end.now))
    (counted g.L.Link g.W.Sink c.answer-in-Quiet.new.link c.answer-in-Quiet.new.out
    (e.device c.answer-in-Quiet.new.end)) c.answer-in-Quiet.result
    (c.in-Quiet.ensures.cause.same, refl, refl) c.answer-in-Quiet.ensures.counts

pub returns-in-Closed-clause-counts : goal.returns-in-Closed-clause-counts
returns-in-Closed-clause-counts g c =
    let disk = g.E.LinkedEnd.device c.args.end.now in
    counts_behind (counted g.L.Link g.W.Sink c.args.link.now c.args.out.now disk)
    (counted g.L.Link g.W.Sink c.poll.new.self c.args.out.now disk)
    (counted g.L.Link g.W.Sink c.poll.new.self c.close.new.out disk) (Some c.close.result)
    (c.in-Closed.ensures.cause.same, refl, refl)
    (ends_count (g.L.Link.health c.poll.new.self).faults disk (sink_told g.W.Sink c.args.out.now c.close.new.out) _
    ending.Closed c.close.result c.close.ensures)

pub returns-in-Failed-clause-counts : goal.returns-in-Failed-clause-counts
returns-in-Failed-clause-counts g c = (c.in-Failed.ensures.cause.rose, refl, refl)
