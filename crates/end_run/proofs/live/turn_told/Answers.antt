-- A turn by what the wait has answered: where it leads, whatever comes later, and which fault was counted.

use Rattle.std.proofs.Common.{◌∷◌, inl, refl, subst, sym}
use Rattle.gl_base.specs.declared.link.LinkIn.TheVariants as link
use Rattle.end_run.specs.Commands.{as_it_comes}
use Rattle.end_run.specs.Counts.{counted}
use Rattle.end_run.specs.Scenes.{scene}
use Rattle.end_run.specs.Told.{Brings}
use Rattle.end_run.proofs.Counting.{counts_behind}
use Rattle.end_run.proofs.Beside.{left_told}
use Rattle.end_run.proofs.Turning.{if_on, turned_by}
use Rattle.end_run.proofs.live.turn_told.Goals as goal

pub returns-in-Char-clause-turned : goal.returns-in-Char-clause-turned
returns-in-Char-clause-turned g c =
    λ known.
    let e = g.E.LinkedEnd in
    let here = g.N.Teller.here c.wait.new.self in
    record {
      here = here;
      brings = subst (Brings (g.N.Teller.to_come c.args.told.now) here) (sym c.answer_told.ensures.coming)
          c.in-Char.ensures.came;
      turned = λ later.
          turned_by e.known e.left c.answer_told.new.end e.machine e.due as_it_comes c.args.side _
          (scene g.L.Link g.W.Sink c.answer_told.new.link c.answer_told.new.out (e.means c.answer_told.new.end)
          (e.room c.answer_told.new.end)) _ _ _
          (left_told (e.means c.args.end.now) (here ∷ later) c.args.moment.now)
          (left_told (e.means c.answer_told.new.end) later c.in-Char.now)
          c.live_until-until.result c.deadline.result (here ∷ later) refl (c.deadline.ensures known)
          c.live_until-until.ensures.until (link.Char c.in-Char.byte c.in-Char.now) c.answer_told.result (λ is. cc)
          c.in-Char.ensures.next c.in-Char.ensures.told c.in-Char.ensures.time c.in-Char.ensures.moment
          c.in-Char.ensures.cause (c.answer_told.ensures.runs known) refl (if_on c.answer_told.result _ refl);
    }

pub returns-in-Quiet-clause-turned : goal.returns-in-Quiet-clause-turned
returns-in-Quiet-clause-turned g c =
    λ known.
    let e = g.E.LinkedEnd in
    let here = g.N.Teller.here c.wait.new.self in
    record {
      here = here;
      brings = subst (Brings (g.N.Teller.to_come c.args.told.now) here) (sym c.answer_told-in-Quiet.ensures.coming)
          c.in-Quiet.ensures.came;
      turned = λ later.
          turned_by e.known e.left c.answer_told-in-Quiet.new.end e.machine e.due as_it_comes c.args.side _
          (scene g.L.Link g.W.Sink c.answer_told-in-Quiet.new.link c.answer_told-in-Quiet.new.out
          (e.means c.answer_told-in-Quiet.new.end) (e.room c.answer_told-in-Quiet.new.end)) _ _ _
          (left_told (e.means c.args.end.now) (here ∷ later) c.args.moment.now)
          (left_told (e.means c.answer_told-in-Quiet.new.end) later c.in-Quiet.now)
          c.live_until-until.result c.deadline.result (here ∷ later) refl (c.deadline.ensures known)
          c.live_until-until.ensures.until (link.Quiet c.in-Quiet.now) c.answer_told-in-Quiet.result (λ is. cc)
          c.in-Quiet.ensures.next c.in-Quiet.ensures.told c.in-Quiet.ensures.time c.in-Quiet.ensures.moment
          c.in-Quiet.ensures.cause (c.answer_told-in-Quiet.ensures.runs known) refl
          (if_on c.answer_told-in-Quiet.result _ refl);
    }

pub returns-in-Failed-clause-turned : goal.returns-in-Failed-clause-turned
returns-in-Failed-clause-turned g c =
    λ known.
    record {
      here = g.N.Teller.here c.wait.new.self;
      brings = c.in-Failed.ensures.came;
      turned = λ later. inl (
        record {
          is = refl;
          contents = c.in-Failed.ensures.told;
          moment = c.in-Failed.ensures.moment;
          fault = c.in-Failed.ensures.cause;
          received = refl;
          out = refl;
          end = refl;
          stop = refl;
        },
        known,
      );
    }

pub returns-in-Char-clause-counts : goal.returns-in-Char-clause-counts
returns-in-Char-clause-counts g c =
    let e = g.E.LinkedEnd in
    counts_behind (counted g.L.Link g.W.Sink c.args.link.now c.args.out.now (e.device c.args.end.now))
    (counted g.L.Link g.W.Sink c.wait.new.link c.args.out.now (e.device c.args.end.now))
    (counted g.L.Link g.W.Sink c.answer_told.new.link c.answer_told.new.out (e.device c.answer_told.new.end))
    c.answer_told.result (c.in-Char.ensures.cause.same, refl, refl) c.answer_told.ensures.counts

pub returns-in-Quiet-clause-counts : goal.returns-in-Quiet-clause-counts
returns-in-Quiet-clause-counts g c =
    let e = g.E.LinkedEnd in
    counts_behind (counted g.L.Link g.W.Sink c.args.link.now c.args.out.now (e.device c.args.end.now))
    (counted g.L.Link g.W.Sink c.wait.new.link c.args.out.now (e.device c.args.end.now))
    (counted g.L.Link g.W.Sink c.answer_told-in-Quiet.new.link c.answer_told-in-Quiet.new.out
    (e.device c.answer_told-in-Quiet.new.end))
    c.answer_told-in-Quiet.result (c.in-Quiet.ensures.cause.same, refl, refl) c.answer_told-in-Quiet.ensures.counts

pub returns-in-Failed-clause-counts : goal.returns-in-Failed-clause-counts
returns-in-Failed-clause-counts g c = (c.in-Failed.ensures.cause.rose, refl, refl)
