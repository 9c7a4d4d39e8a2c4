-- That the acts of a run are a course of its end, act by act.
use Rattle.std.proofs.Common.{◌≡◌, refl, sym, ap, subst, ◌∙◌, zero, suc, ℕ, Bool, true, false, List, [], ◌∷◌, ◌++◌, append_assoc, append-nil, Option, Some, None}
use Rattle.gl_base.specs.Events.{moment_after}
use Rattle.gl_base.specs.declared.link.LinkIn.{LinkIn}
use Rattle.gl_base.specs.declared.link.LinkIn.TheVariants as link
use Rattle.gl_base.specs.declared.side.Side.{Side}
use Rattle.message_end.specs.Core.{Step, Went}
use Rattle.message_end.specs.Core.Went.{Goes, Spent}
use Rattle.message_end.specs.Course.{Course, Meeting, course_of, noted_behind, notes_of, went_on, with_meeting}
use Rattle.message_end.specs.Course.Course.{Reached, Stopped}
use Rattle.message_end.specs.Course.Meeting.{Acts, Writes as WritesDown}
use Rattle.message_end.specs.Ends.{Asked, Input, Machine}
use Rattle.message_end.specs.Ends.Input.{Char, Command, Time}
use Rattle.message_end.proofs.Growing.{behind-both}
use Rattle.trace_log.specs.Log.{Entry, Happening}
use Rattle.end_pair.specs.Noted.{noted_by}
use Rattle.end_run.specs.Acts.{log_of}
use Rattle.end_run.specs.Commands.{Commands, Telling}
use Rattle.end_run.specs.Commands.Telling.{IsOther, Says, Stops, Tells}
use Rattle.end_run.specs.Pieces.{Piece, and_more, and_on, stops}
use Rattle.end_run.specs.Run.{begun, closed, commanded_run, polled, turned, upon}
use Rattle.end_run.specs.Steps.{all_told, answered, entries_at, made, replied, started, step_at, stepped, tells}
use Rattle.end_run.specs.declared.ending.Ending.{Ending}
use Rattle.end_run.specs.declared.ending.Ending.TheVariants as ending
use Rattle.link_courses.specs.Courses.{AreNotesOf, ComesTo, IsCourse, RunsAreCourses, met_by, with_closing}
use Rattle.link_courses.proofs.Lists.{at-noted, at-own, log-both, met-both}

module _ {S C : Type 0} (machine : Machine S C) (start : Step S Happening) (side : Side) where
  -- ---- how far a run has come

  -- with this log, and these meetings
  record IsSo (ended : Option Ending) (s : S) (log : List Entry) (met : List (Meeting C)) : Type 0 where
    notes : AreNotesOf side log
    noted : noted_by side log ≡ with_closing ended (notes_of (course_of start machine met))
    comes : ComesTo ended s (course_of start machine met)

  -- behind a piece, which began there
  abbrev Behind : List Entry → List (Meeting C) → Piece S C → Type 0
  Behind log met piece = IsSo piece.ended piece.end (log_of piece.acts ++ log) (met_by piece.acts ++ met)

  -- it is on its way
  on-way :
      (s : S) (log : List Entry) (met : List (Meeting C)) (notes : List Happening) → AreNotesOf side log
      → noted_by side log ≡ notes → course_of start machine met ≡ Reached s notes → IsSo None s log met
  on-way s log met notes own noted is = record {
    notes = own;
    noted = noted ∙ sym (ap (λ (c : Course S). notes_of c) is);
    comes = is ∙ ap (λ (ns : List Happening). Reached s ns) (sym (ap (λ (c : Course S). notes_of c) is));
  }

  reached : (s : S) (log : List Entry) (met : List (Meeting C)) → IsSo None s log met
      → course_of start machine met ≡ Reached s (noted_by side log)
  reached s log met so = so.comes ∙ ap (λ (ns : List Happening). Reached s ns) (sym so.noted)

  -- a piece, and more of the run behind it
  more-so :
      (log : List Entry) (met : List (Meeting C)) (first : Piece S C) (more : S → Piece S C) → Behind log met first
      → ((s : S) (l : List Entry) (m : List (Meeting C)) → IsSo None s l m → Behind l m (more s))
      → Behind log met (and_more first more)
  more-so log met first more one next = go first.ended refl
    where
      go : (ended : Option Ending) → first.ended ≡ ended → Behind log met (and_on ended first more)
      go (Some how) is = one
      go None is =
          let rest = more first.end in
          let so = next first.end (log_of first.acts ++ log) (met_by first.acts ++ met)
          (subst (λ (e : Option Ending). IsSo e first.end (log_of first.acts ++ log) (met_by first.acts ++ met)) is one)
          in
          let logs : log_of rest.acts ++ (log_of first.acts ++ log) ≡ log_of (first.acts ++ rest.acts) ++ log =
          sym (append_assoc (log_of rest.acts) (log_of first.acts) log)
          ∙ ap (λ (l : List Entry). l ++ log) (sym (log-both first.acts rest.acts))
          in
          let mets : met_by rest.acts ++ (met_by first.acts ++ met) ≡ met_by (first.acts ++ rest.acts) ++ met =
          sym (append_assoc (met_by rest.acts) (met_by first.acts) met)
          ∙ ap (λ (m : List (Meeting C)). m ++ met) (sym (met-both first.acts rest.acts))
          in
          subst (λ (m : List (Meeting C)). IsSo rest.ended rest.end (log_of (first.acts ++ rest.acts) ++ log) m) mets
          (subst (λ (l : List Entry). IsSo rest.ended rest.end l (met_by rest.acts ++ (met_by first.acts ++ met)))
          logs so)

  -- ---- a step

  -- its lines stand alone in the log
  one-log : (entries log : List Entry) → (entries ++ []) ++ log ≡ entries ++ log
  one-log entries log = ap (λ (l : List Entry). l ++ log) (append-nil entries)

  -- it goes on with these notes and characters
  goes-so :
      (now : ℕ) (input : Input C) (next : S) (notes : List Happening) (log : List Entry) (met : List (Meeting C))
      → AreNotesOf side log
      → course_of start machine (Acts input now ∷ met) ≡ Reached next (noted_behind notes (noted_by side log))
      → (s : S) (stops : List (List Happening)) (asked : Asked) (lacks_room : Bool) (reply written : List ℕ)
      → Behind log met
      (made (step_at side now input s) stops asked lacks_room reply
      (Goes (record { next = next; notes = notes; written = written })))
  goes-so now input next notes log met own is s stops asked lacks_room reply [] =
      subst (λ (l : List Entry). IsSo None next l (Acts input now ∷ met))
      (sym (one-log (entries_at side now (notes ++ [])) log))
      (on-way next (entries_at side now (notes ++ []) ++ log) (Acts input now ∷ met)
      (noted_behind notes (noted_by side log)) (at-own now side (notes ++ []) log own)
      (at-noted now side (notes ++ []) log
      ∙ ap (λ (ns : List Happening). noted_behind ns (noted_by side log)) (append-nil notes))
      is)
  goes-so now input next notes log met own is s stops asked lacks_room reply (byte ∷ bytes) =
      let written = Happening.Wrote (byte ∷ bytes) ∷ [] in
      subst (λ (l : List Entry). IsSo None next l (WritesDown (byte ∷ bytes) ∷ Acts input now ∷ met))
      (sym (one-log (entries_at side now (notes ++ written)) log))
      (on-way next (entries_at side now (notes ++ written) ++ log)
      (WritesDown (byte ∷ bytes) ∷ Acts input now ∷ met)
      (Happening.Wrote (byte ∷ bytes) ∷ noted_behind notes (noted_by side log))
      (at-own now side (notes ++ written) log own)
      (at-noted now side (notes ++ written) log ∙ behind-both notes written (noted_by side log))
      (ap (λ (c : Course S). with_meeting machine (WritesDown (byte ∷ bytes)) c) is))

  -- it ends early
  spent-so :
      (now : ℕ) (input : Input C) (step : Step S Happening) (log : List Entry) (met : List (Meeting C))
      → AreNotesOf side log
      → course_of start machine (Acts input now ∷ met) ≡ Stopped (noted_behind step.notes (noted_by side log))
      → (s : S) (stops : List (List Happening)) (asked : Asked) (lacks_room : Bool) (reply : List ℕ)
      → Behind log met (made (step_at side now input s) stops asked lacks_room reply (Spent step))
  spent-so now input step log met own is s stops asked lacks_room reply = go lacks_room
    where
      notes : notes_of (course_of start machine (Acts input now ∷ met))
          ≡ noted_behind step.notes (noted_by side log)
      notes = ap (λ (c : Course S). notes_of c) is

      noted : noted_by side (entries_at side now step.notes ++ log)
          ≡ notes_of (course_of start machine (Acts input now ∷ met))
      noted = at-noted now side step.notes log ∙ sym notes

      stopped : course_of start machine (Acts input now ∷ met)
          ≡ Stopped (notes_of (course_of start machine (Acts input now ∷ met)))
      stopped = is ∙ ap (λ (ns : List Happening). Stopped ns) (sym notes)

      so : (ended : Ending) → IsSo (Some ended) step.next (entries_at side now step.notes ++ log) (Acts input now ∷ met)
          → IsSo (Some ended) step.next ((entries_at side now step.notes ++ []) ++ log) (Acts input now ∷ met)
      so ended is_so =
          subst (λ (l : List Entry). IsSo (Some ended) step.next l (Acts input now ∷ met))
          (sym (one-log (entries_at side now step.notes) log)) is_so

      go : (lacks_room : Bool)
          → Behind log met (made (step_at side now input s) stops asked lacks_room reply (Spent step))
      go true =
          so ending.Full (record { notes = at-own now side step.notes log own; noted = noted; comes = stopped })
      go false =
          so ending.NumbersSpent (record { notes = at-own now side step.notes log own; noted = noted; comes = stopped })

  replied-so :
      (reply : List ℕ) (now : ℕ) (input : Input C) (s : S) (log : List Entry) (met : List (Meeting C))
      → IsSo None s log met → Behind log met (replied machine side reply now input s)
  replied-so reply now input s log met so = go (machine.act s input now) refl
    where
      acted : (went : Went S Happening) → machine.act s input now ≡ went
          → course_of start machine (Acts input now ∷ met) ≡ went_on went (noted_by side log)
      acted went is =
          ap (λ (c : Course S). with_meeting machine (Acts input now) c) (reached s log met so)
          ∙ ap (λ (w : Went S Happening). went_on w (noted_by side log)) is

      go : (went : Went S Happening) → machine.act s input now ≡ went
          → Behind log met
          (made (step_at side now input s) (machine.stops s input now) (machine.asks s input now)
          (machine.lacks_room s input now) reply went)
      go (Goes step) is =
          goes-so now input step.next step.notes log met so.notes (acted (Goes step) is) s (machine.stops s input now)
          (machine.asks s input now) (machine.lacks_room s input now) reply step.written
      go (Spent step) is =
          spent-so now input step log met so.notes (acted (Spent step) is) s (machine.stops s input now)
          (machine.asks s input now) (machine.lacks_room s input now) reply

  step-so :
      (now : ℕ) (input : Input C) (s : S) (log : List Entry) (met : List (Meeting C)) → IsSo None s log met
      → Behind log met (stepped machine side now input s)
  step-so = replied-so []

  -- ---- what the end is told, and an answer

  tell-so :
      (now : ℕ) (telling : Telling C) (s : S) (log : List Entry) (met : List (Meeting C)) → IsSo None s log met
      → Behind log met (tells machine side now telling s)
  tell-so now (Tells command reply) s log met so = replied-so reply now (Command command) s log met so
  tell-so now (Says text) s log met so = so
  tell-so now Stops s log met so = record { notes = so.notes; noted = so.noted; comes = so.comes }
  tell-so now IsOther s log met so = so

  told-so :
      (now : ℕ) (tellings : List (Telling C)) (s : S) (log : List Entry) (met : List (Meeting C))
      → IsSo None s log met → Behind log met (all_told machine side now tellings s)
  told-so now [] s log met so = so
  told-so now (telling ∷ tellings) s log met so =
      more-so log met (tells machine side now telling s) (all_told machine side now tellings)
      (tell-so now telling s log met so) (told-so now tellings)

  answered-so :
      (now : ℕ) (tellings : List (Telling C)) (input : Input C) (s : S) (log : List Entry) (met : List (Meeting C))
      → IsSo None s log met → Behind log met (answered machine side now tellings input s)
  answered-so now tellings input s log met so =
      more-so log met (all_told machine side now tellings s) (stepped machine side now input)
      (told-so now tellings s log met so) (step-so now input)

  module _ {Q : Type 0} (due : S → Option ℕ) (commands : Commands Q C) where
    closed-so : (now : ℕ) (s : S) (log : List Entry) (met : List (Meeting C)) → IsSo None s log met
        → Behind log met (closed side now s)
    closed-so now s log met so = record {
      notes = at-own now side (Happening.Closed ∷ []) log so.notes;
      noted =
          at-noted now side (Happening.Closed ∷ []) log
          ∙ ap (λ (ns : List Happening). Happening.Closed ∷ ns) so.noted;
      comes = so.comes;
    }

    upon-so :
        (coming : Q) (before : ℕ) (answer : LinkIn) (s : S) (log : List Entry) (met : List (Meeting C))
        → IsSo None s log met → Behind log met (upon machine due commands side coming before answer s)
    upon-so coming before (link.Char byte now) s log met so =
        answered-so now (commands.come now coming) (Char byte) s log met so
    upon-so coming before (link.Quiet now) s log met so = answered-so now (commands.come now coming) Time s log met so
    upon-so coming before link.Closed s log met so = closed-so before s log met so
    upon-so coming before link.Failed s log met so =
        record { notes = so.notes; noted = so.noted; comes = so.comes }

    -- a poll notes nothing
    turned-so :
        (coming : Q) (before : ℕ) (answer : LinkIn) (s : S) (log : List Entry) (met : List (Meeting C))
        → IsSo None s log met → Behind log met (turned machine due commands side coming before answer s)
    turned-so coming before answer s log met so =
        let piece = upon machine due commands side coming before answer s in
        subst (λ (m : List (Meeting C)). IsSo piece.ended piece.end ((log_of piece.acts ++ []) ++ log) (m ++ met))
        (sym (append-nil (met_by piece.acts)))
        (subst (λ (l : List Entry). IsSo piece.ended piece.end (l ++ log) (met_by piece.acts ++ met))
        (sym (append-nil (log_of piece.acts))) (upon-so coming before answer s log met so))

    polled-so :
        (n : ℕ) (coming : Q) (before : ℕ) (answers : List LinkIn) (s : S) (log : List Entry)
        (met : List (Meeting C)) → IsSo None s log met
        → Behind log met (polled machine due commands side n coming before answers s)
    polled-so zero coming before answers s log met so =
        record { notes = so.notes; noted = so.noted; comes = so.comes }
    polled-so (suc n) coming before [] s log met so = turned-so coming before link.Closed s log met so
    polled-so (suc n) coming before (answer ∷ answers) s log met so =
        let now = moment_after before answer in
        more-so log met (turned machine due commands side coming before answer s)
        (polled machine due commands side n (commands.later now coming) now answers)
        (turned-so coming before answer s log met so) (polled-so n (commands.later now coming) now answers)

    -- ---- all of a run

    start-so : Behind [] [] (started {S = S} {C = C} side start)
    start-so =
        on-way start.next (entries_at side 0 start.notes ++ []) [] (noted_behind start.notes [])
        (at-own 0 side start.notes [] tt) (at-noted 0 side start.notes []) refl

    begun-so : Behind [] [] (begun machine side start)
    begun-so = more-so [] [] (started side start) (stepped machine side 0 Time) start-so (step-so 0 Time)

    pub run-so : (coming : Q) (polls : ℕ) (answers : List LinkIn)
        → IsCourse machine start side (commanded_run machine due commands side start coming polls answers)
    run-so coming polls answers =
        let run = commanded_run machine due commands side start coming polls answers in
        let so =
        subst (λ (m : List (Meeting C)). IsSo run.ended run.end (log_of run.acts ++ []) m)
        (append-nil (met_by run.acts))
        (more-so [] [] (begun machine side start) (polled machine due commands side polls coming 0 answers)
        begun-so (polled-so polls coming 0 answers))
        in
        let all =
        subst (λ (l : List Entry). IsSo run.ended run.end l (met_by run.acts)) (append-nil (log_of run.acts)) so in
        record { notes = all.notes; noted = all.noted; comes = all.comes }

pub are-courses : {S C Q : Type 0} → RunsAreCourses S C Q
are-courses machine due commands side start coming polls answers =
    run-so machine start side due commands coming polls answers
