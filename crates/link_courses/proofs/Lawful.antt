-- That what an end has noted in a course of steps is of doings that keep its law.
use Rattle.std.proofs.Common.{◌≡◌, refl, sym, ap, subst, ◌∙◌, ℕ, List, [], ◌∷◌, ◌++◌, append-nil, Option, Some, None}
use Rattle.message_end.specs.Core.{Step, Went}
use Rattle.message_end.specs.Core.Went.{Goes, Spent}
use Rattle.message_end.specs.Course.{Course, Meeting, course_of, noted_behind, notes_of, went_on, with_meeting}
use Rattle.message_end.specs.Course.Course.{Reached, Stopped}
use Rattle.message_end.specs.Course.Meeting.{Acts, Breaks, Fills, LosesPower, Restarts, Writes}
use Rattle.message_end.specs.Doings.{AreLawful, Doing, IsInTurn}
use Rattle.message_end.specs.Doings.Doing.{Calls, Does, Gives, Says}
use Rattle.message_end.specs.Ends.{DoesStep, Input, IsMadeOf, KeepsLaw, Machine}
use Rattle.message_end.specs.History.{noted_in}
use Rattle.message_end.specs.InStep.{ReplyInTheirSteps}
use Rattle.message_end.specs.Log.{noted_of, noted_of_own}
use Rattle.message_end.specs.Own.{Own}
use Rattle.message_end.specs.Own.Own.{DrewNumber, DroppedMessage, GaveBlock, HeardBlock, ReceivedMessage, SentMessage, WroteFrame}
use Rattle.message_end.specs.Ends.IsOfWorld.{of_wrote}
use Rattle.message_end.specs.Plan.{EndPlan}
use Rattle.message_end.specs.Starts.{IsStartOf}
use Rattle.message_flow.specs.declared.message.Message.{Message}
use Rattle.message_end.proofs.Growing.{behind-both}
use Rattle.trace_log.specs.Log.{Happening}
use Rattle.end_run.specs.declared.ending.Ending.{Ending}
use Rattle.end_run.specs.declared.ending.Ending.TheVariants as ending
use Rattle.link_courses.specs.Courses.{with_closing}
use Rattle.link_courses.specs.Lawful.{AreDone, AreOfDoings}
use Rattle.link_courses.proofs.Given.{AreGiven, IsGiven}

-- ---- one note a doing, at most

abbrev pub with_note : Option Happening → List Happening → List Happening
with_note None notes = notes
with_note (Some what) notes = what ∷ notes

own-last : (own : Own) (before : List Doing) (start : List Happening)
    → noted_behind (noted_in (Does own ∷ before)) start
    ≡ with_note (noted_of_own own) (noted_behind (noted_in before) start)
own-last (SentMessage message) before start = behind-both (noted_in before) (Happening.Sent message ∷ []) start
own-last (ReceivedMessage message) before start =
    behind-both (noted_in before) (Happening.Received message ∷ []) start
own-last (DrewNumber number) before start =
    ap (λ (ns : List Happening). noted_behind ns start) (append-nil (noted_in before))
own-last (GaveBlock place number) before start =
    ap (λ (ns : List Happening). noted_behind ns start) (append-nil (noted_in before))
own-last (WroteFrame place number) before start =
    ap (λ (ns : List Happening). noted_behind ns start) (append-nil (noted_in before))
own-last (HeardBlock block now flow) before start =
    ap (λ (ns : List Happening). noted_behind ns start) (append-nil (noted_in before))
own-last (DroppedMessage header now) before start =
    ap (λ (ns : List Happening). noted_behind ns start) (append-nil (noted_in before))

pub doing-last : (doing : Doing) (before : List Doing) (start : List Happening)
    → noted_behind (noted_in (doing ∷ before)) start
    ≡ with_note (noted_of doing) (noted_behind (noted_in before) start)
doing-last (Does own) before start = own-last own before start
doing-last (Gives place number block now) before start = refl
doing-last (Calls call) before start = refl
doing-last (Says what) before start = behind-both (noted_in before) (what ∷ []) start

-- ---- the first ones of notes

same-rest : (one other : Happening) (first second : List Happening) → one ∷ first ≡ other ∷ second → first ≡ second
same-rest one other first second same = cc

not-some : (later : List Happening) (what : Happening) (first : List Happening) → [] ≡ later ++ what ∷ first → ⊥
not-some [] what first same = cc
not-some (one ∷ later) what first same = cc

-- the newest note is that of the last doing, or of one before it
by-note :
    (P : Type 0) (said : Option Happening) (notes : List Happening) (one : Happening) (rest : List Happening)
    → (notes ≡ one ∷ rest → P) → (notes ≡ rest → P) → with_note said notes ≡ one ∷ rest → P
by-note P None notes one rest older newest is = older is
by-note P (Some what) notes one rest older newest is = newest (same-rest what one notes rest is)

module _ (plan : EndPlan) (Such : List Doing → Type 0)
    (older : (doing : Doing) (before : List Doing) → Such (doing ∷ before) → Such before) where
  abbrev NotedBy : Happening → List Doing → List Happening
  NotedBy start doings = noted_behind (noted_in doings) (start ∷ [])

  -- of doings with these notes some first ones have the first ones of them
  front-done :
      (base : ℕ) (start : Happening) → IsStartOf plan.side start base → (doings : List Doing)
      (later first : List Happening)
      → AreLawful plan base doings → ReplyInTheirSteps plan doings → Such doings
      → NotedBy start doings ≡ later ++ first → AreDone plan Such first
  front-done base start starts doings later [] lawful replies such same = tt
  front-done base start starts doings [] (what ∷ first) lawful replies such same = record {
    base = base;
    start = start;
    starts = starts;
    doings = doings;
    noted = sym same;
    lawful = lawful;
    replies = replies;
    such = such;
  }
  front-done base start starts [] (one ∷ later) (what ∷ first) lawful replies such same =
      absurd (not-some later what first (same-rest start one [] (later ++ what ∷ first) same))
  front-done base start starts (doing ∷ before) (one ∷ later) (what ∷ first) lawful replies such same =
      by-note (AreDone plan Such (what ∷ first)) (noted_of doing) (NotedBy start before) one
      (later ++ what ∷ first)
      (front-done base start starts before (one ∷ later) (what ∷ first) lawful.1 replies.1 (older doing before such))
      (front-done base start starts before later (what ∷ first) lawful.1 replies.1 (older doing before such))
      (sym (doing-last doing before (start ∷ [])) ∙ same)

-- ---- a course of steps

module _ {S C : Type 0} (plan : EndPlan) (did : ℕ → List Doing → S → Type 0) (takes : C → Type 0)
    (first : Step S Happening) (machine : Machine S C) (law : KeepsLaw plan did takes (Goes first) machine) where
  -- what was noted is of doings that have made the end
  record IsRunSo (s : S) (notes : List Happening) : Type 0 where
    base : ℕ
    start : Happening
    starts : IsStartOf plan.side start base
    doings : List Doing
    noted : notes ≡ noted_behind (noted_in doings) (start ∷ [])
    made : did base doings s

  -- of an end that goes on no more, these have made what it was last
  abbrev IsCourseSo : Course S → Type 0
  IsCourseSo (Reached s notes) = IsRunSo s notes
  IsCourseSo (Stopped notes) = (s : S) × IsRunSo s notes

  more-noted :
      (start : Happening) (doings all : List Doing) (notes more : List Happening)
      → noted_in all ≡ noted_in doings ++ more → notes ≡ noted_behind (noted_in doings) (start ∷ [])
      → noted_behind more notes ≡ noted_behind (noted_in all) (start ∷ [])
  more-noted start doings all notes more is noted =
      ap (λ (ns : List Happening). noted_behind more ns) noted
      ∙ sym (behind-both (noted_in doings) more (start ∷ []))
      ∙ ap (λ (ns : List Happening). noted_behind ns (start ∷ [])) (sym is)

  step-so :
      (s : S) (notes : List Happening) (input : Input C) (now : ℕ) (went : Went S Happening) (so : IsRunSo s notes)
      → DoesStep plan did so.base so.doings input now went → IsCourseSo (went_on went notes)
  step-so s notes input now (Goes step) so does = record {
    base = so.base;
    start = so.start;
    starts = so.starts;
    doings = does.done ++ so.doings;
    noted =
        more-noted so.start so.doings (does.done ++ so.doings) notes step.notes
        does.notes so.noted;
    made = does.is;
  }
  step-so s notes input now (Spent step) so does = (
    step.next,
    record {
      base = so.base;
      start = so.start;
      starts = so.starts;
      doings = does.done ++ so.doings;
      noted =
          more-noted so.start so.doings (does.done ++ so.doings) notes step.notes
          does.notes so.noted;
      made = does.is;
    },
  )

  wrote-so : (s : S) (notes : List Happening) (characters : List ℕ) → IsRunSo s notes
      → IsRunSo s (Happening.Wrote characters ∷ notes)
  wrote-so s notes characters so = record {
    base = so.base;
    start = so.start;
    starts = so.starts;
    doings = Says (Happening.Wrote characters) ∷ so.doings;
    noted =
        more-noted so.start so.doings (Says (Happening.Wrote characters) ∷ so.doings)
        notes (Happening.Wrote characters ∷ []) refl so.noted;
    made = law.says so.base so.doings s (Happening.Wrote characters) so.made (of_wrote characters);
  }

  meeting-so : (meeting : Meeting C) (course : Course S) → IsGiven takes meeting → IsCourseSo course
      → IsCourseSo (with_meeting machine meeting course)
  meeting-so meeting (Stopped notes) given so = so
  meeting-so (Acts input now) (Reached s notes) given so =
      step-so s notes input now (machine.act s input now) so (law.goes_on so.base so.doings s input now so.made given)
  meeting-so (Writes characters) (Reached s notes) given so = wrote-so s notes characters so
  meeting-so (Restarts now) (Reached s notes) given so = absurd given
  meeting-so LosesPower (Reached s notes) given so = absurd given
  meeting-so (Breaks input now call choice) (Reached s notes) given so = absurd given
  meeting-so (Fills input now call) (Reached s notes) given so = absurd given

  course-so : (met : List (Meeting C)) → AreGiven takes met → IsCourseSo (course_of first machine met)
  course-so [] given = record {
    base = law.starts.base;
    start = law.starts.note;
    starts = law.starts.of_side;
    doings = law.starts.said;
    noted = ap (λ (ns : List Happening). noted_behind ns []) law.starts.notes;
    made = law.starts.is;
  }
  course-so (meeting ∷ met) given =
      meeting-so meeting (course_of first machine met) given.0 (course-so met given.1)

  any-so : (course : Course S) → IsCourseSo course → (s : S) × IsRunSo s (notes_of course)
  any-so (Reached s notes) so = (s, so)
  any-so (Stopped notes) so = so

  -- ---- with what holds of doings that have made a state

  module _ (Such : List Doing → Type 0)
      (such : (base : ℕ) (doings : List Doing) (s : S) → did base doings s → Such doings)
      (older : (doing : Doing) (before : List Doing) → Such (doing ∷ before) → Such before)
      (closed : (doings : List Doing) → Such doings → Such (Says Happening.Closed ∷ doings)) where
    -- also with the closing behind them
    closing-so :
        (ended : Option Ending) (s : S) (notes : List Happening) (so : IsRunSo s notes)
        → AreOfDoings plan Such (with_closing ended notes)
    closing-so ended s notes so = go ended
      where
        made : IsMadeOf plan so.base so.doings (machine.line s)
        made = law.keeps so.base so.doings s so.made

        plain : AreOfDoings plan Such notes
        plain = record {
          base = so.base;
          start = so.start;
          starts = so.starts;
          doings = so.doings;
          noted = so.noted;
          lawful = made.lawful;
          replies = made.replies;
          such = such so.base so.doings s so.made;
        }

        go : (ended : Option Ending) → AreOfDoings plan Such (with_closing ended notes)
        go None = plain
        go (Some ending.Closed) = record {
          base = so.base;
          start = so.start;
          starts = so.starts;
          doings = Says Happening.Closed ∷ so.doings;
          noted =
              more-noted so.start so.doings (Says Happening.Closed ∷ so.doings) notes
              (Happening.Closed ∷ []) refl so.noted;
          lawful = (
            (
              subst (λ (whole : Option Message). IsInTurn whole (Says Happening.Closed)) (sym made.received) tt,
              tt,
            ),
            made.lawful,
          );
          replies = (tt, made.replies);
          such = closed so.doings (such so.base so.doings s so.made);
        }
        go (Some other) = plain

    -- of all that was noted, those that came first
    pub first-done :
        (ended : Option Ending) (met : List (Meeting C)) (later noted : List Happening) → AreGiven takes met
        → with_closing ended (notes_of (course_of first machine met)) ≡ later ++ noted → AreDone plan Such noted
    first-done ended met later noted given is =
        let so = any-so (course_of first machine met) (course-so met given) in
        let all = closing-so ended so.0 (notes_of (course_of first machine met)) so.1 in
        front-done plan Such older all.base all.start all.starts all.doings later noted all.lawful all.replies all.such
        (sym all.noted ∙ is)
