-- What is read of a schedule's text is what it means.
use Rattle.std.proofs.Common.{◌≡◌, ℕ, ◌<◌, ◌≤◌, Bool, true, false, nat_lt, cond, ◌⊎◌, inl, inr, List, length, Option, Some, None, Result, Ok, Err, refl, arith}
use Rattle.std.specs.Prelude.{IfOk}
use Rattle.std.proofs.lemmas.Bool.{lt-ltb, ltb-false, ltb-true, le-ltb}
use Rattle.line_schedule.specs.declared.event.Event.{Event}
use Rattle.line_schedule.specs.declared.schedule.ScheduleFault.{ScheduleFault}
use Rattle.line_schedule.specs.declared.schedule.ScheduleFault.TheVariants as fault
use Rattle.line_schedule.specs.Events.{EventFitsIn, may_stand}
use Rattle.line_schedule.specs.Grammar.{IsEventLine}
use Rattle.line_schedule.specs.Lines.{ReadsOnly, RefusesOnly, lines_of}
use Rattle.line_schedule.specs.Reading.{Gives, event_answer, is_passed_over, read_lines, schedule_answer, schedule_reader, told_in}
use Rattle.line_schedule.specs.Schedule.{FitIn, IsOutsideIn, IsScheduleIn, IsToldEvent, TellsNoEvent, moment_of_event, most_lines}
use Rattle.line_schedule.proofs.EventReaders.{a_told_event, no_event, passed_again, passed_there}
use Rattle.line_schedule.proofs.Ranges.{event_fits}
use Rattle.line_schedule.proofs.Telling as telling
use Rattle.line_schedule.proofs.Telling.{IsExact, Says, all_fit, none_some, not_both}

module _ (host_loses : Bool) where
  abbrev Told : ℕ → Event → List ℕ → Type 0
  Told = IsToldEvent host_loses

  abbrev Outside : ℕ → List ℕ → Type 0
  Outside least line = TellsNoEvent host_loses line

  answer_says : (number least : ℕ) (line : List ℕ) → Says Told Outside most_lines number least line (schedule_answer host_loses number line)
  answer_says number least line = go (nat_lt most_lines number) (is_passed_over line) (told_in host_loses line) refl refl refl where
    go : (past passed : Bool) (o : Option Event) → nat_lt most_lines number ≡ past → is_passed_over line ≡ passed → told_in host_loses line ≡ o →
        Says Told Outside most_lines number least line (cond past (Err (fault.Line number)) (cond passed (Ok None) (event_answer number o)))
    go true passed o a b c = (refl, inl (ltb-true most_lines number a))
    go false true o a b c = (ltb-false most_lines number a, passed_there line b)
    go false false None a b c =
        (refl, inr (λ passed. not_both (is_passed_over line) b (passed_again line passed), λ told is. none_some (told_in host_loses line) told c ((a_told_event host_loses).again told line is)))
    go false false (Some told) a b c = (ltb-false most_lines number a, (a_told_event host_loses).there told line c)

  tells_solid : (told : Event) (line : List ℕ) → IsEventLine told line → is_passed_over line ≡ false
  tells_solid told line is = go (is_passed_over line) refl where
    go : (t : Bool) → is_passed_over line ≡ t → is_passed_over line ≡ false
    go false e = e
    go true e = absurd (no_event line told (passed_there line e) is)

  outside_answer : (number least : ℕ) (line : List ℕ) → (most_lines < number) ⊎ Outside least line →
      schedule_answer host_loses number line ≡ Err (fault.Line number)
  outside_answer number least line (inl past) = rw (lt-ltb most_lines number past) refl
  outside_answer number least line (inr (solid, none)) =
      go (nat_lt most_lines number) (is_passed_over line) (told_in host_loses line) refl refl
    where
      go : (past passed : Bool) (o : Option Event) → is_passed_over line ≡ passed → told_in host_loses line ≡ o →
          cond past (Err (fault.Line number)) (cond passed (Ok None) (event_answer number o)) ≡ Err (fault.Line number)
      go true passed o b c = refl
      go false true o b c = absurd (solid (passed_there line b))
      go false false None b c = refl
      go false false (Some told) b c = absurd (none told ((a_told_event host_loses).there told line c))

  exact : IsExact (schedule_reader host_loses) Told Outside most_lines
  exact = record {
    says = answer_says;
    passed = λ number least line within passed. rw (le-ltb most_lines number within, passed_again line passed) refl;
    told = λ number least told line within is. rw (le-ltb most_lines number within, tells_solid told line is.1, (a_told_event host_loses).again told line is) refl;
    outside = outside_answer;
  }

  abbrev pub AnswersText : List ℕ → Result (List Event) ScheduleFault → Type 0
  AnswersText text r = Gives (λ (events : List Event). events) r (read_lines (schedule_reader host_loses) 0 0 (lines_of text))

  module _ (text : List ℕ) (r : Result (List Event) ScheduleFault) (answers : AnswersText text r) where
    pub found : IfOk r (λ events. IsScheduleIn host_loses text events)
    found = go r (telling.all_found exact (λ (events : List Event). events) text r answers) where
      go : (r : Result (List Event) ScheduleFault) →
          IfOk r (λ events. telling.AllTell exact 0 (lines_of text) events × (length (lines_of text) ≤ most_lines)) →
          IfOk r (λ events. IsScheduleIn host_loses text events)
      go (Ok events) is = record { tell = is.0; within = is.1 }
      go (Err e) is = tt

    pub fits : IfOk r (λ events. FitIn host_loses events)
    fits = go r found where
      go : (r : Result (List Event) ScheduleFault) → IfOk r (λ events. IsScheduleIn host_loses text events) → IfOk r (λ events. FitIn host_loses events)
      go (Ok events) is =
          let all = all_fit Told moment_of_event (EventFitsIn host_loses) (λ least told line is. (is.0, event_fits told line is.1)) 0 (lines_of text) events is.tell in
          record { events = all.0; number = omega (arith, all.1, is.within) }
      go (Err e) is = tt

    pub only : (events : List Event) → IsScheduleIn host_loses text events → ReadsOnly (λ (read : List Event). read) events r
    only events is = telling.only exact (λ (read : List Event). read) text r answers events is.tell is.within

    pub line_named : (n : ℕ) → r ≡ Err (fault.Line n) → IsOutsideIn host_loses text n
    line_named = telling.line_named exact (λ (events : List Event). events) text r answers

    pub outside_refused : (n : ℕ) → IsOutsideIn host_loses text n → RefusesOnly (fault.Line n) r
    outside_refused = telling.outside_refused exact (λ (events : List Event). events) text r answers
