-- What one end notes in its steps and at its starts, and when, is what its own course brings.
use Rattle.std.proofs.Common.{◌≡◌, ◌≢◌, refl, sym, ap, subst, ◌∙◌, ℕ, Bool, true, false, List, [], ◌∷◌, ◌++◌, Option, Some, if◌then◌else◌}
use Rattle.disk_base.specs.declared.cut.CutChoice.{CutChoice}
use Rattle.gl_base.specs.declared.side.Side.{Side}
use Rattle.gl_base.specs.declared.side.Side.TheVariants.{Equipment, Host}
use Rattle.gl_base.specs.Side.{is_same_side}
use Rattle.line_way.specs.Ways.{Ways}
use Rattle.message_end.specs.Core.{Step, Went, step_in}
use Rattle.message_end.specs.Core.Went.{Goes, Spent}
use Rattle.message_end.specs.Course.{Course, Meeting, broken_at, course_of, filled_at, noted_behind, notes_of, went_on, with_meeting}
use Rattle.message_end.specs.Course.Course.{Reached}
use Rattle.message_end.specs.Course.Meeting.{Acts, Breaks, Fills, LosesPower, Restarts, Writes}
use Rattle.message_end.specs.Ends.{Input, Loss, Machine, Passing, Reach, call_of, passing, wrote}
use Rattle.message_end.specs.Ends.Passing.{Cuts, Lacks, Passes}
use Rattle.message_end.proofs.Passing.{cut-place, lack-place}
use Rattle.message_end.proofs.Growing.{behind-both}
use Rattle.trace_log.specs.Laws.{log_with}
use Rattle.trace_log.specs.Log.{Entry, Happening}
use Rattle.trace_log.specs.Log.Entry.{Noted}
use Rattle.trace_log.specs.Log.Happening.{Power}
use Rattle.end_pair.specs.declared.answers.WorldStep.TheVariants as answer
use Rattle.end_pair.specs.Noted.{AreTimesOf, IsBrokenThen, IsFilledThen, IsMetThen, TimedNotes, noted_by, timed_behind, timed_by}
use Rattle.end_pair.specs.Steps.{Stepped, entries_of, made, made_by, slipped, slips, stepped, stopped_at, stopped_for}
use Rattle.end_pair.specs.World.{met}
use Rattle.end_pair.proofs.Causes.{early-powered, never-early, never-on}

-- ---- notes as entries

same-side : (side : Side) → is_same_side side side ≡ true
same-side Equipment = refl
same-side Host = refl

with-behind : (now : ℕ) (side : Side) (notes : List Happening) (front log : List Entry)
    → log_with now side notes front ++ log ≡ log_with now side notes (front ++ log)
with-behind now side [] front log = refl
with-behind now side (what ∷ notes) front log = with-behind now side notes (Noted now side what ∷ front) log

-- those of an end itself
pub noted-own : (now : ℕ) (side : Side) (notes : List Happening) (log : List Entry)
    → noted_by side (log_with now side notes log) ≡ noted_behind notes (noted_by side log)
noted-own now side [] log = refl
noted-own now side (what ∷ notes) log =
    noted-own now side notes (Noted now side what ∷ log)
    ∙ ap
    (λ (b : Bool). noted_behind notes (if b then what ∷ noted_by side log else noted_by side log))
    (same-side side)

-- those of the other end
pub noted-other :
    (now : ℕ) (side other : Side) → is_same_side other side ≡ false → (notes : List Happening) (log : List Entry)
    → noted_by other (log_with now side notes log) ≡ noted_by other log
noted-other now side other apart [] log = refl
noted-other now side other apart (what ∷ notes) log =
    noted-other now side other apart notes (Noted now side what ∷ log)
    ∙ ap (λ (b : Bool). if b then what ∷ noted_by other log else noted_by other log) apart

-- the same with their moments
timed-both : (now : ℕ) (first second : List Happening) (before : TimedNotes)
    → timed_behind now (first ++ second) before ≡ timed_behind now second (timed_behind now first before)
timed-both now [] second before = refl
timed-both now (what ∷ first) second before = timed-both now first second ((now, what) ∷ before)

pub timed-own : (now : ℕ) (side : Side) (notes : List Happening) (log : List Entry)
    → timed_by side (log_with now side notes log) ≡ timed_behind now notes (timed_by side log)
timed-own now side [] log = refl
timed-own now side (what ∷ notes) log =
    timed-own now side notes (Noted now side what ∷ log)
    ∙ ap
    (λ (b : Bool). timed_behind now notes (if b then (now, what) ∷ timed_by side log else timed_by side log))
    (same-side side)

pub timed-other :
    (now : ℕ) (side other : Side) → is_same_side other side ≡ false → (notes : List Happening) (log : List Entry)
    → timed_by other (log_with now side notes log) ≡ timed_by other log
timed-other now side other apart [] log = refl
timed-other now side other apart (what ∷ notes) log =
    timed-other now side other apart notes (Noted now side what ∷ log)
    ∙ ap (λ (b : Bool). if b then (now, what) ∷ timed_by other log else timed_by other log) apart

-- of an end the one log has what the other has
pub record IsAsNoted (side : Side) (new old : List Entry) : Type 0 where
  pub noted : noted_by side new ≡ noted_by side old
  pub timed : timed_by side new ≡ timed_by side old

pub behind-other :
    (now : ℕ) (side other : Side) → is_same_side other side ≡ false → (notes : List Happening) (log : List Entry)
    → IsAsNoted other (entries_of side now notes ++ log) log
behind-other now side other apart notes log = record {
  noted =
      ap (λ (l : List Entry). noted_by other l) (with-behind now side notes [] log)
      ∙ noted-other now side other apart notes log;
  timed =
      ap (λ (l : List Entry). timed_by other l) (with-behind now side notes [] log)
      ∙ timed-other now side other apart notes log;
}

-- ---- the course of one end

module _ {S C : Type 0} (start : Step S Happening) (machine : Machine S C) (side : Side) where
  -- some meetings have brought the end to this state, with what the log has of it
  pub record IsReached (s : S) (log : List Entry) : Type 0 where
    pub met : List (Meeting C)
    pub is : course_of start machine met ≡ Reached s (noted_by side log)
    pub timed : AreTimesOf start machine met (timed_by side log)

  -- what the log has of it was noted so
  pub record IsNoted (log : List Entry) : Type 0 where
    pub met : List (Meeting C)
    pub is : noted_by side log ≡ notes_of (course_of start machine met)
    pub timed : AreTimesOf start machine met (timed_by side log)

  pub reached-noted : (s : S) (log : List Entry) → IsReached s log → IsNoted log
  reached-noted s log at =
      record { met = at.met; is = sym (ap (λ (c : Course S). notes_of c) at.is); timed = at.timed }

  -- it has lost its power in a step, of which the log has what was noted by then
  pub record IsBroken (now : ℕ) (choice : CutChoice) (left : S) (log : List Entry) : Type 0 where
    pub s : S
    pub notes : List Happening
    pub met : List (Meeting C)
    pub is : course_of start machine met ≡ Reached s notes
    pub input : Input C
    pub call : ℕ
    pub loss : Loss S
    pub lost : call_of call (machine.losses s input now) ≡ Some loss
    pub left_is : left ≡ loss.left choice
    pub noted : noted_by side log ≡ noted_behind loss.front notes
    pub before : TimedNotes
    pub times : AreTimesOf start machine met before
    pub timed : timed_by side log ≡ timed_behind now loss.front before

  -- a step of it
  pub record HasNoted (step : Stepped S) (now : ℕ) (choice : CutChoice) (log : List Entry) : Type 0 where
    pub noted : ((whose : Side) → step.went ≢ answer.PowerLost whose) → IsNoted (step.entries ++ log)
    pub on : step.went ≡ answer.Went → IsReached step.end (step.entries ++ log)
    pub broken : step.went ≡ answer.PowerLost side → IsBroken now choice step.end (step.entries ++ log)

  pub own-entries : (now : ℕ) (notes : List Happening) (log : List Entry)
      → noted_by side (entries_of side now notes ++ log) ≡ noted_behind notes (noted_by side log)
  own-entries now notes log =
      ap (λ (l : List Entry). noted_by side l) (with-behind now side notes [] log) ∙ noted-own now side notes log

  pub timed-entries : (now : ℕ) (notes : List Happening) (log : List Entry)
      → timed_by side (entries_of side now notes ++ log) ≡ timed_behind now notes (timed_by side log)
  timed-entries now notes log =
      ap (λ (l : List Entry). timed_by side l) (with-behind now side notes [] log) ∙ timed-own now side notes log

  -- some meetings have brought it to this state, with these notes at their moments
  record IsMetTo (s : S) (notes : List Happening) (timed : TimedNotes) : Type 0 where
    met : List (Meeting C)
    is : course_of start machine met ≡ Reached s notes
    times : AreTimesOf start machine met timed

  wrote-reached : (now : ℕ) (s : S) (written : List ℕ) (notes : List Happening) (timed : TimedNotes)
      → IsMetTo s notes timed
      → IsMetTo s (noted_behind (wrote written) notes) (timed_behind now (wrote written) timed)
  wrote-reached now s [] notes timed at = at
  wrote-reached now s (byte ∷ bytes) notes timed at = record {
    met = Writes (byte ∷ bytes) ∷ at.met;
    is = ap (λ (c : Course S). with_meeting machine (Writes (byte ∷ bytes)) c) at.is;
    times = (
      timed,
      (
        at.times,
        subst
            (λ (c : Course S). IsMetThen machine (Writes (byte ∷ bytes)) c timed
            ((now, Happening.Wrote (byte ∷ bytes)) ∷ timed)) (sym at.is) (record { moment = now; is = refl }),
      ),
    );
  }

  made-noted :
      (now : ℕ) (left : Reach) (choice : CutChoice) (input : Input C) (s : S) (ways : Ways) (log : List Entry)
      → IsReached s log → HasNoted (made machine side now left input s ways (machine.act s input now)) now choice log
  made-noted now left choice input s ways log at = go (machine.act s input now) refl
    where
      go : (went : Went S Happening) → machine.act s input now ≡ went
          → HasNoted (made machine side now left input s ways went) now choice log
      go (Goes step) is = record {
        noted = λ other. reached-noted step.next (entries ++ log) there;
        on = λ on. there;
        broken = λ dark. absurd (cc);
      }
        where
          entries : List Entry
          entries = entries_of side now (step.notes ++ wrote step.written)

          acted : IsMetTo step.next (noted_behind step.notes (noted_by side log))
              (timed_behind now step.notes (timed_by side log))
          acted = record {
            met = Acts input now ∷ at.met;
            is =
                ap (λ (c : Course S). with_meeting machine (Acts input now) c) at.is
                ∙ ap (λ (went : Went S Happening). went_on went (noted_by side log)) is;
            times = (
              timed_by side log,
              (
                at.timed,
                subst
                    (λ (c : Course S). IsMetThen machine (Acts input now) c (timed_by side log)
                    (timed_behind now step.notes (timed_by side log))) (sym at.is)
                    (ap (λ (went : Went S Happening). timed_behind now (step_in went).notes (timed_by side log))
                    (sym is)),
              ),
            );
          }

          written : IsMetTo step.next
              (noted_behind (wrote step.written) (noted_behind step.notes (noted_by side log)))
              (timed_behind now (wrote step.written) (timed_behind now step.notes (timed_by side log)))
          written =
              wrote-reached now step.next step.written (noted_behind step.notes (noted_by side log))
              (timed_behind now step.notes (timed_by side log)) acted

          there : IsReached step.next (entries ++ log)
          there = record {
            met = written.met;
            is = written.is
                ∙ ap (λ (ns : List Happening). Reached step.next ns)
                (sym (behind-both step.notes (wrote step.written) (noted_by side log))
                ∙ sym (own-entries now (step.notes ++ wrote step.written) log));
            timed =
                subst (λ (timed : TimedNotes). AreTimesOf start machine written.met timed)
                (sym (timed-both now step.notes (wrote step.written) (timed_by side log))
                ∙ sym (timed-entries now (step.notes ++ wrote step.written) log)) written.times;
          }
      go (Spent step) is = record {
        noted = λ other. record {
          met = Acts input now ∷ at.met;
          is = own-entries now step.notes log
              ∙ sym
              (ap (λ (c : Course S). notes_of (with_meeting machine (Acts input now) c)) at.is
              ∙ ap
              (λ (went : Went S Happening).
              notes_of (went_on went (noted_by side log))) is);
          timed = (
            timed_by side log,
            (
              at.timed,
              subst
                  (λ (c : Course S). IsMetThen machine (Acts input now) c (timed_by side log)
                  (timed_by side (entries_of side now step.notes ++ log))) (sym at.is)
                  (timed-entries now step.notes log
                  ∙ ap (λ (went : Went S Happening). timed_behind now (step_in went).notes (timed_by side log))
                  (sym is)),
            ),
          );
        };
        on = λ on. absurd (never-early (machine.lacks_room s input now) on);
        broken = λ dark. absurd (early-powered (machine.lacks_room s input now) side dark);
      }

  -- a disk stops it, which ends all or loses the power
  stopped-noted :
      (now call : ℕ) (is_lost : Bool) (choice : CutChoice) (input : Input C) (s : S) (ways : Ways) (log : List Entry)
      (loss : Loss S) → call_of call (machine.losses s input now) ≡ Some loss → IsReached s log
      → HasNoted (stopped_at side now choice ways (stopped_for side is_lost) loss) now choice log
  stopped-noted now call is_lost choice input s ways log loss lost at = record {
    noted = λ other. record {
      met = Fills input now call ∷ at.met;
      is =
          own-entries now loss.front log
          ∙ sym
          (ap (λ (c : Course S). notes_of (with_meeting machine (Fills input now call) c)) at.is
          ∙ ap (λ (found : Option (Loss S)). notes_of (filled_at s (noted_by side log) found)) lost);
      timed = (
        timed_by side log,
        (
          at.timed,
          subst
              (λ (c : Course S). IsMetThen machine (Fills input now call) c (timed_by side log)
              (timed_by side (entries_of side now loss.front ++ log))) (sym at.is)
              (subst
              (λ (found : Option (Loss S)). IsFilledThen now found (timed_by side log)
              (timed_by side (entries_of side now loss.front ++ log))) (sym lost)
              (timed-entries now loss.front log)),
        ),
      );
    };
    on = λ on. absurd (never-on side is_lost on);
    broken = λ dark. record {
      s = s;
      notes = noted_by side log;
      met = at.met;
      is = at.is;
      input = input;
      call = call;
      loss = loss;
      lost = lost;
      left_is = refl;
      noted = own-entries now loss.front log;
      before = timed_by side log;
      times = at.timed;
      timed = timed-entries now loss.front log;
    };
  }

  pub step-noted :
      (now : ℕ) (reach : Reach) (choice : CutChoice) (input : Input C) (s : S) (ways : Ways) (log : List Entry)
      → IsReached s log → HasNoted (stepped machine side now reach choice input s ways) now choice log
  step-noted now reach choice input s ways log at = go (slips machine side now input s ways)
    where
      by_passing : (passed : Passing S) → passing reach (machine.losses s input now) ≡ passed
          → HasNoted (made_by machine side now choice input s ways passed) now choice log
      by_passing (Passes left) is = made-noted now left choice input s ways log at
      by_passing (Cuts loss) is =
          let place = cut-place reach (machine.losses s input now) loss is in
          stopped-noted now place.0 true choice input s ways log loss place.1 at
      by_passing (Lacks loss) is =
          let place = lack-place reach (machine.losses s input now) loss is in
          stopped-noted now place.0 false choice input s ways log loss place.1 at

      go : (b : Bool)
          → HasNoted
          (if b then slipped side now reach s ways
          else made_by machine side now choice input s ways (passing reach (machine.losses s input now)))
          now choice log
      go true =
          let noted = reached-noted s log at in
          record {
            noted = λ other. record { met = noted.met; is = noted.is; timed = noted.timed };
            on = λ on. absurd (cc);
            broken = λ dark. absurd (cc);
          }
      go false = by_passing (passing reach (machine.losses s input now)) refl

  -- it starts anew, without power: behind whole steps, or amid one
  pub record HasAgain (now : ℕ) (went : Went S Happening) (log : List Entry) : Type 0 where
    pub met : List (Meeting C)
    pub is : course_of start machine met ≡ went_on went (Power ∷ noted_by side log)
    pub times : AreTimesOf start machine met (timed_behind now (Power ∷ (step_in went).notes) (timed_by side log))

  pub again-noted : (now : ℕ) (went : Went S Happening) (log : List Entry) → HasAgain now went log
      → IsNoted (entries_of side now (Power ∷ (step_in went).notes) ++ log)
  again-noted now went log is = record {
    met = is.met;
    is = own-entries now (Power ∷ (step_in went).notes) log ∙ same went ∙ sym (ap (λ (c : Course S). notes_of c) is.is);
    timed =
        subst (λ (timed : TimedNotes). AreTimesOf start machine is.met timed)
        (sym (timed-entries now (Power ∷ (step_in went).notes) log)) is.times;
  }
    where
      same : (went : Went S Happening)
          → noted_behind (Power ∷ (step_in went).notes) (noted_by side log)
          ≡ notes_of (went_on went (Power ∷ noted_by side log))
      same (Goes step) = refl
      same (Spent step) = refl

  pub again-goes : (now : ℕ) (step : Step S Happening) (log : List Entry) → HasAgain now (Goes step) log
      → IsReached step.next (entries_of side now (Power ∷ step.notes) ++ log)
  again-goes now step log is = record {
    met = is.met;
    is =
        is.is ∙ ap (λ (ns : List Happening). Reached step.next ns) (sym (own-entries now (Power ∷ step.notes) log));
    timed =
        subst (λ (timed : TimedNotes). AreTimesOf start machine is.met timed)
        (sym (timed-entries now (Power ∷ step.notes) log)) is.times;
  }

  pub again-reached : (now : ℕ) (s : S) (log : List Entry) → IsReached s log → HasAgain now (machine.restart s now) log
  again-reached now s log at = record {
    met = Restarts now ∷ LosesPower ∷ at.met;
    is = ap (λ (c : Course S). with_meeting machine (Restarts now) (with_meeting machine LosesPower c)) at.is;
    times = (
      (now, Power) ∷ timed_by side log,
      (
        (
          timed_by side log,
          (
            at.timed,
            subst
                (λ (c : Course S). IsMetThen machine LosesPower c (timed_by side log)
                ((now, Power) ∷ timed_by side log)) (sym at.is) (record { moment = now; is = refl }),
          ),
        ),
        subst
            (λ (c : Course S). IsMetThen machine (Restarts now) (with_meeting machine LosesPower c)
            ((now, Power) ∷ timed_by side log)
            (timed_behind now (step_in (machine.restart s now)).notes ((now, Power) ∷ timed_by side log)))
            (sym at.is) refl,
      ),
    );
  }

  pub again-broken : (now : ℕ) (choice : CutChoice) (left : S) (log : List Entry) → IsBroken now choice left log
      → HasAgain now (machine.restart left now) log
  again-broken now choice left log at = record {
    met = Breaks at.input now at.call choice ∷ at.met;
    is =
        ap (λ (c : Course S). with_meeting machine (Breaks at.input now at.call choice) c) at.is
        ∙ ap (λ (loss : Option (Loss S)). broken_at machine now choice at.s at.notes loss) at.lost
        ∙ ap (λ (s : S). went_on (machine.restart s now) (Power ∷ noted_behind at.loss.front at.notes))
        (sym at.left_is)
        ∙ ap (λ (ns : List Happening). went_on (machine.restart left now) (Power ∷ ns)) (sym at.noted);
    times = (
      at.before,
      (
        at.times,
        subst
            (λ (c : Course S). IsMetThen machine (Breaks at.input now at.call choice) c at.before started) (sym at.is)
            (subst (λ (loss : Option (Loss S)). IsBrokenThen machine.restart now choice loss at.before started)
            (sym at.lost)
            (ap
            (λ (s : S). timed_behind now (Power ∷ (step_in (machine.restart s now)).notes) (timed_by side log))
            at.left_is
            ∙ ap
            (λ (timed : TimedNotes). timed_behind now
            (Power ∷ (step_in (machine.restart (at.loss.left choice) now)).notes) timed) at.timed)),
      ),
    );
  }
    where
      started : TimedNotes
      started = timed_behind now (Power ∷ (step_in (machine.restart left now)).notes) (timed_by side log)

-- an end that did nothing is where it was
pub stays-reached :
    {S C : Type 0} (start : Step S Happening) (machine : Machine S C) (side : Side) (s : S) (one two : List Entry)
    → IsAsNoted side two one → IsReached start machine side s one → IsReached start machine side s two
stays-reached start machine side s one two same at = record {
  met = at.met;
  is = at.is ∙ ap (λ (ns : List Happening). Reached s ns) (sym same.noted);
  timed = subst (λ (timed : TimedNotes). AreTimesOf start machine at.met timed) (sym same.timed) at.timed;
}

-- the entries of a step are its end's, or no end's
pub other-entries :
    {S C : Type 0} (machine : Machine S C) (side other : Side) → is_same_side other side ≡ false
    → (now : ℕ) (reach : Reach) (choice : CutChoice) (input : Input C) (s : S) (ways : Ways) (log : List Entry)
    → IsAsNoted other ((stepped machine side now reach choice input s ways).entries ++ log) log
other-entries {S} {C} machine side other apart now reach choice input s ways log =
    go (slips machine side now input s ways)
  where
    by_went : (left : Reach) (went : Went S Happening)
        → IsAsNoted other ((made machine side now left input s ways went).entries ++ log) log
    by_went left (Goes step) = behind-other now side other apart (step.notes ++ wrote step.written) log
    by_went left (Spent step) = behind-other now side other apart step.notes log

    by_passing : (passed : Passing S)
        → IsAsNoted other ((made_by machine side now choice input s ways passed).entries ++ log) log
    by_passing (Passes left) = by_went left (machine.act s input now)
    by_passing (Cuts loss) = behind-other now side other apart loss.front log
    by_passing (Lacks loss) = behind-other now side other apart loss.front log

    go : (b : Bool)
        → IsAsNoted other
        ((if b then slipped side now reach s ways
        else made_by machine side now choice input s ways (passing reach (machine.losses s input now))).entries
        ++ log) log
    go true = record { noted = refl; timed = refl }
    go false = by_passing (passing reach (machine.losses s input now))
