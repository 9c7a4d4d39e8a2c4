-- That the notes of a step are of one moment, and that behind them its end is noted: by the steps that the moves of a
-- run come in.
use Rattle.std.proofs.Common.{◌≡◌, inl, inr, refl, sym, ap, subst, ◌∙◌, ℕ, Bool, true, false, List, [], ◌∷◌, ◌++◌, Option, Some, None, if◌then◌else◌}
use Rattle.end_pair.specs.InSteps.{AreOfWholeStep, AreSteps, ComeInSteps, IsCutBehind, IsFate, moves_with, power_at, started_at, starts_with, with_wrote}
use Rattle.end_pair.specs.InSteps.AreSteps.{both_start, line_changes, one_step, starts_anew}
use Rattle.end_pair.specs.InSteps.ComeInSteps.{at_a_step, in_a_step, without_power}
use Rattle.end_pair.specs.Laws.{AreNoNotes, IsOfMoves}
use Rattle.end_pair.specs.Noted.{timed_by}
use Rattle.equipment_tables.specs.declared.plan.Plans.{Plans}
use Rattle.gl_base.specs.declared.side.Side.{Side}
use Rattle.gl_base.specs.declared.side.Side.TheVariants.{Equipment, Host}
use Rattle.gl_base.specs.Side.{is_same_side}
use Rattle.message_end.specs.Doings.{Doing}
use Rattle.message_end.specs.Doings.Doing.{Calls, Does, Gives, Says}
use Rattle.message_end.specs.Log.{log_of, noted_of, with_note}
use Rattle.message_end.specs.Moves.{Kind, LinePlans, Move}
use Rattle.message_end.specs.Moves.Kind.{Added, Changed, Did, Lost, Started}
use Rattle.message_end.specs.Starts.{AreOfStart, IsStartOf}
use Rattle.message_end.specs.Starts.IsStartOf.{of_equipment, of_host, of_journal}
use Rattle.tool_law.specs.Laws.{DidOf}
use Rattle.trace_log.specs.Log.{Entry, Happening}
use Rattle.trace_log.specs.Log.Entry.{Ended, Noted, Slipped}
use Rattle.trace_log.specs.Log.Happening.{Power, StepEnded}
use Rattle.line_world.specs.Safe.{HostDid, plans_of}
use Rattle.line_world.specs.Steps.{HasSteps, IsOfAStep, MayStepBehind, NotesAreOfSteps, SafeLogsHaveSteps}

-- what an end has noted, with the moments
abbrev timed_at : Side → List Move → List (ℕ × Happening)
timed_at side moves = timed_by side (log_of moves)

-- ---- one note more

abbrev with_timed : ℕ → Option Happening → Bool → List (ℕ × Happening) → List (ℕ × Happening)
with_timed moment None same notes = notes
with_timed moment (Some what) true notes = (moment, what) ∷ notes
with_timed moment (Some what) false notes = notes

timed-note :
    (side end : Side) (moment : ℕ) (said : Option Happening) (log : List Entry)
    → timed_by side (with_note moment end said log)
    ≡ with_timed moment said (is_same_side side end) (timed_by side log)
timed-note side end moment None log = refl
timed-note side end moment (Some what) log = go (is_same_side side end)
  where
    notes : List (ℕ × Happening)
    notes = timed_by side log

    go : (same : Bool)
        → (if same then (moment, what) ∷ notes else notes) ≡ with_timed moment (Some what) same notes
    go true = refl
    go false = refl

-- the notes so far are of their steps, and so would be one more of this moment
record AreTimed (moment : ℕ) (notes : List (ℕ × Happening)) : Type 0 where
  so_far : NotesAreOfSteps notes
  next : IsOfAStep moment notes

one-more :
    (moment : ℕ) (said : Option Happening) (same : Bool) (notes : List (ℕ × Happening)) → AreTimed moment notes
    → AreTimed moment (with_timed moment said same notes)
one-more moment None same notes are = are
one-more moment (Some what) true notes are = record { so_far = (are.next, are.so_far); next = inl refl }
one-more moment (Some what) false notes are = are

note-timed :
    (side end : Side) (moment : ℕ) (said : Option Happening) (log : List Entry) → AreTimed moment (timed_by side log)
    → AreTimed moment (timed_by side (with_note moment end said log))
note-timed side end moment said log are =
    subst (AreTimed moment) (sym (timed-note side end moment said log))
    (one-more moment said (is_same_side side end) (timed_by side log) are)

-- what an end does at this moment
doings-timed :
    (side end : Side) (moment : ℕ) (done : List Doing) (before : List Move) → AreTimed moment (timed_at side before)
    → AreTimed moment (timed_at side (moves_with end moment done before))
doings-timed side end moment [] before are = are
doings-timed side end moment (doing ∷ done) before are =
    note-timed side end moment (noted_of doing) (log_of (moves_with end moment done before))
    (doings-timed side end moment done before are)

-- the notes of the other end stay as they are
host-untold :
    (moment : ℕ) (done : List Doing) (before : List Move)
    → timed_at Host (moves_with Equipment moment done before) ≡ timed_at Host before
host-untold moment [] before = refl
host-untold moment (doing ∷ done) before =
    note (noted_of doing) (log_of (moves_with Equipment moment done before)) ∙ host-untold moment done before
  where
    note : (said : Option Happening) (log : List Entry)
        → timed_by Host (with_note moment Equipment said log) ≡ timed_by Host log
    note None log = refl
    note (Some what) log = refl

equipment-untold :
    (moment : ℕ) (done : List Doing) (before : List Move)
    → timed_at Equipment (moves_with Host moment done before) ≡ timed_at Equipment before
equipment-untold moment [] before = refl
equipment-untold moment (doing ∷ done) before =
    note (noted_of doing) (log_of (moves_with Host moment done before)) ∙ equipment-untold moment done before
  where
    note : (said : Option Happening) (log : List Entry)
        → timed_by Equipment (with_note moment Host said log) ≡ timed_by Equipment log
    note None log = refl
    note (Some what) log = refl

-- ---- behind a step

abbrev MayBegin : List (ℕ × Happening) → Type 0
MayBegin [] = Unit {0}
MayBegin (note ∷ before) = MayStepBehind note.1 before

may-next : (moment : ℕ) (notes : List (ℕ × Happening)) → MayBegin notes → IsOfAStep moment notes
may-next moment [] may = tt
may-next moment (note ∷ before) may = inr may

-- a start
start-may : (side : Side) (note : Happening) (base : ℕ) (before : List (ℕ × Happening)) → IsStartOf side note base
    → MayStepBehind note before
start-may _ _ _ before (of_equipment found base) = tt
start-may _ _ _ before (of_host base) = tt
start-may _ _ _ before (of_journal found base) = tt

-- no step is under way behind these moves
record AreBetween (side : Side) (moves : List Move) : Type 0 where
  so_far : NotesAreOfSteps (timed_at side moves)
  may : MayBegin (timed_at side moves)

between-timed : (side : Side) (moment : ℕ) (moves : List Move) → AreBetween side moves
    → AreTimed moment (timed_at side moves)
between-timed side moment moves are =
    record { so_far = are.so_far; next = may-next moment (timed_at side moves) are.may }

-- behind the end of a step
may-ended :
    (side end : Side) (moment : ℕ) (written : List ℕ) (rest : List Doing) (before : List Move)
    → MayBegin (timed_at side before)
    → MayBegin (timed_at side (moves_with end moment (with_wrote written (Says StepEnded ∷ rest)) before))
may-ended Equipment Equipment moment [] rest before may = tt
may-ended Equipment Equipment moment (byte ∷ bytes) rest before may = tt
may-ended Host Host moment [] rest before may = tt
may-ended Host Host moment (byte ∷ bytes) rest before may = tt
may-ended Equipment Host moment written rest before may =
    subst MayBegin (sym (equipment-untold moment (with_wrote written (Says StepEnded ∷ rest)) before)) may
may-ended Host Equipment moment written rest before may =
    subst MayBegin (sym (host-untold moment (with_wrote written (Says StepEnded ∷ rest)) before)) may

-- what is said behind a start
said-may :
    (side end : Side) (moment : ℕ) (said : List Doing) (before : List Move) → AreOfStart said
    → MayBegin (timed_at side before) → MayBegin (timed_at side (moves_with end moment said before))
said-may side end moment [] before of may = may
said-may side end moment (Says StepEnded ∷ rest) before of may = may-ended side end moment [] rest before may
said-may side end moment (Says what ∷ rest) before of may = absurd of
said-may side end moment (Does own ∷ rest) before of may = absurd of
said-may side end moment (Gives place number block now ∷ rest) before of may = absurd of
said-may side end moment (Calls call ∷ rest) before of may = absurd of

start-between :
    (side end : Side) (moment : ℕ) (note : Happening) (base : ℕ) (said : List Doing) (before : List Move)
    → AreOfStart said → AreTimed moment (timed_at side before)
    → MayBegin (timed_at side (started_at end moment note base ∷ before))
    → AreBetween side (starts_with end moment note base said before)
start-between side end moment note base said before of timed may = record {
  so_far =
      (doings-timed side end moment said (started_at end moment note base ∷ before)
      (note-timed side end moment (Some note) (log_of before) timed)).so_far;
  may = said-may side end moment said (started_at end moment note base ∷ before) of may;
}

step-between :
    (side end : Side) (moment : ℕ) (done : List Doing) (before : List Move) → AreOfWholeStep moment done
    → AreBetween side before → AreBetween side (moves_with end moment done before)
step-between side end moment done before step are = record {
  so_far = (doings-timed side end moment done before (between-timed side moment before are)).so_far;
  may =
      subst (λ (ds : List Doing). MayBegin (timed_at side (moves_with end moment ds before)))
      (sym (step.is ∙ ap (with_wrote step.written) step.ends.is))
      (may-ended side end moment step.written step.ends.rest before are.may);
}

-- what becomes of a character is no note
fate-between :
    (side end : Side) (moment : ℕ) (kind : Kind) (before : List Move) → IsFate kind → AreBetween side before
    → AreBetween side (record { side = end; moment = moment; kind = kind } ∷ before)
fate-between side end moment (Did doing) before fate are = absurd fate
fate-between side end moment (Started note base) before fate are = absurd fate
fate-between side end moment Lost before fate are = record { so_far = are.so_far; may = are.may }
fate-between side end moment (Changed place byte) before fate are = record { so_far = are.so_far; may = are.may }
fate-between side end moment (Added byte) before fate are = record { so_far = are.so_far; may = are.may }

module _ {S T : Type 0} (equipment : ℕ → List Doing → S → Type 0) (host : ℕ → List Doing → T → Type 0)
    (plans : LinePlans) where
  -- at this moment behind a step that is cut short
  cut-timed :
      (side end : Side) (moment : ℕ) (before moves : List Move)
      → IsCutBehind equipment host plans end moment before moves → AreBetween side before
      → AreTimed moment (timed_at side moves)
  cut-timed side end moment before moves cut are =
      subst (λ (ms : List Move). AreTimed moment (timed_at side ms)) (sym cut.is)
      (doings-timed side end moment cut.done before (between-timed side moment before are))

  -- and the power that is lost then
  dark-timed :
      (side end : Side) (moment : ℕ) (before cut : List Move)
      → IsCutBehind equipment host plans end moment before cut → AreBetween side before
      → AreTimed moment (timed_at side (power_at end moment ∷ cut))
  dark-timed side end moment before cut is are =
      note-timed side end moment (Some Power) (log_of cut) (cut-timed side end moment before cut is are)

  -- the end that starts anew may begin a step, and the other one where it might before
  may-anew :
      (side end : Side) (moment : ℕ) (before cut : List Move) (note : Happening) (base : ℕ) → IsStartOf end note base
      → IsCutBehind equipment host plans end moment before cut → AreBetween side before
      → MayBegin (timed_at side (started_at end moment note base ∷ power_at end moment ∷ cut))
  may-anew Equipment Equipment moment before cut note base start is are =
      start-may Equipment note base (timed_at Equipment (power_at Equipment moment ∷ cut)) start
  may-anew Host Host moment before cut note base start is are =
      start-may Host note base (timed_at Host (power_at Host moment ∷ cut)) start
  may-anew Host Equipment moment before cut note base start is are =
      subst (λ (ms : List Move). MayBegin (timed_at Host ms)) (sym is.is)
      (subst MayBegin (sym (host-untold moment is.done before)) are.may)
  may-anew Equipment Host moment before cut note base start is are =
      subst (λ (ms : List Move). MayBegin (timed_at Equipment ms)) (sym is.is)
      (subst MayBegin (sym (equipment-untold moment is.done before)) are.may)

  begins :
      (side : Side) (note note_there : Happening) (base base_there : ℕ) (said said_there : List Doing)
      → IsStartOf Equipment note base → IsStartOf Host note_there base_there → AreOfStart said → AreOfStart said_there
      → AreBetween side
      (starts_with Host 0 note_there base_there said_there (starts_with Equipment 0 note base said []))
  begins side note note_there base base_there said said_there start start_there of of_there =
      start-between side Host 0 note_there base_there said_there earlier of_there
      (between-timed side 0 earlier (one side)) (both side)
    where
      earlier : List Move
      earlier = starts_with Equipment 0 note base said []

      first : (side : Side) → MayBegin (timed_at side (started_at Equipment 0 note base ∷ []))
      first Equipment = start-may Equipment note base [] start
      first Host = tt

      one : (side : Side) → AreBetween side earlier
      one side = start-between side Equipment 0 note base said [] of (record { so_far = tt; next = tt }) (first side)

      both : (side : Side) → MayBegin (timed_at side (started_at Host 0 note_there base_there ∷ earlier))
      both Equipment = (one Equipment).may
      both Host = start-may Host note_there base_there (timed_at Host earlier) start_there

  steps-between : (side : Side) (moves : List Move) → AreSteps equipment host plans moves → AreBetween side moves
  steps-between side moves (both_start _ note note_there base base_there said said_there is start start_there of
      of_there at) =
      subst (AreBetween side) (sym is)
      (begins side note note_there base base_there said said_there start start_there of of_there)
  steps-between side moves (one_step _ before end moment done is step at steps) =
      subst (AreBetween side) (sym is)
      (step-between side end moment done before step (steps-between side before steps))
  steps-between side moves (line_changes _ before end moment kind is fate steps) =
      subst (AreBetween side) (sym is)
      (fate-between side end moment kind before fate (steps-between side before steps))
  steps-between side moves (starts_anew _ cut before end moment note base said is start of is_cut at steps) =
      let are = steps-between side before steps in
      subst (AreBetween side) (sym is)
      (start-between side end moment note base said (power_at end moment ∷ cut) of
      (dark-timed side end moment before cut is_cut are)
      (may-anew side end moment before cut note base start is_cut are))

  all-timed : (side : Side) (moves : List Move) → ComeInSteps equipment host plans moves
      → NotesAreOfSteps (timed_at side moves)
  all-timed side moves (at_a_step steps) = (steps-between side moves steps).so_far
  all-timed side moves (in_a_step before end moment cut steps) =
      (cut-timed side end moment before moves cut (steps-between side before steps)).so_far
  all-timed side moves (without_power dark before end moment is cut steps) =
      subst (λ (ms : List Move). NotesAreOfSteps (timed_at side ms)) (sym is)
      (dark-timed side end moment before dark cut (steps-between side before steps)).so_far

-- what stands behind the moves is no note
no-notes-timed : (side : Side) (last log : List Entry) → AreNoNotes last
    → timed_by side (last ++ log) ≡ timed_by side log
no-notes-timed side [] log none = refl
no-notes-timed side (Noted moment end what ∷ last) log none = absurd none.0
no-notes-timed side (Slipped moment end frame characters ∷ last) log none = no-notes-timed side last log none.1
no-notes-timed side (Ended moment ∷ last) log none = no-notes-timed side last log none.1

-- whatever the host is
pub are-in-steps :
    {T : Type 0} (plans : Plans) (host : ℕ → List Doing → T → Type 0) (log : List Entry)
    → IsOfMoves (DidOf plans.equipment) host (plans_of plans) log → HasSteps log
are-in-steps plans host log moved = record { equipment = of Equipment; host = of Host }
  where
    of : (side : Side) → NotesAreOfSteps (timed_by side log)
    of side =
        subst NotesAreOfSteps
        (sym (ap (timed_by side) moved.is ∙ no-notes-timed side moved.last (log_of moved.moves) moved.no_notes))
        (all-timed (DidOf plans.equipment) host (plans_of plans) side moved.moves moved.steps)

pub have-steps : SafeLogsHaveSteps
have-steps plans log safe = are-in-steps plans (HostDid plans.host) log safe.in_order.moved
