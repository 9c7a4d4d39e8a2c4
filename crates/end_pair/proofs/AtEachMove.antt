-- What doings keep between two steps they keep at each move of a run: a step is taken back doing by doing.
use Rattle.std.proofs.Common.{ℕ, List, [], ◌∷◌, sym, subst}
use Rattle.gl_base.specs.declared.side.Side.{Side}
use Rattle.gl_base.specs.declared.side.Side.TheVariants.{Equipment, Host}
use Rattle.message_end.specs.Doings.{Doing}
use Rattle.message_end.specs.Doings.Doing.{Calls, Does, Gives, Says}
use Rattle.message_end.specs.Moves.{Kind, LinePlans, Move}
use Rattle.message_end.specs.Moves.Kind.{Did}
use Rattle.message_end.specs.Starts.{AreOfStart}
use Rattle.message_end.proofs.Starts.{AreSaidAtStart, IsSaidAtStart, said-of-start}
use Rattle.trace_log.specs.Log.{Happening}
use Rattle.end_pair.specs.InSteps.{AreAtStates, AreSteps, ComeInSteps, IsCutBehind, IsFate, moves_with, power_at, started_at, starts_with}
use Rattle.end_pair.specs.InSteps.AreSteps.{both_start, line_changes, one_step, starts_anew}
use Rattle.end_pair.specs.InSteps.ComeInSteps.{at_a_step, in_a_step, without_power}

-- what the doings so far keep, and what each move does; of an end's doing the former says the latter
pub record AreKept {S T : Type 0}
    (equipment : ℕ → List Doing → S → Type 0) (host : ℕ → List Doing → T → Type 0) (plans : LinePlans)
    (SoFar AtEach : List Move → Type 0) : Type 0 where
  pub law : (moves : List Move) → AreAtStates equipment host plans moves → SoFar moves
  pub none : AtEach []
  pub back :
      (side : Side) (moment : ℕ) (doing : Doing) (before : List Move)
      → SoFar (record { side = side; moment = moment; kind = Did doing } ∷ before)
      → SoFar before × (AtEach before → AtEach (record { side = side; moment = moment; kind = Did doing } ∷ before))
  pub fate :
      (side : Side) (moment : ℕ) (kind : Kind) (before : List Move) → IsFate kind → AtEach before
      → AtEach (record { side = side; moment = moment; kind = kind } ∷ before)
  pub start :
      (side : Side) (moment : ℕ) (note : Happening) (base : ℕ) (before : List Move) → AtEach before
      → AtEach (started_at side moment note base ∷ before)
  -- and what it says behind that
  pub said :
      (side : Side) (moment : ℕ) (what : Happening) (before : List Move) → IsSaidAtStart what → AtEach before
      → AtEach (record { side = side; moment = moment; kind = Did (Says what) } ∷ before)
  pub power :
      (side : Side) (moment : ℕ) (before : List Move) → AtEach before → AtEach (power_at side moment ∷ before)

module _ {S T : Type 0}
    (equipment : ℕ → List Doing → S → Type 0) (host : ℕ → List Doing → T → Type 0) (plans : LinePlans)
    (SoFar AtEach : List Move → Type 0) (kept : AreKept equipment host plans SoFar AtEach) where
  doings-back :
      (side : Side) (moment : ℕ) (done : List Doing) (before : List Move) → SoFar (moves_with side moment done before)
      → SoFar before × (AtEach before → AtEach (moves_with side moment done before))
  doings-back side moment [] before so_far = (so_far, λ each. each)
  doings-back side moment (doing ∷ done) before so_far =
      let one = kept.back side moment doing (moves_with side moment done before) so_far in
      let rest = doings-back side moment done before one.0 in
      (rest.0, λ each. one.1 (rest.1 each))

  cut-keeps :
      (side : Side) (moment : ℕ) (before moves : List Move)
      → IsCutBehind equipment host plans side moment before moves → AtEach before → AtEach moves
  cut-keeps side moment before moves cut each =
      let whole = kept.law (moves_with side moment cut.later moves) cut.could in
      let so_far = (doings-back side moment cut.later moves whole).0 in
      subst AtEach (sym cut.is) ((doings-back side moment cut.done before (subst SoFar cut.is so_far)).1 each)

  said-keeps : (side : Side) (moment : ℕ) (said : List Doing) (before : List Move) → AreSaidAtStart said → AtEach before
      → AtEach (moves_with side moment said before)
  said-keeps side moment [] before are each = each
  said-keeps side moment (Says what ∷ said) before are each =
      kept.said side moment what (moves_with side moment said before) are.0
      (said-keeps side moment said before are.1 each)
  said-keeps side moment (Does own ∷ said) before are each = absurd are
  said-keeps side moment (Gives place number block now ∷ said) before are each = absurd are
  said-keeps side moment (Calls call ∷ said) before are each = absurd are

  start-keeps :
      (side : Side) (moment : ℕ) (note : Happening) (base : ℕ) (said : List Doing) (before : List Move)
      → AreOfStart said → AtEach before → AtEach (starts_with side moment note base said before)
  start-keeps side moment note base said before of each =
      said-keeps side moment said (started_at side moment note base ∷ before) (said-of-start said of)
      (kept.start side moment note base before each)

  steps-keep : (moves : List Move) → AreSteps equipment host plans moves → AtEach moves
  steps-keep moves (both_start _ note note_there base base_there said said_there is start start_there of of_there at) =
      subst AtEach (sym is)
      (start-keeps Host 0 note_there base_there said_there (starts_with Equipment 0 note base said []) of_there
      (start-keeps Equipment 0 note base said [] of kept.none))
  steps-keep moves (one_step _ before side moment done is step at steps) =
      subst AtEach (sym is)
      ((doings-back side moment done before (subst SoFar is (kept.law moves at))).1 (steps-keep before steps))
  steps-keep moves (line_changes _ before side moment kind is fate steps) =
      subst AtEach (sym is) (kept.fate side moment kind before fate (steps-keep before steps))
  steps-keep moves (starts_anew _ cut before side moment note base said is start of is_cut at steps) =
      subst AtEach (sym is)
      (start-keeps side moment note base said (power_at side moment ∷ cut) of
      (kept.power side moment cut (cut-keeps side moment before cut is_cut (steps-keep before steps))))

  pub at-each-move : (moves : List Move) → ComeInSteps equipment host plans moves → AtEach moves
  at-each-move moves (at_a_step steps) = steps-keep moves steps
  at-each-move moves (in_a_step before side moment cut steps) =
      cut-keeps side moment before moves cut (steps-keep before steps)
  at-each-move moves (without_power dark before side moment is cut steps) =
      subst AtEach (sym is)
      (kept.power side moment dark (cut-keeps side moment before dark cut (steps-keep before steps)))
