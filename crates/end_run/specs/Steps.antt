-- One step of an end over a link, and what it is told as steps (this profile).
use Rattle.std.specs.Prelude.{ℕ, Bool, true, false, List, [], ◌∷◌, ◌++◌, map, Option, Some, None}
use Rattle.gl_base.specs.declared.side.Side.{Side}
use Rattle.message_end.specs.Core.{Step, Went}
use Rattle.message_end.specs.Core.Went.{Goes, Spent}
use Rattle.message_end.specs.Ends.{Asked, Input, Machine, wrote}
use Rattle.message_end.specs.Ends.Input.{Command}
use Rattle.trace_log.specs.Laws.{log_with}
use Rattle.trace_log.specs.Log.{Entry, Happening}
use Rattle.trace_log.specs.Text.{text_of}
use Rattle.end_run.specs.declared.ending.Ending.{Ending}
use Rattle.end_run.specs.declared.ending.Ending.TheVariants as ending
use Rattle.end_run.specs.Acts.{Act, StepAt}
use Rattle.end_run.specs.Acts.Act.{Connects, Sends, Stands, Writes}
use Rattle.end_run.specs.Commands.{Telling}
use Rattle.end_run.specs.Commands.Telling.{IsOther, Says, Stops, Tells}
use Rattle.end_run.specs.Pieces.{Piece, and_more, still, stops}

-- what was noted at a moment, as entries
abbrev pub entries_at : Side → ℕ → List Happening → List Entry
entries_at side now noted = log_with now side noted []

-- and are sent
abbrev pub sends : {S C : Type 0} → List ℕ → List (Act S C)
sends [] = []
sends (byte ∷ bytes) = Sends (byte ∷ bytes) ∷ []

-- a step, which its disk may stop with these notes
abbrev pub stands : {S C : Type 0} → StepAt S C → List (List Happening) → Asked → Option S → Act S C
stands at stops asked end = Stands at (map (entries_at at.side at.moment) stops) asked end

-- what ends a step early: it lacks room in the end's own store, or else numbers
abbrev pub spent_for : (lacks_room : Bool) → Ending
spent_for true = ending.Full
spent_for false = ending.NumbersSpent

-- the lines of what was noted at a moment are written, and this behind them
abbrev pub notes_at : {S C : Type 0} → Side → ℕ → List Happening → List ℕ → Act S C
notes_at side now noted reply = Writes (entries_at side now noted) (text_of (entries_at side now noted) ++ reply)

-- a step is made, its lines are written with the reply behind them, and then its characters are sent; where it ends
-- early nothing is replied or sent, and the run ends
abbrev pub made :
    {S C : Type 0} → StepAt S C → List (List Happening) → Asked → (lacks_room : Bool) → (reply : List ℕ)
    → Went S Happening → Piece S C
made at stops asked lacks_room reply (Goes step) = record {
  end = step.next;
  acts =
      stands at stops asked (Some step.next)
      ∷ notes_at at.side at.moment (step.notes ++ wrote step.written) reply ∷ sends step.written;
  ended = None;
}
made at stops asked lacks_room reply (Spent step) = record {
  end = step.next;
  acts = stands at stops asked None ∷ notes_at at.side at.moment step.notes [] ∷ [];
  ended = Some (spent_for lacks_room);
}

-- the lines of a start are written before the end connects
abbrev pub started : {S C : Type 0} → Side → Step S Happening → Piece S C
started side start = record {
  end = start.next;
  acts = notes_at side 0 start.notes [] ∷ Connects ∷ [];
  ended = None;
}

-- a text is written, and nothing else is done
abbrev pub said : {S C : Type 0} → List ℕ → S → Piece S C
said text s = record { end = s; acts = Writes [] text ∷ []; ended = None }

abbrev pub step_at : {S C : Type 0} → Side → ℕ → Input C → S → StepAt S C
step_at side now input s = record { side = side; moment = now; state = s; input = input }

module _ {S C : Type 0} (machine : Machine S C) (side : Side) where
  abbrev pub replied : List ℕ → ℕ → Input C → S → Piece S C
  replied reply now input s =
      made (step_at side now input s) (machine.stops s input now) (machine.asks s input now)
      (machine.lacks_room s input now) reply (machine.act s input now)

  abbrev pub stepped : ℕ → Input C → S → Piece S C
  stepped now input s = replied [] now input s

  -- a command is a step with it; another telling writes its text, or stops the end, or does nothing
  abbrev pub tells : ℕ → Telling C → S → Piece S C
  tells now (Tells command reply) s = replied reply now (Command command) s
  tells now (Says text) s = said text s
  tells now Stops s = stops ending.Stopped s
  tells now IsOther s = still s

  abbrev pub all_told : ℕ → List (Telling C) → S → Piece S C
  all_told now [] s = still s
  all_told now (telling ∷ tellings) s = and_more (tells now telling s) (all_told now tellings)

  -- what has come is told first, each as a step of its own, and then comes what was answered
  abbrev pub answered : ℕ → List (Telling C) → Input C → S → Piece S C
  answered now tellings input s = and_more (all_told now tellings s) (stepped now input)
