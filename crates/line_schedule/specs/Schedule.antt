-- What the text of a schedule means, and why it means none (this profile).
use Rattle.std.specs.Prelude.{◌≡◌, ◌⊎◌, ℕ, ◌<◌, ◌≤◌, Bool, true, false, List, length, All}
use Rattle.line_schedule.specs.declared.event.Event.{Event}
use Rattle.line_schedule.specs.declared.schedule.JournalSchedule.{JournalSchedule}
use Rattle.line_schedule.specs.declared.schedule.Schedule.{Schedule}
use Rattle.line_schedule.specs.Events.{EventFitsIn, may_stand}
use Rattle.line_schedule.specs.Grammar.{IsEventLine, IsPassedOver}
use Rattle.line_schedule.specs.Lines.{StopsAt, Tell, lines_of}

-- how many lines a schedule may have
abbrev pub most_lines : ℕ
most_lines = 131072

-- events of a schedule have no moment of their own
abbrev pub moment_of_event : Event → ℕ
moment_of_event event = 0

-- ---- with losses of the host's power, or without

module _ (host_loses : Bool) where
  -- the line tells an event that may stand there, whatever is before it
  abbrev pub IsToldEvent : ℕ → Event → List ℕ → Type 0
  IsToldEvent least event line = (may_stand host_loses event ≡ true) × IsEventLine event line

  -- the text is a schedule of these events
  pub record IsScheduleIn (text : List ℕ) (events : List Event) : Type 0 where
    pub tell : Tell IsToldEvent moment_of_event 0 (lines_of text) events
    pub within : length (lines_of text) ≤ most_lines

  -- the line of this number, counted from 1, is of a kind, and those before it are passed over or tell such events
  abbrev pub ScheduleStopsAt : List ℕ → ℕ → (List ℕ → Type 0) → Type 0
  ScheduleStopsAt text number Is = StopsAt IsToldEvent moment_of_event most_lines text number (λ least line. Is line)

  -- the line is neither passed over nor tells such an event
  abbrev pub TellsNoEvent : List ℕ → Type 0
  TellsNoEvent line = (IsPassedOver line → ⊥) × ((event : Event) → IsToldEvent 0 event line → ⊥)

  -- that line is outside the grammar, or past the last that a schedule may have
  abbrev pub IsOutsideIn : List ℕ → ℕ → Type 0
  IsOutsideIn text number = ScheduleStopsAt text number (λ line. (most_lines < number) ⊎ TellsNoEvent line)

  -- all events are within their ranges, and there aren't too many
  pub record FitIn (told : List Event) : Type 0 where
    pub events : All (EventFitsIn host_loses) told
    pub number : length told ≤ most_lines

-- ---- of a host that doesn't lose its power

abbrev pub IsSchedule : List ℕ → List Event → Type 0
IsSchedule = IsScheduleIn false

abbrev pub OutsideAt : List ℕ → ℕ → Type 0
OutsideAt = IsOutsideIn false

abbrev pub Fits : Schedule → Type 0
Fits schedule = FitIn false schedule.events

-- ---- of a host with a journal

abbrev pub IsJournalSchedule : List ℕ → List Event → Type 0
IsJournalSchedule = IsScheduleIn true

abbrev pub OutsideJournalAt : List ℕ → ℕ → Type 0
OutsideJournalAt = IsOutsideIn true

abbrev pub JournalFits : JournalSchedule → Type 0
JournalFits schedule = FitIn true schedule.events
