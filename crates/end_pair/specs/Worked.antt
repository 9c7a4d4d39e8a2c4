-- A run that can be followed by hand: a host that sends one block, to an equipment that takes it, with no layer above.
use Rattle.std.specs.Prelude.{◌≡◌, zero, suc, ℕ, ◌+◌, true, false, List, [], ◌∷◌, ◌++◌, Option, Some, None}
use Rattle.block_codec.specs.Block.{BlockView}
use Rattle.disk_base.specs.declared.cut.CutChoice.{CutChoice}
use Rattle.disk_base.specs.declared.cut.CutChoice.TheVariants.{New, Old}
use Rattle.gl_base.specs.declared.side.Side.{Side}
use Rattle.gl_base.specs.declared.side.Side.TheVariants.{Equipment, Host}
use Rattle.line_end.specs.State.{LineState, new_state}
use Rattle.line_end.specs.Step.{LineCall, line_step}
use Rattle.line_end.specs.Step.LineCall.{Send, Take, Tick}
use Rattle.line_end.specs.Worked.{are_you_there, its_frame, times_with}
use Rattle.line_schedule.specs.declared.event.Event.{Event}
use Rattle.line_schedule.specs.declared.event.Event.TheVariants as event
use Rattle.message_end.specs.Core.{Step, Went}
use Rattle.message_end.specs.Core.Went.{Goes, Spent}
use Rattle.message_end.specs.Ends.{Asked, Input, Loss, Machine, none_asked}
use Rattle.message_end.specs.Ends.Input.{Char, Command, Time}
use Rattle.message_end.specs.Starts.{bare_start}
use Rattle.trace_log.specs.Log.{Entry, Happening}
use Rattle.trace_log.specs.Log.Entry.{Ended, Noted, Slipped}
use Rattle.trace_log.specs.Log.Happening.{EquipmentStarted, Gone, HostStarted, Power, Stored, Wrote}
use Rattle.trace_log.specs.declared.commands.HostCommand.{HostCommand}
use Rattle.end_pair.specs.declared.answers.WorldStep.TheVariants as answer
use Rattle.end_pair.specs.Run.{log_of, piece_of, went_of}
use Rattle.end_pair.specs.World.{Piece, after_events, at_start}

-- its line, and the block that it is still to give to it
pub record Sender : Type 0 where
  pub line : LineState
  pub unsent : Option BlockView

-- a call of the line behind those before it, with what they have written
abbrev pub called : LineCall → Step LineState Happening → Step LineState Happening
called call step =
    let outcome = line_step step.next call in
    record { next = outcome.next; notes = step.notes; written = step.written ++ outcome.written }

abbrev pub taken : {C : Type 0} → Input C → ℕ → Step LineState Happening → Step LineState Happening
taken (Char byte) now step = called (Take byte now) (called (Tick now) step)
taken Time now step = called (Tick now) step
taken (Command command) now step = called (Tick now) step

abbrev pub sent : Option BlockView → ℕ → Step LineState Happening → Step LineState Happening
sent None now step = step
sent (Some block) now step = called (Send block now) step

-- it sends its block in its first step
abbrev pub sends : {C : Type 0} → Sender → Input C → ℕ → Went Sender Happening
sends s input now =
    let step = sent s.unsent now (taken input now (record { next = s.line; notes = []; written = [] })) in
    Goes (record { next = record { line = step.next; unsent = None }; notes = step.notes; written = step.written })

abbrev pub sender : {C : Type 0} → Machine Sender C
sender = record {
  act = λ s input now. sends s input now;
  restart = λ s now. Goes (record { next = s; notes = []; written = [] });
  line = λ s. s.line;
  lacks_room = λ s input now. false;
  stops = λ s input now. [];
  start_stops = [];
  asks = λ s input now. none_asked;
  start_asks = none_asked;
  losses = λ s input now. [];
  first_use = λ s. none_asked;
  anew_use = λ s. none_asked;
}

abbrev pub begins : Side → Option BlockView → Step Sender Happening
begins side unsent = record {
  next = record { line = new_state side (times_with 3); unsent = unsent };
  notes = bare_start side 0 ∷ [];
  written = [];
}

abbrev pub equipment : Step Sender Happening
equipment = begins Equipment None

abbrev pub host : Step Sender Happening
host = begins Host (Some are_you_there)

-- ENQ, EOT, 13 characters of the frame, ACK
abbrev pub events : List Event
events = event.To Equipment 1 ∷ event.To Host 1 ∷ event.To Equipment 13 ∷ event.To Host 1 ∷ []

-- the first character of the frame is lost, and noise of the same byte comes in its place
abbrev pub replaced : List Event
replaced =
    event.To Equipment 1 ∷ event.To Host 1 ∷ event.Lose Equipment 1 ∷ event.Add Equipment 10 ∷ event.To Equipment 13
    ∷ event.Wait 5 ∷ []

abbrev pub first_entries : List Entry
first_entries =
    Noted 0 Host (Wrote its_frame) ∷ Noted 0 Equipment (Wrote (4 ∷ [])) ∷ Noted 0 Host (Wrote (5 ∷ []))
    ∷ Noted 0 Host (HostStarted None) ∷ Noted 0 Equipment (EquipmentStarted [] 0) ∷ []

-- the block arrives, and the host takes its ACK: 18 steps. With the noise in it, it is a slip, and nothing follows
pub record WorkedRuns : Type 0 where
  pub carried :
      log_of sender sender equipment host events ≡ Ended 0 ∷ Noted 0 Equipment (Wrote (6 ∷ [])) ∷ first_entries
  pub steps : (piece_of sender sender equipment host events).world.steps ≡ 18
  pub slipped : log_of sender sender equipment host replaced ≡ Slipped 0 Equipment None its_frame ∷ first_entries
  pub ended : went_of sender sender equipment host replaced ≡ answer.Slip

-- ---- losses of power

-- an end that counts on a disk: each step but the first one of a start stores the count, by one call, and tells so
pub record Counter : Type 0 where
  pub count : ℕ
  pub awake : ℕ

abbrev pub counted_left : ℕ → CutChoice → Counter
counted_left count New = record { count = count + 1; awake = 0 }
counted_left count choice = record { count = count; awake = 0 }

-- how many steps since the start count as none
abbrev pub counted : Counter → ℕ → Went Counter Happening
counted s zero = Goes (record { next = record s { awake = 1 }; notes = []; written = [] })
counted s (suc n) =
    Goes (record { next = record s { count = s.count + 1 }; notes = Stored s.count ∷ []; written = [] })

abbrev pub counter_asks : ℕ → Asked
counter_asks zero = none_asked
counter_asks (suc n) = record { calls = 1; bytes = 1 }

abbrev pub counter_losses : ℕ → ℕ → List (Loss Counter)
counter_losses count zero = []
counter_losses count (suc n) = record { bytes = 1; front = Gone count ∷ []; left = counted_left count } ∷ []

-- it tells its count as the base of its numbers
abbrev pub counts_on : Side → ℕ → Happening
counts_on Equipment count = EquipmentStarted [] count
counts_on Host count = HostStarted (Some (record { found = []; base = count }))

abbrev pub counter : {C : Type 0} → Side → Machine Counter C
counter side = record {
  act = λ s input now. counted s s.awake;
  restart =
      λ s now. Goes (record { next = record s { awake = 0 }; notes = counts_on side s.count ∷ []; written = [] });
  line = λ s. new_state side (times_with 3);
  lacks_room = λ s input now. false;
  stops = λ s input now. [];
  start_stops = [];
  asks = λ s input now. counter_asks s.awake;
  start_asks = none_asked;
  losses = λ s input now. counter_losses s.count s.awake;
  -- so there is room for one more at first, and for the bytes of two behind a start anew
  first_use = λ s. record { calls = 65535; bytes = 0 };
  anew_use = λ s. record { calls = 0; bytes = 67108862 };
}

abbrev pub counts_from : Side → Step Counter Happening
counts_from side = record { next = record { count = 0; awake = 1 }; notes = counts_on side 0 ∷ []; written = [] }

-- a counter whose disk has no room for the count
abbrev pub full_counter : {C : Type 0} → Machine Counter C
full_counter = record (counter Host) {
  act = λ s input now. Spent (record { next = s; notes = []; written = [] });
  lacks_room = λ s input now. true;
}

abbrev pub counters_with : Machine Counter HostCommand → List Event → Piece Counter Counter
counters_with host events =
    after_events (counter Equipment) host events
    (at_start (counter Equipment) host (counts_from Equipment) (counts_from Host)).world

abbrev pub counters_after : List Event → Piece Counter Counter
counters_after = counters_with (counter Host)

-- both lose their power, and count on until one finds no room
abbrev pub crowding : List Event
crowding =
    event.Cut 1 Old ∷ event.Wait 5 ∷ event.HostCut 1 Old ∷ event.Wait 5 ∷ event.Wait 5 ∷ event.Wait 5 ∷ []

-- the power goes at the call of a wait, and the host doesn't wait: the store is done by `new` alone; a cut in front of
-- another one is replaced; where nothing is stored power is lost at the end of the event; and the last one does
-- nothing.
-- The lost step counts among the steps, and so does the one behind the start
pub record WorkedLosses : Type 0 where
  pub done :
      (counters_after (event.Cut 1 New ∷ event.Wait 5 ∷ [])).entries
      ≡ Noted 5 Equipment (EquipmentStarted [] 1) ∷ Noted 5 Equipment Power ∷ Noted 5 Equipment (Gone 0) ∷ []
  pub undone :
      (counters_after (event.Cut 3 New ∷ event.Cut 1 Old ∷ event.Wait 5 ∷ [])).entries
      ≡ Noted 5 Equipment (EquipmentStarted [] 0) ∷ Noted 5 Equipment Power ∷ Noted 5 Equipment (Gone 0) ∷ []
  pub behind :
      (counters_after (event.Cut 1 New ∷ event.Lose Host 1 ∷ [])).entries
      ≡ Noted 0 Equipment (EquipmentStarted [] 0) ∷ Noted 0 Equipment Power ∷ []
  pub last : (counters_after (event.Cut 1 New ∷ [])).entries ≡ []
  pub steps : (counters_after (event.Cut 1 New ∷ event.Wait 5 ∷ [])).world.steps ≡ 2
  pub went_on : (counters_after (event.Cut 1 New ∷ event.Wait 5 ∷ [])).went ≡ answer.Went
  -- a cut behind the last call that there is room for comes at the event's end
  pub too_far :
      (counters_after (event.Cut 3 New ∷ event.Wait 5 ∷ [])).entries
      ≡ Noted 5 Equipment (EquipmentStarted [] 1) ∷ Noted 5 Equipment Power ∷ Noted 5 Host (Stored 0)
      ∷ Noted 5 Equipment (Stored 0) ∷ []
  -- without one the run has no turn left at the call behind it, a cut at that call loses power
  pub full :
      (counters_after (event.Wait 5 ∷ event.Wait 5 ∷ event.Wait 5 ∷ [])).entries
      ≡ Noted 10 Equipment (Gone 1) ∷ Noted 5 Host (Stored 0) ∷ Noted 5 Equipment (Stored 0) ∷ []
  pub turns : (counters_after (event.Wait 5 ∷ event.Wait 5 ∷ event.Wait 5 ∷ [])).went ≡ answer.Turns
  pub lost :
      (counters_after (event.Wait 5 ∷ event.Cut 1 New ∷ event.Wait 5 ∷ [])).entries
      ≡ Noted 10 Equipment (EquipmentStarted [] 2) ∷ Noted 10 Equipment Power ∷ Noted 10 Equipment (Gone 1)
      ∷ Noted 5 Host (Stored 0) ∷ Noted 5 Equipment (Stored 0) ∷ []

-- so it is with the host's: the equipment has made its step of a wait by then. Of two cuts the later one counts,
-- whichever ends they name; and at the event's end the line is emptied both ways
pub record WorkedHostLosses : Type 0 where
  pub done :
      (counters_after (event.HostCut 1 New ∷ event.Wait 5 ∷ [])).entries
      ≡ Noted 5 Host (counts_on Host 1) ∷ Noted 5 Host Power ∷ Noted 5 Host (Gone 0) ∷ Noted 5 Equipment (Stored 0)
      ∷ []
  pub steps : (counters_after (event.HostCut 1 New ∷ event.Wait 5 ∷ [])).world.steps ≡ 3
  pub replaced :
      (counters_after (event.HostCut 1 New ∷ event.Cut 1 New ∷ event.Wait 5 ∷ [])).entries
      ≡ (counters_after (event.Cut 1 New ∷ event.Wait 5 ∷ [])).entries
  pub replaces :
      (counters_after (event.Cut 1 New ∷ event.HostCut 1 New ∷ event.Wait 5 ∷ [])).entries
      ≡ (counters_after (event.HostCut 1 New ∷ event.Wait 5 ∷ [])).entries
  pub behind :
      (counters_after (event.Add Host 7 ∷ event.HostCut 1 New ∷ event.Add Equipment 7 ∷ [])).entries
      ≡ Noted 0 Host (counts_on Host 0) ∷ Noted 0 Host Power ∷ []
  pub emptied :
      (counters_after (event.Add Host 7 ∷ event.HostCut 1 New ∷ event.Add Equipment 7 ∷ [])).world.ways
      ≡ (counters_after []).world.ways
  -- the calls of the equipment's disk count on: it has room for one more in all
  pub counted_on :
      (counters_after (event.Wait 5 ∷ event.HostCut 1 New ∷ event.Lose Host 1 ∷ event.Wait 5 ∷ [])).entries
      ≡ Noted 10 Equipment (Gone 1) ∷ Noted 5 Host (counts_on Host 1) ∷ Noted 5 Host Power ∷ Noted 5 Host (Stored 0)
      ∷ Noted 5 Equipment (Stored 0) ∷ []
  -- behind a start anew there is room for the bytes of two counts, though for many more calls
  pub crowded :
      (counters_after crowding).entries
      ≡ Noted 20 Equipment (Gone 2) ∷ Noted 15 Host (Stored 0) ∷ Noted 15 Equipment (Stored 1)
      ∷ Noted 10 Host (counts_on Host 0) ∷ Noted 10 Host Power ∷ Noted 10 Host (Gone 0)
      ∷ Noted 10 Equipment (Stored 0) ∷ Noted 5 Equipment (EquipmentStarted [] 0) ∷ Noted 5 Equipment Power
      ∷ Noted 5 Equipment (Gone 0) ∷ []
  pub no_turn : (counters_after crowding).went ≡ answer.Turns
  -- a step that lacks room in its store ends the run, where its disk isn't stopped before
  pub full : (counters_with full_counter (event.Wait 5 ∷ [])).went ≡ answer.JournalFull
  pub lost :
      (counters_with full_counter (event.HostCut 1 New ∷ event.Wait 5 ∷ [])).entries
      ≡ (counters_after (event.HostCut 1 New ∷ event.Wait 5 ∷ [])).entries
