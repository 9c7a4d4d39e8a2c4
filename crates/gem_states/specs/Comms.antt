-- The communications state model, as its table.
use Rattle.std.specs.Prelude.{◌≡◌, ◌≢◌, ℕ, Bool, false, ◌+◌, nat_le, List, fold, Option, Some, None, IsSome, if◌then◌else◌}
use Rattle.gem_states.specs.declared.comms.CommsIn.{CommsIn}
use Rattle.gem_states.specs.declared.comms.CommsIn.TheVariants.{Enable, Disable, Accepted, Denied, SendFailed, HostRequest, OtherMessage, Time}
use Rattle.gem_states.specs.declared.comms.CommsOut.{CommsOut}
use Rattle.gem_states.specs.declared.comms.CommsOut.TheVariants.{Nothing, SendRequest, Answer}
use Rattle.gem_states.specs.declared.comms.CommsState.{CommsState}
use Rattle.gem_states.specs.declared.comms.CommsState.TheVariants.{Disabled, WaitCra, WaitDelay, Communicating}

-- the state, and when WAIT DELAY ends (SEMI E30, communications state model)
pub record CommsView : Type 0 where
  pub state : CommsState
  pub deadline : Option ℕ

-- a deadline runs in WAIT DELAY, and in no other state (SEMI E30, WAIT DELAY)
pub record IsComms (comms : CommsView) : Type 0 where
  pub waits : comms.state ≡ WaitDelay → IsSome comms.deadline
  pub free : comms.state ≢ WaitDelay → comms.deadline ≡ None

-- an input at its moment, with the delay in force, both in milliseconds
pub record CommsEntry : Type 0 where
  pub input : CommsIn
  pub delay : ℕ
  pub now : ℕ

-- the next state, and what is to be sent
pub record CommsOutcome : Type 0 where
  pub next : CommsView
  pub output : CommsOut

-- a state without a deadline
abbrev pub free_in : CommsState → CommsView
free_in state = record { state = state; deadline = None }

abbrev pub quietly : CommsView → CommsOutcome
quietly next = record { next = next; output = Nothing }

-- S1F13 is sent, and its answer awaited (SEMI E30, WAIT CRA)
abbrev pub asks : CommsOutcome
asks = record { next = free_in WaitCra; output = SendRequest }

-- the host's S1F13 is answered, which establishes the communication (SEMI E30, COMMUNICATING)
abbrev pub answers : CommsOutcome
answers = record { next = free_in Communicating; output = Answer }

-- the next S1F13 has to wait (SEMI E30, WAIT DELAY)
abbrev pub delays : ℕ → ℕ → CommsOutcome
delays delay now = quietly (record { state = WaitDelay; deadline = Some (now + delay) })

-- the deadline has come: the moment is not before it
abbrev pub is_due : Option ℕ → ℕ → Bool
is_due None now = false
is_due (Some deadline) now = nat_le deadline now

-- the table: state, input, and what follows. What has no row of its own changes nothing (SEMI E30, communications
-- state model)
abbrev pub comms_row : CommsState → CommsIn → CommsView → ℕ → ℕ → CommsOutcome
comms_row Disabled Enable comms delay now = asks
comms_row Disabled _ comms delay now = quietly comms
comms_row WaitCra Disable comms delay now = quietly (free_in Disabled)
comms_row WaitCra Accepted comms delay now = quietly (free_in Communicating)
comms_row WaitCra Denied comms delay now = delays delay now
comms_row WaitCra SendFailed comms delay now = delays delay now
comms_row WaitCra HostRequest comms delay now = answers
comms_row WaitCra _ comms delay now = quietly comms
comms_row WaitDelay Disable comms delay now = quietly (free_in Disabled)
comms_row WaitDelay HostRequest comms delay now = answers
comms_row WaitDelay OtherMessage comms delay now = asks
comms_row WaitDelay Time comms delay now = if is_due comms.deadline now then asks else quietly comms
comms_row WaitDelay _ comms delay now = quietly comms
comms_row Communicating Disable comms delay now = quietly (free_in Disabled)
comms_row Communicating SendFailed comms delay now = asks
comms_row Communicating HostRequest comms delay now = answers
comms_row Communicating _ comms delay now = quietly comms

abbrev pub comms_step : CommsView → CommsEntry → CommsOutcome
comms_step comms entry = comms_row comms.state entry.input comms entry.delay entry.now

abbrev pub comms_next : CommsView → CommsEntry → CommsView
comms_next comms entry = (comms_step comms entry).next

-- the state after these inputs, the oldest first, from the start on, which is DISABLED (SEMI E30, communications state
-- model)
abbrev pub comms_after : List CommsEntry → CommsView
comms_after past = fold comms_next (free_in Disabled) past
