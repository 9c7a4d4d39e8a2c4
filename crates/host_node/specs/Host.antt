-- The host: its states, and what it does in a step (SEMI E30, communications state model; this profile).
use Rattle.std.specs.Prelude.{◌≡◌, ℕ, Bool, true, false, not, ◌==◌, ◌&&◌, is_some, nat_le, List, [], ◌∷◌, ◌++◌, length, replicate, count_by, Option, Some, None, if◌then◌else◌}
use Rattle.std.specs.Option.{option_map}
use Rattle.block_codec.specs.declared.header.Header.{Header}
use Rattle.gl_base.specs.declared.side.Side.TheVariants.{Host}
use Rattle.line_end.specs.declared.plan.HostPlan.{HostPlan}
use Rattle.message_flow.specs.Message.{is_primary}
use Rattle.message_flow.specs.declared.flow.Flow.{Flow}
use Rattle.message_flow.specs.declared.flow.Flow.TheVariants as flow
use Rattle.message_flow.specs.declared.message.Message.{Message}
use Rattle.secs_items.specs.Spelling.{shortest_spelling}
use Rattle.trace_log.specs.Log.{Happening}
use Rattle.trace_log.specs.Names.{message_name}
use Rattle.trace_log.specs.declared.commands.HostCommand.{HostCommand}
use Rattle.trace_log.specs.declared.commands.HostCommand.TheVariants as told
use Rattle.trace_log.specs.declared.names.CommsName.{CommsName}
use Rattle.trace_log.specs.declared.names.CommsName.TheVariants as name
use Rattle.trace_log.specs.declared.names.Name.{Name}
use Rattle.transact.specs.Numbers.{NumbersView}
use Rattle.transact.specs.declared.begun.Begun.{Begun}
use Rattle.message_end.specs.declared.end.Took.{Took}
use Rattle.message_end.specs.declared.end.Took.TheVariants as took
use Rattle.message_end.specs.declared.unsent.Unsent.{Unsent}
use Rattle.message_end.specs.Calls.{answered_by, dropped_now, failed_at, took_at}
use Rattle.message_end.specs.Core.{Command, EndView, reply_function}
use Rattle.message_end.specs.Core.Command.{Abort, Answer, DropDue, Expire, GiveUp, Note, Offer, Primary, Reply, Take, Tick}
use Rattle.message_end.specs.Duties.{Duty}
use Rattle.message_end.specs.Endings.{ends_open, notes_failed}
use Rattle.message_end.specs.Ends.{Input, Machine}
use Rattle.message_end.specs.Ends.Input.{Char, Command as Told, Time}
use Rattle.message_end.specs.Laws.{new_end}
use Rattle.message_end.specs.Parts.{Design, Node, Part, Turn, closes, fixed_turn, leads, led_turn, machine_of}
use Rattle.message_end.specs.Plan.{EndPlan}
use Rattle.host_node.specs.declared.comms.HostComms.{HostComms}
use Rattle.host_node.specs.declared.comms.HostComms.TheVariants as comms
use Rattle.host_node.specs.Replies.{is_established_by, is_establishing, reply_item}

-- its transactions are of one kind
abbrev pub Kind : Type 0
Kind = Unit {0}

-- what it keeps beside its core: its plan, its state of communication, and the message that its last step delivered
pub record HostOwn : Type 0 where
  pub plan : HostPlan
  pub comms : HostComms
  pub delivered : Option Message

abbrev pub HostTurn : Type 0
HostTurn = Turn HostOwn Kind

-- ---- states of communication

abbrev pub comms_name : HostComms → CommsName
comms_name comms.Disabled = name.Disabled
comms_name comms.NotCommunicating = name.NotCommunicating
comms_name comms.Communicating = name.Communicating

abbrev pub is_disabled : HostComms → Bool
is_disabled comms.Disabled = true
is_disabled comms.NotCommunicating = false
is_disabled comms.Communicating = false

-- at a start
abbrev pub first_comms : HostPlan → HostComms
first_comms plan = if plan.enable then comms.NotCommunicating else comms.Disabled

-- when it is enabled, and when a block could not be sent
abbrev pub enabled_comms : HostComms → HostComms
enabled_comms comms.Disabled = comms.NotCommunicating
enabled_comms comms.NotCommunicating = comms.NotCommunicating
enabled_comms comms.Communicating = comms.Communicating

abbrev pub failed_comms : HostComms → HostComms
failed_comms comms.Disabled = comms.Disabled
failed_comms comms.NotCommunicating = comms.NotCommunicating
failed_comms comms.Communicating = comms.NotCommunicating

-- a state that has changed is noted
abbrev pub notes_comms : HostComms → HostComms → Duty Kind
notes_comms comms.Disabled comms.Disabled e = []
notes_comms comms.NotCommunicating comms.NotCommunicating e = []
notes_comms comms.Communicating comms.Communicating e = []
notes_comms before after e = Note (Happening.Comms (comms_name after)) ∷ []

-- the state is this one from now on, which is noted before what is done next, or behind what was done
abbrev pub enters : HostOwn → HostComms → List (Duty Kind) → HostTurn
enters own next later = record { own = record own { comms = next }; duties = notes_comms own.comms next ∷ later }

abbrev pub ends_in : HostOwn → HostComms → List (Duty Kind) → HostTurn
ends_in own next first =
    record { own = record own { comms = next }; duties = first ++ notes_comms own.comms next ∷ [] }

-- ---- a block could not be sent, and what comes too late

-- all open messages end, each with its note
abbrev pub fails : Begun Kind → List (Command Kind)
fails begun = notes_failed begun.header

abbrev pub ends_all : EndView Kind → Option Header → List (Duty Kind)
ends_all e failed = ends_open fails e failed

-- a block with this header could not be sent: all open messages end, and with them the communication (SEMI E30)
abbrev pub breaks : HostOwn → EndView Kind → Option Header → HostTurn
breaks own e None = fixed_turn own []
breaks own e (Some header) = ends_in own (failed_comms own.comms) (ends_all e (Some header))

-- a step begins: nothing was delivered in it
abbrev pub undelivered : HostOwn → HostOwn
undelivered own = record own { delivered = None }

-- the timer of the line (SEMI E4, timers)
abbrev pub ticks : ℕ → Part HostOwn Kind
ticks now own e = leads (Tick now) (λ behind. breaks (undelivered own) behind (failed_at e now)) e

-- T4: a reply of which the next block is late is given up
abbrev pub gives_up : Option Header → List (Command Kind)
gives_up None = []
gives_up (Some header) = GiveUp header ∷ []

abbrev pub drops : ℕ → Duty Kind
drops now e = DropDue now ∷ gives_up (dropped_now e now)

-- T3
abbrev pub expires : ℕ → Duty Kind
expires now e = Expire now ∷ []

-- all of T4, and then all of T3: as many messages as may come at once, and as many transactions as may be open
unfoldable pub late_duties : ℕ → List (Duty Kind)
late_duties now = replicate 16 (drops now) ++ replicate 64 (expires now)

abbrev pub ends_late : ℕ → Part HostOwn Kind
ends_late now own e = record { own = own; duties = late_duties now }

-- ---- a message that came

-- 64 messages without W wait, and no more may (this profile)
abbrev pub is_full : EndView Kind → Bool
is_full e = nat_le 64 (count_by (λ waiting. not waiting.message.wait) e.outgoing.waiting)

-- the function of the reply: a primary that the host doesn't know is replied to with function 0
abbrev pub function_with : Message → Option (List ℕ) → ℕ
function_with message (Some text) = reply_function message.function
function_with message None = 0

abbrev pub sends_reply : Option (List ℕ) → List (Command Kind)
sends_reply (Some text) = Reply text ∷ []
sends_reply None = Abort ∷ []

abbrev pub replies_with : Message → Option (List ℕ) → Duty Kind
replies_with message text e =
    if is_full e then
    Note (Happening.Full (record { stream = message.stream; function = function_with message text; wait = false }))
    ∷ []
    else sends_reply text

abbrev pub replies : Message → Duty Kind
replies message e =
    if message.wait then
    replies_with message (option_map shortest_spelling (reply_item message.stream message.function)) e
    else []

-- S1F13 establishes communication, before it is replied to (SEMI E30, establishing communications)
abbrev pub heeds_primary : HostOwn → Message → HostTurn
heeds_primary own message =
    if is_establishing message.stream message.function then enters own comms.Communicating (replies message ∷ [])
    else record { own = own; duties = replies message ∷ [] }

-- S1F14 establishes it where it accepts, and answers what was asked (SEMI E30, establishing communications)
abbrev pub is_acceptance : Message → Bool
is_acceptance message = ((message.stream == 1) && (message.function == 14)) && is_established_by message.body

abbrev pub is_accepted : EndView Kind → Header → Message → Bool
is_accepted e header message =
    is_some (answered_by e header) && is_acceptance message

abbrev pub follows : HostOwn → Bool → HostTurn
follows own true = enters own comms.Communicating []
follows own false = fixed_turn own []

abbrev pub heeds_secondary : HostOwn → EndView Kind → Header → Message → HostTurn
heeds_secondary own e header message = led_turn (Answer header) (follows own (is_accepted e header message))

-- what a message that was delivered asks for; its last block had this header
abbrev pub heeds : HostOwn → EndView Kind → Header → Message → HostTurn
heeds own e header message =
    if is_disabled own.comms then fixed_turn own (Note (Happening.Dropped (message_name message)) ∷ [])
    else if is_primary message then heeds_primary own message
    else heeds_secondary own e header message

-- a message was delivered, whatever comes of it
abbrev pub delivers : Message → HostTurn → HostTurn
delivers message turn = record { own = record turn.own { delivered = Some message }; duties = turn.duties }

-- what a block was: a reply that is no good is given up
abbrev pub judges : HostOwn → EndView Kind → Header → Flow → HostTurn
judges own e header (flow.Whole message check) = delivers message (heeds own e header message)
judges own e header flow.Unexpected = fixed_turn own (GiveUp header ∷ [])
judges own e header flow.TooLong = fixed_turn own (GiveUp header ∷ [])
judges own e header flow.Crowded = fixed_turn own (GiveUp header ∷ [])
judges own e header flow.Part = fixed_turn own []
judges own e header flow.Duplicate = fixed_turn own []
judges own e header (flow.Foreign address) = fixed_turn own []

-- what a character has brought, with the core as it is then
abbrev pub brings : HostOwn → EndView Kind → Took → HostTurn
brings own e took.Nothing = fixed_turn own []
brings own e (took.Failed header) = breaks own e (Some header)
brings own e (took.Came header flow) = judges own e header flow

abbrev pub takes : ℕ → ℕ → Part HostOwn Kind
takes byte now own e = leads (Take byte now) (λ behind. brings own behind (took_at e byte now)) e

-- ---- what it is told by its own side

-- with W it begins a transaction
abbrev pub unsent_of : Name → List ℕ → Unsent Kind
unsent_of sent body = record {
  stream = sent.stream;
  function = sent.function;
  kind = if sent.wait then Some tt else None;
  body = body;
}

-- a primary goes out, unless it isn't let out, is too long, or has no room; a core knows how many transactions it may
-- open
abbrev pub sends : HostOwn → EndView Kind → Name → List ℕ → List (Command Kind)
sends own e sent body =
    if is_disabled own.comms then Note (Happening.Dropped sent) ∷ []
    else if not (nat_le (length body) own.plan.line.max_body) then Note (Happening.TooLong sent) ∷ []
    else if not sent.wait && is_full e then Note (Happening.Full sent) ∷ []
    else Primary (unsent_of sent body) ∷ []

abbrev pub name_of : ℕ → ℕ → Bool → Name
name_of stream function wait = record { stream = stream; function = function; wait = wait }

abbrev pub obeys : HostCommand → Part HostOwn Kind
obeys (told.Send stream function wait body) own e =
    fixed_turn own (sends own e (name_of stream function wait) body)
obeys told.Enable own e = enters own (enabled_comms own.comms) []
obeys told.Disable own e = ends_in own comms.Disabled (ends_all e None)

-- ---- a step

abbrev pub given : Input HostCommand → ℕ → Part HostOwn Kind
given (Char byte) now = takes byte now
given Time now = λ own e. fixed_turn own []
given (Told command) now = obeys command

-- the turn of the line
abbrev pub offers : ℕ → Part HostOwn Kind
offers now own e = led_turn (Offer now) (fixed_turn own [])

-- what is due, the input, and the line; and the end of the step
abbrev pub parts : Input HostCommand → ℕ → List (Part HostOwn Kind)
parts input now = ticks now ∷ ends_late now ∷ given input now ∷ offers now ∷ closes ∷ []

-- ---- the host as an end

abbrev pub end_plan : HostPlan → EndPlan
end_plan plan = record { side = Host; line = plan.line }

abbrev pub first_own : HostPlan → HostOwn
first_own plan = record { plan = plan; comms = first_comms plan; delivered = None }

-- a host at its start, with these numbers
abbrev pub at_start : HostPlan → NumbersView → Node HostOwn Kind
at_start plan numbers = record { own = first_own plan; core = new_end (end_plan plan) numbers }

abbrev pub host_design : Design HostOwn Kind HostCommand
host_design = record {
  plan = λ own. end_plan own.plan;
  again = λ own. first_own own.plan;
  parts = parts;
}

abbrev pub host_machine : Machine (Node HostOwn Kind) HostCommand
host_machine = machine_of host_design

-- its plan stays
abbrev pub HasPlan : HostPlan → HostOwn → Type 0
HasPlan plan own = own.plan ≡ plan
