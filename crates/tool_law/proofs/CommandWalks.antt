-- What turns of the equipment bring, for any class of commands: where the common commands are of the class, so are all
-- that these bring.
use Rattle.std.proofs.Common.{Bool, true, false, ℕ, List, [], ◌∷◌, ◌++◌, Option, Some, None, if◌then◌else◌}
use Rattle.std.specs.Prelude.{flat_map}
use Rattle.block_codec.specs.declared.header.Header.{Header}
use Rattle.gem_states.specs.Control.{ControlView, control_next}
use Rattle.gem_states.specs.declared.comms.CommsOut.{CommsOut}
use Rattle.gem_states.specs.declared.comms.CommsOut.TheVariants as comms_out
use Rattle.gem_states.specs.declared.comms.CommsState.{CommsState}
use Rattle.gem_states.specs.declared.control.ControlIn.TheVariants as control_in
use Rattle.gem_states.specs.declared.control.ControlState.{ControlState}
use Rattle.message_flow.specs.declared.message.Message.{Message}
use Rattle.message_flow.specs.declared.waiting.Waiting.{Waiting}
use Rattle.trace_log.specs.declared.names.CommsName.{CommsName}
use Rattle.trace_log.specs.declared.names.ControlName.{ControlName}
use Rattle.trace_log.specs.declared.names.Name.{Name}
use Rattle.trace_log.specs.declared.names.Title.{Title}
use Rattle.trace_log.specs.Log.{Happening}
use Rattle.trace_log.specs.Names.{Spooled, header_title, title_of}
use Rattle.transact.specs.declared.begun.Begun.{Begun}
use Rattle.transact.specs.Transactions.{system_of}
use Rattle.message_end.specs.declared.unsent.Unsent.{Unsent}
use Rattle.message_end.specs.Core.{Command, EndView}
use Rattle.message_end.specs.Core.Command.{Abort, DropFront, End, Note, Primary, Recall, Remove, Reply}
use Rattle.message_end.specs.Endings.{ends_failed, ends_front, ends_one, ends_open, is_of_open, notes_failed}
use Rattle.equipment_tables.specs.declared.answers.Answer.{Answer as Text}
use Rattle.equipment_tables.specs.declared.answers.Answer.TheVariants as answer
use Rattle.equipment_tables.specs.Answers.{identity_of}
use Rattle.tool_step.specs.declared.kind.Kind.{Kind}
use Rattle.tool_step.specs.declared.kind.Kind.TheVariants as kind
use Rattle.tool_step.specs.Messages.{own_s1f13_commands, own_s1f13_of}
use Rattle.tool_step.specs.Own.{OwnView, ToolCommands, ToolDuty, is_communicating}
use Rattle.tool_step.specs.Sampling.{trace_name}
use Rattle.tool_step.specs.Sent as sent
use Rattle.tool_step.specs.Spooling.{lines_commands}
use Rattle.tool_step.specs.States as states

-- ---- all of a list

abbrev pub AllAre : {X : Type 0} → (X → Type 0) → List X → Type 0
AllAre Is [] = Unit {0}
AllAre Is (x ∷ xs) = Is x × AllAre Is xs

pub are-both : {X : Type 0} (Is : X → Type 0) (one two : List X) → AllAre Is one → AllAre Is two
    → AllAre Is (one ++ two)
are-both Is [] two first second = second
are-both Is (x ∷ one) two first second = (first.0, are-both Is one two first.1 second)

-- ---- classes of commands

-- all that a duty brings is of the class, whatever the core is as it begins
abbrev pub Does : (Command Kind → Type 0) → ToolDuty → Type 0
Does Is duty = (e : EndView Kind) → AllAre Is (duty e)

abbrev pub AllDo : (Command Kind → Type 0) → List ToolDuty → Type 0
AllDo Is duties = AllAre (Does Is) duties

-- notes, each of which is of the class
pub lines-are :
    (Is : Command Kind → Type 0) (Says : Happening → Type 0) → ((what : Happening) → Says what → Is (Note what))
    → (lines : List Happening) → AllAre Says lines → AllAre Is (lines_commands lines)
lines-are Is Says told [] says = tt
lines-are Is Says told (what ∷ lines) says = (told what says.0, lines-are Is Says told lines says.1)

-- the common commands: notes of the states, and of messages that end or aren't sent; the ends of transactions and of
-- messages; and function 0
pub record HasCommon (Is : Command Kind → Type 0) : Type 0 where
  pub comms : (state : CommsName) → Is (Note (Happening.Comms state))
  pub control : (state : ControlName) → Is (Note (Happening.Control state))
  pub failed : (title : Title) → Is (Note (Happening.Failed title))
  pub dropped : (name : Name) → Is (Note (Happening.Dropped name))
  pub denied : (name : Name) → Is (Note (Happening.Denied name))
  pub too_long : (name : Name) → Is (Note (Happening.TooLong name))
  pub full : (name : Name) → Is (Note (Happening.Full name))
  pub ends : (system : ℕ) → Is (End system)
  pub removes : (system : ℕ) → Is (Remove true system)
  pub recalls : (header : Header) → Is (Recall header)
  pub drops : Is DropFront
  pub aborts : Is Abort

module _ {Is : Command Kind → Type 0} (common : HasCommon Is) where
  abbrev Are : ToolCommands → Type 0
  Are commands = AllAre Is commands

  -- ---- what is sent

  sent-are : (unsent : List ℕ → Unsent Kind) → ((body : List ℕ) → Is (Primary (unsent body))) → (text : Text)
      → Are (sent.primary_commands unsent text)
  sent-are unsent is (answer.Body body) = (is body, tt)
  sent-are unsent is answer.TooLong = tt

  pub errors-are :
      (function : ℕ) → ((body : List ℕ) → Is (Primary (sent.error_primary function body))) → (header : Header)
      (own : OwnView) → AllDo Is (sent.error_duty function header own ∷ [])
  errors-are function is header own = ((λ e. go (is_communicating own) (sent.has_room e)), tt)
    where
      text : Text
      text = sent.text_of own (sent.error_item header)

      go : (communicating room : Bool)
          → Are
          (if communicating then (if room then sent.primary_commands (sent.error_primary function) text
          else Note (Happening.Full (sent.error_name function)) ∷ []) else [])
      go true true = sent-are (sent.error_primary function) is text
      go true false = (common.full (sent.error_name function), tt)
      go false room = tt

  -- ---- replies

  pub replied-are : (message : Message) (name : Name) (commands : ToolCommands) (e : EndView Kind) → Are commands
      → Are (sent.reply_commands message name commands e)
  replied-are message name commands e are = go message.wait (sent.has_room e)
    where
      go : (wait room : Bool)
          → Are (if wait then if room then commands else Note (Happening.Full name) ∷ [] else [])
      go true true = are
      go true false = (common.full name, tt)
      go false room = tt

  pub abort-are : (message : Message) → AllDo Is (sent.abort_duty message ∷ [])
  abort-are message =
      ((λ e. replied-are message (sent.abort_name message) (Abort ∷ []) e (common.aborts, tt)), tt)

  pub long-are : (message : Message) → AllDo Is (sent.long_duties message)
  long-are message = ((λ e. go message.wait), abort-are message)
    where
      go : (wait : Bool) → Are (if wait then Note (Happening.TooLong (sent.reply_name message)) ∷ [] else [])
      go true = (common.too_long (sent.reply_name message), tt)
      go false = tt

  pub answers-are : (text : Text) (message : Message) → ((body : List ℕ) → Is (Reply body))
      → AllDo Is (sent.answer_duties text message)
  answers-are (answer.Body body) message is =
      ((λ e. replied-are message (sent.reply_name message) (Reply body ∷ []) e (is body, tt)), tt)
  answers-are answer.TooLong message is = long-are message

  -- ---- the states

  pub comms-noted : (old new : CommsState) → Are (states.comms_lines old new)
  comms-noted old new = go (states.is_same_comms old new)
    where
      go : (same : Bool) → Are (if same then [] else Note (Happening.Comms (states.comms_named new)) ∷ [])
      go true = tt
      go false = (common.comms (states.comms_named new), tt)

  pub control-noted : (old new : ControlState) → Are (states.control_lines old new)
  control-noted old new = go (states.is_same_control old new)
    where
      go : (same : Bool) → Are (if same then [] else Note (Happening.Control (states.control_named new)) ∷ [])
      go true = tt
      go false = (common.control (states.control_named new), tt)

  pub request-are : ((body : List ℕ) → Is (Primary (sent.establish_request body))) → (out : CommsOut) (own : OwnView)
      → Are (states.request_commands out own)
  request-are is comms_out.SendRequest own =
      sent-are sent.establish_request is (sent.text_of own (identity_of own.tables))
  request-are is comms_out.Nothing own = tt
  request-are is comms_out.Answer own = tt

  -- ---- messages end

  unless-are : (stored : Option Spooled) (commands : ToolCommands) → Are commands
      → Are (states.unless_stored stored commands)
  unless-are None commands are = are
  unless-are (Some message) commands are = tt

  ending-are : (control : ControlView) (stored : Option Spooled) (lost : Kind) (header : Header)
      → Are (states.ending_commands control stored lost header)
  ending-are control stored lost header = go lost
    where
      failed : Is (Note (Happening.Failed (header_title header)))
      failed = common.failed (header_title header)

      unsent : Are states.notes_unsent
      unsent = (common.dropped states.event_name, tt)

      go : (lost : Kind) → Are (states.ending_commands control stored lost header)
      go kind.Establish = (failed, tt)
      go kind.Attempt =
          (failed, control-noted control.state (control_next control control_in.AttemptFailed).state)
      go kind.Report = unless-are stored (notes_failed header) (failed, tt)
      go kind.Grant = (failed, unless-are stored states.notes_unsent unsent)
      go kind.Unload = (failed, tt)
      go kind.UnloadGrant = (failed, unsent)
      go kind.Trace = (failed, tt)
      go kind.TraceGrant = (failed, (common.dropped trace_name, tt))

  begun-are : (spools : Bool) (own : OwnView) (begun : List (Begun Kind))
      → Are (flat_map (ends_one (states.ends_report spools own)) begun)
  begun-are spools own [] = tt
  begun-are spools own (first ∷ begun) = (
    common.ends (system_of first),
    (
      common.removes (system_of first),
      are-both Is (states.ends_report spools own first)
          (flat_map (ends_one (states.ends_report spools own)) begun)
          (ending-are own.control (states.stored_of spools own first) first.kind first.header)
          (begun-are spools own begun),
    ),
  )

  waiting-are : (waiting : List Waiting) → Are (flat_map ends_front waiting)
  waiting-are [] = tt
  waiting-are (first ∷ waiting) = (common.drops, (common.failed (title_of first.message), waiting-are waiting))

  failed-are : (was_open : Bool) (header : Header) (e : EndView Kind) → Are (ends_failed was_open header e)
  failed-are true header e = tt
  failed-are false header e = (common.recalls header, (common.failed (header_title header), tt))

  pub open-are : (spools : Bool) (own : OwnView) (e : EndView Kind) (failed : Option Header)
      → AllDo Is (ends_open (states.ends_report spools own) e failed)
  open-are spools own e None =
      ((λ f. begun-are spools own f.transactions.begun), ((λ f. waiting-are f.outgoing.waiting), tt))
  open-are spools own e (Some header) = (
    (λ f. begun-are spools own f.transactions.begun),
    ((λ f. failed-are (is_of_open e header) header f), ((λ f. waiting-are f.outgoing.waiting), tt)),
  )

  -- its own S1F13 end
  own-request-are : (lost : Kind) (system : ℕ) → Are (own_s1f13_commands lost system)
  own-request-are kind.Establish system = (common.ends system, (common.removes system, tt))
  own-request-are kind.Attempt system = tt
  own-request-are kind.Grant system = tt
  own-request-are kind.Report system = tt
  own-request-are kind.Unload system = tt
  own-request-are kind.UnloadGrant system = tt
  own-request-are kind.Trace system = tt
  own-request-are kind.TraceGrant system = tt

  pub own-requests-are : (begun : List (Begun Kind)) → Are (flat_map own_s1f13_of begun)
  own-requests-are [] = tt
  own-requests-are (one ∷ begun) =
      are-both Is (own_s1f13_of one) (flat_map own_s1f13_of begun) (own-request-are one.kind (system_of one))
      (own-requests-are begun)
