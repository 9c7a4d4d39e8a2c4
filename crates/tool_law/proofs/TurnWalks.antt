-- Turns that bring commands of a class and keep what is kept, for any class: each turn is such where the common
-- commands are of the class, and where a change of the states alone keeps it.
use Rattle.std.proofs.Common.{nat_le, Bool, true, false, ℕ, List, [], ◌∷◌, length, Option, Some, None, if◌then◌else◌}
use Rattle.std.specs.Option.{option_map_or}
use Rattle.std.specs.Prelude.{IfSome}
use Rattle.block_codec.specs.declared.header.Header.{Header}
use Rattle.gem_shapes.specs.Answers.{code_item}
use Rattle.gem_states.specs.Comms.{CommsView}
use Rattle.gem_states.specs.Control.{ControlView, control_next, control_step}
use Rattle.gem_states.specs.declared.comms.CommsIn.{CommsIn}
use Rattle.gem_states.specs.declared.comms.CommsIn.TheVariants as comms_in
use Rattle.gem_states.specs.declared.control.ControlIn.{ControlIn}
use Rattle.gem_states.specs.declared.control.ControlIn.TheVariants as control_in
use Rattle.gem_states.specs.declared.control.ControlOut.{ControlOut}
use Rattle.gem_states.specs.declared.control.ControlOut.TheVariants as control_out
use Rattle.message_flow.specs.declared.message.Message.{Message}
use Rattle.trace_log.specs.Log.{Happening}
use Rattle.trace_log.specs.Names.{Spooled, message_name, spooled_name}
use Rattle.transact.specs.Numbers.{next_number}
use Rattle.message_end.specs.Core.{Command, EndView, is_crowded_out}
use Rattle.message_end.specs.Core.Command.{Halt, Note, Primary, Reply}
use Rattle.message_end.specs.Parts.{fixed_turn, led_turn}
use Rattle.equipment_tables.specs.declared.answers.Answer.{Answer as Text}
use Rattle.equipment_tables.specs.declared.answers.Answer.TheVariants as answer
use Rattle.equipment_tables.specs.Answers.{established_of}
use Rattle.equipment_tables.specs.Tables.{overwrites}
use Rattle.spool_ledger.specs.Ledger.{Booked, LedgerView}
use Rattle.spool_ledger.specs.Storing.{stored}
use Rattle.tool_step.specs.declared.kind.Kind.{Kind}
use Rattle.tool_step.specs.Messages.{control_answer_duties, control_request_turn, dropped_turn, error_turn, established_duties, established_turn, offline_turn, stray_turn}
use Rattle.tool_step.specs.Own.{OwnView, ToolCommands, ToolDuty, ToolTurn, event_report, is_communicating, is_online, quiet_turn, turn_before, turn_of, with_comms, with_control, with_ledger, with_report}
use Rattle.tool_step.specs.Replies.{denied_turn}
use Rattle.tool_step.specs.Reports.{judged_turn, text_turn, unreported_turn}
use Rattle.tool_step.specs.Sent as sent
use Rattle.tool_step.specs.Spooling.{booked_turn, is_spooled, lines_commands, stored_turn}
use Rattle.tool_step.specs.States as states
use Rattle.tool_step.specs.Tool.{attempt_turn, attempted_turn, online_turn}
use Rattle.tool_law.proofs.CommandWalks.{AllAre, AllDo, Does, HasCommon, abort-are, answers-are, are-both, comms-noted, control-noted, errors-are, lines-are, own-requests-are, request-are}

-- what a turn brings is of the class, and it keeps what is kept
pub record IsTurnOf
    (Is : Command Kind → Type 0) (Keeps : OwnView → OwnView → Type 0) (own : OwnView) (turn : ToolTurn)
    : Type 0 where
  pub duties : AllDo Is turn.duties
  pub keeps : Keeps own turn.own

-- a change of the states alone keeps it
pub record KeepsStates (Keeps : OwnView → OwnView → Type 0) : Type 0 where
  pub itself : (own : OwnView) → Keeps own own
  pub comms : (own : OwnView) (next : CommsView) → Keeps own (with_comms next own)
  pub control :
      (own other : OwnView) (next : ControlView) → Keeps (with_control next own) other → Keeps own other

-- ---- turns put together

module _ {Is : Command Kind → Type 0} {Keeps : OwnView → OwnView → Type 0} where
  pub nothing-of : (own other : OwnView) → Keeps own other → IsTurnOf Is Keeps own (quiet_turn other)
  nothing-of own other keeps = record { duties = tt; keeps = keeps }

  pub fixed-of : (own other : OwnView) (commands : ToolCommands) → Keeps own other → AllAre Is commands
      → IsTurnOf Is Keeps own (fixed_turn other commands)
  fixed-of own other commands keeps are = record { duties = ((λ e. are), tt); keeps = keeps }

  pub note-of : (own other : OwnView) (what : Happening) → Keeps own other → Is (Note what)
      → IsTurnOf Is Keeps own (fixed_turn other (Note what ∷ []))
  note-of own other what keeps is = fixed-of own other (Note what ∷ []) keeps (is, tt)

  pub led-of : (own : OwnView) (lead : Command Kind) (turn : ToolTurn) → Is lead → IsTurnOf Is Keeps own turn
      → IsTurnOf Is Keeps own (led_turn lead turn)
  led-of own lead turn first is = record { duties = ((λ e. (first, tt)), is.duties); keeps = is.keeps }

  pub before-of : (own : OwnView) (duties : List ToolDuty) (turn : ToolTurn) → AllDo Is duties
      → IsTurnOf Is Keeps own turn → IsTurnOf Is Keeps own (turn_before duties turn)
  before-of own duties turn last is =
      record { duties = are-both (Does Is) turn.duties duties is.duties last; keeps = is.keeps }

module _ {Is : Command Kind → Type 0} {Keeps : OwnView → OwnView → Type 0} (common : HasCommon Is)
    (stays : KeepsStates Keeps) where
  abbrev IsOf : OwnView → ToolTurn → Type 0
  IsOf own turn = IsTurnOf Is Keeps own turn

  -- ---- the states

  pub comms-of :
      ((body : List ℕ) → Is (Primary (sent.establish_request body))) → (input : CommsIn) (now : ℕ) (own : OwnView)
      → IsOf own (states.comms_turn input now own)
  comms-of is input now own =
      let outcome = states.comms_outcome input now own in
      fixed-of own (with_comms outcome.next own) (states.comms_commands outcome own) (stays.comms own outcome.next)
      (are-both Is (states.comms_lines own.comms.state outcome.next.state)
      (states.request_commands outcome.output own) (comms-noted common own.comms.state outcome.next.state)
      (request-are common is outcome.output own))

  controlled : (own : OwnView) (next : ControlView) → Keeps own (with_control next own)
  controlled own next = stays.control own (with_control next own) next (stays.itself (with_control next own))

  pub control-of : (input : ControlIn) (own : OwnView) → IsOf own (states.control_turn input own)
  control-of input own =
      let next = control_next own.control input in
      fixed-of own (with_control next own) (states.control_commands input own.control) (controlled own next)
      (control-noted common own.control.state next.state)

  -- an attempt to be on-line
  attempt-of : Is (Primary sent.online_request) → (own : OwnView) (e : EndView Kind) → IsOf own (attempt_turn own e)
  attempt-of is own e = go (is_crowded_out true e)
    where
      next : ControlView
      next = control_next own.control control_in.AttemptFailed

      go : (crowded : Bool)
          → IsOf own
          (if crowded then
          fixed_turn (with_control next own)
          (Primary sent.online_request ∷ states.control_commands control_in.AttemptFailed own.control)
          else fixed_turn own (Primary sent.online_request ∷ []))
      go true =
          fixed-of own (with_control next own)
          (Primary sent.online_request ∷ states.control_commands control_in.AttemptFailed own.control)
          (controlled own next) (is, control-noted common own.control.state next.state)
      go false = fixed-of own own (Primary sent.online_request ∷ []) (stays.itself own) (is, tt)

  attempted-of : Is (Primary sent.online_request) → (out : ControlOut) (own : OwnView) (e : EndView Kind)
      → IsOf own (attempted_turn out own e)
  attempted-of is control_out.SendAttempt own e = attempt-of is own e
  attempted-of is control_out.Nothing own e = nothing-of own own (stays.itself own)
  attempted-of is (control_out.Ack code) own e = nothing-of own own (stays.itself own)
  attempted-of is control_out.Abort own e = nothing-of own own (stays.itself own)

  pub online-of : Is (Primary sent.online_request) → (own : OwnView) (e : EndView Kind) → IsOf own (online_turn own e)
  online-of is own e =
      let outcome = control_step own.control (control_in.Online (is_communicating own)) in
      let later = attempted-of is outcome.output (with_control outcome.next own) e in
      record {
        duties = ((λ f. control-noted common own.control.state outcome.next.state), later.duties);
        keeps = stays.control own (attempted_turn outcome.output (with_control outcome.next own) e).own outcome.next
            later.keeps;
      }

  -- ---- messages

  pub denied-of : (own other : OwnView) → Keeps own other → IsOf own (denied_turn other)
  denied-of own other keeps =
      note-of own other (Happening.Denied states.event_name) keeps (common.denied states.event_name)

  pub dropped-of : (message : Message) (own : OwnView) → IsOf own (dropped_turn message own)
  dropped-of message own =
      note-of own own (Happening.Dropped (message_name message)) (stays.itself own)
      (common.dropped (message_name message))

  pub stray-of :
      ((body : List ℕ) → Is (Primary (sent.establish_request body))) → (now : ℕ) (message : Message) (own : OwnView)
      → IsOf own (stray_turn now message own)
  stray-of is now message own =
      led-of own (Note (Happening.Dropped (message_name message))) (states.comms_turn comms_in.OtherMessage now own)
      (common.dropped (message_name message)) (comms-of is comms_in.OtherMessage now own)

  pub offline-of : (message : Message) (own : OwnView) → IsOf own (offline_turn message own)
  offline-of message own = go message.wait
    where
      go : (wait : Bool)
          → IsOf own (if wait then turn_of own (sent.abort_duty message ∷ []) else dropped_turn message own)
      go true = record { duties = abort-are common message; keeps = stays.itself own }
      go false = dropped-of message own

  pub error-of :
      (function : ℕ) → ((body : List ℕ) → Is (Primary (sent.error_primary function body))) → (header : Header)
      (own : OwnView) → IsOf own (error_turn function header own)
  error-of function is header own =
      record { duties = errors-are common function is header own; keeps = stays.itself own }

  pub established-of :
      ((body : List ℕ) → Is (Primary (sent.establish_request body))) → (message : Message)
      → ((body : List ℕ) → Is (Reply body)) → (now : ℕ) (own : OwnView) → IsOf own (established_turn now message own)
  established-of is message replies now own =
      let met = comms-of is comms_in.HostRequest now own in
      record {
        duties = (
          (λ e. own-requests-are common e.transactions.begun),
          are-both (Does Is) (states.comms_turn comms_in.HostRequest now own).duties
              (established_duties message own) met.duties
              (answers-are common (sent.text_of own (established_of own.tables)) message replies),
        );
        keeps = met.keeps;
      }

  pub control-request-of :
      (input : ControlIn) (message : Message) → ((body : List ℕ) → Is (Reply body)) → (own : OwnView)
      → IsOf own (control_request_turn input message own)
  control-request-of input message replies own =
      record {
        duties = (
          (λ e. control-noted common own.control.state (control_next own.control input).state),
          go (control_step own.control input).output,
        );
        keeps = controlled own (control_step own.control input).next;
      }
    where
      go : (out : ControlOut) → AllDo Is (control_answer_duties out message own)
      go (control_out.Ack code) = answers-are common (sent.text_of own (code_item code)) message replies
      go control_out.Abort = abort-are common message
      go control_out.Nothing = tt
      go control_out.SendAttempt = tt

  -- ---- reports

  pub going-of :
      (message : Spooled) → Is (Primary (sent.live_report message)) → (own : OwnView)
      → ((system : ℕ) → Keeps own (with_report system message own)) → (e : EndView Kind)
      → IsOf own (sent.going_turn message own e)
  going-of message is own keeps e =
      fixed-of own (sent.live_own message own e) (Primary (sent.live_report message) ∷ [])
      (go (is_crowded_out true e) (next_number e.numbers)) (is, tt)
    where
      go : (crowded : Bool) (next : Option ℕ)
          → Keeps own (if crowded then own else sent.kept_report next message own)
      go true next = stays.itself own
      go false None = stays.itself own
      go false (Some system) = keeps system

  asking-of :
      (asked : Text) (body : List ℕ) → ((text : List ℕ) → Is (Primary (sent.grant_request text))) → (own : OwnView)
      → ((system : ℕ) → Keeps own (sent.with_asked (Some system) body own)) → (e : EndView Kind)
      → IsOf own (sent.asking_turn asked body own e)
  asking-of answer.TooLong body is own keeps e = nothing-of own own (stays.itself own)
  asking-of (answer.Body text) body is own keeps e =
      fixed-of own (sent.granted_own body own e) (Primary (sent.grant_request text) ∷ [])
      (go (is_crowded_out true e) (next_number e.numbers)) (is text, tt)
    where
      go : (crowded : Bool) (next : Option ℕ)
          → Keeps own (if crowded then own else sent.with_asked next body own)
      go true next = stays.itself own
      go false None = stays.itself own
      go false (Some system) = keeps system

  -- an S6F11 goes, or its S6F5
  pub event-of :
      (dataid : ℕ) (body : List ℕ) → ((text : List ℕ) → Is (Primary (sent.grant_request text))) → (own : OwnView)
      → ((system : ℕ) → Keeps own (sent.with_asked (Some system) body own)) → (e : EndView Kind)
      → IsOf own (sent.going_turn (event_report body) own e) → IsOf own (sent.event_turn dataid body own e)
  event-of dataid body is own keeps e goes = go (nat_le (length body) 244)
    where
      go : (alone : Bool)
          → IsOf own
          (if alone then sent.going_turn (event_report body) own e else sent.grant_turn dataid body own e)
      go true = goes
      go false = asking-of (sent.text_of own (sent.grant_item dataid (length body))) body is own keeps e

  -- a report, however it is judged
  pub judged-of :
      (report : List ℕ → Spooled) (going : Spooled → ToolTurn) (text : Text) (own : OwnView)
      → ((body : List ℕ) → IsOf own (stored_turn (report body) own))
      → ((body : List ℕ) → IsOf own (going (report body))) → IsOf own (judged_turn report going text own)
  judged-of report going text own stores goes = online (is_online own)
    where
      dropped : (message : Spooled) → IsOf own (unreported_turn (spooled_name message) own)
      dropped message =
          note-of own own (Happening.Dropped (spooled_name message)) (stays.itself own)
          (common.dropped (spooled_name message))

      made : (body : List ℕ) (spooled communicating : Bool)
          → IsOf own
          (if spooled then stored_turn (report body) own else if communicating then going (report body)
          else unreported_turn (spooled_name (report body)) own)
      made body true communicating = stores body
      made body false true = goes body
      made body false false = dropped (report body)

      by_text : (text : Text) → IsOf own (text_turn report going text own)
      by_text (answer.Body body) = made body (is_spooled (report body) own) (is_communicating own)
      by_text answer.TooLong =
          note-of own own (Happening.TooLong (spooled_name (report []))) (stays.itself own)
          (common.too_long (spooled_name (report [])))

      online : (is : Bool)
          → IsOf own
          (if is then text_turn report going text own else unreported_turn (spooled_name (report [])) own)
      online true = by_text text
      online false = dropped (report [])

-- ---- changes of the ledger

-- what is noted of the ledger is of the class, and a change of it keeps what is kept
module _
    (Is : Command Kind → Type 0) (Keeps : OwnView → OwnView → Type 0) (Says : Happening → Type 0)
    (told : (what : Happening) → Says what → Is (Note what))
    (books : (own : OwnView) (ledger : LedgerView) → Keeps own (with_ledger ledger own)) where
  pub booked-of : (own : OwnView) (booked : Booked) → AllAre Says booked.lines
      → IsTurnOf Is Keeps own (booked_turn booked own)
  booked-of own booked says =
      fixed-of own (with_ledger booked.next own) (lines_commands booked.lines) (books own booked.next)
      (lines-are Is Says told booked.lines says)

  pub stored-of : Is Halt → (message : Spooled) (own : OwnView) → Keeps own own
      → IfSome (stored (overwrites own.tables) message own.ledger) (λ (booked : Booked). AllAre Says booked.lines)
      → IsTurnOf Is Keeps own (stored_turn message own)
  stored-of halts message own itself = go (stored (overwrites own.tables) message own.ledger)
    where
      go : (found : Option Booked) → IfSome found (λ (booked : Booked). AllAre Says booked.lines)
          → IsTurnOf Is Keeps own
          (option_map_or (λ (booked : Booked). booked_turn booked own) found (fixed_turn own (Halt ∷ [])))
      go None says = fixed-of own own (Halt ∷ []) itself (halts, tt)
      go (Some booked) says = booked-of own booked says
