-- How many system bytes each turn of the equipment draws, and that it spends them where it puts a message for which the
-- spool has no number.
use Rattle.std.proofs.Common.{◌≡◌, refl, arith, ◌+◌, ◌||◌, nat_le, Bool, true, false, ℕ, List, [], ◌∷◌, ◌++◌, length, Option, Some, None, if◌then◌else◌}
use Rattle.std.specs.List.{filter_map}
use Rattle.std.specs.Option.{option_map_or}
use Rattle.std.specs.Prelude.{is_none}
use Rattle.block_codec.specs.declared.header.Header.{Header}
use Rattle.gem_spool.specs.declared.spool.Room.{Room}
use Rattle.gem_spool.specs.declared.spool.Room.TheVariants as room
use Rattle.gem_states.specs.Comms.{CommsOutcome}
use Rattle.gem_states.specs.Control.{control_next}
use Rattle.gem_states.specs.declared.comms.CommsIn.{CommsIn}
use Rattle.gem_states.specs.declared.comms.CommsIn.TheVariants as comms_in
use Rattle.gem_states.specs.declared.comms.CommsOut.{CommsOut}
use Rattle.gem_states.specs.declared.comms.CommsOut.TheVariants as comms_out
use Rattle.gem_states.specs.declared.control.ControlIn.{ControlIn}
use Rattle.gem_recipes.specs.declared.asking.RecipesAsked.{RecipesAsked}
use Rattle.gem_recipes.specs.Asking.{is_change}
use Rattle.message_flow.specs.declared.message.Message.{Message}
use Rattle.trace_log.specs.Log.{Happening}
use Rattle.trace_log.specs.Names.{Spooled, spooled_name}
use Rattle.message_end.specs.declared.unsent.Unsent.{Unsent}
use Rattle.message_end.specs.Core.{EndView}
use Rattle.message_end.specs.Core.Command.{Halt, Note, Primary}
use Rattle.message_end.specs.Endings.{ends_open}
use Rattle.message_end.specs.Parts.{fixed_turn}
use Rattle.equipment_tables.specs.declared.answers.Answer.{Answer as Text}
use Rattle.equipment_tables.specs.declared.answers.Answer.TheVariants as answer
use Rattle.equipment_tables.specs.Answers.{identity_of}
use Rattle.equipment_tables.specs.Tables.{overwrites}
use Rattle.spool_ledger.specs.Ledger.{Booked, LedgerView, room_for}
use Rattle.spool_ledger.specs.Storing.{stored, stored_by}
use Rattle.tool_step.specs.declared.kind.Kind.{Kind}
use Rattle.tool_step.specs.declared.owed.Owed.TheVariants.{Recipes}
use Rattle.tool_step.specs.Own.{OwnView, ToolCommands, ToolDuty, ToolTurn, event_report, is_communicating, is_online, owing, quiet_turn, untold, with_ledger, with_comms}
use Rattle.tool_step.specs.Recipes.{recipes_turn}
use Rattle.tool_law.specs.Putting.{Putting, failed_puts, is_at_end, lacks_number, leaving_puts, left_puts, puts, puts_none, report_puts, runs_out, text_puts}
use Rattle.tool_step.specs.Reports.{judged_turn, report_turn, text_turn, unreported_turn}
use Rattle.tool_step.specs.Sent as sent
use Rattle.tool_step.specs.Spooling.{Stores, booked_turn, is_spooled, lines_commands, stored_turn, stores_all, stores_behind, stores_commands, stores_none}
use Rattle.tool_step.specs.States as states
use Rattle.tool_step.specs.Step.{failed_turn}
use Rattle.tool_law.proofs.CommandWalks.{HasCommon, are-both, comms-noted, control-noted, open-are}
use Rattle.tool_law.proofs.Drawing.{AreFree, AreFreeDuties, IsFree, Needs, Spends, free-need, free-spend, halt-spend, needs-as, needs-both, needs-none, needs-one, primary-spend, spend-behind, spends-as, spends-one}

-- ---- turns that draw none

pub one-needs : (h : Bool) (duties : List ToolDuty) → Needs 0 h duties → Needs 1 h duties
one-needs h duties is = needs-as 0 1 h h duties (omega arith) refl is

pub free-one : (duties : List ToolDuty) → AreFreeDuties duties → Needs 1 false duties
free-one duties free = one-needs false duties (free-need duties free)

-- what is asked of the recipes is asked without a word
pub recipes-need : (asked : RecipesAsked) (message : Message) (own : OwnView)
    → Needs 1 false (recipes_turn asked message own).duties
recipes-need asked message own = go (message.wait || is_change asked)
  where
    owes : OwnView
    owes = owing (Recipes asked (untold message)) own

    go : (asks : Bool) → Needs 1 false (if asks then quiet_turn owes else quiet_turn own).duties
    go true = free-one [] tt
    go false = free-one [] tt

pub noted-free : (lines : List Happening) → AreFree (lines_commands lines)
noted-free [] = tt
noted-free (what ∷ lines) = (tt, noted-free lines)

pub booked-free : (booked : Booked) (own : OwnView) → AreFreeDuties (booked_turn booked own).duties
booked-free booked own = ((λ e. noted-free booked.lines), tt)

pub common-free : HasCommon IsFree
common-free = record {
  comms = λ state. tt;
  control = λ state. tt;
  failed = λ title. tt;
  dropped = λ name. tt;
  denied = λ name. tt;
  too_long = λ name. tt;
  full = λ name. tt;
  ends = λ system. tt;
  removes = λ system. tt;
  recalls = λ header. tt;
  drops = tt;
  aborts = tt;
}

pub control-free : (input : ControlIn) (own : OwnView) → AreFreeDuties (states.control_turn input own).duties
control-free input own =
    ((λ e. control-noted common-free own.control.state (control_next own.control input).state), tt)

-- ---- what is sent

sent-spend : (unsent : List ℕ → Unsent Kind) (text : Text) → Spends 1 false (sent.primary_commands unsent text)
sent-spend unsent (answer.Body body) = primary-spend (unsent body) [] tt
sent-spend unsent answer.TooLong = spends-one false [] (free-spend [] tt)

free-spends : (commands : ToolCommands) → AreFree commands → Spends 1 false commands
free-spends commands free = spends-one false commands (free-spend commands free)

pub error-spends : (function : ℕ) (header : Header) (own : OwnView) (e : EndView Kind)
    → Spends 1 false (sent.error_duty function header own e)
error-spends function header own e = go (is_communicating own) (sent.has_room e)
  where
    text : Text
    text = sent.text_of own (sent.error_item header)

    go : (communicating room : Bool)
        → Spends 1 false
        (if communicating then (if room then sent.primary_commands (sent.error_primary function) text
        else Note (Happening.Full (sent.error_name function)) ∷ []) else [])
    go true true = sent-spend (sent.error_primary function) text
    go true false = free-spends (Note (Happening.Full (sent.error_name function)) ∷ []) (tt, tt)
    go false room = free-spends [] tt

pub errors-need : (function : ℕ) (header : Header) (own : OwnView)
    → Needs 1 false (sent.error_duty function header own ∷ [])
errors-need function header own =
    needs-one 1 false (sent.error_duty function header own) (λ e. error-spends function header own e)

request-spends : (out : CommsOut) (own : OwnView) → Spends 1 false (states.request_commands out own)
request-spends comms_out.SendRequest own =
    sent-spend sent.establish_request (sent.text_of own (identity_of own.tables))
request-spends comms_out.Nothing own = free-spends [] tt
request-spends comms_out.Answer own = free-spends [] tt

pub comms-need : (input : CommsIn) (now : ℕ) (own : OwnView) → Needs 1 false (states.comms_turn input now own).duties
comms-need input now own =
    let outcome = states.comms_outcome input now own in
    needs-one 1 false (λ e. states.comms_commands outcome own)
    (λ e.
    spend-behind 1 false (states.comms_lines own.comms.state outcome.next.state)
    (states.request_commands outcome.output own)
    (comms-noted common-free own.comms.state outcome.next.state) (request-spends outcome.output own))

pub primary-need : (own : OwnView) (unsent : Unsent Kind) → Needs 1 false (fixed_turn own (Primary unsent ∷ [])).duties
primary-need own unsent = needs-one 1 false (λ e. Primary unsent ∷ []) (λ e. primary-spend unsent [] tt)

asking-need : (asked : Text) (body : List ℕ) (own : OwnView) (e : EndView Kind)
    → Needs 1 false (sent.asking_turn asked body own e).duties
asking-need (answer.Body text) body own e = primary-need (sent.granted_own body own e) (sent.grant_request text)
asking-need answer.TooLong body own e = needs-none 1

pub going-need : (message : Spooled) (own : OwnView) (e : EndView Kind)
    → Needs 1 false (sent.going_turn message own e).duties
going-need message own e = primary-need (sent.live_own message own e) (sent.live_report message)

pub event-need : (dataid : ℕ) (body : List ℕ) (own : OwnView) (e : EndView Kind)
    → Needs 1 false (sent.event_turn dataid body own e).duties
event-need dataid body own e = go (nat_le (length body) 244)
  where
    go : (alone : Bool)
        → Needs 1 false
        (if alone then sent.going_turn (event_report body) own e else sent.grant_turn dataid body own e).duties
    go true = going-need (event_report body) own e
    go false = asking-need (sent.text_of own (sent.grant_item dataid (length body))) body own e

-- ---- messages that are put

-- the definition of what is put comes to its end where `room` says so
stores-end :
    (overwriting : Bool) (messages : List Spooled) (v : LedgerView)
    → (stores_all overwriting messages v).is_spent ≡ runs_out overwriting messages v
stores-end overwriting [] v = refl
stores-end overwriting (message ∷ messages) v =
    go (room_for v (length message.body)) overwriting (λ w. stores-end overwriting messages w)
  where
    go : (found : Room) (full : Bool)
        → ((w : LedgerView) → (stores_all overwriting messages w).is_spent ≡ runs_out overwriting messages w)
        → (option_map_or (λ (b : Booked). stores_behind b.lines (stores_all overwriting messages b.next))
        (stored_by found full message v) (stores_none true v)).is_spent
        ≡ (is_at_end found
        || option_map_or (λ (b : Booked). runs_out overwriting messages b.next) (stored_by found full message v) false)
    go room.Fits full more = more _
    go room.Full true more = more _
    go room.Full false more = more _
    go room.TooLong full more = more _
    go room.NumbersSpent full more = refl

stores-spend :
    (most : ℕ) (stores : Stores) (more : ToolCommands) → Spends most false more
    → Spends most stores.is_spent (stores_commands stores more)
stores-spend most stores more is =
    spend-behind most stores.is_spent (lines_commands stores.lines) (if stores.is_spent then Halt ∷ [] else more)
    (noted-free stores.lines) (go stores.is_spent)
  where
    go : (spent : Bool) → Spends most spent (if spent then Halt ∷ [] else more)
    go true = spends-as 0 most true true (Halt ∷ []) (omega arith) refl halt-spend
    go false = is

stored-need : (message : Spooled) (own : OwnView)
    → Needs 0 (lacks_number (puts (message ∷ []) own.ledger own)) (stored_turn message own).duties
stored-need message own =
    needs-as 0 0 (is_none found) (lacks_number (puts (message ∷ []) own.ledger own)) (stored_turn message own).duties
    (omega arith) (none (room_for own.ledger (length message.body)) (overwrites own.tables)) (go found)
  where
    found : Option Booked
    found = stored (overwrites own.tables) message own.ledger

    none : (found : Room) (full : Bool)
        → is_none (stored_by found full message own.ledger)
        ≡ (is_at_end found || option_map_or (λ (b : Booked). false) (stored_by found full message own.ledger) false)
    none room.Fits full = refl
    none room.Full true = refl
    none room.Full false = refl
    none room.TooLong full = refl
    none room.NumbersSpent full = refl

    go : (found : Option Booked)
        → Needs 0 (is_none found)
        (option_map_or (λ (b : Booked). booked_turn b own) found (fixed_turn own (Halt ∷ []))).duties
    go None = needs-one 0 true (λ e. Halt ∷ []) (λ e. halt-spend)
    go (Some booked) = free-need (booked_turn booked own).duties (booked-free booked own)

-- ---- reports

abbrev pub NeedsFor : ℕ → Putting → ToolTurn → Type 0
NeedsFor most putting turn = Needs most (lacks_number putting) turn.duties

pub note-need : (own : OwnView) (what : Happening) → Needs 1 false (fixed_turn own (Note what ∷ [])).duties
note-need own what = free-one (fixed_turn own (Note what ∷ [])).duties ((λ e. (tt, tt)), tt)

pub judged-need :
    (report : List ℕ → Spooled) (going : Spooled → ToolTurn) (text : Text) (own : OwnView)
    → ((body : List ℕ) → Needs 1 false (going (report body)).duties)
    → NeedsFor 1 (report_puts report text own) (judged_turn report going text own)
judged-need report going text own goes = online (is_online own)
  where
    made : (body : List ℕ) (spooled communicating : Bool)
        → NeedsFor 1 (if spooled then puts (report body ∷ []) own.ledger own else puts_none own)
        (if spooled then stored_turn (report body) own
        else if communicating then going (report body)
        else unreported_turn (spooled_name (report body)) own)
    made body true communicating = one-needs _ _ (stored-need (report body) own)
    made body false true = goes body
    made body false false = note-need own (Happening.Dropped (spooled_name (report body)))

    by_text : (text : Text) → NeedsFor 1 (text_puts report text own) (text_turn report going text own)
    by_text (answer.Body body) = made body (is_spooled (report body) own) (is_communicating own)
    by_text answer.TooLong = note-need own (Happening.TooLong (spooled_name (report [])))

    online : (is : Bool)
        → NeedsFor 1 (if is then text_puts report text own else puts_none own)
        (if is then text_turn report going text own else unreported_turn (spooled_name (report [])) own)
    online true = by_text text
    online false = note-need own (Happening.Dropped (spooled_name (report [])))

pub report-need : (report : List ℕ → Spooled) (text : Text) (own : OwnView) (e : EndView Kind)
    → NeedsFor 1 (report_puts report text own) (report_turn report text own e)
report-need report text own e =
    judged-need report (λ message. sent.going_turn message own e) text own
    (λ body. going-need (report body) own e)

-- ---- all open messages end

-- with so many for what is asked behind it
pub left-need :
    (most : ℕ) (outcome : CommsOutcome) (failed : Option Header) (own : OwnView) (e : EndView Kind)
    → Spends most false (states.request_commands outcome.output own)
    → NeedsFor most (left_puts outcome own e) (states.left_turn outcome failed own e)
left-need most outcome failed own e asks = go (states.is_same_comms own.comms.state outcome.next.state)
  where
    spools : Bool
    spools = states.begins_spooling own.comms.state outcome.next.state

    activity : Booked
    activity = states.activity_of outcome own

    left : OwnView
    left = with_ledger activity.next (with_comms outcome.next own)

    messages : List Spooled
    messages = filter_map (states.stored_of spools left) e.transactions.begun

    stores : Stores
    stores = stores_all (overwrites own.tables) messages activity.next

    behind : Spends most stores.is_spent (states.left_commands outcome activity stores own)
    behind =
        spend-behind most stores.is_spent
        (states.comms_lines own.comms.state outcome.next.state ++ lines_commands activity.lines)
        (stores_commands stores (states.request_commands outcome.output own))
        (are-both IsFree (states.comms_lines own.comms.state outcome.next.state) (lines_commands activity.lines)
        (comms-noted common-free own.comms.state outcome.next.state) (noted-free activity.lines))
        (stores-spend most stores (states.request_commands outcome.output own) asks)

    opens : List ToolDuty
    opens = ends_open (states.ends_report spools left) e failed

    parted : Needs most (runs_out (overwrites own.tables) messages activity.next)
        (opens ++ (λ later. states.left_commands outcome activity stores own) ∷ [])
    parted =
        needs-as (0 + most) most stores.is_spent (runs_out (overwrites own.tables) messages activity.next) _
        (omega arith) (stores-end (overwrites own.tables) messages activity.next)
        (needs-both 0 most false stores.is_spent opens
        ((λ later. states.left_commands outcome activity stores own) ∷ [])
        (free-need opens (open-are common-free spools left e failed))
        (needs-one most stores.is_spent (λ later. states.left_commands outcome activity stores own) (λ later. behind)))

    go : (same : Bool)
        → NeedsFor most (if same then puts_none own else puts messages activity.next own)
        (if same then quiet_turn own else states.parted_turn outcome spools activity failed own e)
    go true = needs-none most
    go false = parted

pub leaving-need :
    (input : CommsIn) (failed : Option Header) (now : ℕ) (own : OwnView) (e : EndView Kind)
    → NeedsFor 1 (leaving_puts input now own e) (states.end_of_talk input failed now own e)
leaving-need input failed now own e =
    let outcome = states.comms_outcome input now own in
    left-need 1 outcome failed own e (request-spends outcome.output own)

pub failed-need : (now : ℕ) (failed : Option Header) (own : OwnView) (e : EndView Kind)
    → NeedsFor 1 (failed_puts now failed own e) (failed_turn now failed own e)
failed-need now None own e = needs-none 1
failed-need now (Some header) own e = leaving-need comms_in.SendFailed (Some header) now own e
