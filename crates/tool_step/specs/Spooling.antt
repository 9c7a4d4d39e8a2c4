-- What becomes of the spool in a step of the equipment (SEMI E30, spooling). The works of the disk are owed in the
-- ledger; here is what is noted of them, and what goes out.
use Rattle.std.specs.Prelude.{ℕ, Bool, true, false, not, ◌==◌, ◌&&◌, List, [], ◌∷◌, ◌++◌, length, nat_le, map, slice_get, Option, Some, None, if◌then◌else◌}
use Rattle.std.specs.Option.{option_and_then, option_map_or, unwrap_or}
use Rattle.gem_shapes.specs.Answers.{code_item}
use Rattle.gem_shapes.specs.Elements.{identifier, list_of}
use Rattle.spool_rule.specs.Rule.{covered}
use Rattle.message_flow.specs.declared.message.Message.{Message}
use Rattle.secs_items.specs.declared.item.Item.{Item, out-Item}
use Rattle.trace_log.specs.Log.{Happening}
use Rattle.trace_log.specs.Names.{Spooled}
use Rattle.transact.specs.Numbers as numbers
use Rattle.message_end.specs.declared.unsent.Unsent.{Unsent}
use Rattle.message_end.specs.Core.{EndView, is_crowded_out}
use Rattle.message_end.specs.Core.Command.{Draw, DrawnPrimary, Halt, Note, Primary, Remove}
use Rattle.message_end.specs.Parts.{fixed_turn, leads}
use Rattle.equipment_tables.specs.declared.answers.Answer.{Answer}
use Rattle.equipment_tables.specs.declared.answers.Answer.TheVariants as answer
use Rattle.equipment_tables.specs.Requests.{item_in}
use Rattle.equipment_tables.specs.Tables.{most_transmitted, overwrites}
use Rattle.tool_step.specs.declared.kind.Kind.{Kind}
use Rattle.tool_step.specs.declared.kind.Kind.TheVariants as kind
use Rattle.tool_step.specs.Own.{OwnView, ToolCommands, ToolDuty, ToolPart, ToolTurn, event_report, is_communicating, quiet_turn, turn_before, turn_behind, turn_of, with_ledger, with_tried}
use Rattle.tool_step.specs.Sent.{answer_duties, grant_item, primary_of, text_of}
use Rattle.spool_ledger.specs.Activity.{rested, rsda_of}
use Rattle.spool_ledger.specs.Ledger.{Booked, LedgerView}
use Rattle.spool_ledger.specs.Storing.{all_out, stored}
use Rattle.spool_ledger.specs.Unloading.{after_next, confirmed, fresh, let_go, next_number, taken_up, waiting_in, with_each, with_unload}

-- ---- changes of the ledger as turns

abbrev pub lines_commands : List Happening → ToolCommands
lines_commands lines = map Note lines

abbrev pub booked_turn : Booked → OwnView → ToolTurn
booked_turn booked own = fixed_turn (with_ledger booked.next own) (lines_commands booked.lines)

-- ---- messages that are put

-- the rule covers it
abbrev pub is_covered : Spooled → OwnView → Bool
is_covered message own = covered own.tables.rule message.stream message.function

-- while the spool is active a new message that the rule covers goes there (SEMI E30, SPOOL ACTIVE)
abbrev pub is_spooled : Spooled → OwnView → Bool
is_spooled message own = own.ledger.is_active && is_covered message own

-- a new message is put; where it would get no number, nothing more is done (this profile)
abbrev pub stored_turn : Spooled → OwnView → ToolTurn
stored_turn message own =
    option_map_or (λ booked. booked_turn booked own) (stored (overwrites own.tables) message own.ledger)
    (fixed_turn own (Halt ∷ []))

-- what comes of messages that are put one after the other: the ledger, what is noted, and whether one would get no
-- number. Then no other is put
pub record Stores : Type 0 where
  pub next : LedgerView
  pub lines : List Happening
  pub is_spent : Bool

abbrev pub stores_none : Bool → LedgerView → Stores
stores_none is_spent ledger = record { next = ledger; lines = []; is_spent = is_spent }

abbrev pub stores_behind : List Happening → Stores → Stores
stores_behind lines more = record { next = more.next; lines = lines ++ more.lines; is_spent = more.is_spent }

abbrev pub stores_all : Bool → List Spooled → LedgerView → Stores
stores_all overwriting [] ledger = stores_none false ledger
stores_all overwriting (message ∷ messages) ledger =
    option_map_or (λ booked. stores_behind booked.lines (stores_all overwriting messages booked.next))
    (stored overwriting message ledger) (stores_none true ledger)

-- what is done behind them, unless a number was wanting
abbrev pub stores_commands : Stores → ToolCommands → ToolCommands
stores_commands stores more = lines_commands stores.lines ++ (if stores.is_spent then Halt ∷ [] else more)

-- ---- S6F23 and S6F24 (SEMI E5, S6F23; the codes are this profile's)

abbrev pub rsda_duties : Message → OwnView → List ToolDuty
rsda_duties message own = answer_duties (text_of own (code_item (rsda_of own.ledger))) message

-- the messages go to the host, from this step on
abbrev pub transmit_turn : Message → OwnView → ToolTurn
transmit_turn message own =
    if rsda_of own.ledger == 0 then turn_of (with_ledger (with_unload (Some fresh) own.ledger) own)
    (rsda_duties message own)
    else turn_of own (rsda_duties message own)

-- all messages leave
abbrev pub purge_turn : Message → OwnView → ToolTurn
purge_turn message own =
    if rsda_of own.ledger == 0 then turn_before (rsda_duties message own) (booked_turn (all_out own.ledger) own)
    else turn_of own (rsda_duties message own)

-- ---- messages that go to the host

-- a message of the spool as a primary, and the S6F5 that asks for a grant to send it (SEMI E5, S6F5)
abbrev pub unloaded : Spooled → Unsent Kind
unloaded message = primary_of message.stream message.function kind.Unload message.body

abbrev pub unload_request : List ℕ → Unsent Kind
unload_request = primary_of 6 5 kind.UnloadGrant

-- an S6F11 of several blocks asks for a grant (SEMI E4, block; SEMI E5, S6F5)
abbrev pub needs_grant : Spooled → Bool
needs_grant message =
    (message.stream == 6) && ((message.function == 11) && not (nat_le (length message.body) 244))

-- the DATAID in the text of an S6F11; 0 where there is none (SEMI E5, S6F11; the latter is this profile's)
abbrev pub first_number : Item → Option ℕ
first_number whole = option_and_then (λ parts. option_and_then identifier (slice_get parts 0))
    (list_of (out-Item whole))

abbrev pub dataid_in : List ℕ → ℕ
dataid_in body = unwrap_or (option_and_then first_number (item_in body)) 0

-- an unload ends, and its message stays
abbrev pub unloaded_own : OwnView → OwnView
unloaded_own own = with_ledger (with_unload None own.ledger) own

-- it goes, under the number that was drawn for it; one without room ends the unload and stays in the spool (this
-- profile)
abbrev pub unloading_turn : Spooled → OwnView → EndView Kind → ToolTurn
unloading_turn message own e =
    fixed_turn (if is_crowded_out true e then unloaded_own own else own) (DrawnPrimary (unloaded message) ∷ [])

-- or it waits for a grant; an S6F5 without room ends the unload too
abbrev pub inquiry_turn : Answer → OwnView → EndView Kind → ToolTurn
inquiry_turn (answer.Body text) own e =
    fixed_turn (if is_crowded_out true e then unloaded_own own else own) (Primary (unload_request text) ∷ [])
inquiry_turn _ own e = quiet_turn (unloaded_own own)

-- its text, where it waits for a grant
abbrev pub waiting_text : Spooled → Option (List ℕ)
waiting_text message = if needs_grant message then Some message.body else None

abbrev pub sent_turn : Spooled → OwnView → EndView Kind → ToolTurn
sent_turn message own e =
    if needs_grant message
    then inquiry_turn (text_of own (grant_item (dataid_in message.body) (length message.body))) own e
    else unloading_turn message own e

-- its system bytes were drawn, and it is noted; then it goes (this profile)
abbrev pub tried_turn : Option ℕ → ℕ → Spooled → OwnView → EndView Kind → ToolTurn
tried_turn None number message own e = quiet_turn own
tried_turn (Some system) number message own e =
    let booked = taken_up number system (waiting_text message) own.ledger in
    turn_behind (lines_commands booked.lines)
    (sent_turn message (with_tried system (with_ledger booked.next own)) e)

-- the message of the try before goes out no further, should it wait still: so behind a try no block of an earlier one
-- goes to the line (this profile)
abbrev pub stopped_turn : Option ℕ → (EndView Kind → ToolTurn) → EndView Kind → ToolTurn
stopped_turn None turn e = turn e
stopped_turn (Some system) turn e = leads (Remove true system) turn e

-- a message is taken up
abbrev pub taking_turn : Option ℕ → Option Spooled → OwnView → EndView Kind → ToolTurn
taking_turn None oldest own e = quiet_turn own
taking_turn (Some number) None own e = quiet_turn own
taking_turn (Some number) (Some message) own e =
    stopped_turn own.tried
    (λ later. leads Draw (tried_turn (numbers.next_number later.numbers) number message own) later) e

-- what comes next of an unload, with the oldest message of the spool
abbrev pub unload_part : Option Spooled → ToolPart
unload_part oldest own e =
    let most = most_transmitted own.tables in
    taking_turn (next_number most own.ledger) oldest (with_ledger (after_next most own.ledger) own) e

-- with an empty spool, no unload and the communication established, spooling ends (SEMI E30, spooling)
abbrev pub end_of_spooling : ToolPart
end_of_spooling own e = booked_turn (rested (is_communicating own) own.ledger) own

-- ---- what becomes of a message that went to the host

-- its reply has come: it leaves (SEMI E30, spooling)
abbrev pub confirmed_turn : OwnView → ToolTurn
confirmed_turn own = booked_turn (confirmed own.ledger) own

-- with a grant its S6F11 goes (SEMI E5, GRANT6)
abbrev pub let_go_turn : Option (List ℕ) → OwnView → EndView Kind → ToolTurn
let_go_turn None own e = quiet_turn own
let_go_turn (Some body) own e =
    unloading_turn (event_report body) (with_ledger (with_each let_go own.ledger) own) e

abbrev pub grant_given_turn : OwnView → EndView Kind → ToolTurn
grant_given_turn own e = let_go_turn (waiting_in own.ledger.unload) own e
