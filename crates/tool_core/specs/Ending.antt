-- What the code says of open messages that end, while it isn't known yet what else comes of that.
use Rattle.std.specs.Prelude.{Bool, [], ◌∷◌, List, Option, Some, None}
use Rattle.std.specs.List.{filter_map}
use Rattle.trace_log.specs.Names.{Spooled}
use Rattle.transact.specs.declared.begun.Begun.{Begun}
use Rattle.transact.specs.Transactions.{system_of}
use Rattle.message_end.specs.Core.{EndView}
use Rattle.message_end.specs.Parts.{fixed_turn}
use Rattle.equipment_tables.specs.Tables.{overwrites}
use Rattle.tool_step.specs.declared.kind.Kind.{Kind}
use Rattle.tool_step.specs.Own.{OwnView, ToolCommands, ToolTurn, with_ledger}
use Rattle.tool_step.specs.Spooling.{Stores, stores_all, stores_commands}
use Rattle.tool_step.specs.States.{ending_commands, stored_by}

-- with the spool active, or not
abbrev pub with_active : Bool → OwnView → OwnView
with_active active own = with_ledger (record own.ledger { is_active = active }) own

-- what is stored of an open transaction, and what is noted as it ends
abbrev pub stored_with : Bool → OwnView → Begun Kind → Option Spooled
stored_with active own begun = stored_by (with_active active own) begun.kind (system_of begun)

abbrev pub ends_with : Bool → OwnView → Begun Kind → ToolCommands
ends_with active own begun = ending_commands own.control (stored_with active own begun) begun.kind begun.header

-- the reports that are to be stored, in the order in which their transactions began
abbrev pub all_stored : Bool → OwnView → EndView Kind → List Spooled
all_stored active own e = filter_map (stored_with active own) e.transactions.begun

-- reports are stored one after the other
abbrev pub stores_of : List Spooled → OwnView → Stores
stores_of reports own = stores_all (overwrites own.tables) reports own.ledger

abbrev pub stores_turn : List Spooled → OwnView → ToolTurn
stores_turn reports own =
    fixed_turn (with_ledger (stores_of reports own).next own) (stores_commands (stores_of reports own) [])

-- none, or one
abbrev pub as_list : Option Spooled → List Spooled
as_list None = []
as_list (Some report) = report ∷ []
