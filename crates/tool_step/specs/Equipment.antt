-- The equipment with its spool: a step as a whole, its starts, and the equipment as an end.
use Rattle.std.specs.Prelude.{ℕ, Bool, true, false, ◌+◌, ◌^◌, nat_lt, List, [], ◌∷◌, ◌++◌, map, slice_get, Option, Some, None, if◌then◌else◌}
use Rattle.std.specs.Option.{option_map}
use Rattle.gem_spool.specs.Works.{lists_after, standings_after}
use Rattle.gem_states.specs.Comms.{comms_after}
use Rattle.gem_states.specs.Control.{new_control}
use Rattle.spool_file.specs.File.{SpoolFile}
use Rattle.spool_file.specs.Slot.{Message, width}
use Rattle.spool_slots.specs.Files.{upgraded, with_mark_moved}
use Rattle.trace_log.specs.declared.commands.ToolCommand.{ToolCommand}
use Rattle.trace_log.specs.Log.{Happening}
use Rattle.setup_store.specs.Entries.{Entry}
use Rattle.trace_log.specs.Log.Happening.{EquipmentStarted, Setup, StepEnded}
use Rattle.trace_log.specs.Names.{Spooled}
use Rattle.transact.specs.Numbers.{numbers_from}
use Rattle.message_end.specs.Core.{EndView, Step, Went, and_then, at_first}
use Rattle.message_end.specs.Core.Command.{More}
use Rattle.message_end.specs.Core.Went.{Goes, Spent}
use Rattle.message_end.specs.Ends.{Input}
use Rattle.message_end.specs.Laws.{new_end}
use Rattle.message_end.specs.Parts.{Node, after_parts, core_after}
use Rattle.spool_ledger.specs.Ledger.{LedgerView, carried_out, new_ledger, stood_count}
use Rattle.equipment_tables.specs.declared.plan.EquipmentPlan.{EquipmentPlan}
use Rattle.equipment_tables.specs.Tables.{planned_tables}
use Rattle.tool_step.specs.declared.kind.Kind.{Kind}
use Rattle.tool_step.specs.Own.{OwnView, ToolPart, TracingView, with_ledger}
use Rattle.tool_step.specs.Recipes.{RecipesView, answered_by, no_recipes, recipes_behind}
use Rattle.tool_step.specs.Setup.{carried_lines, found_list, kept_file, set_up, setup_in}
use Rattle.tool_step.specs.Step.{end_plan, first_parts, last_parts}
use Rattle.spool_works.specs.Found.{spooled_of, first_in, found_in}

-- the equipment, and what a loss of power keeps: the file of its spool, below whose mark all system bytes lie that it may
-- have drawn, and its recipes
pub record EquipmentView : Type 0 where
  pub node : Node OwnView Kind
  pub file : SpoolFile
  pub recipes : RecipesView

-- ---- system bytes

-- a step reserves 4,096 more behind those that are left, where these are fewer than 128 (this profile)
abbrev pub needs_numbers : EquipmentView → Bool
needs_numbers s = nat_lt s.node.core.numbers.end (s.node.core.numbers.next + 128)

-- there are no more of four bytes
abbrev pub is_marked_out : ℕ → Bool
is_marked_out mark = nat_lt (2 ^ 32) (mark + 4096)

abbrev pub with_core : EndView Kind → Node OwnView Kind → Node OwnView Kind
with_core core node = record node { core = core }

abbrev pub reserved : EquipmentView → EquipmentView
reserved s = record {
  node = with_core (core_after (More 4096) s.node.core) s.node;
  file = with_mark_moved s.file;
  recipes = s.recipes;
}

abbrev pub reserving : EquipmentView → Went EquipmentView Happening
reserving s =
    if needs_numbers s then if is_marked_out s.file.mark.value then Spent (at_first s) else Goes (at_first (reserved s))
    else Goes (at_first s)

-- ---- parts of a step, while the file stays as it is

abbrev pub with_node : EquipmentView → Node OwnView Kind → EquipmentView
with_node s node = record s { node = node }

abbrev pub node_step : {N : Type 0} → Step EquipmentView N → Step (Node OwnView Kind) N
node_step step = record { next = step.next.node; notes = step.notes; written = step.written }

abbrev pub file_step : {N : Type 0} → EquipmentView → Step (Node OwnView Kind) N → Step EquipmentView N
file_step s step = record { next = with_node s step.next; notes = step.notes; written = step.written }

abbrev pub went_with_file :
    {N : Type 0} → EquipmentView → Went (Node OwnView Kind) N → Went EquipmentView N
went_with_file s (Goes step) = Goes (file_step s step)
went_with_file s (Spent step) = Spent (file_step s step)

abbrev pub parts_done : List ToolPart → Step EquipmentView Happening → Went EquipmentView Happening
parts_done parts step = went_with_file step.next (after_parts Some parts (node_step step))

-- ---- what the spool owes is done, and what is asked of an object outside

abbrev pub settled_own : OwnView → OwnView
settled_own own = with_ledger (carried_out own.ledger) own

-- what the works make of the list, and of all of the file
abbrev pub settled_list : LedgerView → List Message → List Message
settled_list ledger list = lists_after (stood_count ledger).next list ledger.works

abbrev pub settled_file : LedgerView → SpoolFile → SpoolFile
settled_file ledger file =
    (standings_after (record { next = (stood_count ledger).next; file = file }) ledger.works).file

abbrev pub settled : EquipmentView → EquipmentView
settled s = record {
  node = record s.node { own = settled_own s.node.own };
  file = settled_file s.node.own.ledger s.file;
  recipes = s.recipes;
}

abbrev pub settled_step : Step EquipmentView Happening → Step EquipmentView Happening
settled_step step = record step { next = settled step.next }

-- the setup is kept behind that
abbrev pub kept_view : EquipmentView → EquipmentView
kept_view s = record s { file = kept_file s.node.own s.file }

abbrev pub kept_step : Step EquipmentView Happening → Step EquipmentView Happening
kept_step step = record step { next = kept_view step.next }

-- and the recipes are asked behind both
abbrev pub served_own : RecipesView → OwnView → OwnView
served_own kept own = record own { owed = answered_by kept own.owed }

abbrev pub served_view : EquipmentView → EquipmentView
served_view s = record {
  node = record s.node { own = served_own s.recipes s.node.own };
  file = s.file;
  recipes = recipes_behind s.node.own.owed s.recipes;
}

abbrev pub served_step : Step EquipmentView Happening → Step EquipmentView Happening
served_step step = record step { next = served_view step.next }

-- all of that; what the spool owes also where the numbers are spent by then (this profile)
abbrev pub done_step : Step EquipmentView Happening → Step EquipmentView Happening
done_step step = served_step (kept_step (settled_step step))

abbrev pub settled_went : Went EquipmentView Happening → Went EquipmentView Happening
settled_went (Goes step) = Goes (done_step step)
settled_went (Spent step) = Spent (settled_step step)

-- ---- a step

-- more system bytes where few are left, all that is due, and what the equipment is given
abbrev pub begun_step : EquipmentView → Input ToolCommand → ℕ → Went EquipmentView Happening
begun_step s input now = and_then (reserving s) (parts_done (first_parts input now))

-- what goes out behind the works of the disk
abbrev pub oldest_of : EquipmentView → Option Spooled
oldest_of s = option_map spooled_of (slice_get s.file.list 0)

abbrev pub ended_step : ℕ → Step EquipmentView Happening → Went EquipmentView Happening
ended_step now step = parts_done (last_parts (oldest_of step.next) now) step

abbrev pub act : EquipmentView → Input ToolCommand → ℕ → Went EquipmentView Happening
act s input now = and_then (settled_went (begun_step s input now)) (ended_step now)

-- ---- starts

-- no trace outlives a start (this profile)
abbrev pub no_traces : TracingView
no_traces = record { running = []; made = []; for_grant = [] }

-- with what the spool holds, and with the setup that is found, which is carried out
abbrev pub new_own : EquipmentPlan → Option (List Entry) → LedgerView → OwnView
new_own plan setup ledger = record {
  plan = plan;
  tables = set_up (planned_tables plan) (found_list setup);
  setup = setup;
  comms = comms_after [];
  control = new_control plan.control;
  for_grant = [];
  reports = [];
  ledger = ledger;
  tried = None;
  owed = None;
  offers = false;
  tracing = no_traces;
  events = 0;
  has_begun = false;
}

-- what is noted of the setup that a start finds; and that it is carried out, as a step ends
abbrev pub setup_lines : EquipmentPlan → Option (List Entry) → List Happening
setup_lines plan setup = Setup setup ∷ (carried_lines (planned_tables plan) (found_list setup) ++ StepEnded ∷ [])

-- over what a file stands for: it becomes one of version 2, and the system bytes from its mark on are reserved
abbrev pub started_on : EquipmentPlan → SpoolFile → Step EquipmentView Happening
started_on plan file = record {
  next = record {
    node = record {
      own = new_own plan (setup_in file) (new_ledger file.slots (first_in file) (map width file.list));
      core = new_end (end_plan plan) (numbers_from file.mark.value 4096);
    };
    file = with_mark_moved (upgraded file);
    recipes = no_recipes;
  };
  notes = EquipmentStarted (found_in file.list) file.mark.value ∷ setup_lines plan (setup_in file);
  written = [];
}

-- where there are none any more, nothing is noted, and the file is of version 2 alone
abbrev pub unstarted : EquipmentPlan → SpoolFile → EquipmentView
unstarted plan file = record (started_on plan file).next { file = upgraded file }

abbrev pub starts : EquipmentPlan → SpoolFile → Went EquipmentView Happening
starts plan file =
    if is_marked_out file.mark.value then Spent (at_first (unstarted plan file))
    else Goes (started_on plan file)

-- one with these recipes, which a host is offered
abbrev pub offering : RecipesView → EquipmentView → EquipmentView
offering kept s = record {
  node = record s.node { own = record s.node.own { offers = true } };
  file = s.file;
  recipes = kept;
}

-- a start anew without recipes finds what is kept
abbrev pub restarts : EquipmentView → ℕ → Went EquipmentView Happening
restarts s now = starts s.node.own.plan s.file
