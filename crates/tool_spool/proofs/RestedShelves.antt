-- What holds of the spool between two steps, whatever was noted by then, and at a start.
use Rattle.std.proofs.Common.{◌≡◌, refl, sym, ◌∙◌, arith, ◌<◌, ◌≤◌, ◌+◌, ◌^◌, false, ℕ, List, [], ◌∷◌, append-nil, Option}
use Rattle.std.specs.Prelude.{map, sum}
use Rattle.setup_store.specs.Entries.{Entry}
use Rattle.spool_file.specs.Run.{IsChainFrom}
use Rattle.spool_file.specs.Slot.{Message as Put, width}
use Rattle.trace_log.specs.Log.{Happening}
use Rattle.transact.specs.Numbers.{numbers_from}
use Rattle.message_end.specs.Core.{EndView}
use Rattle.message_end.specs.Laws.{new_end}
use Rattle.spool_law.specs.Shelf.{IsFoundOf, shelf_of}
use Rattle.spool_ledger.specs.Ledger.{new_ledger}
use Rattle.spool_ledger.proofs.Keeping.{new_keeps}
use Rattle.spool_ledger.proofs.Widths.{widths-some}
use Rattle.spool_works.specs.Found.{found_in}
use Rattle.equipment_tables.specs.declared.plan.EquipmentPlan.{EquipmentPlan}
use Rattle.tool_step.specs.declared.kind.Kind.{Kind}
use Rattle.tool_step.specs.Equipment.{new_own}
use Rattle.tool_step.specs.Own.{OwnView}
use Rattle.tool_step.specs.Step.{end_plan}
use Rattle.tool_law.proofs.WorkLines.{lines-none}
use Rattle.tool_spool.specs.SpoolKept.{policy_of}
use Rattle.tool_spool.proofs.FromStarts.{KeepsOn}
use Rattle.tool_spool.proofs.PairedLines.{told-none}
use Rattle.tool_spool.proofs.ShelvedTurns.{Shelves}

module _ (plan : EquipmentPlan) (slots : ℕ) where
  -- behind other notes before the step, where nothing is owed
  pub rebased :
      (list : List Put) (base one other : List Happening) (own : OwnView) (core : EndView Kind) (notes : List Happening)
      → own.ledger.works ≡ [] → Shelves plan slots list base one own core notes
      → Shelves plan slots list notes other own core notes
  rebased list base one other own core notes none holds = record {
    is = holds.is;
    all = holds.all;
    shelved = record {
      kept = holds.shelved.kept;
      rest = holds.shelved.rest;
      stands = holds.shelved.stands;
      chain = holds.shelved.chain;
      sizes = holds.shelved.sizes;
      lines = lines-none own.ledger list notes none;
      told = told-none own.ledger list notes none;
      closed = holds.shelved.closed;
    };
    drawn = holds.drawn;
    asks = holds.asks;
    under_way = holds.under_way;
    reports = holds.reports;
    owes = holds.owes;
  }

  -- ---- starts

  -- a start finds what stands, or what a loss of power has left of it
  abbrev Finds : List Happening → List Put → Type 0
  Finds notes list =
      IsFoundOf (shelf_of notes).stands (shelf_of notes).storing (shelf_of notes).leaving (found_in list)

  pub finds-all : (notes : List Happening) (list : List Put) → (shelf_of notes).stands ≡ found_in list
      → Finds notes list
  finds-all notes list stands = record {
    missing = 0;
    stored = false;
    at_most = omega arith;
    is = sym stands ∙ sym (append-nil (shelf_of notes).stands);
  }

  pub started-shelves :
      (setup : Option (List Entry)) (list : List Put) (first mark : ℕ) (before notes : List Happening) → 0 < slots
      → slots < 2 ^ 16
      → KeepsOn (policy_of plan slots) (Happening.EquipmentStarted (found_in list) mark ∷ notes)
      → IsChainFrom first (first + sum (map width list)) list → sum (map width list) ≤ slots
      → first + sum (map width list) ≤ 2 ^ 63 + 65535
      → Shelves plan slots list (Happening.EquipmentStarted (found_in list) mark ∷ notes) before
      (new_own plan setup (new_ledger slots first (map width list))) (new_end (end_plan plan) (numbers_from mark 4096))
      (Happening.EquipmentStarted (found_in list) mark ∷ notes)
  started-shelves setup list first mark before notes some most kept chain room bound = record {
    is = new_keeps slots first (map width list) some (below slots most) (widths-some list) room bound;
    all = refl;
    shelved = record {
      kept = kept;
      rest = record { none_stored = refl; none_leaves = refl };
      stands = refl;
      chain = chain;
      sizes = refl;
      lines =
          lines-none (new_ledger slots first (map width list)) list
          (Happening.EquipmentStarted (found_in list) mark ∷ notes) refl;
      told =
          told-none (new_ledger slots first (map width list)) list
          (Happening.EquipmentStarted (found_in list) mark ∷ notes) refl;
      closed = tt;
    };
    drawn = λ one has. absurd has;
    asks = tt;
    under_way = refl;
    reports = λ one has. absurd has;
    owes = refl;
  }
    where
      below : (n : ℕ) → n < 2 ^ 16 → n ≤ 65535
      below n less = omega (arith, less)
