-- What was carried out so far leads, with what is left, to what the whole list makes.
use Rattle.std.proofs.Common.{length, ◌≡◌}
use Rattle.equipment_tables.specs.Tables.{state_of}
use Rattle.tool_core.proofs.KeptLists.{IsCarried}
use Rattle.tool_core.proofs.setup.KeptSetup.carry_out.Given as goal

abbrev pub invariant-entries : goal.invariant-entries
invariant-entries l =
    IsCarried l.self (state_of l.fn.tables) l.fn.out.notes (state_of l.tables) l.out.notes l.rest
    × (l.out.line ≡ l.fn.out.line)

abbrev pub decreases-entries : goal.decreases-entries
decreases-entries l = length l.rest
