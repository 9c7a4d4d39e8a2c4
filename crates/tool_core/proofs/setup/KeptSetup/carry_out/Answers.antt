use Rattle.std.proofs.Common.{◌∙◌, arith}
use Rattle.equipment_tables.specs.Tables.{state_of}
use Rattle.tool_core.proofs.KeptLists.{all_carried, one_carried}
use Rattle.tool_core.proofs.setup.KeptSetup.carry_out.Goals as goal

pub entries-preserved : goal.entries-preserved
entries-preserved c = (
  one_carried c.args.self.now (state_of c.args.tables.now) c.args.out.now.notes (state_of c.entries.tables)
      c.entries.out.notes c.entries.rest.now c.lists_are_read_as_spelled.ensures c.entries.invariant.0 _
      (state_of c.carry_one.new.tables) c.carry_one.new.out.notes c.in-Some.ensures.there
      (omega (arith, c.in-Some.ensures.within)) c.in_ok-carry_one.ensures.tables c.in_ok-carry_one.ensures.notes,
  c.carry_one.ensures.line ∙ c.entries.invariant.1,
)
