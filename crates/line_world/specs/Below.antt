-- What the crates below promise of an equipment, and of a line, whatever the host is.
use Rattle.delivery.specs.Laws.{EndsDeliver}
use Rattle.equipment_tables.specs.Laws.{TablesAreLookedBackFor}
use Rattle.gem_trace.specs.Laws.{FewTracesRun, WhatRunsIsLookedBackFor}
use Rattle.setup_law.specs.Tables.{KeptSetupHolds}
use Rattle.spool_delivery.specs.Laws.{SpoolIsTakenInOrder}
use Rattle.tool_reports.specs.Laws.{ReportsAreOfTheirEvents}
use Rattle.tool_spool.specs.LeavesInStep.{MessagesLeaveInStep}
use Rattle.tool_spool.specs.MadeRoom.{OverwritesForPuts}
use Rattle.tool_spool.specs.SetupKept.{SetupIsKept}
use Rattle.tool_spool.specs.SpoolKept.{SpoolIsKept}

-- all that the claims of a log rest on
pub record LawsHold : Type 0 where
  pub deliver : EndsDeliver
  pub take : SpoolIsTakenInOrder
  pub reports : ReportsAreOfTheirEvents
  pub kept : SpoolIsKept
  pub left : MessagesLeaveInStep
  pub used : OverwritesForPuts
  pub set_up : SetupIsKept
  pub told : KeptSetupHolds
  pub tables : TablesAreLookedBackFor
  pub running : WhatRunsIsLookedBackFor
  pub few : FewTracesRun
