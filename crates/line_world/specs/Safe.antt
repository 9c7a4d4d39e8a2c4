-- All that is claimed of the log of a run (this profile).
use Rattle.std.specs.Prelude.{◌≡◌, ℕ, List, [], ◌++◌, Some}
use Rattle.delivery.specs.Order.{AreInOrder}
use Rattle.end_pair.specs.Laws.{AreNoNotes, IsOfMoves}
use Rattle.end_pair.specs.Noted.{noted_by, timed_by}
use Rattle.tool_law.specs.Laws.{DidOf}
use Rattle.tool_reports.specs.Reported.{Reported}
use Rattle.tool_spool.specs.LeavesInStep.{LeaveInTheirSteps}
use Rattle.tool_spool.specs.MadeRoom.{MakesRoomForPuts}
use Rattle.setup_law.specs.Setup.{KeepsSetup}
use Rattle.setup_law.specs.Tables.{TellsSetup}
use Rattle.tool_spool.specs.SpoolKept.{policy_of}
use Rattle.equipment_tables.specs.declared.plan.Plans.{Plans}
use Rattle.gl_base.specs.declared.side.Side.TheVariants as side
use Rattle.host_node.specs.Host as host
use Rattle.line_end.specs.declared.plan.HostPlan.{HostPlan}
use Rattle.message_end.specs.Doings.{Doing}
use Rattle.line_order.specs.Acts.{HasNoSlip}
use Rattle.line_order.specs.Line.{new_line}
use Rattle.message_end.specs.Log.{log_of}
use Rattle.message_end.specs.Moves.{KeepLaws, LinePlans, Move, deeds_of}
use Rattle.message_end.specs.Parts.{Did, Node}
use Rattle.spool_delivery.specs.Laws.{IsSpoolTaken}
use Rattle.trace_log.specs.Delivered.{Delivered}
use Rattle.trace_log.specs.Log.{Entry}
use Rattle.line_world.specs.Cuts.{AreSampledSoFar}
use Rattle.line_world.specs.Reports.{TellOfEvents}

-- the plans of the two ends of one line
abbrev pub plans_of : Plans → LinePlans
plans_of plans = record { equipment = plans.equipment.line; host = plans.host.line }

-- what the doings of an end have made of it
abbrev pub HostDid : HostPlan → ℕ → List Doing → Node host.HostOwn host.Kind → Type 0
HostDid plan = Did (host.HasPlan plan) (host.end_plan plan)

-- the log is that of moves on one line, each of which its end may make, step by step, and in these messages are
-- received in order
pub record ComesInOrder (plans : Plans) (log : List Entry) : Type 0 where
  pub moved : IsOfMoves (DidOf plans.equipment) (HostDid plans.host) (plans_of plans) log
  pub in_order : AreInOrder (plans_of plans) moved.moves

-- each S6F11, S6F16 and S6F20 that the equipment notes as sent holds what its variables held as its event happened, or
-- hold at the answer; and whichever S6F11 it sends or puts into its spool, in any start, tells of an event of that
-- start or an earlier one
pub record HoldsReports (plans : Plans) (log : List Entry) : Type 0 where
  pub in_their_start : Reported plans.equipment (noted_by side.Equipment log)
  pub over_all_starts : TellOfEvents plans.equipment (noted_by side.Equipment log)

-- what the equipment spools stands until it leaves: as confirmed, which the host has taken, or to make room, as asked
-- for or as the constant allows; each start finds what stands; what goes out of the spool is what was put; and the host
-- takes it in order, skipping none that wasn't purged or overwritten
abbrev pub HoldsSpool : Plans → List Entry → Type 0
HoldsSpool plans log = IsSpoolTaken (policy_of plans.equipment plans.slots) log

-- each S6F1 that the equipment notes as sent, and that wasn't in its spool, has W, and holds what its variables held at
-- its samples, at the moments of its entries, of a trace that the host has asked for in this start; no more go out with
-- one text than were due by then; and none is put into the spool
abbrev pub HoldsSamples : Plans → List Entry → Type 0
HoldsSamples plans log = AreSampledSoFar plans.equipment (timed_by side.Equipment log)

-- each message leaves the spool in the step that has brought the cause of that; and right behind one that is gone as
-- overwritten the message is put for which it left, or one more leaves for that
pub record LeavesInSteps (plans : Plans) (log : List Entry) : Type 0 where
  pub caused : LeaveInTheirSteps (policy_of plans.equipment plans.slots) (noted_by side.Equipment log)
  pub overwritten : MakesRoomForPuts (noted_by side.Equipment log)

-- each start of the equipment finds the setup that the start before it found, carried on by what was kept since; what
-- was being kept as power was lost may count, and nothing else. It carries that out in order, before anything else. What
-- the host changes of it is kept before it is answered. And what is kept tells the constants, reports, links, enables and
-- the rule of spooling that hold. The disk of a run is new, with room for a list, which is empty
pub record HoldsSetup (plans : Plans) (log : List Entry) : Type 0 where
  pub kept : KeepsSetup plans.equipment (Some []) (noted_by side.Equipment log)
  pub told : TellsSetup plans.equipment (Some []) (noted_by side.Equipment log)

-- at each entry of the log, over all starts of the equipment: each message received was sent by the other end, whole,
-- once in a start of its receiver, and in order; reports hold the values of their events, and trace data those of their
-- samples; the spool is kept, taken in order, and left in the steps of the causes; and the setup is kept
pub record IsSafe (plans : Plans) (log : List Entry) : Type 0 where
  pub delivered : Delivered log
  pub in_order : ComesInOrder plans log
  pub reported : HoldsReports plans log
  pub sampled : HoldsSamples plans log
  pub spooled : HoldsSpool plans log
  pub left : LeavesInSteps plans log
  pub set_up : HoldsSetup plans log

-- of the entries so far, the newest of which may stand in the middle of a step: they are those of moves on one line,
-- each of which its end may make, and in these messages are received in order; at most what no end has noted stands
-- behind them
pub record HasComeInOrder (plans : Plans) (log : List Entry) : Type 0 where
  pub moves : List Move
  pub keep : KeepLaws (plans_of plans) moves
  pub no_slip : HasNoSlip (new_line plans.equipment.line.times plans.host.line.times) (deeds_of moves)
  pub in_order : AreInOrder (plans_of plans) moves
  pub last : List Entry
  pub no_notes : AreNoNotes last
  pub is : log ≡ last ++ log_of moves

-- what of that is said of the entries so far
pub record HoldsSoFar (plans : Plans) (log : List Entry) : Type 0 where
  pub delivered : Delivered log
  pub in_order : HasComeInOrder plans log
  pub reported : HoldsReports plans log
  pub sampled : HoldsSamples plans log
  pub spooled : HoldsSpool plans log
  pub left : LeavesInSteps plans log
  pub set_up : HoldsSetup plans log

-- it holds at each entry of a safe log, by all entries up to that one
abbrev pub HoldsAtEachEntry : Type 0
HoldsAtEachEntry =
    (plans : Plans) (later log : List Entry) → IsSafe plans (later ++ log) → HoldsSoFar plans log
