-- All that is claimed of the log of a run over a tool and a host with a journal (this profile).
use Rattle.std.specs.Prelude.{ℕ, List, [], ◌++◌}
use Rattle.delivery.specs.Order.{AreInOrder}
use Rattle.end_pair.specs.Laws.{IsOfMoves}
use Rattle.end_pair.specs.Noted.{noted_by}
use Rattle.equipment_tables.specs.declared.plan.Plans.{Plans}
use Rattle.gl_base.specs.declared.side.Side.TheVariants as side
use Rattle.journal_delivery.specs.Listed.{listed_log}
use Rattle.journal_law.specs.Kept.{room_in}
use Rattle.journal_node.specs.Law as journal
use Rattle.line_world.specs.Safe as line
use Rattle.line_world.specs.Safe.{HoldsReports, HoldsSamples, HoldsSetup, HoldsSpool, LeavesInSteps, plans_of}
use Rattle.line_world.specs.Steps.{HasSteps, ReplyInSteps}
use Rattle.spool_law.specs.Journal.{KeepsJournal}
use Rattle.tool_law.specs.Laws.{DidOf}
use Rattle.trace_log.specs.Delivered.{Delivered}
use Rattle.trace_log.specs.Log.{Entry}

-- the log is that of moves on one line, each of which its end may make, step by step, and in these messages are
-- received in order; what the host is to list is listed before it gives anything to the line
pub record ComesInOrder (plans : Plans) (log : List Entry) : Type 0 where
  pub moved : IsOfMoves (DidOf plans.equipment) (journal.DidOf plans.host) (plans_of plans) log
  pub in_order : AreInOrder (plans_of plans) moved.moves

-- what the host lists, with equal neighbours as one, is what the equipment put into its spool, in order, less what was
-- purged or overwritten and never listed; and what leaves as confirmed is listed
abbrev pub HoldsListed : Plans → List Entry → Type 0
HoldsListed plans log = HoldsSpool plans (listed_log log)

-- each start of the host finds what was listed before, in order, what was being listed perhaps last, and nothing else.
-- The journal of a run is new
abbrev pub HoldsJournal : ℕ → List Entry → Type 0
HoldsJournal slots log = KeepsJournal (room_in slots) [] (noted_by side.Host log)

-- at each entry of the log, over all starts of both ends: what is claimed of a host without a journal; what is listed
-- is what was put, in order; and the journal is kept
pub record IsSafe (plans : Plans) (slots : ℕ) (log : List Entry) : Type 0 where
  pub delivered : Delivered log
  pub in_order : ComesInOrder plans log
  pub reported : HoldsReports plans log
  pub sampled : HoldsSamples plans log
  pub spooled : HoldsSpool plans log
  pub left : LeavesInSteps plans log
  pub set_up : HoldsSetup plans log
  pub listed : HoldsListed plans log
  pub journal : HoldsJournal slots log

-- what of that is said of the entries so far, the newest of which may stand in the middle of a step
pub record HoldsSoFar (plans : Plans) (slots : ℕ) (log : List Entry) : Type 0 where
  pub as_without : line.HoldsSoFar plans log
  pub listed : HoldsListed plans log
  pub journal : HoldsJournal slots log

-- it holds at each entry of a safe log, by all entries up to that one
abbrev pub HoldsAtEachEntry : Type 0
HoldsAtEachEntry =
    (plans : Plans) (slots : ℕ) (later log : List Entry) → IsSafe plans slots (later ++ log)
    → HoldsSoFar plans slots log

-- the notes of each step in it are of one moment, and its end is noted; and each reply in it goes in the step in which
-- its end has received the primary
abbrev pub SafeLogsHaveSteps : Type 0
SafeLogsHaveSteps = (plans : Plans) (slots : ℕ) (log : List Entry) → IsSafe plans slots log → HasSteps log

abbrev pub SafeLogsReplyInSteps : Type 0
SafeLogsReplyInSteps = (plans : Plans) (slots : ℕ) (log : List Entry) → IsSafe plans slots log → ReplyInSteps log
