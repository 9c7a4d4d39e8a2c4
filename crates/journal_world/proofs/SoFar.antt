-- What a safe log says at each of its entries, and of its steps.
use Rattle.std.proofs.Common.{ℕ, List, [], ◌∷◌, ◌++◌, Option, Some, None}
use Rattle.std.specs.List.{cons_option, filter_map}
use Rattle.gl_base.specs.declared.side.Side.TheVariants.{Host}
use Rattle.journal_delivery.specs.Listed.{listed_log}
use Rattle.journal_law.specs.Kept.{room_in}
use Rattle.journal_node.specs.Law as host
use Rattle.line_world.proofs.NotedSteps.{are-in-steps}
use Rattle.line_world.proofs.OrderSoFar.{order-at}
use Rattle.line_world.proofs.Replies.{replies-go}
use Rattle.line_world.proofs.SoFar.{notes-so-far, so-far}
use Rattle.setup_law.specs.Tables.{KeptSetupHolds}
use Rattle.spool_delivery.specs.Laws.{IsSpoolTaken}
use Rattle.spool_law.specs.Journal.{KeepsJournal, Room, as_stored, nothing_leaves}
use Rattle.spool_law.specs.Shelf.{KeepsSpoolFrom, Policy}
use Rattle.trace_log.specs.Log.{Entry, Happening}
use Rattle.trace_log.specs.Names.{Spooled}
use Rattle.journal_world.specs.Safe.{HoldsAtEachEntry, SafeLogsHaveSteps, SafeLogsReplyInSteps}

listed-so-far : (policy : Policy) (later log : List Entry) → IsSpoolTaken policy (listed_log (later ++ log))
    → IsSpoolTaken policy (listed_log log)
listed-so-far policy [] log all = all
listed-so-far policy (entry ∷ later) log all =
    listed-so-far policy later log (record { kept = all.kept.1; taken = all.taken.1 })

-- a note less
journal-less : (room : Room) (held : List (ℕ × Spooled)) (what : Happening) (before : List Happening)
    → KeepsJournal room held (what ∷ before) → KeepsJournal room held before
journal-less room held what before all = go (as_stored what) all
  where
    go : (told : Option Happening)
        → KeepsSpoolFrom (nothing_leaves room) held (cons_option told (filter_map as_stored before))
        → KeepsJournal room held before
    go None all = all
    go (Some one) all = all.1

pub holds-at-each : KeptSetupHolds → HoldsAtEachEntry
holds-at-each told plans slots later log safe = record {
  as_without =
      so-far told plans later log
      (record {
        delivered = safe.delivered;
        in_order = order-at plans (host.DidOf plans.host) (later ++ log) safe.in_order.moved safe.in_order.in_order;
        reported = safe.reported;
        sampled = safe.sampled;
        spooled = safe.spooled;
        left = safe.left;
        set_up = safe.set_up;
      });
  listed = listed-so-far _ later log safe.listed;
  journal =
      notes-so-far Host (KeepsJournal (room_in slots) []) (journal-less (room_in slots) []) later log safe.journal;
}

pub have-steps : SafeLogsHaveSteps
have-steps plans slots log safe = are-in-steps plans (host.DidOf plans.host) log safe.in_order.moved

pub replies-in-steps : SafeLogsReplyInSteps
replies-in-steps plans slots log safe =
    replies-go plans (host.DidOf plans.host) (λ base doings s did. did.is.steps.replies) log safe.in_order.moved
