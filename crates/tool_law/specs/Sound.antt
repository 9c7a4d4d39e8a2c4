-- What the equipment keeps is sound.
use Rattle.std.specs.Prelude.{◌≡◌, ℕ, ◌<◌, ◌≤◌, ◌%◌, ◌==◌, true, All, IfSome, List, Option, is_some, length}
use Rattle.gem_spool.specs.declared.works.Work.{Work}
use Rattle.gem_spool.specs.declared.works.Work.TheVariants as work
use Rattle.spool_file.specs.Slot.{Message}
use Rattle.trace_log.specs.Names.{Spooled}
use Rattle.message_end.specs.Core.{IsText}
use Rattle.equipment_tables.specs.declared.plan.EquipmentPlan.{EquipmentPlan}
use Rattle.spool_ledger.specs.Ledger.{Numbered}
use Rattle.spool_ledger.specs.Ledger.{LedgerView}
use Rattle.spool_ledger.specs.Storing.{spooled}
use Rattle.spool_ledger.specs.Unloading.{waiting_in}
use Rattle.tool_step.specs.Equipment.{EquipmentView}
use Rattle.spool_works.specs.Found.{spooled_of}
use Rattle.tool_step.specs.Own.{OwnView}

-- a primary that blocks can carry (SEMI E4, header; SEMI E5, function)
pub record CanBeSent (message : Spooled) : Type 0 where
  pub stream : message.stream < 128
  pub function : message.function < 256
  pub odd : (message.function % 2 == 1) ≡ true
  pub body : IsText message.body

-- so is what is put into the spool, and a slot has room for it
abbrev pub PutsGood : Work → Type 0
PutsGood (work.Put stream function body) = CanBeSent (spooled stream function body) × (length body ≤ 1048576)
PutsGood (work.DropOldest slots) = Unit {0}
PutsGood work.Purge = Unit {0}

-- what waits for a grant, and what is put there, can be sent; and the works are owed behind what the
-- disk has: so many slots, and these messages
pub record IsGoodLedger (slots : ℕ) (stood : Numbered) (ledger : LedgerView) : Type 0 where
  pub waiting : IfSome (waiting_in ledger.unload) IsText
  pub works : All PutsGood ledger.works
  pub slots_are : ledger.slots ≡ slots
  pub stood_is : ledger.stood ≡ stood

-- the plan stays; and whatever is kept for later can be sent: the S6F11 and S6F1 that wait for S6F6, what was sent and
-- may be put into the spool, and what the ledger has
pub record IsSound (plan : EquipmentPlan) (slots : ℕ) (stood : Numbered) (own : OwnView) : Type 0 where
  pub plan_is : own.plan ≡ plan
  pub texts : All (λ waiting. IsText waiting.body) own.for_grant
  pub traced : All (λ waiting. IsText waiting.body) own.tracing.for_grant
  pub reports : All (λ live. CanBeSent live.message) own.reports
  pub ledger : IsGoodLedger slots stood own.ledger

-- the same, with such system bytes of the last try
pub record IsHeld
    (plan : EquipmentPlan) (slots : ℕ) (stood : Numbered) (TriedIs : Option ℕ → Type 0) (own : OwnView) : Type 0 where
  pub plan_is : own.plan ≡ plan
  pub texts : All (λ waiting. IsText waiting.body) own.for_grant
  pub traced : All (λ waiting. IsText waiting.body) own.tracing.for_grant
  pub reports : All (λ live. CanBeSent live.message) own.reports
  pub ledger : IsGoodLedger slots stood own.ledger
  pub tried_is : TriedIs own.tried

abbrev pub AllCanBeSent : List Message → Type 0
AllCanBeSent = All (λ message. CanBeSent (spooled_of message))

-- so can the messages of the spool; the mark stands where the system bytes end that are left; and a setup is kept where
-- the file has an area
pub record IsKept (plan : EquipmentPlan) (s : EquipmentView) : Type 0 where
  pub own : IsSound plan s.node.own.ledger.slots s.node.own.ledger.stood s.node.own
  pub list : AllCanBeSent s.file.list
  pub mark : s.node.core.numbers.end ≡ s.file.mark.value
  pub area : is_some s.node.own.setup ≡ is_some s.file.setup.bytes
