-- That the spool in hand stays ready for the next step, whatever its disk tells.
use Rattle.std.proofs.Common.{◌≡◌, refl, sym, ap, subst, ◌∙◌, ℕ, List, Option, Some, None}
use Rattle.std.specs.Prelude.{IfOk, Result, Ok, Err}
use Rattle.disk_base.specs.Calls.{DiskCall}
use Rattle.disk_base.specs.declared.disk.Disk as disk
use Rattle.disk_base.specs.declared.disk.DiskAnswer.{DiskAnswer}
use Rattle.disk_base.proofs.Told.{told_already}
use Rattle.gem_spool.specs.declared.spool.GemSpool.{GemSpool}
use Rattle.gem_spool.specs.Oldest.{HasReadSlots}
use Rattle.gem_spool.specs.Spool.{HasList, ReservesFrom}
use Rattle.gem_spool.specs.Standing.{count_of}
use Rattle.message_flow.specs.declared.step.Note.{Note}
use Rattle.message_flow.specs.declared.step.StepOut.{StepOut}
use Rattle.setup_store.specs.Copies.{HoldsList}
use Rattle.setup_store.specs.OnDisk.{HoldsKept}
use Rattle.spool_file.specs.File.{SpoolFile}
use Rattle.spool_file.specs.Slot.{Message}
use Rattle.spool_slots.specs.Spool.{SpoolView}
use Rattle.trace_log.specs.Names.{Spooled}
use Rattle.trace_log.specs.Text.{printed_note}
use Rattle.message_end.specs.Core.{EndView, Went, step_in}
use Rattle.message_end.specs.Parts.{Node, on_the_way}
use Rattle.equipment_tables.specs.declared.plan.EquipmentPlan.{EquipmentPlan}
use Rattle.equipment_tables.specs.Plan.{EquipmentPlanFits}
use Rattle.equipment_tables.specs.Tables.{most_transmitted}
use Rattle.spool_ledger.specs.Ledger.{LedgerView, Numbered, carried_out}
use Rattle.spool_ledger.specs.Unloading.{unload_next, with_unload}
use Rattle.spool_works.specs.Owed.{CarriesOwed}
use Rattle.spool_works.specs.declared.ended.Ended.{Ended}
use Rattle.tool_step.specs.declared.kind.Kind.{Kind}
use Rattle.equipment_node.specs.Amid.{DoesLast, IsCounted, IsReady, IsSendable, IsSoundOwn, WorksFit, asked_node}
use Rattle.equipment_node.specs.Amid.{done_last, settled_node}
use Rattle.tool_step.specs.Equipment.{settled_own}
use Rattle.tool_law.proofs.Lawful.{AllKeepSound, KeepsSound, ended-sound, parts-sound, taking-sound}
use Rattle.tool_law.proofs.MildCommands.{sound-self}
use Rattle.tool_step.specs.Own.{OwnView, unowed}
use Rattle.tool_step.specs.declared.owed.Owed.{Owed}
use Rattle.tool_step.specs.declared.owed.Owed.TheVariants.{Answered, Keep, Recipes}
use Rattle.tool_law.specs.Sound.{IsSound}
use Rattle.tool_law.proofs.SpoolSound.{carried-good, next-good}
use Rattle.tool_step.specs.Step.{answering, owed_turn}
use Rattle.tool_step.specs.Taking.{taking}
use Rattle.equipment_node.proofs.HandingBack.{reserved-back}
use Rattle.equipment_node.proofs.Sizing.{counted-as, counted-still, owed-counted, sizes-then}

-- ---- where the numbers stay

-- what is held of the setup is held where the mark has moved
pub reserved-holds :
    {D : Type 0} (members : disk.Ghosts D) (g h : GemSpool D) (base : ℕ) → ReservesFrom members g h (Some base)
    → HoldsKept members g.spool → HoldsKept members h.spool
reserved-holds members g h base done holds t there =
    let told = told_already (members.told g.spool.disk) (members.told h.spool.disk) t
    (reserved-back members g h (Some base) done).same_disk.2 there in
    subst (λ (f : SpoolFile). HoldsList f) (done.0.0.1.1 told.0 t told.1 there).stands.is (holds told.0 told.1)

pub reserved-ready :
    {D : Type 0} (members : disk.Ghosts D) (g h : GemSpool D) (base : ℕ) (old new : Node OwnView Kind)
    → IsReady members g.spool old → new.own ≡ old.own → ReservesFrom members g h (Some base)
    → ((list : List Message) → HasList members g.spool list → HasList members h.spool list)
    → IsReady members h.spool new
reserved-ready {D} members g h base old new ready own done lists = record {
  counted =
      subst (λ (o : OwnView). IsCounted members h.spool o.ledger) (sym own)
      (record {
        count = ap (λ (x : SpoolView D). count_of x) done.0.2 ∙ ready.counted.count;
        sizes =
            sizes-then members g.spool h.spool old.own.ledger.stood.sizes old.own.ledger.stood.sizes
            (λ (list : List Message). list) (reserved-back members g h (Some base) done) lists (λ list is. is)
            ready.counted.sizes;
        some = ready.counted.some;
      });
  holds = reserved-holds members g h base done ready.holds;
  sound = subst IsSoundOwn (sym own) ready.sound;
}

-- where nothing was done, and where slots were read
pub same-ready : {D : Type 0} (members : disk.Ghosts D) (v w : SpoolView D) (node : Node OwnView Kind)
    → IsReady members v node → w ≡ v → IsReady members w node
same-ready members v w node ready same = subst (λ x. IsReady members x node) (sym same) ready

pub read-ready :
    {D : Type 0} (members : disk.Ghosts D) (v w : SpoolView D) (looks : List DiskCall) (answer : DiskAnswer)
    (node : Node OwnView Kind) → IsReady members v node → HasReadSlots members v w looks answer
    → IsReady members w node
read-ready {D} members v w looks answer node ready reads = record {
  counted =
      counted-still members v w node.own.ledger ready.counted reads.told
      (ap (λ (x : SpoolView D). count_of x) reads.same);
  holds = λ s told. ready.holds s (sym reads.told ∙ told);
  sound = ready.sound;
}

-- ---- behind the works

settled-sound : (own : OwnView) → IsSoundOwn own → IsSoundOwn (settled_own own)
settled-sound own is = record {
  plan = is.plan;
  fits = is.fits;
  sound = record {
    plan_is = is.sound.plan_is;
    texts = is.sound.texts;
    traced = is.sound.traced;
    reports = is.sound.reports;
    ledger = carried-good own.ledger is.sound.ledger;
  };
}

pub settled-ready :
    {D : Type 0} (members : disk.Ghosts D) (g h : GemSpool D) (setup : Option (List ℕ)) (old new : Node OwnView Kind)
    → IsReady members g.spool old → new ≡ settled_node old → WorksFit old.own.ledger
    → CarriesOwed members g old.own.ledger.works setup (Ok h) → HoldsKept members h.spool → IsReady members h.spool new
settled-ready members g h setup old new ready is fit carried holds =
    subst (λ (n : Node OwnView Kind). IsReady members h.spool n) (sym is)
    (record {
      counted = owed-counted members g h old.own.ledger setup ready.counted fit carried;
      holds = holds;
      sound = settled-sound old.own ready.sound;
    })

-- nothing is owed then
pub settled-owes : (old new : Node OwnView Kind) → new ≡ settled_node old → carried_out new.own.ledger ≡ new.own.ledger
settled-owes old new is =
    subst (λ (n : Node OwnView Kind). carried_out n.own.ledger ≡ n.own.ledger) (sym is) refl

-- ---- where the number of the next message was asked for

asked-sound : (own : OwnView) → IsSoundOwn own → (core : EndView Kind)
    → IsSoundOwn (asked_node (record { own = own; core = core })).own
asked-sound own is core = record {
  plan = is.plan;
  fits = is.fits;
  sound = record {
    plan_is = is.sound.plan_is;
    texts = is.sound.texts;
    traced = is.sound.traced;
    reports = is.sound.reports;
    ledger = next-good (most_transmitted own.tables) own.ledger is.sound.ledger;
  };
}

pub asked-ready :
    {D : Type 0} (members : disk.Ghosts D) (v : SpoolView D) (old new : Node OwnView Kind) → IsReady members v old
    → new.own ≡ (asked_node old).own → IsReady members v new
asked-ready members v old new ready own = record {
  counted =
      subst (λ (o : OwnView). IsCounted members v o.ledger) (sym own)
      (counted-as members v old.own.ledger (asked_node old).own.ledger ready.counted refl refl);
  holds = ready.holds;
  sound = subst IsSoundOwn (sym own) (asked-sound old.own ready.sound old.core);
}

pub asked-owes :
    (old new : Node OwnView Kind) → carried_out old.own.ledger ≡ old.own.ledger → new.own ≡ (asked_node old).own
    → carried_out new.own.ledger ≡ new.own.ledger
asked-owes old new owes own =
    subst (λ (o : OwnView). carried_out o.ledger ≡ o.ledger) (sym own)
    (ap (λ (l : LedgerView). with_unload (unload_next most old.own.ledger old.own.ledger.unload) l) owes)
  where
    most : ℕ
    most = most_transmitted old.own.tables

-- ---- the last parts

module _ (plan : EquipmentPlan) (fits : EquipmentPlanFits plan) (slots : ℕ) (stood : Numbered) where
  taking-keeps : (oldest : Option (ℕ × Spooled)) → IsSendable oldest → KeepsSound plan fits slots stood (taking oldest)
  taking-keeps None can own e sound = sound
  taking-keeps (Some oldest) can own e sound =
      taking-sound plan fits slots stood (Some oldest.0) (Some oldest.1) can own e sound

  unowed-keeps : (own : OwnView) → IsSound plan slots stood own → IsSound plan slots stood (unowed own)
  unowed-keeps own is = record {
    plan_is = is.plan_is;
    texts = is.texts;
    traced = is.traced;
    reports = is.reports;
    ledger = is.ledger;
  }

  answering-keeps : KeepsSound plan fits slots stood answering
  answering-keeps own e is = go own.owed
    where
      go : (owed : Option Owed) → IsSound plan slots stood (owed_turn owed (unowed own)).own
      go None = unowed-keeps own is
      go (Some (Keep primary)) = unowed-keeps own is
      go (Some (Recipes asked primary)) = unowed-keeps own is
      go (Some (Answered given primary)) = unowed-keeps own is

  last-keep :
      (oldest : Option (ℕ × Spooled)) (now : ℕ) → IsSendable oldest
      → AllKeepSound plan fits slots stood (done_last oldest now)
  last-keep oldest now can = (
    answering-keeps,
    (
      taking-keeps oldest can,
      (ended-sound plan fits slots stood, ((λ own e sound. sound), ((λ own e sound. sound), tt))),
    ),
  )

pub last-ready :
    {D : Type 0} (members : disk.Ghosts D) (g : GemSpool D) (oldest : Option (ℕ × Spooled)) (now : ℕ)
    (old new : Node OwnView Kind) (out after : StepOut) (result : Result (GemSpool D) (Ended D))
    → IsReady members g.spool old → IsSendable oldest
    → DoesLast members g (done_last oldest now) old out new after result
    → IfOk result (λ h. IsReady members h.spool new)
last-ready members g oldest now old new out after (Err end) ready can does = tt
last-ready {D} members g oldest now old new out after (Ok h) ready can does =
    let plan = ready.sound.plan in
    let fits = ready.sound.fits in
    let slots = old.own.ledger.slots in
    let stood = old.own.ledger.stood in
    let is =
    subst
    (λ (w : Went (Node OwnView Kind) Note). IsSound plan slots stood (step_in w).next.own)
    does.1
    (parts-sound plan fits slots stood printed_note (done_last oldest now)
    (on_the_way old out) (last-keep plan fits slots stood oldest now can) ready.sound.sound) in
    record {
      counted =
          subst (λ (x : GemSpool D). IsCounted members x.spool new.own.ledger) (sym does.0)
          (counted-as members g.spool old.own.ledger new.own.ledger ready.counted is.ledger.slots_are
          is.ledger.stood_is);
      holds = subst (λ (x : GemSpool D). HoldsKept members x.spool) (sym does.0) ready.holds;
      sound = record { plan = plan; fits = fits; sound = sound-self plan slots stood new.own is };
    }
