-- What turns keep of the spool as it is noted.
use Rattle.std.proofs.Common.{◌≡◌, refl, sym, ap, subst, ◌∙◌, inl, Bool, true, ℕ, List, [], ◌∷◌, ◌++◌, All, append-nil, append_assoc, Option, Some, None}
use Rattle.std.proofs.lemmas.List.Elements.{All-head, All-tail}
use Rattle.std.specs.Option.{option_map_or}
use Rattle.gem_spool.specs.Works.{AreDue}
use Rattle.gem_spool.specs.declared.works.Work.{Work}
use Rattle.message_end.specs.Core.{EndView, Went, and_then, carried, noted}
use Rattle.message_end.specs.Core.Command.{Halt}
use Rattle.message_end.specs.Core.Went.{Goes, Spent}
use Rattle.message_end.specs.Course.{noted_behind}
use Rattle.message_end.specs.Duties.{all_done}
use Rattle.message_end.specs.Own.{Has}
use Rattle.message_end.specs.Parts.{fixed_turn}
use Rattle.spool_law.specs.Shelf.{IsPurge, Told, received_since, shelf_of}
use Rattle.spool_ledger.specs.Ledger.{Booked, IsLedger, LedgerView}
use Rattle.spool_ledger.specs.Storing.{all_out, stored}
use Rattle.spool_ledger.specs.Unloading.{tried_in}
use Rattle.spool_ledger.specs.Ledger.{Numbered, count_by}
use Rattle.spool_ledger.specs.Sizes.{AreSizedBy}
use Rattle.spool_ledger.specs.declared.unload.Unload.{Unload}
use Rattle.spool_file.specs.Slot.{Message as Put}
use Rattle.trace_log.specs.InStep.{received_in_step}
use Rattle.trace_log.specs.Log.{Happening}
use Rattle.trace_log.specs.Names.{Spooled}
use Rattle.equipment_tables.specs.declared.plan.EquipmentPlan.{EquipmentPlan}
use Rattle.equipment_tables.specs.Tables.{TablesState, overwrites}
use Rattle.tool_step.specs.declared.kind.Kind.{Kind}
use Rattle.tool_step.specs.Live.{ReportView}
use Rattle.tool_step.specs.Own.{OwnView, ToolCommands, ToolDuty, with_ledger}
use Rattle.tool_reports.specs.Reported.{tables_in}
use Rattle.tool_step.specs.Spooling.{booked_turn, lines_commands, stored_turn, stores_all, stores_behind, stores_none}
use Rattle.tool_spool.specs.SpoolKept.{policy_of}
use Rattle.tool_spool.proofs.CalmCommands.{AreCalmDuties, AreDrawn, AsksOfPrimary, IsCalmly}
use Rattle.tool_spool.proofs.CalmTurns.{IsCalmBehind, IsCalmRun, done-run, ready-behind}
use Rattle.tool_spool.specs.MadeRoom.{IsRoomUsed}
use Rattle.tool_spool.proofs.FromStarts.{KeepsOn}
use Rattle.tool_spool.proofs.PairedLines.{AreTold, told-as}
use Rattle.tool_spool.proofs.KeptLedger.{IsKeptBy, IsPutWell, all-kept, all-out-unload, nothing-kept, stored-kept, stored-unload}
use Rattle.tool_spool.proofs.Shelved.{IsShelved}
use Rattle.message_end.proofs.Parts.{OnEither, either-less}
use Rattle.message_end.proofs.Growing.{behind-both}
use Rattle.tool_law.proofs.CoreSteps.{CoreStep}
use Rattle.tool_law.proofs.WorkLines.{AreLines, lines-as}
use Rattle.tool_spool.proofs.UnloadOpen.{IsOpen, Moves, moves-both, open-less, open-moved, unloads_in}

-- ---- lines of the ledger

abbrev pub with_lines : List Happening → CoreStep → CoreStep
with_lines lines step = record step { notes = step.notes ++ lines }

pub lines-carried :
    (lines : List Happening) (step : CoreStep) → carried Some (lines_commands lines) step ≡ Goes (with_lines lines step)
lines-carried [] step =
    ap (λ (notes : List Happening). Goes (record step { notes = notes })) (sym (append-nil step.notes))
lines-carried (what ∷ lines) step =
    lines-carried lines (noted Some what step)
    ∙ ap (λ (notes : List Happening). Goes (record step { notes = notes })) (append_assoc step.notes (what ∷ []) lines)

-- the reports that were sent may be put
abbrev pub ArePutWell : List ReportView → Type 0
ArePutWell reports = (one : ReportView) → Has reports one → IsPutWell one.message

-- the ledger stays, and what is asked of an object outside, and so does that the reports may be put
pub record IsLikeIt (own new : OwnView) : Type 0 where
  pub ledger : new.ledger ≡ own.ledger
  pub owed : new.owed ≡ own.owed
  pub reports : ArePutWell own.reports → ArePutWell new.reports

module _ (plan : EquipmentPlan) (slots : ℕ) (list : List Put) (base before : List Happening) where
  abbrev told_to : CoreStep → List Happening
  told_to step = noted_behind step.notes before

  -- ---- what holds between two turns

  -- what is under way of an unload
  abbrev pub IsUnder : LedgerView → EndView Kind → List Happening → Type 0
  IsUnder v core notes =
      IsOpen (tried_in v.unload) v.first (shelf_of notes) core.drawn (unloads_in core.transactions.begun)

  pub record Shelves (own : OwnView) (core : EndView Kind) (notes : List Happening) : Type 0 where
    pub is : IsLedger own.ledger
    pub all : own.ledger.slots ≡ slots
    pub shelved : IsShelved (policy_of plan slots) own.ledger list base notes
    pub drawn : AreDrawn (shelf_of notes).told core.numbers.next
    pub asks : AsksOfPrimary core.asked
    pub under_way : IsUnder own.ledger core notes
    pub reports : ArePutWell own.reports
    pub owes : own.owed ≡ None

  -- where the numbers are spent the notes keep the law all the same, and go with what is owed, and each work finds
  -- room, or its message
  pub record IsSpentAt (v : LedgerView) (notes : List Happening) : Type 0 where
    pub kept : KeepsOn (policy_of plan slots) notes
    pub lines : AreLines v list base notes
    pub told : AreTold v list base notes
    pub closed : IsRoomUsed notes
    pub due : AreDue (count_by slots v.stood) v.works
    pub sized : AreSizedBy v.stood.sizes v.works

  pub spent-at :
      (v : LedgerView) (notes : List Happening) → IsLedger v → v.slots ≡ slots
      → IsShelved (policy_of plan slots) v list base notes → IsSpentAt v notes
  spent-at v notes is all shelved = record {
    kept = shelved.kept;
    lines = shelved.lines;
    told = shelved.told;
    closed = shelved.closed;
    due = subst (λ (n : ℕ). AreDue (count_by n v.stood) v.works) all is.due;
    sized = is.sized;
  }

  -- a ledger that owes the same
  pub spent-as : (v w : LedgerView) (notes : List Happening) → w.stood ≡ v.stood → w.works ≡ v.works → IsSpentAt v notes
      → IsSpentAt w notes
  spent-as v w notes stood works is = record {
    kept = is.kept;
    lines = lines-as v w list base notes stood works is.lines;
    told = told-as v w list base notes stood works is.told;
    closed = is.closed;
    due =
        subst (λ (at : Numbered). AreDue (count_by slots at) w.works) (sym stood)
        (subst (λ (ws : List Work). AreDue (count_by slots v.stood) ws) (sym works) is.due);
    sized =
        subst (λ (at : Numbered). AreSizedBy at.sizes w.works) (sym stood)
        (subst (λ (ws : List Work). AreSizedBy v.stood.sizes ws) (sym works) is.sized);
  }

  abbrev pub Ends : OwnView → Went (EndView Kind) Happening → Type 0
  Ends own went =
      OnEither (λ next. Shelves own next.next (told_to next)) (λ next. IsSpentAt own.ledger (told_to next)) went

  -- ---- turns without the spool

  pub like-it :
      (own new : OwnView) (core : EndView Kind) (notes : List Happening) → IsLikeIt own new → Shelves own core notes
      → Shelves new core notes
  like-it own new core notes like holds = record {
    is = subst IsLedger (sym like.ledger) holds.is;
    all = ap (λ (v : LedgerView). v.slots) like.ledger ∙ holds.all;
    shelved =
        subst (λ (v : LedgerView). IsShelved (policy_of plan slots) v list base notes) (sym like.ledger) holds.shelved;
    drawn = holds.drawn;
    asks = holds.asks;
    under_way = subst (λ (v : LedgerView). IsUnder v core notes) (sym like.ledger) holds.under_way;
    reports = like.reports holds.reports;
    owes = like.owed ∙ holds.owes;
  }

  under-calmly :
      (hears : Bool) (v : LedgerView) (core next : EndView Kind) (old new : List Happening) → IsCalmBehind hears old new
      → IsCalmly core next → IsUnder v core old → IsUnder v next new
  under-calmly hears v core next old new notes calm is =
      open-less (tried_in v.unload) v.first (shelf_of new) next.drawn (unloads_in core.transactions.begun)
      (unloads_in next.transactions.begun) calm.less
      (subst
      (λ (drawn : Option ℕ). IsOpen (tried_in v.unload) v.first (shelf_of new) drawn
      (unloads_in core.transactions.begun))
      (sym calm.drawn)
      (open-moved (tried_in v.unload) v.first v.first (shelf_of old) (shelf_of new) core.drawn
      (unloads_in core.transactions.begun) notes.told (inl (refl, notes.tried)) is))

  pub run-keeps :
      (hears : Bool) (own : OwnView) (step next : CoreStep) → IsCalmRun hears before step next
      → Shelves own step.next (told_to step) → Shelves own next.next (told_to next)
  run-keeps hears own step next run holds =
      let now = ready-behind hears before step next (record { drawn = holds.drawn; asks = holds.asks }) run in
      record {
        is = holds.is;
        all = holds.all;
        shelved = run.notes.shelved (policy_of plan slots) own.ledger list base holds.shelved;
        drawn = now.drawn;
        asks = now.asks;
        under_way =
            under-calmly hears own.ledger step.next next.next (told_to step) (told_to next) run.notes run.core
            holds.under_way;
        reports = holds.reports;
        owes = holds.owes;
      }

  -- what calm duties bring, and that no request counts on the way
  pub calm-runs :
      (hears : Bool) (own : OwnView) (duties : List ToolDuty) (step : CoreStep) → AreCalmDuties hears duties
      → Shelves own step.next (told_to step)
      → OnEither (IsCalmRun hears before step) (IsCalmRun hears before step) (all_done Some duties step)
  calm-runs hears own duties step calm holds =
      done-run hears before duties step calm (record { drawn = holds.drawn; asks = holds.asks })

  pub calm-keeps :
      (hears : Bool) (own new : OwnView) (duties : List ToolDuty) (step : CoreStep) → IsLikeIt own new
      → AreCalmDuties hears duties → Shelves own step.next (told_to step) → Ends new (all_done Some duties step)
  calm-keeps hears own new duties step like calm holds =
      either-less (IsCalmRun hears before step) (IsCalmRun hears before step)
      (λ next. Shelves new next.next (told_to next)) (λ next. IsSpentAt new.ledger (told_to next))
      (all_done Some duties step) (calm-runs hears own duties step calm holds)
      (λ next run. like-it own new next.next (told_to next) like (run-keeps hears own step next run holds))
      (λ next run.
      subst (λ (v : LedgerView). IsSpentAt v (told_to next)) (sym like.ledger)
      (spent-at own.ledger (told_to next) holds.is holds.all
      (run.notes.shelved (policy_of plan slots) own.ledger list base holds.shelved)))

  -- ---- calls of the ledger

  pub booked-keeps :
      (own : OwnView) (next : LedgerView) (lines : List Happening) (step : CoreStep)
      → IsKeptBy plan slots list base own.ledger (told_to step) next lines
      → IsOpen (tried_in next.unload) own.ledger.first (shelf_of (told_to step)) step.next.drawn
      (unloads_in step.next.transactions.begun) → Shelves own step.next (told_to step)
      → Ends (with_ledger next own) (carried Some (lines_commands lines) step)
  booked-keeps own next lines step kept under holds =
      subst (Ends (with_ledger next own)) (sym (lines-carried lines step))
      (subst (λ (notes : List Happening). Shelves (with_ledger next own) step.next notes)
      (sym (behind-both step.notes lines before))
      (record {
        is = kept.is;
        all = kept.all ∙ holds.all;
        shelved = kept.shelved;
        drawn = λ one has. holds.drawn one (subst (λ (told : List Told). Has told one) kept.told has);
        asks = holds.asks;
        under_way =
            open-moved (tried_in next.unload) own.ledger.first next.first (shelf_of (told_to step))
            (shelf_of (noted_behind lines (told_to step))) step.next.drawn (unloads_in step.next.transactions.begun)
            kept.told kept.moves under;
        reports = holds.reports;
        owes = holds.owes;
      }))

  -- the unload is as it was
  pub same-under :
      (own : OwnView) (next : LedgerView) (core : EndView Kind) (notes : List Happening)
      → next.unload ≡ own.ledger.unload → Shelves own core notes
      → IsOpen (tried_in next.unload) own.ledger.first (shelf_of notes) core.drawn
      (unloads_in core.transactions.begun)
  same-under own next core notes same holds =
      subst
      (λ (u : Option Unload).
      IsOpen (tried_in u) own.ledger.first (shelf_of notes) core.drawn (unloads_in core.transactions.begun)) (sym same)
      holds.under_way

  -- messages that are put one after the other
  pub stores-kept :
      (messages : List Spooled) (v : LedgerView) (notes : List Happening) (tables : TablesState)
      → All IsPutWell messages
      → IsLedger v → v.slots ≡ slots → IsShelved (policy_of plan slots) v list base notes → tables_in plan notes
      ≡ tables
      → IsKeptBy plan slots list base v notes (stores_all (overwrites tables) messages v).next
      (stores_all (overwrites tables) messages v).lines
  stores-kept [] v notes tables may is all shelved at = nothing-kept plan slots list base v notes is shelved
  stores-kept (message ∷ messages) v notes tables may is all shelved at =
      go (stored (overwrites tables) message v) refl
      (λ w ns is2 all2 shelved2 at2.
      stores-kept messages w ns tables (All-tail IsPutWell message messages may) is2 all2 shelved2 at2)
    where
      both : (booked : Booked) → IsKeptBy plan slots list base v notes booked.next booked.lines
          → IsKeptBy plan slots list base booked.next (noted_behind booked.lines notes)
          (stores_all (overwrites tables) messages booked.next).next
          (stores_all (overwrites tables) messages booked.next).lines
          → IsKeptBy plan slots list base v notes (stores_all (overwrites tables) messages booked.next).next
          (booked.lines ++ (stores_all (overwrites tables) messages booked.next).lines)
      both booked first second =
          let same = behind-both booked.lines (stores_all (overwrites tables) messages booked.next).lines notes in
          record {
            is = second.is;
            all = second.all ∙ first.all;
            shelved = subst
                (λ (ns : List Happening). IsShelved (policy_of plan slots)
                (stores_all (overwrites tables) messages booked.next).next list base ns)
                (sym same) second.shelved;
            told = ap (λ (ns : List Happening). (shelf_of ns).told) same ∙ second.told ∙ first.told;
            tables = ap (tables_in plan) same ∙ second.tables ∙ first.tables;
            moves = subst
                (λ (ns : List Happening).
                Moves v.first (stores_all (overwrites tables) messages booked.next).next.first (shelf_of notes)
                (shelf_of ns))
                (sym same)
                (moves-both v.first booked.next.first (stores_all (overwrites tables) messages booked.next).next.first
                (shelf_of notes) (shelf_of (noted_behind booked.lines notes))
                (shelf_of
                (noted_behind (stores_all (overwrites tables) messages booked.next).lines
                (noted_behind booked.lines notes)))
                first.moves second.moves);
          }

      go : (found : Option Booked) → stored (overwrites tables) message v ≡ found
          → ((w : LedgerView) (ns : List Happening) → IsLedger w → w.slots ≡ slots
          → IsShelved (policy_of plan slots) w list base ns → tables_in plan ns ≡ tables
          → IsKeptBy plan slots list base w ns (stores_all (overwrites tables) messages w).next
          (stores_all (overwrites tables) messages w).lines)
          → IsKeptBy plan slots list base v notes
          (option_map_or (λ (b : Booked). stores_behind b.lines (stores_all (overwrites tables) messages b.next)) found
          (stores_none true v)).next
          (option_map_or (λ (b : Booked). stores_behind b.lines (stores_all (overwrites tables) messages b.next)) found
          (stores_none true v)).lines
      go None e rest = nothing-kept plan slots list base v notes is shelved
      go (Some booked) e rest =
          let first = stored-kept plan slots list base v notes tables is all shelved at message booked
          (All-head IsPutWell message messages may) e in
          both booked first
          (rest booked.next (noted_behind booked.lines notes) first.is (first.all ∙ all) first.shelved
          (first.tables ∙ at))

  pub stores-unload :
      (overwriting : Bool) (messages : List Spooled) (v : LedgerView)
      → (stores_all overwriting messages v).next.unload ≡ v.unload
  stores-unload overwriting [] v = refl
  stores-unload overwriting (message ∷ messages) v =
      go (stored overwriting message v) refl (λ w. stores-unload overwriting messages w)
    where
      go : (found : Option Booked) → stored overwriting message v ≡ found
          → ((w : LedgerView) → (stores_all overwriting messages w).next.unload ≡ w.unload)
          → (option_map_or (λ (b : Booked). stores_behind b.lines (stores_all overwriting messages b.next)) found
          (stores_none true v)).next.unload
          ≡ v.unload
      go None e rest = refl
      go (Some booked) e rest = rest booked.next ∙ stored-unload plan slots list base v overwriting message booked e

  -- a turn of one duty
  pub once : (own : OwnView) (commands : ToolCommands) (step : CoreStep) → Ends own (carried Some commands step)
      → Ends own (all_done Some ((λ e. commands) ∷ []) step)
  once own commands step is = go (carried Some commands step) is
    where
      go : (went : Went (EndView Kind) Happening) → Ends own went → Ends own (and_then went (all_done Some []))
      go (Goes next) is = is
      go (Spent next) is = is

  pub turn-keeps :
      (own : OwnView) (booked : Booked) (step : CoreStep)
      → IsKeptBy plan slots list base own.ledger (told_to step) booked.next booked.lines
      → IsOpen (tried_in booked.next.unload) own.ledger.first (shelf_of (told_to step)) step.next.drawn
      (unloads_in step.next.transactions.begun) → Shelves own step.next (told_to step)
      → Ends (booked_turn booked own).own (all_done Some (booked_turn booked own).duties step)
  turn-keeps own booked step kept under holds =
      once (with_ledger booked.next own) (lines_commands booked.lines) step
      (booked-keeps own booked.next booked.lines step kept under holds)

  -- one that is put by itself
  pub put-keeps :
      (own : OwnView) (message : Spooled) (step : CoreStep) → IsPutWell message
      → tables_in plan (told_to step) ≡ own.tables
      → Shelves own step.next (told_to step)
      → Ends (stored_turn message own).own (all_done Some (stored_turn message own).duties step)
  put-keeps own message step may at holds = go (stored (overwrites own.tables) message own.ledger) refl
    where
      go : (found : Option Booked) → stored (overwrites own.tables) message own.ledger ≡ found
          → Ends (option_map_or (λ booked. booked_turn booked own) found (fixed_turn own (Halt ∷ []))).own
          (all_done Some (option_map_or (λ booked. booked_turn booked own) found (fixed_turn own (Halt ∷ []))).duties
          step)
      go None e = spent-at own.ledger (told_to step) holds.is holds.all holds.shelved
      go (Some booked) e =
          turn-keeps own booked step
          (stored-kept plan slots list base own.ledger (told_to step) own.tables holds.is holds.all holds.shelved at
          message
          booked
          may e)
          (same-under own booked.next step.next (told_to step)
          (stored-unload plan slots list base own.ledger (overwrites own.tables) message booked e) holds) holds

  -- S6F23 of RSDC 1 was received last, and all leave
  pub purge-keeps :
      (own : OwnView) (step : CoreStep)
      → IsPurge (policy_of plan slots) (received_since (told_to step))
      → IsPurge (policy_of plan slots) (received_in_step (told_to step)) → Shelves own step.next (told_to step)
      → Ends (booked_turn (all_out own.ledger) own).own
      (all_done Some (booked_turn (all_out own.ledger) own).duties step)
  purge-keeps own step asked in_step holds =
      turn-keeps own (all_out own.ledger) step
      (all-kept plan slots list base own.ledger (told_to step) (tables_in plan (told_to step)) holds.is holds.all
      holds.shelved
      refl (λ some. asked) (λ some. in_step))
      (same-under own (all_out own.ledger).next step.next (told_to step) (all-out-unload own.ledger) holds) holds
