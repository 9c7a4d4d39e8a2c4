-- That a whole step keeps the spool.
use Rattle.std.proofs.Common.{◌≡◌, refl, sym, ap, subst, ◌∙◌, ◌+◌, Bool, true, false, ℕ, List, [], ◌∷◌, ◌++◌, append-nil, Option, Some, inl, inr, if◌then◌else◌}
use Rattle.std.specs.Option.{option_map, option_map_or}
use Rattle.setup_store.specs.Entries.{Entry, bytes_of}
use Rattle.spool_file.specs.File.{SpoolFile}
use Rattle.spool_works.specs.DiskWorks.{DiskWork}
use Rattle.spool_works.specs.DiskWorks.DiskWork.{Keep}
use Rattle.trace_log.specs.declared.commands.ToolCommand.{ToolCommand}
use Rattle.trace_log.specs.Log.{Happening}
use Rattle.message_end.specs.Core.{EndView, Step, Went, and_then, at_first, step_in}
use Rattle.message_end.specs.Core.Went.{Goes, Spent}
use Rattle.message_end.specs.Course.{noted_behind}
use Rattle.message_end.specs.Ends.{Input}
use Rattle.message_end.specs.Parts.{Node, after_parts}
use Rattle.spool_law.specs.Shelf.{Change, shelf_of}
use Rattle.spool_ledger.specs.Laws.{Call}
use Rattle.spool_ledger.specs.Ledger.{LedgerView, carried_out, count_by, stood_count}
use Rattle.spool_ledger.specs.Sizes.{AreSizedBy}
use Rattle.spool_file.specs.Slot.{Message as Put}
use Rattle.gem_spool.specs.Works.{AreDue}
use Rattle.gem_spool.specs.declared.works.Work.{Work}
use Rattle.equipment_tables.specs.declared.plan.EquipmentPlan.{EquipmentPlan}
use Rattle.equipment_tables.specs.Laws.{TablesAreLookedBackFor}
use Rattle.equipment_tables.specs.Plan.{EquipmentPlanFits}
use Rattle.tool_step.specs.declared.kind.Kind.{Kind}
use Rattle.tool_step.specs.Equipment.{EquipmentView, act, begun_step, done_step, ended_step, is_marked_out, needs_numbers, node_step, oldest_of, parts_done, reserved, settled, settled_file, settled_list, settled_own, settled_went, went_with_file}
use Rattle.spool_works.specs.Found.{found_in}
use Rattle.tool_reports.specs.Histories.{with_command}
use Rattle.tool_law.proofs.Lawful.{IsGoodView, begun-good, kept-view-good, oldest-good, settled-view-good}
use Rattle.tool_spool.proofs.Interrupted.{IsTail, WhereGoes}
use Rattle.tool_spool.proofs.KeptSetups.{ShelvesOwing, kept-on, over-note}
use Rattle.tool_step.specs.Disk.{keep_works}
use Rattle.tool_step.specs.declared.owed.Owed.{Owed}
use Rattle.tool_step.specs.Own.{OwnView, unowed}
use Rattle.tool_step.specs.Setup.{bytes_to_keep}
use Rattle.tool_step.proofs.StepFiles.{kept-same, settled-list-is}
use Rattle.tool_spool.specs.InPairs.{AreInPairs, changes_in}
use Rattle.tool_spool.specs.SpoolKept.{policy_of}
use Rattle.tool_step.specs.Step.{begun, first_parts, last_parts}
use Rattle.tool_reports.proofs.OwedReplies.{HoldsOwing, booked-owing, served-owing}
use Rattle.tool_reports.proofs.QuietReports.{Holds}
use Rattle.tool_spool.specs.MadeRoom.{IsRoomUsed}
use Rattle.tool_spool.proofs.FromStarts.{KeepsOn}
use Rattle.tool_spool.proofs.KeptLedger.{one-call}
use Rattle.tool_spool.proofs.PairedLines.{AreTold, changes-both}
use Rattle.tool_reports.proofs.QuietNotes.{AreSettled}
use Rattle.tool_reports.proofs.Reporting.{odd-of}
use Rattle.tool_spool.proofs.Shelved.{IsShelved, settled-shelved}
use Rattle.tool_spool.proofs.ShelvedTurns.{IsSpentAt, Shelves, spent-at}
use Rattle.tool_spool.proofs.StillLines.{AreStill}
use Rattle.message_end.proofs.Growing.{behind-both}
use Rattle.tool_law.proofs.WorkLines.{AreLines, Walks, same-lines}
use Rattle.message_end.proofs.Parts.{OnEither, either-less}
use Rattle.tool_spool.proofs.KeptParts.{BothOwe, Settled, SettledRight, first-both, last-both}

module _
    (plan : EquipmentPlan) (fits : EquipmentPlanFits plan) (looked : TablesAreLookedBackFor)
    (start : List Happening) (slots : ℕ) where
  -- ---- the whole step

  abbrev pub FileStep : Type 0
  FileStep = Step EquipmentView Happening

  abbrev IsBoth : List ToolCommand → (base before : List Happening) → FileStep → Type 0
  IsBoth said base before step =
      Holds plan start said step.next.node.own step.next.node.core.drawn (noted_behind step.notes before)
      × Shelves plan slots step.next.file.list base before step.next.node.own step.next.node.core
      (noted_behind step.notes before)

  abbrev IsSettled : List ToolCommand → (base before : List Happening) → FileStep → Type 0
  IsSettled said base before step = IsBoth said base before step × (step.next.node.own.ledger.works ≡ [])

  abbrev pub IsRightFile : (base before : List Happening) → FileStep → Type 0
  IsRightFile base before step =
      AreSettled plan start (noted_behind step.notes before)
      × IsSpentAt plan slots step.next.file.list base before step.next.node.own.ledger (noted_behind step.notes before)

  -- the same, where nothing is owed
  abbrev IsRightRest : (base before : List Happening) → FileStep → Type 0
  IsRightRest base before step = IsRightFile base before step × (step.next.node.own.ledger.works ≡ [])

  -- what waits for the works isn't answered yet
  abbrev pub IsBothOwing : List ToolCommand → (base before : List Happening) → FileStep → Type 0
  IsBothOwing said base before step =
      HoldsOwing plan start said step.next.node.own step.next.node.core (noted_behind step.notes before)
      × ShelvesOwing plan slots step.next.file.list base before step.next.node.own step.next.node.core
      (noted_behind step.notes before)

  abbrev IsSettledOwing : List ToolCommand → (base before : List Happening) → FileStep → Type 0
  IsSettledOwing said base before step =
      (HoldsOwing plan start said step.next.node.own step.next.node.core (noted_behind step.notes before)
      × Shelves plan slots step.next.file.list base before (unowed step.next.node.own) step.next.node.core
      (noted_behind step.notes before))
      × (step.next.node.own.ledger.works ≡ [])

  with-file :
      (said : List ToolCommand) (base before : List Happening) (s : EquipmentView)
      (went : Went (Node OwnView Kind) Happening)
      → (BothOwe plan fits looked start slots) s.file.list base before said went
      → OnEither (IsBothOwing said base before) (IsRightFile base before) (went_with_file s went)
  with-file said base before s (Goes step) at = at
  with-file said base before s (Spent step) at = at

  with-settled :
      (said : List ToolCommand) (base before : List Happening) (s : EquipmentView)
      (went : Went (Node OwnView Kind) Happening)
      → OnEither ((Settled plan fits looked start slots) s.file.list base before said)
      ((SettledRight plan fits looked start slots) s.file.list base before) went
      → OnEither (IsSettled said base before) (IsRightRest base before) (went_with_file s went)
  with-settled said base before s (Goes step) at = at
  with-settled said base before s (Spent step) at = at

  -- the works are done
  settled-shelves :
      (base before notes : List Happening) (own : OwnView) (core : EndView Kind) (file : SpoolFile)
      → Shelves plan slots file.list base before own core notes
      → Shelves plan slots (settled_file own.ledger file).list notes before (settled_own own) core notes
  settled-shelves base before notes own core file holds = record {
    is = one-call plan slots file.list base Call.TakeWorks own.ledger holds.is tt;
    all = holds.all;
    shelved =
        subst
        (λ (list : List Put). IsShelved (policy_of plan slots) (carried_out own.ledger) list notes notes)
        (sym (settled-list-is own.ledger file))
        (settled-shelved (policy_of plan slots) own.ledger file.list base notes holds.shelved);
    drawn = holds.drawn;
    asks = holds.asks;
    under_way = holds.under_way;
    reports = holds.reports;
    owes = holds.owes;
  }

  -- and a setup is kept behind them, and the recipes are asked, which changes nothing of the list
  settled-both :
      (said : List ToolCommand) (base before : List Happening) (step : FileStep) → IsBothOwing said base before step
      → IsSettledOwing said (noted_behind step.notes before) before (done_step step)
  settled-both said base before step both = (
    (
      served-owing plan start said (settled_own own) step.next.recipes core notes
          (booked-owing plan start said own (carried_out own.ledger) core notes both.0),
      subst (λ (list : List Put). Shelves plan slots list notes before (unowed (settled_own own)) core notes)
          (sym
          (kept-same (λ (one : SpoolFile). one.list) (settled_own own) (settled_file own.ledger file)
          (λ bytes other. refl)))
          (shelves both.1),
    ),
    refl,
  )
    where
      own : OwnView
      own = step.next.node.own

      core : EndView Kind
      core = step.next.node.core

      file : SpoolFile
      file = step.next.file

      notes : List Happening
      notes = noted_behind step.notes before

      shelves : ShelvesOwing plan slots file.list base before own core notes
          → Shelves plan slots (settled_file own.ledger file).list notes before (unowed (settled_own own)) core notes
      shelves (inl unkept) = settled-shelves base before notes (unowed own) core file unkept.shelves
      shelves (inr kept) =
          subst
          (λ (ns : List Happening).
          Shelves plan slots (settled_file own.ledger file).list ns before (unowed (settled_own own)) core ns)
          (sym kept.noted)
          (over-note plan slots (settled_file own.ledger file).list (Happening.Keeping kept.message ∷ kept.earlier)
          before (unowed (settled_own own)) core (Happening.Kept kept.message) (Happening.Keeping kept.message ∷ kept.earlier)
          refl refl
          (over-note plan slots (settled_file own.ledger file).list kept.earlier before (unowed (settled_own own)) core
          (Happening.Keeping kept.message) kept.earlier refl refl
          (settled-shelves base before kept.earlier (unowed own) core file kept.shelves)))

  -- with more system bytes
  reserved-so :
      (s : EquipmentView) (before : List Happening)
      → Shelves plan slots s.file.list before before s.node.own s.node.core before
      → Shelves plan slots s.file.list before before s.node.own (reserved s).node.core before
  reserved-so s before holds = record {
    is = holds.is;
    all = holds.all;
    shelved = holds.shelved;
    drawn = holds.drawn;
    asks = holds.asks;
    under_way = holds.under_way;
    reports = holds.reports;
    owes = holds.owes;
  }

  -- all that is noted up to the works
  pub begun-both :
      (said : List ToolCommand) (before : List Happening) (input : Input ToolCommand) (now : ℕ) (s : EquipmentView)
      → Holds plan start said s.node.own s.node.core.drawn before
      → Shelves plan slots s.file.list before before s.node.own s.node.core before
      → OnEither (IsBothOwing (with_command input said) before before) (IsRightFile before before)
      (begun_step s input now)
  begun-both said before input now s holds shelves = begun (needs_numbers s) (is_marked_out s.file.mark.value)
    where
      to : List ToolCommand
      to = with_command input said

      begun : (needs spent : Bool)
          → OnEither (IsBothOwing to before before) (IsRightFile before before)
          (and_then
          (if needs then if spent then Spent (at_first s) else Goes (at_first (reserved s)) else Goes (at_first s))
          (parts_done (first_parts input now)))
      begun true true = (
        holds.settled,
        spent-at plan slots s.file.list before before s.node.own.ledger before shelves.is shelves.all shelves.shelved,
      )
      begun true false =
          with-file to before before (reserved s) (after_parts Some (first_parts input now)
          (at_first (reserved s).node))
          ((first-both plan fits looked start slots) s.file.list before before said input now
          (at_first (reserved s).node) (holds, reserved-so s before shelves))
      begun false spent =
          with-file to before before s (after_parts Some (first_parts input now) (at_first s.node))
          ((first-both plan fits looked start slots) s.file.list before before said input now (at_first s.node)
          (holds, shelves))

  -- what was noted goes with the works, each of which finds room, or its message; and where the step goes on the shelf
  -- stands as they make the list
  -- the lines of the list, and those of a setup behind them
  pub record AreLinesThen (before : List Happening) (went : Went EquipmentView Happening) : Type 0 where
    pub lines : List Happening
    pub tail : List Happening
    pub noted : noted_behind (step_in went).notes before ≡ noted_behind (lines ++ tail) before
    pub walks :
        Walks (stood_count (step_in went).next.node.own.ledger).next (step_in went).next.file.list before
        (step_in went).next.node.own.ledger.works lines
    pub is_tail : IsTail slots before went tail
    pub still : AreStill lines

  pub record IsBegunSo (before : List Happening) (went : Went EquipmentView Happening) : Type 0 where
    pub kept : KeepsOn (policy_of plan slots) (noted_behind (step_in went).notes before)
    pub lines : AreLinesThen before went
    pub pairs :
        AreInPairs (stood_count (step_in went).next.node.own.ledger).next (step_in went).next.file.list
        (step_in went).next.node.own.ledger.works (changes_in (step_in went).notes)
    pub closed : IsRoomUsed (noted_behind (step_in went).notes before)
    pub due :
        AreDue
        (count_by slots (step_in went).next.node.own.ledger.stood)
        (step_in went).next.node.own.ledger.works
    pub sized :
        AreSizedBy (step_in went).next.node.own.ledger.stood.sizes (step_in went).next.node.own.ledger.works
    pub stands :
        WhereGoes slots before went
        ((shelf_of (noted_behind (step_in went).notes before)).stands
        ≡ found_in (settled_list (step_in went).next.node.own.ledger (step_in went).next.file.list))

  -- what was told of the works are their lines, none of which is of a setup
  same-told : (v : LedgerView) (list : List Put) (before notes : List Happening) → AreTold v list before notes
      → (lines : AreLines v list before notes) → AreStill lines.lines
  same-told v list before notes told lines =
      subst AreStill (same-lines told.lines lines.lines before (sym told.noted ∙ lines.noted)) told.still

  told-pairs : (v : LedgerView) (list : List Put) (before notes : List Happening)
      → AreTold v list before (noted_behind notes before)
      → AreInPairs (stood_count v).next list v.works (changes_in notes)
  told-pairs v list before notes told =
      subst (λ (ns : List Happening). AreInPairs (stood_count v).next list v.works (changes_in ns))
      (same-lines told.lines notes before (sym told.noted)) told.pairs

  pub begun-so :
      (said : List ToolCommand) (before : List Happening) (went : Went EquipmentView Happening)
      → OnEither (IsBothOwing said before before) (IsRightFile before before) went → IsBegunSo before went
  begun-so said before (Goes step) at = go at.1
    where
      v : LedgerView
      v = step.next.node.own.ledger

      list : List Put
      list = step.next.file.list

      notes : List Happening
      notes = noted_behind step.notes before

      go : ShelvesOwing plan slots list before before step.next.node.own step.next.node.core notes
          → IsBegunSo before (Goes step)
      go (inl unkept) =
          let holds = unkept.shelves in
          let spent = spent-at plan slots list before before v notes holds.is holds.all holds.shelved in
          record {
            kept = spent.kept;
            lines = record {
              lines = spent.lines.lines;
              tail = [];
              noted = spent.lines.noted ∙ ap (λ (ls : List Happening). noted_behind ls before)
                  (sym (append-nil spent.lines.lines));
              walks = spent.lines.walks;
              is_tail = inl (
                refl,
                ap (λ (bytes : Option (List ℕ)). option_map_or (λ (all : List ℕ). Keep all ∷ []) bytes []) unkept.none,
              );
              still = same-told v list before notes spent.told spent.lines;
            };
            pairs = told-pairs v list before step.notes spent.told;
            closed = spent.closed;
            due = spent.due;
            sized = spent.sized;
            stands = holds.shelved.stands;
          }
      go (inr kept) =
          let spent =
          spent-at plan slots list before before v kept.earlier kept.shelves.is kept.shelves.all kept.shelves.shelved in
          record {
            kept =
                subst (KeepsOn (policy_of plan slots)) (sym kept.noted)
                (kept-on (policy_of plan slots) kept.message kept.earlier spent.closed spent.kept);
            lines = record {
              lines = spent.lines.lines;
              tail = two;
              noted =
                  kept.noted
                  ∙ ap
                  (λ (ns : List Happening). Happening.Kept kept.message ∷ Happening.Keeping kept.message ∷ ns)
                  spent.lines.noted
                  ∙ sym (behind-both spent.lines.lines two before);
              walks = spent.lines.walks;
              is_tail = inr (
                kept.message,
                refl,
                record {
                  list = kept.kept.list;
                  setup = kept.kept.setup;
                  works = kept-works;
                  room = kept.kept.room;
                  kind = kept.kept.kind;
                },
              );
              still = same-told v list before kept.earlier spent.told spent.lines;
            };
            pairs =
                subst (λ (ns : List Happening). AreInPairs (stood_count v).next list v.works (changes_in ns))
                (same-lines (spent.told.lines ++ two) step.notes before
                (behind-both spent.told.lines two before
                ∙ ap
                (λ (ns : List Happening). Happening.Kept kept.message ∷ Happening.Keeping kept.message ∷ ns)
                (sym spent.told.noted)
                ∙ sym kept.noted))
                (subst (AreInPairs (stood_count v).next list v.works)
                (sym (changes-both spent.told.lines two ∙ append-nil (changes_in spent.told.lines))) spent.told.pairs);
            closed = subst IsRoomUsed (sym kept.noted) tt;
            due = spent.due;
            sized = spent.sized;
            stands =
                ap (λ (ns : List Happening). (shelf_of ns).stands) kept.noted ∙ kept.shelves.shelved.stands;
          }
        where
          two : List Happening
          two = Happening.Keeping kept.message ∷ Happening.Kept kept.message ∷ []

          works_of : Option (List ℕ) → List DiskWork
          works_of bytes = option_map_or (λ (all : List ℕ). Keep all ∷ []) bytes []

          kept-works : keep_works (Goes step) ≡ Keep (bytes_of kept.kept.list) ∷ []
          kept-works =
              ap (λ (owed : Option Owed). works_of (bytes_to_keep owed step.next.node.own.setup)) kept.kept.owed
              ∙ ap (λ (setup : Option (List Entry)). works_of (option_map bytes_of setup)) kept.kept.setup
  begun-so said before (Spent step) at =
      record {
        kept = at.1.kept;
        lines = record {
          lines = at.1.lines.lines;
          tail = [];
          noted = at.1.lines.noted ∙ ap (λ (ls : List Happening). noted_behind ls before)
              (sym (append-nil at.1.lines.lines));
          walks = at.1.lines.walks;
          is_tail = inl (refl, refl);
          still =
              same-told step.next.node.own.ledger step.next.file.list before (noted_behind step.notes before) at.1.told
              at.1.lines;
        };
        pairs = told-pairs step.next.node.own.ledger step.next.file.list before step.notes at.1.told;
        closed = at.1.closed;
        due = at.1.due;
        sized = at.1.sized;
        stands = tt;
      }

  -- what a step leaves
  pub record IsDone (said : List ToolCommand) (before : List Happening) (step : FileStep) : Type 0 where
    pub base : List Happening
    pub both : IsBoth said base before step
    pub none : step.next.node.own.ledger.works ≡ []

  abbrev pub IsKeptFile : List Happening → FileStep → Type 0
  IsKeptFile before step = KeepsOn (policy_of plan slots) (noted_behind step.notes before)

  -- the last parts, behind the works of a step so far
  last-settled :
      (said : List ToolCommand) (before : List Happening) (now : ℕ) (step : FileStep)
      → IsBothOwing said before before step
      → IsGoodView plan fits step.next
      → OnEither (IsSettled said (noted_behind step.notes before) before)
      (IsRightRest (noted_behind step.notes before) before) (ended_step now (done_step step))
  last-settled said before now step both good =
      let base = noted_behind step.notes before in
      with-settled said base before (done_step step).next
      (after_parts Some (last_parts (oldest_of (done_step step).next) now) (node_step (done_step step)))
      ((last-both plan fits looked start slots) (done_step step).next.file.list base before said
      (oldest_of (done_step step).next)
      (odd-of plan fits looked start (oldest_of (done_step step).next)
      (oldest-good plan fits (done_step step).next.file.list
      (kept-view-good plan fits (settled step.next) (settled-view-good plan fits step.next good)).list)) refl now
      (node_step (done_step step)) (settled-both said before before step both))

  pub step-both :
      (said : List ToolCommand) (before : List Happening) (input : Input ToolCommand) (now : ℕ) (s : EquipmentView)
      → Holds plan start said s.node.own s.node.core.drawn before
      → Shelves plan slots s.file.list before before s.node.own s.node.core before → IsGoodView plan fits s
      → OnEither (IsDone (with_command input said) before) (IsKeptFile before) (act s input now)
  step-both said before input now s holds shelves good =
      ends (begun_step s input now) (begun-both said before input now s holds shelves)
      (begun-good plan fits s input now good)
    where
      to : List ToolCommand
      to = with_command input said

      ends : (went : Went EquipmentView Happening)
          → OnEither (IsBothOwing to before before) (IsRightFile before before) went
          → IsGoodView plan fits (step_in went).next
          → OnEither (IsDone to before) (IsKeptFile before) (and_then (settled_went went) (ended_step now))
      ends (Spent step) at so = at.1.kept
      ends (Goes step) at so =
          let base = noted_behind step.notes before in
          either-less (IsSettled to base before) (IsRightRest base before) (IsDone to before) (IsKeptFile before)
          (ended_step now (done_step step)) (last-settled to before now step at so)
          (λ last so. record { base = base; both = so.0; none = so.1 }) (λ last so. so.0.1.kept)

  -- what is noted behind the works, where nothing is owed, names no change of the list
  rest-lines :
      (begun : List Happening) (v : LedgerView) (list : List Put) (before notes : List Happening) → v.works ≡ []
      → AreTold v list (noted_behind begun before) (noted_behind notes before) → changes_in notes ≡ changes_in begun
  rest-lines begun v list before notes none told =
      ap changes_in
      (same-lines notes (begun ++ told.lines) before
      (told.noted ∙ sym (behind-both begun told.lines before)))
      ∙ changes-both begun told.lines
      ∙ ap (λ (changes : List Change). changes_in begun ++ changes)
      (subst (λ (works : List Work). AreInPairs (stood_count v).next list works (changes_in told.lines)) none
      told.pairs)
      ∙ append-nil (changes_in begun)

  -- the lines of a whole step are those that it has noted up to its works
  pub step-lines :
      (said : List ToolCommand) (before : List Happening) (input : Input ToolCommand) (now : ℕ) (s : EquipmentView)
      → Holds plan start said s.node.own s.node.core.drawn before
      → Shelves plan slots s.file.list before before s.node.own s.node.core before → IsGoodView plan fits s
      → changes_in (step_in (act s input now)).notes ≡ changes_in (step_in (begun_step s input now)).notes
  step-lines said before input now s holds shelves good =
      ends (begun_step s input now) (begun-both said before input now s holds shelves)
      (begun-good plan fits s input now good)
    where
      to : List ToolCommand
      to = with_command input said

      ends : (went : Went EquipmentView Happening)
          → OnEither (IsBothOwing to before before) (IsRightFile before before) went
          → IsGoodView plan fits (step_in went).next
          → changes_in (step_in (and_then (settled_went went) (ended_step now))).notes
          ≡ changes_in (step_in went).notes
      ends (Spent step) at so = refl
      ends (Goes step) at so = behind (ended_step now (done_step step)) (last-settled to before now step at so)
        where
          base : List Happening
          base = noted_behind step.notes before

          behind : (last : Went EquipmentView Happening)
              → OnEither (IsSettled to base before) (IsRightRest base before) last
              → changes_in (step_in last).notes ≡ changes_in step.notes
          behind (Goes last) so =
              rest-lines step.notes last.next.node.own.ledger last.next.file.list before last.notes so.1
              so.0.1.shelved.told
          behind (Spent last) so =
              rest-lines step.notes last.next.node.own.ledger last.next.file.list before last.notes so.1 so.0.1.told

  -- nor is it of a setup
  pub record EndsStill (before : List Happening) (begun last : FileStep) : Type 0 where
    pub lines : List Happening
    pub noted : noted_behind last.notes before ≡ noted_behind lines (noted_behind begun.notes before)
    pub still : AreStill lines

  pub ends-still :
      (said : List ToolCommand) (before : List Happening) (now : ℕ) (step last : FileStep)
      → IsBothOwing said before before step → IsGoodView plan fits step.next
      → ended_step now (done_step step) ≡ Goes last → EndsStill before step last
  ends-still said before now step last both good is =
      go (ended_step now (done_step step)) (last-settled said before now step both good) is
    where
      goes-same : (one two : FileStep) → Goes one ≡ Goes two → one ≡ two
      goes-same one two same = cc

      go : (went : Went EquipmentView Happening)
          → OnEither (IsSettled said (noted_behind step.notes before) before)
          (IsRightRest (noted_behind step.notes before) before) went
          → went ≡ Goes last → EndsStill before step last
      go (Goes other) at same =
          let told = at.0.1.shelved.told in
          subst (EndsStill before step) (goes-same other last same)
          (record { lines = told.lines; noted = told.noted; still = told.still })
      go (Spent other) at same = absurd (cc)
