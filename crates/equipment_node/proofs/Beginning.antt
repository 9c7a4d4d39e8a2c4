-- That a start over a spool that was made ready comes to the start of the definition.
use Rattle.std.proofs.Common.{◌≡◌, refl, sym, ap, subst, ◌∙◌, arith, inl, inr, ℕ, suc, ◌+◌, ◌-◌, List, [], ◌∷◌, ◌++◌}
use Rattle.std.proofs.Common.{length}
use Rattle.std.proofs.Common.{Option, Some, None}
use Rattle.std.proofs.lemmas.Bool.Decides.{nat_tests}
use Rattle.std.proofs.lemmas.List.Elements.{All-nil}
use Rattle.std.specs.Prelude.{Result, Ok, Err, map, sum}
use Rattle.disk_base.specs.Story.{Story}
use Rattle.disk_base.specs.Through.{GoesThrough}
use Rattle.disk_base.specs.declared.disk.Disk as disk
use Rattle.gem_spool.specs.declared.count.Count.{Count}
use Rattle.gem_spool.specs.declared.spool.GemSpool.{GemSpool}
use Rattle.gem_spool.specs.Spool.{HasList, ReservesFrom}
use Rattle.gem_spool.specs.Standing.{Standing, Stands, file_told, standing_of}
use Rattle.gem_spool.specs.Works.{IsMarked, reserved}
use Rattle.message_flow.specs.declared.step.Note.{Note}
use Rattle.message_flow.specs.declared.step.StepOut.{StepOut}
use Rattle.setup_store.specs.Entries.{Entry}
use Rattle.setup_store.specs.OnDisk.{HoldsKept}
use Rattle.spool_file.specs.File.{SpoolFile, StandsFor}
use Rattle.spool_file.specs.Slot.{Message, width}
use Rattle.spool_slots.specs.Files.{upgraded, with_mark_moved}
use Rattle.spool_slots.specs.Spool.{SpoolView, known_of}
use Rattle.spool_slots.specs.declared.states.Spent.{Spent as Device}
use Rattle.trace_log.specs.Log.Happening.{EquipmentStarted}
use Rattle.trace_log.specs.Text.{note_of}
use Rattle.message_end.specs.Core.{IsText}
use Rattle.message_end.specs.Ends.{IsEmpty, printed}
use Rattle.message_end.specs.Parts.{Node}
use Rattle.spool_ledger.specs.Ledger.{LedgerView, new_ledger}
use Rattle.spool_ledger.proofs.Widths.{widths-long}
use Rattle.equipment_tables.specs.declared.plan.EquipmentPlan.{EquipmentPlan}
use Rattle.equipment_tables.specs.Plan.{EquipmentPlanFits}
use Rattle.gem_recipes.specs.declared.no_recipes.NoRecipes.{NoRecipes}
use Rattle.equipment_node.specs.Keeping.{no_keeper}
use Rattle.equipment_node.specs.declared.equipment.Starting.{Starting}
use Rattle.equipment_node.specs.declared.equipment.Starting.TheVariants as starting
use Rattle.tool_step.specs.declared.kind.Kind.{Kind}
use Rattle.equipment_node.specs.Amid.{IsReady}
use Rattle.tool_step.specs.Equipment.{EquipmentView, setup_lines, started_on}
use Rattle.tool_step.specs.Setup.{setup_in}
use Rattle.spool_works.specs.Found.{first_in, found_in}
use Rattle.tool_step.specs.Grants.{GrantView}
use Rattle.tool_step.specs.Live.{ReportView}
use Rattle.equipment_node.specs.Held.{HasMark, Held}
use Rattle.tool_step.specs.Own.{OwnView}
use Rattle.tool_law.specs.Sound.{CanBeSent}
use Rattle.tool_law.proofs.SpoolSound.{new-good}
use Rattle.equipment_node.specs.StartOver.{IsFresh, StartsOver, StartsWith}
use Rattle.equipment_node.specs.MadeReady.{IsEither, IsUnready}
use Rattle.equipment_node.specs.StartSizes.{AreSizes}
use Rattle.tool_core.specs.Starting.{new_node}
use Rattle.equipment_node.specs.Stepping.{IsClear, IsTold}
use Rattle.equipment_node.proofs.HandingBack.{reserved-back}
use Rattle.equipment_node.proofs.Opened.{at-last}
use Rattle.equipment_node.proofs.OnDisk.{kept-of}
use Rattle.equipment_node.proofs.Sizing.{sizes-then}

-- ---- it is ready for its first step

pub new-ready :
    {D : Type 0} (members : disk.Ghosts D) (plan : EquipmentPlan) → EquipmentPlanFits plan → (g : GemSpool D)
    (setup : Option (List Entry)) (sizes : List ℕ) (base : ℕ) → g.spool.version ≡ 2
    → AreSizes members g.spool sizes → HoldsKept members g.spool → (node : Node OwnView Kind)
    → node ≡ new_node plan setup (new_ledger g.spool.slots g.spool.first sizes) base → IsReady members g.spool node
new-ready members plan fits g setup sizes base two sized holds node is =
    subst (λ (n : Node OwnView Kind). IsReady members g.spool n) (sym is)
    (record {
      counted = record {
        count =
            ap (λ (n : ℕ). counted n g.spool.next g.spool.len (g.spool.next - g.spool.first)) two
            ∙ ap (λ (n : ℕ). counted 2 n g.spool.len (n - g.spool.first)) (sym sized.used)
            ∙ ap (λ (n : ℕ). counted 2 (g.spool.first + sum sizes) n (g.spool.first + sum sizes - g.spool.first))
            (sym sized.many)
            ∙ ap (λ (n : ℕ). counted 2 (g.spool.first + sum sizes) (length sizes) n) (omega arith);
        sizes = sized.are;
        some = sized.each;
      };
      holds = holds;
      sound = record {
        plan = plan;
        fits = fits;
        sound = record {
          plan_is = refl;
          texts = All-nil (λ (one : GrantView). IsText one.body);
          traced = All-nil (λ (one : GrantView). IsText one.body);
          reports = All-nil (λ (one : ReportView). CanBeSent one.message);
          ledger = new-good g.spool.slots g.spool.first sizes;
        };
      };
    })
  where
    counted : (version next len used : ℕ) → Count
    counted version next len used =
        record { version = version; slots = g.spool.slots; next = next; len = len; used = used }

-- the sizes stay as the mark is moved
pub reserved-sized :
    {D : Type 0} (members : disk.Ghosts D) (g h : GemSpool D) (sizes : List ℕ) (base : ℕ)
    → ReservesFrom members g h (Some base)
    → ((list : List Message) → HasList members g.spool list → HasList members h.spool list)
    → AreSizes members g.spool sizes → AreSizes members h.spool sizes
reserved-sized {D} members g h sizes base done lists sized = record {
  each = sized.each;
  many = sized.many ∙ sym (ap (λ (v : SpoolView D). v.len) done.0.2);
  used =
      ap (λ (v : SpoolView D). v.first + sum sizes) done.0.2 ∙ sized.used
      ∙ sym (ap (λ (v : SpoolView D). v.next) done.0.2);
  are =
      sizes-then members g.spool h.spool sizes sizes (λ (list : List Message). list)
      (reserved-back members g h (Some base) done) lists (λ list is. is) sized.are;
}

-- ---- what it comes to

found-long : (list : List Message) → length (found_in list) ≡ length list
found-long [] = refl
found-long (message ∷ list) = ap suc (found-long list)

-- a file of version 2 is that of version 2
two-up : (file : SpoolFile) → file.version ≡ 2 → file ≡ upgraded file
two-up file two = ap (λ (n : ℕ). record file { version = n }) two

-- amid the moving of its mark there is the file with one mark or the other
marked-as : (st : Standing) (image : List ℕ) → st.file.version ≡ 2 → IsMarked st image → HasMark st.file image
marked-as st image two (inl same) = inl same
marked-as st image two (inr moved) =
    inr (inr (subst (λ (f : SpoolFile). StandsFor image (with_mark_moved f)) (two-up st.file two) moved))

-- and so it is of a file that became one of version 2
had-mark : (file : SpoolFile) (image : List ℕ) → HasMark (upgraded file) image → HasMark file image
had-mark file image (inl up) = inr (inl up)
had-mark file image (inr other) = inr other

either-mark : (file : SpoolFile) (image : List ℕ) → IsEither file image → HasMark file image
either-mark file image (inl same) = inl same
either-mark file image (inr up) = inr (inl up)

module _ {D : Type 0} (members : disk.Ghosts D) (plan : EquipmentPlan) (g : GemSpool D) (sizes : List ℕ)
    (two : g.spool.version ≡ 2) (sized : AreSizes members g.spool sizes) (fresh : IsFresh members g.spool)
    (stands : Stands members g.spool (standing_of members g.spool)) (out_old out_new : StepOut)
    (empty : IsEmpty out_old)
  where
    abbrev st : Standing
    st = standing_of members g.spool

    abbrev file : SpoolFile
    file = st.file

    abbrev next : EquipmentView
    next = (started_on plan file).next

    version-is : file.version ≡ 2
    version-is = sym (ap (λ (c : Count). c.version) stands.count) ∙ two

    widths-are : map width file.list ≡ sizes
    widths-are =
        ap (λ (tells : Option Story). map width (file_told tells (known_of g.spool)).list) fresh.told.1
        ∙ sized.are fresh.told.0 fresh.told.1

    slots-are : g.spool.slots ≡ file.slots
    slots-are = ap (λ (c : Count). c.slots) stands.count

    -- no system bytes are left
    pub none-left :
        (h : GemSpool D) (spent : Device D) → ReservesFrom members g h None → spent.disk ≡ h.spool.disk
        → StartsOver members plan file out_old (Err (starting.NumbersSpent spent no_keeper))
    none-left h spent done same = (
      empty,
      (let none = done.1 in let mark = stands.mark in grind (arith, nat_tests, none, mark)),
      λ t told image image_is.
          subst (λ (f : SpoolFile). StandsFor image f) (two-up file version-is)
          (kept-of members g.spool st spent (same ∙ ap (λ (x : GemSpool D). x.spool.disk) done.0) stands t told image
          image_is),
    )

    -- the disk failed
    pub start-failed :
        (spent : Device D)
        → ((s : Story) → members.told g.spool.disk ≡ Some s → GoesThrough s (members.told spent.disk) (IsMarked st))
        → StartsOver members plan file out_old (Err (starting.DiskFailed spent no_keeper))
    start-failed spent moments = (
      empty,
      λ t is image image_is.
          marked-as st image version-is
          (at-last fresh.told.0 _ _ t (moments fresh.told.0 fresh.told.1) is image image_is),
    )

    module _ (setup : Option (List Entry)) (setup_is : setup ≡ setup_in file) (h : GemSpool D) (base : ℕ)
        (done : ReservesFrom members g h (Some base)) (marked : Stands members h.spool (reserved st))
        (moments : (s : Story) → members.told g.spool.disk ≡ Some s
        → GoesThrough s (members.told h.spool.disk) (IsMarked st))
        (line : out_new.line ≡ out_old.line)
      where
        ledger-is :
            new_ledger h.spool.slots h.spool.first sizes
            ≡ new_ledger file.slots (first_in file) (map width file.list)
        ledger-is =
            ap (λ (v : SpoolView D). new_ledger v.slots v.first sizes) done.0.2
            ∙ ap (λ (n : ℕ). new_ledger n g.spool.first sizes) slots-are
            ∙ ap (λ (n : ℕ). new_ledger file.slots n sizes) fresh.first
            ∙ ap (λ (ns : List ℕ). new_ledger file.slots (first_in file) ns) (sym widths-are)

        base-is : base ≡ file.mark.value
        base-is = done.0.1 ∙ stands.mark

        long-is : length (found_in file.list) ≡ length sizes
        long-is = found-long file.list ∙ sym (widths-long file.list) ∙ ap (length {A = ℕ}) widths-are

        next-is : g.spool.next ≡ first_in file + sum (map width file.list)
        next-is =
            sym sized.used ∙ ap (λ (n : ℕ). n + sum sizes) fresh.first
            ∙ ap (λ (ns : List ℕ). first_in file + sum ns) (sym widths-are)

        pub started :
            (result : Result (Held D NoRecipes) (Starting D NoRecipes))
            → StartsWith plan h setup sizes base out_old out_new result
            → StartsOver members plan file out_new result
        started (Ok e) is = record {
          room = let left = done.0.0.0 in let mark = stands.mark in grind (arith, nat_tests, left, mark);
          node_is =
              is.1 ∙ ap (λ (l : LedgerView). new_node plan setup l base) ledger-is
              ∙ ap (λ (n : ℕ). new_node plan setup ledger n) base-is
              ∙ ap (λ (o : Option (List Entry)). new_node plan o ledger file.mark.value) setup_is;
          clear =
              subst (λ (x : GemSpool D). IsClear members x.spool next) (sym is.0)
              (record {
                stands =
                    subst
                    (λ (f : SpoolFile).
                    Stands members h.spool (record { next = standing_next; file = with_mark_moved f }))
                    (two-up file version-is)
                    (subst
                    (λ (n : ℕ). Stands members h.spool (record { next = n; file = with_mark_moved file }))
                    next-is marked);
                owes = refl;
                sizes_are = refl;
                slots_are = refl;
                version_is = refl;
              });
          told =
              subst (λ (x : GemSpool D). IsTold (members.told x.spool.disk)) (sym is.0)
              (let through = moments fresh.told.0 fresh.told.1 in (through.0, through.1));
          notes =
              is.2.notes
              ∙ ap (λ (notes : List Note). notes ++ is.2.note ∷ printed (setup_lines plan setup)) empty.notes
              ∙ ap (λ (note : Note). note ∷ printed (setup_lines plan setup)) (is.2.is (found_in file.list) long-is)
              ∙ ap
              (λ (n : ℕ). note_of (EquipmentStarted (found_in file.list) n) ∷ printed (setup_lines plan setup)) base-is
              ∙ ap
              (λ (o : Option (List Entry)).
              note_of (EquipmentStarted (found_in file.list) file.mark.value) ∷ printed (setup_lines plan o)) setup_is;
          quiet = ap (λ l. l.items) line ∙ empty.line;
        }
          where
            ledger : LedgerView
            ledger = new_ledger file.slots (first_in file) (map width file.list)

            standing_next : ℕ
            standing_next = first_in file + sum (map width file.list)
        started (Err (starting.NoMemory spent keeper)) is = (
          ap (λ l. l.items) line ∙ empty.line,
          λ t told image image_is.
              marked-as st image version-is
              (inr (kept-of members h.spool (reserved st) spent is marked t told image image_is)),
        )
        started (Err (starting.NumbersSpent spent keeper)) is = absurd is
        started (Err (starting.DiskFailed spent keeper)) is = absurd is
        started (Err (starting.NotSpool raw break keeper)) is = absurd is

-- ---- over the file as it was found

-- a start over a file of version 2 is one over the file that became it
pub over-upgraded :
    {D : Type 0} (members : disk.Ghosts D) (plan : EquipmentPlan) (file : SpoolFile) (out : StepOut)
    (result : Result (Held D NoRecipes) (Starting D NoRecipes)) → StartsOver members plan (upgraded file) out result
    → StartsOver members plan file out result
over-upgraded members plan file out (Ok h) is = record {
  room = is.room;
  node_is = is.node_is;
  clear = is.clear;
  told = is.told;
  notes = is.notes;
  quiet = is.quiet;
}
over-upgraded members plan file out (Err (starting.NumbersSpent spent keeper)) is = is
over-upgraded members plan file out (Err (starting.DiskFailed spent keeper)) is =
    (is.0, λ t told image image_is. had-mark file image (is.1 t told image image_is))
over-upgraded members plan file out (Err (starting.NoMemory spent keeper)) is =
    (is.0, λ t told image image_is. had-mark file image (is.1 t told image image_is))
over-upgraded members plan file out (Err (starting.NotSpool raw break keeper)) is = absurd is

-- nothing is noted where the spool wasn't made ready
pub unready-over :
    {D : Type 0} (members : disk.Ghosts D) (plan : EquipmentPlan) (old : D) (file : SpoolFile) (out : StepOut)
    → IsEmpty out → (why : Starting D NoRecipes) → IsUnready members old file why
    → StartsOver members plan file out (Err why)
unready-over members plan old file out empty (starting.NoMemory spent keeper) is =
    (empty.line, λ t told image image_is. either-mark file image (is.1 t told image image_is))
unready-over members plan old file out empty (starting.DiskFailed spent keeper) is =
    (empty, λ t told image image_is. either-mark file image (is.1 t told image image_is))
unready-over members plan old file out empty (starting.NumbersSpent spent keeper) is = absurd is
unready-over members plan old file out empty (starting.NotSpool raw break keeper) is = absurd is
