-- What was begun over the disk, and what comes of it.
use Rattle.std.proofs.Common.{◌≡◌, inl, inr, refl, sym, ap, subst, ◌∙◌, arith, zero, suc, ◌≤◌, Bool, true, false, ℕ}
use Rattle.std.proofs.Common.{List, [], ◌∷◌, ◌++◌, length, map, take, Option, Some, None, is_some, if◌then◌else◌}
use Rattle.std.specs.Prelude.{Result, Ok, Err}
use Rattle.std.specs.List.{slice_get}
use Rattle.std.specs.Option.{option_map_or}
use Rattle.std.proofs.lemmas.List.{take-append-le}
use Rattle.disk_base.specs.Through.{EachImage}
use Rattle.disk_base.specs.declared.disk.Disk as disk
use Rattle.gem_spool.specs.declared.count.Count.{Count}
use Rattle.gem_spool.specs.declared.spool.GemSpool.{GemSpool}
use Rattle.gem_spool.specs.declared.works.Undone.{Undone}
use Rattle.gem_spool.specs.Standing.{Standing, Stands, count_in}
use Rattle.gem_spool.specs.Works.{AreSized, standings_after}
use Rattle.message_flow.specs.declared.step.StepOut.{StepOut}
use Rattle.spool_file.specs.File.{SpoolFile, StandsFor}
use Rattle.spool_file.specs.Slot.{width}
use Rattle.spool_slots.specs.declared.states.Spent.{Spent as Device}
use Rattle.trace_log.specs.declared.commands.ToolCommand.{ToolCommand}
use Rattle.trace_log.specs.Log.{Happening}
use Rattle.message_end.specs.Core.{Went, and_then, at_first, step_in}
use Rattle.message_end.specs.Core.Went.{Goes, Spent}
use Rattle.message_end.specs.Ends.{Input, IsFront, printed}
use Rattle.message_end.specs.Parts.{Node}
use Rattle.message_end.specs.Own.{Has}
use Rattle.message_end.proofs.Growing.{front-both, front-same}
use Rattle.message_end.proofs.Members.{has-back}
use Rattle.spool_ledger.specs.Ledger.{LedgerView, carried_out, next_of, stood_count}
use Rattle.equipment_tables.specs.Tables.{most_transmitted}
use Rattle.spool_ledger.specs.Sizes.{oldest_of as oldest_size}
use Rattle.spool_ledger.specs.Unloading.{number_next}
use Rattle.spool_ledger.specs.declared.unload.Unload.{Unload}
use Rattle.spool_works.specs.declared.ended.Ended.{Ended}
use Rattle.spool_works.specs.declared.ended.Ended.TheVariants as ended
use Rattle.tool_step.specs.declared.kind.Kind.{Kind}
use Rattle.equipment_node.specs.Amid.{Acts, Carries, EndsSo, HasCut, IsAt, IsBegun, IsBegunSpent, IsCounted}
use Rattle.equipment_node.specs.Amid.{WorksFit, opened, settled_node}
use Rattle.equipment_node.specs.Cut.{cut_at, noted_to}
use Rattle.spool_works.specs.DiskWorks.{DiskWork, IsAmidWork, fronts_of, standings_behind}
use Rattle.tool_step.specs.Disk.{keep_works, owed_in, read_works, reserve_works, standing_in, stops, takes_up, unserved}
use Rattle.tool_step.specs.Disk.{works_behind, works_of}
use Rattle.spool_works.specs.DiskWorks.DiskWork.{Change, Keep, ReadOldest}
use Rattle.tool_step.specs.Equipment.{EquipmentView, act, begun_step, ended_step, kept_step, kept_view}
use Rattle.tool_step.specs.Equipment.{reserving, served_step, settled, settled_file, settled_step, settled_went}
use Rattle.tool_step.specs.Setup.{bytes_to_keep, to_keep}
use Rattle.tool_step.specs.declared.owed.Owed.{Owed}
use Rattle.tool_step.specs.declared.owed.Owed.TheVariants.{Answered, Keep as KeepPrimary, Recipes}
use Rattle.tool_law.proofs.Areas.{area-begun}
use Rattle.tool_law.proofs.Lawful.{act-grows}
use Rattle.tool_step.proofs.StepFiles.{settled-slots, settled-version}
use Rattle.tool_step.specs.Left as left
use Rattle.tool_step.specs.Own.{OwnView}
use Rattle.equipment_node.specs.Stepping.{IsClear, IsTold}
use Rattle.equipment_node.proofs.Cutting.{cut-noted, noted-front, owed-front, read-front}
use Rattle.spool_works.proofs.OwedWorks.{HasStoppedAt, behind-owed, get-behind, get-front, owed-amid, owed-stands}
use Rattle.spool_works.proofs.OwedWorks.{owed-told}
use Rattle.setup_store.specs.Copies.{with_kept}
use Rattle.setup_store.specs.Entries.{Entry}
use Rattle.spool_works.specs.Owed.{CarriesOwed, keep_by, owed_works}
use Rattle.equipment_node.proofs.OnDisk.{get-has, kept-of, take-all}
use Rattle.equipment_node.proofs.OnDisk.{settled-standing, settled-sizes, place_of, reserves, is_reserving, placed}
use Rattle.equipment_node.proofs.OnDisk.{behind-both, opened-standing, placed-front, placed-standing, placed-whole}
use Rattle.equipment_node.proofs.Sizing.{sized-of, sizes-stand}

-- ---- what was begun, and what comes of it

module _ {D : Type 0} (members : disk.Ghosts D) (s : EquipmentView) (input : Input ToolCommand) (now : ℕ) where
  -- ---- behind the first parts

  module _ (went : reserving s ≡ Goes (at_first (opened s))) where
    -- memory was wanting
    pub no-memory :
        (g : GemSpool D) (new : Node OwnView Kind) (out : StepOut) (spent : Device D) → spent.disk ≡ g.spool.disk
        → IsClear members g.spool (opened s) → Acts members s input now new out (Err (ended.NoMemory spent))
    no-memory g new out spent same clear after notes quiet = (
      quiet,
      λ t told. record {
        place = place_of (is_reserving s) 0;
        left =
            subst (λ (st : Standing). left.Holds st t.now)
            (sym (placed-standing (is_reserving s) (standing_in s) (works_behind (begun_step s input now)) 0
            ∙ opened-standing s went))
            (kept-of members g.spool (standing_in (opened s)) spent same clear.stands t told);
      },
    )

    module _ (begun : Went EquipmentView Happening) (is : begun_step s input now ≡ begun) (setup : Option (List ℕ))
        (keeps : keep_works begun ≡ keep_by setup) where
      abbrev rest : List DiskWork
      rest = read_works begun

      -- what is owed
      abbrev owed : List DiskWork
      owed = owed_works (owed_in begun) setup

      works-are : works_of s input now ≡ reserves (is_reserving s) ++ (owed ++ rest)
      works-are =
          ap (λ (w : Went EquipmentView Happening). reserve_works s ++ works_behind w) is
          ∙ ap (λ (keep : List DiskWork). reserve_works s ++ (map Change (owed_in begun) ++ keep ++ rest)) keeps

      -- what is noted where the disk fails at a work
      abbrev fronts : List (List Happening)
      fronts = fronts_of [] (reserves (is_reserving s) ++ (owed ++ rest)) (step_in begun).notes

      stops-are : stops s input now ≡ fronts ++ unserved begun
      stops-are =
          ap
          (λ (works : List DiskWork).
          fronts_of [] works (step_in (begun_step s input now)).notes ++ unserved (begun_step s input now)) works-are
          ∙ ap (λ (w : Went EquipmentView Happening).
          fronts_of [] (reserves (is_reserving s) ++ (owed ++ rest)) (step_in w).notes ++ unserved w) is

      stop-at : (place : ℕ) (front : List Happening) → slice_get fronts place ≡ Some front
          → slice_get (stops s input now) place ≡ Some front
      stop-at place front is_there =
          ap (λ (all : List (List Happening)). slice_get all place) stops-are
          ∙ get-front fronts (unserved begun) place front is_there

      standing-is : (at : ℕ) → at ≤ length owed
          → left.standing_at s input now (place_of (is_reserving s) at)
          ≡ standings_behind (standing_in (opened s)) (take at owed)
      standing-is at within =
          ap (λ (works : List DiskWork). standings_behind (standing_in s) (take (place_of (is_reserving s) at) works))
          works-are
          ∙ placed-standing (is_reserving s) (standing_in s) (owed ++ rest) at
          ∙ ap (λ (st : Standing). standings_behind st (take at (owed ++ rest))) (opened-standing s went)
          ∙ ap (λ (works : List DiskWork). standings_behind (standing_in (opened s)) works)
          (take-append-le at owed rest within)

      grows : (front : List Happening) → IsFront front (step_in begun).notes
          → IsFront front (step_in (act s input now)).notes
      grows front first =
          front-both front (step_in begun).notes (step_in (act s input now)).notes first
          (subst
          (λ (w : Went EquipmentView Happening).
          IsFront (step_in begun).notes (step_in (and_then (settled_went w) (ended_step now))).notes)
          (sym is) (act-grows begun now))

      get-within : (works : List DiskWork) (at : ℕ) (one : DiskWork) → slice_get works at ≡ Some one → at ≤ length works
      get-within [] at one found = absurd (cc)
      get-within (first ∷ works) zero one found = omega arith
      get-within (first ∷ works) (suc at) one found =
          let less = get-within works at one found in omega (arith, less)

      -- the disk failed at a work
      pub work-failed :
          (g : GemSpool D) (new : Node OwnView Kind) (middle out : StepOut) (spent : Device D)
          → IsClear members g.spool (opened s) → IsTold (members.told g.spool.disk)
          → AreSized (standing_in (opened s)).next (opened s).file.list (owed_in begun)
          → middle.notes ≡ printed (step_in begun).notes → HasCut members g (owed_in begun) setup middle out spent
          → Acts members s input now new out (Err (ended.DiskFailed spent))
      work-failed g new middle out spent clear told sized begun_notes cut after notes quiet = (
        record {
          front = front;
          may = get-has (stops s input now) (place_of (is_reserving s) cut.at) front front-is;
          first = grows front (noted-front cut.at (step_in begun).notes);
          notes = noted;
          quiet = quiet;
        },
        λ t now_told.
            inl
            (record {
              place = place_of (is_reserving s) cut.at;
              work = stopped.one;
              is =
                  ap (λ (works : List DiskWork). slice_get works (place_of (is_reserving s) cut.at)) works-are
                  ∙ placed (is_reserving s) (owed ++ rest) cut.at
                  ∙ get-front owed rest cut.at stopped.one stopped.is;
              front = front;
              front_is = front-is;
              notes = noted;
              left =
                  subst (λ (st : Standing). EachImage (IsAmidWork st stopped.one) t.now)
                  (sym (standing-is cut.at (get-within owed cut.at stopped.one stopped.is)))
                  (stopped.amid t now_told);
            }),
      )
        where
          undone : Undone D
          undone = record { at = cut.at; spent = spent }

          stopped : HasStoppedAt members g (owed_in begun) (standing_in (opened s))
              clear.stands sized told.0 told.1 setup
              undone
          stopped =
              owed-amid members g (owed_in begun) (standing_in (opened s)) clear.stands sized told.0 told.1 setup undone
              cut.undone

          front : List Happening
          front = noted_to cut.at (step_in begun).notes

          front-is : slice_get (stops s input now) (place_of (is_reserving s) cut.at) ≡ Some front
          front-is =
              stop-at (place_of (is_reserving s) cut.at) front
              (placed-front (is_reserving s) (owed ++ rest) (step_in begun).notes cut.at
              ∙ owed-front (owed_in begun) setup rest [] (step_in begun).notes cut.at stopped.one stopped.is)

          noted : after.notes ≡ printed front
          noted =
              notes ∙ cut.notes ∙ ap (cut_at cut.at) begun_notes ∙ sym (cut-noted cut.at (step_in begun).notes)

      -- the works are done, and the setup is kept
      abbrev finished : EquipmentView → EquipmentView
      finished next = record (settled next) {
        file = option_map_or (λ bytes. with_kept bytes (settled next).file) setup (settled next).file;
      }

      kept-same : {A : Type 0} (f : SpoolFile → A) (file : SpoolFile)
          → ((bytes : List ℕ) → f (with_kept bytes file) ≡ f file) → (setup : Option (List ℕ))
          → f (option_map_or (λ bytes. with_kept bytes file) setup file) ≡ f file
      kept-same f file same None = refl
      kept-same f file same (Some bytes) = same bytes

      keep-standing : (next : EquipmentView) (setup : Option (List ℕ))
          → standings_behind (standing_in (settled next)) (keep_by setup)
          ≡ record {
            next = (standing_in (settled next)).next;
            file = option_map_or (λ bytes. with_kept bytes (settled next).file) setup (settled next).file;
          }
      keep-standing next None = refl
      keep-standing next (Some bytes) = refl

      module _ (g h : GemSpool D) (clear : IsClear members g.spool (opened s))
          (told : IsTold (members.told g.spool.disk))
          (counted : IsCounted members g.spool (step_in begun).next.node.own.ledger)
          (fit : WorksFit (step_in begun).next.node.own.ledger)
          (file : (step_in begun).next.file ≡ (opened s).file)
        where
          abbrev ledger : LedgerView
          ledger = (step_in begun).next.node.own.ledger

          count : count_in (standing_in (opened s)) ≡ stood_count ledger
          count = sym clear.stands.count ∙ counted.count

          sizes : map width (opened s).file.list ≡ ledger.stood.sizes
          sizes =
              sizes-stand members g.spool (standing_in (opened s)) ledger.stood.sizes clear.stands counted.sizes told.0
              told.1

          pub sized-owed : AreSized (standing_in (opened s)).next (opened s).file.list (owed_in begun)
          sized-owed = sized-of (standing_in (opened s)) ledger sizes fit

          changes-standing :
              standings_after (standing_in (opened s)) (owed_in begun) ≡ standing_in (settled (step_in begun).next)
          changes-standing =
              settled-standing (standing_in (opened s)) ledger count sizes fit
              ∙ ap (λ (f : SpoolFile). record { next = next_of ledger; file = settled_file ledger f }) (sym file)

          pub done-standing :
              standings_behind (standing_in (opened s)) owed ≡ standing_in (finished (step_in begun).next)
          done-standing =
              behind-owed (standing_in (opened s)) (owed_in begun) setup
              ∙ ap (λ (st : Standing). standings_behind st (keep_by setup)) changes-standing
              ∙ keep-standing (step_in begun).next setup

          module _ (area : is_some setup ≡ true → is_some (opened s).file.setup.bytes ≡ true) where
            pub done-clear :
                CarriesOwed members g (owed_in begun) setup (Ok h)
                → IsClear members h.spool (finished (step_in begun).next)
            done-clear carried = record {
              stands =
                  subst (λ (st : Standing). Stands members h.spool st) done-standing
                  (owed-stands members g (owed_in begun) (standing_in (opened s)) clear.stands sized-owed told.0 told.1
                  setup area h carried);
              owes = refl;
              sizes_are =
                  kept-same (λ (f : SpoolFile). map width f.list) (settled (step_in begun).next).file (λ bytes. refl) setup
                  ∙ ap (λ (f : SpoolFile). map width (settled_file ledger f).list) file
                  ∙ settled-sizes (standing_in (opened s)) ledger count sizes fit;
              slots_are =
                  kept-same (λ (f : SpoolFile). f.slots) (settled (step_in begun).next).file (λ bytes. refl) setup
                  ∙ settled-slots ledger (step_in begun).next.file
                  ∙ ap (λ (f : SpoolFile). f.slots) file
                  ∙ ap (λ (c : Count). c.slots) count;
              version_is =
                  kept-same (λ (f : SpoolFile). f.version) (settled (step_in begun).next).file (λ bytes. refl) setup
                  ∙ settled-version ledger (step_in begun).next.file
                  ∙ ap (λ (f : SpoolFile). f.version) file
                  ∙ clear.version_is;
            }

            pub still-told : CarriesOwed members g (owed_in begun) setup (Ok h) → IsTold (members.told h.spool.disk)
            still-told carried =
                let after = owed-told members g h (owed_in begun) setup carried told.0 told.1 in (after.0, after.1)

  -- a number was wanting before
  pub spent-before :
      (went : reserving s ≡ Goes (at_first (opened s))) (g h : GemSpool D) (node new : Node OwnView Kind)
      (middle out : StepOut) (spent : Device D) (begun : IsBegunSpent s input now node middle)
      → IsClear members g.spool (opened s) → IsTold (members.told g.spool.disk)
      → IsCounted members g.spool node.own.ledger → WorksFit node.own.ledger
      → CarriesOwed members g node.own.ledger.works None (Ok h) → spent.disk ≡ h.spool.disk → out.notes ≡ middle.notes
      → Acts members s input now new out (Err (ended.NumbersSpent spent))
  spent-before went g h node new middle out spent begun clear told counted fit carried same out_same after
      notes quiet = (
        record { step = settled_step begun.step; is = act-is; notes = notes ∙ out_same ∙ begun.notes; quiet = quiet },
        λ t now_told. subst (λ (w : Went EquipmentView Happening). left.Holds (standing_in (step_in w).next) t.now)
            (sym act-is)
            (kept-of members h.spool (standing_in (settled begun.step.next)) spent same
            (done-clear went (Spent begun.step) begun.is None refl g h clear told
            (subst (λ (l : LedgerView). IsCounted members g.spool l) (sym begun.ledger) counted)
            (subst WorksFit (sym begun.ledger) fit) begun.file (λ some. absurd (cc))
            (subst (λ (l : LedgerView). CarriesOwed members g l.works None (Ok h)) (sym begun.ledger) carried)).stands t
            now_told),
      )
    where
      act-is : act s input now ≡ Spent (settled_step begun.step)
      act-is =
          ap (λ (w : Went EquipmentView Happening). and_then (settled_went w) (ended_step now)) begun.is

  -- ---- the last parts

  pub takes-settled : (next : EquipmentView) → takes_up (settled next).node.own ≡ takes_up next.node.own
  takes-settled next = go next.node.own.ledger.unload
    where
      most : ℕ
      most = most_transmitted next.node.own.tables

      go : (unload : Option Unload)
          → is_some (number_next most (carried_out next.node.own.ledger) unload)
          ≡ is_some (number_next most next.node.own.ledger unload)
      go None = refl
      go (Some unload) = refl

  -- what is kept in it has an area, if the setup had one before
  pub area-kept :
      (node : Node OwnView Kind) (out : StepOut) → IsBegun s input now node out
      → is_some s.node.own.setup ≡ is_some (opened s).file.setup.bytes → is_some (to_keep node.own) ≡ true
      → is_some (opened s).file.setup.bytes ≡ true
  area-kept node out begun area some =
      sym area ∙ sym (area-begun s input now begun.step begun.is)
      ∙ ap (λ (n : Node OwnView Kind). is_some n.own.setup) begun.node_is
      ∙ kept-some node.own.owed node.own.setup some
    where
      kept-some : (owed : Option Owed) (setup : Option (List Entry)) → is_some (bytes_to_keep owed setup) ≡ true
          → is_some setup ≡ true
      kept-some None setup some = absurd (cc)
      kept-some (Some (Recipes asked primary)) setup some = absurd (cc)
      kept-some (Some (Answered given primary)) setup some = absurd (cc)
      kept-some (Some (KeepPrimary primary)) None some = absurd (cc)
      kept-some (Some (KeepPrimary primary)) (Some list) some = refl

  pub keeps-by : (setup : Option (List ℕ)) → option_map_or (λ bytes. Keep bytes ∷ []) setup [] ≡ keep_by setup
  keeps-by None = refl
  keeps-by (Some bytes) = refl

  -- what was begun goes on: what it keeps, and what the list is by then
  module _ (went : reserving s ≡ Goes (at_first (opened s))) (g : GemSpool D) (node : Node OwnView Kind)
      (middle : StepOut) (begun : IsBegun s input now node middle) (clear : IsClear members g.spool (opened s))
      (told : IsTold (members.told g.spool.disk)) (counted : IsCounted members g.spool node.own.ledger)
      (fit : WorksFit node.own.ledger) where
    keeps : keep_works (Goes begun.step) ≡ keep_by (to_keep begun.step.next.node.own)
    keeps = keeps-by (to_keep begun.step.next.node.own)

    ledger-is : node.own.ledger ≡ begun.step.next.node.own.ledger
    ledger-is = ap (λ (n : Node OwnView Kind). n.own.ledger) (sym begun.node_is)

    counted-is : IsCounted members g.spool begun.step.next.node.own.ledger
    counted-is = subst (λ (l : LedgerView). IsCounted members g.spool l) ledger-is counted

    fit-is : WorksFit begun.step.next.node.own.ledger
    fit-is = subst WorksFit ledger-is fit

    pub ends-acts : (new : Node OwnView Kind) (out : StepOut) (result : Result (GemSpool D) (Ended D))
        → EndsSo members now (kept_step (settled_step begun.step)) new out result
        → Acts members s input now new out result
    ends-acts new out result ends = go result ends
      where
        all : List DiskWork
        all = owed_works begun.step.next.node.own.ledger.works (to_keep begun.step.next.node.own)

        act-is : act s input now ≡ ended_step now (served_step (kept_step (settled_step begun.step)))
        act-is =
            ap (λ (w : Went EquipmentView Happening). and_then (settled_went w) (ended_step now)) begun.is

        oldest : ℕ
        oldest = oldest_size begun.step.next.node.own.ledger.sizes

        standing : standings_behind (standing_in (opened s)) all ≡ standing_in (kept_view (settled begun.step.next))
        standing =
            done-standing went (Goes begun.step) begun.is (to_keep begun.step.next.node.own) keeps g g clear told
            counted-is fit-is begun.file

        at-end :
            left.standing_at s input now (place_of (is_reserving s) (length all))
            ≡ standing_in (kept_view (settled begun.step.next))
        at-end =
            standing-is went (Goes begun.step) begun.is (to_keep begun.step.next.node.own) keeps (length all) (omega arith)
            ∙ ap (λ (ws : List DiskWork). standings_behind (standing_in (opened s)) ws) (take-all all)
            ∙ standing

        go : (result : Result (GemSpool D) (Ended D))
            → EndsSo members now (kept_step (settled_step begun.step)) new out result
            → Acts members s input now new out result
        go (Ok h) ends = record { step = ends.step; is = act-is ∙ ends.is; at = ends.at }
        go (Err (ended.NumbersSpent spent)) ends = λ after notes quiet. (
          record { step = ends.step; is = act-is ∙ ends.is; notes = notes ∙ ends.notes; quiet = quiet },
          λ t told. subst (λ (w : Went EquipmentView Happening). left.Holds (standing_in (step_in w).next) t.now)
              (sym (act-is ∙ ends.is)) (ends.keeps t told),
        )
        go (Err (ended.DiskFailed spent)) (inl took, noted, held) = λ after notes quiet. (
          record {
            front = begun.step.notes;
            may = get-has (stops s input now) (place_of (is_reserving s) (length all)) begun.step.notes front-is;
            first =
                grows went (Goes begun.step) begun.is (to_keep begun.step.next.node.own) keeps begun.step.notes
                (front-same begun.step.notes);
            notes = notes ∙ noted;
            quiet = quiet;
          },
          λ t told.
              inl
              (record {
                place = place_of (is_reserving s) (length all);
                work = ReadOldest oldest;
                is =
                    ap (λ (works : List DiskWork). slice_get works (place_of (is_reserving s) (length all)))
                    (works-are went (Goes begun.step) begun.is (to_keep begun.step.next.node.own) keeps)
                    ∙ placed (is_reserving s) (all ++ read_works (Goes begun.step)) (length all)
                    ∙ get-behind all (read_works (Goes begun.step))
                    ∙ ap (λ (works : List DiskWork). slice_get works 0) reads;
                front = begun.step.notes;
                front_is = front-is;
                notes = notes ∙ noted;
                left =
                    λ image at.
                    inl
                    (subst (λ (st : Standing). EachImage (λ image. StandsFor image st.file) t.now) (sym at-end)
                    (held t told) image at);
              }),
        )
          where
            reads : read_works (Goes begun.step) ≡ ReadOldest oldest ∷ []
            reads =
                ap (λ (b : Bool). if b then ReadOldest oldest ∷ [] else []) (sym (takes-settled begun.step.next) ∙ took)

            front-is : slice_get (stops s input now) (place_of (is_reserving s) (length all)) ≡ Some begun.step.notes
            front-is =
                stop-at went (Goes begun.step) begun.is (to_keep begun.step.next.node.own) keeps
                (place_of (is_reserving s) (length all)) begun.step.notes
                (placed-front (is_reserving s) (all ++ read_works (Goes begun.step)) begun.step.notes (length all)
                ∙ ap (λ (works : List DiskWork). slice_get (fronts_of [] (all ++ works) begun.step.notes) (length all)) reads
                ∙ read-front all oldest [] begun.step.notes)
        go (Err (ended.DiskFailed spent)) (inr owes, noted, held) = λ after notes quiet. (
          record {
            front = begun.step.notes;
            may =
                subst (λ (fronts : List (List Happening)). Has fronts begun.step.notes) (sym stops-so)
                (has-back
                (fronts_of [] (reserves (is_reserving s) ++ (all ++ read_works (Goes begun.step))) begun.step.notes)
                (begun.step.notes ∷ []) begun.step.notes (inl refl));
            first =
                grows went (Goes begun.step) begun.is (to_keep begun.step.next.node.own) keeps begun.step.notes
                (front-same begun.step.notes);
            notes = notes ∙ noted;
            quiet = quiet;
          },
          λ t told.
              inr
              (record {
                front = begun.step.notes;
                is = ap unserved begun.is ∙ unserved-is;
                notes = notes ∙ noted;
                left = subst (λ (st : Standing). left.Holds st t.now) (sym at-last) (held t told);
              }),
        )
          where
            unserved-is : unserved (Goes begun.step) ≡ begun.step.notes ∷ []
            unserved-is = ap (λ (b : Bool). if b then begun.step.notes ∷ [] else []) owes

            stops-so :
                stops s input now
                ≡ fronts_of [] (reserves (is_reserving s) ++ (all ++ read_works (Goes begun.step))) begun.step.notes
                ++ begun.step.notes ∷ []
            stops-so =
                stops-are went (Goes begun.step) begun.is (to_keep begun.step.next.node.own) keeps
                ∙ ap (λ (more : List (List Happening)).
                fronts_of [] (reserves (is_reserving s) ++ (all ++ read_works (Goes begun.step))) begun.step.notes
                ++ more) unserved-is

            works : List DiskWork
            works = works_of s input now

            reads-still : (st : Standing) → standings_behind st (read_works (Goes begun.step)) ≡ st
            reads-still st = by_taking (takes_up begun.step.next.node.own)
              where
                by_taking : (takes : Bool)
                    → standings_behind st
                    (if takes then ReadOldest (oldest_size begun.step.next.node.own.ledger.sizes) ∷ [] else [])
                    ≡ st
                by_taking true = refl
                by_taking false = refl

            at-last :
                left.standing_at s input now (length works) ≡ standing_in (kept_view (settled begun.step.next))
            at-last =
                ap (λ (ws : List DiskWork). standings_behind (standing_in s) ws) (take-all works)
                ∙ ap (λ (ws : List DiskWork). standings_behind (standing_in s) ws)
                (works-are went (Goes begun.step) begun.is (to_keep begun.step.next.node.own) keeps)
                ∙ placed-whole (is_reserving s) (standing_in s) (all ++ read_works (Goes begun.step))
                ∙ ap (λ (st : Standing). standings_behind st (all ++ read_works (Goes begun.step)))
                (opened-standing s went)
                ∙ behind-both (standing_in (opened s)) all (read_works (Goes begun.step))
                ∙ reads-still (standings_behind (standing_in (opened s)) all)
                ∙ standing
        go (Err (ended.NoMemory spent)) ends = λ after notes quiet. (
          quiet,
          λ t told. record {
            place = place_of (is_reserving s) (length all);
            left = subst (λ (st : Standing). left.Holds st t.now) (sym at-end) (ends t told);
          },
        )

    -- the works are done, and the last parts begin
    pub at-settled : (h : GemSpool D) (after : Node OwnView Kind) (out : StepOut)
        → (is_some (to_keep node.own) ≡ true → is_some (opened s).file.setup.bytes ≡ true)
        → CarriesOwed members g node.own.ledger.works (to_keep node.own) (Ok h) → after ≡ settled_node node
        → out ≡ middle
        → IsAt members (kept_step (settled_step begun.step)) after out h
    at-settled h after out area carried after_is same = record {
      node_is = after_is ∙ ap settled_node (sym begun.node_is);
      clear =
          done-clear went (Goes begun.step) begun.is (to_keep begun.step.next.node.own) keeps g h clear told counted-is
          fit-is begun.file area-is carried-is;
      told =
          still-told went (Goes begun.step) begun.is (to_keep begun.step.next.node.own) keeps g h clear told counted-is
          fit-is begun.file area-is carried-is;
      notes = ap (λ (o : StepOut). o.notes) same ∙ begun.notes;
      written = ap (λ (o : StepOut). o.line.items) same ∙ begun.written;
    }
      where
        carried-is : CarriesOwed members g begun.step.next.node.own.ledger.works (to_keep begun.step.next.node.own)
            (Ok h)
        carried-is =
            subst (λ (n : Node OwnView Kind). CarriesOwed members g n.own.ledger.works (to_keep n.own) (Ok h))
            (sym begun.node_is) carried

        area-is : is_some (to_keep begun.step.next.node.own) ≡ true → is_some (opened s).file.setup.bytes ≡ true
        area-is =
            subst (λ (n : Node OwnView Kind).
            is_some (to_keep n.own) ≡ true → is_some (opened s).file.setup.bytes ≡ true) (sym begun.node_is) area

    -- the disk failed at a work of it
    pub cut-acts : (new : Node OwnView Kind) (out : StepOut) (spent : Device D)
        → HasCut members g node.own.ledger.works (to_keep node.own) middle out spent
        → Acts members s input now new out (Err (ended.DiskFailed spent))
    cut-acts new out spent cut =
        work-failed went (Goes begun.step) begun.is (to_keep begun.step.next.node.own) keeps g new middle out spent clear
        told
        (sized-owed went (Goes begun.step) begun.is (to_keep begun.step.next.node.own) keeps g g clear told counted-is
        fit-is begun.file) begun.notes
        (subst (λ (n : Node OwnView Kind). HasCut members g n.own.ledger.works (to_keep n.own) middle out spent)
        (sym begun.node_is) cut)

    pub carry-failed : (new : Node OwnView Kind) (out : StepOut) (end : Ended D)
        → Carries members g node.own.ledger.works (to_keep node.own) middle out (Err end)
        → Acts members s input now new out (Err end)
    carry-failed new out (ended.DiskFailed spent) cut = cut-acts new out spent cut
    carry-failed new out (ended.NumbersSpent spent) cut = absurd cut
    carry-failed new out (ended.NoMemory spent) cut = absurd cut

  -- and where a number was wanting
  module _ (went : reserving s ≡ Goes (at_first (opened s))) (g : GemSpool D) (node : Node OwnView Kind)
      (middle : StepOut) (begun : IsBegunSpent s input now node middle) (clear : IsClear members g.spool (opened s))
      (told : IsTold (members.told g.spool.disk)) (counted : IsCounted members g.spool node.own.ledger)
      (fit : WorksFit node.own.ledger) where
    pub cut-spent : (new : Node OwnView Kind) (out : StepOut) (spent : Device D)
        → HasCut members g node.own.ledger.works None middle out spent
        → Acts members s input now new out (Err (ended.DiskFailed spent))
    cut-spent new out spent cut =
        work-failed went (Spent begun.step) begun.is None refl g new middle out spent clear told
        (sized-owed went (Spent begun.step) begun.is None refl g g clear told
        (subst (λ (l : LedgerView). IsCounted members g.spool l) (sym begun.ledger) counted)
        (subst WorksFit (sym begun.ledger) fit) begun.file) begun.notes
        (subst (λ (l : LedgerView). HasCut members g l.works None middle out spent) (sym begun.ledger) cut)

    pub carry-spent-failed : (new : Node OwnView Kind) (out : StepOut) (end : Ended D)
        → Carries members g node.own.ledger.works None middle out (Err end)
        → Acts members s input now new out (Err end)
    carry-spent-failed new out (ended.DiskFailed spent) cut = cut-spent new out spent cut
    carry-spent-failed new out (ended.NumbersSpent spent) cut = absurd cut
    carry-spent-failed new out (ended.NoMemory spent) cut = absurd cut
