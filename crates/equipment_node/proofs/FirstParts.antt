-- That the parts before the works come to what a step has begun.
use Rattle.std.proofs.Common.{◌≡◌, refl, sym, ap, subst, ◌∙◌, ℕ, List, [], Some}
use Rattle.std.specs.Prelude.{Err}
use Rattle.disk_base.specs.declared.disk.Disk as disk
use Rattle.gem_spool.specs.declared.spool.GemSpool.{GemSpool}
use Rattle.message_flow.specs.declared.step.Note.{Note}
use Rattle.message_flow.specs.declared.step.StepOut.{StepOut}
use Rattle.trace_log.specs.declared.commands.ToolCommand.{ToolCommand}
use Rattle.trace_log.specs.Log.{Happening}
use Rattle.trace_log.specs.Text.{printed_note}
use Rattle.message_end.specs.declared.end.Stop.{Stop}
use Rattle.message_end.specs.declared.end.Stop.TheVariants as stop
use Rattle.message_end.specs.Core.{Step, Went, and_then, at_first, step_in}
use Rattle.message_end.specs.Core.Went.{Goes, Spent}
use Rattle.message_end.specs.Ends.{Input, IsEmpty}
use Rattle.message_end.specs.Laws.{read_as, went_as}
use Rattle.message_end.specs.Parts.{Node, after_parts, on_the_way}
use Rattle.message_end.proofs.Leaving.{read-parts}
use Rattle.spool_slots.specs.Spool.{SpoolView}
use Rattle.spool_ledger.specs.Ledger.{LedgerView}
use Rattle.tool_step.specs.declared.kind.Kind.{Kind}
use Rattle.tool_law.proofs.Offers.{IsOffered, first-offered, offered-after}
use Rattle.equipment_node.proofs.Opened.{opened-recipes}
use Rattle.equipment_node.specs.Amid.{HasOpened, IsBegun, IsCounted, IsReady, IsSoundOwn, StopsAt, opened}
use Rattle.tool_core.specs.Calls.{IsReached, IsSpent}
use Rattle.tool_step.specs.Equipment.{EquipmentView, begun_step, file_step, parts_done, went_with_file}
use Rattle.tool_law.proofs.Lawful.{first-sound, parts-sound}
use Rattle.tool_law.proofs.MildCommands.{sound-self}
use Rattle.tool_step.specs.Own.{OwnView, ToolPart}
use Rattle.tool_law.specs.Sound.{IsSound}
use Rattle.tool_step.specs.Step.{first_parts}
use Rattle.equipment_node.proofs.Sizing.{counted-as}

same-step : {S : Type 0} {a b : Step S Note} → Goes a ≡ Goes b → a ≡ b
same-step same = cc

same-spent : {S : Type 0} {a b : Step S Note} → Spent a ≡ Spent b → a ≡ b
same-spent same = cc

module _ (input : Input ToolCommand) (now : ℕ) (old mid : Node OwnView Kind) (out middle : StepOut)
    (empty : IsEmpty out)
    (sound : IsSoundOwn old.own)
  where
    abbrev parts : List ToolPart
    parts = first_parts input now

    abbrev pub code_went : Went (Node OwnView Kind) Note
    code_went = after_parts printed_note parts (on_the_way old out)

    abbrev went : Went (Node OwnView Kind) Happening
    went = after_parts Some parts (at_first old)

    start : on_the_way old out ≡ read_as printed_note (at_first old)
    start =
        ap (λ (notes : List Note). record { next = old; notes = notes; written = out.line.items }) empty.notes
        ∙ ap (λ (written : List ℕ). record { next = old; notes = []; written = written }) empty.line

    read : code_went ≡ went_as printed_note went
    read =
        ap (after_parts printed_note parts) start
        ∙ read-parts {S = OwnView} {K = Kind} {N = Note} printed_note parts (at_first old)

    -- ---- what is kept

    -- it is sound over what the disk has
    kept : IsSound sound.plan old.own.ledger.slots old.own.ledger.stood (step_in code_went).next.own
    kept =
        parts-sound sound.plan sound.fits old.own.ledger.slots old.own.ledger.stood printed_note parts
        (on_the_way old out)
        (first-sound sound.plan sound.fits old.own.ledger.slots old.own.ledger.stood input now) sound.sound

    pub first-ready :
        {D : Type 0} (members : disk.Ghosts D) (v : SpoolView D) → IsReady members v old
        → code_went ≡ Goes (on_the_way mid middle) → IsReady members v mid
    first-ready members v ready done =
        let is =
        subst
        (λ (w : Went (Node OwnView Kind) Note).
        IsSound sound.plan old.own.ledger.slots old.own.ledger.stood (step_in w).next.own)
        done kept in
        record {
          counted =
              counted-as members v old.own.ledger mid.own.ledger ready.counted is.ledger.slots_are is.ledger.stood_is;
          holds = ready.holds;
          sound = record {
            plan = sound.plan;
            fits = sound.fits;
            sound = sound-self sound.plan old.own.ledger.slots old.own.ledger.stood mid.own is;
          };
        }

    -- what a host is offered stays
    pub first-offers : code_went ≡ Goes (on_the_way mid middle) → IsOffered old.own mid.own
    first-offers done =
        subst (λ (w : Went (Node OwnView Kind) Note). IsOffered old.own (step_in w).next.own) done
        (offered-after printed_note parts (first-offered input now) (on_the_way old out))

    -- also where a number was wanting
    pub spent-counted :
        {D : Type 0} (members : disk.Ghosts D) (v : SpoolView D) → IsReady members v old → (end : Stop)
        → IsReached {A = Unit {0}} code_went mid middle (Err end) → end ≡ stop.NumbersSpent
        → IsCounted members v mid.own.ledger
    spent-counted members v ready end reached same =
        go (subst (λ (e : Stop). IsReached {A = Unit {0}} code_went mid middle (Err e)) same reached)
      where
        go : IsSpent code_went mid middle → IsCounted members v mid.own.ledger
        go spent =
            let is =
            subst
            (λ (w : Went (Node OwnView Kind) Note).
            IsSound sound.plan old.own.ledger.slots old.own.ledger.stood (step_in w).next.own)
            spent.is kept in
            subst (λ (ledger : LedgerView). IsCounted members v ledger) spent.ledger
            (counted-as members v old.own.ledger spent.own.ledger ready.counted is.ledger.slots_are is.ledger.stood_is)

    -- a step of the definition that comes to what the code has at NumbersSpent
    record IsReadSpent : Type 0 where
      pub step : Step (Node OwnView Kind) Happening
      pub is : went ≡ Spent step
      pub ledger : step.next.own.ledger ≡ mid.own.ledger
      pub notes : middle.notes ≡ (read_as {N = Note} printed_note step).notes

    spent-read : IsSpent code_went mid middle → IsReadSpent
    spent-read spent = go went refl (sym read ∙ spent.is)
      where
        go : (w : Went (Node OwnView Kind) Happening) → went ≡ w
            → went_as printed_note w ≡ Spent (on_the_way (record mid { own = spent.own }) middle) → IsReadSpent
        go (Goes step) is whole = absurd (cc)
        go (Spent step) is whole = record {
          step = step;
          is = is;
          ledger = ap (λ (x : Step (Node OwnView Kind) Note). x.next.own.ledger) (same-spent whole) ∙ spent.ledger;
          notes = sym (ap (λ (x : Step (Node OwnView Kind) Note). x.notes) (same-spent whole));
        }

    -- ---- what was begun

    module _ {D : Type 0} (members : disk.Ghosts D) (s : EquipmentView) (g : GemSpool D)
        (begin : HasOpened members s old g)
      where
        begins : begun_step s input now ≡ went_with_file (opened s) went
        begins =
            ap (λ (w : Went EquipmentView Happening). and_then w (parts_done parts)) begin.went
            ∙ ap (λ (node : Node OwnView Kind). went_with_file (opened s) (after_parts Some parts (at_first node)))
            (sym begin.node_is)

        pub begun-of : code_went ≡ Goes (on_the_way mid middle) → IsBegun s input now mid middle
        begun-of done = go went refl (sym read ∙ done)
          where
            go : (w : Went (Node OwnView Kind) Happening) → went ≡ w
                → went_as printed_note w ≡ Goes (on_the_way mid middle) → IsBegun s input now mid middle
            go (Goes step) is whole = record {
              step = file_step (opened s) step;
              is = begins ∙ ap (went_with_file (opened s)) is;
              node_is = ap (λ (x : Step (Node OwnView Kind) Note). x.next) (same-step whole);
              file = refl;
              recipes = opened-recipes members s;
              notes = sym (ap (λ (x : Step (Node OwnView Kind) Note). x.notes) (same-step whole));
              written = sym (ap (λ (x : Step (Node OwnView Kind) Note). x.written) (same-step whole));
            }
            go (Spent step) is whole = absurd (cc)

        pub stops-of :
            (end : Stop) → IsReached {A = Unit {0}} code_went mid middle (Err end)
            → StopsAt s input now mid middle end
        stops-of stop.NumbersSpent reached =
            let is = spent-read reached in
            record {
              step = file_step (opened s) is.step;
              is = begins ∙ ap (went_with_file (opened s)) is.is;
              ledger = is.ledger;
              file = refl;
              notes = is.notes;
            }
        stops-of stop.Full reached = reached
        stops-of stop.DiskFailed reached = reached
        stops-of stop.NoMemory reached = tt
