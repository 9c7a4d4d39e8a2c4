-- The halves of a step keep the law, and what is kept sound.
use Rattle.std.proofs.Common.{◌≡◌, refl, sym, ap, subst, ◌∙◌, ℕ, List, [], ◌∷◌, ◌++◌, append_assoc, replicate, Option, Some, None}
use Rattle.std.specs.Option.{option_map}
use Rattle.std.specs.Prelude.{IfSome, slice_get}
use Rattle.std.proofs.lemmas.List.Elements.{All-head}
use Rattle.gem_states.specs.declared.comms.CommsIn.TheVariants as comms_in
use Rattle.trace_log.specs.Commands.{ToolCommandFits}
use Rattle.trace_log.specs.Log.{Happening}
use Rattle.trace_log.specs.Names.{Spooled}
use Rattle.trace_log.specs.declared.commands.ToolCommand.{ToolCommand}
use Rattle.message_end.specs.Calls.{dropped_now, failed_at, took_at}
use Rattle.line_end.specs.Step.{LineCall}
use Rattle.message_end.specs.Core.{Step, Went, step_in}
use Rattle.message_end.specs.Core.Went.{Goes, Spent}
use Rattle.message_end.specs.Core.Command.{Take, Tick}
use Rattle.message_end.specs.Doings.{Doing}
use Rattle.message_end.specs.Doings.Doing.{Says}
use Rattle.message_end.specs.Ends.{AreBegunOf, AreOfStep, DoesMore, DoesStep, Input, MayTake}
use Rattle.message_end.specs.Ends.Input.{Char, Command as Told, Time}
use Rattle.message_end.specs.Parts.{Node, after_parts, after_turn, closes, core_after, core_step, with_own}
use Rattle.message_end.specs.InStep.{EndsOnce, HasNoEnd}
use Rattle.message_end.proofs.InSteps.{history-ends}
use Rattle.message_end.proofs.Parts.{OnEither, either-less, either-then}
use Rattle.message_end.proofs.PartsKept.{begun-none, step_ended}
use Rattle.message_end.specs.History.{noted_in, written_in}
use Rattle.tool_step.specs.declared.kind.Kind.{Kind}
use Rattle.equipment_tables.specs.declared.plan.EquipmentPlan.{EquipmentPlan}
use Rattle.tool_step.specs.Own.{OwnView, ToolPart, ToolTurn, quiet_turn, with_ledger, with_tried}
use Rattle.equipment_tables.specs.Plan.{EquipmentPlanFits}
use Rattle.tool_step.specs.Replies.{block_timer, given_up_by_t4, reply_timer}
use Rattle.tool_law.specs.Sound.{AllCanBeSent, CanBeSent, IsHeld, IsSound}
use Rattle.tool_step.specs.Spooling.{end_of_spooling, taking_turn, unload_part, waiting_text}
use Rattle.tool_law.proofs.SpoolSound.{taken-good}
use Rattle.tool_step.specs.Equipment.{EquipmentView, ended_step, file_step, node_step, oldest_of, parts_done, went_with_file}
use Rattle.spool_works.specs.Found.{spooled_of}
use Rattle.tool_law.specs.Laws.{DidOf}
use Rattle.tool_step.specs.Sampling.{made_part, sample_parts, sampling}
use Rattle.tool_step.specs.Step.{answering, beginning, delay_timer, end_plan, failed_turn, first_parts, input_part, last_parts, late_parts, line_timer, offer, took_turn}
use Rattle.equipment_tables.specs.Tables.{most_transmitted}
use Rattle.spool_ledger.specs.Ledger.{Numbered}
use Rattle.spool_ledger.specs.Unloading.{after_next, next_number as next_unloaded, taken_up}
use Rattle.spool_file.specs.Slot.{Message as Kept}
use Rattle.tool_law.specs.Tried.{AreInTurn, newest_of}
use Rattle.tool_law.proofs.Areas.{AllKeepArea, HasAsFile, area-after, last-area}
use Rattle.tool_law.proofs.TriedParts.{AllKeep, NodeTried, SomeTried, all-both, all-many, calls-less, drop-keeps, led-at, mild-keeps, offer-keeps, parts-then, taking-at, turn-at}
use Rattle.tool_law.proofs.TriedCourse.{take-at, tick-at}
use Rattle.tool_step.specs.Tool.{told_turn}
use Rattle.tool_law.proofs.MildCommands.{sound-self}
use Rattle.tool_law.proofs.QuietTurns.{nothing-quiet, comms-quiet}
use Rattle.tool_law.proofs.QuietMessages.{answering-quiet, by-t4-quiet, out-quiet, waiting-is, next-held, ended-quiet}
use Rattle.tool_law.proofs.QuietSamples.{made-quiet, sampling-quiet}
use Rattle.tool_law.proofs.QuietCommands.{failed-is-quiet, took-quiet, told-quiet, beginning-quiet, t3-quiet}

-- ---- the halves of a step

-- what is kept beside the core, with these tries
abbrev pub HeldAt : EquipmentPlan → ℕ → Numbered → List ℕ → OwnView → Type 0
HeldAt plan slots stood tries own = IsHeld plan slots stood (λ tried. tried ≡ newest_of tries) own

held-sound : (plan : EquipmentPlan) (slots : ℕ) (stood : Numbered) (tries : List ℕ) (own : OwnView)
    → HeldAt plan slots stood tries own → IsSound plan slots stood own
held-sound plan slots stood tries own held =
    record {
      plan_is = held.plan_is;
      texts = held.texts;
      traced = held.traced;
      reports = held.reports;
      ledger = held.ledger;
    }

-- the calls of a step so far
abbrev pub AreNone : List LineCall → Type 0
AreNone made = made ≡ []

abbrev AreTicked : ℕ → List LineCall → Type 0
AreTicked now made = made ≡ LineCall.Tick now ∷ []

begun-ticked :
    (input : Input ToolCommand) (now : ℕ) (made : List LineCall) → AreTicked now made → AreBegunOf input now made
begun-ticked (Char byte) now made ticked = record {
  later = LineCall.Take byte now ∷ [];
  whole = record {
    decided = [];
    are = ap (λ (cs : List LineCall). LineCall.Take byte now ∷ cs) ticked;
    decisions = tt;
  };
}
begun-ticked Time now made ticked =
    record { later = []; whole = record { decided = []; are = ticked; decisions = tt } }
begun-ticked (Told command) now made ticked =
    record { later = []; whole = record { decided = []; are = ticked; decisions = tt } }

begun-stepped :
    (input : Input ToolCommand) (now : ℕ) (made : List LineCall) → AreOfStep input now made → AreBegunOf input now made
begun-stepped input now made of_step = record { later = []; whole = of_step }

module _ (plan : EquipmentPlan) (base : ℕ) (fits : EquipmentPlanFits plan) (slots : ℕ) (stood : Numbered) where
  -- with the numbers that end here
  module _ (doings : List Doing) (now limit : ℕ) (input : Input ToolCommand) where
    abbrev ToolStep : Type 0
    ToolStep = Step (Node OwnView Kind) Happening

    abbrev ToolWent : Type 0
    ToolWent = Went (Node OwnView Kind) Happening

    abbrev pub At : List ℕ → (List LineCall → Type 0) → ToolStep → Type 0
    At tries Called step = NodeTried (end_plan plan) base fits.line doings now limit (HeldAt plan slots stood) tries
        Called step

    abbrev SomeAt : (List LineCall → Type 0) → ToolStep → Type 0
    SomeAt Called step = SomeTried (end_plan plan) base fits.line doings now limit (HeldAt plan slots stood) Called step

    abbrev HasStepped : ToolStep → Type 0
    HasStepped step = SomeAt (AreOfStep input now) step

    abbrev HasBegun : ToolStep → Type 0
    HasBegun step = SomeAt (AreBegunOf input now) step

    abbrev TriedIs : List ℕ → Option ℕ → Type 0
    TriedIs tries tried = tried ≡ newest_of tries

    some-at : (tries : List ℕ) (Called : List LineCall → Type 0) (step : ToolStep) → At tries Called step
        → SomeAt Called step
    some-at tries Called step at = record { tries = tries; at = at }

    pub some-less :
        (tries : List ℕ) (Called Other : List LineCall → Type 0) (step : ToolStep)
        → ((made : List LineCall) → Called made → Other made) → At tries Called step → SomeAt Other step
    some-less tries Called Other step such at =
        some-at tries Other step
        (calls-less (end_plan plan) base fits.line doings now limit (HeldAt plan slots stood) tries Called Other step
        such at)

    -- what a turn of an input comes to
    input-turn :
        (tries : List ℕ) (i : Input ToolCommand) (step : ToolStep) → MayTake ToolCommandFits i
        → At tries (AreTicked now) step
        → OnEither (At tries (AreOfStep i now)) (At tries (AreOfStep i now))
        (after_turn Some (input_part i now step.next.own step.next.core) step)
    input-turn tries (Char byte) step may at =
        led-at (end_plan plan) base fits.line doings now limit (HeldAt plan slots stood) tries
        (AreOfStep (Char byte) now)
        (Take byte now)
        (took_turn now (took_at step.next.core byte now) step.next.own (core_after (Take byte now) step.next.core)) step
        (take-at (end_plan plan) base fits.line doings now limit tries (AreTicked now) (AreOfStep (Char byte) now) byte
        (core_step step) at.core may
        (λ decided are. record {
          decided = decided;
          are = ap (λ (cs : List LineCall). decided ++ LineCall.Take byte now ∷ cs) at.core.called;
          decisions = are;
        }))
        (took-quiet plan (TriedIs tries) fits slots stood now (took_at step.next.core byte now) step.next.own
        (core_after (Take byte now) step.next.core) at.held)
    input-turn tries Time step may at =
        turn-at (end_plan plan) base fits.line doings now limit (HeldAt plan slots stood) tries (AreOfStep Time now)
        (quiet_turn step.next.own) step (nothing-quiet plan (TriedIs tries) fits slots stood step.next.own at.held)
        (calls-less (end_plan plan) base fits.line doings now limit (HeldAt plan slots stood) tries (AreTicked now)
        (AreOfStep Time now) step (λ made ticked. record { decided = []; are = ticked; decisions = tt }) at)
    input-turn tries (Told command) step may at =
        turn-at (end_plan plan) base fits.line doings now limit (HeldAt plan slots stood) tries
        (AreOfStep (Told command) now)
        (told_turn command now step.next.own step.next.core) step
        (told-quiet plan (TriedIs tries) fits slots stood command now step.next.own step.next.core at.held)
        (calls-less (end_plan plan) base fits.line doings now limit (HeldAt plan slots stood) tries (AreTicked now)
        (AreOfStep (Told command) now) step (λ made ticked. record { decided = []; are = ticked; decisions = tt }) at)

    input-at : (tries : List ℕ) (step : ToolStep) → MayTake ToolCommandFits input → At tries (AreTicked now) step
        → OnEither HasStepped HasBegun (after_parts Some (input_part input now ∷ []) step)
    input-at tries step may at =
        either-then HasStepped HasBegun HasStepped (after_turn Some turn step) (after_parts Some [])
        (either-less (At tries (AreOfStep input now)) (At tries (AreOfStep input now)) HasStepped HasBegun
        (after_turn Some turn step) (input-turn tries input step may at)
        (λ last so. some-at tries (AreOfStep input now) last so)
        (λ last so.
        some-less tries (AreOfStep input now) (AreBegunOf input now) last (begun-stepped input now) so))
        (λ last so. so)
      where
        turn : ToolTurn
        turn = input_part input now step.next.own step.next.core

    -- T4 and T3, and the delay
    late-keep : (tries : List ℕ)
        → AllKeep (end_plan plan) base fits.line doings now limit (HeldAt plan slots stood) tries (AreTicked now)
        (late_parts now ++ delay_timer now ∷ sample_parts now)
    unfolding late_parts sample_parts
    late-keep tries =
        all-both (end_plan plan) base fits.line doings now limit (HeldAt plan slots stood) tries (AreTicked now)
        (replicate 16 (block_timer now) ++ replicate 64 (reply_timer now))
        (delay_timer now ∷ sampling now ∷ replicate 16 made_part)
        (all-both (end_plan plan) base fits.line doings now limit (HeldAt plan slots stood) tries (AreTicked now)
        (replicate 16 (block_timer now)) (replicate 64 (reply_timer now))
        (all-many (end_plan plan) base fits.line doings now limit (HeldAt plan slots stood) tries (AreTicked now) 16
        (block_timer now)
        (drop-keeps (end_plan plan) base fits.line doings now limit (HeldAt plan slots stood) tries (AreTicked now)
        (λ own e later. given_up_by_t4 now (dropped_now e now) own later)
        (λ own e later held. by-t4-quiet plan (TriedIs tries) fits slots stood now (dropped_now e now) own later held)))
        (all-many (end_plan plan) base fits.line doings now limit (HeldAt plan slots stood) tries (AreTicked now) 64
        (reply_timer now)
        (mild-keeps (end_plan plan) base fits.line doings now limit (HeldAt plan slots stood) tries (AreTicked now)
        (reply_timer now)
        (λ own e held. t3-quiet plan (TriedIs tries) fits slots stood now own e held)))) (
          mild-keeps (end_plan plan) base fits.line doings now limit (HeldAt plan slots stood) tries (AreTicked now)
              (delay_timer now)
              (λ own e held. comms-quiet plan (TriedIs tries) fits slots stood comms_in.Time now own held),
          (
            mild-keeps (end_plan plan) base fits.line doings now limit (HeldAt plan slots stood) tries (AreTicked now)
                (sampling now) (λ own e held. sampling-quiet plan (TriedIs tries) fits slots stood now own e held),
            all-many (end_plan plan) base fits.line doings now limit (HeldAt plan slots stood) tries (AreTicked now) 16
                made_part
                (mild-keeps (end_plan plan) base fits.line doings now limit (HeldAt plan slots stood) tries
                (AreTicked now) made_part
                (λ own e held. made-quiet plan (TriedIs tries) fits slots stood own e held)),
          ),
        )

    tick-at-part : (tries : List ℕ) (step : ToolStep) → At tries AreNone step
        → OnEither (At tries (AreTicked now)) (At tries (AreTicked now))
        (after_turn Some (line_timer now step.next.own step.next.core) step)
    tick-at-part tries step at =
        led-at (end_plan plan) base fits.line doings now limit (HeldAt plan slots stood) tries (AreTicked now)
        (Tick now)
        (failed_turn now (failed_at step.next.core now) step.next.own (core_after (Tick now) step.next.core)) step
        (tick-at (end_plan plan) base fits.line doings now limit tries AreNone (AreTicked now) (core_step step) at.core
        (ap (λ (cs : List LineCall). LineCall.Tick now ∷ cs) at.core.called))
        (failed-is-quiet plan (TriedIs tries) fits slots stood now (failed_at step.next.core now) step.next.own
        (core_after (Tick now) step.next.core) at.held)

    pub first-at : (tries : List ℕ) (step : ToolStep) → MayTake ToolCommandFits input → At tries AreNone step
        → OnEither HasStepped HasBegun (after_parts Some (first_parts input now) step)
    first-at tries step may at =
        either-then (At tries AreNone) HasBegun HasStepped (after_turn Some first step) (after_parts Some rest)
        (either-less (At tries AreNone) (At tries AreNone) (At tries AreNone) HasBegun (after_turn Some first step)
        (turn-at (end_plan plan) base fits.line doings now limit (HeldAt plan slots stood) tries AreNone first step
        (beginning-quiet plan (TriedIs tries) fits slots stood now step.next.own step.next.core at.held) at)
        (λ last so. so)
        (λ last so. some-less tries AreNone (AreBegunOf input now) last (begun-none input now) so))
        (λ last so. ticked last so)
      where
        first : ToolTurn
        first = beginning now step.next.own step.next.core

        later : List ToolPart
        later = (late_parts now ++ delay_timer now ∷ sample_parts now) ++ input_part input now ∷ []

        rest : List ToolPart
        rest = line_timer now ∷ later

        ticked : (last : ToolStep) → At tries AreNone last → OnEither HasStepped HasBegun (after_parts Some rest last)
        ticked last so =
            either-then (At tries (AreTicked now)) HasBegun HasStepped
            (after_turn Some (line_timer now last.next.own last.next.core) last) (after_parts Some later)
            (either-less (At tries (AreTicked now)) (At tries (AreTicked now)) (At tries (AreTicked now)) HasBegun
            (after_turn Some (line_timer now last.next.own last.next.core) last) (tick-at-part tries last so)
            (λ end at. at)
            (λ end at. some-less tries (AreTicked now) (AreBegunOf input now) end (begun-ticked input now) at))
            (λ next at.
            parts-then (end_plan plan) base fits.line doings now limit (HeldAt plan slots stood) tries (AreTicked now)
            HasStepped
            HasBegun (late_parts now ++ delay_timer now ∷ sample_parts now) (input_part input now ∷ []) next
            (late-keep tries) at
            (λ end ended. some-less tries (AreTicked now) (AreBegunOf input now) end (begun-ticked input now) ended)
            (λ end ended. input-at tries end may ended))

    -- ---- the last half

    unload-at :
        (tries : List ℕ) (oldest : Option Spooled) → IfSome oldest CanBeSent → (step : ToolStep)
        → At tries (AreOfStep input now) step
        → OnEither HasStepped HasStepped (after_turn Some (unload_part oldest step.next.own step.next.core) step)
    unload-at tries oldest can step at = go
        (next_unloaded (most_transmitted step.next.own.tables) step.next.own.ledger) oldest can
      where
        own : OwnView
        own = with_ledger (after_next (most_transmitted step.next.own.tables) step.next.own.ledger) step.next.own

        held : HeldAt plan slots stood tries own
        held = next-held plan (TriedIs tries) fits slots stood step.next.own at.held

        quiet : HasStepped (with_own own (core_step step))
        quiet = record { tries = tries; at = record { core = at.core; held = held } }

        go : (number : Option ℕ) (oldest : Option Spooled) → IfSome oldest CanBeSent
            → OnEither HasStepped HasStepped (after_turn Some (taking_turn number oldest own step.next.core) step)
        go None oldest can = quiet
        go (Some number) None can = quiet
        go (Some number) (Some message) can =
            taking-at (end_plan plan) base fits.line doings now limit (HeldAt plan slots stood) (AreOfStep input now)
            number message
            (λ ts other e so. out-quiet plan (TriedIs ts) fits slots stood message can other e so)
            (λ ts other system so.
            took-held ts number system message can other so)
            tries own step at.core held held.tried_is
          where
            took-held :
                (ts : List ℕ) (number system : ℕ) (message : Spooled) → CanBeSent message → (other : OwnView)
                → HeldAt plan slots stood ts other
                → HeldAt plan slots stood (system ∷ ts)
                (with_tried system
                (with_ledger (taken_up number system (waiting_text message) other.ledger).next other))
            took-held ts number system message can other so = record {
              plan_is = so.plan_is;
              texts = so.texts;
              traced = so.traced;
              reports = so.reports;
              ledger = taken-good number system (waiting_text message) other.ledger
                  (waiting-is plan (TriedIs ts) fits slots stood message can) so.ledger;
              tried_is = refl;
            }

    -- behind all else the step has come to its end
    record HasClosed (step : ToolStep) : Type 0 where
      before : ToolStep
      stepped : HasStepped before
      is : step ≡ step_ended before

    last-at : (oldest : Option Spooled) → IfSome oldest CanBeSent → (step : ToolStep) → HasStepped step
        → OnEither HasClosed HasBegun (after_parts Some (last_parts oldest now) step)
    last-at oldest can step so =
        parts-then (end_plan plan) base fits.line doings now limit (HeldAt plan slots stood) so.tries
        (AreOfStep input now) HasClosed HasBegun (answering ∷ []) (unload_part oldest ∷ rest) step (
          mild-keeps (end_plan plan) base fits.line doings now limit (HeldAt plan slots stood) so.tries
              (AreOfStep input now) answering
              (λ own e held. answering-quiet plan (TriedIs so.tries) fits slots stood own e held),
          tt,
        )
        so.at
        (λ end is. some-less so.tries (AreOfStep input now) (AreBegunOf input now) end (begun-stepped input now) is)
        (λ last is. unloaded last (some-at so.tries (AreOfStep input now) last is))
      where
        rest : List ToolPart
        rest = end_of_spooling ∷ offer now ∷ closes ∷ []

        ended : (last : ToolStep) → HasStepped last → OnEither HasClosed HasBegun (after_parts Some rest last)
        ended last at =
            parts-then (end_plan plan) base fits.line doings now limit (HeldAt plan slots stood) at.tries
            (AreOfStep input now)
            HasClosed HasBegun (end_of_spooling ∷ offer now ∷ []) (closes ∷ []) last (
              mild-keeps (end_plan plan) base fits.line doings now limit (HeldAt plan slots stood) at.tries
                  (AreOfStep input now)
                  end_of_spooling (λ own e held. ended-quiet plan (TriedIs at.tries) fits slots stood own e held),
              (
                offer-keeps (end_plan plan) base fits.line doings now limit (HeldAt plan slots stood) input at.tries,
                tt,
              ),
            )
            at.at
            (λ end is.
            some-less at.tries (AreOfStep input now) (AreBegunOf input now) end (begun-stepped input now) is)
            (λ end is. record {
              before = end;
              stepped = some-at at.tries (AreOfStep input now) end is;
              is = refl;
            })

        unloaded : (last : ToolStep) → HasStepped last
            → OnEither HasClosed HasBegun (after_parts Some (unload_part oldest ∷ rest) last)
        unloaded last at =
            either-then HasStepped HasBegun HasClosed
            (after_turn Some (unload_part oldest last.next.own last.next.core) last) (after_parts Some rest)
            (either-less HasStepped HasStepped HasStepped HasBegun
            (after_turn Some (unload_part oldest last.next.own last.next.core) last)
            (unload-at at.tries oldest can last at.at) (λ next one. one)
            (λ next one. some-less one.tries (AreOfStep input now) (AreBegunOf input now) next
            (begun-stepped input now) one.at))
            (λ next one. ended next one)

    -- ---- the whole step

    abbrev FileStep : Type 0
    FileStep = Step EquipmentView Happening

    -- so it is of the equipment with its spool, whose messages can be sent, whose mark is where the numbers end, and
    -- which has an area where a setup is kept
    pub record FileAt (Called : List LineCall → Type 0) (step : FileStep) : Type 0 where
      pub node : SomeAt Called (node_step step)
      pub list : AllCanBeSent step.next.file.list
      pub mark : step.next.file.mark.value ≡ limit
      pub area : HasAsFile step.next.node.own step.next.file

    abbrev pub FileStepped : FileStep → Type 0
    FileStepped step = FileAt (AreOfStep input now) step

    -- and with the end of the step
    pub record FileClosed (step : FileStep) : Type 0 where
      pub before : FileStep
      pub stepped : FileStepped before
      pub is : step ≡ file_step before.next (step_ended (node_step before))

    abbrev pub FileBegun : FileStep → Type 0
    FileBegun step = FileAt (AreBegunOf input now) step

    -- parts leave the file as it is
    pub parts-at :
        (parts : List ToolPart) (step : FileStep) → AllCanBeSent step.next.file.list → step.next.file.mark.value ≡ limit
        → AllKeepArea parts → HasAsFile step.next.node.own step.next.file
        → OnEither HasStepped HasBegun (after_parts Some parts (node_step step))
        → OnEither FileStepped FileBegun (parts_done parts step)
    parts-at parts step list mark keep area =
        go (after_parts Some parts (node_step step)) (area-after parts keep (node_step step) ∙ area)
      where
        go : (went : ToolWent) → HasAsFile (step_in went).next.own step.next.file → OnEither HasStepped HasBegun went
            → OnEither FileStepped FileBegun (went_with_file step.next went)
        go (Goes next) has at = record { node = at; list = list; mark = mark; area = has }
        go (Spent next) has at = record { node = at; list = list; mark = mark; area = has }

    last-parts-at :
        (parts : List ToolPart) (step : FileStep) → AllCanBeSent step.next.file.list → step.next.file.mark.value ≡ limit
        → AllKeepArea parts → HasAsFile step.next.node.own step.next.file
        → OnEither HasClosed HasBegun (after_parts Some parts (node_step step))
        → OnEither FileClosed FileBegun (parts_done parts step)
    last-parts-at parts step list mark keep area =
        go (after_parts Some parts (node_step step)) (area-after parts keep (node_step step) ∙ area)
      where
        go : (went : ToolWent) → HasAsFile (step_in went).next.own step.next.file → OnEither HasClosed HasBegun went
            → OnEither FileClosed FileBegun (went_with_file step.next went)
        go (Goes next) has at = record {
          before = file_step step.next at.before;
          stepped = record {
            node = at.stepped;
            list = list;
            mark = mark;
            area = subst (λ (last : ToolStep). HasAsFile last.next.own step.next.file) at.is has;
          };
          is = ap (λ (node : ToolStep). file_step step.next node) at.is;
        }
        go (Spent next) has at = record { node = at; list = list; mark = mark; area = has }

    -- the oldest message can be sent
    oldest-can : (list : List Kept) → AllCanBeSent list → IfSome (option_map spooled_of (slice_get list 0)) CanBeSent
    oldest-can [] all = tt
    oldest-can (first ∷ list) all = All-head (λ (message : Kept). CanBeSent (spooled_of message)) first list all

    pub ended-at : (step : FileStep) → FileStepped step → OnEither FileClosed FileBegun (ended_step now step)
    ended-at step at =
        last-parts-at (last_parts (oldest_of step.next) now) step at.list at.mark (last-area (oldest_of step.next) now)
        at.area
        (last-at (oldest_of step.next) (oldest-can step.next.file.list at.list) (node_step step) at.node)

    -- what the equipment has done by then
    pub file-does : (Such : List LineCall → Type 0) (step : FileStep) → FileAt Such step
        → DoesMore (end_plan plan) (DidOf plan) base doings now Such HasNoEnd step
    file-does Such step at =
        let so = at.node.at.core in
        record {
          done = so.done;
          is = subst (λ (ds : List Doing). DidOf plan base ds step.next) so.whole (record {
            sound = record {
              own =
                  sound-self plan slots stood step.next.node.own
                  (held-sound plan slots stood at.node.tries step.next.node.own at.node.at.held);
              list = at.list;
              mark = so.limit_is ∙ sym at.mark;
              area = at.area;
            };
            is = so.is;
            tried = so.tried;
            turn = subst (λ (ts : List ℕ). AreInTurn ts step.next.node.core) (sym so.tries_are) so.turn;
            last = at.node.at.held.tried_is ∙ ap newest_of (sym so.tries_are);
          });
          notes = ap noted_in (sym so.whole) ∙ so.notes;
          written = ap (λ (ds : List Doing). written_in (end_plan plan) ds) (sym so.whole) ∙ so.written;
          calls = so.called;
          drops = so.drops;
          ends = so.unended;
        }

    -- and with the end of the step
    file-closes :
        (Such : List LineCall → Type 0) (step : FileStep)
        → DoesMore (end_plan plan) (DidOf plan) base doings now Such HasNoEnd step
        → DoesMore (end_plan plan) (DidOf plan) base doings now Such EndsOnce
        (file_step step.next (step_ended (node_step step)))
    file-closes Such step more = record {
      done = Says Happening.StepEnded ∷ more.done;
      is = record {
        sound = record {
          own = more.is.sound.own;
          list = more.is.sound.list;
          mark = more.is.sound.mark;
          area = more.is.sound.area;
        };
        is = history-ends (end_plan plan) base (more.done ++ doings) step.next.node.core more.is.is;
        tried = (tt, more.is.tried);
        turn = record {
          below = more.is.turn.below;
          drawn = more.is.turn.drawn;
          waits = more.is.turn.waits;
        };
        last = more.is.last;
      };
      notes =
          ap (λ (ns : List Happening). ns ++ Happening.StepEnded ∷ []) more.notes
          ∙ append_assoc (noted_in doings) step.notes (Happening.StepEnded ∷ []);
      written = more.written;
      calls = more.calls;
      drops = more.drops;
      ends = record { rest = more.done; is = refl; unended = more.ends };
    }

    pub file-steps : (went : Went EquipmentView Happening) → OnEither FileClosed FileBegun went
        → DoesStep (end_plan plan) (DidOf plan) base doings input now went
    file-steps (Goes step) at =
        subst (λ (last : FileStep).
        DoesMore (end_plan plan) (DidOf plan) base doings now (AreOfStep input now) EndsOnce last) (sym at.is)
        (file-closes (AreOfStep input now) at.before (file-does (AreOfStep input now) at.before at.stepped))
    file-steps (Spent step) at = file-does (AreBegunOf input now) step at
