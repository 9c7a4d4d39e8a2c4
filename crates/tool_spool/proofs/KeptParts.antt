-- That each part of a step keeps the spool.
use Rattle.std.proofs.Common.{◌≡◌, refl, sym, ap, subst, ◌∙◌, ◌==◌, ◌%◌, ◌||◌, not, Bool, true, false, ℕ, zero, suc, List, [], ◌∷◌, ◌++◌, replicate, Option, Some, None, if◌then◌else◌}
use Rattle.std.specs.List.{find}
use Rattle.std.specs.Option.{option_map}
use Rattle.std.specs.Prelude.{IfSome, slice_get}
use Rattle.block_codec.specs.declared.header.Header.{Header}
use Rattle.gem_states.specs.declared.comms.CommsIn.TheVariants as comms_in
use Rattle.line_end.specs.declared.event.LineEvent.{LineEvent}
use Rattle.line_end.specs.declared.event.LineEvent.TheVariants as event
use Rattle.line_end.specs.Step.{LineCall, line_step}
use Rattle.message_flow.specs.declared.flow.Flow.{Flow}
use Rattle.message_flow.specs.declared.flow.Flow.TheVariants as flow
use Rattle.message_flow.specs.declared.message.Message.{Message}
use Rattle.message_flow.specs.Assembly.{flow_to, with_block}
use Rattle.secs_items.specs.Checking.{Checking}
use Rattle.trace_log.specs.declared.commands.ToolCommand.{ToolCommand}
use Rattle.trace_log.specs.Log.{Happening, Past}
use Rattle.trace_log.specs.Names.{Spooled}
use Rattle.transact.specs.declared.begun.Begun.{Begun}
use Rattle.transact.specs.Transactions as transactions
use Rattle.transact.specs.Transactions.{is_answered_by, primary_of as primary_with_kind}
use Rattle.message_end.specs.Calls.{answered_by, dropped_now, failed_as, failed_at, took_by}
use Rattle.message_end.specs.Core.{EndView, Went, at_first, calls, carried, drops, held_header, judges, takes, takes_back, tells, times_out, with_assembly, with_end}
use Rattle.message_end.specs.Core.Command.{DropDue, Expire, GiveUp, Halt, Take, Tick}
use Rattle.message_end.specs.Core.Went.{Goes, Spent}
use Rattle.message_end.specs.Course.{noted_behind}
use Rattle.message_end.specs.Duties.{all_done}
use Rattle.message_end.specs.Ends.{Input}
use Rattle.message_end.specs.Ends.Input.{Char, Command as Told, Time}
use Rattle.message_end.specs.Parts.{Node, after_parts, after_turn, closes, core_after, core_step, fixed_turn, went_with}
use Rattle.message_end.proofs.Parts.{after-take, OnEither, either-then, either-less}
use Rattle.spool_ledger.specs.Activity.{rested}
use Rattle.spool_ledger.specs.Ledger.{stood_count}
use Rattle.spool_file.specs.Slot.{Message as Put}
use Rattle.gem_spool.specs.Works.{lists_after}
use Rattle.gem_spool.specs.declared.works.Work.{Work}
use Rattle.equipment_tables.specs.declared.plan.EquipmentPlan.{EquipmentPlan}
use Rattle.equipment_tables.specs.Laws.{TablesAreLookedBackFor}
use Rattle.equipment_tables.specs.Past.{tables_at}
use Rattle.equipment_tables.specs.Plan.{EquipmentPlanFits}
use Rattle.tool_step.specs.declared.kind.Kind.{Kind}
use Rattle.spool_works.specs.Found.{spooled_of}
use Rattle.tool_reports.specs.Histories.{with_command}
use Rattle.tool_step.specs.Own.{OwnView, ToolPart, ToolTurn, is_communicating, quiet_turn, turn_of, unowed}
use Rattle.tool_step.specs.Replies.{block_timer, given_up_by_t4, given_up_turn, reply_timer, timeout_turn}
use Rattle.tool_step.specs.Sampling.{made_part, sample_parts, sampling}
use Rattle.tool_step.specs.Sent as sent
use Rattle.tool_step.specs.Spooling.{end_of_spooling, unload_part}
use Rattle.tool_step.specs.States as states
use Rattle.tool_step.specs.Step.{answering, begun, beginning, character, delay_timer, failed_turn, first_parts, flow_turn, input_part, is_spent, last_parts, late_parts, line_timer, long_turn, offer, took_turn}
use Rattle.tool_step.specs.Tool.{told_turn}
use Rattle.tool_spool.proofs.CalmSamples.{made-calm, sampling-calm}
use Rattle.tool_spool.proofs.CalmParts.{IsCalmTurn, closes-calm, comms-calm, error-turn-calm, errors-calm, like-as, likes, offer-calm}
use Rattle.tool_spool.proofs.CalmTurns.{IsCalmRun, carry-run}
use Rattle.tool_law.proofs.LedgerLines.{rested-lines}
use Rattle.tool_law.proofs.TurnWalks.{fixed-of, nothing-of}
use Rattle.tool_reports.proofs.HeldReports.{Any, Free, any-lasts}
use Rattle.tool_reports.proofs.LeavingReports.{unload-keeps as unload-reports}
use Rattle.tool_reports.proofs.PlainSamples.{made-plain, sampling-plain}
use Rattle.tool_reports.proofs.PlainTurns.{spool-quiet, booked-plain, comms-plain}
use Rattle.tool_reports.proofs.QuietNotes.{AreSettled, one-behind}
use Rattle.tool_reports.proofs.ReportedParts.{HoldsOwingStep, HoldsStep, IsNoMessage, NodeEnds, NodeStep, PartKeeps, answers-owed, begin-plain, closes-plain, input-keeps as input-reports, of-turn as of-reports, offer-plain, plain-part, t3-keeps, t4-keeps, tick-keeps}
use Rattle.tool_spool.proofs.ShelvedTurns.{Ends, IsSpentAt, Shelves, run-keeps, spent-as}
use Rattle.tool_law.proofs.Drawing.{Any as AnyStep, Never, goes-either}
use Rattle.tool_law.proofs.CoreSteps.{CoreStep}
use Rattle.tool_spool.proofs.SpoolCommands.{told-keeps}
use Rattle.tool_spool.proofs.SpoolMessages.{message-keeps}
use Rattle.tool_spool.proofs.SpoolTurns.{HoldsAt, IsRight, ShelvesAt, TurnEnds, calm-at, calm-turn, leaving-keeps, lost-keeps, so_far}
use Rattle.tool_spool.proofs.KeptSetups.{ShelvesOwing, TurnOwes, answering-calm, turn-owes, unkept}
use Rattle.tool_spool.proofs.UnloadOpen.{HasHeader}
use Rattle.tool_spool.proofs.SpoolUnloads.{part-keeps}
use Rattle.tool_spool.proofs.TakenTurns.{rest-keeps}
use Rattle.tool_spool.proofs.LastWorks.{answering-works, both-either, whole-header, error-stays, timeout-owes, works_of, unload-works, rested-works}

module _
    (plan : EquipmentPlan) (fits : EquipmentPlanFits plan) (looked : TablesAreLookedBackFor)
    (start : List Happening) (slots : ℕ) where
  module _ (list : List Put) (base before : List Happening) where
    abbrev At : OwnView → CoreStep → Type 0
    At own step = HoldsAt plan slots list base before own step

    abbrev Turns : ToolTurn → CoreStep → Type 0
    Turns turn step = TurnEnds plan slots list base before turn step

    abbrev Owes : ToolTurn → CoreStep → Type 0
    Owes turn step = TurnOwes plan slots list base before turn step

    abbrev PartKeepsIt : ToolPart → Type 0
    PartKeepsIt part =
        (step : NodeStep) → At step.next.own (core_step step)
        → Turns (part step.next.own step.next.core) (core_step step)

    calm-part : (part : ToolPart) → ((own : OwnView) (e : EndView Kind) → IsCalmTurn own (part own e))
        → PartKeepsIt part
    calm-part part are step holds =
        calm-turn plan slots list base before step.next.own (part step.next.own step.next.core) (core_step step)
        (are step.next.own step.next.core) holds.shelves

    -- ---- each part of a step

    failed-turns : (now : ℕ) (failed : Option Header) (own : OwnView) (e : EndView Kind) (step : CoreStep) → At own step
        → Turns (failed_turn now failed own e) step
    failed-turns now None own e step holds = holds.shelves
    failed-turns now (Some header) own e step holds =
        leaving-keeps plan slots list base before comms_in.SendFailed (Some header) now own e step holds

    tick-part : (now : ℕ) → PartKeepsIt (line_timer now)
    tick-part now step holds =
        failed-turns now (failed_at step.next.core now) step.next.own (core_after (Tick now) step.next.core) _
        (calm-at plan slots list base before step.next.own (Tick now ∷ []) (core_step step) (tt, tt) holds)

    begin-part : (now : ℕ) (own : OwnView) (e : EndView Kind) → IsCalmTurn own (beginning now own e)
    begin-part now own e = go (own.has_begun || not own.plan.enable)
      where
        go : (over : Bool)
            → IsCalmTurn own
            (if over then quiet_turn (begun own) else states.comms_turn comms_in.Enable now (begun own))
        go true = nothing-of own (begun own) (like-as own (begun own) refl refl refl)
        go false =
            let comms = comms-calm comms_in.Enable now (begun own) in
            record {
              duties = comms.duties;
              keeps = record { ledger = comms.keeps.ledger; owed = comms.keeps.owed; reports = comms.keeps.reports };
            }

    given-up-turns :
        (now : ℕ) (header : Header) (own : OwnView) (e : EndView Kind) (step : CoreStep)
        → e.transactions.begun ≡ step.next.transactions.begun → At own step
        → Turns (given_up_turn now header own e) step
    given-up-turns now header own e step same holds =
        subst
        (λ (begun : List (Begun Kind)).
        Turns
        (timeout_turn now (option_map primary_with_kind (find (is_answered_by header) begun)) own
        (core_after (GiveUp header) e))
        (times_out Some (is_answered_by header) (find (is_answered_by header) step.next.transactions.begun) step))
        (sym same)
        (lost-keeps plan slots list base before now (is_answered_by header) own (core_after (GiveUp header) e) step
        holds
        (calm-at plan slots list base before own (GiveUp header ∷ []) step (tt, tt) holds))

    after-drop : (header : Option Header) (now : ℕ) (e : EndView Kind) (step : CoreStep) → step.next ≡ e
        → (drops Some header now (at_first {N = Happening} e)).next.transactions.begun
        ≡ (drops Some header now step).next.transactions.begun
    after-drop None now e step same = ap (λ (core : EndView Kind). core.transactions.begun) (sym same)
    after-drop (Some header) now e step same = ap (λ (core : EndView Kind). core.transactions.begun) (sym same)

    t4-part : (now : ℕ) → PartKeepsIt (block_timer now)
    t4-part now step holds =
        go (dropped_now step.next.core now)
        (calm-at plan slots list base before step.next.own (DropDue now ∷ []) (core_step step) (tt, tt) holds)
      where
        next : CoreStep
        next = drops Some (dropped_now step.next.core now) now (core_step step)

        go : (dropped : Option Header) → At step.next.own next
            → Turns (given_up_by_t4 now dropped step.next.own (core_after (DropDue now) step.next.core)) next
        go None at = at.shelves
        go (Some header) at =
            given-up-turns now header step.next.own (core_after (DropDue now) step.next.core) next
            (after-drop (dropped_now step.next.core now) now step.next.core (core_step step) refl) at

    t3-part : (now : ℕ) → PartKeepsIt (reply_timer now)
    t3-part now step holds =
        lost-keeps plan slots list base before now (transactions.is_due now) step.next.own
        (core_after (Expire now) step.next.core) (core_step step) holds
        (calm-at plan slots list base before step.next.own (Expire now ∷ []) (core_step step) (tt, tt) holds)

    -- ---- a character

    other-turns :
        (now : ℕ) (header : Header) (came : Flow) (own : OwnView) (e : EndView Kind) (next : CoreStep)
        → IsNoMessage came → e ≡ next.next → At own next → Turns (flow_turn now header came own e) next
    other-turns now header flow.Part own e next none same holds = holds.shelves
    other-turns now header (flow.Whole message check) own e next none same holds = absurd none
    other-turns now header flow.Duplicate own e next none same holds = holds.shelves
    other-turns now header (flow.Foreign address) own e next none same holds =
        calm-turn plan slots list base before own (turn_of own (sent.error_duty 1 header own ∷ [])) next
        (error-turn-calm 1 header own) holds.shelves
    other-turns now header flow.Unexpected own e next none same holds =
        given-up-turns now header own e next (ap (λ (core : EndView Kind). core.transactions.begun) same) holds
    other-turns now header flow.TooLong own e next none same holds = go (is_spent e)
      where
        go : (spent : Bool) → Turns (long_turn spent header own (given_up_turn now header own e)) next
        go true =
            calm-turn plan slots list base before own (fixed_turn own (Halt ∷ [])) next
            (fixed-of own own (Halt ∷ []) (likes own) (tt, tt)) holds.shelves
        go false =
            either-then Stays (IsRight plan slots list base before given) (ShelvesAt plan slots list base before given)
            (carried Some (sent.error_duty 11 header own next.next) next)
            (all_done Some (given_up_turn now header own e).duties) (by (is_communicating own) refl)
            (λ last so.
            given-up-turns now header own e last
            (ap (λ (core : EndView Kind). core.transactions.begun) same ∙ sym so.1) so.0)
          where
            given : OwnView
            given = (given_up_turn now header own e).own

            Stays : CoreStep → Type 0
            Stays last = At own last × (last.next.transactions.begun ≡ next.next.transactions.begun)

            noted : OnEither Stays (λ (last : CoreStep). IsRight plan slots list base before own last × Unit {0})
                (carried Some (sent.error_duty 11 header own next.next) next)
            noted =
                both-either (At own) (λ (last : CoreStep). last.next.transactions.begun ≡ next.next.transactions.begun)
                (IsRight plan slots list base before own) (λ (last : CoreStep). Unit {0})
                (carried Some (sent.error_duty 11 header own next.next) next)
                (calm-at plan slots list base before own (sent.error_duty 11 header own next.next) next
                ((errors-calm 11 header own).0 next.next) holds) (error-stays 11 header own next)

            -- where S9F11 may spend the last number, nothing is put behind it
            by : (communicating : Bool) → is_communicating own ≡ communicating
                → OnEither Stays (IsRight plan slots list base before given)
                (carried Some (sent.error_duty 11 header own next.next) next)
            by true communicates =
                let owes = timeout-owes now (option_map primary_with_kind (answered_by e header)) own
                (core_after (GiveUp header) e) communicates in
                either-less Stays (λ (last : CoreStep). IsRight plan slots list base before own last × Unit {0}) Stays
                (IsRight plan slots list base before given) (carried Some (sent.error_duty 11 header own next.next)
                next)
                noted (λ last so. so)
                (λ last so.
                spent-as plan slots list base before own.ledger given.ledger (noted_behind last.notes before) owes.0
                owes.1 so.0)
            by false silent =
                goes-either Stays (λ (last : CoreStep). IsRight plan slots list base before own last × Unit {0})
                (IsRight plan slots list base before given) (carried Some (sent.error_duty 11 header own next.next)
                next)
                (subst
                (λ (b : Bool). OnEither AnyStep Never
                (carried Some
                (if b then sent.error_commands 11 (sent.text_of own (sent.error_item header)) next.next else []) next))
                (sym silent) tt) noted
    other-turns now header flow.Crowded own e next none same holds =
        given-up-turns now header own e next (ap (λ (core : EndView Kind). core.transactions.begun) same) holds

    came-turns :
        (now : ℕ) (header : Header) (came : Flow) (own : OwnView) (e : EndView Kind) (old next : CoreStep)
        → next ≡ judges Some header came old → e ≡ next.next
        → ((message : Message) (check : Checking) → came ≡ flow.Whole message check → HasHeader header message)
        → At own next → Owes (flow_turn now header came own e) next
    came-turns now header came own e old next is same system holds = go came is system
      where
        other : (came : Flow) → IsNoMessage came → Owes (flow_turn now header came own e) next
        other came none =
            turn-owes plan slots list base before (flow_turn now header came own e) next
            (other-turns now header came own e next none same holds)

        go : (came : Flow) → next ≡ judges Some header came old
            → ((message : Message) (check : Checking) → came ≡ flow.Whole message check → HasHeader header message)
            → Owes (flow_turn now header came own e) next
        go (flow.Whole message check) is system =
            message-keeps plan slots list base before now header message own e (so_far plan slots list base before old)
            next same
            (ap (λ (s : CoreStep). so_far plan slots list base before s) is
            ∙ one-behind old.notes (Happening.Received message)
            before)
            (system message check refl) holds
        go flow.Part is system = other flow.Part tt
        go flow.Duplicate is system = other flow.Duplicate tt
        go (flow.Foreign address) is system = other (flow.Foreign address) tt
        go flow.Unexpected is system = other flow.Unexpected tt
        go flow.TooLong is system = other flow.TooLong tt
        go flow.Crowded is system = other flow.Crowded tt

    told-turns :
        (now byte : ℕ) (happened : LineEvent) (own : OwnView) (e : EndView Kind) (step : CoreStep)
        → e ≡ (tells Some (held_header step.next.line.held) happened now (calls (LineCall.Take byte now) step)).next
        → At own (tells Some (held_header step.next.line.held) happened now (calls (LineCall.Take byte now) step))
        → Owes (took_turn now (took_by step.next happened) own e)
        (tells Some (held_header step.next.line.held) happened now (calls (LineCall.Take byte now) step))
    told-turns now byte event.Nothing own e step same holds =
        unkept plan slots list base before own _ _ holds.shelves
    told-turns now byte event.Sent own e step same holds = unkept plan slots list base before own _ _ holds.shelves
    told-turns now byte (event.Refused cause) own e step same holds =
        unkept plan slots list base before own _ _ holds.shelves
    told-turns now byte event.Failed own e step same holds = failed (held_header step.next.line.held) holds
      where
        failed : (header : Option Header)
            → At own (calls (LineCall.Take byte now) step)
            → Owes (took_turn now (failed_as header) own e) (calls (LineCall.Take byte now) step)
        failed None at = unkept plan slots list base before own _ _ at.shelves
        failed (Some header) at =
            turn-owes plan slots list base before (failed_turn now (Some header) own e)
            (calls (LineCall.Take byte now) step)
            (failed-turns now (Some header) own e (calls (LineCall.Take byte now) step) at)
    told-turns now byte (event.Arrived block) own e step same holds =
        came-turns now block.header (flow_to step.next.assembly block) own e
        (with_end
        (takes_back block.header now (with_assembly (with_block step.next.assembly block now)
        (calls (LineCall.Take byte now) step).next)) (calls (LineCall.Take byte now) step))
        (tells Some (held_header step.next.line.held) (event.Arrived block) now (calls (LineCall.Take byte now) step))
        refl
        same (λ message check whole. whole-header step.next.assembly block message check whole) holds

    char-part : (byte now : ℕ) (step : NodeStep) → At step.next.own (core_step step)
        → Owes (character byte now step.next.own step.next.core) (core_step step)
    char-part byte now step holds =
        told-turns now byte (line_step step.next.core.line (LineCall.Take byte now)).event step.next.own
        (core_after (Take byte now) step.next.core) (core_step step)
        (after-take Some byte now (core_step step) (takes Some byte now (core_step step)) refl)
        (record {
          shelves =
              run-keeps plan slots list base before true step.next.own (core_step step)
              (takes Some byte now (core_step step)) run
              holds.shelves;
          at = ap (λ (past : List Past). tables_at plan past) run.notes.past ∙ holds.at;
        })
      where
        run : IsCalmRun true before (core_step step) (takes Some byte now (core_step step))
        run =
            carry-run true before (Take byte now) (core_step step) refl
            (record { drawn = holds.shelves.drawn; asks = holds.shelves.asks })

    input-part : (input : Input ToolCommand) (now : ℕ) (step : NodeStep) → At step.next.own (core_step step)
        → Owes (input_part input now step.next.own step.next.core) (core_step step)
    input-part (Char byte) now step holds = char-part byte now step holds
    input-part Time now step holds =
        unkept plan slots list base before step.next.own step.next.core (noted_behind step.notes before) holds.shelves
    input-part (Told command) now step holds =
        turn-owes plan slots list base before (told_turn command now step.next.own step.next.core) (core_step step)
        (told-keeps plan slots list base before command now step.next.own step.next.core (core_step step) fits looked
        holds)

    -- ---- with what the law of reports keeps

    abbrev NodeShelves : NodeStep → Type 0
    NodeShelves step = Shelves plan slots list base before step.next.own step.next.core (noted_behind step.notes before)

    abbrev Both : List ToolCommand → NodeStep → Type 0
    Both said step = HoldsStep plan fits looked start said before step × NodeShelves step

    abbrev IsSpentNode : NodeStep → Type 0
    IsSpentNode step = IsSpentAt plan slots list base before step.next.own.ledger (noted_behind step.notes before)

    abbrev pub BothRight : NodeStep → Type 0
    BothRight step = AreSettled plan start (noted_behind step.notes before) × IsSpentNode step

    abbrev pub BothEnd : List ToolCommand → Went (Node OwnView Kind) Happening → Type 0
    BothEnd said went = OnEither (Both said) BothRight went

    -- where something is asked of an object outside
    abbrev NodeOwesIt : NodeStep → Type 0
    NodeOwesIt step =
        ShelvesOwing plan slots list base before step.next.own step.next.core (noted_behind step.notes before)

    abbrev pub BothOwing : List ToolCommand → NodeStep → Type 0
    BothOwing said step = HoldsOwingStep plan fits looked start said before step × NodeOwesIt step

    abbrev pub BothOwe : List ToolCommand → Went (Node OwnView Kind) Happening → Type 0
    BothOwe said went = OnEither (BothOwing said) BothRight went

    owes-of : (turn : ToolTurn) (step : NodeStep) → Owes turn (core_step step)
        → OnEither NodeOwesIt IsSpentNode (after_turn Some turn step)
    owes-of turn step ends = go (all_done Some turn.duties (core_step step)) ends
      where
        go : (went : Went (EndView Kind) Happening)
            → OnEither
            (λ (next : CoreStep).
            ShelvesOwing plan slots list base before turn.own next.next (noted_behind next.notes before))
            (λ (next : CoreStep).
            IsSpentAt plan slots list base before turn.own.ledger (noted_behind next.notes before)) went
            → OnEither NodeOwesIt IsSpentNode (went_with turn.own went)
        go (Goes next) at = at
        go (Spent next) at = at

    of-turn : (turn : ToolTurn) (step : NodeStep) → Turns turn (core_step step)
        → OnEither NodeShelves IsSpentNode (after_turn Some turn step)
    of-turn turn step ends = go (all_done Some turn.duties (core_step step)) ends
      where
        go : (went : Went (EndView Kind) Happening) → Ends plan slots list base before turn.own went
            → OnEither NodeShelves IsSpentNode (went_with turn.own went)
        go (Goes next) at = at
        go (Spent next) at = at

    both-part :
        (said to : List ToolCommand) (part : ToolPart) (step : NodeStep)
        → NodeEnds plan fits looked start to before (after_turn Some (part step.next.own step.next.core) step)
        → (At step.next.own (core_step step) → Turns (part step.next.own step.next.core) (core_step step))
        → Both said step → BothEnd to (after_turn Some (part step.next.own step.next.core) step)
    both-part said to part step reported keeps both =
        both-either (HoldsStep plan fits looked start to before) NodeShelves
        (λ (s : NodeStep). AreSettled plan start (noted_behind s.notes before)) IsSpentNode
        (after_turn Some (part step.next.own step.next.core) step) reported
        (of-turn (part step.next.own step.next.core) step
        (keeps (record { shelves = both.1; at = sym both.0.tables_are })))

    -- the input's part
    input-both :
        (said : List ToolCommand) (input : Input ToolCommand) (now : ℕ) (step : NodeStep) → Both said step
        → BothOwe (with_command input said) (after_turn Some (input_part input now step.next.own step.next.core) step)
    input-both said input now step both =
        both-either (HoldsOwingStep plan fits looked start (with_command input said) before) NodeOwesIt
        (λ (s : NodeStep). AreSettled plan start (noted_behind s.notes before)) IsSpentNode
        (after_turn Some (input_part input now step.next.own step.next.core) step)
        (input-reports plan fits looked start said before input now step both.0)
        (owes-of (input_part input now step.next.own step.next.core) step
        (input-part input now step (record { shelves = both.1; at = sym both.0.tables_are })))

    abbrev PartBoth : List ToolCommand → ToolPart → Type 0
    PartBoth said part =
        (step : NodeStep) → Both said step → BothEnd said (after_turn Some (part step.next.own step.next.core) step)

    part-both : (said : List ToolCommand) (part : ToolPart) → PartKeeps plan fits looked start said before part
        → PartKeepsIt part → PartBoth said part
    part-both said part reports keeps step both = both-part said said part step (reports step both.0) (keeps step) both

    abbrev AllBoth : List ToolCommand → List ToolPart → Type 0
    AllBoth said [] = Unit {0}
    AllBoth said (part ∷ parts) = PartBoth said part × AllBoth said parts

    append-both : (said : List ToolCommand) (first second : List ToolPart) → AllBoth said first → AllBoth said second
        → AllBoth said (first ++ second)
    append-both said [] second one two = two
    append-both said (part ∷ first) second one two = (one.0, append-both said first second one.1 two)

    many-both : (said : List ToolCommand) (n : ℕ) (part : ToolPart) → PartBoth said part
        → AllBoth said (replicate n part)
    many-both said zero part one = tt
    many-both said (suc n) part one = (one, many-both said n part one)

    late-both : (said : List ToolCommand) (now : ℕ) → AllBoth said (late_parts now)
    unfolding late_parts
    late-both said now =
        append-both said (replicate 16 (block_timer now)) (replicate 64 (reply_timer now))
        (many-both said 16 (block_timer now)
        (part-both said (block_timer now) (t4-keeps plan fits looked start said before now) (t4-part now)))
        (many-both said 64 (reply_timer now)
        (part-both said (reply_timer now) (t3-keeps plan fits looked start said before now) (t3-part now)))

    samples-both : (said : List ToolCommand) (now : ℕ) → AllBoth said (sample_parts now)
    unfolding sample_parts
    samples-both said now = (
      part-both said (sampling now)
          (plain-part plan fits looked start said before (sampling now)
          (λ own e. sampling-plain Free tt Any any-lasts now own e))
          (calm-part (sampling now) (λ own e. sampling-calm now own e)),
      many-both said 16 made_part
          (part-both said made_part
          (plain-part plan fits looked start said before made_part (λ own e. made-plain Free tt Any any-lasts own e))
          (calm-part made_part (λ own e. made-calm own e))),
    )

    parts-then :
        (said to : List ToolCommand) (parts rest : List ToolPart) → AllBoth said parts → (step : NodeStep)
        → Both said step
        → ((last : NodeStep) → Both said last → BothOwe to (after_parts Some rest last))
        → BothOwe to (after_parts Some (parts ++ rest) step)
    parts-then said to [] rest all step both more = more step both
    parts-then said to (part ∷ parts) rest all step both more =
        either-then (Both said) BothRight (BothOwing to)
        (after_turn Some (part step.next.own step.next.core) step) (after_parts Some (parts ++ rest)) (all.0 step both)
        (λ next at. parts-then said to parts rest all.1 next at more)

    pub first-both :
        (said : List ToolCommand) (input : Input ToolCommand) (now : ℕ) (step : NodeStep) → Both said step
        → BothOwe (with_command input said) (after_parts Some (first_parts input now) step)
    first-both said input now step both =
        parts-then said (with_command input said)
        (beginning now ∷ line_timer now ∷ (late_parts now ++ delay_timer now ∷ sample_parts now))
        (input_part input now ∷ []) (
          part-both said (beginning now)
              (plain-part plan fits looked start said before (beginning now)
              (begin-plain plan fits looked start said before now)) (calm-part (beginning now) (begin-part now)),
          (
            part-both said (line_timer now) (tick-keeps plan fits looked start said before now) (tick-part now),
            append-both said (late_parts now) (delay_timer now ∷ sample_parts now) (late-both said now) (
              part-both said (delay_timer now)
                  (plain-part plan fits looked start said before (delay_timer now)
                  (λ own e. comms-plain Free tt Any any-lasts comms_in.Time now own))
                  (calm-part (delay_timer now) (λ own e. comms-calm comms_in.Time now own)),
              samples-both said now,
            ),
          ),
        ) step both
        (λ last at.
        either-then (BothOwing (with_command input said)) BothRight (BothOwing (with_command input said))
        (after_turn Some (input_part input now last.next.own last.next.core) last) (after_parts Some [])
        (input-both said input now last at) (λ next held. held))

    -- ---- the last parts, with no works left

    abbrev OwesNone : NodeStep → Type 0
    OwesNone step = step.next.own.ledger.works ≡ []

    abbrev pub Settled : List ToolCommand → NodeStep → Type 0
    Settled said step = Both said step × OwesNone step

    -- what waits for the works may have its answer still
    abbrev pub SettledOwing : List ToolCommand → NodeStep → Type 0
    SettledOwing said step =
        (HoldsOwingStep plan fits looked start said before step
        × Shelves plan slots list base before (unowed step.next.own) step.next.core (noted_behind step.notes before))
        × OwesNone step

    -- also where the numbers are spent
    abbrev pub SettledRight : NodeStep → Type 0
    SettledRight step = BothRight step × OwesNone step

    works-behind : (turn : ToolTurn) (step : NodeStep) → works_of turn ≡ []
        → OnEither OwesNone OwesNone (after_turn Some turn step)
    works-behind turn step none = go (all_done Some turn.duties (core_step step))
      where
        go : (went : Went (EndView Kind) Happening) → OnEither OwesNone OwesNone (went_with turn.own went)
        go (Goes next) = none
        go (Spent next) = none

    settled-part :
        (said : List ToolCommand) (part : ToolPart) (step : NodeStep)
        → BothEnd said (after_turn Some (part step.next.own step.next.core) step)
        → works_of (part step.next.own step.next.core) ≡ []
        → OnEither (Settled said) SettledRight (after_turn Some (part step.next.own step.next.core) step)
    settled-part said part step ends none =
        both-either (Both said) OwesNone BothRight OwesNone
        (after_turn Some (part step.next.own step.next.core) step) ends
        (works-behind (part step.next.own step.next.core) step none)

    answered-both :
        (said : List ToolCommand) (step : NodeStep) → SettledOwing said step
        → OnEither (Settled said) SettledRight (after_turn Some (answering step.next.own step.next.core) step)
    answered-both said step so =
        settled-part said answering step
        (both-either (HoldsStep plan fits looked start said before) NodeShelves
        (λ (s : NodeStep). AreSettled plan start (noted_behind s.notes before)) IsSpentNode
        (after_turn Some (answering step.next.own step.next.core) step)
        (answers-owed plan fits looked start said before step so.0.0)
        (of-turn (answering step.next.own step.next.core) step
        (calm-turn plan slots list base before (unowed step.next.own) (answering step.next.own step.next.core)
        (core_step step) (answering-calm step.next.own step.next.core) so.0.1)))
        (answering-works step.next.own step.next.core ∙ so.1)

    -- behind that answer
    unloaded-both :
        (said : List ToolCommand) (oldest : Option Spooled)
        → IfSome oldest (λ message. (message.function % 2 == 1) ≡ true)
        → oldest ≡ option_map spooled_of (slice_get list 0) → (now : ℕ) (step : NodeStep) → Settled said step
        → OnEither (Settled said) SettledRight
        (after_parts Some (unload_part oldest ∷ end_of_spooling ∷ offer now ∷ closes ∷ []) step)
    unloaded-both said oldest odd of now step so =
        either-then (Settled said) SettledRight (Settled said)
        (after_turn Some (unload_part oldest step.next.own step.next.core) step)
        (after_parts Some (end_of_spooling ∷ offer now ∷ closes ∷ []))
        (settled-part said (unload_part oldest) step
        (both-part said said (unload_part oldest) step
        (of-reports plan fits looked start said before (unload_part oldest step.next.own step.next.core) step
        (unload-reports plan start said before oldest odd step.next.own (core_step step)) so.0.0)
        (λ holds.
        part-keeps plan slots list base before oldest step.next.own (core_step step)
        (of
        ∙ ap
        (λ (works : List Work).
        option_map spooled_of
        (slice_get (lists_after (stood_count step.next.own.ledger).next list works) 0)) (sym so.1))
        holds.shelves) so.0)
        (unload-works oldest step.next.own step.next.core ∙ so.1))
        (λ one so.
        either-then (Settled said) SettledRight (Settled said)
        (after_turn Some (end_of_spooling one.next.own one.next.core) one)
        (after_parts Some (offer now ∷ closes ∷ []))
        (settled-part said end_of_spooling one
        (part-both said end_of_spooling
        (plain-part plan fits looked start said before end_of_spooling
        (λ own e.
        booked-plain Free tt Any any-lasts own (rested (is_communicating own) own.ledger)
        (rested-lines spool-quiet (is_communicating own) own.ledger)))
        (λ at holds. rest-keeps plan slots list base before at.next.own at.next.core (core_step at) holds.shelves) one
        so.0)
        (rested-works one.next.own one.next.core ∙ so.1))
        (λ two so.
        either-then (Settled said) SettledRight (Settled said)
        (after_turn Some (offer now two.next.own two.next.core) two) (after_parts Some (closes ∷ []))
        (settled-part said (offer now) two
        (part-both said (offer now)
        (plain-part plan fits looked start said before (offer now) (offer-plain plan fits looked start said before now))
        (calm-part (offer now) (λ own e. offer-calm now own)) two so.0) so.1)
        (λ three so.
        either-then (Settled said) SettledRight (Settled said)
        (after_turn Some (closes three.next.own three.next.core) three) (after_parts Some [])
        (settled-part said closes three
        (part-both said closes
        (plain-part plan fits looked start said before closes (closes-plain plan fits looked start said before))
        (calm-part closes (λ own e. closes-calm own)) three so.0) so.1)
        (λ last so. so))))

    pub last-both :
        (said : List ToolCommand) (oldest : Option Spooled)
        → IfSome oldest (λ message. (message.function % 2 == 1) ≡ true)
        → oldest ≡ option_map spooled_of (slice_get list 0) → (now : ℕ) (step : NodeStep) → SettledOwing said step
        → OnEither (Settled said) SettledRight (after_parts Some (last_parts oldest now) step)
    last-both said oldest odd of now step so =
        either-then (Settled said) SettledRight (Settled said)
        (after_turn Some (answering step.next.own step.next.core) step)
        (after_parts Some (unload_part oldest ∷ end_of_spooling ∷ offer now ∷ closes ∷ []))
        (answered-both said step so) (λ next at. unloaded-both said oldest odd of now next at)
