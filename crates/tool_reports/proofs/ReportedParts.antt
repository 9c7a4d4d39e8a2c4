-- That the parts of a step report what holds.
use Rattle.std.specs.Prelude.{IfSome}
use Rattle.spool_ledger.specs.Activity.{rested}
use Rattle.std.proofs.Common.{◌≡◌, refl, sym, ap, subst, ◌∙◌, ◌%◌, ◌==◌, Bool, true, false, not, ℕ, zero, suc, ◌&&◌, ◌||◌, List, [], ◌∷◌, ◌++◌, replicate, Option, Some, None, if◌then◌else◌}
use Rattle.block_codec.specs.declared.header.Header.{Header}
use Rattle.gem_states.specs.declared.comms.CommsIn.TheVariants as comms_in
use Rattle.line_end.specs.declared.event.LineEvent.{LineEvent}
use Rattle.line_end.specs.declared.event.LineEvent.TheVariants as event
use Rattle.line_end.specs.Step.{LineCall, line_step}
use Rattle.message_flow.specs.declared.flow.Flow.{Flow}
use Rattle.message_flow.specs.declared.flow.Flow.TheVariants as flow
use Rattle.message_flow.specs.declared.message.Message.{Message}
use Rattle.message_flow.specs.Assembly.{flow_to, with_block}
use Rattle.message_flow.specs.Message.{is_primary}
use Rattle.trace_log.specs.declared.commands.ToolCommand.{ToolCommand}
use Rattle.trace_log.specs.Log.{Happening, Past, is_before_change}
use Rattle.trace_log.specs.Names.{Spooled, title_of}
use Rattle.message_end.specs.Calls.{dropped_now, due_now, failed_as, failed_at, took_by}
use Rattle.message_end.specs.Core.{EndView, Step, Went, asked_by, calls, carried, held_header, judges, takes_back, tells, with_assembly, with_end}
use Rattle.message_end.specs.Core.Command.{DropDue, CloseStep, Expire, Halt, Offer, Take, Tick}
use Rattle.message_end.specs.Core.Went.{Goes, Spent}
use Rattle.message_end.specs.Course.{noted_behind}
use Rattle.message_end.specs.Duties.{all_done}
use Rattle.message_end.specs.Ends.{Input}
use Rattle.message_end.specs.Own.{Has}
use Rattle.message_end.specs.Ends.Input.{Char, Command as Told, Time}
use Rattle.message_end.specs.Parts.{Node, after_parts, after_turn, closes, core_after, core_step, fixed_turn, went_with}
use Rattle.equipment_tables.specs.declared.plan.EquipmentPlan.{EquipmentPlan}
use Rattle.equipment_tables.specs.Laws.{TablesAreLookedBackFor}
use Rattle.equipment_tables.specs.Plan.{EquipmentPlanFits}
use Rattle.tool_step.specs.declared.kind.Kind.{Kind}
use Rattle.tool_step.specs.Own.{OwnView, ToolPart, ToolTurn, is_communicating, quiet_turn, turn_of}
use Rattle.tool_step.specs.Replies.{block_timer, given_up_by_t4, given_up_turn, reply_timer, timeout_turn}
use Rattle.spool_works.specs.DiskWorks.{DiskWork, fronts_of, up_to_change}
use Rattle.tool_reports.specs.Histories.{with_command}
use Rattle.tool_step.specs.Sampling.{made_part, sample_parts, sampling}
use Rattle.tool_step.specs.Sent as sent
use Rattle.tool_step.specs.States as states
use Rattle.tool_law.proofs.CommandWalks.{errors-are}
use Rattle.tool_law.proofs.TurnWalks.{nothing-of, fixed-of, led-of, error-of}
use Rattle.tool_law.proofs.LedgerLines.{rested-lines}
use Rattle.spool_works.proofs.EachFront.{each-front}
use Rattle.tool_reports.specs.Reported.{Reported, due_behind, to_carry}
use Rattle.tool_step.specs.Spooling.{end_of_spooling, unload_part}
use Rattle.tool_step.specs.Step.{answering, begun, beginning, character, delay_timer, failed_turn, first_parts, flow_turn, input_part, is_spent, last_parts, late_parts, line_timer, long_turn, offer, took_turn}
use Rattle.tool_step.specs.Tool.{told_turn}
use Rattle.tool_reports.proofs.HostReports.{AsksOf}
use Rattle.tool_reports.proofs.HeardMessages.{message-keeps}
use Rattle.tool_reports.proofs.OwedReplies.{EndsOwing, HoldsOwing, answering-keeps, ends-owing, none-owing}
use Rattle.tool_reports.proofs.ToolReports.{told-keeps}
use Rattle.tool_reports.proofs.HeldReports.{Any, any-lasts, Ends, Free, Keeps, KeepsAt, led-at, plain, quietly-holds, silent-at, so_far}
use Rattle.tool_reports.proofs.QuietReports.{Holds}
use Rattle.tool_reports.proofs.LeavingReports.{by-t4-keeps, given-up-keeps, leaving-keeps, timeout-keeps, unload-keeps}
use Rattle.tool_reports.proofs.PlainSamples.{made-plain, sampling-plain}
use Rattle.tool_reports.proofs.PlainTurns.{spool-quiet, states-stay, IsPlain, itself, booked-plain, comms-plain}
use Rattle.tool_reports.proofs.QuietNotes.{AreSettled, adds-quiet, one-behind}
use Rattle.message_end.proofs.Parts.{OnEither, either-then}
use Rattle.tool_law.proofs.CoreSteps.{CoreStep}
use Rattle.tool_reports.proofs.SilentCommands.{common-silent, told-drawn, told-quiet}
use Rattle.message_end.proofs.Growing.{behind-both}

asks-newest : (message : Message) → AsksOf message (asked_by message)
asks-newest message = go (is_primary message) message.wait refl
  where
    go : (odd wait : Bool) → message.wait ≡ wait
        → AsksOf message (if odd && wait then Some (title_of message) else None)
    go true true waits title is = (cc, waits)
    go true false waits title is = absurd (cc)
    go false wait waits title is = absurd (cc)

-- a block that came was no whole message
abbrev pub IsNoMessage : Flow → Type 0
IsNoMessage (flow.Whole message check) = ⊥
IsNoMessage _ = Unit {0}

abbrev pub NodeStep : Type 0
NodeStep = Step (Node OwnView Kind) Happening

-- ---- where a step breaks off

-- the notes before agree as well
pub reported-before : (plan : EquipmentPlan) (rest before : List Happening) → Reported plan (noted_behind rest before)
    → Reported plan before
reported-before plan [] before is = is
reported-before plan (what ∷ rest) before is = (reported-before plan rest (what ∷ before) is).1

-- what is noted before a change brings nothing
change-due : (plan : EquipmentPlan) (what : Happening) (before : List Happening) → is_before_change what ≡ true
    → due_behind plan (what ∷ before) ≡ None
change-due plan (Happening.Recorded (Past.Asked request)) before is = refl
change-due plan (Happening.Recorded (Past.Commanded command)) before is = absurd (cc)
change-due plan what before is = refl

-- nor is a setup left behind it
change-left : (what : Happening) (before : List Happening) → is_before_change what ≡ true
    → to_carry (what ∷ before) ≡ []
change-left (Happening.Setup found) before is = absurd (cc)
change-left (Happening.Recorded entry) before is = absurd (cc)
change-left Happening.Refused before is = absurd (cc)
change-left what before is = refl

-- what holds behind each note before a change, and behind all, holds of whatever is noted at a work
module _ (P : List Happening → Type 0)
    (changes : (what : Happening) (before : List Happening) → is_before_change what ≡ true → P (what ∷ before)) where
  up-so : (lines past : List Happening) → P (noted_behind lines past) → P (noted_behind (up_to_change lines) past)
  up-so [] past all = all
  up-so (what ∷ lines) past all = go (is_before_change what) refl (λ later. up-so lines (what ∷ past) later)
    where
      go : (is : Bool) → is_before_change what ≡ is
          → (P (noted_behind lines (what ∷ past)) → P (noted_behind (up_to_change lines) (what ∷ past)))
          → P (noted_behind (if is then [] else up_to_change lines) (what ∷ past))
      go true is more = changes what past is
      go false is more = more all

  front-at :
      (base : List Happening) (works : List DiskWork) (before notes front : List Happening)
      → P (noted_behind before base) → P (noted_behind (before ++ notes) base)
      → Has (fronts_of before works notes) front → P (noted_behind front base)
  front-at base =
      each-front (λ (ns : List Happening). P (noted_behind ns base))
      (λ before notes all.
      subst P (sym (behind-both before (up_to_change notes) base))
      (up-so notes (noted_behind before base) (subst P (behind-both before notes base) all)))

pub front-due :
    (plan : EquipmentPlan) (base : List Happening) (works : List DiskWork) (before notes front : List Happening)
    → due_behind plan (noted_behind before base) ≡ None → due_behind plan (noted_behind (before ++ notes) base) ≡ None
    → Has (fronts_of before works notes) front → due_behind plan (noted_behind front base) ≡ None
front-due plan = front-at (λ (ns : List Happening). due_behind plan ns ≡ None) (change-due plan)

pub front-left :
    (base : List Happening) (works : List DiskWork) (before notes front : List Happening)
    → to_carry (noted_behind before base) ≡ [] → to_carry (noted_behind (before ++ notes) base) ≡ []
    → Has (fronts_of before works notes) front → to_carry (noted_behind front base) ≡ []
front-left = front-at (λ (ns : List Happening). to_carry ns ≡ []) change-left

module _
    (plan : EquipmentPlan) (fits : EquipmentPlanFits plan) (looked : TablesAreLookedBackFor)
    (start : List Happening) where
  module _ (said : List ToolCommand) (before : List Happening) where
    abbrev pub HoldsStep : NodeStep → Type 0
    HoldsStep step = Holds plan start said step.next.own step.next.core.drawn (noted_behind step.notes before)

    abbrev pub IsRight : NodeStep → Type 0
    IsRight step = AreSettled plan start (noted_behind step.notes before)

    abbrev pub NodeEnds : Went (Node OwnView Kind) Happening → Type 0
    NodeEnds went = OnEither HoldsStep IsRight went

    -- where something is asked of an object outside, its request waits
    abbrev pub HoldsOwingStep : NodeStep → Type 0
    HoldsOwingStep step = HoldsOwing plan start said step.next.own step.next.core (noted_behind step.notes before)

    abbrev pub NodeOwes : Went (Node OwnView Kind) Happening → Type 0
    NodeOwes went = OnEither HoldsOwingStep IsRight went

    abbrev pub PartKeeps : ToolPart → Type 0
    PartKeeps part = (step : NodeStep) → HoldsStep step
        → NodeEnds (after_turn Some (part step.next.own step.next.core) step)

    abbrev AllKeep : List ToolPart → Type 0
    AllKeep [] = Unit {0}
    AllKeep (part ∷ parts) = PartKeeps part × AllKeep parts

    of-ends :
        (turn : ToolTurn) (step : NodeStep)
        → Ends plan start said before turn.own (all_done Some turn.duties (core_step step))
        → NodeEnds (after_turn Some turn step)
    of-ends turn step ends = go (all_done Some turn.duties (core_step step)) ends
      where
        go : (went : Went (EndView Kind) Happening) → Ends plan start said before turn.own went
            → NodeEnds (went_with turn.own went)
        go (Goes next) at = at
        go (Spent next) at = at

    owes-ends :
        (turn : ToolTurn) (step : NodeStep)
        → (EndsOwing plan fits looked start said before) turn.own (all_done Some turn.duties (core_step step))
        → NodeOwes (after_turn Some turn step)
    owes-ends turn step ends = go (all_done Some turn.duties (core_step step)) ends
      where
        go : (went : Went (EndView Kind) Happening) → (EndsOwing plan fits looked start said before) turn.own went
            → NodeOwes (went_with turn.own went)
        go (Goes next) at = at
        go (Spent next) at = at

    node-owes : (went : Went (Node OwnView Kind) Happening) → NodeEnds went → NodeOwes went
    node-owes (Goes step) at = none-owing plan start said step.next.own step.next.core (noted_behind step.notes before)
        at
    node-owes (Spent step) at = at

    pub of-turn : (turn : ToolTurn) (step : NodeStep) → KeepsAt plan start said before step.next.own turn
        (core_step step)
        → HoldsStep step → NodeEnds (after_turn Some turn step)
    of-turn turn step keeps holds = of-ends turn step (keeps holds)

    pub plain-part : (part : ToolPart)
        → ((own : OwnView) (e : EndView Kind) → IsPlain Free tt Any any-lasts own (part own e))
        → PartKeeps part
    plain-part part are step holds =
        of-turn (part step.next.own step.next.core) step
        (plain plan start said before step.next.own (part step.next.own step.next.core)
        (are step.next.own step.next.core)
        (core_step step)) holds

    parts-keep : (parts : List ToolPart) → AllKeep parts → (step : NodeStep) → HoldsStep step
        → NodeEnds (after_parts Some parts step)
    parts-keep [] all step holds = holds
    parts-keep (part ∷ parts) all step holds =
        either-then HoldsStep IsRight HoldsStep (after_turn Some (part step.next.own step.next.core) step)
        (after_parts Some parts) (all.0 step holds) (λ next at. parts-keep parts all.1 next at)

    both-keep : (first second : List ToolPart) → AllKeep first → AllKeep second → AllKeep (first ++ second)
    both-keep [] second one two = two
    both-keep (part ∷ first) second one two = (one.0, both-keep first second one.1 two)

    many-keep : (n : ℕ) (part : ToolPart) → PartKeeps part → AllKeep (replicate n part)
    many-keep zero part one = tt
    many-keep (suc n) part one = (one, many-keep n part one)

    -- ---- the line

    failed-keeps : (now : ℕ) (failed : Option Header) (own : OwnView) (e : EndView Kind)
        → Keeps plan start said before own (failed_turn now failed own e)
    failed-keeps now None own e = λ step holds. holds
    failed-keeps now (Some header) own e =
        leaving-keeps plan start said before comms_in.SendFailed (Some header) now own e

    pub tick-keeps : (now : ℕ) → PartKeeps (line_timer now)
    tick-keeps now step holds =
        of-turn (line_timer now step.next.own step.next.core) step
        (λ held.
        led-at plan start said before (Tick now) step.next.own
        (failed_turn now (failed_at step.next.core now) step.next.own (core_after (Tick now) step.next.core))
        (core_step step) tt
        (failed-keeps now (failed_at step.next.core now) step.next.own (core_after (Tick now) step.next.core)) held)
        holds

    -- a block has come, and was this
    other-keeps :
        (now : ℕ) (header : Header) (came : Flow) (own : OwnView) (e : EndView Kind) (next : CoreStep)
        → IsNoMessage came → Holds plan start said own next.next.drawn (so_far plan start said before next)
        → Ends plan start said before (flow_turn now header came own e).own
        (all_done Some (flow_turn now header came own e).duties next)
    other-keeps now header flow.Part own e next none =
        plain plan start said before own (quiet_turn own) (nothing-of own own (itself own)) next
    other-keeps now header (flow.Whole message check) own e next none = absurd none
    other-keeps now header flow.Duplicate own e next none =
        plain plan start said before own (quiet_turn own) (nothing-of own own (itself own)) next
    other-keeps now header (flow.Foreign address) own e next none =
        plain plan start said before own (turn_of own (sent.error_duty 1 header own ∷ []))
        (error-of (common-silent Free tt Any any-lasts) states-stay 1 (λ body. (refl, refl)) header own) next
    other-keeps now header flow.Unexpected own e next none = given-up-keeps plan start said before now header own e next
    other-keeps now header flow.TooLong own e next none = go (is_spent e)
      where
        go : (spent : Bool)
            → Holds plan start said own next.next.drawn (so_far plan start said before next)
            → Ends plan start said before (long_turn spent header own (given_up_turn now header own e)).own
            (all_done Some (long_turn spent header own (given_up_turn now header own e)).duties next)
        go true =
            plain plan start said before own (fixed_turn own (Halt ∷ []))
            (fixed-of own own (Halt ∷ []) (itself own) (tt, tt)) next
        go false = λ holds.
            either-then (λ last. Holds plan start said own last.next.drawn (so_far plan start said before last))
            (λ last. AreSettled plan start (so_far plan start said before last))
            (λ last. Holds plan start said (given_up_turn now header own e).own last.next.drawn
            (so_far plan start said before last))
            (carried Some (sent.error_duty 11 header own next.next) next)
            (all_done Some (given_up_turn now header own e).duties)
            (silent-at plan start said before own (sent.error_duty 11 header own next.next) next
            ((errors-are (common-silent Free tt Any any-lasts) 11 (λ body. (refl, refl)) header own).0 next.next) holds)
            (λ last at. given-up-keeps plan start said before now header own e last at)
    other-keeps now header flow.Crowded own e next none = given-up-keeps plan start said before now header own e next

    -- or one
    came-keeps :
        (now : ℕ) (header : Header) (came : Flow) (own : OwnView) (e : EndView Kind) (old next : CoreStep)
        → next ≡ judges Some header came old → Holds plan start said own next.next.drawn
        (so_far plan start said before next)
        → (EndsOwing plan fits looked start said before) (flow_turn now header came own e).own
        (all_done Some (flow_turn now header came own e).duties next)
    came-keeps now header came own e old next is holds = go came is
      where
        other : (came : Flow) → IsNoMessage came
            → (EndsOwing plan fits looked start said before) (flow_turn now header came own e).own
            (all_done Some (flow_turn now header came own e).duties next)
        other came none =
            (ends-owing plan fits looked start said before) (flow_turn now header came own e).own
            (all_done Some (flow_turn now header came own e).duties next)
            (other-keeps now header came own e next none holds)

        go : (came : Flow) → next ≡ judges Some header came old
            → (EndsOwing plan fits looked start said before) (flow_turn now header came own e).own
            (all_done Some (flow_turn now header came own e).duties next)
        go (flow.Whole message check) is =
            message-keeps plan fits looked start said before now header message own e
            (so_far plan start said before old) next
            (subst (λ (s : CoreStep). AsksOf message s.next.asked) (sym is) (asks-newest message))
            (ap (λ (s : CoreStep). so_far plan start said before s) is
            ∙ one-behind old.notes (Happening.Received message) before) holds
        go flow.Part is = other flow.Part tt
        go flow.Duplicate is = other flow.Duplicate tt
        go (flow.Foreign address) is = other (flow.Foreign address) tt
        go flow.Unexpected is = other flow.Unexpected tt
        go flow.TooLong is = other flow.TooLong tt
        go flow.Crowded is = other flow.Crowded tt

    -- the line has told this of a character
    told-so :
        (now byte : ℕ) (happened : LineEvent) (own : OwnView) (e : EndView Kind) (step : CoreStep)
        → Holds plan start said own step.next.drawn (so_far plan start said before step)
        → (EndsOwing plan fits looked start said before) (took_turn now (took_by step.next happened) own e).own
        (all_done Some (took_turn now (took_by step.next happened) own e).duties
        (tells Some (held_header step.next.line.held) happened now (calls (LineCall.Take byte now) step)))
    told-so now byte happened own e step holds = go happened (at happened)
      where
        next : LineEvent → CoreStep
        next happened = tells Some (held_header step.next.line.held) happened now (calls (LineCall.Take byte now) step)

        at : (happened : LineEvent)
            → Holds plan start said own (next happened).next.drawn (so_far plan start said before (next happened))
        at happened =
            quietly-holds plan start said before own step (next happened)
            (adds-quiet before step.notes (next happened).notes
            (told-quiet (held_header step.next.line.held) happened now (calls (LineCall.Take byte now) step)))
            (told-drawn (held_header step.next.line.held) happened now (calls (LineCall.Take byte now) step)) holds

        failed : (header : Option Header)
            → Holds plan start said own (next event.Failed).next.drawn (so_far plan start said before
            (next event.Failed))
            → Ends plan start said before (took_turn now (failed_as header) own e).own
            (all_done Some (took_turn now (failed_as header) own e).duties (next event.Failed))
        failed None = plain plan start said before own (quiet_turn own) (nothing-of own own (itself own))
            (next event.Failed)
        failed (Some header) = failed-keeps now (Some header) own e (next event.Failed)

        quiet : (happened : LineEvent)
            → Holds plan start said own (next happened).next.drawn (so_far plan start said before (next happened))
            → Ends plan start said before own (all_done Some (quiet_turn own).duties (next happened))
        quiet happened = plain plan start said before own (quiet_turn own) (nothing-of own own (itself own))
            (next happened)

        owing : (happened : LineEvent)
            → Ends plan start said before (took_turn now (took_by step.next happened) own e).own
            (all_done Some (took_turn now (took_by step.next happened) own e).duties (next happened))
            → (EndsOwing plan fits looked start said before) (took_turn now (took_by step.next happened) own e).own
            (all_done Some (took_turn now (took_by step.next happened) own e).duties (next happened))
        owing happened is =
            (ends-owing plan fits looked start said before) (took_turn now (took_by step.next happened) own e).own
            (all_done Some (took_turn now (took_by step.next happened) own e).duties (next happened)) is

        go : (happened : LineEvent)
            → Holds plan start said own (next happened).next.drawn (so_far plan start said before (next happened))
            → (EndsOwing plan fits looked start said before) (took_turn now (took_by step.next happened) own e).own
            (all_done Some (took_turn now (took_by step.next happened) own e).duties (next happened))
        go event.Nothing = λ held. owing event.Nothing (quiet event.Nothing held)
        go event.Sent = λ held. owing event.Sent (quiet event.Sent held)
        go (event.Refused cause) = λ held. owing (event.Refused cause) (quiet (event.Refused cause) held)
        go event.Failed = λ held. owing event.Failed (failed (held_header step.next.line.held) held)
        go (event.Arrived block) =
            came-keeps now block.header (flow_to step.next.assembly block) own e
            (with_end
            (takes_back block.header now (with_assembly (with_block step.next.assembly block now)
            (calls (LineCall.Take byte now) step).next)) (calls (LineCall.Take byte now) step))
            (next (event.Arrived block)) refl

    char-keeps : (byte now : ℕ) (step : NodeStep) → HoldsStep step
        → NodeOwes (after_turn Some (character byte now step.next.own step.next.core) step)
    char-keeps byte now step holds =
        owes-ends (character byte now step.next.own step.next.core) step
        (told-so now byte (line_step step.next.core.line (LineCall.Take byte now)).event step.next.own
        (core_after (Take byte now) step.next.core) (core_step step) holds)

    -- ---- a step

    pub begin-plain : (now : ℕ) (own : OwnView) (e : EndView Kind)
        → IsPlain Free tt Any any-lasts own (beginning now own e)
    begin-plain now own e = go (own.has_begun || not own.plan.enable)
      where
        as_begun : (turn : ToolTurn) → IsPlain Free tt Any any-lasts (begun own) turn
            → IsPlain Free tt Any any-lasts own turn
        as_begun turn is = record {
          duties = is.duties;
          keeps = record {
            plan_is = is.keeps.plan_is;
            kept_is = is.keeps.kept_is;
            tables_are = is.keeps.tables_are;
            events_are = is.keeps.events_are;
            fewer = is.keeps.fewer;
            live = is.keeps.live;
          };
        }

        go : (over : Bool)
            → IsPlain Free tt Any any-lasts own (if over then quiet_turn (begun own)
            else states.comms_turn comms_in.Enable now (begun own))
        go true = as_begun (quiet_turn (begun own)) (nothing-of (begun own) (begun own) (itself (begun own)))
        go false =
            as_begun (states.comms_turn comms_in.Enable now (begun own))
            (comms-plain Free tt Any any-lasts comms_in.Enable now
            (begun own))

    pub t4-keeps : (now : ℕ) → PartKeeps (block_timer now)
    t4-keeps now step holds =
        of-turn (block_timer now step.next.own step.next.core) step
        (λ held.
        led-at plan start said before (DropDue now) step.next.own
        (given_up_by_t4 now (dropped_now step.next.core now) step.next.own (core_after (DropDue now) step.next.core))
        (core_step step) tt
        (by-t4-keeps plan start said before now (dropped_now step.next.core now) step.next.own
        (core_after (DropDue now) step.next.core)) held) holds

    pub t3-keeps : (now : ℕ) → PartKeeps (reply_timer now)
    t3-keeps now step holds =
        of-turn (reply_timer now step.next.own step.next.core) step
        (λ held.
        led-at plan start said before (Expire now) step.next.own
        (timeout_turn now (due_now step.next.core now) step.next.own (core_after (Expire now) step.next.core))
        (core_step step) tt
        (timeout-keeps plan start said before now (due_now step.next.core now) step.next.own
        (core_after (Expire now) step.next.core)) held) holds

    late-keep : (now : ℕ) → AllKeep (late_parts now)
    unfolding late_parts
    late-keep now =
        both-keep (replicate 16 (block_timer now)) (replicate 64 (reply_timer now))
        (many-keep 16 (block_timer now) (t4-keeps now)) (many-keep 64 (reply_timer now) (t3-keeps now))

    samples-keep : (now : ℕ) → AllKeep (sample_parts now)
    unfolding sample_parts
    samples-keep now = (
      plain-part (sampling now) (λ own e. sampling-plain Free tt Any any-lasts now own e),
      many-keep 16 made_part (plain-part made_part (λ own e. made-plain Free tt Any any-lasts own e)),
    )

    pub offer-plain : (now : ℕ) (own : OwnView) (e : EndView Kind) → IsPlain Free tt Any any-lasts own (offer now own e)
    offer-plain now own e =
        led-of own (Offer now) (fixed_turn own []) tt
        (fixed-of own own [] (itself own) tt)

    pub closes-plain : (own : OwnView) (e : EndView Kind) → IsPlain Free tt Any any-lasts own (closes own e)
    closes-plain own e =
        fixed-of own own (CloseStep ∷ []) (itself own) (tt, tt)

  -- some parts, and others behind them
  parts-then :
      (said to : List ToolCommand) (before : List Happening) (parts rest : List ToolPart) → AllKeep said before parts
      → (step : NodeStep) → HoldsStep said before step
      → ((last : NodeStep) → HoldsStep said before last → NodeOwes to before (after_parts Some rest last))
      → NodeOwes to before (after_parts Some (parts ++ rest) step)
  parts-then said to before [] rest all step holds more = more step holds
  parts-then said to before (part ∷ parts) rest all step holds more =
      either-then (HoldsStep said before) (IsRight said before) (HoldsOwingStep to before)
      (after_turn Some (part step.next.own step.next.core) step) (after_parts Some (parts ++ rest)) (all.0 step holds)
      (λ next at. parts-then said to before parts rest all.1 next at more)

  pub input-keeps :
      (said : List ToolCommand) (before : List Happening) (input : Input ToolCommand) (now : ℕ) (step : NodeStep)
      → HoldsStep said before step
      → NodeOwes (with_command input said) before
      (after_turn Some (input_part input now step.next.own step.next.core) step)
  input-keeps said before (Char byte) now step holds = char-keeps said before byte now step holds
  input-keeps said before Time now step holds =
      node-owes said before (after_turn Some (input_part Time now step.next.own step.next.core) step)
      (plain-part said before (input_part Time now) (λ own e. nothing-of own own (itself own)) step holds)
  input-keeps said before (Told command) now step holds =
      node-owes (command ∷ said) before
      (after_turn Some (told_turn command now step.next.own step.next.core) step)
      (of-ends (command ∷ said) before (told_turn command now step.next.own step.next.core) step
      (told-keeps plan fits looked start said before command now step.next.own step.next.core (core_step step) holds))

  -- the first parts of a step
  pub first-keeps :
      (said : List ToolCommand) (before : List Happening) (input : Input ToolCommand) (now : ℕ) (step : NodeStep)
      → HoldsStep said before step
      → NodeOwes (with_command input said) before (after_parts Some (first_parts input now) step)
  first-keeps said before input now step holds =
      parts-then said (with_command input said) before
      (beginning now ∷ line_timer now ∷ (late_parts now ++ delay_timer now ∷ sample_parts now))
      (input_part input now ∷ []) (
        plain-part said before (beginning now) (begin-plain said before now),
        (
          tick-keeps said before now,
          both-keep said before (late_parts now) (delay_timer now ∷ sample_parts now) (late-keep said before now) (
            plain-part said before (delay_timer now)
                (λ own e. comms-plain Free tt Any any-lasts comms_in.Time now own),
            samples-keep said before now,
          ),
        ),
      ) step holds
      (λ last at.
      either-then (HoldsOwingStep (with_command input said) before) (IsRight said before)
      (HoldsOwingStep (with_command input said) before)
      (after_turn Some (input_part input now last.next.own last.next.core) last) (after_parts Some [])
      (input-keeps said before input now last at) (λ next held. held))

  -- what waits for the works is answered
  pub answers-owed :
      (said : List ToolCommand) (before : List Happening) (step : NodeStep) → HoldsOwingStep said before step
      → NodeEnds said before (after_turn Some (answering step.next.own step.next.core) step)
  answers-owed said before step holds =
      of-ends said before (answering step.next.own step.next.core) step
      ((answering-keeps plan fits looked start said before) step.next.own (core_step step) holds)

  -- and its last ones
  pub last-keeps :
      (said : List ToolCommand) (before : List Happening) (oldest : Option Spooled)
      → IfSome oldest (λ message. (message.function % 2 == 1) ≡ true) → (now : ℕ) (step : NodeStep)
      → HoldsOwingStep said before step → NodeEnds said before (after_parts Some (last_parts oldest now) step)
  last-keeps said before oldest odd now step holds =
      either-then (HoldsStep said before) (IsRight said before) (HoldsStep said before)
      (after_turn Some (answering step.next.own step.next.core) step)
      (after_parts Some (unload_part oldest ∷ end_of_spooling ∷ offer now ∷ closes ∷ []))
      (answers-owed said before step holds)
      (λ last at.
      parts-keep said before (unload_part oldest ∷ end_of_spooling ∷ offer now ∷ closes ∷ []) (
        (λ at held.
            of-turn said before (unload_part oldest at.next.own at.next.core) at
            (unload-keeps plan start said before oldest odd at.next.own (core_step at)) held),
        (
          plain-part said before end_of_spooling
              (λ own e.
              booked-plain Free tt Any any-lasts own (rested (is_communicating own) own.ledger)
              (rested-lines spool-quiet (is_communicating own) own.ledger)),
          (
            plain-part said before (offer now) (offer-plain said before now),
            (plain-part said before closes (closes-plain said before), tt),
          ),
        ),
      ) last at)
