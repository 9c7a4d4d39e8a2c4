-- What keeps tries in turn in the last parts of a step, doing by doing.
use Rattle.std.proofs.Common.{◌≡◌, refl, sym, ap, subst, ◌∙◌, Bool, true, false, ℕ, nat_le, List, [], ◌∷◌, ◌++◌, append-nil, length, Option, Some, None, if◌then◌else◌}
use Rattle.std.specs.List.{find}
use Rattle.std.specs.Prelude.{is_some}
use Rattle.block_codec.specs.Block.{BlockView}
use Rattle.block_codec.specs.declared.header.Header.{Header}
use Rattle.line_end.specs.declared.event.LineEvent.{LineEvent}
use Rattle.line_end.specs.declared.event.LineEvent.TheVariants as event
use Rattle.line_end.specs.declared.event.Phase.{Phase}
use Rattle.line_end.specs.declared.event.Phase.TheVariants as phase
use Rattle.line_end.specs.Step.{LineCall, line_step}
use Rattle.message_flow.specs.declared.flow.Flow.{Flow}
use Rattle.message_flow.specs.declared.flow.Flow.TheVariants as flow
use Rattle.message_flow.specs.Assembly as assembly
use Rattle.message_flow.specs.Assembly.{flow_to, header_so_far, with_block}
use Rattle.message_flow.specs.Outgoing.{next_block_of, next_turn}
use Rattle.trace_log.specs.declared.names.Title.{Title}
use Rattle.trace_log.specs.Log.{Happening}
use Rattle.trace_log.specs.Names.{header_title, message_name}
use Rattle.transact.specs.declared.begun.Begun.{Begun}
use Rattle.transact.specs.Numbers.{next_number}
use Rattle.transact.specs.Transactions as transactions
use Rattle.transact.specs.Transactions.{is_answered_by}
use Rattle.message_end.specs.declared.unsent.Unsent.{Unsent}
use Rattle.message_end.specs.Core.{Command, EndView, MayCarry, Went, answers, at_first, calls, carry, drawn_primary, draws, drops, gives, held_header, is_crowded_out, judges, keeps_drawn, noted, offers, primary_of, queues, replies, reply_function, reply_of, sends, takes, takes_back, tells, times_out, unsent_name, with_asked, with_assembly, with_end, with_outgoing}
use Rattle.message_end.specs.Core.Went.{Goes, Spent}
use Rattle.message_end.proofs.Parts.{OnEither, StaysOff}
use Rattle.spool_law.specs.Shelf.{change_of}
use Rattle.tool_step.specs.declared.kind.Kind.{Kind}
use Rattle.tool_step.specs.Own.{ToolCommands, ToolDuty}
use Rattle.tool_law.proofs.CommandWalks.{AllAre, AllDo}
use Rattle.tool_law.proofs.CoreSteps.{CoreStep}
use Rattle.tool_law.proofs.TriedDoings.{AreNoTries, IsNoTry, both-no}

-- ---- commands that note no try

abbrev pub IsFree : Command Kind → Type 0
IsFree (Command.Note what) = IsNoTry (change_of what)
IsFree _ = Unit {0}

-- no try is noted so far
abbrev pub NotesFree : CoreStep → Type 0
NotesFree step = AreNoTries step.notes

one-free : (what : Happening) (notes : List Happening) → IsNoTry (change_of what) → AreNoTries notes
    → AreNoTries (notes ++ what ∷ [])
one-free what notes free so = both-no notes (what ∷ []) so (free, tt)

primary-free :
    (unsent : Unsent Kind) (step : CoreStep) → NotesFree step
    → OnEither NotesFree NotesFree (carry Some (Command.Primary unsent) step)
primary-free unsent step so = go (is_crowded_out (is_some unsent.kind) step.next) (next_number step.next.numbers)
  where
    go : (crowded : Bool) (next : Option ℕ)
        → OnEither NotesFree NotesFree
        (if crowded then Goes (noted Some (Happening.Full (unsent_name unsent)) step)
        else draws next (sends Some unsent) step)
    go true next = one-free (Happening.Full (unsent_name unsent)) step.notes tt so
    go false None = so
    go false (Some number) = one-free (Happening.Sent (primary_of unsent number)) step.notes tt so

draw-free : (step : CoreStep) → NotesFree step → OnEither NotesFree NotesFree (carry Some Command.Draw step)
draw-free step so = go (next_number step.next.numbers)
  where
    go : (next : Option ℕ) → OnEither NotesFree NotesFree (draws next keeps_drawn step)
    go None = so
    go (Some number) = so

drawn-free :
    (unsent : Unsent Kind) (step : CoreStep) → NotesFree step
    → NotesFree (drawn_primary Some unsent step.next.drawn step)
drawn-free unsent step so = go step.next.drawn (is_crowded_out (is_some unsent.kind) step.next)
  where
    room : (number : ℕ) (crowded : Bool)
        → NotesFree
        (if crowded then noted Some (Happening.Full (unsent_name unsent)) step
        else sends Some unsent number (with_end (record step.next { drawn = None }) step))
    room number true = one-free (Happening.Full (unsent_name unsent)) step.notes tt so
    room number false = one-free (Happening.Sent (primary_of unsent number)) step.notes tt so

    go : (drawn : Option ℕ) (crowded : Bool) → NotesFree (drawn_primary Some unsent drawn step)
    go None crowded = so
    go (Some number) crowded = room number (is_crowded_out (is_some unsent.kind) step.next)

reply-free :
    (function : ℕ → ℕ) (body : List ℕ) (step : CoreStep) → NotesFree step
    → NotesFree (replies Some step.next.asked function body step)
reply-free function body step so = go step.next.asked
  where
    room :
        (title : Title) (full : Bool)
        → NotesFree
        (if full
        then noted Some (Happening.Full (message_name (reply_of title (function title.name.function) body)))
        (with_end (with_asked None step.next) step)
        else queues Some (reply_of title (function title.name.function) body)
        (with_end (with_asked None step.next) step))
    room title true =
        one-free (Happening.Full (message_name (reply_of title (function title.name.function) body))) step.notes tt so
    room title false =
        one-free (Happening.Sent (reply_of title (function title.name.function) body)) step.notes tt so

    go : (asked : Option Title) → NotesFree (replies Some asked function body step)
    go None = so
    go (Some title) = room title (nat_le 128 (length step.next.outgoing.waiting))

pub offer-notes :
    (at : Phase) (held : Option BlockView) (now : ℕ) (step : CoreStep) → (offers at held now step).notes ≡ step.notes
offer-notes at held now step = go at held
  where
    given : (block : Option BlockView)
        → (gives block now (with_end (with_outgoing (next_turn step.next.outgoing) step.next) step)).notes ≡ step.notes
    given None = refl
    given (Some block) = refl

    go : (at : Phase) (held : Option BlockView) → (offers at held now step).notes ≡ step.notes
    go phase.Idle (Some held) = refl
    go phase.Idle None =
        given (next_block_of step.next.outgoing.side step.next.outgoing.device step.next.outgoing.waiting).0
    go phase.AwaitEot held = refl
    go phase.AwaitAck held = refl
    go phase.AwaitLength held = refl
    go phase.Gathering held = refl
    go phase.Settling held = refl

judged-free : (header : Header) (judged : Flow) (step : CoreStep) → NotesFree step → NotesFree
    (judges Some header judged step)
judged-free header flow.Part step so = so
judged-free header (flow.Whole message check) step so = one-free (Happening.Received message) step.notes tt so
judged-free header flow.Duplicate step so = one-free (Happening.Duplicate header) step.notes tt so
judged-free header (flow.Foreign address) step so = one-free (Happening.Foreign header) step.notes tt so
judged-free header flow.Unexpected step so = one-free (Happening.Unexpected header) step.notes tt so
judged-free header flow.TooLong step so = one-free (Happening.TooLongBlock header) step.notes tt so
judged-free header flow.Crowded step so = one-free (Happening.Crowded header) step.notes tt so

told-free :
    (held : Option Header) (happened : LineEvent) (now : ℕ) (step : CoreStep) → NotesFree step
    → NotesFree (tells Some held happened now step)
told-free held (event.Arrived block) now step so =
    judged-free block.header (flow_to step.next.assembly block)
    (with_end (takes_back block.header now (with_assembly (with_block step.next.assembly block now) step.next)) step) so
told-free held event.Sent now step so = so
told-free held event.Nothing now step so = so
told-free held event.Failed now step so = so
told-free held (event.Refused cause) now step so = so

drop-free : (header : Option Header) (now : ℕ) (step : CoreStep) → NotesFree step → NotesFree
    (drops Some header now step)
drop-free None now step so = so
drop-free (Some header) now step so = one-free (Happening.DroppedByT4 header) step.notes tt so

time-free :
    (test : Begun Kind → Bool) (found : Option (Begun Kind)) (step : CoreStep) → NotesFree step
    → NotesFree (times_out Some test found step)
time-free test None step so = so
time-free test (Some begun) step so = one-free (Happening.TimedOut (header_title begun.header)) step.notes tt so

answer-free :
    (header : Header) (found : Option (Begun Kind)) (step : CoreStep) → NotesFree step
    → NotesFree (answers Some header found step)
answer-free header None step so = one-free (Happening.Stranger (header_title header)) step.notes tt so
answer-free header (Some begun) step so = so

pub carry-free :
    (command : Command Kind) (step : CoreStep) → IsFree command → NotesFree step
    → OnEither NotesFree NotesFree (carry Some command step)
carry-free (Command.Note what) step free so = one-free what step.notes free so
carry-free (Command.Primary unsent) step free so = primary-free unsent step so
carry-free Command.Draw step free so = draw-free step so
carry-free (Command.DrawnPrimary unsent) step free so = drawn-free unsent step so
carry-free (Command.More count) step free so = so
carry-free (Command.Reply body) step free so = reply-free reply_function body step so
carry-free Command.Abort step free so = reply-free (λ function. 0) [] step so
carry-free (Command.Tick now) step free so = so
carry-free (Command.Take byte now) step free so =
    told-free (held_header step.next.line.held) (line_step step.next.line (LineCall.Take byte now)).event now
    (calls (LineCall.Take byte now) step) so
carry-free (Command.Offer now) step free so =
    subst AreNoTries (sym (offer-notes step.next.line.phase step.next.line.held now step)) so
carry-free (Command.DropDue now) step free so =
    drop-free (header_so_far (find (assembly.is_due now) step.next.assembly.partials)) now step so
carry-free (Command.Expire now) step free so =
    time-free (transactions.is_due now) (find (transactions.is_due now) step.next.transactions.begun) step so
carry-free (Command.Answer header) step free so =
    answer-free header (find (is_answered_by header) step.next.transactions.begun) step so
carry-free (Command.GiveUp header) step free so =
    time-free (is_answered_by header) (find (is_answered_by header) step.next.transactions.begun) step so
carry-free (Command.End system) step free so = so
carry-free (Command.Recall header) step free so = so
carry-free (Command.Remove primary system) step free so = so
carry-free Command.DropFront step free so = so
carry-free Command.CloseStep step free so = one-free Happening.StepEnded step.notes tt so
carry-free Command.Halt step free so = so

-- ---- a command behind what was noted and written before

abbrev pub ahead : CoreStep → CoreStep → CoreStep
ahead first later = record {
  next = later.next;
  notes = first.notes ++ later.notes;
  written = first.written ++ later.written;
}

abbrev pub went_ahead : CoreStep → Went (EndView Kind) Happening → Went (EndView Kind) Happening
went_ahead first (Goes later) = Goes (ahead first later)
went_ahead first (Spent later) = Spent (ahead first later)

-- nothing is noted or written
quietly : (step : CoreStep) (next : EndView Kind) → with_end next step ≡ ahead step (with_end next (at_first step.next))
quietly step next =
    ap (λ (ns : List Happening). record { next = next; notes = ns; written = step.written })
    (sym (append-nil step.notes))
    ∙ ap (λ (ws : List ℕ). record { next = next; notes = step.notes ++ []; written = ws })
    (sym (append-nil step.written))

-- this is noted
noting :
    (step : CoreStep) (next : EndView Kind) (what : Happening)
    → noted Some what (with_end next step) ≡ ahead step (noted Some what (with_end next (at_first step.next)))
noting step next what =
    ap (λ (ws : List ℕ). record { next = next; notes = step.notes ++ what ∷ []; written = ws })
    (sym (append-nil step.written))

abbrev pub IsAhead : CoreStep → Went (EndView Kind) Happening → Went (EndView Kind) Happening → Type 0
IsAhead step one other = one ≡ went_ahead step other

pub goes : (one other : CoreStep) → one ≡ other → Goes one ≡ Goes other
goes one other same = ap (λ (s : CoreStep). Goes s) same

primary-ahead :
    (unsent : Unsent Kind) (step : CoreStep)
    → IsAhead step (carry Some (Command.Primary unsent) step) (carry Some (Command.Primary unsent) (at_first step.next))
primary-ahead unsent step = go (is_crowded_out (is_some unsent.kind) step.next) (next_number step.next.numbers)
  where
    go : (crowded : Bool) (next : Option ℕ)
        → IsAhead step
        (if crowded then Goes (noted Some (Happening.Full (unsent_name unsent)) step)
        else draws next (sends Some unsent) step)
        (if crowded then Goes (noted Some (Happening.Full (unsent_name unsent)) (at_first step.next))
        else draws next (sends Some unsent) (at_first step.next))
    go true next = goes _ _ (noting step step.next (Happening.Full (unsent_name unsent)))
    go false None = ap (λ (s : CoreStep). Spent s) (quietly step step.next)
    go false (Some number) = goes _ _ (noting step _ (Happening.Sent (primary_of unsent number)))

draw-ahead : (step : CoreStep) → IsAhead step (carry Some Command.Draw step)
    (carry Some Command.Draw (at_first step.next))
draw-ahead step = go (next_number step.next.numbers)
  where
    go : (next : Option ℕ)
        → IsAhead step (draws next keeps_drawn step) (draws next keeps_drawn (at_first step.next))
    go None = ap (λ (s : CoreStep). Spent s) (quietly step step.next)
    go (Some number) = goes _ _ (quietly step _)

drawn-ahead :
    (unsent : Unsent Kind) (step : CoreStep)
    → IsAhead step (carry Some (Command.DrawnPrimary unsent) step)
    (carry Some (Command.DrawnPrimary unsent) (at_first step.next))
drawn-ahead unsent step = go step.next.drawn
  where
    room : (number : ℕ) (crowded : Bool)
        → (if crowded then noted Some (Happening.Full (unsent_name unsent)) step
        else sends Some unsent number (with_end (record step.next { drawn = None }) step))
        ≡ ahead step
        (if crowded then noted Some (Happening.Full (unsent_name unsent)) (at_first step.next)
        else sends Some unsent number (with_end (record step.next { drawn = None }) (at_first step.next)))
    room number true = noting step step.next (Happening.Full (unsent_name unsent))
    room number false = noting step _ (Happening.Sent (primary_of unsent number))

    go : (drawn : Option ℕ)
        → IsAhead step (Goes (drawn_primary Some unsent drawn step))
        (Goes (drawn_primary Some unsent drawn (at_first step.next)))
    go None = goes _ _ (quietly step step.next)
    go (Some number) = goes _ _ (room number (is_crowded_out (is_some unsent.kind) step.next))

reply-ahead :
    (function : ℕ → ℕ) (body : List ℕ) (step : CoreStep)
    → replies Some step.next.asked function body step
    ≡ ahead step (replies Some step.next.asked function body (at_first step.next))
reply-ahead function body step = go step.next.asked
  where
    room : (title : Title) (full : Bool)
        → (if full
        then noted Some (Happening.Full (message_name (reply_of title (function title.name.function) body)))
        (with_end (with_asked None step.next) step)
        else queues Some (reply_of title (function title.name.function) body)
        (with_end (with_asked None step.next) step))
        ≡ ahead step
        (if full
        then noted Some (Happening.Full (message_name (reply_of title (function title.name.function) body)))
        (with_end (with_asked None step.next) (at_first step.next))
        else queues Some (reply_of title (function title.name.function) body)
        (with_end (with_asked None step.next) (at_first step.next)))
    room title true =
        noting step _ (Happening.Full (message_name (reply_of title (function title.name.function) body)))
    room title false = noting step _ (Happening.Sent (reply_of title (function title.name.function) body))

    go : (asked : Option Title)
        → replies Some asked function body step
        ≡ ahead step (replies Some asked function body (at_first step.next))
    go None = quietly step step.next
    go (Some title) = room title (nat_le 128 (length step.next.outgoing.waiting))

time-ahead :
    (test : Begun Kind → Bool) (found : Option (Begun Kind)) (step : CoreStep)
    → times_out Some test found step ≡ ahead step (times_out Some test found (at_first step.next))
time-ahead test None step = quietly step step.next
time-ahead test (Some begun) step = noting step _ (Happening.TimedOut (header_title begun.header))

answer-ahead :
    (header : Header) (found : Option (Begun Kind)) (step : CoreStep)
    → answers Some header found step ≡ ahead step (answers Some header found (at_first step.next))
answer-ahead header None step = noting step step.next (Happening.Stranger (header_title header))
answer-ahead header (Some begun) step = quietly step _

-- those that don't call the line
pub carry-ahead :
    (command : Command Kind) (step : CoreStep) → StaysOff command
    → IsAhead step (carry Some command step) (carry Some command (at_first step.next))
carry-ahead (Command.Note what) step off = goes _ _ (noting step step.next what)
carry-ahead (Command.Primary unsent) step off = primary-ahead unsent step
carry-ahead Command.Draw step off = draw-ahead step
carry-ahead (Command.DrawnPrimary unsent) step off = drawn-ahead unsent step
carry-ahead (Command.More count) step off = absurd off
carry-ahead (Command.Reply body) step off = goes _ _ (reply-ahead reply_function body step)
carry-ahead Command.Abort step off = goes _ _ (reply-ahead (λ function. 0) [] step)
carry-ahead (Command.Tick now) step off = absurd off
carry-ahead (Command.Take byte now) step off = absurd off
carry-ahead (Command.Offer now) step off = absurd off
carry-ahead (Command.DropDue now) step off = absurd off
carry-ahead (Command.Expire now) step off =
    goes _ _ (time-ahead (transactions.is_due now) (find (transactions.is_due now) step.next.transactions.begun) step)
carry-ahead (Command.Answer header) step off =
    goes _ _ (answer-ahead header (find (is_answered_by header) step.next.transactions.begun) step)
carry-ahead (Command.GiveUp header) step off =
    goes _ _ (time-ahead (is_answered_by header) (find (is_answered_by header) step.next.transactions.begun) step)
carry-ahead (Command.End system) step off = goes _ _ (quietly step _)
carry-ahead (Command.Recall header) step off = goes _ _ (quietly step _)
carry-ahead (Command.Remove primary system) step off = goes _ _ (quietly step _)
carry-ahead Command.DropFront step off = goes _ _ (quietly step _)
carry-ahead Command.CloseStep step off = absurd off
carry-ahead Command.Halt step off = ap (λ (s : CoreStep). Spent s) (quietly step step.next)

-- a call of the line
pub calls-ahead :
    (step : CoreStep) (next : EndView Kind) (call : LineCall)
    → calls call (with_end next step) ≡ ahead step (calls call (with_end next (at_first step.next)))
calls-ahead step next call =
    ap
    (λ (ns : List Happening). record {
      next = (calls call (with_end next step)).next;
      notes = ns;
      written = step.written ++ (line_step next.line call).written;
    }) (sym (append-nil step.notes))

pub drop-ahead :
    (header : Option Header) (now : ℕ) (step : CoreStep)
    → drops Some header now step ≡ ahead step (drops Some header now (at_first step.next))
drop-ahead None now step = quietly step step.next
drop-ahead (Some header) now step = noting step _ (Happening.DroppedByT4 header)

-- what is taken is noted behind a call
pub takes-ahead :
    (byte now : ℕ) (step : CoreStep)
    → takes Some byte now step ≡ ahead step (takes Some byte now (at_first step.next))
takes-ahead byte now step = told (line_step step.next.line (LineCall.Take byte now)).event
  where
    wrote : List ℕ
    wrote = (line_step step.next.line (LineCall.Take byte now)).written

    -- nothing is noted
    still : (next : EndView Kind)
        → with_end next (calls (LineCall.Take byte now) step)
        ≡ ahead step (with_end next (calls (LineCall.Take byte now) (at_first step.next)))
    still next =
        ap (λ (ns : List Happening). record { next = next; notes = ns; written = step.written ++ wrote })
        (sym (append-nil step.notes))

    judged : (header : Header) (came : Flow) (next : EndView Kind)
        → judges Some header came (with_end next (calls (LineCall.Take byte now) step))
        ≡ ahead step (judges Some header came (with_end next (calls (LineCall.Take byte now) (at_first step.next))))
    judged header flow.Part next = still _
    judged header (flow.Whole message check) next = refl
    judged header flow.Duplicate next = refl
    judged header (flow.Foreign address) next = refl
    judged header flow.Unexpected next = refl
    judged header flow.TooLong next = refl
    judged header flow.Crowded next = refl

    told : (happened : LineEvent)
        → tells Some (held_header step.next.line.held) happened now (calls (LineCall.Take byte now) step)
        ≡ ahead step
        (tells Some (held_header step.next.line.held) happened now
        (calls (LineCall.Take byte now) (at_first step.next)))
    told (event.Arrived block) =
        judged block.header (flow_to step.next.assembly block)
        (takes_back block.header now
        (with_assembly (with_block step.next.assembly block now) (calls (LineCall.Take byte now) step).next))
    told event.Sent = still _
    told event.Nothing = still _
    told event.Failed = still _
    told (event.Refused cause) = still _

pub offer-ahead :
    (at : Phase) (held : Option BlockView) (now : ℕ) (step : CoreStep)
    → offers at held now step ≡ ahead step (offers at held now (at_first step.next))
offer-ahead at held now step = go at held
  where
    given : (block : Option BlockView)
        → gives block now (with_end (with_outgoing (next_turn step.next.outgoing) step.next) step)
        ≡ ahead step
        (gives block now (with_end (with_outgoing (next_turn step.next.outgoing) step.next) (at_first step.next)))
    given None = quietly step _
    given (Some block) = calls-ahead step (with_outgoing (next_turn step.next.outgoing) step.next)
        (LineCall.Send block now)

    go : (at : Phase) (held : Option BlockView)
        → offers at held now step ≡ ahead step (offers at held now (at_first step.next))
    go phase.Idle (Some held) = calls-ahead step step.next (LineCall.Resume now)
    go phase.Idle None =
        given (next_block_of step.next.outgoing.side step.next.outgoing.device step.next.outgoing.waiting).0
    go phase.AwaitEot held = quietly step step.next
    go phase.AwaitAck held = quietly step step.next
    go phase.AwaitLength held = quietly step step.next
    go phase.Gathering held = quietly step step.next
    go phase.Settling held = quietly step step.next

-- ---- mild commands

-- it calls no line, drops no message, adds no numbers, and notes no try
abbrev pub StaysMild : Command Kind → Type 0
StaysMild (Command.Note what) = IsNoTry (change_of what)
StaysMild (Command.Tick now) = ⊥
StaysMild (Command.Take byte now) = ⊥
StaysMild (Command.Offer now) = ⊥
StaysMild (Command.DropDue now) = ⊥
StaysMild (Command.More count) = ⊥
StaysMild Command.CloseStep = ⊥
StaysMild _ = Unit {0}

-- such a command that may be carried out
abbrev pub IsMildCommand : Command Kind → Type 0
IsMildCommand command = StaysMild command × MayCarry command

abbrev pub IsMild : ToolCommands → Type 0
IsMild commands = AllAre IsMildCommand commands

pub mild-off : (command : Command Kind) → StaysMild command → StaysOff command × IsFree command
mild-off (Command.Note what) mild = (tt, mild)
mild-off (Command.Primary unsent) mild = (tt, tt)
mild-off Command.Draw mild = (tt, tt)
mild-off (Command.DrawnPrimary unsent) mild = (tt, tt)
mild-off (Command.More count) mild = absurd mild
mild-off (Command.Reply body) mild = (tt, tt)
mild-off Command.Abort mild = (tt, tt)
mild-off (Command.Tick now) mild = absurd mild
mild-off (Command.Take byte now) mild = absurd mild
mild-off (Command.Offer now) mild = absurd mild
mild-off (Command.DropDue now) mild = absurd mild
mild-off (Command.Expire now) mild = (tt, tt)
mild-off (Command.Answer header) mild = (tt, tt)
mild-off (Command.GiveUp header) mild = (tt, tt)
mild-off (Command.End system) mild = (tt, tt)
mild-off (Command.Recall header) mild = (tt, tt)
mild-off (Command.Remove primary system) mild = (tt, tt)
mild-off Command.DropFront mild = (tt, tt)
mild-off Command.CloseStep mild = absurd mild
mild-off Command.Halt mild = (tt, tt)

abbrev pub AreMildDuties : List ToolDuty → Type 0
AreMildDuties duties = AllDo IsMildCommand duties
