-- That turns hold the reports that they had.
use Rattle.std.proofs.Common.{◌≡◌, refl, sym, ap, subst, inl, inr, ◌⊎◌, arith, ◌<◌, Bool, true, false, ℕ, List, [], ◌∷◌, ◌++◌, length, Option, Some, None, if◌then◌else◌}
use Rattle.std.specs.List.{cons_option, filter_map, find}
use Rattle.std.proofs.lemmas.List.Elements.{All-nil, All-cons, All-head, All-tail}
use Rattle.std.specs.Option.{option_map, option_map_or}
use Rattle.std.specs.Prelude.{All, IfSome}
use Rattle.gem_spool.specs.declared.spool.Room.{Room}
use Rattle.gem_spool.specs.declared.spool.Room.TheVariants as room
use Rattle.spool_ledger.specs.Ledger.{Booked, LedgerView, is_full, next_of, room_for, size_of}
use Rattle.spool_ledger.specs.Storing.{oldest_out, put, room_made, stored, stored_by, with_room}
use Rattle.spool_ledger.proofs.Keeping.{made_if}
use Rattle.trace_log.specs.declared.names.Cause.TheVariants.{Overwritten}
use Rattle.trace_log.specs.Names.{Spooled}
use Rattle.transact.specs.declared.begun.Begun.{Begun}
use Rattle.transact.specs.Transactions.{system_of}
use Rattle.message_end.proofs.Carrying.{carried_append}
use Rattle.equipment_tables.specs.Tables.{overwrites}
use Rattle.tool_step.specs.declared.kind.Kind.TheVariants as kind
use Rattle.tool_step.specs.Spooling.{Stores, booked_turn, is_spooled, lines_commands, stored_turn, stores_all, stores_behind, stores_commands, stores_none}
use Rattle.tool_step.specs.States as states
use Rattle.trace_log.specs.declared.commands.ToolCommand.{ToolCommand}
use Rattle.trace_log.specs.declared.names.Title.{Title}
use Rattle.trace_log.specs.Log.{Happening}
use Rattle.transact.specs.Numbers.{next_number}
use Rattle.message_end.specs.Core.{Command, EndView, Went, carried, carry, draws, is_crowded_out, noted, primary_of, sends, unsent_name}
use Rattle.message_end.specs.Core.Command.{Halt, Primary}
use Rattle.message_end.specs.Core.Went.{Goes}
use Rattle.message_end.specs.Course.{noted_behind}
use Rattle.message_end.specs.Duties.{all_done}
use Rattle.message_end.specs.Parts.{fixed_turn, led_turn}
use Rattle.equipment_tables.specs.declared.plan.EquipmentPlan.{EquipmentPlan}
use Rattle.tool_step.specs.Grants.{GrantView}
use Rattle.tool_step.specs.declared.kind.Kind.{Kind}
use Rattle.tool_step.specs.Live.{ReportView}
use Rattle.tool_step.specs.Own.{OwnView, ToolCommands, ToolTurn, event_report, is_granted_by, is_report_of, sent_report, waiting_report, with_ledger, without_grant}
use Rattle.tool_step.specs.Replies.{granted_turn}
use Rattle.message_end.specs.Own.{Has}
use Rattle.message_end.specs.declared.unsent.Unsent.{Unsent}
use Rattle.tool_reports.specs.Reported.{Happened, IsKeptReport, count_of_events, events_in}
use Rattle.tool_step.specs.Sent as sent
use Rattle.tool_reports.proofs.PlainTurns.{AreQuietLines, IsPlain, booked-stays, ungranted}
use Rattle.tool_reports.proofs.QuietNotes.{AreSettled, IsAsBefore, IsQuietNote, one, one-behind, quiet-note, settled-more, still-rests}
use Rattle.tool_reports.proofs.SilentCommands.{IsSilent, AreSilent, IsQuietly, carried-quietly, done-quietly}
use Rattle.message_end.proofs.Parts.{OnEither, either-then, either-less}
use Rattle.tool_law.proofs.CoreSteps.{CoreStep}
use Rattle.tool_reports.proofs.QuietReports.{Holds, HasSpare, holds-less, holds-as, equal-bytes, of-event, report-sent, with-live, found-waiting, granted-spare, has-found}

-- ---- turns, behind what was noted before the step

abbrev pub Free : Option Title → Type 0
Free asked = Unit {0}

-- and nothing need hold of the notes
abbrev pub Any : List Happening → Type 0
Any notes = Unit {0}

pub any-lasts : (old new : List Happening) → IsAsBefore old new → Any old → Any new
any-lasts old new same any = tt

module _ (plan : EquipmentPlan) (start : List Happening) (said : List ToolCommand) (before : List Happening) where
  abbrev pub so_far : CoreStep → List Happening
  so_far step = noted_behind step.notes before

  -- it holds still, or the numbers are spent and all that was noted until then is right
  abbrev pub Ends : OwnView → Went (EndView Kind) Happening → Type 0
  Ends own went = OnEither (λ step. Holds plan start said own step.next.drawn (so_far step))
      (λ step. AreSettled plan start (so_far step)) went

  abbrev pub KeepsAt : OwnView → ToolTurn → CoreStep → Type 0
  KeepsAt own turn step = Holds plan start said own step.next.drawn (so_far step)
      → Ends turn.own (all_done Some turn.duties step)

  abbrev pub Keeps : OwnView → ToolTurn → Type 0
  Keeps own turn = (step : CoreStep) → KeepsAt own turn step

  pub noted-so : (own : OwnView) (what : Happening) (step : CoreStep)
      → Holds plan start said own step.next.drawn (what ∷ so_far step)
      → Holds plan start said own (noted Some what step).next.drawn (so_far (noted Some what step))
  noted-so own what step holds =
      subst (λ (notes : List Happening). Holds plan start said own step.next.drawn notes)
      (sym (one-behind step.notes what before)) holds

  pub quietly-holds :
      (own : OwnView) (step next : CoreStep) → IsAsBefore (so_far step) (so_far next)
      → next.next.drawn ≡ step.next.drawn → Holds plan start said own step.next.drawn (so_far step)
      → Holds plan start said own next.next.drawn (so_far next)
  quietly-holds own step next same drawn holds =
      subst (λ (d : Option ℕ). Holds plan start said own d (so_far next)) (sym drawn)
      (holds-as plan start said own (so_far step) (so_far next) holds same)

  pub plain-at :
      (Asks : Option Title → Type 0) (none : Asks None) (Fact : List Happening → Type 0)
      (lasts : (old new : List Happening) → IsAsBefore old new → Fact old → Fact new) (own : OwnView)
      (turn : ToolTurn) (step : CoreStep)
      → IsPlain Asks none Fact lasts own turn → Asks step.next.asked → Fact (so_far step) → KeepsAt own turn step
  plain-at Asks none Fact lasts own turn step plain asks fact holds =
      either-less (IsQuietly Asks none Fact lasts before step) (IsQuietly Asks none Fact lasts before step)
      (λ next. Holds plan start said turn.own next.next.drawn (so_far next))
      (λ next. AreSettled plan start (so_far next))
      (all_done Some turn.duties step)
      (done-quietly Asks none Fact lasts before turn.duties step plain.duties asks fact)
      (λ next quiet.
      holds-less plan start said own turn.own (so_far next) (quietly-holds own step next quiet.notes quiet.drawn holds)
      plain.keeps)
      (λ next quiet. quiet.notes.keeps plan start holds.settled)

  pub plain : (own : OwnView) (turn : ToolTurn) → IsPlain Free tt Any any-lasts own turn → Keeps own turn
  plain own turn is step holds = plain-at Free tt Any any-lasts own turn step is tt tt holds

  -- a turn behind a command that notes nothing of reports
  pub led-at :
      (lead : Command Kind) (own : OwnView) (turn : ToolTurn) (step : CoreStep) → IsSilent Free tt Any any-lasts lead
      → Keeps own turn → KeepsAt own (led_turn lead turn) step
  led-at lead own turn step silent keeps holds =
      either-then (λ next. Holds plan start said own next.next.drawn (so_far next))
      (λ next. AreSettled plan start (so_far next))
      (λ next. Holds plan start said turn.own next.next.drawn (so_far next)) (carried Some (lead ∷ []) step)
      (all_done Some turn.duties)
      (either-less (IsQuietly Free tt Any any-lasts before step) (IsQuietly Free tt Any any-lasts before step)
      (λ next. Holds plan start said own next.next.drawn (so_far next)) (λ next. AreSettled plan start (so_far next))
      (carried Some (lead ∷ []) step)
      (carried-quietly Free tt Any any-lasts before (lead ∷ []) step (silent, tt) tt tt)
      (λ next quiet. quietly-holds own step next quiet.notes quiet.drawn holds)
      (λ next quiet. quiet.notes.keeps plan start holds.settled))
      (λ next at. keeps next at)

  -- an S6F11 goes, if there is room and a number for it
  pub report-at :
      (own : OwnView) (text : List ℕ) (step : CoreStep) → Holds plan start said own step.next.drawn (so_far step)
      → HasSpare plan own (so_far step) text
      → Ends own (carried Some (Primary (sent.live_report (event_report text)) ∷ []) step)
  report-at own text step holds spare =
      either-then (λ next. Holds plan start said own next.next.drawn (so_far next))
      (λ next. AreSettled plan start (so_far next))
      (λ next. Holds plan start said own next.next.drawn (so_far next)) (carry Some (Primary unsent) step)
      (carried Some [])
      (go (is_crowded_out true step.next)) (λ next at. at)
    where
      unsent : Unsent Kind
      unsent = sent.live_report (event_report text)

      drawn : (number : Option ℕ) → Ends own (draws number (sends Some unsent) step)
      drawn None = holds.settled
      drawn (Some number) =
          subst (λ (notes : List Happening). Holds plan start said own step.next.drawn notes)
          (sym (one-behind step.notes (Happening.Sent (primary_of unsent number)) before))
          (report-sent plan start said own (so_far step) text number holds spare)

      go : (crowded : Bool)
          → Ends own
          (if crowded then Goes (noted Some (Happening.Full (unsent_name unsent)) step)
          else draws (next_number step.next.numbers) (sends Some unsent) step)
      go true =
          noted-so own (Happening.Full (unsent_name unsent)) step
          (holds-as plan start said own (so_far step) (Happening.Full (unsent_name unsent) ∷ so_far step) holds
          (quiet-note (Happening.Full (unsent_name unsent)) tt (so_far step)))
      go false = drawn (next_number step.next.numbers)

  -- it is kept as it goes
  some-event : (own : OwnView) (text : List ℕ) (notes : List Happening) → HasSpare plan own notes text
      → 0 < count_of_events plan text notes
  some-event own text notes spare =
      let most = spare text in let same = ap one (equal-bytes text) in omega (arith, most, same)

  pub reports-at :
      (own : OwnView) (text : List ℕ) (e : EndView Kind) (step : CoreStep)
      → Holds plan start said own step.next.drawn (so_far step) → HasSpare plan own (so_far step) text
      → Ends (sent.live_own (event_report text) own e)
      (all_done Some (sent.going_turn (event_report text) own e).duties step)
  reports-at own text e step holds spare =
      either-then (λ next. Holds plan start said kept next.next.drawn (so_far next))
      (λ next. AreSettled plan start (so_far next))
      (λ next. Holds plan start said kept next.next.drawn (so_far next))
      (carried Some (Primary (sent.live_report (event_report text)) ∷ []) step)
      (all_done Some [])
      (report-at kept text step
      (with-live plan start said own (so_far step) text (is_crowded_out true e) (next_number e.numbers) holds
      (some-event own text (so_far step) spare))
      (spare-kept (is_crowded_out true e) (next_number e.numbers))) (λ next at. at)
    where
      kept : OwnView
      kept = sent.live_own (event_report text) own e

      spare-kept : (crowded : Bool) (next : Option ℕ)
          → HasSpare plan (if crowded then own else sent.kept_report next (event_report text) own) (so_far step) text
      spare-kept true next = spare
      spare-kept false None = spare
      spare-kept false (Some system) = spare

  -- with a grant the report goes
  pub granted-keeps : (system : ℕ) (own : OwnView) (e : EndView Kind)
      → Keeps own (granted_turn (waiting_report system own) (without_grant system own) e)
  granted-keeps system own e step holds = go (find (is_granted_by system) own.for_grant) refl
    where
      less : Holds plan start said (without_grant system own) step.next.drawn (so_far step)
      less = holds-less plan start said own (without_grant system own) (so_far step) holds (ungranted own system)

      turn_by : Option GrantView → ToolTurn
      turn_by found =
          granted_turn (option_map (λ (one : GrantView). event_report one.body) found) (without_grant system own) e

      go : (found : Option GrantView) → find (is_granted_by system) own.for_grant ≡ found
          → Ends (turn_by found).own (all_done Some (turn_by found).duties step)
      go None is = less
      go (Some found) is =
          reports-at (without_grant system own) found.body e step less
          (granted-spare plan start said own system found (so_far step) holds is)

  -- commands of which nothing is said
  pub silent-at :
      (own : OwnView) (commands : ToolCommands) (step : CoreStep) → AreSilent Free tt Any any-lasts commands
      → Holds plan start said own step.next.drawn (so_far step) → Ends own (carried Some commands step)
  silent-at own commands step silent holds =
      either-less (IsQuietly Free tt Any any-lasts before step) (IsQuietly Free tt Any any-lasts before step)
      (λ next. Holds plan start said own next.next.drawn (so_far next)) (λ next. AreSettled plan start (so_far next))
      (carried Some commands step) (carried-quietly Free tt Any any-lasts before commands step silent tt tt)
      (λ next quiet. quietly-holds own step next quiet.notes quiet.drawn holds)
      (λ next quiet. quiet.notes.keeps plan start holds.settled)

  -- ---- messages that are put

  -- an S6F11 that may be put: it is of an event
  pub kept-waiting :
      (own : OwnView) (drawn : Option ℕ) (notes : List Happening) (system : ℕ) → Holds plan start said own drawn notes
      → IfSome (waiting_report system own) (λ message. IsKeptReport plan message notes)
  kept-waiting own drawn notes system holds = go (find (is_granted_by system) own.for_grant) refl
    where
      go : (found : Option GrantView) → find (is_granted_by system) own.for_grant ≡ found
          → IfSome (option_map (λ (one : GrantView). event_report one.body) found)
          (λ message. IsKeptReport plan message notes)
      go None is = tt
      go (Some found) is = λ event.
          of-event plan found.body notes
          (let all = found-waiting (is_granted_by system) own.for_grant found found.body is in
          let most = holds.waits found.body in let same = ap one (equal-bytes found.body) in
          omega (arith, all, most, same))

  pub kept-live :
      (own : OwnView) (drawn : Option ℕ) (notes : List Happening) (system : ℕ) → Holds plan start said own drawn notes
      → IfSome (sent_report system own) (λ message. IsKeptReport plan message notes)
  kept-live own drawn notes system holds = go (find (is_report_of system) own.reports) refl
    where
      go : (found : Option ReportView) → find (is_report_of system) own.reports ≡ found
          → IfSome (option_map (λ (live : ReportView). live.message) found) (λ message. IsKeptReport plan message notes)
      go None is = tt
      go (Some live) is = λ event.
          of-event plan live.message.body notes
          (holds.live live (has-found (is_report_of system) own.reports live is) event)

  -- a line of the spool: nothing is said of it, or it is of an event
  abbrev pub IsSaid : List Happening → Happening → Type 0
  IsSaid notes what =
      IsQuietNote what
      ⊎ ((number : ℕ) × (message : Spooled) × (what ≡ Happening.Storing number message)
      × IsKeptReport plan message notes)

  abbrev pub AreSaid : List Happening → List Happening → Type 0
  AreSaid notes [] = Unit {0}
  AreSaid notes (what ∷ lines) = IsSaid notes what × AreSaid notes lines

  said-both : (notes one two : List Happening) → AreSaid notes one → AreSaid notes two → AreSaid notes (one ++ two)
  said-both notes [] two first second = second
  said-both notes (what ∷ one) two first second = (first.0, said-both notes one two first.1 second)

  quiet-said : (notes lines : List Happening) → AreQuietLines lines → AreSaid notes lines
  quiet-said notes [] are = tt
  quiet-said notes (what ∷ lines) are = (inl are.0, quiet-said notes lines are.1)

  said-note :
      (own : OwnView) (drawn : Option ℕ) (what : Happening) (notes : List Happening) → IsSaid notes what
      → Holds plan start said own drawn notes → Holds plan start said own drawn (what ∷ notes)
  said-note own drawn what notes (inl quiet) holds =
      holds-as plan start said own notes (what ∷ notes) holds (quiet-note what quiet notes)
  said-note own drawn what notes (inr (number, message, same, kept)) holds =
      subst (λ (w : Happening). Holds plan start said own drawn (w ∷ notes)) (sym same)
      (record {
        plan_is = holds.plan_is;
        kept_is = holds.kept_is;
        tables_are = holds.tables_are;
        events_are = holds.events_are;
        commanded = holds.commanded;
        waits = holds.waits;
        live = holds.live;
        tried = holds.tried;
        settled =
            settled-more plan start (Happening.Storing number message) notes tt refl kept refl
            (still-rests plan (Happening.Storing number message) notes refl) holds.settled;
      })

  said-events : (what : Happening) (notes : List Happening) → IsSaid notes what
      → events_in (what ∷ notes) ≡ events_in notes
  said-events what notes (inl quiet) = (quiet-note what quiet notes).events
  said-events what notes (inr (number, message, same, kept)) =
      ap (λ (w : Happening). events_in (w ∷ notes)) same

  kept-later : (old new : List Happening) (message : Spooled) → events_in new ≡ events_in old
      → IsKeptReport plan message old → IsKeptReport plan message new
  kept-later old new message same kept event =
      let of = kept event in
      record {
        event = of.event;
        happened = subst (λ (events : List Happened). Has events of.event) (sym same) of.happened;
        enabled = of.enabled;
        text = of.text;
      }

  said-later : (old new lines : List Happening) → events_in new ≡ events_in old → AreSaid old lines → AreSaid new lines
  said-later old new [] same are = tt
  said-later old new (what ∷ lines) same are = (go are.0, said-later old new lines same are.1)
    where
      go : IsSaid old what → IsSaid new what
      go (inl quiet) = inl quiet
      go (inr (number, message, is, kept)) = inr (number, message, is, kept-later old new message same kept)

  pub lines-at :
      (own : OwnView) (lines : List Happening) (step : CoreStep) → AreSaid (so_far step) lines
      → Holds plan start said own step.next.drawn (so_far step) → Ends own (carried Some (lines_commands lines) step)
  lines-at own [] step are holds = holds
  lines-at own (what ∷ lines) step are holds =
      lines-at own lines (noted Some what step)
      (subst (λ (notes : List Happening). AreSaid notes lines) (sym (one-behind step.notes what before))
      (said-later (so_far step) (what ∷ so_far step) lines (said-events what (so_far step) are.0) are.1))
      (noted-so own what step (said-note own step.next.drawn what (so_far step) are.0 holds))

  made-said :
      (size : ℕ) (for_one : Option Spooled) (sizes : List ℕ) (v : LedgerView) (notes : List Happening)
      → AreSaid notes (room_made size for_one sizes v).lines
  made-said size for_one [] v notes = tt
  made-said size for_one (oldest ∷ sizes) v notes =
      go (is_full v.slots v.sizes size) (made-said size for_one sizes (oldest_out Overwritten for_one v).next notes)
    where
      go : (full : Bool) → AreSaid notes (room_made size for_one sizes (oldest_out Overwritten for_one v).next).lines
          → AreSaid notes (made_if size for_one full sizes v).lines
      go true rest = (inl tt, (inl tt, rest))
      go false rest = tt

  stored-said :
      (found : Room) (overwriting : Bool) (message : Spooled) (v : LedgerView) (notes : List Happening)
      → IsKeptReport plan message notes
      → IfSome (stored_by found overwriting message v) (λ (booked : Booked). AreSaid notes booked.lines)
  stored-said room.Fits overwriting message v notes kept = (inr (next_of v, message, refl, kept), (inl tt, tt))
  stored-said room.Full true message v notes kept =
      said-both notes (with_room message v).lines (put message (with_room message v).next).lines
      (made-said (size_of message) (Some message) v.sizes v notes)
      (inr (next_of (with_room message v).next, message, refl, kept), (inl tt, tt))
  stored-said room.Full false message v notes kept = (inl tt, tt)
  stored-said room.TooLong overwriting message v notes kept = (inl tt, tt)
  stored-said room.NumbersSpent overwriting message v notes kept = tt

  pub stores-said :
      (overwriting : Bool) (messages : List Spooled) (v : LedgerView) (notes : List Happening)
      → All (λ message. IsKeptReport plan message notes) messages
      → AreSaid notes (stores_all overwriting messages v).lines
  stores-said overwriting [] v notes all = tt
  stores-said overwriting (message ∷ messages) v notes all =
      go (stored overwriting message v)
      (stored-said (room_for v (length message.body)) overwriting message v notes
      (All-head (λ (m : Spooled). IsKeptReport plan m notes) message messages all))
      (λ w. stores-said overwriting messages w notes
      (All-tail (λ (m : Spooled). IsKeptReport plan m notes) message messages all))
    where
      go : (found : Option Booked) → IfSome found (λ (booked : Booked). AreSaid notes booked.lines)
          → ((w : LedgerView) → AreSaid notes (stores_all overwriting messages w).lines)
          → AreSaid notes
          (option_map_or (λ (b : Booked). stores_behind b.lines (stores_all overwriting messages b.next)) found
          (stores_none true v)).lines
      go None are more = tt
      go (Some booked) are more =
          said-both notes booked.lines (stores_all overwriting messages booked.next).lines are (more booked.next)

  -- the report of an event is put
  pub stored-keeps :
      (own : OwnView) (text : List ℕ) (step : CoreStep) → Holds plan start said own step.next.drawn (so_far step)
      → HasSpare plan own (so_far step) text
      → Ends (stored_turn (event_report text) own).own (all_done Some (stored_turn (event_report text) own).duties step)
  stored-keeps own text step holds spare =
      go (stored (overwrites own.tables) (event_report text) own.ledger)
      (stored-said (room_for own.ledger (length text)) (overwrites own.tables) (event_report text) own.ledger
      (so_far step) (λ event. of-event plan text (so_far step) (some-event own text (so_far step) spare)))
    where
      turn_by : Option Booked → ToolTurn
      turn_by found = option_map_or (λ (booked : Booked). booked_turn booked own) found (fixed_turn own (Halt ∷ []))

      go : (found : Option Booked) → IfSome found (λ (booked : Booked). AreSaid (so_far step) booked.lines)
          → Ends (turn_by found).own (all_done Some (turn_by found).duties step)
      go None are = holds.settled
      go (Some booked) are =
          either-then (λ next. Holds plan start said kept next.next.drawn (so_far next))
          (λ next. AreSettled plan start (so_far next))
          (λ next. Holds plan start said kept next.next.drawn (so_far next))
          (carried Some (lines_commands booked.lines) step)
          (all_done Some [])
          (lines-at kept booked.lines step are
          (holds-less plan start said own kept (so_far step) holds (booked-stays own booked.next)))
          (λ next at. at)
        where
          kept : OwnView
          kept = with_ledger booked.next own

  -- ---- the communication is left

  -- what is put is of events
  pub all-kept :
      (own left : OwnView) (drawn : Option ℕ) (notes : List Happening) (spools : Bool) (begun : List (Begun Kind))
      → left.for_grant ≡ own.for_grant → left.reports ≡ own.reports → Holds plan start said own drawn notes
      → All (λ message. IsKeptReport plan message notes) (filter_map (states.stored_of spools left) begun)
  all-kept own left drawn notes spools [] grants reports holds = All-nil (λ (m : Spooled). IsKeptReport plan m notes)
  all-kept own left drawn notes spools (first ∷ begun) grants reports holds =
      more (states.stored_of spools left first) (of spools)
      (all-kept own left drawn notes spools begun grants reports holds)
    where
      IsKept : Option Spooled → Type 0
      IsKept found = IfSome found (λ message. IsKeptReport plan message notes)

      one_of : (message : Option Spooled) → IfSome message (λ message. IsKeptReport plan message notes)
          → IfSome (states.stored_one left message) (λ message. IsKeptReport plan message notes)
      one_of None is = tt
      one_of (Some message) is = by (is_spooled message left)
        where
          by : (spooled : Bool)
              → IfSome (if spooled then Some message else None) (λ message. IsKeptReport plan message notes)
          by true = is
          by false = tt

      of_kind : (lost : Kind)
          → IfSome (states.stored_by left lost (system_of first)) (λ message. IsKeptReport plan message notes)
      of_kind kind.Report =
          one_of (sent_report (system_of first) left)
          (subst
          (λ (live : List ReportView).
          IfSome (option_map (λ (one : ReportView). one.message) (find (is_report_of (system_of first)) live))
          (λ message. IsKeptReport plan message notes))
          (sym reports) (kept-live own drawn notes (system_of first) holds))
      of_kind kind.Grant =
          one_of (waiting_report (system_of first) left)
          (subst
          (λ (waiting : List GrantView).
          IfSome (option_map (λ (one : GrantView). event_report one.body)
          (find (is_granted_by (system_of first)) waiting))
          (λ message. IsKeptReport plan message notes))
          (sym grants) (kept-waiting own drawn notes (system_of first) holds))
      of_kind kind.Unload = tt
      of_kind kind.UnloadGrant = tt
      of_kind kind.Establish = tt
      of_kind kind.Attempt = tt
      of_kind kind.Trace = tt
      of_kind kind.TraceGrant = tt

      of : (spools : Bool)
          → IfSome (states.stored_of spools left first) (λ message. IsKeptReport plan message notes)
      of true = of_kind first.kind
      of false = tt

      more : (found : Option Spooled) → IfSome found (λ message. IsKeptReport plan message notes)
          → All (λ message. IsKeptReport plan message notes) (filter_map (states.stored_of spools left) begun)
          → All (λ message. IsKeptReport plan message notes)
          (cons_option found (filter_map (states.stored_of spools left) begun))
      more None is rest = rest
      more (Some message) is rest =
          All-cons (λ (m : Spooled). IsKeptReport plan m notes) message
          (filter_map (states.stored_of spools left) begun) is rest

  -- what is said behind them, silent as it is
  pub stores-at :
      (own : OwnView) (stores : Stores) (more : ToolCommands) (step : CoreStep)
      → AreSaid (so_far step) stores.lines → AreSilent Free tt Any any-lasts more
      → Holds plan start said own step.next.drawn (so_far step) → Ends own
      (carried Some (stores_commands stores more) step)
  stores-at own stores more step are silent holds =
      subst (Ends own) (sym (carried_append Some (lines_commands stores.lines) last step))
      (either-then (λ next. Holds plan start said own next.next.drawn (so_far next))
      (λ next. AreSettled plan start (so_far next))
      (λ next. Holds plan start said own next.next.drawn (so_far next))
      (carried Some (lines_commands stores.lines) step)
      (carried Some last) (lines-at own stores.lines step are holds)
      (λ next at. silent-at own last next (go stores.is_spent) at))
    where
      last : ToolCommands
      last = if stores.is_spent then Halt ∷ [] else more

      go : (spent : Bool) → AreSilent Free tt Any any-lasts (if spent then Halt ∷ [] else more)
      go true = (tt, tt)
      go false = silent
