-- What holds of reports where the communication is left, where transactions are lost, and where the spool is unloaded.
use Rattle.message_flow.specs.Waiting.{is_named}
use Rattle.message_flow.specs.Outgoing.{with_waiting, without_first}
use Rattle.std.proofs.Common.{◌≡◌, refl, sym, ap, subst, ◌∙◌, inl, ◌⊎◌, arith, ◌+◌, ◌≤◌, Bool, true, false, not, ℕ, ◌%◌, ◌==◌, ◌&&◌, nat_eq, List, [], ◌∷◌, ◌++◌, length, Option, Some, None, if◌then◌else◌}
use Rattle.std.proofs.lemmas.Bool.{eqb-true}
use Rattle.std.specs.List.{filter_map, list_any}
use Rattle.std.specs.Option.{option_map}
use Rattle.std.specs.Prelude.{IfSome, bytes_eq, filter, is_some}
use Rattle.block_codec.specs.declared.header.Header.{Header}
use Rattle.gem_states.specs.Comms.{CommsOutcome}
use Rattle.gem_states.specs.declared.comms.CommsIn.{CommsIn}
use Rattle.gem_states.specs.declared.comms.CommsIn.TheVariants as comms_in
use Rattle.gem_states.specs.declared.control.ControlIn.TheVariants as control_in
use Rattle.message_flow.specs.declared.message.Message.{Message}
use Rattle.trace_log.specs.declared.commands.ToolCommand.{ToolCommand}
use Rattle.trace_log.specs.Log.{Happening}
use Rattle.trace_log.specs.Names.{Spooled}
use Rattle.transact.specs.Numbers.{after_draw, next_number}
use Rattle.transact.specs.Transactions.{primary_of as primary_with_kind}
use Rattle.message_end.specs.declared.unsent.Unsent.{Unsent}
use Rattle.message_end.specs.Calls.{answered_by}
use Rattle.message_end.specs.Core.{EndView, and_then, carried, drawn_primary, draws, is_crowded_out, keeps_drawn, noted, primary_of, sends, unsent_name, with_end, waits}
use Rattle.message_end.specs.Core.Command.{Draw, GiveUp, Primary}
use Rattle.message_end.specs.Duties.{all_done}
use Rattle.message_end.specs.Endings.{ends_open}
use Rattle.message_end.specs.Own.{Has}
use Rattle.message_end.specs.Parts.{core_after, leads}
use Rattle.message_end.proofs.Carrying.{carried_append, done_append}
use Rattle.spool_ledger.specs.Activity.{activated}
use Rattle.spool_ledger.specs.Ledger.{Booked}
use Rattle.spool_ledger.specs.Unloading.{after_next, let_go, next_number as next_unloaded, taken_up, waiting_in, with_each, with_unload}
use Rattle.equipment_tables.specs.declared.answers.Answer.{Answer as Text}
use Rattle.equipment_tables.specs.declared.answers.Answer.TheVariants as answer
use Rattle.equipment_tables.specs.declared.plan.EquipmentPlan.{EquipmentPlan}
use Rattle.equipment_tables.specs.Tables.{may_spool, most_transmitted, overwrites}
use Rattle.tool_step.specs.declared.kind.Kind.{Kind}
use Rattle.tool_step.specs.declared.kind.Kind.TheVariants as kind
use Rattle.tool_step.specs.Own.{OwnView, ToolCommands, ToolDuty, ToolTurn, event_report, quiet_turn, turn_before, with_comms, with_ledger, without_grant, without_report, without_waiting_data, with_tried}
use Rattle.tool_step.specs.Replies.{given_up_by_t4, given_up_turn, loss_turn, timeout_turn}
use Rattle.tool_reports.specs.Reported.{count_of_events, is_answer, is_live, is_no_space, is_of, reports_in, tries_in}
use Rattle.tool_step.specs.Sent as sent
use Rattle.tool_step.specs.Spooling.{Stores, dataid_in, grant_given_turn, inquiry_turn, let_go_turn, lines_commands, needs_grant, sent_turn, stores_all, stores_commands, taking_turn, tried_turn, unload_part, unload_request, unloaded, unloaded_own, unloading_turn, waiting_text, stopped_turn}
use Rattle.tool_step.specs.States as states
use Rattle.tool_law.proofs.CommandWalks.{are-both, errors-are, comms-noted, request-are, open-are}
use Rattle.tool_law.proofs.TurnWalks.{nothing-of, fixed-of, denied-of}
use Rattle.tool_law.proofs.LedgerLines.{activated-lines}
use Rattle.tool_reports.proofs.HeldReports.{Any, any-lasts, Ends, Free, Keeps, KeepsAt, all-kept, led-at, noted-so, plain, quietly-holds, silent-at, so_far, stores-at, stores-said}
use Rattle.tool_reports.proofs.QuietReports.{Holds, holds-as, holds-less}
use Rattle.tool_reports.proofs.PlainSamples.{untraced-plain}
use Rattle.tool_reports.proofs.PlainTurns.{spool-quiet, states-stay, lines-silent, IsNoMore, stays, itself, booked-stays, tried-stays, control-plain, count_waiting, ungranted, unreported}
use Rattle.tool_reports.proofs.QuietNotes.{AreSettled, one-behind, quiet-note, settled-more, still-rests}
use Rattle.tool_reports.proofs.SilentCommands.{common-silent, IsSilent, AreSilent, AreSilentDuties, IsQuietly, done-quietly}
use Rattle.message_end.proofs.Parts.{either-then, either-less}
use Rattle.tool_law.proofs.CoreSteps.{CoreStep}

-- with the system bytes of a try it is known as one of the spool
tried-known : (tries : List ℕ) (system : ℕ) → Has tries system → list_any (nat_eq system) tries ≡ true
tried-known [] system has = absurd has
tried-known (first ∷ tries) system has = go (nat_eq system first) refl has (λ later. tried-known tries system later)
  where
    go : (b : Bool) → nat_eq system first ≡ b → (system ≡ first) ⊎ Has tries system
        → (Has tries system → list_any (nat_eq system) tries ≡ true) → list_any (nat_eq system) (first ∷ tries) ≡ true
    go b is has more = grind (arith, is, has, more)

module _ (plan : EquipmentPlan) (start : List Happening) (said : List ToolCommand) (before : List Happening) where
  abbrev HoldsAt : OwnView → CoreStep → Type 0
  HoldsAt own step = Holds plan start said own step.next.drawn (so_far plan start said before step)

  abbrev IsRight : CoreStep → Type 0
  IsRight step = AreSettled plan start (so_far plan start said before step)

  -- ---- duties behind a turn

  duties-at :
      (own : OwnView) (duties : List ToolDuty) (step : CoreStep) → AreSilentDuties Free tt Any any-lasts duties
      → HoldsAt own step → Ends plan start said before own (all_done Some duties step)
  duties-at own duties step silent holds =
      either-less (IsQuietly Free tt Any any-lasts before step) (IsQuietly Free tt Any any-lasts before step)
      (HoldsAt own) IsRight (all_done Some duties step)
      (done-quietly Free tt Any any-lasts before duties step silent tt tt)
      (λ next quiet. quietly-holds plan start said before own step next quiet.notes quiet.drawn holds)
      (λ next quiet. quiet.notes.keeps plan start holds.settled)

  before-at :
      (own : OwnView) (duties : List ToolDuty) (turn : ToolTurn) (step : CoreStep)
      → AreSilentDuties Free tt Any any-lasts duties → KeepsAt plan start said before own turn step
      → KeepsAt plan start said before own (turn_before duties turn) step
  before-at own duties turn step silent keeps holds =
      subst (Ends plan start said before turn.own) (sym (done_append Some turn.duties duties step))
      (either-then (HoldsAt turn.own) IsRight (HoldsAt turn.own) (all_done Some turn.duties step)
      (all_done Some duties) (keeps holds) (λ next at. duties-at turn.own duties next silent at))

  -- ---- the communication is left

  parted-keeps :
      (outcome : CommsOutcome) (spools enabled : Bool) (failed : Option Header) (own : OwnView) (e : EndView Kind)
      → Keeps plan start said before own
      (states.parted_turn outcome spools (activated enabled (with_unload None own.ledger)) failed own e)
  parted-keeps outcome spools enabled failed own e step holds =
      subst (Ends plan start said before last_own)
      (sym (done_append Some (ends_open (states.ends_report spools left) e failed)
      ((λ later. states.left_commands outcome activity stores own) ∷ []) step))
      (either-then (HoldsAt own) IsRight (HoldsAt last_own)
      (all_done Some (ends_open (states.ends_report spools left) e failed) step)
      (all_done Some ((λ later. states.left_commands outcome activity stores own) ∷ []))
      (duties-at own (ends_open (states.ends_report spools left) e failed) step
      (open-are (common-silent Free tt Any any-lasts) spools left e failed) holds)
      (λ next at. behind next at))
    where
      activity : Booked
      activity = activated enabled (with_unload None own.ledger)

      left : OwnView
      left = with_ledger activity.next (with_comms outcome.next own)

      stores : Stores
      stores =
          stores_all (overwrites own.tables) (filter_map (states.stored_of spools left) e.transactions.begun)
          activity.next

      last_own : OwnView
      last_own = with_ledger stores.next (states.without_open left e)

      less : IsNoMore own last_own
      less = record {
        plan_is = refl;
        kept_is = refl;
        tables_are = refl;
        events_are = refl;
        fewer = λ body. omega arith;
        live = λ one has is. absurd has;
      }

      first : ToolCommands
      first = states.comms_lines own.comms.state outcome.next.state ++ lines_commands activity.lines

      rest : ToolCommands
      rest = stores_commands stores (states.request_commands outcome.output own)

      first-silent : AreSilent Free tt Any any-lasts first
      first-silent =
          are-both (IsSilent Free tt Any any-lasts) (states.comms_lines own.comms.state outcome.next.state)
          (lines_commands activity.lines)
          (comms-noted (common-silent Free tt Any any-lasts) own.comms.state outcome.next.state)
          (lines-silent Free tt Any any-lasts activity.lines
          (activated-lines spool-quiet enabled (with_unload None own.ledger)))

      puts : (step : CoreStep) → HoldsAt own step → Ends plan start said before own (carried Some rest step)
      puts step holds =
          stores-at plan start said before own stores (states.request_commands outcome.output own) step
          (stores-said plan start said before (overwrites own.tables)
          (filter_map (states.stored_of spools left) e.transactions.begun) activity.next
          (so_far plan start said before step)
          (all-kept plan start said before own left step.next.drawn (so_far plan start said before step) spools
          e.transactions.begun refl refl holds))
          (request-are (common-silent Free tt Any any-lasts) (λ body. (refl, refl)) outcome.output own) holds

      behind : (step : CoreStep) → HoldsAt own step
          → Ends plan start said before last_own
          (all_done Some ((λ later. states.left_commands outcome activity stores own) ∷ []) step)
      behind step holds =
          either-then (HoldsAt own) IsRight (HoldsAt last_own)
          (carried Some (first ++ rest) step) (all_done Some [])
          (subst (Ends plan start said before own) (sym (carried_append Some first rest step))
          (either-then (HoldsAt own) IsRight (HoldsAt own) (carried Some first step) (carried Some rest)
          (silent-at plan start said before own first step first-silent holds) (λ next at. puts next at)))
          (λ next at. holds-less plan start said own last_own (so_far plan start said before next) at less)

  pub leaving-keeps :
      (input : CommsIn) (failed : Option Header) (now : ℕ) (own : OwnView) (e : EndView Kind)
      → Keeps plan start said before own (states.end_of_talk input failed now own e)
  leaving-keeps input failed now own e step holds = go (states.is_same_comms own.comms.state outcome.next.state)
    where
      outcome : CommsOutcome
      outcome = states.comms_outcome input now own

      begins : Bool
      begins = states.begins_spooling own.comms.state outcome.next.state

      turn_by : Bool → ToolTurn
      turn_by same =
          if same then quiet_turn own
          else states.parted_turn outcome begins (states.activity_of outcome own) failed own e

      go : (same : Bool) → Ends plan start said before (turn_by same).own (all_done Some (turn_by same).duties step)
      go true = holds
      go false = parted-keeps outcome begins (begins && may_spool own.tables) failed own e step holds

  -- ---- transactions that are lost

  pub loss-keeps :
      (now : ℕ) (lost : Kind) (system : ℕ) (own : OwnView) (e : EndView Kind)
      → Keeps plan start said before own (loss_turn now lost system own e)
  loss-keeps now kind.Establish system own e = leaving-keeps comms_in.Denied None now own e
  loss-keeps now kind.Attempt system own e =
      plain plan start said before own (states.control_turn control_in.AttemptFailed own)
      (control-plain Free tt Any any-lasts control_in.AttemptFailed own)
  loss-keeps now kind.Grant system own e =
      plain plan start said before own (loss_turn now kind.Grant system own e)
      (denied-of (common-silent Free tt Any any-lasts) states-stay own (without_grant system own)
      (ungranted own system))
  loss-keeps now kind.Report system own e = λ step holds.
      holds-less plan start said own (without_report system own) (so_far plan start said before step) holds
      (unreported own system)
  loss-keeps now kind.Unload system own e = λ step holds.
      holds-less plan start said own (unloaded_own own) (so_far plan start said before step) holds
      (booked-stays own (with_unload None own.ledger))
  loss-keeps now kind.UnloadGrant system own e =
      plain plan start said before own (loss_turn now kind.UnloadGrant system own e)
      (denied-of (common-silent Free tt Any any-lasts) states-stay own (unloaded_own own)
      (booked-stays own (with_unload None own.ledger)))
  loss-keeps now kind.Trace system own e =
      plain plan start said before own (loss_turn now kind.Trace system own e)
      (nothing-of own own (itself own))
  loss-keeps now kind.TraceGrant system own e =
      plain plan start said before own (loss_turn now kind.TraceGrant system own e)
      (untraced-plain Free tt Any any-lasts own (without_waiting_data system own)
      (stays own (without_waiting_data system own) refl refl refl refl refl refl))

  pub timeout-keeps :
      (now : ℕ) (primary : Option (Header × Kind)) (own : OwnView) (e : EndView Kind)
      → Keeps plan start said before own (timeout_turn now primary own e)
  timeout-keeps now None own e step holds = holds
  timeout-keeps now (Some primary) own e step holds =
      before-at own (sent.error_duty 9 primary.0 lost.own ∷ []) lost step
      (errors-are (common-silent Free tt Any any-lasts) 9 (λ body. (refl, refl)) primary.0 lost.own)
      (loss-keeps now primary.1 primary.0.system own e step) holds
    where
      lost : ToolTurn
      lost = loss_turn now primary.1 primary.0.system own e

  pub given-up-keeps :
      (now : ℕ) (header : Header) (own : OwnView) (e : EndView Kind)
      → Keeps plan start said before own (given_up_turn now header own e)
  given-up-keeps now header own e step holds =
      led-at plan start said before (GiveUp header) own
      (timeout_turn now (option_map primary_with_kind (answered_by e header)) own (core_after (GiveUp header) e)) step
      tt
      (timeout-keeps now (option_map primary_with_kind (answered_by e header)) own (core_after (GiveUp header) e)) holds

  pub by-t4-keeps :
      (now : ℕ) (dropped : Option Header) (own : OwnView) (e : EndView Kind)
      → Keeps plan start said before own (given_up_by_t4 now dropped own e)
  by-t4-keeps now None own e step holds = holds
  by-t4-keeps now (Some header) own e step holds = given-up-keeps now header own e step holds

  -- ---- messages of the spool

  -- a try, with the number that was drawn
  tried-note :
      (own : OwnView) (drawn : Option ℕ) (number system : ℕ) (notes : List Happening)
      → Holds plan start said own drawn notes
      → Holds plan start said own (Some system) (Happening.Try number system ∷ notes)
  tried-note own drawn number system notes holds = record {
    plan_is = holds.plan_is;
    kept_is = holds.kept_is;
    tables_are = holds.tables_are;
    events_are = holds.events_are;
    commanded = holds.commanded;
    waits = holds.waits;
    live = holds.live;
    tried = λ other is. inl (cc);
    settled =
        settled-more plan start (Happening.Try number system) notes tt refl tt refl
        (still-rests plan (Happening.Try number system) notes refl) holds.settled;
  }

  -- what goes out with its number is none of the reports that are counted
  unloaded-sent :
      (own : OwnView) (drawn : Option ℕ) (message : Spooled) (system : ℕ) (notes : List Happening)
      → (message.function % 2 == 1) ≡ true → Has (tries_in notes) system → Holds plan start said own drawn notes
      → Holds plan start said own None (Happening.Sent (primary_of (unloaded message) system) ∷ notes)
  unloaded-sent own drawn message system notes odd tried holds = record {
    plan_is = holds.plan_is;
    kept_is = holds.kept_is;
    tables_are = holds.tables_are;
    events_are = holds.events_are;
    commanded = holds.commanded;
    waits = λ body.
        subst
        (λ (b : Bool).
        length (filter (bytes_eq body) (if b then message.body ∷ reports_in notes else reports_in notes))
        + count_waiting body own.for_grant ≤ count_of_events plan body notes)
        (sym not_live) (holds.waits body);
    live = holds.live;
    tried = λ number is. absurd (cc);
    settled =
        settled-more plan start (Happening.Sent out) notes tt refl
        (record {
          s6f11 = λ is. let none = not_live in absurd (cc);
          s6f16 = λ is. absurd (even 16 refl is);
          s6f20 = λ is. absurd (even 20 refl is);
          reply = λ is. absurd (no_answer is);
        })
        refl (still-rests plan (Happening.Sent out) notes refl) holds.settled;
  }
    where
      out : Message
      out = primary_of (unloaded message) system

      not_live : is_live out notes ≡ false
      not_live =
          ap (λ (b : Bool). is_of 6 11 out && not b) (tried-known (tries_in notes) system tried)
          ∙ never (is_of 6 11 out)
        where
          never : (b : Bool) → (b && false) ≡ false
          never true = refl
          never false = refl

      even : (function : ℕ) → (function % 2 == 1) ≡ false → is_of 6 function out ≡ true → ⊥
      even function is named = go (message.stream == 6) (message.function == function) refl named
        where
          go : (six : Bool) (same : Bool) → (message.function == function) ≡ same → (six && same) ≡ true → ⊥
          go true true same e =
              let f = eqb-true message.function function same in
              let odd_is = ap (λ (n : ℕ). n % 2 == 1) f in absurd (cc)
          go true false same e = absurd (cc)
          go false same is e = absurd (cc)

      no_answer : is_answer out ≡ true → ⊥
      no_answer is =
          let none : is_answer out ≡ false =
          ap
          (λ (b : Bool).
          ((not b && not (message.function == 0)) && not (is_of 1 14 out)) && not (is_no_space out))
          odd in
          absurd (cc)

  drawn-at :
      (own : OwnView) (message : Spooled) (step : CoreStep) → (message.function % 2 == 1) ≡ true → HoldsAt own step
      → HoldsAt own (drawn_primary Some (unloaded message) step.next.drawn step)
  drawn-at own message step odd holds = go step.next.drawn refl
    where
      unsent : Unsent Kind
      unsent = unloaded message

      by : (number : ℕ) → step.next.drawn ≡ Some number → (crowded : Bool)
          → HoldsAt own
          (if crowded then noted Some (Happening.Full (unsent_name unsent)) step
          else sends Some unsent number (with_end (record step.next { drawn = None }) step))
      by number is true =
          noted-so plan start said before own (Happening.Full (unsent_name unsent)) step
          (holds-as plan start said own (so_far plan start said before step)
          (Happening.Full (unsent_name unsent) ∷ so_far plan start said before step) holds
          (quiet-note (Happening.Full (unsent_name unsent)) tt (so_far plan start said before step)))
      by number is false =
          subst (λ (notes : List Happening). Holds plan start said own None notes)
          (sym (one-behind step.notes (Happening.Sent (primary_of unsent number)) before))
          (unloaded-sent own step.next.drawn message number (so_far plan start said before step) odd
          (holds.tried number is)
          holds)

      go : (drawn : Option ℕ) → step.next.drawn ≡ drawn → HoldsAt own (drawn_primary Some unsent drawn step)
      go None is = holds
      go (Some number) is = by number is (is_crowded_out (is_some unsent.kind) step.next)

  kept-or-ended : (crowded : Bool) (own : OwnView) → IsNoMore own (if crowded then unloaded_own own else own)
  kept-or-ended true own = booked-stays own (with_unload None own.ledger)
  kept-or-ended false own = itself own

  unloading-keeps :
      (message : Spooled) → (message.function % 2 == 1) ≡ true → (own : OwnView) (e : EndView Kind)
      → Keeps plan start said before own (unloading_turn message own e)
  unloading-keeps message odd own e step holds =
      holds-less plan start said own (if is_crowded_out true e then unloaded_own own else own)
      (so_far plan start said before next) (drawn-at own message step odd holds)
      (kept-or-ended (is_crowded_out true e) own)
    where
      next : CoreStep
      next = drawn_primary Some (unloaded message) step.next.drawn step

  leave-keeps : (asked : Text) (own : OwnView) (e : EndView Kind)
      → Keeps plan start said before own (inquiry_turn asked own e)
  leave-keeps (answer.Body asked) own e =
      plain plan start said before own (inquiry_turn (answer.Body asked) own e)
      (fixed-of own (if is_crowded_out true e then unloaded_own own else own)
      (Primary (unload_request asked) ∷ []) (kept-or-ended (is_crowded_out true e) own) ((refl, refl), tt))
  leave-keeps answer.TooLong own e = λ step holds.
      holds-less plan start said own (unloaded_own own) (so_far plan start said before step) holds
      (booked-stays own (with_unload None own.ledger))

  out-keeps :
      (message : Spooled) → (message.function % 2 == 1) ≡ true → (own : OwnView) (e : EndView Kind)
      → Keeps plan start said before own (sent_turn message own e)
  out-keeps message odd own e = go (needs_grant message)
    where
      asked : Text
      asked = sent.text_of own (sent.grant_item (dataid_in message.body) (length message.body))

      go : (needs : Bool)
          → Keeps plan start said before own (if needs then inquiry_turn asked own e else unloading_turn message own e)
      go true = leave-keeps asked own e
      go false = unloading-keeps message odd own e

  -- a number is drawn, and the message goes
  taken-at :
      (number : ℕ) (message : Spooled) → (message.function % 2 == 1) ≡ true → (own : OwnView) (e : EndView Kind)
      (step : CoreStep) (drawn : Option ℕ) → HoldsAt own step
      → Ends plan start said before (tried_turn drawn number message own e).own
      (and_then (and_then (draws drawn keeps_drawn step) (carried Some []))
      (all_done Some (tried_turn drawn number message own e).duties))
  taken-at number message odd own e step None holds = holds.settled
  taken-at number message odd own e step (Some system) holds =
      out-keeps message odd tried_own e
      (noted Some (Happening.Try number system) next)
      (holds-less plan start said own tried_own
      (so_far plan start said before (noted Some (Happening.Try number system) next))
      (noted-so plan start said before own (Happening.Try number system) next
      (tried-note own step.next.drawn number system (so_far plan start said before step) holds))
      (tried-stays own (taken_up number system (waiting_text message) own.ledger).next system))
    where
      tried_own : OwnView
      tried_own = with_tried system (with_ledger (taken_up number system (waiting_text message) own.ledger).next own)

      next : CoreStep
      next = keeps_drawn system (with_end (record step.next { numbers = after_draw step.next.numbers }) step)

  pub unload-keeps :
      (oldest : Option Spooled) → IfSome oldest (λ message. (message.function % 2 == 1) ≡ true) → (own : OwnView)
      (step : CoreStep) → KeepsAt plan start said before own (unload_part oldest own step.next) step
  unload-keeps oldest odd own step holds = go (next_unloaded most own.ledger) oldest odd
    where
      most : ℕ
      most = most_transmitted own.tables

      on : OwnView
      on = with_ledger (after_next most own.ledger) own

      held : HoldsAt on step
      held =
          holds-less plan start said own on (so_far plan start said before step) holds
          (booked-stays own (after_next most own.ledger))

      go : (number : Option ℕ) (oldest : Option Spooled)
          → IfSome oldest (λ message. (message.function % 2 == 1) ≡ true)
          → Ends plan start said before (taking_turn number oldest on step.next).own
          (all_done Some (taking_turn number oldest on step.next).duties step)
      go None oldest odd = held
      go (Some number) None odd = held
      go (Some number) (Some message) odd = by on.tried
        where
          by : (last : Option ℕ)
              → let turn = stopped_turn last
              (λ later. leads Draw (tried_turn (next_number later.numbers) number message on) later) step.next in
              Ends plan start said before turn.own (all_done Some turn.duties step)
          by None = taken-at number message odd on (core_after Draw step.next) step (next_number step.next.numbers) held
          by (Some last) =
              let removed =
              waits
              (with_waiting step.next.outgoing (without_first (is_named true last) step.next.outgoing.waiting)) step in
              taken-at number message odd on (core_after Draw removed.next) removed (next_number removed.next.numbers)
              held

  pub leave-given-keeps : (own : OwnView) (e : EndView Kind) → Keeps plan start said before own (grant_given_turn own e)
  leave-given-keeps own e step holds = go (waiting_in own.ledger.unload)
    where
      go : (waiting : Option (List ℕ))
          → Ends plan start said before (let_go_turn waiting own e).own
          (all_done Some (let_go_turn waiting own e).duties step)
      go None = holds
      go (Some body) =
          unloading-keeps (event_report body) refl (with_ledger (with_each let_go own.ledger) own) e step
          (holds-less plan start said own (with_ledger (with_each let_go own.ledger) own)
          (so_far plan start said before step) holds
          (booked-stays own (with_each let_go own.ledger)))
