-- How the communication is left, as the code does it.
use Rattle.std.proofs.Common.{◌≡◌, refl, sym, ap, subst, ◌∙◌, Bool, true, false, not, ◌&&◌, ◌||◌, ℕ, List, [], ◌∷◌, ◌++◌, Option, Some, None, if◌then◌else◌}
use Rattle.std.specs.Prelude.{Result, Err, map}
use Rattle.std.specs.List.{filter_map}
use Rattle.std.proofs.lemmas.List.{append-nil}
use Rattle.block_codec.specs.declared.header.Header.{Header}
use Rattle.gem_states.specs.Comms.{CommsOutcome, CommsView, comms_step}
use Rattle.gem_states.specs.declared.comms.CommsIn.{CommsIn}
use Rattle.gem_states.specs.declared.comms.CommsOut.{CommsOut}
use Rattle.gem_states.specs.declared.comms.CommsState.{CommsState}
use Rattle.gem_states.specs.declared.comms.CommsOut.TheVariants as comms_out
use Rattle.message_flow.specs.declared.step.Note.{Note}
use Rattle.message_flow.specs.declared.step.StepOut.{StepOut}
use Rattle.trace_log.specs.Log.{Happening}
use Rattle.trace_log.specs.Names.{Spooled}
use Rattle.trace_log.specs.Text.{printed_note}
use Rattle.transact.specs.declared.begun.Begun.{Begun}
use Rattle.transact.specs.Transactions.{system_of}
use Rattle.message_end.specs.declared.end.Stop.{Stop}
use Rattle.message_end.specs.declared.end.Stop.TheVariants as stop
use Rattle.message_end.specs.Core.{EndView, Step, Went, and_then, carried}
use Rattle.message_end.specs.Core.Command.{Halt, Note as NoteThis}
use Rattle.message_end.specs.Core.Went.{Goes, Spent}
use Rattle.message_end.specs.Duties.{all_done}
use Rattle.message_end.specs.Endings.{ends_open}
use Rattle.message_end.specs.Parts.{AreCarried, AreDone, Takes, after_turn, fixed_turn, on_the_way, went_with}
use Rattle.message_end.proofs.Carrying.{carried_append}
use Rattle.spool_ledger.specs.Activity.{activated, changed}
use Rattle.spool_ledger.specs.Ledger.{Booked, LedgerView, quiet}
use Rattle.spool_ledger.specs.Unloading.{with_unload}
use Rattle.equipment_tables.specs.Tables.{delay_of, may_spool, overwrites}
use Rattle.tool_step.specs.declared.kind.Kind.{Kind}
use Rattle.tool_step.specs.declared.kind.Kind.TheVariants as kind
use Rattle.tool_core.specs.Ending.{all_stored, ends_with, stored_with, stores_turn, with_active}
use Rattle.tool_step.specs.Own.{OwnView, ToolCommands, ToolTurn, sent_report, turn_of, waiting_report, with_comms, with_ledger}
use Rattle.tool_step.specs.Spooling.{Stores, is_covered, lines_commands, stores_all, stores_commands}
use Rattle.tool_step.specs.States.{begins_spooling, comms_lines, comms_outcome, ending_commands, ends_report, is_same_comms, end_of_talk, left_commands, left_turn, parted_turn, request_commands, stored_by, stored_of, stored_one, without_open}
use Rattle.tool_core.proofs.Following.{lines_carried, node}
use Rattle.tool_core.proofs.Storing.{stores_then}
use Rattle.tool_core.proofs.Taking.{commands_then, turned}
use Rattle.tool_core.proofs.Turned.{HasTaken, ToolNode, behind}

-- what is stored of one report, where the spool is active then, by what the code knows of that
one_alike :
    (begins active : Bool) (own : OwnView) (comms : CommsView) (before after : LedgerView) (message : Option Spooled)
    → (begins ≡ true → active ≡ after.is_active) → (begins ≡ false → active ≡ false)
    → stored_one (with_active active (with_ledger before (with_comms comms own))) message
    ≡ (if begins then stored_one (with_ledger after (with_comms comms own)) message else None)
one_alike true active own comms before after None on off = refl
one_alike false active own comms before after None on off = refl
one_alike true active own comms before after (Some message) on off =
    ap (λ (b : Bool). if b && is_covered message own then Some message else None) (on refl)
one_alike false active own comms before after (Some message) on off =
    ap (λ (b : Bool). if b && is_covered message own then Some message else None) (off refl)

none_alike : (begins : Bool) (kept : Option Spooled) → kept ≡ (if begins then kept else kept)
none_alike true kept = refl
none_alike false kept = refl

stored_alike :
    (begins active : Bool) (own : OwnView) (comms : CommsView) (before after : LedgerView) (k : Kind) (system : ℕ)
    → (begins ≡ true → active ≡ after.is_active) → (begins ≡ false → active ≡ false)
    → stored_by (with_active active (with_ledger before (with_comms comms own))) k system
    ≡ (if begins then stored_by (with_ledger after (with_comms comms own)) k system else None)
stored_alike begins active own comms before after kind.Report system on off =
    one_alike begins active own comms before after (sent_report system own) on off
stored_alike begins active own comms before after kind.Grant system on off =
    one_alike begins active own comms before after (waiting_report system own) on off
stored_alike begins active own comms before after kind.Establish system on off = none_alike begins None
stored_alike begins active own comms before after kind.Attempt system on off = none_alike begins None
stored_alike begins active own comms before after kind.Unload system on off = none_alike begins None
stored_alike begins active own comms before after kind.UnloadGrant system on off = none_alike begins None
stored_alike begins active own comms before after kind.Trace system on off = none_alike begins None
stored_alike begins active own comms before after kind.TraceGrant system on off = none_alike begins None

-- of each open transaction
module _ (begins active : Bool) (own : OwnView) (comms : CommsView) (before after : LedgerView)
    (on : begins ≡ true → active ≡ after.is_active) (off : begins ≡ false → active ≡ false) where
  with_it : OwnView
  with_it = with_ledger before (with_comms comms own)

  left : OwnView
  left = with_ledger after (with_comms comms own)

  pub stored_same : (stored_with active (with_ledger before (with_comms comms own)))
      ≡ stored_of begins (with_ledger after (with_comms comms own))
  stored_same = λ j begun. stored_alike begins active own comms before after begun.kind (system_of begun) on off j

  pub ends_same : ends_with active (with_ledger before (with_comms comms own))
      ≡ ends_report begins (with_ledger after (with_comms comms own))
  ends_same = λ j begun.
      ending_commands own.control (stored_alike begins active own comms before after begun.kind (system_of begun) on off
      j) begun.kind begun.header

-- S1F13, if it is sent, doesn't depend on what is left beside the plan and the tables
pub request_alike :
    (output : CommsOut) (own : OwnView) (comms : CommsView) (e : EndView Kind) (ledger : LedgerView)
    → request_commands output (with_ledger ledger (without_open (with_comms comms own) e)) ≡ request_commands output own
request_alike comms_out.SendRequest own comms e ledger = refl
request_alike comms_out.Nothing own comms e ledger = refl
request_alike comms_out.Answer own comms e ledger = refl

-- ---- the spool's lines, the reports, and S1F13

-- stores that got no number end it, whatever comes behind them
stores_ended :
    (A B : Type 0) (own : OwnView) (lines : List Happening) (spent : Bool) (more : ToolCommands)
    (old middle new : ToolNode) (out out_new : StepOut) (end : Stop)
    → middle.core ≡ old.core
    → Takes {A = A} (fixed_turn own (map NoteThis lines ++ (if spent then Halt ∷ [] else []))) middle out new out_new
    (Err end)
    → Takes {A = B} (fixed_turn own (map NoteThis lines ++ (if spent then Halt ∷ [] else more))) old out new out_new
    (Err end)
stores_ended A B own lines spent more old middle new out out_new stop.NoMemory same is = tt
stores_ended A B own lines spent more old middle new out out_new stop.Full same is = absurd is
stores_ended A B own lines spent more old middle new out out_new stop.DiskFailed same is = absurd is
stores_ended A B own lines true more old middle new out out_new stop.NumbersSpent same is =
    subst
    (λ (e : EndView Kind). after_turn printed_note (fixed_turn own (map NoteThis lines ++ Halt ∷ []))
    (on_the_way (node own e) out) ≡ Spent (on_the_way new out_new))
    same is
stores_ended A B own lines false more old middle new out out_new stop.NumbersSpent same is =
    absurd (other (sym goes ∙ is))
  where
    goes : after_turn printed_note (fixed_turn own (map NoteThis lines ++ [])) (on_the_way middle out)
        ≡ Goes (on_the_way (node own middle.core)
        (record { line = out.line; notes = out.notes ++ filter_map printed_note lines }))
    goes =
        ap (λ (commands : ToolCommands). after_turn printed_note (fixed_turn own commands) (on_the_way middle out))
        (append-nil (map NoteThis lines))
        ∙ ap (λ (w : Went (EndView Kind) Note). went_with own (and_then w (all_done printed_note [])))
        (lines_carried lines (on_the_way middle.core out))

    other : {x y : Step ToolNode Note} → Goes x ≡ Spent y → ⊥
    other is = absurd (cc)

-- the lines of the ledger as commands
noted_lines :
    (lines : List Happening) (core : EndView Kind) (out out_new : StepOut)
    → out_new.notes ≡ out.notes ++ filter_map printed_note lines → out_new.line ≡ out.line
    → AreCarried (lines_commands lines) core out core out_new
noted_lines lines core out out_new noted line =
    lines_carried lines (on_the_way core out)
    ∙ ap
    (λ (o : StepOut). Goes (on_the_way core o))
    (ap (λ (notes : List Note). record { line = out.line; notes = notes }) (sym noted)
    ∙ ap (λ l. record { line = l; notes = out_new.notes }) (sym line))

-- ---- whether the spool is active then

-- what was active stays so, and what may be becomes so
pub active_after :
    (enabled : Bool) (ledger : LedgerView) → (activated enabled ledger).next.is_active ≡ (enabled || ledger.is_active)
active_after enabled ledger = go enabled ledger.is_active refl
  where
    go : (b a : Bool) → ledger.is_active ≡ a
        → (if b && not a then changed true ledger else quiet ledger).next.is_active ≡ (b || a)
    go true true is = is
    go true false is = refl
    go false true is = is
    go false false is = is

-- ---- all of it

-- with the open messages ended, the change and the spool's lines noted
pub record IsParting
    (begins active : Bool) (own : OwnView) (outcome : CommsOutcome) (activity : Booked) (before : LedgerView)
    (failed : Option Header) (reports : List Spooled) (core core_ended : EndView Kind) (own_left : OwnView)
    (out out_ended out_noted out_active : StepOut)
    : Type 0 where
  pub on : begins ≡ true → active ≡ activity.next.is_active
  pub off : begins ≡ false → active ≡ false
  pub reports_are : reports ≡ all_stored active (with_ledger before (with_comms outcome.next own)) core
  pub done :
      AreDone (ends_open (ends_with active (with_ledger before (with_comms outcome.next own))) core failed) core out
      core_ended out_ended
  pub noted :
      AreCarried (comms_lines own.comms.state outcome.next.state) core_ended out_ended core_ended out_noted
  pub left : own_left ≡ with_ledger activity.next (without_open (with_ledger before (with_comms outcome.next own)) core)
  pub lines : out_active.notes ≡ out_noted.notes ++ filter_map printed_note activity.lines
  pub line : out_active.line ≡ out_noted.line

module _ (begins active : Bool) (own : OwnView) (outcome : CommsOutcome) (activity : Booked) (before : LedgerView)
    (failed : Option Header) (reports : List Spooled) (core core_ended : EndView Kind) (own_left : OwnView)
    (out out_ended out_noted out_active : StepOut)
    (is : IsParting begins active own outcome activity before failed reports core core_ended own_left
    out out_ended out_noted out_active) where
  abbrev pub left_own : OwnView
  left_own = with_ledger activity.next (with_comms outcome.next own)

  abbrev pub stores : Stores
  stores =
      stores_all (overwrites own.tables) (filter_map (stored_of begins left_own) core.transactions.begun) activity.next

  abbrev pub last_own : OwnView
  last_own = with_ledger stores.next (without_open left_own core)

  -- what is stored
  stores_same : stores_turn reports own_left
      ≡ fixed_turn last_own (stores_commands stores [])
  stores_same =
      ap (λ (o : OwnView). stores_turn reports o) is.left
      ∙ ap (λ (all : List Spooled). stores_turn all (with_ledger activity.next (without_open left_own core)))
      (is.reports_are
      ∙ ap (λ (f : Begun Kind → Option Spooled). filter_map f core.transactions.begun)
      (stored_same begins active own outcome.next before activity.next is.on is.off))

  -- what comes behind the reports
  pub parted_last :
      (A : Type 0) (more : ToolCommands) (new : ToolNode) (out_new : StepOut) (result : Result A Stop)
      → more ≡ stores_commands stores (request_commands outcome.output own)
      → Takes (fixed_turn last_own more) (node own_left core_ended) out_active new out_new result
      → Takes (parted_turn outcome begins activity failed own core) (node own core) out new out_new result
  parted_last A more new out_new result more_is taken =
      let ends : ToolTurn = turn_of last_own (ends_open (ends_report begins left_own) core failed) in
      let last : ToolTurn = fixed_turn last_own (left_commands outcome activity stores own) in
      behind ends last (node own core) (node last_own core_ended) new out out_ended out_new result
      (subst
      (λ (f : Begun Kind → ToolCommands). went_with last_own (all_done printed_note (ends_open f core failed)
      (on_the_way core out)) ≡ Goes (on_the_way (node last_own core_ended) out_ended))
      (ends_same begins active own outcome.next before activity.next is.on is.off)
      (ap (λ (w : Went (EndView Kind) Note). went_with last_own w) is.done))
      (commands_then last_own (comms_lines own.comms.state outcome.next.state ++ lines_commands activity.lines)
      (stores_commands stores (request_commands outcome.output own)) (node last_own core_ended)
      (node last_own core_ended) new out_ended out_active out_new result
      (carried_append printed_note (comms_lines own.comms.state outcome.next.state) (lines_commands activity.lines)
      (on_the_way core_ended out_ended)
      ∙ ap (λ (w : Went (EndView Kind) Note). and_then w (carried printed_note (lines_commands activity.lines)))
      is.noted
      ∙ noted_lines activity.lines core_ended out_noted out_active is.lines is.line)
      (subst
      (λ (commands : ToolCommands). Takes {A = A} (fixed_turn last_own commands) (node own_left core_ended) out_active
      new out_new result)
      more_is taken))

  -- the reports are stored, and S1F13 goes where it is to
  pub parted_goes :
      (A : Type 0) (stored new : ToolNode) (out_stored out_new : StepOut) (result : Result A Stop)
      → HasTaken (stores_turn reports own_left) (node own_left core_ended) out_active stored out_stored
      → Takes (fixed_turn stored.own (request_commands outcome.output stored.own)) stored out_stored new out_new result
      → Takes (parted_turn outcome begins activity failed own core) (node own core) out new out_new result
  parted_goes A stored new out_stored out_new result taken asked =
      let went : HasTaken (fixed_turn last_own (stores_commands stores [])) (node own_left core_ended) out_active stored
      out_stored =
      subst (λ (turn : ToolTurn). HasTaken turn (node own_left core_ended) out_active stored out_stored) stores_same
      taken in
      let own_is : stored.own ≡ last_own =
      sym (turned (fixed_turn last_own (stores_commands stores [])) (node own_left core_ended) stored out_active
      out_stored went) in
      let asked_last : Takes {A = A} (fixed_turn last_own (request_commands outcome.output own)) stored out_stored new
      out_new result =
      subst (λ (commands : ToolCommands). Takes {A = A} (fixed_turn last_own commands) stored out_stored new out_new
      result)
      (request_alike outcome.output own outcome.next core stores.next)
      (subst (λ (o : OwnView). Takes {A = A} (fixed_turn o (request_commands outcome.output o)) stored out_stored new
      out_new result) own_is asked) in
      parted_last A (stores_commands stores (request_commands outcome.output own)) new out_new result refl
      (stores_then stores (without_open left_own core) (request_commands outcome.output own) (node own_left core_ended)
      stored new out_active out_stored out_new result went asked_last)

  -- a report gets no number
  pub parted_stops :
      (A B : Type 0) (new : ToolNode) (out_new : StepOut) (end : Stop)
      → Takes {A = A} (stores_turn reports own_left) (node own_left core_ended) out_active new out_new (Err end)
      → Takes {A = B} (parted_turn outcome begins activity failed own core) (node own core) out new out_new (Err end)
  parted_stops A B new out_new end taken =
      parted_last B (stores_commands stores (request_commands outcome.output own)) new out_new (Err end) refl
      (stores_ended A B last_own stores.lines stores.is_spent (request_commands outcome.output own)
      (node own_left core_ended) (node own_left core_ended) new out_active out_new end refl
      (subst (λ (turn : ToolTurn). Takes {A = A} turn (node own_left core_ended) out_active new out_new (Err end))
      stores_same taken))

-- ---- from what the code knows

-- what it knows before the open messages end
pub record IsLeft
    (input : CommsIn) (now delay : ℕ) (own : OwnView) (next : CommsView) (output : CommsOut) (was is : CommsState)
    (begins enabled active : Bool) (ended : LedgerView)
    : Type 0 where
  pub delayed : delay ≡ delay_of own.tables
  pub next_is : next ≡ (comms_step own.comms (record { input = input; delay = delay; now = now })).next
  pub output_is : output ≡ (comms_step own.comms (record { input = input; delay = delay; now = now })).output
  pub was_is : was ≡ own.comms.state
  pub is_is : is ≡ next.state
  pub differs : is_same_comms was is ≡ false
  pub begins_is : begins ≡ begins_spooling was is
  pub enabled_is : enabled ≡ (begins && may_spool own.tables)
  pub active_is : active ≡ (begins && (may_spool own.tables || own.ledger.is_active))
  pub ended_is : ended ≡ with_unload None own.ledger

-- and what was done up to the reports
pub record IsLeaving
    (failed : Option Header) (core core_ended : EndView Kind) (own own_ended : OwnView) (next : CommsView)
    (was is : CommsState) (enabled active : Bool) (ended ledger : LedgerView) (reports : List Spooled)
    (out out_ended out_noted out_active : StepOut)
    : Type 0 where
  pub own_is : own_ended ≡ without_open (with_ledger ended (with_comms next own)) core
  pub done :
      AreDone (ends_open (ends_with active (with_ledger ended (with_comms next own))) core failed) core out core_ended
      out_ended
  pub reports_are : reports ≡ all_stored active (with_ledger ended (with_comms next own)) core
  pub noted : (e : EndView Kind) → AreCarried (comms_lines was is) e out_ended e out_noted
  pub next_is : ledger ≡ (activated enabled own_ended.ledger).next
  pub lines : out_active.notes ≡ out_noted.notes ++ filter_map printed_note (activated enabled own_ended.ledger).lines
  pub line : out_active.line ≡ out_noted.line

module _ (input : CommsIn) (now delay : ℕ) (own : OwnView) (next : CommsView) (output : CommsOut) (was is : CommsState)
    (begins enabled active : Bool) (ended : LedgerView)
    (left : IsLeft input now delay own next output was is begins enabled active ended)
    (failed : Option Header) (core core_ended : EndView Kind) (own_ended : OwnView) (ledger : LedgerView)
    (reports : List Spooled) (out out_ended out_noted out_active : StepOut)
    (leaving : IsLeaving failed core core_ended own own_ended next was is enabled active ended ledger reports
    out out_ended out_noted out_active) where
  abbrev outcome : CommsOutcome
  outcome = record { next = next; output = output }

  abbrev entry : ℕ → CommsOutcome
  entry d = comms_step own.comms (record { input = input; delay = d; now = now })

  outcome_same : outcome ≡ comms_outcome input now own
  outcome_same =
      ap (λ (n : CommsView). record { next = n; output = output }) left.next_is
      ∙ ap (λ (o : CommsOut). record { next = (entry delay).next; output = o }) left.output_is
      ∙ ap (λ (d : ℕ). entry d) left.delayed

  states_same : {A : Type 0} (f : CommsState → CommsState → A) → f was is ≡ f own.comms.state next.state
  states_same f = ap (λ (s : CommsState). f s is) left.was_is ∙ ap (λ (s : CommsState). f own.comms.state s) left.is_is

  activity_same : activated enabled ended
      ≡ activated (begins_spooling own.comms.state next.state && may_spool own.tables) (with_unload None own.ledger)
  activity_same =
      ap (λ (v : LedgerView). activated enabled v) left.ended_is
      ∙ ap (λ (b : Bool). activated b (with_unload None own.ledger))
      (left.enabled_is
      ∙ ap (λ (b : Bool). b && may_spool own.tables) (left.begins_is ∙ states_same begins_spooling))

  turn_same : parted_turn (record { next = next; output = output }) begins (activated enabled ended) failed own core
      ≡ end_of_talk input failed now own core
  turn_same =
      ap (λ (b : Bool). parted_turn outcome b (activated enabled ended) failed own core)
      (left.begins_is ∙ states_same begins_spooling)
      ∙ ap
      (λ (a : Booked). parted_turn outcome (begins_spooling own.comms.state next.state) a failed own core) activity_same
      ∙ ap
      (λ (b : Bool). if b then turn_of own []
      else parted_turn outcome (begins_spooling own.comms.state next.state)
      (activated (begins_spooling own.comms.state next.state && may_spool own.tables) (with_unload None own.ledger))
      failed own core)
      (sym (sym (states_same is_same_comms) ∙ left.differs))
      ∙ ap (λ (o : CommsOutcome). left_turn o failed own core) outcome_same

  ledger_same : own_ended.ledger ≡ ended
  ledger_same = ap (λ (o : OwnView). o.ledger) leaving.own_is

  parting :
      IsParting begins active own (record { next = next; output = output }) (activated enabled ended) ended failed
      reports core core_ended (with_ledger ledger own_ended) out out_ended out_noted out_active
  parting = record {
    on = λ b.
        left.active_is
        ∙ ap (λ (x : Bool). x && (may_spool own.tables || own.ledger.is_active)) b
        ∙ sym (active_after enabled ended
        ∙ ap (λ (x : Bool). x || ended.is_active)
        (left.enabled_is ∙ ap (λ (x : Bool). x && may_spool own.tables) b)
        ∙ ap (λ (v : LedgerView). may_spool own.tables || v.is_active) left.ended_is);
    off = λ b. left.active_is ∙ ap (λ (x : Bool). x && (may_spool own.tables || own.ledger.is_active)) b;
    reports_are = leaving.reports_are;
    done = leaving.done;
    noted =
        subst (λ (commands : ToolCommands). AreCarried commands core_ended out_ended core_ended out_noted)
        (states_same comms_lines) (leaving.noted core_ended);
    left =
        ap (λ (o : OwnView). with_ledger ledger o) leaving.own_is
        ∙ ap
        (λ (v : LedgerView). with_ledger v (without_open (with_ledger ended (with_comms next own)) core))
        (leaving.next_is ∙ ap (λ (v : LedgerView). (activated enabled v).next) ledger_same);
    lines =
        leaving.lines
        ∙ ap (λ (v : LedgerView). out_noted.notes ++ filter_map printed_note (activated enabled v).lines) ledger_same;
    line = leaving.line;
  }

  pub leaving_goes :
      (A : Type 0) (stored new : ToolNode) (out_stored out_new : StepOut) (result : Result A Stop)
      → HasTaken (stores_turn reports (with_ledger ledger own_ended)) (node (with_ledger ledger own_ended) core_ended)
      out_active stored out_stored
      → Takes (fixed_turn stored.own (request_commands output stored.own)) stored out_stored new out_new result
      → Takes (end_of_talk input failed now own core) (node own core) out new out_new result
  leaving_goes A stored new out_stored out_new result taken asked =
      subst (λ (turn : ToolTurn). Takes {A = A} turn (node own core) out new out_new result) turn_same
      (parted_goes begins active own (record { next = next; output = output }) (activated enabled ended) ended failed
      reports core core_ended (with_ledger ledger own_ended) out out_ended out_noted out_active parting A stored new
      out_stored out_new result taken asked)

  pub leaving_stops :
      (A B : Type 0) (new : ToolNode) (out_new : StepOut) (end : Stop)
      → Takes {A = A} (stores_turn reports (with_ledger ledger own_ended))
      (node (with_ledger ledger own_ended) core_ended) out_active new out_new (Err end)
      → Takes {A = B} (end_of_talk input failed now own core) (node own core) out new out_new (Err end)
  leaving_stops A B new out_new end taken =
      subst (λ (turn : ToolTurn). Takes {A = B} turn (node own core) out new out_new (Err end)) turn_same
      (parted_stops begins active own (record { next = next; output = output }) (activated enabled ended) ended failed
      reports core core_ended (with_ledger ledger own_ended) out out_ended out_noted out_active parting A B new
      out_new end taken)
