-- Turns of the states, and of open messages that end, keep what is kept sound.
use Rattle.std.proofs.Common.{◌≡◌, refl, sym, subst, ◌∙◌, Bool, true, false, ℕ, ◌≤◌, ◌&&◌, ◌||◌, List, [], ◌∷◌, ◌++◌, All, map, Option, Some, None, if◌then◌else◌}
use Rattle.std.specs.List.{cons_option, filter_map, find}
use Rattle.std.specs.Option.{option_map}
use Rattle.std.specs.Prelude.{IfSome}
use Rattle.std.proofs.lemmas.List.Elements.{All-nil, All-cons}
use Rattle.block_codec.specs.Protocol.{longest_text}
use Rattle.block_codec.specs.declared.header.Header.{Header}
use Rattle.gem_states.specs.Comms.{CommsOutcome}
use Rattle.gem_states.specs.Control.{control_next}
use Rattle.gem_states.specs.declared.comms.CommsIn.{CommsIn}
use Rattle.gem_states.specs.declared.comms.CommsOut.{CommsOut}
use Rattle.gem_states.specs.declared.comms.CommsOut.TheVariants as comms_out
use Rattle.gem_states.specs.declared.control.ControlIn.{ControlIn}
use Rattle.message_flow.proofs.Firsts.{All-find, All-without, removed}
use Rattle.secs_items.specs.declared.item.Item.{Item}
use Rattle.trace_log.specs.Log.{Happening}
use Rattle.trace_log.specs.Names.{Spooled}
use Rattle.transact.specs.declared.begun.Begun.{Begun}
use Rattle.transact.specs.Transactions.{system_of}
use Rattle.message_end.specs.Core.{Command, EndView, IsText}
use Rattle.message_end.specs.Core.Command.{Halt, Note}
use Rattle.message_end.specs.Endings.{ends_open}
use Rattle.message_end.specs.Parts.{fixed_turn, led_turn}
use Rattle.tool_step.specs.Grants.{GrantView}
use Rattle.tool_step.specs.declared.kind.Kind.{Kind}
use Rattle.tool_step.specs.declared.kind.Kind.TheVariants as kind
use Rattle.equipment_tables.specs.declared.plan.EquipmentPlan.{EquipmentPlan}
use Rattle.equipment_tables.specs.Answers.{identity_of}
use Rattle.gem_recipes.specs.declared.asking.RecipesAnswer.{RecipesAnswer}
use Rattle.gem_recipes.specs.declared.asking.RecipesAnswer.TheVariants as given
use Rattle.gem_recipes.specs.declared.asking.RecipesAsked.{RecipesAsked}
use Rattle.gem_recipes.specs.Asking.{is_change}
use Rattle.gem_shapes.specs.Answers.{code_item}
use Rattle.message_flow.specs.declared.message.Message.{Message}
use Rattle.secs_items.specs.declared.item.Item.TheVariants as item
use Rattle.tool_step.specs.declared.owed.Owed.TheVariants.{Recipes}
use Rattle.tool_step.specs.Recipes.{recipe_text, recipes_text, recipes_turn}
use Rattle.tool_step.specs.Own.{OwnView, ToolCommands, ToolDuty, ToolTurn, event_report, is_granted_by, is_report_of, owing, quiet_turn, sent_report, turn_before, untold, waiting_report, with_comms, with_control, with_ledger, without_grant, without_report, without_waiting_data}
use Rattle.equipment_tables.specs.Plan.{EquipmentPlanFits}
use Rattle.tool_step.specs.Sent as sent
use Rattle.tool_law.specs.Sound.{CanBeSent, IsGoodLedger, IsHeld}
use Rattle.tool_step.specs.Spooling.{Stores, booked_turn, is_spooled, lines_commands, stores_all, stores_commands, unloaded_own}
use Rattle.tool_law.proofs.SpoolSound.{IsGoodBooked, IsGoodStores, activated-good, stores-good, unload-good}
use Rattle.tool_step.specs.States as states
use Rattle.tool_step.specs.Step.{begun}
use Rattle.equipment_tables.specs.Tables.{may_spool, overwrites}
use Rattle.spool_ledger.specs.Ledger.{Numbered}
use Rattle.spool_ledger.specs.Ledger.{Booked, LedgerView}
use Rattle.spool_ledger.specs.Unloading.{with_unload}
use Rattle.tool_step.specs.Live.{ReportView}
use Rattle.tool_law.proofs.TriedDoings.{IsFine}
use Rattle.tool_law.proofs.TriedParts.{IsMildTurn}
use Rattle.tool_law.proofs.CommandWalks.{Does, are-both, comms-noted, control-noted, open-are}
use Rattle.tool_law.proofs.TriedSteps.{AreMildDuties, IsMild, IsMildCommand}
use Rattle.tool_law.proofs.MildCommands.{IsSpelled, bounded, can-event, common-mild, lines-quiet, may-establish, one-note, sent-quiet, spelled}

module _ (plan : EquipmentPlan) (TriedIs : Option ℕ → Type 0) (fits : EquipmentPlanFits plan) (slots : ℕ)
    (stood : Numbered)
  where
    abbrev pub Sound : OwnView → Type 0
    Sound = IsHeld plan slots stood TriedIs

    abbrev pub Quiet : ToolTurn → Type 0
    Quiet turn = IsMildTurn Sound turn

    abbrev pub AreQuiet : List ToolDuty → Type 0
    AreQuiet duties = AreMildDuties duties

    pub most : (own : OwnView) → Sound own → own.plan.line.max_body ≤ longest_text
    most own sound =
        subst (λ (p : EquipmentPlan). p.line.max_body ≤ longest_text) (sym sound.plan_is) fits.line.max_body_at_most

    pub text-is : (own : OwnView) → Sound own → (item : Item) → IsSpelled (sent.text_of own item)
    text-is own sound item = spelled own.plan.line.max_body (most own sound) item

    pub answer-is : (own : OwnView) → Sound own → (given : RecipesAnswer) → IsSpelled (recipes_text own given)
    answer-is own sound (given.Code code) = text-is own sound (code_item code)
    answer-is own sound (given.Body name None) = text-is own sound (item.L [])
    answer-is own sound (given.Body name (Some body)) =
        bounded own.plan.line.max_body (most own sound) (recipe_text name body)
    answer-is own sound (given.Names names) = text-is own sound (item.L (map item.A names))

    -- ---- what is kept stays sound

    pub kept : (own : OwnView) (other : OwnView) → Sound own → other.plan ≡ own.plan → other.for_grant ≡ own.for_grant
        → other.reports ≡ own.reports → other.ledger ≡ own.ledger → other.tried ≡ own.tried
        → other.tracing.for_grant ≡ own.tracing.for_grant → Sound other
    kept own other sound same texts reports ledger tried traced = record {
      plan_is = same ∙ sound.plan_is;
      texts = subst (λ (waiting : List GrantView). All (λ one. IsText one.body) waiting) (sym texts) sound.texts;
      traced = subst (λ (waiting : List GrantView). All (λ one. IsText one.body) waiting) (sym traced) sound.traced;
      reports = subst (λ (live : List ReportView). All (λ one. CanBeSent one.message) live) (sym reports) sound.reports;
      ledger = subst (λ (v : LedgerView). IsGoodLedger slots stood v) (sym ledger) sound.ledger;
      tried_is = subst
          TriedIs (sym tried) sound.tried_is;
    }

    pub ungranted : (own : OwnView) (system : ℕ) → Sound own → Sound (without_grant system own)
    ungranted own system sound = record {
      plan_is = sound.plan_is;
      texts = subst (λ (waiting : List GrantView). All (λ one. IsText one.body) waiting)
          (sym (removed (is_granted_by system) own.for_grant))
          (All-without (is_granted_by system) (λ one. IsText one.body) own.for_grant sound.texts);
      traced = sound.traced;
      reports = sound.reports;
      ledger = sound.ledger;
      tried_is = sound.tried_is;
    }

    -- an S6F1 waits no more
    pub untraced : (own : OwnView) (system : ℕ) → Sound own → Sound (without_waiting_data system own)
    untraced own system sound = record {
      plan_is = sound.plan_is;
      texts = sound.texts;
      traced = subst (λ (waiting : List GrantView). All (λ one. IsText one.body) waiting)
          (sym (removed (is_granted_by system) own.tracing.for_grant))
          (All-without (is_granted_by system) (λ one. IsText one.body) own.tracing.for_grant sound.traced);
      reports = sound.reports;
      ledger = sound.ledger;
      tried_is = sound.tried_is;
    }

    pub unreported : (own : OwnView) (system : ℕ) → Sound own → Sound (without_report system own)
    unreported own system sound = record {
      plan_is = sound.plan_is;
      texts = sound.texts;
      traced = sound.traced;
      reports = subst (λ (live : List ReportView). All (λ one. CanBeSent one.message) live)
          (sym (removed (is_report_of system) own.reports))
          (All-without (is_report_of system) (λ one. CanBeSent one.message) own.reports sound.reports);
      ledger = sound.ledger;
      tried_is = sound.tried_is;
    }

    pub booked-sound : (own : OwnView) (ledger : LedgerView) → Sound own → IsGoodLedger slots stood ledger
        → Sound (with_ledger ledger own)
    booked-sound own ledger sound good =
        record {
          plan_is = sound.plan_is;
          texts = sound.texts;
          traced = sound.traced;
          reports = sound.reports;
          ledger = good;
          tried_is = sound.tried_is;
        }

    pub unloaded-sound : (own : OwnView) → Sound own → Sound (unloaded_own own)
    unloaded-sound own sound =
        booked-sound own (with_unload None own.ledger) sound (unload-good None own.ledger tt sound.ledger)

    opened : (own : OwnView) (e : EndView Kind) → Sound own → Sound (states.without_open own e)
    opened own e sound = record {
      plan_is = sound.plan_is;
      texts = All-nil (λ (one : GrantView). IsText one.body);
      traced = All-nil (λ (one : GrantView). IsText one.body);
      reports = All-nil (λ (one : ReportView). CanBeSent one.message);
      ledger = sound.ledger;
      tried_is = sound.tried_is;
    }

    -- the reports that were sent, and those that wait for a grant
    sent-can : (own : OwnView) (system : ℕ) → Sound own → IfSome (sent_report system own) CanBeSent
    sent-can own system sound = go (find (is_report_of system) own.reports) refl
      where
        go : (found : Option ReportView) → find (is_report_of system) own.reports ≡ found
            → IfSome (option_map (λ (live : ReportView). live.message) found) CanBeSent
        go None is = tt
        go (Some live) is =
            All-find (is_report_of system) (λ one. CanBeSent one.message) own.reports live sound.reports is

    pub waiting-can : (own : OwnView) (system : ℕ) → Sound own → IfSome (waiting_report system own) CanBeSent
    waiting-can own system sound = go (find (is_granted_by system) own.for_grant) refl
      where
        go : (found : Option GrantView) → find (is_granted_by system) own.for_grant ≡ found
            → IfSome (option_map (λ (one : GrantView). event_report one.body) found) CanBeSent
        go None is = tt
        go (Some one) is =
            can-event one.body
            (All-find (is_granted_by system) (λ one. IsText one.body) own.for_grant one sound.texts is)

    pub kept-or-ended : (crowded : Bool) (own : OwnView) → Sound own
        → Sound (if crowded then unloaded_own own else own)
    kept-or-ended true own sound = unloaded-sound own sound
    kept-or-ended false own sound = sound

    -- ---- how turns are put together

    pub fixed-quiet :
        (own : OwnView) (commands : ToolCommands) → Sound own → IsMild commands → Quiet (fixed_turn own commands)
    fixed-quiet own commands sound is = record { quiet = ((λ e. is), tt); sound = sound }

    pub nothing-quiet : (own : OwnView) → Sound own → Quiet (quiet_turn own)
    nothing-quiet own sound = record { quiet = tt; sound = sound }

    -- what is asked of the recipes is asked without a word
    pub recipes-quiet : (asked : RecipesAsked) (message : Message) (own : OwnView) → Sound own
        → Quiet (recipes_turn asked message own)
    recipes-quiet asked message own sound = go (message.wait || is_change asked)
      where
        owes : OwnView
        owes = owing (Recipes asked (untold message)) own

        go : (asks : Bool) → Quiet (if asks then quiet_turn owes else quiet_turn own)
        go true = nothing-quiet owes (kept own owes sound refl refl refl refl refl refl)
        go false = nothing-quiet own sound

    pub note-quiet : (own : OwnView) (what : Happening) → Sound own → IsFine what
        → Quiet (fixed_turn own (Note what ∷ []))
    note-quiet own what sound plain = fixed-quiet own (Note what ∷ []) sound (one-note what plain)

    pub led-quiet : (lead : Command Kind) (turn : ToolTurn) → IsMild (lead ∷ []) → Quiet turn → Quiet (led_turn lead turn)
    led-quiet lead turn first is = record { quiet = ((λ e. first), is.quiet); sound = is.sound }

    pub before-quiet : (duties : List ToolDuty) (turn : ToolTurn) → AreQuiet duties → Quiet turn
        → Quiet (turn_before duties turn)
    before-quiet duties turn last is =
        record { quiet = are-both (Does IsMildCommand) turn.duties duties is.quiet last; sound = is.sound }

    pub booked-quiet : (booked : Booked) (own : OwnView) → Sound own → IsGoodBooked slots stood booked
        → Quiet (booked_turn booked own)
    booked-quiet booked own sound good =
        fixed-quiet (with_ledger booked.next own) (lines_commands booked.lines)
        (booked-sound own booked.next sound good.next) (lines-quiet booked.lines good.plain)

    -- ---- the states

    request-quiet : (out : CommsOut) (own : OwnView) → Sound own → IsMild (states.request_commands out own)
    request-quiet comms_out.SendRequest own sound =
        sent-quiet sent.establish_request may-establish (sent.text_of own (identity_of own.tables))
        (text-is own sound (identity_of own.tables))
    request-quiet comms_out.Nothing own sound = tt
    request-quiet comms_out.Answer own sound = tt

    comms-commands : (outcome : CommsOutcome) (own : OwnView) → Sound own
        → IsMild (states.comms_commands outcome own)
    comms-commands outcome own sound =
        are-both IsMildCommand (states.comms_lines own.comms.state outcome.next.state)
        (states.request_commands outcome.output own)
        (comms-noted common-mild own.comms.state outcome.next.state) (request-quiet outcome.output own sound)

    pub comms-quiet : (input : CommsIn) (now : ℕ) (own : OwnView) → Sound own → Quiet (states.comms_turn input now own)
    comms-quiet input now own sound =
        fixed-quiet (with_comms (states.comms_outcome input now own).next own)
        (states.comms_commands (states.comms_outcome input now own) own)
        (kept own (with_comms (states.comms_outcome input now own).next own) sound refl refl refl refl refl refl)
        (comms-commands (states.comms_outcome input now own) own sound)

    pub control-quiet : (input : ControlIn) (own : OwnView) → Sound own → Quiet (states.control_turn input own)
    control-quiet input own sound =
        fixed-quiet (with_control (control_next own.control input) own) (states.control_commands input own.control)
        (kept own (with_control (control_next own.control input) own) sound refl refl refl refl refl refl)
        (control-noted common-mild own.control.state (control_next own.control input).state)

    -- what is put as the communication is left
    one-stored : (own : OwnView) (message : Option Spooled) → IfSome message CanBeSent
        → IfSome (states.stored_one own message) CanBeSent
    one-stored own None can = tt
    one-stored own (Some message) can = go (is_spooled message own)
      where
        go : (spooled : Bool) → IfSome (if spooled then Some message else None) CanBeSent
        go true = can
        go false = tt

    stored-can : (spools : Bool) (own : OwnView) → Sound own → (begun : Begun Kind)
        → IfSome (states.stored_of spools own begun) CanBeSent
    stored-can false own sound begun = tt
    stored-can true own sound begun = go begun.kind
      where
        go : (lost : Kind) → IfSome (states.stored_by own lost (system_of begun)) CanBeSent
        go kind.Report = one-stored own (sent_report (system_of begun) own) (sent-can own (system_of begun) sound)
        go kind.Grant = one-stored own (waiting_report (system_of begun) own) (waiting-can own (system_of begun) sound)
        go kind.Unload = tt
        go kind.UnloadGrant = tt
        go kind.Establish = tt
        go kind.Attempt = tt
        go kind.Trace = tt
        go kind.TraceGrant = tt

    all-stored : (spools : Bool) (own : OwnView) → Sound own → (begun : List (Begun Kind))
        → All CanBeSent (filter_map (states.stored_of spools own) begun)
    all-stored spools own sound [] = All-nil CanBeSent
    all-stored spools own sound (one ∷ begun) =
        go (states.stored_of spools own one) (stored-can spools own sound one) (all-stored spools own sound begun)
      where
        go : (found : Option Spooled) → IfSome found CanBeSent
            → All CanBeSent (filter_map (states.stored_of spools own) begun)
            → All CanBeSent (cons_option found (filter_map (states.stored_of spools own) begun))
        go None can rest = rest
        go (Some message) can rest =
            All-cons CanBeSent message (filter_map (states.stored_of spools own) begun) can rest

    stores-quiet : (stores : Stores) (more : ToolCommands) → IsGoodStores slots stood stores → IsMild more
        → IsMild (stores_commands stores more)
    stores-quiet stores more good is =
        are-both IsMildCommand (lines_commands stores.lines) (if stores.is_spent then Halt ∷ [] else more)
        (lines-quiet stores.lines good.plain) (go stores.is_spent)
      where
        go : (spent : Bool) → IsMild (if spent then Halt ∷ [] else more)
        go true = ((tt, tt), tt)
        go false = is

    parted-quiet :
        (outcome : CommsOutcome) (spools : Bool) (activity : Booked) (failed : Option Header) (own : OwnView)
        (e : EndView Kind) → Sound own → IsGoodBooked slots stood activity
        → Quiet (states.parted_turn outcome spools activity failed own e)
    parted-quiet outcome spools activity failed own e sound good = record {
      quiet =
          are-both (Does IsMildCommand) (ends_open (states.ends_report spools left) e failed)
          ((λ later. states.left_commands outcome activity stores own) ∷ [])
          (open-are common-mild spools left e failed) ((λ f. last), tt);
      sound = booked-sound (states.without_open left e) stores.next (opened left e left-sound) put.next;
    }
      where
        left : OwnView
        left = with_ledger activity.next (with_comms outcome.next own)

        left-sound : Sound left
        left-sound =
            booked-sound (with_comms outcome.next own) activity.next
            (kept own (with_comms outcome.next own) sound refl refl refl refl refl refl) good.next

        stores : Stores
        stores =
            stores_all (overwrites own.tables) (filter_map (states.stored_of spools left) e.transactions.begun)
            activity.next

        put : IsGoodStores slots stood stores
        put =
            stores-good (overwrites own.tables) (filter_map (states.stored_of spools left) e.transactions.begun)
            activity.next (all-stored spools left left-sound e.transactions.begun) good.next

        last : IsMild (states.left_commands outcome activity stores own)
        last =
            are-both IsMildCommand
            (states.comms_lines own.comms.state outcome.next.state ++ lines_commands activity.lines)
            (stores_commands stores (states.request_commands outcome.output own))
            (are-both IsMildCommand (states.comms_lines own.comms.state outcome.next.state)
            (lines_commands activity.lines)
            (comms-noted common-mild own.comms.state outcome.next.state) (lines-quiet activity.lines good.plain))
            (stores-quiet stores (states.request_commands outcome.output own) put
            (request-quiet outcome.output own sound))

    left-quiet :
        (outcome : CommsOutcome) (failed : Option Header) (own : OwnView) (e : EndView Kind) → Sound own
        → Quiet (states.left_turn outcome failed own e)
    left-quiet outcome failed own e sound = go (states.is_same_comms own.comms.state outcome.next.state)
      where
        begins : Bool
        begins = states.begins_spooling own.comms.state outcome.next.state

        go : (same : Bool)
            → Quiet (if same then quiet_turn own
            else states.parted_turn outcome begins (states.activity_of outcome own) failed own e)
        go true = nothing-quiet own sound
        go false =
            parted-quiet outcome begins (states.activity_of outcome own) failed own e sound
            (activated-good (begins && may_spool own.tables) (with_unload None own.ledger)
            (unload-good None own.ledger tt sound.ledger))

    pub leaving-quiet :
        (input : CommsIn) (failed : Option Header) (now : ℕ) (own : OwnView) (e : EndView Kind) → Sound own
        → Quiet (states.end_of_talk input failed now own e)
    leaving-quiet input failed now own e sound = left-quiet (states.comms_outcome input now own) failed own e sound
