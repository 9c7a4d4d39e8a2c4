-- What the messages of the host keep of the spool as it is noted.
use Rattle.std.proofs.Common.{◌≡◌, refl, sym, ap, subst, ◌∙◌, inl, inr, arith, ◌+◌, ◌==◌, ◌&&◌, not, Bool, true, false, ℕ, List, [], ◌∷◌, ◌++◌, Option, Some, None, if◌then◌else◌}
use Rattle.std.proofs.lemmas.Bool.{eqb-true}
use Rattle.std.proofs.lemmas.Bool.Decides.{nat_tests}
use Rattle.std.specs.List.{find}
use Rattle.std.specs.Option.{option_map}
use Rattle.std.specs.Prelude.{is_some, ◌||◌}
use Rattle.std.specs.Bool.{beq}
use Rattle.block_codec.specs.declared.header.Header.{Header}
use Rattle.gem_shapes.specs.Primaries.{is_known}
use Rattle.gem_shapes.specs.declared.request.Request.{Request}
use Rattle.gem_shapes.specs.declared.request.Request.TheVariants as request
use Rattle.gem_shapes.specs.declared.request.TablesRequest.{TablesRequest}
use Rattle.gem_states.specs.declared.comms.CommsIn.TheVariants as comms_in
use Rattle.gem_states.specs.declared.control.ControlIn.TheVariants as control_in
use Rattle.gem_trace.specs.declared.request.TraceRequest.{TraceRequest}
use Rattle.message_flow.specs.declared.message.Message.{Message}
use Rattle.message_flow.specs.Message.{is_primary}
use Rattle.setup_store.specs.Entries.{Entry, bytes_of, has_room}
use Rattle.trace_log.specs.InStep.{received_in_step}
use Rattle.trace_log.specs.Log.{Happening, Past}
use Rattle.transact.specs.Matching.{matches}
use Rattle.transact.specs.declared.begun.Begun.{Begun}
use Rattle.transact.specs.declared.transactions.Match.TheVariants as match
use Rattle.transact.specs.Transactions.{is_answered_by, match_of, without_first as without}
use Rattle.message_end.specs.Core.{EndView, answers, at_first, is_crowded_out, noted}
use Rattle.message_end.specs.Core.Command.{Answer}
use Rattle.message_end.specs.Course.{noted_behind}
use Rattle.message_end.specs.Own.{Has}
use Rattle.message_end.specs.Parts.{core_after}
use Rattle.message_end.proofs.Members.{found-in}
use Rattle.spool_law.specs.Shelf.{IsPurge, received_since, shelf_of}
use Rattle.spool_ledger.specs.Activity.{rsda_of}
use Rattle.spool_ledger.specs.Laws.{Call}
use Rattle.spool_ledger.specs.Ledger.{LedgerView}
use Rattle.spool_ledger.specs.Storing.{all_out}
use Rattle.spool_ledger.specs.Unloading.{fresh, is_oldest_tried, tried_in, with_unload}
use Rattle.spool_ledger.specs.declared.unload.Unload.{Unload}
use Rattle.spool_file.specs.Slot.{Message as Put}
use Rattle.equipment_tables.specs.declared.plan.EquipmentPlan.{EquipmentPlan}
use Rattle.equipment_tables.specs.Requests.{request_of}
use Rattle.tool_step.specs.declared.kind.Kind.{Kind}
use Rattle.tool_step.specs.declared.kind.Kind.TheVariants as kind
use Rattle.tool_step.specs.Codes.{is_accepted_in, is_granted_in}
use Rattle.tool_step.specs.Grants.{GrantView}
use Rattle.tool_step.specs.Messages.{answer_turn, dropped_turn, error_turn, established_turn, heard_turn, is_establish_request, is_online_request, keep_turn, kept_turn, known_turn, message_turn, offline_turn, primary_turn, read_turn, recorded_turn, request_turn, stray_turn, unkept_turn}
use Rattle.tool_step.specs.Own.{OwnView, ToolTurn, event_report, is_communicating, is_enabled_in as is_comms_enabled, is_granted_by, is_online, turn_before, turn_of, unowed, waiting_report, waiting_data, with_ledger, without_grant, without_report, without_waiting_data}
use Rattle.tool_step.specs.Recipes.{asked_of, takes_stream}
use Rattle.gem_shapes.proofs.RecipeRequests.{asks_recipes, each_request}
use Rattle.tool_step.specs.Replies.{granted_turn, loss_turn, matched_turn, reply_turn, secondary_turn}
use Rattle.tool_step.specs.Sampling.{granted_trace_turn, trace_turn}
use Rattle.tool_step.specs.Sent as sent
use Rattle.tool_step.specs.Setup.{next_setup}
use Rattle.tool_step.specs.Spooling.{booked_turn, grant_given_turn, rsda_duties}
use Rattle.tool_spool.specs.SpoolKept.{is_purge, policy_of}
use Rattle.tool_step.specs.States as states
use Rattle.tool_spool.proofs.CalmSamples.{granted-trace-calm, trace-calm}
use Rattle.tool_law.proofs.CommandWalks.{abort-are}
use Rattle.tool_law.proofs.TurnWalks.{dropped-of, established-of, offline-of, stray-of}
use Rattle.tool_spool.proofs.CalmParts.{IsCalmTurn, answer-calm, comms-calm, common-calm, control-calm, control-request-calm, error-turn-calm, going-calm, like-as, likes, rsda-calm, states-like, unreported-like}
use Rattle.tool_spool.proofs.KeptLedger.{one-call}
use Rattle.tool_spool.proofs.KeptSetups.{TurnOwes, recipes-owe, turn-owes, unkept-calm}
use Rattle.tool_spool.proofs.KeptUnload.{MayConfirm}
use Rattle.tool_reports.proofs.OwedReplies.{next-so}
use Rattle.tool_reports.proofs.QuietNotes.{one-behind}
use Rattle.tool_spool.proofs.ShelvedTurns.{calm-keeps, like-it, purge-keeps}
use Rattle.tool_law.proofs.CoreSteps.{CoreStep}
use Rattle.tool_spool.proofs.SpoolTurns.{HoldsAt, IsNoneLeft, ShelvesAt, TurnEnds, before-keeps, calm-at, calm-turn, ended-fewer, loss-keeps, so_far}
use Rattle.tool_spool.proofs.SpoolUnloads.{leave-given-keeps}
use Rattle.tool_spool.proofs.TakenTurns.{confirm-keeps, full-so, unload-keeps}
use Rattle.tool_spool.proofs.UnloadOpen.{HasHeader, IsOpen, asks_grant, found-open, last-tried, none-behind, unloads_in}

-- ---- what is answered

-- a reply has the system bytes and the stream of its primary, no W bit, and the function plus one, where it is no abort
record IsAnswer (primary secondary : Header) : Type 0 where
  wait : secondary.wait ≡ false
  system : secondary.system ≡ primary.system
  stream : secondary.stream ≡ primary.stream
  function : (secondary.function == 0) ≡ false → secondary.function ≡ primary.function + 1

answers-so : (primary secondary : Header) → matches primary secondary ≡ true → IsAnswer primary secondary
answers-so primary secondary is =
    go (secondary.system == primary.system) (secondary.stream == primary.stream) (not secondary.wait)
    (not (beq secondary.from_equipment primary.from_equipment)) refl refl refl is
  where
    calm : (wait : Bool) → not wait ≡ true → wait ≡ false
    calm true is = absurd (cc)
    calm false is = refl

    next : (a b : Bool) → (secondary.function == primary.function + 1) ≡ a → (secondary.function == 0) ≡ b
        → (a || b) ≡ true → b ≡ false → secondary.function ≡ primary.function + 1
    next true b is_next is_none all none = eqb-true secondary.function (primary.function + 1) is_next
    next false true is_next is_none all none = absurd (cc)
    next false false is_next is_none all none = absurd (cc)

    go : (a b c d : Bool) → (secondary.system == primary.system) ≡ a → (secondary.stream == primary.stream) ≡ b
        → not secondary.wait ≡ c
        → (a && b && c && d
        && ((secondary.function == primary.function + 1) || (secondary.function == 0))) ≡ true
        → IsAnswer primary secondary
    go true true true true same_system same_stream waits_not all = record {
      wait = calm secondary.wait waits_not;
      system = eqb-true secondary.system primary.system same_system;
      stream = eqb-true secondary.stream primary.stream same_stream;
      function = λ some.
          next (secondary.function == primary.function + 1) (secondary.function == 0) refl refl all some;
    }
    go false b c d same_system same_stream waits_not all = absurd (cc)
    go true false c d same_system same_stream waits_not all = absurd (cc)
    go true true false d same_system same_stream waits_not all = absurd (cc)
    go true true true false same_system same_stream waits_not all = absurd (cc)

-- the core behind a reply
after-answer : (header : Header) (e : EndView Kind) (step : CoreStep) → e ≡ step.next → (found : Option (Begun Kind))
    → find (is_answered_by header) step.next.transactions.begun ≡ found
    → core_after (Answer header) e ≡ (answers Some header found step).next
after-answer header e step same found is =
    ap (λ (core : EndView Kind). core_after (Answer header) core) same
    ∙ ap (λ (f : Option (Begun Kind)). (answers Some header f (at_first {N = Happening} step.next)).next) is ∙ go found
  where
    go : (found : Option (Begun Kind))
        → (answers Some header found (at_first {N = Happening} step.next)).next ≡ (answers Some header found step).next
    go None = refl
    go (Some begun) = refl

-- no unload runs where one may begin
rsda-none : (v : LedgerView) → (rsda_of v == 0) ≡ true → v.unload ≡ None
rsda-none v is = go v.is_active v.unload is
  where
    go : (active : Bool) (unload : Option Unload)
        → ((if not active then 2 else (if is_some unload then 1 else 0)) == 0) ≡ true → unload ≡ None
    go false unload e = absurd (grind (arith, nat_tests, e))
    go true None e = refl
    go true (Some u) e = absurd (grind (arith, nat_tests, e))

module _ (plan : EquipmentPlan) (slots : ℕ) (list : List Put) (base before : List Happening) where
  abbrev notes_at : CoreStep → List Happening
  notes_at step = so_far plan slots list base before step

  -- ---- a reply

  replied-keeps :
      (now : ℕ) (replied : Kind) (system : ℕ) (body : List ℕ) (own : OwnView) (e : EndView Kind) (step : CoreStep)
      → IsNoneLeft plan slots list base before replied step → is_crowded_out true e ≡ is_crowded_out true step.next
      → (replied ≡ kind.Unload → is_oldest_tried own.ledger ≡ true
      → MayConfirm (notes_at step) own.ledger.first)
      → HoldsAt plan slots list base before own step
      → TurnEnds plan slots list base before (reply_turn now replied system body own e) step
  replied-keeps now kind.Establish system body own e step none room confirmed holds = go (is_accepted_in body)
    where
      go : (accepted : Bool)
          → TurnEnds plan slots list base before
          (if accepted then states.comms_turn comms_in.Accepted now own
          else loss_turn now kind.Establish system own e) step
      go true =
          calm-turn plan slots list base before own (states.comms_turn comms_in.Accepted now own) step
          (comms-calm comms_in.Accepted now own) holds.shelves
      go false = loss-keeps plan slots list base before now kind.Establish system own e step none holds
  replied-keeps now kind.Attempt system body own e step none room confirmed holds =
      calm-turn plan slots list base before own (states.control_turn control_in.AttemptDone own) step
      (control-calm control_in.AttemptDone own) holds.shelves
  replied-keeps now kind.Grant system body own e step none room confirmed holds = go (is_granted_in body)
    where
      ungranted : ShelvesAt plan slots list base before (without_grant system own) step
      ungranted =
          like-it plan slots list base before own (without_grant system own) step.next (notes_at step)
          (like-as own (without_grant system own) refl refl refl) holds.shelves

      granted : (found : Option GrantView)
          → TurnEnds plan slots list base before
          (granted_turn (option_map (λ (one : GrantView). event_report one.body) found) (without_grant system own) e)
          step
      granted None = ungranted
      granted (Some one) =
          calm-turn plan slots list base before (without_grant system own)
          (sent.going_turn (event_report one.body) (without_grant system own) e) step
          (going-calm (event_report one.body) (refl, omega arith) (without_grant system own) e) ungranted

      go : (leave : Bool)
          → TurnEnds plan slots list base before
          (if leave then granted_turn (waiting_report system own) (without_grant system own) e
          else loss_turn now kind.Grant system own e) step
      go true = granted (find (is_granted_by system) own.for_grant)
      go false = loss-keeps plan slots list base before now kind.Grant system own e step none holds
  replied-keeps now kind.Report system body own e step none room confirmed holds =
      like-it plan slots list base before own (without_report system own) step.next (notes_at step)
      (unreported-like own system) holds.shelves
  replied-keeps now kind.Unload system body own e step none room confirmed holds =
      confirm-keeps plan slots list base before own step (confirmed refl) (none false refl) holds.shelves
  replied-keeps now kind.UnloadGrant system body own e step none room confirmed holds = go (is_granted_in body)
    where
      go : (leave : Bool)
          → TurnEnds plan slots list base before
          (if leave then grant_given_turn own e else loss_turn now kind.UnloadGrant system own e) step
      go true = leave-given-keeps plan slots list base before own e step room (none true refl) holds.shelves
      go false = loss-keeps plan slots list base before now kind.UnloadGrant system own e step none holds
  replied-keeps now kind.Trace system body own e step none room confirmed holds = holds.shelves
  replied-keeps now kind.TraceGrant system body own e step none room confirmed holds = go (is_granted_in body)
    where
      go : (leave : Bool)
          → TurnEnds plan slots list base before
          (if leave then granted_trace_turn (waiting_data system own) (without_waiting_data system own)
          else loss_turn now kind.TraceGrant system own e) step
      go true =
          calm-turn plan slots list base before own
          (granted_trace_turn (waiting_data system own) (without_waiting_data system own)) step
          (granted-trace-calm (waiting_data system own) own (without_waiting_data system own)
          (like-as own (without_waiting_data system own) refl refl refl)) holds.shelves
      go false = loss-keeps plan slots list base before now kind.TraceGrant system own e step none holds

  -- a secondary was received just now, the last block of which has this header
  secondary-keeps :
      (now : ℕ) (header : Header) (message : Message) (own : OwnView) (e : EndView Kind) (earlier : List Happening)
      (step : CoreStep) → e ≡ step.next → notes_at step ≡ Happening.Received message ∷ earlier
      → HasHeader header message → is_primary message ≡ false → HoldsAt plan slots list base before own step
      → TurnEnds plan slots list base before (secondary_turn now header message own e) step
  secondary-keeps now header message own e earlier step same newest has_header odd holds =
      subst
      (λ (found : Option (Begun Kind)).
      TurnEnds plan slots list base before
      (matched_turn now (match_of header found) message own (core_after (Answer header) e))
      (answers Some header (find (is_answered_by header) step.next.transactions.begun) step))
      (ap (λ (core : EndView Kind). find (is_answered_by header) core.transactions.begun) (sym same))
      (go (find (is_answered_by header) step.next.transactions.begun) refl
      (calm-at plan slots list base before own (Answer header ∷ []) step (tt, tt) holds))
    where
      go : (found : Option (Begun Kind)) → find (is_answered_by header) step.next.transactions.begun ≡ found
          → HoldsAt plan slots list base before own (answers Some header found step)
          → TurnEnds plan slots list base before
          (matched_turn now (match_of header found) message own (core_after (Answer header) e))
          (answers Some header found step)
      go None is at = at.shelves
      go (Some begun) is at = matched (header.function == 0) refl
        where
          next : CoreStep
          next = answers Some header (Some begun) step

          none : IsNoneLeft plan slots list base before begun.kind next
          none flag of =
              none-behind (tried_in own.ledger.unload) own.ledger.first (shelf_of (notes_at step)) step.next.drawn
              (unloads_in step.next.transactions.begun)
              (unloads_in (without (is_answered_by header) step.next.transactions).begun) holds.shelves.under_way
              (ended-fewer (is_answered_by header) step.next.transactions begun flag is of)

          room : is_crowded_out true (core_after (Answer header) e) ≡ is_crowded_out true next.next
          room =
              ap (λ (core : EndView Kind). is_crowded_out true core) (after-answer header e step same (Some begun) is)

          answer : IsAnswer begun.header header
          answer =
              answers-so begun.header header
              (found-in (is_answered_by header) step.next.transactions.begun begun is).1

          confirmed : (header.function == 0) ≡ false → begun.kind ≡ kind.Unload → is_oldest_tried own.ledger ≡ true
              → MayConfirm (notes_at step) own.ledger.first
          confirmed no_abort unloads oldest =
              let last =
              last-tried own.ledger (shelf_of (notes_at step)) step.next.drawn
              (unloads_in step.next.transactions.begun) begun.header holds.shelves.under_way
              (found-open (is_answered_by header) step.next.transactions.begun begun false is
              (ap (λ (k : Kind). asks_grant k) unloads)) oldest
              in (
                record {
                  tried = record { number = own.ledger.first; system = begun.header.system };
                  is = last.tried;
                  reply = message;
                  has =
                      subst (λ (notes : List Happening). Has (received_since notes) message) (sym newest)
                      (inl refl);
                  secondary = odd;
                  system = has_header.system ∙ answer.system;
                },
                record {
                  tried = record { number = own.ledger.first; system = begun.header.system };
                  is = last.tried;
                  number_is = refl;
                  message = last.header_is.message;
                  told = last.header_is.is;
                  reply = message;
                  has =
                      subst (λ (notes : List Happening). Has (received_in_step notes) message) (sym newest)
                      (inl refl);
                  wait = has_header.wait ∙ answer.wait;
                  system = has_header.system ∙ answer.system;
                  stream = has_header.stream ∙ answer.stream ∙ last.header_is.stream_is;
                  function =
                      has_header.function ∙ answer.function no_abort
                      ∙ ap (λ (n : ℕ). n + 1) last.header_is.function_is;
                },
              )

          matched : (aborts : Bool) → (header.function == 0) ≡ aborts
              → TurnEnds plan slots list base before
              (matched_turn now (if aborts then match.Abort begun.kind else match.Reply begun.kind) message own
              (core_after (Answer header) e)) next
          matched true none_is =
              loss-keeps plan slots list base before now begun.kind message.system own (core_after (Answer header) e)
              next
              none
              at
          matched false none_is =
              replied-keeps now begun.kind message.system message.body own (core_after (Answer header) e) next none room
              (λ unloads oldest. confirmed none_is unloads oldest) at

  -- ---- a request

  -- the newest message is this one, and it was received in this start and in this step
  pub record IsNewest (message : Message) (step : CoreStep) : Type 0 where
    pub earlier : List Message
    pub since : received_since (notes_at step) ≡ message ∷ earlier
    pub others : List Message
    pub in_step : received_in_step (notes_at step) ≡ message ∷ others

  answered : (asks : TablesRequest) (message : Message) (own : OwnView) (step : CoreStep)
      → ShelvesAt plan slots list base before own step
      → TurnEnds plan slots list base before (answer_turn asks message own) step
  answered asks message own step holds =
      calm-turn plan slots list base before own (answer_turn asks message own) step (answer-calm asks message own) holds

  asked-turn :
      (asks : Request) (now : ℕ) (message : Message) (own : OwnView) (step : CoreStep) → asks_recipes asks ≡ false
      → request_of message.stream message.function message.body ≡ Some asks → IsNewest message step
      → ShelvesAt plan slots list base before own step → TurnEnds plan slots list base before
      (request_turn asks now message own) step
  asked-turn (request.OfRecipes asked) now message own step none is newest holds = absurd (cc)
  asked-turn (request.OfTables asked) now message own step none is newest holds = answered asked message own step holds
  asked-turn request.GoOffline now message own step none is newest holds =
      calm-turn plan slots list base before own (request_turn request.GoOffline now message own) step
      (control-request-calm control_in.RequestOffline message own) holds
  asked-turn request.GoOnline now message own step none is newest holds =
      calm-turn plan slots list base before own (request_turn request.GoOnline now message own) step
      (control-request-calm control_in.RequestOnline message own) holds
  asked-turn (request.Trace trid dsper total group svids) now message own step none is newest holds =
      let asked : TraceRequest =
      record { trid = trid; dsper = dsper; total = total; group = group; svids = svids } in
      calm-turn plan slots list base before own (trace_turn asked now message own) step
      (trace-calm asked now message own) holds
  asked-turn request.TransmitSpool now message own step none is newest holds = go (rsda_of own.ledger == 0) refl
    where
      go : (may : Bool) → (rsda_of own.ledger == 0) ≡ may
          → TurnEnds plan slots list base before
          (if may then turn_of (with_ledger (with_unload (Some fresh) own.ledger) own) (rsda_duties message own)
          else turn_of own (rsda_duties message own)) step
      go true may =
          calm-keeps plan slots list base before false (with_ledger (with_unload (Some fresh) own.ledger) own)
          (with_ledger (with_unload (Some fresh) own.ledger) own) (rsda_duties message own) step
          (likes (with_ledger (with_unload (Some fresh) own.ledger) own)) (rsda-calm message own)
          (unload-keeps plan slots list base before own (with_unload (Some fresh) own.ledger) step.next (notes_at step)
          (one-call plan slots list base Call.BeginUnload own.ledger holds.is tt) refl refl refl (refl, refl)
          (subst
          (λ (u : Option Unload).
          IsOpen (tried_in u) own.ledger.first (shelf_of (notes_at step)) step.next.drawn
          (unloads_in step.next.transactions.begun)) (rsda-none own.ledger may) holds.under_way) holds)
      go false may =
          calm-keeps plan slots list base before false own own (rsda_duties message own) step (likes own)
          (rsda-calm message own) holds
  asked-turn request.PurgeSpool now message own step none is newest holds = go (rsda_of own.ledger == 0)
    where
      asks_it : is_purge (request_of message.stream message.function message.body) ≡ true
      asks_it = subst (λ (asks : Option Request). is_purge asks ≡ true) (sym is) refl

      purges : IsPurge (policy_of plan slots) (received_since (notes_at step))
      purges = subst (IsPurge (policy_of plan slots)) (sym newest.since) asks_it

      purges_now : IsPurge (policy_of plan slots) (received_in_step (notes_at step))
      purges_now = subst (IsPurge (policy_of plan slots)) (sym newest.in_step) asks_it

      go : (may : Bool)
          → TurnEnds plan slots list base before
          (if may then turn_before (rsda_duties message own) (booked_turn (all_out own.ledger) own)
          else turn_of own (rsda_duties message own)) step
      go true =
          before-keeps plan slots list base before (booked_turn (all_out own.ledger) own) (rsda_duties message own) step
          (rsda-calm message own) (purge-keeps plan slots list base before own step purges purges_now holds)
      go false =
          calm-keeps plan slots list base before false own own (rsda_duties message own) step (likes own)
          (rsda-calm message own) holds
  asked-turn request.Establish now message own step none is newest holds =
      calm-keeps plan slots list base before false own own (sent.abort_duty message ∷ []) step (likes own)
      (abort-are common-calm message) holds

  -- a change of the setup is kept, behind its request
  kept-owing :
      (kept : List Entry) (asks : Request) (message : Message) (own : OwnView) (step : CoreStep)
      → next_setup asks message own ≡ Some kept → has_room (bytes_of kept) ≡ true
      → ShelvesAt plan slots list base before own (noted Some (Happening.Recorded (Past.Asked message)) step)
      → TurnOwes plan slots list base before (recorded_turn message (keep_turn kept asks message own)) step
  kept-owing kept asks message own step is room counts = inr (record {
    message = message;
    earlier = noted_behind recorded before;
    noted =
        one-behind (recorded ++ Happening.Keeping message ∷ []) (Happening.Kept message) before
        ∙ ap (λ (ns : List Happening). Happening.Kept message ∷ ns)
        (one-behind recorded (Happening.Keeping message) before);
    shelves =
        like-it plan slots list base before own (unowed (keep_turn kept asks message own).own) step.next
        (noted_behind recorded before)
        (like-as own (unowed (keep_turn kept asks message own).own) refl (sym counts.owes) refl) counts;
    kept = record {
      list = kept;
      owed = refl;
      setup = refl;
      room = room;
      kind = (next-so kept asks message own is).kind;
    };
  })
    where
      recorded : List Happening
      recorded = step.notes ++ Happening.Recorded (Past.Asked message) ∷ []

  read-keeps :
      (now : ℕ) (header : Header) (message : Message) (own : OwnView) (step : CoreStep) → IsNewest message step
      → HoldsAt plan slots list base before own step
      → TurnOwes plan slots list base before
      (read_turn now (request_of message.stream message.function message.body) header message own) step
  read-keeps now header message own step newest holds =
      go (request_of message.stream message.function message.body) refl
    where
      next : CoreStep
      next = noted Some (Happening.Recorded (Past.Asked message)) step

      newer : IsNewest message next
      newer = record {
        earlier = newest.earlier;
        since =
            ap received_since (one-behind step.notes (Happening.Recorded (Past.Asked message)) before)
            ∙ newest.since;
        others = newest.others;
        in_step =
            ap received_in_step (one-behind step.notes (Happening.Recorded (Past.Asked message)) before)
            ∙ newest.in_step;
      }

      go : (read : Option Request) → request_of message.stream message.function message.body ≡ read
          → TurnOwes plan slots list base before (read_turn now read header message own) step
      go None is =
          turn-owes plan slots list base before (error_turn 7 header own) step
          (calm-turn plan slots list base before own (error_turn 7 header own) step (error-turn-calm 7 header own)
          holds.shelves)
      go (Some asks) is = heard (next_setup asks message own) refl
        where
          counts : ShelvesAt plan slots list base before own next
          counts =
              full-so plan slots list base before own (Happening.Recorded (Past.Asked message)) step refl refl
              holds.shelves

          -- one of which nothing is to be kept
          Recorded : Request → Type 0
          Recorded one =
              request_of message.stream message.function message.body ≡ Some one
              → TurnOwes plan slots list base before (recorded_turn message (request_turn one now message own)) step

          recorded : (one : Request) → Recorded one
          recorded =
              each_request Recorded
              (λ asked is. recipes-owe plan slots list base before (asked_of asked) message own next counts)
              (λ one apart is.
              turn-owes plan slots list base before (recorded_turn message (request_turn one now message own)) step
              (asked-turn one now message own next apart is newer counts))

          heard : (list_behind : Option (List Entry)) → next_setup asks message own ≡ list_behind
              → TurnOwes plan slots list base before (heard_turn list_behind now asks message own) step
          heard None none = recorded asks is
          heard (Some kept) some = by_room (has_room (bytes_of kept)) refl
            where
              by_room : (room : Bool) → has_room (bytes_of kept) ≡ room
                  → TurnOwes plan slots list base before (kept_turn room kept asks message own) step
              by_room true room = kept-owing kept asks message own step some room counts
              by_room false room =
                  turn-owes plan slots list base before (unkept_turn message own) step
                  (calm-turn plan slots list base before own (unkept_turn message own) step (unkept-calm message own)
                  holds.shelves)

  known-keeps :
      (now : ℕ) (header : Header) (message : Message) (own : OwnView) (step : CoreStep) → IsNewest message step
      → HoldsAt plan slots list base before own step
      → TurnOwes plan slots list base before (known_turn now header message own) step
  known-keeps now header message own step newest holds =
      go (not (takes_stream own message.stream)) (not (is_known message.stream message.function))
    where
      calm : (turn : ToolTurn) → IsCalmTurn own turn → TurnOwes plan slots list base before turn step
      calm turn is =
          turn-owes plan slots list base before turn step
          (calm-turn plan slots list base before own turn step is holds.shelves)

      go : (strange unknown : Bool)
          → TurnOwes plan slots list base before
          (if strange then error_turn 3 header own else if unknown then error_turn 5 header own
          else read_turn now (request_of message.stream message.function message.body) header message own) step
      go true unknown = calm (error_turn 3 header own) (error-turn-calm 3 header own)
      go false true = calm (error_turn 5 header own) (error-turn-calm 5 header own)
      go false false = read-keeps now header message own step newest holds

  primary-keeps :
      (now : ℕ) (header : Header) (message : Message) (own : OwnView) (step : CoreStep) → IsNewest message step
      → HoldsAt plan slots list base before own step
      → TurnOwes plan slots list base before (primary_turn now header message own) step
  primary-keeps now header message own step newest holds =
      go (is_establish_request message) (not (is_communicating own))
      (not (is_online own) && not (is_online_request message))
    where
      calm : (turn : ToolTurn) → IsCalmTurn own turn → TurnOwes plan slots list base before turn step
      calm turn is =
          turn-owes plan slots list base before turn step
          (calm-turn plan slots list base before own turn step is holds.shelves)

      go : (establishing silent offline : Bool)
          → TurnOwes plan slots list base before
          (if establishing then established_turn now message own else if silent then stray_turn now message own
          else if offline then offline_turn message own else known_turn now header message own) step
      go true silent offline =
          calm (established_turn now message own)
          (established-of common-calm states-like (λ body. refl) message (λ body. tt) now own)
      go false true offline =
          calm (stray_turn now message own) (stray-of common-calm states-like (λ body. refl) now message own)
      go false false true = calm (offline_turn message own) (offline-of common-calm states-like message own)
      go false false false = known-keeps now header message own step newest holds

  -- a whole message was received just now, the last block of which has this header
  pub message-keeps :
      (now : ℕ) (header : Header) (message : Message) (own : OwnView) (e : EndView Kind) (earlier : List Happening)
      (step : CoreStep) → e ≡ step.next → notes_at step ≡ Happening.Received message ∷ earlier
      → HasHeader header message → HoldsAt plan slots list base before own step
      → TurnOwes plan slots list base before (message_turn now header message own e) step
  message-keeps now header message own e earlier step same newest system holds =
      go (not (is_comms_enabled own.comms.state)) (is_primary message) refl
    where
      go : (disabled odd : Bool) → is_primary message ≡ odd
          → TurnOwes plan slots list base before
          (if disabled then dropped_turn message own else if odd then primary_turn now header message own
          else secondary_turn now header message own e) step
      go true odd is =
          turn-owes plan slots list base before (dropped_turn message own) step
          (calm-turn plan slots list base before own (dropped_turn message own) step
          (dropped-of common-calm states-like message own) holds.shelves)
      go false true is =
          primary-keeps now header message own step
          (record {
            earlier = received_since earlier;
            since = ap received_since newest;
            others = received_in_step earlier;
            in_step = ap received_in_step newest;
          })
          holds
      go false false is =
          turn-owes plan slots list base before (secondary_turn now header message own e) step
          (secondary-keeps now header message own e earlier step same newest system is holds)
