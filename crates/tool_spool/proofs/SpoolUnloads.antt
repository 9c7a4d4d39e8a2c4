-- What an unload and its replies keep of the spool as it is noted.
use Rattle.std.proofs.Common.{◌≡◌, refl, sym, ap, subst, ◌∙◌, inl, inr, arith, ◌<◌, ◌+◌, ◌==◌, ◌&&◌, ◌||◌, nat_le, nat_lt, not, Bool, true, false, ℕ, List, [], ◌∷◌, length, Option, Some, None, if◌then◌else◌}
use Rattle.std.proofs.lemmas.Bool.{eqb-true}
use Rattle.std.proofs.lemmas.Bool.Decides.{nat_tests}
use Rattle.std.specs.Option.{option_map}
use Rattle.std.specs.Prelude.{is_none, slice_get}
use Rattle.trace_log.specs.Log.{Happening}
use Rattle.trace_log.specs.Log.Happening.{Try}
use Rattle.trace_log.specs.Names.{Spooled}
use Rattle.transact.specs.Numbers.{after_draw, next_number}
use Rattle.message_end.specs.Core.{EndView, and_then, at_first, carried, carry, draws, is_crowded_out, keeps_drawn, noted, primary_of, step_in, with_end}
use Rattle.message_end.specs.Core.Command.{Draw, Remove}
use Rattle.message_end.specs.Duties.{all_done}
use Rattle.message_end.specs.Parts.{core_after, leads, next_of}
use Rattle.spool_law.specs.Shelf.{Carries, MaySendTried, Told, shelf_of, told_with}
use Rattle.spool_ledger.specs.Laws.{Call}
use Rattle.spool_ledger.specs.Ledger.{LedgerView}
use Rattle.spool_ledger.specs.Unloading.{after_next, is_over, let_go, next_number as next_unloaded, number_next, taken_up, tried_in, unload_next, waiting_in, with_each}
use Rattle.spool_ledger.specs.declared.unload.Tried.{Tried as UnderWay}
use Rattle.spool_ledger.specs.declared.unload.Unload.{Unload}
use Rattle.spool_file.specs.Slot.{Message as Put}
use Rattle.equipment_tables.specs.declared.answers.Answer.{Answer as Text}
use Rattle.equipment_tables.specs.declared.answers.Answer.TheVariants as answer
use Rattle.equipment_tables.specs.declared.plan.EquipmentPlan.{EquipmentPlan}
use Rattle.equipment_tables.specs.Tables.{most_transmitted}
use Rattle.spool_ledger.proofs.Widths.{widths-long}
use Rattle.tool_step.specs.declared.kind.Kind.{Kind}
use Rattle.tool_step.specs.Equipment.{settled_list}
use Rattle.spool_works.specs.Found.{spooled_of}
use Rattle.tool_step.specs.Own.{OwnView, event_report, with_ledger, with_tried}
use Rattle.tool_step.specs.Sent as sent
use Rattle.tool_step.specs.Spooling.{dataid_in, grant_given_turn, inquiry_turn, let_go_turn, needs_grant, sent_turn, stopped_turn, taking_turn, tried_turn, unload_part, unloaded, unloading_turn, waiting_text}
use Rattle.tool_spool.proofs.CalmParts.{like-as, likes}
use Rattle.tool_spool.proofs.KeptLedger.{one-call}
use Rattle.tool_reports.proofs.QuietNotes.{one-behind}
use Rattle.tool_spool.proofs.ShelvedTurns.{Ends, calm-keeps, like-it, spent-at}
use Rattle.tool_law.proofs.CoreSteps.{CoreStep}
use Rattle.tool_spool.proofs.SpoolTurns.{ShelvesAt, TurnEnds, so_far}
use Rattle.tool_spool.proofs.KeptUnload.{taken-told}
use Rattle.tool_spool.proofs.TakenTurns.{IsAsked, IsGone, asked-keeps, drawn-keeps, end-keeps, gone-goes, noted-so, try-keeps, unload-keeps}
use Rattle.tool_spool.proofs.UnloadOpen.{IsOpen, IsUnderWay, MayGo, Open, unloads_in}

-- ---- what is to be taken up

-- of an unload under which no message is under way
pub record IsNext (most : ℕ) (v : LedgerView) (number : ℕ) : Type 0 where
  pub unload : Unload
  pub is : v.unload ≡ Some unload
  pub tried : unload.tried ≡ None
  pub first : number ≡ v.first
  pub some : 0 < length v.sizes
  pub kept : unload_next most v v.unload ≡ Some unload

pub next-is : (most : ℕ) (v : LedgerView) (number : ℕ) → next_unloaded most v ≡ Some number → IsNext most v number
next-is most v number is = go v.unload refl is
  where
    inj : (x y : ℕ) → Some x ≡ Some y → x ≡ y
    inj x y e = cc

    left : (len : ℕ) (rest : Bool) → ((len == 0) || rest) ≡ false → 0 < len
    left len true e = absurd (grind (arith, nat_tests, e))
    left len false e = grind (arith, nat_tests, e)

    by : (unload : Unload) → v.unload ≡ Some unload → (tried : Option UnderWay) → unload.tried ≡ tried
        → (over : Bool) → is_over most v unload ≡ over
        → (if is_none tried && not over then Some v.first else None) ≡ Some number → IsNext most v number
    by unload same (Some t) e over o is = absurd (cc)
    by unload same None e true o is = absurd (cc)
    by unload same None e false o is = record {
      unload = unload;
      is = same;
      tried = e;
      first = sym (inj v.first number is);
      some = left (length v.sizes) (nat_lt 0 most && nat_le most unload.confirmed) o;
      kept =
          ap (λ (u : Option Unload). unload_next most v u) same
          ∙ ap (λ (b : Bool). if is_none unload.tried && b then None else Some unload) o
          ∙ never (is_none unload.tried) unload;
    }
      where
        never : (b : Bool) (u : Unload) → (if b && false then None else Some u) ≡ Some u
        never true u = refl
        never false u = refl

    go : (unload : Option Unload) → v.unload ≡ unload → number_next most v unload ≡ Some number
        → IsNext most v number
    go None same is = absurd (cc)
    go (Some unload) same is = by unload same unload.tried refl (is_over most v unload) refl is

next-tried : (most : ℕ) (v : LedgerView) (unload : Option Unload)
    → tried_in (unload_next most v unload) ≡ tried_in unload
next-tried most v None = refl
next-tried most v (Some unload) = go unload.tried (is_over most v unload) refl
  where
    go : (tried : Option UnderWay) (over : Bool) → unload.tried ≡ tried
        → tried_in (if is_none tried && over then None else Some unload) ≡ unload.tried
    go None true e = sym e
    go None false e = refl
    go (Some t) over e = refl

-- its system bytes are its own
pub carries-told :
    (message : Spooled) (system : ℕ) (told : List Told) → told_with system told ≡ Some message
    → MaySendTried told (primary_of (unloaded message) system)
carries-told message system told is primary other same =
    subst (λ (m : Spooled). Carries m (primary_of (unloaded message) system)) (inj message other (sym is ∙ same))
    (record { stream = refl; function = refl; wait = refl; body = refl })
  where
    inj : (x y : Spooled) → Some x ≡ Some y → x ≡ y
    inj x y e = cc

told-newest : (system : ℕ) (message : Spooled) (told : List Told)
    → told_with system (record { system = system; message = message } ∷ told) ≡ Some message
told-newest system message told = go (system == system) (grind (arith, nat_tests))
  where
    go : (b : Bool) → b ≡ true → (if b then Some message else told_with system told) ≡ Some message
    go true e = refl
    go false e = absurd (grind (arith, e))

-- one that waits for a grant is an S6F11
needs-event : (message : Spooled) → needs_grant message ≡ true → event_report message.body ≡ message
needs-event message needs =
    go (message.stream == 6) (message.function == 11) (not (nat_le (length message.body) 244)) refl refl needs
  where
    go : (a b c : Bool) → (message.stream == 6) ≡ a → (message.function == 11) ≡ b → (a && (b && c)) ≡ true
        → event_report message.body ≡ message
    go true true c ea eb all =
        ap (λ (s : ℕ). record { stream = s; function = 11; body = message.body }) (sym (eqb-true message.stream 6 ea))
        ∙ ap (λ (f : ℕ). record { stream = message.stream; function = f; body = message.body })
        (sym (eqb-true message.function 11 eb))
    go true false c ea eb all = absurd (grind (arith, all))
    go false b c ea eb all = absurd (grind (arith, all))

crowded-same : (e : EndView Kind) → is_crowded_out true (core_after Draw e) ≡ is_crowded_out true e
crowded-same e = go (next_number e.numbers)
  where
    go : (number : Option ℕ)
        → is_crowded_out true (next_of (draws {N = Happening} number keeps_drawn (at_first e))) ≡ is_crowded_out true e
    go None = refl
    go (Some number) = refl

module _ (plan : EquipmentPlan) (slots : ℕ) (list : List Put) (base before : List Happening) where
  -- ---- it goes

  -- what holds behind a try
  pub record IsTried (own : OwnView) (message : Spooled) (system : ℕ) (step : CoreStep) : Type 0 where
    pub shelves : ShelvesAt plan slots list base before own step
    pub none : unloads_in step.next.transactions.begun ≡ []
    pub drawn : step.next.drawn ≡ Some system
    pub told : told_with system (shelf_of (so_far plan slots list base before step)).told ≡ Some message
    pub under : (waits : waiting_text message ≡ None) (d : Option ℕ) (opened : Open) → IsGone system message opened
        → IsOpen (tried_in own.ledger.unload) own.ledger.first (shelf_of (so_far plan slots list base before step)) d
        opened
    pub asked : (body : List ℕ) → waiting_text message ≡ Some body → (opened : Open) → IsAsked opened
        → IsOpen (tried_in own.ledger.unload) own.ledger.first (shelf_of (so_far plan slots list base before step))
        step.next.drawn opened

  sent-keeps :
      (own : OwnView) (message : Spooled) (system : ℕ) (e : EndView Kind) (step : CoreStep)
      → is_crowded_out true e ≡ is_crowded_out true step.next → IsTried own message system step
      → TurnEnds plan slots list base before (sent_turn message own e) step
  sent-keeps own message system e step room is = go (needs_grant message) refl
    where
      text : Text
      text = sent.text_of own (sent.grant_item (dataid_in message.body) (length message.body))

      leaves : (needs : needs_grant message ≡ true) (text : Text)
          → TurnEnds plan slots list base before (inquiry_turn text own e) step
      leaves needs (answer.Body asked) =
          asked-keeps plan slots list base before own asked (is_crowded_out true e) step (sym room) is.none
          (is.asked message.body (ap (λ (b : Bool). if b then Some message.body else None) needs)) is.shelves
      leaves needs answer.TooLong =
          end-keeps plan slots list base before own step.next (so_far plan slots list base before step) is.none
          is.shelves

      go : (needs : Bool) → needs_grant message ≡ needs
          → TurnEnds plan slots list base before
          (if needs then inquiry_turn text own e else unloading_turn message own e) step
      go true needs = leaves needs text
      go false needs =
          drawn-keeps plan slots list base before own message system (is_crowded_out true e) step (sym room) is.drawn
          (carries-told message system (shelf_of (so_far plan slots list base before step)).told is.told) is.none
          (is.under (ap (λ (b : Bool). if b then Some message.body else None) needs)) is.shelves

  -- ---- a message is taken up

  drawn-so :
      (own : OwnView) (step : CoreStep) (system : ℕ) → (step.next.numbers.next == step.next.numbers.end) ≡ false
      → tried_in own.ledger.unload ≡ None → ShelvesAt plan slots list base before own step
      → ShelvesAt plan slots list base before own
      (keeps_drawn system (with_end (record step.next { numbers = after_draw step.next.numbers }) step))
  drawn-so own step system more none holds = record {
    is = holds.is;
    all = holds.all;
    shelved = holds.shelved;
    drawn = λ one has.
        let below = holds.drawn one has in
        subst
        (λ (b : Bool).
        one.system < (if b then step.next.numbers else record step.next.numbers
        { next = step.next.numbers.next + 1 }).next)
        (sym more) (omega (arith, below));
    asks = holds.asks;
    under_way =
        subst
        (λ (under : Option UnderWay).
        IsOpen under own.ledger.first (shelf_of (so_far plan slots list base before step)) (Some system)
        (unloads_in step.next.transactions.begun)) (sym none)
        (subst
        (λ (under : Option UnderWay).
        IsOpen under own.ledger.first (shelf_of (so_far plan slots list base before step)) step.next.drawn
        (unloads_in step.next.transactions.begun)) none holds.under_way);
    reports = holds.reports;
    owes = holds.owes;
  }

  -- with the message that is to go out
  abbrev taken_own : ℕ → Spooled → OwnView → OwnView
  taken_own system message own =
      with_tried system (with_ledger (taken_up own.ledger.first system (waiting_text message) own.ledger).next own)

  -- behind the number that was drawn
  tried-so :
      (own : OwnView) (unload : Unload) (message : Spooled) (system : ℕ) (oldest : Put) (rest : List Put)
      (step : CoreStep)
      → own.ledger.unload ≡ Some unload → 0 < length own.ledger.sizes → settled_list own.ledger list ≡ oldest ∷ rest
      → spooled_of oldest ≡ message → system < step.next.numbers.next → unloads_in step.next.transactions.begun ≡ []
      → step.next.drawn ≡ Some system → ShelvesAt plan slots list base before own step
      → IsTried (taken_own system message own) message system (noted Some (Try own.ledger.first system) step)
  tried-so own unload message system oldest rest step is some same of below none drawn holds = record {
    shelves = noted-so plan slots list base before next (Try own.ledger.first system) step step.next
        (like-it plan slots list base before
        (with_ledger (taken_up own.ledger.first system (waiting_text message) own.ledger).next own) next step.next
        tried_notes
        (like-as (with_ledger (taken_up own.ledger.first system (waiting_text message) own.ledger).next own) next refl
        refl refl)
        (try-keeps plan slots list base before own system (waiting_text message) oldest rest step.next
        (so_far plan slots list base before step) some same below none (goes (needs_grant message) refl) holds));
    none = none;
    drawn = drawn;
    told = at-notes (λ notes. told_with system (shelf_of notes).told ≡ Some message) told_is;
    under = λ waits d opened gone.
        at-notes (λ notes. IsOpen (tried_in next.ledger.unload) next.ledger.first (shelf_of notes) d opened)
        (by (λ u. IsOpen (tried_in u) own.ledger.first (shelf_of tried_notes) d opened)
        (record {
          system = system;
          stands = inr (refl, refl);
          goes = subst
              (λ (w : Option (List ℕ)). MayGo w system (shelf_of tried_notes).told d opened) (sym waits)
              (gone-goes system message (shelf_of tried_notes).told d opened told_is gone);
        }));
    asked = λ body waits opened asked.
        at-notes
        (λ notes. IsOpen (tried_in next.ledger.unload) next.ledger.first (shelf_of notes) step.next.drawn opened)
        (by (λ u. IsOpen (tried_in u) own.ledger.first (shelf_of tried_notes) step.next.drawn opened)
        (record {
          system = system;
          stands = inr (refl, refl);
          goes = subst
              (λ (w : Option (List ℕ)). MayGo w system (shelf_of tried_notes).told step.next.drawn opened) (sym waits)
              (drawn, told_event body (needs_grant message) refl waits, asked);
        }));
  }
    where
      next : OwnView
      next = taken_own system message own

      tried_notes : List Happening
      tried_notes = Try own.ledger.first system ∷ so_far plan slots list base before step

      at-notes : (P : List Happening → Type 0) → P tried_notes
          → P (so_far plan slots list base before (noted Some (Try own.ledger.first system) step))
      at-notes P is = subst P (sym (one-behind step.notes (Try own.ledger.first system) before)) is

      by : (P : Option Unload → Type 0)
          → P (Some
          (record unload { tried = Some (record { number = own.ledger.first; waiting = waiting_text message }) }))
          → P next.ledger.unload
      by P so =
          subst (λ (u : Option Unload). P
          (option_map
          (λ (one : Unload). record one
          { tried = Some (record { number = own.ledger.first; waiting = waiting_text message }) }) u)) (sym is)
          so

      told_is : told_with system (shelf_of tried_notes).told ≡ Some message
      told_is =
          ap (λ (t : List Told). told_with system t)
          (taken-told plan slots list base own.ledger (so_far plan slots list base before step) holds.is holds.shelved
          system
          oldest
          rest same)
          ∙ told-newest system (spooled_of oldest) (shelf_of (so_far plan slots list base before step)).told
          ∙ ap Some of

      inj : (x y : List ℕ) → Some x ≡ Some y → x ≡ y
      inj x y e = cc

      told_event : (body : List ℕ) (needs : Bool) → needs_grant message ≡ needs
          → (if needs then Some message.body else None) ≡ Some body
          → told_with system (shelf_of tried_notes).told ≡ Some (event_report body)
      told_event body true needs waits =
          told_is ∙ ap Some (sym (needs-event message needs)) ∙ ap (λ (b : List ℕ). Some (event_report b))
          (inj message.body body waits)
      told_event body false needs waits = absurd (cc)

      goes : (needs : Bool) → needs_grant message ≡ needs
          → MayGo (if needs then Some message.body else None) system (shelf_of tried_notes).told step.next.drawn []
      goes true needs = (drawn, told_event message.body true needs refl, inl refl)
      goes false needs = inl refl

  -- a number is drawn, and the message goes
  taken-keeps :
      (own : OwnView) (unload : Unload) (message : Spooled) (oldest : Put) (rest : List Put) (e : EndView Kind)
      (step : CoreStep) → own.ledger.unload ≡ Some unload → unload.tried ≡ None → 0 < length own.ledger.sizes
      → settled_list own.ledger list ≡ oldest ∷ rest → spooled_of oldest ≡ message
      → is_crowded_out true e ≡ is_crowded_out true step.next → ShelvesAt plan slots list base before own step
      → (spent : Bool) → (step.next.numbers.next == step.next.numbers.end) ≡ spent
      → Ends plan slots list base before
      (tried_turn (if spent then None else Some step.next.numbers.next) own.ledger.first message own e).own
      (and_then
      (and_then (draws (if spent then None else Some step.next.numbers.next) keeps_drawn step) (carried Some []))
      (all_done Some
      (tried_turn (if spent then None else Some step.next.numbers.next) own.ledger.first message own e).duties))
  taken-keeps own unload message oldest rest e step is tried some same of room holds true spent =
      spent-at plan slots list base before own.ledger (so_far plan slots list base before step) holds.is holds.all
      holds.shelved
  taken-keeps own unload message oldest rest e step is tried some same of room holds false more =
      sent-keeps (taken_own system message own) message system e
      (noted Some (Try own.ledger.first system) next) room
      (tried-so own unload message system oldest rest next is some same of below none refl
      (drawn-so own step system more none_tried holds))
    where
      system : ℕ
      system = step.next.numbers.next

      next : CoreStep
      next = keeps_drawn system (with_end (record step.next { numbers = after_draw step.next.numbers }) step)

      below : system < next.next.numbers.next
      below =
          subst
          (λ (b : Bool).
          system < (if b then step.next.numbers else record step.next.numbers
          { next = step.next.numbers.next + 1 }).next)
          (sym more) (omega arith)

      none_tried : tried_in own.ledger.unload ≡ None
      none_tried = ap (λ (u : Option Unload). tried_in u) is ∙ tried

      none : unloads_in step.next.transactions.begun ≡ []
      none =
          subst
          (λ (under : Option UnderWay).
          IsOpen under own.ledger.first (shelf_of (so_far plan slots list base before step)) step.next.drawn
          (unloads_in step.next.transactions.begun)) none_tried holds.under_way

  pub part-keeps :
      (oldest : Option Spooled) (own : OwnView) (step : CoreStep)
      → oldest ≡ option_map spooled_of (slice_get (settled_list own.ledger list) 0)
      → ShelvesAt plan slots list base before own step
      → TurnEnds plan slots list base before (unload_part oldest own step.next) step
  part-keeps oldest own step of holds = go (next_unloaded most own.ledger) refl oldest of
    where
      most : ℕ
      most = most_transmitted own.tables

      on : OwnView
      on = with_ledger (after_next most own.ledger) own

      held : ShelvesAt plan slots list base before on step
      held =
          unload-keeps plan slots list base before own (after_next most own.ledger) step.next
          (so_far plan slots list base before step)
          (one-call plan slots list base (Call.NextUnload most) own.ledger holds.is tt) refl refl refl (refl, refl)
          (subst
          (λ (under : Option UnderWay).
          IsOpen under own.ledger.first (shelf_of (so_far plan slots list base before step)) step.next.drawn
          (unloads_in step.next.transactions.begun)) (sym (next-tried most own.ledger own.ledger.unload))
          holds.under_way) holds

      inj : (x y : Spooled) → Some x ≡ Some y → x ≡ y
      inj x y e = cc

      -- the message of the try before goes no further
      stopped : ℕ → CoreStep
      stopped system = step_in (carry Some (Remove true system) step)

      takes : (number : ℕ) → IsNext most own.ledger number → (message : Spooled) (found : List Put)
          → settled_list own.ledger list ≡ found → length found ≡ length own.ledger.sizes
          → Some message ≡ option_map spooled_of (slice_get found 0)
          → TurnEnds plan slots list base before (taking_turn (Some number) (Some message) on step.next) step
      takes number next message [] same long of = let some = next.some in absurd (omega (arith, long, some))
      takes number next message (first ∷ rest) same long of =
          subst
          (λ (n : ℕ).
          TurnEnds plan slots list base before (taking_turn (Some n) (Some message) on step.next) step) (sym next.first)
          (stop on.tried)
        where
          at : (middle : CoreStep) → ShelvesAt plan slots list base before on middle
              → TurnEnds plan slots list base before
              (leads Draw (tried_turn (next_number middle.next.numbers) own.ledger.first message on) middle.next) middle
          at middle held =
              taken-keeps on next.unload message first rest (core_after Draw middle.next) middle next.kept next.tried
              next.some same (sym (inj message (spooled_of first) of)) (crowded-same middle.next) held
              (middle.next.numbers.next == middle.next.numbers.end) refl

          stop : (tried : Option ℕ)
              → TurnEnds plan slots list base before
              (stopped_turn tried
              (λ later. leads Draw (tried_turn (next_number later.numbers) own.ledger.first message on) later)
              step.next)
              step
          stop None = at step held
          stop (Some system) =
              at (stopped system)
              (calm-keeps plan slots list base before false on on ((λ e. Remove true system ∷ []) ∷ []) step (likes on)
              ((λ e. (tt, tt)), tt) held)

      go : (number : Option ℕ) → next_unloaded most own.ledger ≡ number → (oldest : Option Spooled)
          → oldest ≡ option_map spooled_of (slice_get (settled_list own.ledger list) 0)
          → TurnEnds plan slots list base before (taking_turn number oldest on step.next) step
      go None is oldest of = held
      go (Some number) is None of = held
      go (Some number) is (Some message) of =
          takes number (next-is most own.ledger number is) message (settled_list own.ledger list) refl
          (sym (widths-long (settled_list own.ledger list))
          ∙ ap (λ (ns : List ℕ). length ns) holds.shelved.sizes) of

  -- ---- with a grant it goes

  pub leave-given-keeps :
      (own : OwnView) (e : EndView Kind) (step : CoreStep) → is_crowded_out true e ≡ is_crowded_out true step.next
      → unloads_in step.next.transactions.begun ≡ [] → ShelvesAt plan slots list base before own step
      → TurnEnds plan slots list base before (grant_given_turn own e) step
  leave-given-keeps own e step room none holds = go own.ledger.unload refl holds.under_way
    where
      notes : List Happening
      notes = so_far plan slots list base before step

      gone : OwnView
      gone = with_ledger (with_each let_go own.ledger) own

      by-under :
          (unload : Unload) (number : ℕ) (waiting : Option (List ℕ)) → own.ledger.unload ≡ Some unload
          → unload.tried ≡ Some (record { number = number; waiting = waiting })
          → IsUnderWay (record { number = number; waiting = waiting }) own.ledger.first (shelf_of notes) step.next.drawn
          (unloads_in step.next.transactions.begun)
          → TurnEnds plan slots list base before (let_go_turn waiting own e) step
      by-under unload number None is tried under = holds
      by-under unload number (Some body) is tried under =
          drawn-keeps plan slots list base before gone (event_report body) under.system (is_crowded_out true e) step
          (sym room)
          under.goes.0
          (carries-told (event_report body) under.system (shelf_of notes).told under.goes.1) none
          (λ d opened may. open-so d opened may)
          (unload-keeps plan slots list base before own (with_each let_go own.ledger) step.next notes
          (one-call plan slots list base Call.Granted own.ledger holds.is tt) refl refl refl (refl, refl)
          (subst
          (λ (o : Open). IsOpen (tried_in gone.ledger.unload) own.ledger.first (shelf_of notes) step.next.drawn o)
          (sym none)
          (open-so step.next.drawn [] (inl refl))) holds)
        where
          tried-now : tried_in gone.ledger.unload ≡ Some (record { number = number; waiting = None })
          tried-now =
              ap (λ (u : Option Unload). tried_in (option_map let_go u)) is
              ∙ ap (λ (t : Option UnderWay). option_map (λ (one : UnderWay). record one { waiting = None }) t) tried

          open-so : (d : Option ℕ) (opened : Open) → IsGone under.system (event_report body) opened
              → IsOpen (tried_in gone.ledger.unload) own.ledger.first (shelf_of notes) d opened
          open-so d opened may =
              subst (λ (t : Option UnderWay). IsOpen t own.ledger.first (shelf_of notes) d opened) (sym tried-now)
              (record {
                system = under.system;
                stands = under.stands;
                goes = gone-goes under.system (event_report body) (shelf_of notes).told d opened under.goes.1 may;
              })

      by-tried :
          (unload : Unload) (tried : Option UnderWay) → own.ledger.unload ≡ Some unload → unload.tried ≡ tried
          → IsOpen tried own.ledger.first (shelf_of notes) step.next.drawn (unloads_in step.next.transactions.begun)
          → TurnEnds plan slots list base before (let_go_turn (waiting_in (Some (record unload { tried = tried }))) own
          e)
          step
      by-tried unload None is tried under = holds
      by-tried unload (Some t) is tried under = by-under unload t.number t.waiting is tried under

      go : (unload : Option Unload) → own.ledger.unload ≡ unload
          → IsOpen (tried_in unload) own.ledger.first (shelf_of notes) step.next.drawn
          (unloads_in step.next.transactions.begun)
          → TurnEnds plan slots list base before (let_go_turn (waiting_in unload) own e) step
      go None is under = holds
      go (Some unload) is under = by-tried unload unload.tried is refl under
