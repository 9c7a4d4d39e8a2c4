-- What a message keeps of the spool as it is noted, while it is taken up and goes out.
use Rattle.std.proofs.Common.{◌≡◌, refl, sym, ap, subst, ◌∙◌, inl, inr, ◌⊎◌, arith, ◌<◌, ◌+◌, ◌==◌, Bool, true, false, ℕ, List, [], ◌∷◌, ◌++◌, Option, Some, None, if◌then◌else◌, length}
use Rattle.std.specs.Option.{option_map}
use Rattle.block_codec.specs.declared.header.Header.{Header}
use Rattle.trace_log.specs.Log.{Happening}
use Rattle.trace_log.specs.Log.Happening.{Full, Sent, Try}
use Rattle.trace_log.specs.Names.{Spooled}
use Rattle.transact.specs.declared.transactions.Beginning.{Beginning}
use Rattle.transact.specs.History.{begun_with}
use Rattle.transact.specs.Numbers.{next_number}
use Rattle.transact.specs.Transactions.{TransactionsView, new_begun, refusal_of}
use Rattle.message_end.specs.Core.{EndView, Went, and_then, carried, carry, drawn_primary, draws, is_crowded_out, last_header_of, noted, primary_of, sends, unsent_name, with_begun, with_end}
use Rattle.message_end.specs.Core.Command.{DrawnPrimary, Primary}
use Rattle.message_end.specs.Core.Went.{Goes, Spent}
use Rattle.message_end.specs.Course.{noted_behind}
use Rattle.message_end.specs.Duties.{all_done}
use Rattle.message_end.specs.Own.{Has}
use Rattle.spool_law.specs.Shelf.{Change, MayChange, MaySendTried, Shelf, Told, change_of, shelf_changed, shelf_of, told_with}
use Rattle.spool_law.specs.Shelf.Change.{Other}
use Rattle.spool_ledger.specs.Activity.{rested}
use Rattle.spool_ledger.specs.Laws.{Call}
use Rattle.spool_ledger.specs.Ledger.{IsLedger, LedgerView}
use Rattle.spool_ledger.specs.Unloading.{confirmed, is_oldest_tried, taken_up, tried_in, trying, with_unload}
use Rattle.spool_ledger.specs.declared.unload.Tried.{Tried as UnderWay}
use Rattle.spool_ledger.specs.declared.unload.Unload.{Unload}
use Rattle.spool_file.specs.Slot.{Message as Put}
use Rattle.equipment_tables.specs.declared.plan.EquipmentPlan.{EquipmentPlan}
use Rattle.tool_step.specs.declared.kind.Kind.{Kind}
use Rattle.tool_step.specs.declared.kind.Kind.TheVariants as kind
use Rattle.tool_step.specs.Equipment.{settled_list}
use Rattle.spool_works.specs.Found.{spooled_of}
use Rattle.tool_step.specs.Own.{OwnView, is_communicating, with_ledger}
use Rattle.tool_step.specs.Spooling.{confirmed_turn, end_of_spooling, unload_request, unloaded, unloaded_own}
use Rattle.tool_spool.specs.SpoolKept.{policy_of}
use Rattle.tool_spool.proofs.CalmCommands.{AreDrawn, none-told}
use Rattle.tool_spool.proofs.KeptLedger.{one-call}
use Rattle.tool_spool.proofs.KeptUnload.{MayConfirm, OwesAs, confirmed-kept, confirmed-tried, moved-shelved, rested-kept, rested-unload, taken-shelved, taken-told}
use Rattle.tool_reports.proofs.QuietNotes.{one-behind}
use Rattle.tool_spool.proofs.Shelved.{noted-shelved}
use Rattle.tool_spool.proofs.StillLines.{tells_of_file}
use Rattle.tool_law.proofs.WorkLines.{LeavesStanding}
use Rattle.tool_spool.proofs.ShelvedTurns.{Ends, Shelves, once, same-under, spent-at, turn-keeps}
use Rattle.tool_law.proofs.CoreSteps.{CoreStep}
use Rattle.tool_spool.proofs.UnloadOpen.{IsOpen, MayGo, Open, asks_grant, last-open, unloads_in, with_open}

-- this is the header of a block of a message of the spool, with these system bytes
pub record IsOfSpooled (header : Header) (system : ℕ) (message : Spooled) : Type 0 where
  pub system_is : header.system ≡ system
  pub stream_is : header.stream ≡ message.stream
  pub function_is : header.function ≡ message.function

-- what there may be of an unload of which this message went with these system bytes
abbrev pub IsGone : ℕ → Spooled → Open → Type 0
IsGone system message opened =
    (opened ≡ []) ⊎ ((header : Header) × (opened ≡ (false, header) ∷ []) × IsOfSpooled header system message)

-- so it goes, where these system bytes are that message's
pub gone-goes :
    (system : ℕ) (message : Spooled) (told : List Told) (drawn : Option ℕ) (opened : Open)
    → told_with system told ≡ Some message → IsGone system message opened → MayGo None system told drawn opened
gone-goes system message told drawn opened is (inl none) = inl none
gone-goes system message told drawn opened is (inr so) = inr (
  so.0,
  so.1,
  record {
    message = message;
    is = is;
    system_is = so.2.system_is;
    stream_is = so.2.stream_is;
    function_is = so.2.function_is;
  },
)

-- or waits for a grant
abbrev pub IsAsked : Open → Type 0
IsAsked opened = (opened ≡ []) ⊎ ((other : Header) × (opened ≡ (true, other) ∷ []))

-- a transaction begins, or it is refused
begins-one : (one : Kind) (asks : Bool) (header : Header) (t : TransactionsView Kind) → asks_grant one ≡ Some asks
    → unloads_in t.begun ≡ []
    → (unloads_in (with_begun (Some one) header t).begun ≡ [])
    ⊎ (unloads_in (with_begun (Some one) header t).begun ≡ (asks, header) ∷ [])
begins-one one asks header t is none = go (refusal_of t header)
  where
    go : (refusal : Option Beginning)
        → (unloads_in (begun_with refusal header one t) ≡ [])
        ⊎ (unloads_in (begun_with refusal header one t) ≡ (asks, header) ∷ [])
    go (Some refusal) = inl none
    go None = inr (
        last-open t.begun (new_begun header one)
        ∙ ap (λ (o : Open). o ++ with_open (asks_grant one) header []) none
        ∙ ap (λ (o : Option Bool). with_open o header []) is
        )

module _ (plan : EquipmentPlan) (slots : ℕ) (list : List Put) (base before : List Happening) where
  -- an unload ends
  pub end-keeps :
      (own : OwnView) (core : EndView Kind) (notes : List Happening)
      → unloads_in core.transactions.begun ≡ [] → Shelves plan slots list base before own core notes
      → Shelves plan slots list base before (unloaded_own own) core notes
  end-keeps own core notes none holds = record {
    is = one-call plan slots list base Call.EndUnload own.ledger holds.is tt;
    all = holds.all;
    shelved =
        moved-shelved plan slots list base own.ledger (with_unload None own.ledger) notes refl refl (refl, refl)
        holds.shelved;
    drawn = holds.drawn;
    asks = holds.asks;
    under_way = none;
    reports = holds.reports;
    owes = holds.owes;
  }

  -- the unload changes, and no message is under way before or behind it
  pub unload-keeps :
      (own : OwnView) (w : LedgerView) (core : EndView Kind) (notes : List Happening) → IsLedger w
      → w.slots ≡ own.ledger.slots → w.first ≡ own.ledger.first → w.sizes ≡ own.ledger.sizes
      → OwesAs plan slots list base own.ledger w
      → IsOpen (tried_in w.unload) w.first (shelf_of notes) core.drawn (unloads_in core.transactions.begun)
      → Shelves plan slots list base before own core notes → Shelves plan slots list base before (with_ledger w own)
      core notes
  unload-keeps own w core notes is all first len same under holds = record {
    is = is;
    all = all ∙ holds.all;
    shelved = moved-shelved plan slots list base own.ledger w notes first len same holds.shelved;
    drawn = holds.drawn;
    asks = holds.asks;
    under_way = under;
    reports = holds.reports;
    owes = holds.owes;
  }

  -- what is under way where a message has been taken up
  pub taken-under :
      (v : LedgerView) (system : ℕ) (waiting : Option (List ℕ)) (shelf : Shelf) (drawn : Option ℕ)
      → shelf.tried ≡ Some (record { number = v.first; system = system }) → MayGo waiting system shelf.told drawn []
      → IsOpen (tried_in (taken_up v.first system waiting v).next.unload) v.first shelf drawn []
  taken-under v system waiting shelf drawn tried goes = go v.unload
    where
      go : (unload : Option Unload)
          → IsOpen (tried_in (option_map (trying v.first waiting) unload)) v.first shelf drawn []
      go None = refl
      go (Some unload) = record { system = system; stands = inr (refl, tried); goes = goes }

  -- the oldest message is to go out with system bytes that were drawn
  pub try-keeps :
      (own : OwnView) (system : ℕ) (waiting : Option (List ℕ)) (oldest : Put) (rest : List Put) (core : EndView Kind)
      (notes : List Happening) → 0 < length own.ledger.sizes → settled_list own.ledger list ≡ oldest ∷ rest
      → system < core.numbers.next → unloads_in core.transactions.begun ≡ []
      → MayGo waiting system (shelf_of (Try own.ledger.first system ∷ notes)).told core.drawn []
      → Shelves plan slots list base before own core notes
      → Shelves plan slots list base before (with_ledger (taken_up own.ledger.first system waiting own.ledger).next
      own) core
      (Try own.ledger.first system ∷ notes)
  try-keeps own system waiting oldest rest core notes some same below none goes holds = record {
    is = one-call plan slots list base (Call.TakeUp own.ledger.first system waiting) own.ledger holds.is tt;
    all = holds.all;
    shelved = taken-shelved plan slots list base own.ledger notes holds.is holds.shelved system waiting some;
    drawn = λ one has.
        go one
        (subst (λ (told : List Told). Has told one)
        (taken-told plan slots list base own.ledger notes holds.is holds.shelved system oldest rest same) has);
    asks = holds.asks;
    under_way =
        subst
        (λ (o : Open).
        IsOpen (tried_in (taken_up own.ledger.first system waiting own.ledger).next.unload) own.ledger.first
        (shelf_of (Try own.ledger.first system ∷ notes)) core.drawn o) (sym none)
        (taken-under own.ledger system waiting (shelf_of (Try own.ledger.first system ∷ notes)) core.drawn refl goes);
    reports = holds.reports;
    owes = holds.owes;
  }
    where
      go : (one : Told)
          → Has (record { system = system; message = spooled_of oldest } ∷ (shelf_of notes).told) one
          → one.system < core.numbers.next
      go one (inl is) = let e = ap (λ (t : Told). t.system) is in omega (arith, below, e)
      go one (inr has) = holds.drawn one has

  pub noted-so : (own : OwnView) (what : Happening) (step : CoreStep) (core : EndView Kind)
      → Shelves plan slots list base before own core (what ∷ noted_behind step.notes before)
      → Shelves plan slots list base before own core (noted_behind (noted Some what step).notes before)
  noted-so own what step core holds =
      subst (λ (notes : List Happening). Shelves plan slots list base before own core notes)
      (sym (one-behind step.notes what before)) holds

  pub full-so : (own : OwnView) (what : Happening) (step : CoreStep) → change_of what ≡ Other
      → tells_of_file what ≡ false
      → Shelves plan slots list base before own step.next (noted_behind step.notes before)
      → Shelves plan slots list base before own step.next (noted_behind (noted Some what step).notes before)
  full-so own what step other aside holds =
      noted-so own what step step.next
      (record {
        is = holds.is;
        all = holds.all;
        shelved =
            noted-shelved (policy_of plan slots) own.ledger list base (noted_behind step.notes before) what
            (subst LeavesStanding (sym other) tt) aside
            (subst (MayChange (policy_of plan slots) (noted_behind step.notes before)) (sym other) tt) holds.shelved;
        drawn =
            subst (λ (c : Change). AreDrawn (shelf_changed c (shelf_of (noted_behind step.notes before))).told
            step.next.numbers.next)
            (sym other) holds.drawn;
        asks = holds.asks;
        under_way =
            subst
            (λ (c : Change).
            IsOpen (tried_in own.ledger.unload) own.ledger.first
            (shelf_changed c (shelf_of (noted_behind step.notes before))) step.next.drawn
            (unloads_in step.next.transactions.begun)) (sym other) holds.under_way;
        reports = holds.reports;
        owes = holds.owes;
      })

  -- it goes out under the number that was drawn, which is the one of its try. One without room ends the unload
  pub drawn-keeps :
      (own : OwnView) (message : Spooled) (system : ℕ) (crowded : Bool) (step : CoreStep)
      → is_crowded_out true step.next ≡ crowded → step.next.drawn ≡ Some system
      → MaySendTried (shelf_of (noted_behind step.notes before)).told (primary_of (unloaded message) system)
      → unloads_in step.next.transactions.begun ≡ []
      → ((drawn : Option ℕ) (opened : Open) → IsGone system message opened
      → IsOpen (tried_in own.ledger.unload) own.ledger.first (shelf_of (noted_behind step.notes before)) drawn opened)
      → Shelves plan slots list base before own step.next (noted_behind step.notes before)
      → Ends plan slots list base before (if crowded then unloaded_own own else own)
      (all_done Some ((λ e. DrawnPrimary (unloaded message) ∷ []) ∷ []) step)
  drawn-keeps own message system crowded step room drawn may none under holds =
      subst
      (λ (d : Option ℕ).
      Shelves plan slots list base before (if crowded then unloaded_own own else own)
      (drawn_primary Some (unloaded message) d step).next
      (noted_behind (drawn_primary Some (unloaded message) d step).notes before))
      (sym drawn)
      (subst
      (λ (b : Bool).
      Shelves plan slots list base before (if crowded then unloaded_own own else own)
      (if b then noted Some (Full (unsent_name (unloaded message))) step
      else sends Some (unloaded message) system (with_end (record step.next { drawn = None }) step)).next
      (noted_behind
      (if b then noted Some (Full (unsent_name (unloaded message))) step
      else sends Some (unloaded message) system (with_end (record step.next { drawn = None }) step)).notes before))
      (sym room) (go crowded))
    where
      go : (crowded : Bool)
          → Shelves plan slots list base before (if crowded then unloaded_own own else own)
          (if crowded then noted Some (Full (unsent_name (unloaded message))) step
          else sends Some (unloaded message) system (with_end (record step.next { drawn = None }) step)).next
          (noted_behind
          (if crowded then noted Some (Full (unsent_name (unloaded message))) step
          else sends Some (unloaded message) system (with_end (record step.next { drawn = None }) step)).notes before)
      go true =
          end-keeps own step.next _ none (full-so own (Full (unsent_name (unloaded message))) step refl refl holds)
      go false =
          noted-so own (Sent (primary_of (unloaded message) system))
          (with_end (record step.next { drawn = None }) step) _
          (record {
            is = holds.is;
            all = holds.all;
            shelved =
                noted-shelved (policy_of plan slots) own.ledger list base (noted_behind step.notes before)
                (Sent (primary_of (unloaded message) system)) tt refl may holds.shelved;
            drawn = holds.drawn;
            asks = holds.asks;
            under_way =
                under None _
                (gone (begins-one kind.Unload false
                (last_header_of step.next.outgoing (primary_of (unloaded message) system)) step.next.transactions refl
                none));
            reports = holds.reports;
            owes = holds.owes;
          })
        where
          gone : {opened : Open}
              → (opened ≡ [])
              ⊎ (opened ≡ (false, last_header_of step.next.outgoing (primary_of (unloaded message) system)) ∷ [])
              → IsGone system message opened
          gone (inl same) = inl same
          gone (inr same) = inr (
            last_header_of step.next.outgoing (primary_of (unloaded message) system),
            same,
            record { system_is = refl; stream_is = refl; function_is = refl },
          )

  -- or it waits for a grant; an S6F5 without room ends the unload too
  pub asked-keeps :
      (own : OwnView) (text : List ℕ) (crowded : Bool) (step : CoreStep) → is_crowded_out true step.next ≡ crowded
      → unloads_in step.next.transactions.begun ≡ []
      → ((opened : Open) → IsAsked opened
      → IsOpen (tried_in own.ledger.unload) own.ledger.first (shelf_of (noted_behind step.notes before))
      step.next.drawn opened)
      → Shelves plan slots list base before own step.next (noted_behind step.notes before)
      → Ends plan slots list base before (if crowded then unloaded_own own else own)
      (all_done Some ((λ e. Primary (unload_request text) ∷ []) ∷ []) step)
  asked-keeps own text crowded step room none under holds =
      once plan slots list base before (if crowded then unloaded_own own else own) (Primary (unload_request text) ∷ [])
      step
      (ended (carry Some (Primary (unload_request text)) step)
      (subst
      (λ (b : Bool).
      Ends plan slots list base before (if crowded then unloaded_own own else own)
      (if b then Goes (noted Some (Full (unsent_name (unload_request text))) step)
      else draws (next_number step.next.numbers) (sends Some (unload_request text)) step)) (sym room) (go crowded)))
    where
      ended : (went : Went (EndView Kind) Happening)
          → Ends plan slots list base before (if crowded then unloaded_own own else own) went
          → Ends plan slots list base before (if crowded then unloaded_own own else own)
          (and_then went (carried Some []))
      ended (Goes next) is = is
      ended (Spent next) is = is

      numbered : (same : Bool) → (step.next.numbers.next == step.next.numbers.end) ≡ same
          → Ends plan slots list base before own
          (draws (if same then None else Some step.next.numbers.next) (sends Some (unload_request text)) step)
      numbered true e =
          spent-at plan slots list base before own.ledger (noted_behind step.notes before) holds.is holds.all
          holds.shelved
      numbered false e =
          noted-so own (Sent (primary_of (unload_request text) step.next.numbers.next)) step _
          (record {
            is = holds.is;
            all = holds.all;
            shelved =
                noted-shelved (policy_of plan slots) own.ledger list base (noted_behind step.notes before)
                (Sent (primary_of (unload_request text) step.next.numbers.next)) tt refl
                (λ primary message told_so.
                absurd
                (grind (
                  arith,
                  told_so,
                  none-told (shelf_of (noted_behind step.notes before)).told
                      step.next.numbers.next holds.drawn,
                )))
                holds.shelved;
            drawn = λ one has.
                let below = holds.drawn one has in
                subst
                (λ (b : Bool).
                one.system < (if b then step.next.numbers else record step.next.numbers
                { next = step.next.numbers.next + 1 }).next)
                (sym e) (omega (arith, below));
            asks = holds.asks;
            under_way =
                under _
                (asked
                (begins-one kind.UnloadGrant true
                (last_header_of step.next.outgoing (primary_of (unload_request text) step.next.numbers.next))
                step.next.transactions refl none));
            reports = holds.reports;
            owes = holds.owes;
          })
        where
          asked : {opened : Open} {header : Header} → (opened ≡ []) ⊎ (opened ≡ (true, header) ∷ []) → IsAsked opened
          asked (inl same) = inl same
          asked {opened} {header} (inr same) = inr (header, same)

      go : (crowded : Bool)
          → Ends plan slots list base before (if crowded then unloaded_own own else own)
          (if crowded then Goes (noted Some (Full (unsent_name (unload_request text))) step)
          else draws (next_number step.next.numbers) (sends Some (unload_request text)) step)
      go true = end-keeps own step.next _ none
          (full-so own (Full (unsent_name (unload_request text))) step refl refl holds)
      go false = numbered (step.next.numbers.next == step.next.numbers.end) refl

  -- its reply has come, so that it leaves where it stands first still
  pub confirm-keeps :
      (own : OwnView) (step : CoreStep)
      → (is_oldest_tried own.ledger ≡ true
      → MayConfirm (noted_behind step.notes before) own.ledger.first)
      → unloads_in step.next.transactions.begun ≡ []
      → Shelves plan slots list base before own step.next (noted_behind step.notes before)
      → Ends plan slots list base before (confirmed_turn own).own (all_done Some (confirmed_turn own).duties step)
  confirm-keeps own step may none holds =
      turn-keeps plan slots list base before own (confirmed own.ledger) step
      (confirmed-kept plan slots list base own.ledger (noted_behind step.notes before) holds.is holds.shelved may)
      (subst
      (λ (under : Option UnderWay).
      IsOpen under own.ledger.first (shelf_of (noted_behind step.notes before)) step.next.drawn
      (unloads_in step.next.transactions.begun)) (sym (confirmed-tried own.ledger)) none) holds

  -- spooling ends
  pub rest-keeps :
      (own : OwnView) (e : EndView Kind) (step : CoreStep)
      → Shelves plan slots list base before own step.next (noted_behind step.notes before)
      → Ends plan slots list base before (end_of_spooling own e).own (all_done Some (end_of_spooling own e).duties step)
  rest-keeps own e step holds =
      turn-keeps plan slots list base before own (rested (is_communicating own) own.ledger) step
      (rested-kept plan slots list base own.ledger (noted_behind step.notes before) holds.is holds.shelved
      (is_communicating own))
      (same-under plan slots list base before own (rested (is_communicating own) own.ledger).next step.next
      (noted_behind step.notes before) (rested-unload (is_communicating own) own.ledger) holds) holds
