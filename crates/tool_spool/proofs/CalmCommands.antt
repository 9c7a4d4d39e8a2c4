-- Commands that leave the spool as it is: what they note says nothing of it, and of its messages none goes out.
use Rattle.std.proofs.Common.{◌≡◌, refl, sym, ap, subst, ◌∙◌, inl, inr, ◌⊎◌, arith, ◌<◌, ◌≤◌, ◌+◌, ◌%◌, ◌==◌, ◌&&◌, ◌||◌, nat_le, Bool, true, false, ℕ, List, [], ◌∷◌, ◌++◌, length, append-nil, Option, Some, None, if◌then◌else◌}
use Rattle.std.proofs.lemmas.Bool.{eqb-true}
use Rattle.std.proofs.lemmas.Bool.Decides.{nat_tests}
use Rattle.std.specs.List.{find}
use Rattle.std.specs.Prelude.{is_some}
use Rattle.block_codec.specs.Block.{BlockView}
use Rattle.block_codec.specs.declared.header.Header.{Header}
use Rattle.line_end.specs.declared.event.LineEvent.{LineEvent}
use Rattle.line_end.specs.declared.event.LineEvent.TheVariants as event
use Rattle.line_end.specs.declared.event.Phase.{Phase}
use Rattle.line_end.specs.declared.event.Phase.TheVariants as phase
use Rattle.line_end.specs.Step.{LineCall, line_step}
use Rattle.message_flow.specs.declared.flow.Flow.{Flow}
use Rattle.message_flow.specs.declared.flow.Flow.TheVariants as flow
use Rattle.message_flow.specs.declared.message.Message.{Message}
use Rattle.message_flow.specs.Assembly as assembly
use Rattle.message_flow.specs.Assembly.{flow_to, header_so_far, with_block}
use Rattle.message_flow.specs.Message.{is_primary}
use Rattle.message_flow.specs.Outgoing.{next_block_of, next_turn}
use Rattle.trace_log.specs.declared.names.Title.{Title}
use Rattle.trace_log.specs.Log.{Happening}
use Rattle.trace_log.specs.Names.{header_title, message_name, title_of}
use Rattle.transact.specs.declared.begun.Begun.{Begun}
use Rattle.transact.specs.declared.transactions.Beginning.{Beginning}
use Rattle.transact.specs.History.{begun_with}
use Rattle.transact.specs.Numbers.{NumbersView, next_number}
use Rattle.transact.specs.Transactions as transactions
use Rattle.transact.specs.Transactions.{TransactionsView, has_system, is_answered_by, new_begun, refusal_of}
use Rattle.message_end.specs.declared.unsent.Unsent.{Unsent}
use Rattle.message_end.specs.Core.{Command, EndView, acknowledges, answers, asked_by, calls, cancels, carry, draws, drops, gives, held_header, is_crowded_out, is_held_answered, is_waiting_answered, judges, last_header_of, noted, offers, primary_of, queues, replies, reply_function, reply_of, sends, starts_t3, takes, takes_back, tells, times_out, unsent_name, waiting_primary, with_asked, with_assembly, with_begun, with_end, with_outgoing, with_transactions, without_answered}
use Rattle.message_end.specs.Core.Went.{Goes}
use Rattle.message_end.specs.Own.{Has}
use Rattle.spool_law.specs.Shelf.{Change, MaySendTried, Told, change_of, told_with}
use Rattle.spool_law.specs.Shelf.Change.{Other, Receives, Sends}
use Rattle.tool_step.specs.declared.kind.Kind.{Kind}
use Rattle.tool_step.specs.Own.{ToolCommands, ToolDuty}
use Rattle.tool_reports.specs.Reported.{past_in}
use Rattle.message_end.proofs.Parts.{OnEither}
use Rattle.tool_law.proofs.CommandWalks.{AllAre, AllDo}
use Rattle.tool_law.proofs.CoreSteps.{CoreStep}
use Rattle.tool_spool.proofs.StillLines.{tells_of_file}
use Rattle.tool_spool.proofs.UnloadOpen.{IsLess, asks_grant, ends-less, last-open, less-both, timed-same, unloads_in, with_open}

-- ---- what changes of the core

-- what asks for a reply is a primary
abbrev pub AsksOfPrimary : Option Title → Type 0
AsksOfPrimary None = Unit {0}
AsksOfPrimary (Some title) = (title.name.function % 2 == 1) ≡ true

-- numbers are drawn in their order, none is kept for a message of the spool, and no transaction of one begins
pub record IsCalmly (old new : EndView Kind) : Type 0 where
  pub drawn : new.drawn ≡ old.drawn
  pub next : old.numbers.next ≤ new.numbers.next
  pub less : IsLess (unloads_in old.transactions.begun) (unloads_in new.transactions.begun)
  pub asks : AsksOfPrimary old.asked → AsksOfPrimary new.asked

pub calmly-both : (one two three : EndView Kind) → IsCalmly one two → IsCalmly two three → IsCalmly one three
calmly-both one two three first second = record {
  drawn = second.drawn ∙ first.drawn;
  next = let a = first.next in let b = second.next in omega (arith, a, b);
  less = less-both (unloads_in one.transactions.begun) (unloads_in two.transactions.begun)
      (unloads_in three.transactions.begun) first.less second.less;
  asks = λ one. second.asks (first.asks one);
}

-- no number is drawn, and no transaction begins
pub still : (old new : EndView Kind) → new.drawn ≡ old.drawn → new.numbers ≡ old.numbers
    → IsLess (unloads_in old.transactions.begun) (unloads_in new.transactions.begun)
    → (AsksOfPrimary old.asked → AsksOfPrimary new.asked) → IsCalmly old new
still old new drawn numbers less asks = record {
  drawn = drawn;
  next = subst (λ (n : NumbersView). old.numbers.next ≤ n.next) (sym numbers) (omega arith);
  less = less;
  asks = asks;
}

pub itself : (core : EndView Kind) → IsCalmly core core
itself core = still core core refl refl (inl refl) (λ asks. asks)

-- ---- transactions

t3-same : (starts : Bool) (system now : ℕ) (t : TransactionsView Kind)
    → unloads_in (starts_t3 starts system now t).begun ≡ unloads_in t.begun
t3-same true system now t = timed-same (has_system system) (Some (now + t.t3)) t
t3-same false system now t = refl

acknowledged-same : (header : Option Header) (now : ℕ) (t : TransactionsView Kind)
    → unloads_in (acknowledges header now t).begun ≡ unloads_in t.begun
acknowledged-same None now t = refl
acknowledged-same (Some header) now t = t3-same (header.last && header.wait) header.system now t

-- a transaction that isn't of the spool begins
abbrev pub IsOther : Option Kind → Type 0
IsOther None = Unit {0}
IsOther (Some one) = asks_grant one ≡ None

begun-same : (one : Option Kind) (header : Header) (t : TransactionsView Kind) → IsOther one
    → unloads_in (with_begun one header t).begun ≡ unloads_in t.begun
begun-same None header t other = refl
begun-same (Some one) header t other = go (refusal_of t header)
  where
    go : (refusal : Option Beginning) → unloads_in (begun_with refusal header one t) ≡ unloads_in t.begun
    go (Some refusal) = refl
    go None =
        last-open t.begun (new_begun header one)
        ∙ ap (λ (asks : Option Bool). unloads_in t.begun ++ with_open asks header []) other
        ∙ append-nil (unloads_in t.begun)

-- ---- what is noted

-- the numbers of tries are drawn
abbrev pub AreDrawn : List Told → ℕ → Type 0
AreDrawn told next = (one : Told) → Has told one → one.system < next

pub none-told : (told : List Told) (next : ℕ) → AreDrawn told next → told_with next told ≡ None
none-told [] next drawn = refl
none-told (one ∷ told) next drawn =
    go (one.system == next) refl (none-told told next (λ other has. drawn other (inr has)))
  where
    go : (same : Bool) → (one.system == next) ≡ same → told_with next told ≡ None
        → (if same then Some one.message else told_with next told) ≡ None
    go true is none =
        let below = drawn one (inl refl) in let e = eqb-true one.system next is in absurd (omega (arith, below, e))
    go false is none = none

-- nothing is said of the spool; or a message is received, where one may be; or one goes out that is none of the spool
abbrev pub IsCalmChange : Bool → List Told → Change → Type 0
IsCalmChange hears told (Receives message) = hears ≡ true
IsCalmChange hears told (Sends message) = MaySendTried told message
IsCalmChange hears told Other = Unit {0}
IsCalmChange hears told _ = ⊥

-- it doesn't count when the equipment looks back, and tells nothing of what its file keeps
abbrev pub IsAside : Happening → Type 0
IsAside what =
    ((notes : List Happening) → past_in (what ∷ notes) ≡ past_in notes) × (tells_of_file what ≡ false)

-- one note more at most, and a calm one
pub record CalmStep (hears : Bool) (told : List Told) (step next : CoreStep) : Type 0 where
  pub notes :
      (next.notes ≡ step.notes)
      ⊎ ((what : Happening) × (IsCalmChange hears told (change_of what) × IsAside what)
      × (next.notes ≡ step.notes ++ what ∷ []))
  pub core : IsCalmly step.next next.next

-- ---- commands

abbrev pub IsCalm : Bool → Command Kind → Type 0
IsCalm hears (Command.Note what) = ((told : List Told) → IsCalmChange hears told (change_of what)) × IsAside what
IsCalm hears (Command.Primary unsent) = IsOther unsent.kind
IsCalm hears Command.Draw = ⊥
IsCalm hears (Command.DrawnPrimary unsent) = ⊥
IsCalm hears (Command.Take byte now) = hears ≡ true
IsCalm hears _ = Unit {0}

abbrev pub AreCalm : Bool → ToolCommands → Type 0
AreCalm hears commands = AllAre (IsCalm hears) commands

abbrev pub AreCalmDuties : Bool → List ToolDuty → Type 0
AreCalmDuties hears duties = AllDo (IsCalm hears) duties

-- a reply carries nothing of the spool
even-reply : (function : ℕ) → (function % 2 == 1) ≡ true → (reply_function function % 2 == 1) ≡ false
even-reply function odd = grind (arith, nat_tests, odd)

module _ (hears : Bool) (told : List Told) where
  no-note : (step : CoreStep) (core : EndView Kind) → IsCalmly step.next core
      → CalmStep hears told step (with_end core step)
  no-note step core calm = record { notes = inl refl; core = calm }

  one-note :
      (what : Happening) (step : CoreStep) (core : EndView Kind)
      → IsCalmChange hears told (change_of what) × IsAside what
      → IsCalmly step.next core → CalmStep hears told step (noted Some what (with_end core step))
  one-note what step core may calm = record { notes = inr (what, may, refl); core = calm }

  primary-calm :
      (unsent : Unsent Kind) (step : CoreStep) → IsOther unsent.kind → AreDrawn told step.next.numbers.next
      → OnEither (CalmStep hears told step) (CalmStep hears told step) (carry Some (Command.Primary unsent) step)
  primary-calm unsent step other drawn = go (is_crowded_out (is_some unsent.kind) step.next)
    where
      numbered : (same : Bool) → (step.next.numbers.next == step.next.numbers.end) ≡ same
          → OnEither (CalmStep hears told step) (CalmStep hears told step)
          (draws (if same then None else Some step.next.numbers.next) (sends Some unsent) step)
      numbered true e = no-note step step.next (itself step.next)
      numbered false e = record {
        notes = inr (
          Happening.Sent (primary_of unsent step.next.numbers.next),
          (
            (λ primary message told_so. absurd (grind (arith, told_so, none-told told step.next.numbers.next drawn))),
            ((λ notes. refl), refl),
          ),
          refl,
        );
        core = record {
          drawn = refl;
          next =
              subst (λ (b : Bool).
              step.next.numbers.next ≤ (if b then step.next.numbers else record step.next.numbers
              { next = step.next.numbers.next + 1 }).next)
              (sym e) (omega arith);
          less = inl (begun-same unsent.kind
              (last_header_of step.next.outgoing (primary_of unsent step.next.numbers.next))
              step.next.transactions other);
          asks = λ asks. asks;
        };
      }

      go : (crowded : Bool)
          → OnEither (CalmStep hears told step) (CalmStep hears told step)
          (if crowded then Goes (noted Some (Happening.Full (unsent_name unsent)) step)
          else draws (next_number step.next.numbers) (sends Some unsent) step)
      go true = one-note (Happening.Full (unsent_name unsent)) step step.next (tt, ((λ notes. refl), refl))
          (itself step.next)
      go false = numbered (step.next.numbers.next == step.next.numbers.end) refl

  reply-calm :
      (function : ℕ → ℕ) (body : List ℕ) (step : CoreStep)
      → ((n : ℕ) → (n % 2 == 1) ≡ true → (function n % 2 == 1) ≡ false)
      → AsksOfPrimary step.next.asked → CalmStep hears told step (replies Some step.next.asked function body step)
  reply-calm function body step even asks = go step.next.asked asks
    where
      room :
          (title : Title) → AsksOfPrimary (Some title) → (full : Bool)
          → CalmStep hears told step
          (if full
          then noted Some (Happening.Full (message_name (reply_of title (function title.name.function) body)))
          (with_end (with_asked None step.next) step)
          else queues Some (reply_of title (function title.name.function) body)
          (with_end (with_asked None step.next) step))
      room title asks true =
          one-note (Happening.Full (message_name (reply_of title (function title.name.function) body))) step
          (with_asked None step.next) (tt, ((λ notes. refl), refl))
          (still step.next (with_asked None step.next) refl refl (inl refl) (λ one. tt))
      room title asks false = record {
        notes = inr (
          Happening.Sent (reply_of title (function title.name.function) body),
          (
            (λ primary message told_so. absurd (grind (arith, primary, even title.name.function asks))),
            ((λ notes. refl), refl),
          ),
          refl,
        );
        core = record {
          drawn = refl;
          next = omega arith;
          less = inl refl;
          asks = λ one. tt;
        };
      }

      go : (asked : Option Title) → AsksOfPrimary asked
          → CalmStep hears told step (replies Some asked function body step)
      go None asks = no-note step step.next (itself step.next)
      go (Some title) asks = room title asks (nat_le 128 (length step.next.outgoing.waiting))

  offer-calm : (at : Phase) (held : Option BlockView) (now : ℕ) (step : CoreStep)
      → CalmStep hears told step (offers at held now step)
  offer-calm at held now step = go at held
    where
      kept : (core : EndView Kind) → core.drawn ≡ step.next.drawn → core.numbers ≡ step.next.numbers
          → core.transactions ≡ step.next.transactions → core.asked ≡ step.next.asked → IsCalmly step.next core
      kept core drawn numbers transactions asked =
          still step.next core drawn numbers
          (inl (ap (λ (t : TransactionsView Kind). unloads_in t.begun) transactions))
          (subst (λ (a : Option Title). AsksOfPrimary step.next.asked → AsksOfPrimary a) (sym asked) (λ asks. asks))

      given : (block : Option BlockView)
          → CalmStep hears told step
          (gives block now (with_end (with_outgoing (next_turn step.next.outgoing) step.next) step))
      given None = record {
        notes = inl refl;
        core = kept (with_outgoing (next_turn step.next.outgoing) step.next) refl refl refl refl;
      }
      given (Some block) = record { notes = inl refl; core = kept _ refl refl refl refl }

      go : (at : Phase) (held : Option BlockView) → CalmStep hears told step (offers at held now step)
      go phase.Idle (Some held) = record { notes = inl refl; core = kept _ refl refl refl refl }
      go phase.Idle None =
          given (next_block_of step.next.outgoing.side step.next.outgoing.device step.next.outgoing.waiting).0
      go phase.AwaitEot held = no-note step step.next (itself step.next)
      go phase.AwaitAck held = no-note step step.next (itself step.next)
      go phase.AwaitLength held = no-note step step.next (itself step.next)
      go phase.Gathering held = no-note step step.next (itself step.next)
      go phase.Settling held = no-note step step.next (itself step.next)

  drop-calm : (header : Option Header) (now : ℕ) (step : CoreStep)
      → CalmStep hears told step (drops Some header now step)
  drop-calm None now step = no-note step step.next (itself step.next)
  drop-calm (Some header) now step = record {
    notes = inr (Happening.DroppedByT4 header, (tt, ((λ notes. refl), refl)), refl);
    core = still step.next _ refl refl (inl refl) (λ asks. asks);
  }

  time-calm :
      (test : Begun Kind → Bool) (found : Option (Begun Kind)) (step : CoreStep)
      → CalmStep hears told step (times_out Some test found step)
  time-calm test None step = no-note step step.next (itself step.next)
  time-calm test (Some begun) step = record {
    notes = inr (Happening.TimedOut (header_title begun.header), (tt, ((λ notes. refl), refl)), refl);
    core = still step.next _ refl refl (ends-less test step.next.transactions) (λ asks. asks);
  }

  answer-calm :
      (header : Header) (found : Option (Begun Kind)) (step : CoreStep)
      → CalmStep hears told step (answers Some header found step)
  answer-calm header None step =
      one-note (Happening.Stranger (header_title header)) step step.next (tt, ((λ notes. refl), refl))
      (itself step.next)
  answer-calm header (Some begun) step = record {
    notes = inl refl;
    core = still step.next _ refl refl (ends-less (is_answered_by header) step.next.transactions) (λ asks. asks);
  }

  -- ---- what comes in

  cancelled-calm : (cancel : Bool) (core : EndView Kind) → IsCalmly core (cancels cancel core)
  cancelled-calm true core = still core _ refl refl (inl refl) (λ asks. asks)
  cancelled-calm false core = itself core

  -- what waits and which timers run, before the held block is dropped
  abbrev unheld : Bool → Bool → Header → ℕ → EndView Kind → EndView Kind
  unheld held waits header now core =
      with_outgoing (without_answered waits header.system core.outgoing)
      (with_transactions (starts_t3 (held || waits) header.system now core.transactions) core)

  taken-back : (header : Header) (now : ℕ) (core : EndView Kind) → IsCalmly core (takes_back header now core)
  taken-back header now core =
      go (is_held_answered header core.line.held)
      (is_waiting_answered header core.outgoing (waiting_primary header.system core.outgoing))
    where
      go : (held waits : Bool) → IsCalmly core (cancels held (unheld held waits header now core))
      go held waits =
          calmly-both core (unheld held waits header now core) (cancels held (unheld held waits header now core))
          (still core (unheld held waits header now core) refl refl
          (inl (t3-same (held || waits) header.system now core.transactions)) (λ asks. asks))
          (cancelled-calm held (unheld held waits header now core))

  asked-calm : (message : Message) → AsksOfPrimary (asked_by message)
  asked-calm message = go (is_primary message) refl message.wait
    where
      go : (primary : Bool) → is_primary message ≡ primary → (wait : Bool)
          → AsksOfPrimary (if primary && wait then Some (title_of message) else None)
      go true e true = e
      go true e false = tt
      go false e wait = tt

  judged-calm :
      (header : Header) (judged : Flow) (step : CoreStep) → hears ≡ true
      → CalmStep hears told step (judges Some header judged step)
  judged-calm header flow.Part step heard =
      no-note step _
      (still step.next _ refl refl (inl (timed-same (is_answered_by header) None step.next.transactions))
      (λ asks. asks))
  judged-calm header (flow.Whole message check) step heard =
      one-note (Happening.Received message) step (with_asked (asked_by message) step.next)
      (heard, ((λ notes. refl), refl))
      (still step.next _ refl refl (inl refl) (λ asks. asked-calm message))
  judged-calm header flow.Duplicate step heard =
      one-note (Happening.Duplicate header) step step.next (tt, ((λ notes. refl), refl)) (itself step.next)
  judged-calm header (flow.Foreign address) step heard =
      one-note (Happening.Foreign header) step step.next (tt, ((λ notes. refl), refl)) (itself step.next)
  judged-calm header flow.Unexpected step heard =
      one-note (Happening.Unexpected header) step step.next (tt, ((λ notes. refl), refl)) (itself step.next)
  judged-calm header flow.TooLong step heard =
      one-note (Happening.TooLongBlock header) step step.next (tt, ((λ notes. refl), refl)) (itself step.next)
  judged-calm header flow.Crowded step heard =
      one-note (Happening.Crowded header) step step.next (tt, ((λ notes. refl), refl)) (itself step.next)

  -- one step behind another that notes nothing
  behind : (one two three : CoreStep) → two.notes ≡ one.notes → IsCalmly one.next two.next
      → CalmStep hears told two three
      → CalmStep hears told one three
  behind one two three same calm more = record {
    notes = subst
        (λ (notes : List Happening).
        (three.notes ≡ notes)
        ⊎ ((what : Happening) × (IsCalmChange hears told (change_of what) × IsAside what)
        × (three.notes ≡ notes ++ what ∷ [])))
        same more.notes;
    core = calmly-both one.next two.next three.next calm more.core;
  }

  abbrev filled : BlockView → ℕ → EndView Kind → EndView Kind
  filled block now core = with_assembly (with_block core.assembly block now) core

  told-calm :
      (held : Option Header) (happened : LineEvent) (now : ℕ) (step : CoreStep) → hears ≡ true
      → CalmStep hears told step (tells Some held happened now step)
  told-calm held (event.Arrived block) now step heard =
      behind step (with_end (takes_back block.header now (filled block now step.next)) step) _ refl
      (calmly-both step.next (filled block now step.next) (takes_back block.header now (filled block now step.next))
      (still step.next (filled block now step.next) refl refl (inl refl) (λ asks. asks))
      (taken-back block.header now (filled block now step.next)))
      (judged-calm block.header (flow_to step.next.assembly block)
      (with_end (takes_back block.header now (filled block now step.next)) step) heard)
  told-calm held event.Sent now step heard =
      no-note step _
      (still step.next _ refl refl (inl (acknowledged-same held now step.next.transactions)) (λ asks. asks))
  told-calm held event.Nothing now step heard = no-note step step.next (itself step.next)
  told-calm held event.Failed now step heard = no-note step step.next (itself step.next)
  told-calm held (event.Refused cause) now step heard = no-note step step.next (itself step.next)

  taken-calm : (byte now : ℕ) (step : CoreStep) → hears ≡ true → CalmStep hears told step (takes Some byte now step)
  taken-calm byte now step heard =
      behind step (calls (LineCall.Take byte now) step) _ refl
      (still step.next _ refl refl (inl refl) (λ asks. asks))
      (told-calm (held_header step.next.line.held) (line_step step.next.line (LineCall.Take byte now)).event now
      (calls (LineCall.Take byte now) step) heard)

  -- ---- all commands

  pub carry-calm :
      (command : Command Kind) (step : CoreStep) → IsCalm hears command → AreDrawn told step.next.numbers.next
      → AsksOfPrimary step.next.asked
      → OnEither (CalmStep hears told step) (CalmStep hears told step) (carry Some command step)
  carry-calm (Command.Note what) step calm drawn asks =
      one-note what step step.next (calm.0 told, calm.1) (itself step.next)
  carry-calm (Command.Primary unsent) step calm drawn asks = primary-calm unsent step calm drawn
  carry-calm Command.Draw step calm drawn asks = absurd calm
  carry-calm (Command.DrawnPrimary unsent) step calm drawn asks = absurd calm
  carry-calm (Command.More count) step calm drawn asks =
      no-note step _ (record { drawn = refl; next = omega arith; less = inl refl; asks = λ asks. asks })
  carry-calm (Command.Reply body) step calm drawn asks = reply-calm reply_function body step even-reply asks
  carry-calm Command.Abort step calm drawn asks = reply-calm (λ function. 0) [] step (λ n odd. refl) asks
  carry-calm (Command.Tick now) step calm drawn asks = record {
    notes = inl refl;
    core = still step.next _ refl refl (inl refl) (λ asks. asks);
  }
  carry-calm (Command.Take byte now) step calm drawn asks = taken-calm byte now step calm
  carry-calm (Command.Offer now) step calm drawn asks =
      offer-calm step.next.line.phase step.next.line.held now step
  carry-calm (Command.DropDue now) step calm drawn asks =
      drop-calm (header_so_far (find (assembly.is_due now) step.next.assembly.partials)) now step
  carry-calm (Command.Expire now) step calm drawn asks =
      time-calm (transactions.is_due now) (find (transactions.is_due now) step.next.transactions.begun) step
  carry-calm (Command.Answer header) step calm drawn asks =
      answer-calm header (find (is_answered_by header) step.next.transactions.begun) step
  carry-calm (Command.GiveUp header) step calm drawn asks =
      time-calm (is_answered_by header) (find (is_answered_by header) step.next.transactions.begun) step
  carry-calm (Command.End system) step calm drawn asks =
      no-note step _ (still step.next _ refl refl (ends-less (has_system system) step.next.transactions) (λ asks. asks))
  carry-calm (Command.Recall header) step calm drawn asks =
      no-note step _ (still step.next _ refl refl (inl refl) (λ asks. asks))
  carry-calm (Command.Remove primary system) step calm drawn asks =
      no-note step _ (still step.next _ refl refl (inl refl) (λ asks. asks))
  carry-calm Command.DropFront step calm drawn asks =
      no-note step _ (still step.next _ refl refl (inl refl) (λ asks. asks))
  carry-calm Command.CloseStep step calm drawn asks =
      one-note Happening.StepEnded step (with_asked None step.next) (tt, ((λ notes. refl), refl))
      (still step.next _ refl refl (inl refl) (λ asks. tt))
  carry-calm Command.Halt step calm drawn asks = no-note step step.next (itself step.next)
