-- That the host keeps the law of an end: the proof, which stands here since an impl cites it.
use Rattle.std.proofs.Common.{rules, ◌≡◌, ◌≢◌, ◌^◌, refl, sym, ap, subst, arith, Bool, true, false, not, ℕ, ◌≤◌, ◌&&◌, List, [], ◌∷◌, ◌++◌, length, replicate, Option, Some, None, if◌then◌else◌, nat_le, zero, suc}
use Rattle.std.proofs.lemmas.Bool.Decides.{nat_tests}
use Rattle.std.specs.Prelude.{flat_map}
use Rattle.std.specs.Option.{option_map}
use Rattle.gem_shapes.specs.Answers.{code_item, pair_item}
use Rattle.block_codec.specs.Protocol.{longest_text}
use Rattle.block_codec.specs.declared.header.Header.{Header}
use Rattle.line_end.specs.Plan.{HostPlanFits}
use Rattle.line_end.specs.declared.plan.HostPlan.{HostPlan}
use Rattle.message_flow.specs.declared.flow.Flow.{Flow}
use Rattle.message_flow.specs.declared.flow.Flow.TheVariants as flow
use Rattle.message_flow.specs.declared.message.Message.{Message}
use Rattle.message_flow.specs.declared.waiting.Waiting.{Waiting}
use Rattle.message_flow.specs.Message.{is_primary}
use Rattle.secs_items.specs.Spelling.{shortest_spelling}
use Rattle.trace_log.specs.Commands.{HostCommandFits, MayBeSent}
use Rattle.trace_log.specs.Log.{Happening}
use Rattle.trace_log.specs.Names.{message_name}
use Rattle.trace_log.specs.declared.commands.HostCommand.{HostCommand}
use Rattle.trace_log.specs.declared.commands.HostCommand.TheVariants as told
use Rattle.trace_log.specs.declared.names.Name.{Name}
use Rattle.transact.specs.declared.begun.Begun.{Begun}
use Rattle.transact.specs.Numbers.{numbers_from}
use Rattle.message_end.specs.declared.end.Took.{Took}
use Rattle.message_end.specs.declared.end.Took.TheVariants as took
use Rattle.message_end.specs.Calls.{dropped_now, failed_at, took_at}
use Rattle.message_end.specs.Core.{Command, EndView, IsText, Step}
use Rattle.message_end.specs.Core.Went.{Goes, Spent}
use Rattle.message_end.specs.Core.Command.{DropDue, GiveUp, Note, Offer, Primary, Take, Tick}
use Rattle.message_end.specs.Duties.{Duty}
use Rattle.message_end.specs.Endings.{ends_failed, ends_front, ends_one, is_of_open}
use Rattle.message_end.specs.Ends.{Input, KeepsLaw, MayTake}
use Rattle.message_end.specs.Ends.Input.{Char, Command as Told, Time}
use Rattle.message_end.specs.Parts.{Did, Node, bare_started, core_after, fixed_turn}
use Rattle.message_end.proofs.Lower.{lower}
use Rattle.message_end.proofs.NodeLawful.{node-lawful}
use Rattle.message_end.proofs.Parts.{AreDueDuties, AreQuietDuties, IsDue, IsInputPart, IsQuiet, IsQuietTurn, IsStepOf, led-turn}
use Rattle.host_node.specs.declared.comms.HostComms.{HostComms}
use Rattle.host_node.specs.declared.comms.HostComms.TheVariants as comms
use Rattle.host_node.specs.Host.{HasPlan, HostOwn, HostTurn, Kind, breaks, brings, drops, ends_all, ends_in, ends_late, enabled_comms, end_plan, enters, expires, failed_comms, fails, first_own, follows, function_with, given, gives_up, heeds, heeds_primary, heeds_secondary, host_design, host_machine, is_accepted, is_disabled, is_full, judges, late_duties, name_of, notes_comms, obeys, offers, parts, replies, sends, sends_reply, ticks, undelivered, unsent_of}
use Rattle.host_node.specs.Replies.{is_acknowledged, is_establishing, is_question, no_identity, reply_item}
use Rattle.host_node.specs.Spelled.{spelled_code, spelled_established, spelled_nothing}

-- ---- commands that call no line

pub none-quiet : IsQuiet {K = Kind} []
none-quiet = record { calls = tt; may = tt }

-- what ends together
ones-quiet : (begun : List (Begun Kind)) → IsQuiet (flat_map (ends_one fails) begun)
ones-quiet [] = none-quiet
ones-quiet (one ∷ begun) =
    let rest = ones-quiet begun in
    record { calls = (tt, (tt, (tt, rest.calls))); may = (tt, (tt, (tt, rest.may))) }

fronts-quiet : (waiting : List Waiting) → IsQuiet {K = Kind} (flat_map ends_front waiting)
fronts-quiet [] = none-quiet
fronts-quiet (one ∷ waiting) =
    let rest = fronts-quiet waiting in
    record { calls = (tt, (tt, rest.calls)); may = (tt, (tt, rest.may)) }

failed-quiet : (was_open : Bool) (header : Header) (e : EndView Kind) → IsQuiet (ends_failed was_open header e)
failed-quiet true header e = none-quiet
failed-quiet false header e = record { calls = (tt, (tt, tt)); may = (tt, (tt, tt)) }

comms-quiet : (before after : HostComms) (e : EndView Kind) → IsQuiet (notes_comms before after e)
comms-quiet comms.Disabled comms.Disabled e = none-quiet
comms-quiet comms.NotCommunicating comms.NotCommunicating e = none-quiet
comms-quiet comms.Communicating comms.Communicating e = none-quiet
comms-quiet comms.Disabled comms.NotCommunicating e = record { calls = (tt, tt); may = (tt, tt) }
comms-quiet comms.Disabled comms.Communicating e = record { calls = (tt, tt); may = (tt, tt) }
comms-quiet comms.NotCommunicating comms.Disabled e = record { calls = (tt, tt); may = (tt, tt) }
comms-quiet comms.NotCommunicating comms.Communicating e = record { calls = (tt, tt); may = (tt, tt) }
comms-quiet comms.Communicating comms.Disabled e = record { calls = (tt, tt); may = (tt, tt) }
comms-quiet comms.Communicating comms.NotCommunicating e = record { calls = (tt, tt); may = (tt, tt) }

drops-due : (now : ℕ) (dropped : Option Header) → IsDue {K = Kind} now (DropDue now ∷ gives_up dropped)
drops-due now None = record { calls = (tt, tt); drops = (refl, tt); adds = (tt, tt); may = (tt, tt) }
drops-due now (Some header) =
    record { calls = (tt, (tt, tt)); drops = (refl, (tt, tt)); adds = (tt, (tt, tt)); may = (tt, (tt, tt)) }

-- the replies are short, and of bytes
text-code : IsText (shortest_spelling (code_item 0))
text-code = subst IsText (sym spelled_code) (record { short = omega arith; bytes = search rules })

text-nothing : IsText (shortest_spelling no_identity)
text-nothing = subst IsText (sym spelled_nothing) (record { short = omega arith; bytes = search rules })

text-established :
    IsText
    (shortest_spelling
    (pair_item (code_item 0)
    no_identity))
text-established = subst IsText (sym spelled_established) (record { short = omega arith; bytes = search rules })

reply-quiet : (stream function : ℕ) → IsQuiet
    (sends_reply (option_map shortest_spelling (reply_item stream function)))
reply-quiet stream function =
    go (is_question stream function) (is_establishing stream function) (is_acknowledged stream function)
  where
    go : (asks establishing acknowledged : Bool)
        → IsQuiet (sends_reply (option_map shortest_spelling
        (if asks then Some no_identity
        else if establishing then
        Some (pair_item (code_item 0)
        no_identity)
        else if acknowledged then Some (code_item 0) else None)))
    go true establishing acknowledged = record { calls = (tt, tt); may = (text-nothing, tt) }
    go false true acknowledged = record { calls = (tt, tt); may = (text-established, tt) }
    go false false true = record { calls = (tt, tt); may = (text-code, tt) }
    go false false false = record { calls = (tt, tt); may = (tt, tt) }

replies-quiet : (message : Message) (e : EndView Kind) → IsQuiet (replies message e)
replies-quiet message e =
    go message.wait (is_full e) (option_map shortest_spelling (reply_item message.stream message.function))
    (reply-quiet message.stream message.function)
  where
    go : (wait full : Bool) (text : Option (List ℕ)) → IsQuiet (sends_reply text)
        → IsQuiet (if wait then (if full then Note
        (Happening.Full (record {
          stream = message.stream;
          function = function_with message text;
          wait = false;
        })) ∷ [] else sends_reply text) else [])
    go true true text is = record { calls = (tt, tt); may = (tt, tt) }
    go true false text is = is
    go false full text is = none-quiet

-- ---- turns

module _ (plan : HostPlan) (base : ℕ) where
  abbrev Quiet : HostTurn → Type 0
  Quiet turn = IsQuietTurn (end_plan plan) base (HasPlan plan) turn

  abbrev AreQuiet : List (Duty Kind) → Type 0
  AreQuiet duties = AreQuietDuties {S = HostOwn} (end_plan plan) base (HasPlan plan) duties

  pub fixed-quiet : (own : HostOwn) (commands : List (Command Kind)) → HasPlan plan own → IsQuiet commands → Quiet
      (fixed_turn own commands)
  fixed-quiet own commands sound is = record { quiet = ((λ e core. is), tt); sound = sound }

  abbrev AreDue : ℕ → List (Duty Kind) → Type 0
  AreDue now duties = AreDueDuties {S = HostOwn} (end_plan plan) base (HasPlan plan) now duties

  both-due :
      (now : ℕ) (first second : List (Duty Kind)) → AreDue now first → AreDue now second → AreDue now (first ++ second)
  both-due now [] second one two = two
  both-due now (duty ∷ first) second one two = (one.0, both-due now first second one.1 two)

  many-due : (now n : ℕ) (duty : Duty Kind) → ((e : EndView Kind) → IsDue now (duty e)) → AreDue now (replicate n duty)
  many-due now zero duty one = tt
  many-due now (suc n) duty one = ((λ e core. one e), many-due now n duty one)

  both-quiet : (first second : List (Duty Kind)) → AreQuiet first → AreQuiet second → AreQuiet (first ++ second)
  both-quiet [] second one two = two
  both-quiet (duty ∷ first) second one two = (one.0, both-quiet first second one.1 two)

  all-quiet : (e : EndView Kind) (failed : Option Header) → AreQuiet (ends_all e failed)
  all-quiet e None = ((λ f core. ones-quiet f.transactions.begun), ((λ f core. fronts-quiet f.outgoing.waiting), tt))
  all-quiet e (Some header) = (
    (λ f core. ones-quiet f.transactions.begun),
    (
      (λ f core. failed-quiet (is_of_open e header) header f),
      ((λ f core. fronts-quiet f.outgoing.waiting), tt),
    ),
  )

  enters-quiet :
      (own : HostOwn) (next : HostComms) (later : List (Duty Kind)) → HasPlan plan own → AreQuiet later
      → Quiet (enters own next later)
  enters-quiet own next later sound is =
      record { quiet = ((λ e core. comms-quiet own.comms next e), is); sound = sound }

  ends-quiet :
      (own : HostOwn) (next : HostComms) (first : List (Duty Kind)) → HasPlan plan own → AreQuiet first
      → Quiet (ends_in own next first)
  ends-quiet own next first sound is = record {
    quiet = both-quiet first (notes_comms own.comms next ∷ []) is ((λ e core. comms-quiet own.comms next e), tt);
    sound = sound;
  }

  pub breaks-quiet : (own : HostOwn) (e : EndView Kind) (failed : Option Header) → HasPlan plan own → Quiet
      (breaks own e failed)
  breaks-quiet own e None sound = fixed-quiet own [] sound none-quiet
  breaks-quiet own e (Some header) sound =
      ends-quiet own (failed_comms own.comms) (ends_all e (Some header)) sound (all-quiet e (Some header))

  pub late-due : (now : ℕ) → AreDue now (late_duties now)
  unfolding late_duties
  late-due now =
      both-due now (replicate 16 (drops now)) (replicate 64 (expires now))
      (many-due now 16 (drops now) (λ e. drops-due now (dropped_now e now)))
      (many-due now 64 (expires now) (λ e. record {
        calls = (tt, tt);
        drops = (tt, tt);
        adds = (tt, tt);
        may = (tt, tt);
      }))

  -- ---- what came

  primary-quiet : (own : HostOwn) (message : Message) → HasPlan plan own → Quiet (heeds_primary own message)
  primary-quiet own message sound = go (is_establishing message.stream message.function)
    where
      go : (b : Bool) → Quiet
          (if b then enters own comms.Communicating (replies message ∷ [])
          else record { own = own; duties = replies message ∷ [] })
      go true = enters-quiet own comms.Communicating (replies message ∷ []) sound
          ((λ e core. replies-quiet message e), tt)
      go false = record { quiet = ((λ e core. replies-quiet message e), tt); sound = sound }

  follows-quiet : (own : HostOwn) (accepted : Bool) → HasPlan plan own → Quiet (follows own accepted)
  follows-quiet own true sound = enters-quiet own comms.Communicating [] sound tt
  follows-quiet own false sound = fixed-quiet own [] sound none-quiet

  secondary-quiet :
      (own : HostOwn) (e : EndView Kind) (header : Header) (message : Message) → HasPlan plan own
      → Quiet (heeds_secondary own e header message)
  secondary-quiet own e header message sound =
      let is = follows-quiet own (is_accepted e header message) sound in
      record { quiet = ((λ e core. record { calls = (tt, tt); may = (tt, tt) }), is.quiet); sound = is.sound }

  heeds-quiet :
      (own : HostOwn) (e : EndView Kind) (header : Header) (message : Message) → HasPlan plan own
      → Quiet (heeds own e header message)
  heeds-quiet own e header message sound = go (is_disabled own.comms) (is_primary message)
    where
      go : (disabled odd : Bool)
          → Quiet (if disabled then fixed_turn own (Note (Happening.Dropped (message_name message)) ∷ [])
          else if odd then heeds_primary own message else heeds_secondary own e header message)
      go true odd = fixed-quiet own (Note (Happening.Dropped (message_name message)) ∷ []) sound
          (record { calls = (tt, tt); may = (tt, tt) })
      go false true = primary-quiet own message sound
      go false false = secondary-quiet own e header message sound

  judges-quiet :
      (own : HostOwn) (e : EndView Kind) (header : Header) (came : Flow) → HasPlan plan own
      → Quiet (judges own e header came)
  judges-quiet own e header (flow.Whole message check) sound =
      let is = heeds-quiet own e header message sound in record { quiet = is.quiet; sound = is.sound }
  judges-quiet own e header flow.Unexpected sound = fixed-quiet own (GiveUp header ∷ []) sound
      (record { calls = (tt, tt); may = (tt, tt) })
  judges-quiet own e header flow.TooLong sound = fixed-quiet own (GiveUp header ∷ []) sound
      (record { calls = (tt, tt); may = (tt, tt) })
  judges-quiet own e header flow.Crowded sound = fixed-quiet own (GiveUp header ∷ []) sound
      (record { calls = (tt, tt); may = (tt, tt) })
  judges-quiet own e header flow.Part sound = fixed-quiet own [] sound none-quiet
  judges-quiet own e header flow.Duplicate sound = fixed-quiet own [] sound none-quiet
  judges-quiet own e header (flow.Foreign address) sound = fixed-quiet own [] sound none-quiet

  pub brings-quiet : (own : HostOwn) (e : EndView Kind) (brought : Took) → HasPlan plan own → Quiet (brings own e brought)
  brings-quiet own e took.Nothing sound = fixed-quiet own [] sound none-quiet
  brings-quiet own e (took.Failed header) sound = breaks-quiet own e (Some header) sound
  brings-quiet own e (took.Came header came) sound = judges-quiet own e header came sound

  -- ---- what it is told

  sends-quiet :
      (own : HostOwn) (e : EndView Kind) (stream function : ℕ) (wait : Bool) (body : List ℕ) → HostPlanFits plan
      → HasPlan plan own → MayBeSent stream function body → IsQuiet (sends own e (name_of stream function wait) body)
  sends-quiet own e stream function wait body fits sound may =
      go (is_disabled own.comms) (nat_le (length body) own.plan.line.max_body) (not wait && is_full e) refl
    where
      sent : Name
      sent = name_of stream function wait

      go : (disabled short full : Bool) → nat_le (length body) own.plan.line.max_body ≡ short
          → IsQuiet (if disabled then Note (Happening.Dropped sent) ∷ []
          else if not short then Note (Happening.TooLong sent) ∷ []
          else if full then Note (Happening.Full sent) ∷ []
          else Primary (unsent_of sent body) ∷ [])
      go true short full e = record { calls = (tt, tt); may = (tt, tt) }
      go false false full e = record { calls = (tt, tt); may = (tt, tt) }
      go false true true e = record { calls = (tt, tt); may = (tt, tt) }
      go false true false e = record {
        calls = (tt, tt);
        may = (
          record {
            stream = let most = may.name.at_most in omega arith;
            function = may.byte;
            odd = let odd = may.name.odd in grind (arith, nat_tests, odd);
            body = record { short = short; bytes = may.bytes };
          },
          tt,
        );
      }
        where
          own_most : own.plan.line.max_body ≤ 7995148
          own_most = subst (λ (p : HostPlan). p.line.max_body ≤ 7995148) (sym sound) fits.line.max_body_at_most

          short : length body ≤ longest_text
          short = grind (arith, nat_tests, e, own_most)

  pub obeys-quiet :
      (command : HostCommand) (own : HostOwn) (e : EndView Kind) → HostPlanFits plan → HasPlan plan own
      → HostCommandFits command → Quiet (obeys command own e)
  obeys-quiet (told.Send stream function wait body) own e fits sound may =
      fixed-quiet own (sends own e (name_of stream function wait) body) sound
      (sends-quiet own e stream function wait body fits sound may)
  obeys-quiet told.Enable own e fits sound may =
      enters-quiet own (enabled_comms own.comms) [] sound tt
  obeys-quiet told.Disable own e fits sound may =
      ends-quiet own comms.Disabled (ends_all e None) sound (all-quiet e None)

  -- ---- a step

  input-is :
      (input : Input HostCommand) (now : ℕ) → HostPlanFits plan → MayTake HostCommandFits input
      → IsInputPart {S = HostOwn} {K = Kind} (end_plan plan) base (HasPlan plan) input now (given input now)
  input-is (Char byte) now fits may = (
    may,
    λ own e sound core.
        led-turn (end_plan plan) base (HasPlan plan) (Take byte now)
        (brings own (core_after (Take byte now) e) (took_at e byte now))
        (brings-quiet own (core_after (Take byte now) e) (took_at e byte now) sound),
  )
  input-is Time now fits may = λ own e sound core. fixed-quiet own [] sound none-quiet
  input-is (Told command) now fits may = λ own e sound core. obeys-quiet command own e fits sound may

  step-is :
      (input : Input HostCommand) (now : ℕ) → HostPlanFits plan → MayTake HostCommandFits input
      → IsStepOf (end_plan plan) base (HasPlan plan) input now (parts input now)
  step-is input now fits may = record {
    first = [];
    tick = ticks now;
    due = ends_late now ∷ [];
    given = given input now;
    later = [];
    offer = offers now;
    are = refl;
    first_is = tt;
    tick_is = λ own e sound core.
        led-turn (end_plan plan) base (HasPlan plan) (Tick now)
        (breaks (undelivered own) (core_after (Tick now) e) (failed_at e now))
        (breaks-quiet (undelivered own) (core_after (Tick now) e) (failed_at e now) sound);
    due_is = ((λ own e sound core. record { due = late-due now; sound = sound }), tt);
    given_is = input-is input now fits may;
    later_is = tt;
    offer_is = λ own e sound core.
        led-turn (end_plan plan) base (HasPlan plan) (Offer now) (fixed_turn own [])
        (fixed-quiet own [] sound none-quiet);
  }

-- nothing is to be drawn in the first step
begins :
    (plan : HostPlan) (step : Step (Node HostOwn Kind) Happening)
    → host_machine.act (bare_started (end_plan plan) (first_own plan) (numbers_from 0 (2 ^ 32))).next Time 0
    ≢ Spent step
unfolding late_duties
begins plan step same = absurd (cc)

pub host_lawful :
    (plan : HostPlan) (store : Unit {0}) → HostPlanFits plan → Unit {0}
    → KeepsLaw (end_plan plan) (Did (HasPlan plan) (end_plan plan)) HostCommandFits
    (Goes (bare_started (end_plan plan) (first_own plan) (numbers_from 0 (2 ^ 32)))) host_machine
host_lawful plan store fits holds =
    node-lawful lower (end_plan plan) fits.line (HasPlan plan) host_design HostCommandFits (first_own plan) refl
    (λ own sound. sound) (λ own sound. ap end_plan sound) (λ base input now may. step-is plan base input now fits may)
    (λ step. begins plan step)
