-- The parts of a host's step bring no note of a listing, but for the message that a character may make whole.
use Rattle.std.proofs.Common.{◌≡◌, refl, Bool, true, false, not, ℕ, List, [], ◌∷◌, ◌++◌, length, nat_le, replicate, Option, Some, None, if◌then◌else◌, zero, suc, ◌&&◌}
use Rattle.std.specs.Prelude.{flat_map}
use Rattle.std.specs.Option.{option_map}
use Rattle.block_codec.specs.declared.header.Header.{Header}
use Rattle.message_flow.specs.declared.message.Message.{Message}
use Rattle.message_flow.specs.declared.waiting.Waiting.{Waiting}
use Rattle.message_flow.specs.Message.{is_primary}
use Rattle.secs_items.specs.Spelling.{shortest_spelling}
use Rattle.trace_log.specs.Log.{Happening}
use Rattle.trace_log.specs.Names.{message_name}
use Rattle.trace_log.specs.declared.commands.HostCommand.{HostCommand}
use Rattle.trace_log.specs.declared.commands.HostCommand.TheVariants as told
use Rattle.trace_log.specs.declared.names.Name.{Name}
use Rattle.transact.specs.declared.begun.Begun.{Begun}
use Rattle.message_end.specs.Calls.{dropped_now}
use Rattle.message_end.specs.Core.{Command, EndView}
use Rattle.message_end.specs.Core.Command.{DropDue, Note, Primary}
use Rattle.message_end.specs.Duties.{Duty}
use Rattle.message_end.specs.Endings.{ends_failed, ends_front, ends_one, is_of_open}
use Rattle.host_node.specs.Host.{HostOwn, HostTurn, Kind, breaks, drops, ends_all, enters, expires, fails, failed_comms, enabled_comms, follows, function_with, gives_up, heeds, heeds_primary, heeds_secondary, is_accepted, is_disabled, is_full, late_duties, name_of, notes_comms, obeys, replies, sends, sends_reply, unsent_of}
use Rattle.host_node.specs.declared.comms.HostComms.{HostComms}
use Rattle.host_node.specs.declared.comms.HostComms.TheVariants as comms
use Rattle.host_node.specs.Replies.{is_establishing, reply_item}
use Rattle.journal_node.proofs.FreeNotes.{AllFree, AreFreeDuties}

abbrev Commands : Type 0
Commands = List (Command Kind)

free-both : (one two : Commands) → AllFree one → AllFree two → AllFree (one ++ two)
free-both [] two first second = second
free-both (command ∷ one) two first second = (first.0, free-both one two first.1 second)

ends-free : (begun : List (Begun Kind)) → AllFree (flat_map (ends_one fails) begun)
ends-free [] = tt
ends-free (one ∷ begun) =
    free-both (ends_one fails one) (flat_map (ends_one fails) begun) (tt, (tt, (tt, tt))) (ends-free begun)

fronts-free : (waiting : List Waiting) → AllFree {K = Kind} (flat_map ends_front waiting)
fronts-free [] = tt
fronts-free (one ∷ waiting) =
    free-both (ends_front one) (flat_map ends_front waiting) (tt, (tt, tt)) (fronts-free waiting)

failed-free : (was_open : Bool) (header : Header) (e : EndView Kind) → AllFree (ends_failed was_open header e)
failed-free true header e = tt
failed-free false header e = (tt, (tt, tt))

all-free : (e : EndView Kind) (failed : Option Header) → AreFreeDuties (ends_all e failed)
all-free e None = ((λ f. ends-free f.transactions.begun), ((λ f. fronts-free f.outgoing.waiting), tt))
all-free e (Some header) = (
  (λ f. ends-free f.transactions.begun),
  ((λ f. failed-free (is_of_open e header) header f), ((λ f. fronts-free f.outgoing.waiting), tt)),
)

comms-free : (before after : HostComms) (e : EndView Kind) → AllFree (notes_comms before after e)
comms-free comms.Disabled comms.Disabled e = tt
comms-free comms.NotCommunicating comms.NotCommunicating e = tt
comms-free comms.Communicating comms.Communicating e = tt
comms-free comms.Disabled comms.NotCommunicating e = (tt, tt)
comms-free comms.Disabled comms.Communicating e = (tt, tt)
comms-free comms.NotCommunicating comms.Disabled e = (tt, tt)
comms-free comms.NotCommunicating comms.Communicating e = (tt, tt)
comms-free comms.Communicating comms.Disabled e = (tt, tt)
comms-free comms.Communicating comms.NotCommunicating e = (tt, tt)

duties-both : (one two : List (Duty Kind)) → AreFreeDuties one → AreFreeDuties two → AreFreeDuties (one ++ two)
duties-both [] two first second = second
duties-both (duty ∷ one) two first second = (first.0, duties-both one two first.1 second)

duties-many : (n : ℕ) (duty : Duty Kind) → ((e : EndView Kind) → AllFree (duty e)) → AreFreeDuties (replicate n duty)
duties-many zero duty one = tt
duties-many (suc n) duty one = (one, duties-many n duty one)

-- ---- turns

abbrev pub IsFreeTurn : HostTurn → Type 0
IsFreeTurn turn = AreFreeDuties turn.duties

-- what was delivered stays as it is
pub record StaysFree (own : HostOwn) (turn : HostTurn) : Type 0 where
  pub free : AreFreeDuties turn.duties
  pub same : turn.own.delivered ≡ own.delivered

pub breaks-free : (own : HostOwn) (e : EndView Kind) (failed : Option Header) → StaysFree own (breaks own e failed)
breaks-free own e None = record { free = ((λ f. tt), tt); same = refl }
breaks-free own e (Some header) = record {
  free =
      duties-both (ends_all e (Some header)) (notes_comms own.comms (failed_comms own.comms) ∷ [])
      (all-free e (Some header)) ((λ f. comms-free own.comms (failed_comms own.comms) f), tt);
  same = refl;
}

pub late-free : (now : ℕ) → AreFreeDuties (late_duties now)
unfolding late_duties
late-free now =
    duties-both (replicate 16 (drops now)) (replicate 64 (expires now))
    (duties-many 16 (drops now) (λ e. dropped (dropped_now e now))) (duties-many 64 (expires now) (λ e. (tt, tt)))
  where
    dropped : (header : Option Header) → AllFree {K = Kind} (DropDue now ∷ gives_up header)
    dropped None = (tt, tt)
    dropped (Some header) = (tt, (tt, tt))

replies-free : (message : Message) (e : EndView Kind) → AllFree (replies message e)
replies-free message e =
    go message.wait (is_full e) (option_map shortest_spelling (reply_item message.stream message.function))
  where
    go : (wait full : Bool) (text : Option (List ℕ))
        → AllFree (if wait then (if full then Note
        (Happening.Full (record {
          stream = message.stream;
          function = function_with message text;
          wait = false;
        })) ∷ [] else sends_reply text) else [])
    go true true text = (tt, tt)
    go true false None = (tt, tt)
    go true false (Some text) = (tt, tt)
    go false full text = tt

primary-free : (own : HostOwn) (message : Message) → StaysFree own (heeds_primary own message)
primary-free own message = go (is_establishing message.stream message.function)
  where
    go : (b : Bool) → StaysFree own
        (if b then enters own comms.Communicating (replies message ∷ [])
        else record { own = own; duties = replies message ∷ [] })
    go true = record {
      free = ((λ e. comms-free own.comms comms.Communicating e), ((λ e. replies-free message e), tt));
      same = refl;
    }
    go false = record { free = ((λ e. replies-free message e), tt); same = refl }

secondary-free :
    (own : HostOwn) (e : EndView Kind) (header : Header) (message : Message)
    → StaysFree own (heeds_secondary own e header message)
secondary-free own e header message =
    let is = go (is_accepted e header message) in record { free = ((λ f. (tt, tt)), is.free); same = is.same }
  where
    go : (accepted : Bool) → StaysFree own (follows own accepted)
    go true = record { free = ((λ f. comms-free own.comms comms.Communicating f), tt); same = refl }
    go false = record { free = ((λ f. tt), tt); same = refl }

pub heeds-free :
    (own : HostOwn) (e : EndView Kind) (header : Header) (message : Message) → StaysFree own
    (heeds own e header message)
heeds-free own e header message = go (is_disabled own.comms) (is_primary message)
  where
    go : (disabled odd : Bool)
        → StaysFree own (if disabled then record {
          own = own;
          duties = (λ e. Note (Happening.Dropped (message_name message)) ∷ []) ∷ [];
        } else if odd then heeds_primary own message else heeds_secondary own e header message)
    go true odd = record { free = ((λ f. (tt, tt)), tt); same = refl }
    go false true = primary-free own message
    go false false = secondary-free own e header message

sends-free : (own : HostOwn) (e : EndView Kind) (sent : Name) (body : List ℕ) → AllFree (sends own e sent body)
sends-free own e sent body =
    go (is_disabled own.comms) (nat_le (length body) own.plan.line.max_body) (not sent.wait && is_full e)
  where
    go : (disabled short full : Bool)
        → AllFree (if disabled then Note (Happening.Dropped sent) ∷ []
        else if not short then Note (Happening.TooLong sent) ∷ []
        else if full then Note (Happening.Full sent) ∷ []
        else Primary (unsent_of sent body) ∷ [])
    go true short full = (tt, tt)
    go false false full = (tt, tt)
    go false true true = (tt, tt)
    go false true false = (tt, tt)

pub obeys-free : (command : HostCommand) (own : HostOwn) (e : EndView Kind) → StaysFree own (obeys command own e)
obeys-free (told.Send stream function wait body) own e =
    record { free = ((λ f. sends-free own e (name_of stream function wait) body), tt); same = refl }
obeys-free told.Enable own e =
    record { free = ((λ f. comms-free own.comms (enabled_comms own.comms) f), tt); same = refl }
obeys-free told.Disable own e = record {
  free =
      duties-both (ends_all e None) (notes_comms own.comms comms.Disabled ∷ []) (all-free e None)
      ((λ f. comms-free own.comms comms.Disabled f), tt);
  same = refl;
}
