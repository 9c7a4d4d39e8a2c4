-- What the calls tell of transactions, and what is open after that, looked back for.
use Rattle.std.specs.Prelude.{ℕ, Bool, false, ◌+◌, ◌==◌, List, [], ◌∷◌, fold, Option, Some, None, if◌then◌else◌}
use Rattle.std.specs.List.{cons_option, find, list_any}
use Rattle.std.specs.Option.{option_map}
use Rattle.block_codec.specs.declared.header.Header.{Header}
use Rattle.transact.specs.declared.begun.Begun.{Begun}
use Rattle.transact.specs.declared.transactions.Beginning.{Beginning}
use Rattle.transact.specs.Transactions.{TransactionsView, has_system, is_answered_by, is_due, refusal_of, system_of, with_deadline, with_primary, without_first}

-- the calls that may change something, without those that memory was wanting for
pub data Call (K : Type 0) : Type 0 where
  Begin : (header : Header) (kind : K) → Call K
  Sent : (system now : ℕ) → Call K
  ReplyBegan : (header : Header) → Call K
  Answer : (header : Header) → Call K
  End : (system : ℕ) → Call K
  Tick : (now : ℕ) → Call K

-- the primary's transaction is the last, where it is not refused
abbrev pub begun_with : {K : Type 0} → Option Beginning → Header → K → TransactionsView K → List (Begun K)
begun_with None header kind t = (with_primary header kind t).begun
begun_with (Some refusal) header kind t = t.begun

-- what each call leaves
abbrev pub after_call : {K : Type 0} → TransactionsView K → Call K → TransactionsView K
after_call t (Begin header kind) = record t { begun = begun_with (refusal_of t header) header kind t }
after_call t (Sent system now) = with_deadline (has_system system) (Some (now + t.t3)) t
after_call t (ReplyBegan header) = with_deadline (is_answered_by header) None t
after_call t (Answer header) = without_first (is_answered_by header) t
after_call t (End system) = without_first (has_system system) t
after_call t (Tick now) = without_first (is_due now) t

-- what has happened to a transaction: its primary began it, T3 began to run or stopped, it ended
pub data Event (K : Type 0) : Type 0 where
  Began : (header : Header) (kind : K) → Event K
  TimerStarted : (system now : ℕ) → Event K
  TimerStopped : (system : ℕ) → Event K
  Ended : (system : ℕ) → Event K

abbrev pub begin_event : {K : Type 0} → Option Beginning → Header → K → Option (Event K)
begin_event None header kind = Some (Began header kind)
begin_event (Some refusal) header kind = None

-- what a call tells by its answer: `begin` that it took the primary, and the others which transaction they met, if any
abbrev pub event_of : {K : Type 0} → TransactionsView K → Call K → Option (Event K)
event_of t (Begin header kind) = begin_event (refusal_of t header) header kind
event_of t (Sent system now) = option_map (λ one. TimerStarted (system_of one) now) (find (has_system system) t.begun)
event_of t (ReplyBegan header) = option_map (λ one. TimerStopped (system_of one)) (find (is_answered_by header) t.begun)
event_of t (Answer header) = option_map (λ one. Ended (system_of one)) (find (is_answered_by header) t.begun)
event_of t (End system) = option_map (λ one. Ended (system_of one)) (find (has_system system) t.begun)
event_of t (Tick now) = option_map (λ one. Ended (system_of one)) (find (is_due now) t.begun)

-- what the calls tell, the oldest first
abbrev pub events_of : {K : Type 0} → TransactionsView K → List (Call K) → List (Event K)
events_of t [] = []
events_of t (call ∷ calls) = cons_option (event_of t call) (events_of (after_call t call) calls)

-- the transaction with these system bytes ended
abbrev pub is_end : {K : Type 0} → ℕ → Event K → Bool
is_end system (Began header kind) = false
is_end system (TimerStarted other now) = false
is_end system (TimerStopped other) = false
is_end system (Ended other) = system == other

-- T3 of the transaction with these system bytes runs from its start on, until it stops or starts anew (SEMI E4, T3)
abbrev pub next_deadline : {K : Type 0} → ℕ → ℕ → Option ℕ → Event K → Option ℕ
next_deadline t3 system deadline (Began header kind) = deadline
next_deadline t3 system deadline (TimerStarted other now) = if system == other then Some (now + t3) else deadline
next_deadline t3 system deadline (TimerStopped other) = if system == other then None else deadline
next_deadline t3 system deadline (Ended other) = deadline

-- the transaction that an event began, as it is after all later ones, if none of them ended it
abbrev pub open_of : {K : Type 0} → ℕ → Event K → List (Event K) → Option (Begun K)
open_of t3 (Began header kind) later =
    if list_any (is_end header.system) later then None
    else Some (record { header = header; kind = kind; deadline = fold (next_deadline t3 header.system) None later })
open_of t3 (TimerStarted other now) later = None
open_of t3 (TimerStopped other) later = None
open_of t3 (Ended other) later = None

-- the primaries that have begun and not ended, in the order in which they began; the oldest event stands first
abbrev pub begun_and_not_ended : {K : Type 0} → ℕ → List (Event K) → List (Begun K)
begun_and_not_ended t3 [] = []
begun_and_not_ended t3 (event ∷ later) = cons_option (open_of t3 event later) (begun_and_not_ended t3 later)
