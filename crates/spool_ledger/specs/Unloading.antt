-- How an unload goes over the list (SEMI E30, spooling).
use Rattle.std.specs.Prelude.{ℕ, Bool, false, not, ◌+◌, ◌==◌, ◌&&◌, ◌||◌, nat_le, nat_lt, is_none, List, [], ◌∷◌, length, Option, Some, None, if◌then◌else◌}
use Rattle.std.specs.Option.{option_and_then, option_map}
use Rattle.trace_log.specs.Log.Happening.{Try}
use Rattle.trace_log.specs.declared.names.Cause.TheVariants.{Confirmed}
use Rattle.spool_ledger.specs.Ledger.{Booked, LedgerView, and_then, quiet}
use Rattle.spool_ledger.specs.Storing.{oldest_out}
use Rattle.spool_ledger.specs.declared.unload.Tried.{Tried}
use Rattle.spool_ledger.specs.declared.unload.Unload.{Unload}

abbrev pub with_unload : Option Unload → LedgerView → LedgerView
with_unload unload v = record v { unload = unload }

-- the unload that runs, if one does, is changed
abbrev pub with_each : (Unload → Unload) → LedgerView → LedgerView
with_each change v = with_unload (option_map change v.unload) v

-- an unload begins
abbrev pub fresh : Unload
fresh = record { tried = None; confirmed = 0 }

-- ---- the message under way

abbrev pub tried_in : Option Unload → Option Tried
tried_in unload = option_and_then (λ (u : Unload). u.tried) unload

abbrev pub is_numbered : ℕ → Option Tried → Bool
is_numbered number None = false
is_numbered number (Some tried) = tried.number == number

-- the message with this number is under way
abbrev pub tries : ℕ → Option Unload → Bool
tries number unload = is_numbered number (tried_in unload)

-- this message is under way, with its text where it waits for its grant
abbrev pub trying : ℕ → Option (List ℕ) → Unload → Unload
trying number waiting unload = record unload { tried = Some (record { number = number; waiting = waiting }) }

abbrev pub taken_up : ℕ → ℕ → Option (List ℕ) → LedgerView → Booked
taken_up number system waiting v = record {
  next = with_each (trying number waiting) v;
  lines = Try number system ∷ [];
}

-- the text that waits
abbrev pub waiting_in : Option Unload → Option (List ℕ)
waiting_in unload = option_and_then (λ (t : Tried). t.waiting) (tried_in unload)

abbrev pub let_go : Unload → Unload
let_go unload = record unload { tried = option_map (λ (t : Tried). record t { waiting = None }) unload.tried }

-- ---- the reply to it

-- none is under way; and it was confirmed
abbrev pub settled : Unload → Unload
settled unload = record unload { tried = None }

abbrev pub counted : Unload → Unload
counted unload = record { tried = None; confirmed = unload.confirmed + 1 }

-- the message under way is the oldest of the list: it wasn't overwritten or purged
abbrev pub is_oldest_tried : LedgerView → Bool
is_oldest_tried v = nat_lt 0 (length v.sizes) && tries v.first v.unload

-- a reply confirms the message and removes it; where it has left already nothing is removed or counted
abbrev pub confirmed : LedgerView → Booked
confirmed v =
    if is_oldest_tried v then and_then (oldest_out Confirmed None v) (λ w. quiet (with_each counted w))
    else quiet (with_each settled v)

-- ---- the next message

-- no message is left, or as many were confirmed as may be; 0 is no bound (SEMI E30, MaxSpoolTransmit)
abbrev pub is_over : ℕ → LedgerView → Unload → Bool
is_over most v unload = length v.sizes == 0 || (nat_lt 0 most && nat_le most unload.confirmed)

-- the number of the message that is to be taken up next
abbrev pub number_next : ℕ → LedgerView → Option Unload → Option ℕ
number_next most v None = None
number_next most v (Some unload) = if is_none unload.tried && not (is_over most v unload) then Some v.first else None

-- the unload, unless it has come to its end
abbrev pub unload_next : ℕ → LedgerView → Option Unload → Option Unload
unload_next most v None = None
unload_next most v (Some unload) = if is_none unload.tried && is_over most v unload then None else Some unload

abbrev pub next_number : ℕ → LedgerView → Option ℕ
next_number most v = number_next most v v.unload

abbrev pub after_next : ℕ → LedgerView → LedgerView
after_next most v = with_unload (unload_next most v v.unload) v
