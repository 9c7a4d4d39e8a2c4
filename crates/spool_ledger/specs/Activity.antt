-- When the spool is active (SEMI E30, spooling).
use Rattle.std.specs.Prelude.{ℕ, Bool, true, false, not, ◌==◌, ◌&&◌, length, is_none, is_some, [], ◌∷◌, if◌then◌else◌}
use Rattle.trace_log.specs.Log.Happening.{Spool}
use Rattle.spool_ledger.specs.Ledger.{Booked, LedgerView, quiet}

abbrev pub changed : Bool → LedgerView → Booked
changed active v = record { next = record v { is_active = active }; lines = Spool active ∷ [] }

-- it becomes active where it isn't, if it may (SEMI E30, EnableSpool)
abbrev pub activated : Bool → LedgerView → Booked
activated enabled v = if enabled && not v.is_active then changed true v else quiet v

-- there is nothing left to be active for
abbrev pub is_done : LedgerView → Bool
is_done v = length v.sizes == 0 && is_none v.unload

-- it becomes inactive where the host is there and nothing is left (this profile)
abbrev pub rested : Bool → LedgerView → Booked
rested communicating v = if communicating && v.is_active && is_done v then changed false v else quiet v

-- what a request for the spool is answered: there is none, an unload runs already, or it is carried out (SEMI E5, RSDA)
abbrev pub rsda_of : LedgerView → ℕ
rsda_of v = if not v.is_active then 2 else (if is_some v.unload then 1 else 0)
