-- News of who is at the line, as code tells it.
use Rattle.std.specs.Prelude.{◌≡◌, ◌≤◌, ℕ, List, length, Option, Some, None}
use Rattle.live_teller.specs.declared.beside.Caller.{Caller}
use Rattle.live_teller.specs.declared.beside.Caller.TheVariants.{Host, Nobody}

abbrev pub address_of : Caller → Option (List ℕ)
address_of (Host address) = Some address.now
address_of Nobody = None

-- an address has 64 bytes at most
abbrev pub IsShort : Option (List ℕ) → Type 0
IsShort None = Unit {0}
IsShort (Some address) = length address ≤ 64

abbrev pub CallerIs : Option (Option (List ℕ)) → Option Caller → Type 0
CallerIs host None = host ≡ None
CallerIs host (Some caller) = (host ≡ Some (address_of caller)) × IsShort (address_of caller)
