-- The news of who is at a line, and how long a wait for it goes on (this profile).
use Rattle.std.specs.Prelude.{ℕ, Bool, true, false, not, nat_lt, ◌==◌, ◌&&◌, List, Option, Some, None}
use Rattle.std.specs.Option.{option_map}
use Rattle.gl_base.specs.declared.link.LinkIn.{LinkIn}
use Rattle.gl_base.specs.declared.link.LinkIn.TheVariants.{Char, Quiet, Closed, Failed}

-- from this address, if from any
abbrev pub host_of : {A : Type 0} → (news : Bool) → Option A → List ℕ → Option (Option (List ℕ))
host_of false caller address = None
host_of true caller address = Some (option_map (λ _. address) caller)

-- a wait goes on behind a quiet answer that brings nothing, of the moment before
abbrev pub waits_on : (before until : ℕ) → (any : Bool) → LinkIn → Bool
waits_on before until any (Char byte moment) = false
waits_on before until any (Quiet moment) = nat_lt moment until && (moment == before && not any)
waits_on before until any Closed = false
waits_on before until any Failed = false
