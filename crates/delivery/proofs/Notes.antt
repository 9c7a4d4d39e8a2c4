-- Tests of what an end notes, for worked runs.
use Rattle.std.specs.Prelude.{◌≡◌, ◌==◌, ℕ, Bool, true, false, Some, None}
use Rattle.std.proofs.Common.{subst, arith}
use Rattle.std.proofs.lemmas.Bool.Decides.{nat_tests}
use Rattle.gl_base.specs.declared.side.Side.{Side}
use Rattle.gl_base.specs.declared.side.Side.TheVariants.{Equipment, Host}
use Rattle.message_end.specs.Doings.{IsPlain}
use Rattle.message_end.specs.Starts.{IsStartOf}
use Rattle.message_end.specs.Starts.IsStartOf.{of_equipment, of_host, of_journal}
use Rattle.trace_log.specs.Log.{Happening}
use Rattle.trace_log.specs.Log.Happening.{EquipmentStarted, HostStarted, Received, Sent}

-- no law of messages speaks of it
abbrev pub is_plain : Happening → Bool
is_plain (Sent message) = false
is_plain (Received message) = false
is_plain (EquipmentStarted found base) = false
is_plain (HostStarted journal) = false
is_plain _ = true

pub plain-so : (what : Happening) → is_plain what ≡ true → IsPlain what
plain-so (Sent message) is = cc
plain-so (Received message) is = cc
plain-so (EquipmentStarted found base) is = cc
plain-so (HostStarted journal) is = cc
plain-so what is = tt

-- a start, whose note tells its base
abbrev pub starts_so : Side → Happening → ℕ → Bool
starts_so Equipment (EquipmentStarted found first) base = first == base
starts_so Host (HostStarted None) base = true
starts_so Host (HostStarted (Some journal)) base = journal.base == base
starts_so _ note base = false

pub starts-so : (side : Side) (note : Happening) (base : ℕ) → starts_so side note base ≡ true → IsStartOf side note base
starts-so Equipment (EquipmentStarted found first) base is =
    subst (λ (n : ℕ). IsStartOf Equipment (EquipmentStarted found first) n) (grind (arith, nat_tests))
    (of_equipment found first)
starts-so Host (HostStarted None) base is = of_host base
starts-so Host (HostStarted (Some journal)) base is =
    subst (λ (n : ℕ). IsStartOf Host (HostStarted (Some journal)) n) (grind (arith, nat_tests))
    (of_journal journal.found journal.base)
starts-so side note base is = cc
