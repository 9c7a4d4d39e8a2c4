-- The calls of a memory object, of which the listed ones fail (this profile).
use Rattle.std.specs.Prelude.{ℕ, ◌==◌, Bool, List, length}
use Rattle.std.specs.List.{list_any}
use Rattle.gl_base.specs.Faults.{one_more}
use Rattle.gl_base.specs.declared.calls.Calls.{Calls}

abbrev pub no_calls : List ℕ → Calls
no_calls fails = record { fails = fails; count = 0; faults = 0 }

-- the count of calls stands at 2^64 - 1
abbrev pub with_call : Calls → Calls
with_call calls = record calls { count = one_more calls.count }

abbrev pub with_fault : Calls → Calls
with_fault calls = record calls { faults = one_more calls.faults }

-- none is to fail
abbrev pub is_safe : Calls → Bool
is_safe calls = length calls.fails == 0

-- the number of the next call, counted from 1, is in the list
abbrev pub fails_next : Calls → Bool
fails_next calls = list_any (λ number. number == one_more calls.count) calls.fails
