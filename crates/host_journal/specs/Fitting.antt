-- Whether a record can be listed in a journal, by its numbers alone (this profile).
use Rattle.std.specs.Prelude.{ℕ, ◌+◌, ◌^◌, nat_lt, Option, Some, None, if◌then◌else◌}
use Rattle.gem_spool.specs.declared.count.Count.{Count}
use Rattle.host_journal.specs.declared.listing.Fit.{Fit}
use Rattle.host_journal.specs.declared.listing.Fit.TheVariants as fit
use Rattle.spool_slots.specs.Spool.{message_size}

-- one that takes so many slots, or is too long for such a file: it takes no more slots than are free, and its numbers
-- lie up to 2^63
abbrev pub fit_by : Count → Option ℕ → Fit
fit_by c None = fit.Full
fit_by c (Some size) =
    if nat_lt c.slots (c.used + size) then fit.Full
    else (if nat_lt (2 ^ 63) (c.next + size) then fit.NumbersSpent
    else fit.Fits)

-- and one of this length, system bytes included
abbrev pub fit_in : Count → ℕ → Fit
fit_in c long = fit_by c (message_size c.version c.slots long)
