-- What `format`, `spool` and `drop` come to (this profile).
use Rattle.std.specs.Prelude.{◌≡◌}
use Rattle.spool_show.specs.Told.{DiskTold}
use Rattle.spool_show.specs.declared.spool_end.SpoolEnd.{SpoolEnd}
use Rattle.spool_show.specs.declared.spool_end.SpoolEnd.TheVariants as spool
use Rattle.gemline_app.specs.declared.outcome.Outcome.{Outcome}
use Rattle.gemline_app.specs.declared.outcome.Outcome.TheVariants.{Done, DiskFailed, NotSpool, WriteFailed}

-- no call was made on the disk
pub record IsUnused (disk : DiskTold) : Type 0 where
  pub told : disk.after ≡ disk.before
  pub faults : disk.health_after.faults ≡ disk.health.faults
  pub file : disk.file_after ≡ disk.file

-- what the end of a word about a spool file is an outcome of
abbrev pub outcome_of_spool : SpoolEnd → Outcome
outcome_of_spool spool.Done = Done
outcome_of_spool (spool.NotSpool place) = NotSpool place.at
outcome_of_spool spool.DiskFailed = DiskFailed
outcome_of_spool spool.WriteFailed = WriteFailed

-- the outcome is that of an end with such a property
pub record EndedAs (Ends : SpoolEnd → Type 0) (outcome : Outcome) : Type 0 where
  pub ended : SpoolEnd
  pub outcome_is : outcome ≡ outcome_of_spool ended
  pub ends : Ends ended
