-- What some calls add to a disk's list of calls (this profile).
use Rattle.std.specs.Prelude.{◌≡◌, ◌⊎◌, List, ◌++◌, Option}
use Rattle.std.specs.List.{All}
use Rattle.std.specs.Option.{option_map}
use Rattle.disk_base.specs.Calls.{DiskCall}
use Rattle.disk_base.specs.declared.disk.CallKind.TheVariants.{Sync, Write}

-- the list is the one before with some more, where it is told, and each of these is such a one
pub record OnlyAdds (Is : DiskCall → Type 0) (before after : Option (List DiskCall)) : Type 0 where
  pub more : List DiskCall
  pub calls : after ≡ option_map (λ all. all ++ more) before
  pub are : All Is more

-- a call that neither attaches nor reads
abbrev pub WritesOrSyncs : DiskCall → Type 0
WritesOrSyncs call = (call.kind ≡ Write) ⊎ (call.kind ≡ Sync)
