-- What an error of `clap` tells.
use Rattle.std.specs.Prelude.{◌≡◌, ◌≢◌}
use Rattle.clap.specs.declared.error.kind.ErrorKind.{ErrorKind}
use Rattle.clap.specs.declared.error.kind.ErrorKind.TheVariants.{OutOfMemory}
use Rattle.command_words.specs.declared.command.WordsFault.{WordsFault}
use Rattle.command_words.specs.declared.command.WordsFault.TheVariants.{Usage, NoMemory}

-- want of memory is told by its kind, and usage by every other
abbrev pub IsToldBy : ErrorKind → WordsFault → Type 0
IsToldBy kind Usage = kind ≢ OutOfMemory
IsToldBy kind NoMemory = kind ≡ OutOfMemory
