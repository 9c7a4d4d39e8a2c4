-- What the answer of a read means that has given nothing (this profile).
use Rattle.std.specs.declared.io.ErrorKind.{ErrorKind}
use Rattle.std.specs.declared.io.ErrorKind.TheVariants.{Interrupted, WouldBlock}
use Rattle.live_link.specs.declared.gathered.Look.{Look}
use Rattle.live_link.specs.declared.gathered.Look.TheVariants.{Nothing, Failed}

-- one that was interrupted, or would wait, is made again
abbrev pub look_of_kind : ErrorKind → Look
look_of_kind Interrupted = Nothing
look_of_kind WouldBlock = Nothing
look_of_kind _ = Failed
