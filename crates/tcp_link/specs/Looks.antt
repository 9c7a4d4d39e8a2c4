-- What the answer of a read means to a link over TCP (this profile).
use Rattle.std.specs.Prelude.{ℕ, ◌==◌, if◌then◌else◌, Result, Ok, Err}
use Rattle.std.specs.IoError.{error_kind}
use Rattle.std.specs.declared.io.Error.{Error}
use Rattle.std.specs.declared.io.ErrorKind.{ErrorKind}
use Rattle.std.specs.declared.io.ErrorKind.TheVariants.{ConnectionReset, Interrupted, WouldBlock}
use Rattle.tcp_link.specs.declared.connection.Look.{Look}
use Rattle.tcp_link.specs.declared.connection.Look.TheVariants.{Again, Nothing, Ended, Failed}

-- a call that was interrupted is made again; the time limit passed; a connection that was reset has ended
abbrev pub look_of_kind : ErrorKind → Look
look_of_kind Interrupted = Again
look_of_kind WouldBlock = Nothing
look_of_kind ConnectionReset = Ended
look_of_kind _ = Failed

-- no character at all is the end of the connection
abbrev pub look_of : Result ℕ Error → Look
look_of (Ok count) = if count == 0 then Ended else Again
look_of (Err error) = look_of_kind (error_kind error)
