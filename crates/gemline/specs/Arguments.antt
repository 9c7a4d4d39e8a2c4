-- What a run of the program is, by the arguments that the system gave it (this profile).
use Rattle.std.specs.Prelude.{◌≡◌, ◌⊎◌, ℕ, List, [], drop, map, string_bytes, Result, Ok, Err}
use Rattle.std.specs.Vec.Iter.{into_iter_items}
use Rattle.std.specs.IoError.{error_kind}
use Rattle.std.specs.declared.alloc.Global.{Global}
use Rattle.std.specs.declared.io.Error.{Error}
use Rattle.std.specs.declared.io.ErrorKind.{ErrorKind}
use Rattle.std.specs.declared.io.ErrorKind.TheVariants.{OutOfMemory}
use Rattle.std.specs.declared.string.String.{String}
use Rattle.std.specs.declared.vec.IntoIter.{IntoIter}
use Rattle.gl_base.specs.Told.{FilesTold, SinkTold, SourceTold}
use Rattle.spool_show.specs.Told.{DiskTold}
use Rattle.gemline_app.specs.Gemline.{IsRun, WereSent}
use Rattle.gemline_app.specs.Inputs.{IsUnread}
use Rattle.gemline_app.specs.LinkTold.{IsUncalled, LinkTold}
use Rattle.gemline_app.specs.Outcome.{line_of, status_of}
use Rattle.gemline_app.specs.Spool.{IsUnused}
use Rattle.gemline_app.specs.Written.{AreUnread, IsUntouched}
use Rattle.gemline_app.specs.declared.outcome.Outcome.{Outcome}
use Rattle.gemline_app.specs.declared.outcome.Outcome.TheVariants as outcome

-- the arguments, the program's name in front
abbrev pub Arguments : Type 0
Arguments = IntoIter (String Global) Global

-- the texts of the words behind the program's name, all of them in their order
abbrev pub words_of : Arguments → List (List ℕ)
words_of arguments = map string_bytes (drop 1 (into_iter_items arguments))

-- why there are no arguments: memory ran out, or one of them is no text
abbrev pub refusal_of : ErrorKind → Outcome
refusal_of OutOfMemory = outcome.NoMemory
refusal_of _ = outcome.Usage

-- nothing was read and nothing written, and the outcome gives the status and the line on the sink of errors
pub record IsRefusal (refusal : Outcome) (source : SourceTold) (files : FilesTold) (disk : DiskTold) (link : LinkTold)
    (out err : SinkTold) (status : ℕ) : Type 0 where
  pub status_is : status ≡ status_of refusal
  pub input : IsUnread source
  pub unread : AreUnread files
  pub unused : IsUnused disk
  pub uncalled : IsUncalled link
  pub written : IsUntouched out
  pub line : WereSent (line_of [] refusal) err

-- a run over the words of the arguments, unless memory runs out before it; or, where there are none, a refusal by the
-- cause
abbrev pub RunsOver :
    Result Arguments Error → SourceTold → FilesTold → DiskTold → LinkTold → SinkTold → SinkTold → ℕ → Type 0
RunsOver (Ok arguments) source files disk link out err status =
    IsRun (words_of arguments) source files disk link out err status
    ⊎ IsRefusal outcome.NoMemory source files disk link out err status
RunsOver (Err error) source files disk link out err status =
    IsRefusal (refusal_of (error_kind error)) source files disk link out err status
