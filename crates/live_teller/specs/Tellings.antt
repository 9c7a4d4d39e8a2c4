-- What a tool is told of what comes beside its link, and what it replies (this profile).
use Rattle.std.specs.Prelude.{ℕ, Bool, true, false, List, [], ◌∷◌, ◌++◌, codes, decimal, map, Option, Some, None}
use Rattle.trace_log.specs.declared.commands.ToolCommand.{ToolCommand}
use Rattle.end_run.specs.Commands.{Telling, is_any}
use Rattle.end_run.specs.Commands.Telling.{Says, Stops, Tells}
use Rattle.live_commands.specs.Coming.{Standing, GoesThrough, Reading, asked_at_end, asked_with, behind, closed}
use Rattle.live_commands.specs.Commands.{Numbered}
use Rattle.live_commands.specs.declared.asks.Asks.TheVariants.{Command, Nothing, Stop}
use Rattle.live_teller.specs.Came.{BringsCame, Came}

abbrev pub ToolTelling : Type 0
ToolTelling = Telling ToolCommand

-- ---- lines that aren't of the trace

abbrev pub ok_line : ℕ → List ℕ
ok_line number = codes "ok " ++ decimal number ++ codes "\n"

abbrev pub bad_line : ℕ → ℕ → List ℕ
bad_line number at = codes "bad " ++ decimal number ++ codes " at " ++ decimal at ++ codes "\n"

-- from where the host has called that is at the line, or that none is
abbrev pub host_line : Option (List ℕ) → List ℕ
host_line (Some address) = codes "# host " ++ address ++ codes "\n"
host_line None = codes "# no host\n"

-- ---- what is told

-- a command is replied to behind its lines; of a line that asks for nothing its place is told; `stop` has no reply
abbrev pub telling_of : Numbered → ToolTelling
telling_of (number, Command command) = Tells command (ok_line number)
telling_of (number, Stop) = Stops
telling_of (number, Nothing at) = Says (bad_line number at)

abbrev pub tellings_of : List Numbered → List ToolTelling
tellings_of = map telling_of

abbrev pub host_told : Option (Option (List ℕ)) → List ToolTelling
host_told None = []
host_told (Some host) = Says (host_line host) ∷ []

-- at the end of the input the last line counts without its LF, and the tool stops
abbrev pub end_told : (ended : Bool) → Standing → List ToolTelling
end_told false s = []
end_told true s = tellings_of (asked_at_end s) ++ Stops ∷ []

-- ---- with each answer

-- behind a standing of the input: who is at the line is told first
abbrev pub told_with : Standing → Came → List ToolTelling
told_with s came =
    host_told came.host
    ++ (tellings_of (asked_with s came.bytes) ++ end_told came.ended (behind s came.bytes))

abbrev pub stands_after : (ended : Bool) → Standing → Standing
stands_after false s = s
stands_after true s = closed s

abbrev pub stands_behind : Standing → Came → Standing
stands_behind s came = stands_after came.ended (behind s came.bytes)

abbrev pub told_by : Standing → List Came → List (List ToolTelling)
told_by s [] = []
told_by s (came ∷ coming) = told_with s came ∷ told_by (stands_behind s came) coming

-- ---- as it comes

-- the first of what was to come has come: these bytes, through which a reader goes that stood here; and an answer may
-- come that is early where any of it is told
pub record HasCome (before after : Option (List Came)) (here : Standing) (r : Reading) (host : Option (Option (List ℕ)))
    (ended : Bool) (bytes : List ℕ) (MayAnswer : Bool → Type 0) : Type 0 where
  pub fed : List ℕ
  pub brings : BringsCame before (record { host = host; bytes = fed; ended = ended }) after
  pub reads : GoesThrough here fed r bytes
  pub may : MayAnswer (is_any (told_with here (record { host = host; bytes = fed; ended = ended })))
