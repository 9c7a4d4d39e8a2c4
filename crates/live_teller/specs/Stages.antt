-- How far a tool is told what has come with an answer.
use Rattle.std.specs.Prelude.{◌≡◌, ℕ, Bool, false, List, [], ◌∷◌, ◌++◌, Option}
use Rattle.end_run.specs.Commands.Telling.{Says, Stops, Tells}
use Rattle.live_commands.specs.Coming.{Reading, Standing, asked_left, at_start, behind_left, reads_on}
use Rattle.live_teller.specs.Tellings.{ToolTelling, end_told, host_told, stands_after, tellings_of}
use Rattle.live_teller.specs.declared.beside.Beside as beside
use Rattle.live_teller.specs.declared.teller.At.{At}
use Rattle.live_teller.specs.declared.teller.LiveTeller.{LiveTeller}
use Rattle.live_teller.specs.declared.teller.Now.{Now}
use Rattle.live_teller.specs.declared.teller.Now.TheVariants as now
use Rattle.live_teller.specs.declared.teller.Stage.{Stage}
use Rattle.live_teller.specs.declared.teller.Stage.TheVariants.{Host, Last, Lines, Over}

-- the input has ended, which isn't told yet
abbrev pub ends_still : Stage → (ended : Bool) → Bool
ends_still Host ended = ended
ends_still Lines ended = ended
ends_still Last ended = false
ends_still Over ended = false

-- what is still to be told of it
abbrev pub left_at : Stage → (host : Option (Option (List ℕ))) → (ended : Bool) → Reading → List ℕ → List ToolTelling
left_at Host host ended r bytes =
    host_told host ++ (tellings_of (asked_left r bytes) ++ end_told ended (behind_left r bytes))
left_at Lines host ended r bytes = tellings_of (asked_left r bytes) ++ end_told ended (behind_left r bytes)
left_at Last host ended r bytes = tellings_of (asked_left r bytes) ++ Stops ∷ []
left_at Over host ended r bytes = tellings_of (asked_left r bytes)

-- how the input stands behind it
abbrev pub stands_at : Stage → (ended : Bool) → Reading → List ℕ → Standing
stands_at stage ended r bytes = stands_after (ends_still stage ended) (behind_left r bytes)

-- what it stands at
abbrev pub telling_by : Now → List ℕ → ToolTelling
telling_by (now.Command command) reply = Tells command reply
telling_by now.Text reply = Says reply
telling_by now.Stop reply = Stops

abbrev pub telling_at : At → ToolTelling
telling_at at = telling_by at.now at.reply.items

-- ---- of a teller

-- from this stage on
abbrev pub here_from : {B L : Type 0} → beside.Ghosts B L → Stage → LiveTeller B → List ToolTelling
here_from members stage t =
    left_at stage (members.host t.beside) (members.ended t.beside) t.reader (members.bytes t.beside)

abbrev pub behind_from : {B L : Type 0} → beside.Ghosts B L → Stage → LiveTeller B → Standing
behind_from members stage t = stands_at stage (members.ended t.beside) t.reader (members.bytes t.beside)

abbrev pub here_of : {B L : Type 0} → beside.Ghosts B L → LiveTeller B → List ToolTelling
here_of members t = here_from members t.stage t

abbrev pub behind_of : {B L : Type 0} → beside.Ghosts B L → LiveTeller B → Standing
behind_of members t = behind_from members t.stage t

-- nothing has come yet, and nothing is told
abbrev pub IsFresh : Reading → Stage → Type 0
IsFresh r stage = (r ≡ reads_on at_start) × (stage ≡ Over)
