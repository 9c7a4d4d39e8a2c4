-- A link in memory: the calls whose numbers it was given fail, and those whose entries have no room; no others do (this
-- profile).
use Rattle.std.specs.Prelude.{ℕ, ◌+◌, ◌-◌, Bool, ◌||◌, nat_lt, unwrap_or, if◌then◌else◌}
use Rattle.std.specs.Prelude.{List, [], ◌∷◌, ◌++◌, length, drop}
use Rattle.std.specs.List.{slice_get}
use Rattle.gl_base.specs.Calls.{fails_next, is_safe, no_calls, with_call, with_fault}
use Rattle.gl_base.specs.declared.calls.Calls.{Calls}
use Rattle.gl_base.specs.Connections.{Connected, connected_as, not_connected}
use Rattle.gl_base.specs.Events.{moment_after}
use Rattle.gl_base.specs.Link.{LinkContents, LinkHealth, entries_of}
use Rattle.gl_base.specs.declared.link.LinkIn.{LinkIn}
use Rattle.gl_base.specs.declared.link.LinkIn.TheVariants.{Closed, Failed}
use Rattle.gl_base.specs.declared.link.LinkAnswer.{LinkAnswer}
use Rattle.gl_base.specs.declared.link.LinkAnswer.TheVariants as link
use Rattle.gl_base.specs.declared.link.LinkEntry.{LinkEntry}
use Rattle.gl_base.specs.declared.link.LinkEntry.TheVariants.{Polled}
use Rattle.gl_base.specs.declared.side.Side.{Side}

-- the events still to come, the list so far with its room, the moment of the last answer, the calls so far, and the
-- connections among them
pub record LinkState : Type 0 where
  pub left : List LinkIn
  pub entries : List LinkEntry
  pub room : ℕ
  pub moment : ℕ
  pub calls : Calls
  pub connected : Connected

abbrev pub link_start : List LinkIn → ℕ → List ℕ → LinkState
link_start events room fails = record {
  left = events;
  entries = [];
  room = room;
  moment = 0;
  calls = no_calls fails;
  connected = not_connected;
}

abbrev pub link_contents : LinkState → LinkContents
link_contents s = record { entries = s.entries; left = s.left }

abbrev pub link_health : LinkState → LinkHealth
link_health s = record { faults = s.calls.faults; reliable = is_safe s.calls; room = s.room - length s.entries }

-- the event that comes next, and Closed where all are used up
abbrev pub next_event : List LinkIn → LinkIn
next_event left = unwrap_or (slice_get left 0) Closed

-- a call that adds n entries is one of those that fail, or has no room for them
abbrev pub is_refused : ℕ → LinkState → Bool
is_refused n s = fails_next s.calls || nat_lt s.room (length s.entries + n)

abbrev pub after_failure : LinkState → LinkState
after_failure s = record s { calls = with_fault (with_call s.calls) }

-- what a connecting answers: it needs no room
abbrev pub answer_to_connect : LinkState → LinkAnswer
answer_to_connect s = if fails_next s.calls then link.Failed else link.Done

-- and the link after it, whose clock begins anew
abbrev pub after_connect : Side → List ℕ → LinkState → LinkState
after_connect side address s =
    if fails_next s.calls then
    record (after_failure s) { moment = 0; connected = connected_as side address s.connected }
    else record s { moment = 0; calls = with_call s.calls; connected = connected_as side address s.connected }

-- what a poll answers, whatever moment it asks for
abbrev pub answer_to_poll : LinkState → LinkIn
answer_to_poll s = if is_refused 1 s then Failed else next_event s.left

-- the link after it has taken an event
abbrev pub after_event : ℕ → LinkIn → LinkState → LinkState
after_event until answer s = record s {
  left = drop 1 s.left;
  entries = s.entries ++ Polled until answer ∷ [];
  moment = moment_after s.moment answer;
  calls = with_call s.calls;
}

-- and the link after a poll
abbrev pub after_poll : ℕ → LinkState → LinkState
after_poll until s = if is_refused 1 s then after_failure s else after_event until (next_event s.left) s

-- what a sending answers: it adds all characters or none
abbrev pub answer_to_send : List ℕ → LinkState → LinkAnswer
answer_to_send bytes s = if is_refused (length bytes) s then link.Failed else link.Done

-- and the link after it
abbrev pub after_send : List ℕ → LinkState → LinkState
after_send bytes s =
    if is_refused (length bytes) s then after_failure s
    else record s { entries = s.entries ++ entries_of bytes; calls = with_call s.calls }
