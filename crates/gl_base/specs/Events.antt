-- What the events of a link in memory may be (this profile).
use Rattle.std.specs.Prelude.{ℕ, ◌<◌, ◌≤◌, ◌-◌, ◌^◌, List, [], ◌∷◌}
use Rattle.gl_base.specs.declared.link.LinkIn.{LinkIn}
use Rattle.gl_base.specs.declared.link.LinkIn.TheVariants.{Char, Quiet, Closed, Failed}

-- the moment of an answer, and the one before where it has none
abbrev pub moment_after : ℕ → LinkIn → ℕ
moment_after before (Char byte moment) = moment
moment_after before (Quiet moment) = moment
moment_after before Closed = before
moment_after before Failed = before

-- a moment no earlier than the one before, and below 2^62
abbrev pub IsMomentFrom : ℕ → ℕ → Type 0
IsMomentFrom before moment = (before ≤ moment) × (moment < 2 ^ 62)

-- a character or a quiet time, which is later than the moment before unless it is the last moment of all
abbrev pub IsEventFrom : ℕ → LinkIn → Type 0
IsEventFrom before (Char byte moment) = IsMomentFrom before moment
IsEventFrom before (Quiet moment) = IsMomentFrom before moment × (moment < 2 ^ 62 - 1 → before < moment)
IsEventFrom before Closed = ⊥
IsEventFrom before Failed = ⊥

-- each event may come behind the one before it, the first one behind this moment
abbrev pub AreEventsFrom : ℕ → List LinkIn → Type 0
AreEventsFrom before [] = Unit {0}
AreEventsFrom before (event ∷ events) = IsEventFrom before event × AreEventsFrom (moment_after before event) events

-- the events from the connection on
abbrev pub AreLinkEvents : List LinkIn → Type 0
AreLinkEvents events = AreEventsFrom 0 events
