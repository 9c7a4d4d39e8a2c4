-- What a wait answers that what comes from elsewhere ends as well, and what the link counts (this profile).
use Rattle.std.specs.Prelude.{◌≡◌, ◌⊎◌, ◌<◌, ◌≤◌, ℕ, Bool, true, false, not, ◌||◌, ◌==◌, List, length, Option, Some, None}
use Rattle.gl_base.specs.Events.{IsMomentFrom}
use Rattle.gl_base.specs.Faults.{Rose}
use Rattle.gl_base.specs.Link.{LinkHealth}
use Rattle.gl_base.specs.declared.link.LinkIn.{LinkIn}
use Rattle.gl_base.specs.declared.link.LinkIn.TheVariants.{Char, Quiet, Closed, Failed}

-- ---- when it answers

-- something came with the answer: bytes, or news
abbrev pub brings : List ℕ → Bool → Bool
brings bytes news = not (length bytes == 0) || news

-- an answer's moment is no earlier than the one before; a quiet one is the moment asked for or later, or at least later
-- than the one before, unless something that came has brought it early
abbrev pub IsTimelyWith : Bool → ℕ → ℕ → LinkIn → Type 0
IsTimelyWith early until before (Char byte moment) = IsMomentFrom before moment
IsTimelyWith early until before (Quiet moment) =
    IsMomentFrom before moment × (early ≡ false → (until ≤ moment) ⊎ (before < moment))
IsTimelyWith early until before Closed = Unit {0}
IsTimelyWith early until before Failed = Unit {0}

-- a character of this moment, or that none has come where that is to be said
abbrev pub IsAnswerAt : Bool → ℕ → Option LinkIn → Type 0
IsAnswerAt ends now None = ends ≡ false
IsAnswerAt ends now (Some (Char byte moment)) = moment ≡ now
IsAnswerAt ends now (Some (Quiet moment)) = (moment ≡ now) × (ends ≡ true)
IsAnswerAt ends now (Some Closed) = ⊥
IsAnswerAt ends now (Some Failed) = ⊥

-- ---- what it counts

-- no call is sure
abbrev pub called_health : ℕ → LinkHealth
called_health faults = record { faults = faults; reliable = false; room = 0 }

-- one fault was counted where a wait failed, and none otherwise
abbrev pub CountsWait : ℕ → ℕ → LinkIn → Type 0
CountsWait before now Failed = Rose before now
CountsWait before now answer = now ≡ before
