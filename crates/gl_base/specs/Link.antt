-- What a link's calls answer, tell and count (this profile).
use Rattle.std.specs.Prelude.{◌≡◌, ◌⊎◌, ℕ, ◌+◌, ◌<◌, ◌≤◌, Bool, true, Option, Some, None}
use Rattle.std.specs.Prelude.{List, [], ◌∷◌, ◌++◌, length, map, take, drop}
use Rattle.std.specs.Option.{option_map}
use Rattle.gl_base.specs.Events.{IsMomentFrom}
use Rattle.gl_base.specs.Faults.{Rose}
use Rattle.gl_base.specs.declared.link.LinkIn.{LinkIn}
use Rattle.gl_base.specs.declared.link.LinkIn.TheVariants.{Char, Quiet, Closed, Failed}
use Rattle.gl_base.specs.declared.link.LinkAnswer.{LinkAnswer}
use Rattle.gl_base.specs.declared.link.LinkAnswer.TheVariants as link
use Rattle.gl_base.specs.declared.link.LinkEntry.{LinkEntry}
use Rattle.gl_base.specs.declared.link.LinkEntry.TheVariants.{Polled, Sent}

-- the polls and the sent characters so far, in their order, and the answers still to come
pub record LinkContents : Type 0 where
  pub entries : List LinkEntry
  pub left : List LinkIn

-- an answer's moment is no earlier than the one before; a quiet one is the moment asked for or later, or at least later
-- than the one before
abbrev pub IsTimely : ℕ → ℕ → LinkIn → Type 0
IsTimely until before (Char byte moment) = IsMomentFrom before moment
IsTimely until before (Quiet moment) = IsMomentFrom before moment × ((until ≤ moment) ⊎ (before < moment))
IsTimely until before Closed = Unit {0}
IsTimely until before Failed = Unit {0}

-- an answer is the first of those to come; Closed is the answer where none is left
abbrev pub IsFirstOf : List LinkIn → LinkIn → Type 0
IsFirstOf left (Char byte moment) = left ≡ Char byte moment ∷ drop 1 left
IsFirstOf left (Quiet moment) = left ≡ Quiet moment ∷ drop 1 left
IsFirstOf left Closed = left ≡ []
IsFirstOf left Failed = Unit {0}

-- the same where the answers to come are told
abbrev pub IsToldAnswer : Option LinkContents → LinkIn → Type 0
IsToldAnswer None answer = Unit {0}
IsToldAnswer (Some contents) answer = IsFirstOf contents.left answer

abbrev pub contents_after_poll : ℕ → LinkIn → LinkContents → LinkContents
contents_after_poll until answer contents =
    record { entries = contents.entries ++ Polled until answer ∷ []; left = drop 1 contents.left }

-- what is told after a poll: the answer was taken and noted with the moment asked, unless the poll failed
abbrev pub told_after_poll : ℕ → LinkIn → Option LinkContents → Option LinkContents
told_after_poll until Failed before = before
told_after_poll until answer before = option_map (contents_after_poll until answer) before

-- the entries of sent characters
abbrev pub entries_of : List ℕ → List LinkEntry
entries_of bytes = map Sent bytes

abbrev pub contents_after_send : List ℕ → LinkContents → LinkContents
contents_after_send bytes contents = record contents { entries = contents.entries ++ entries_of bytes }

-- what is told after these characters were sent
abbrev pub told_after_send : List ℕ → Option LinkContents → Option LinkContents
told_after_send bytes before = option_map (contents_after_send bytes) before

-- all characters were sent, or only some from the front
abbrev pub Transmits : Option LinkContents → List ℕ → Option LinkContents → LinkAnswer → Type 0
Transmits before bytes after link.Done = after ≡ told_after_send bytes before
Transmits before bytes after link.Failed =
    (n : ℕ) × (n < length bytes) × (after ≡ told_after_send (take n bytes) before)

-- how many faults were counted, whether no call can fail but for want of room, and for how many more entries there is
-- room for sure
pub record LinkHealth : Type 0 where
  pub faults : ℕ
  pub reliable : Bool
  pub room : ℕ

-- one fault was counted, at a link that may fail or has no sure room for n entries; and a link on which one can rely
-- stays so
pub record LinkFault (before now : LinkHealth) (n : ℕ) : Type 0 where
  pub rose : Rose before.faults now.faults
  pub lacking : before.reliable ≡ true → before.room < n
  pub relied : before.reliable ≡ true → now.reliable ≡ true

-- the count of faults stands, a link on which one can rely stays so, and n entries use up no more than their room
pub record IsCarriedOn (before now : LinkHealth) (n : ℕ) : Type 0 where
  pub same : now.faults ≡ before.faults
  pub relied : before.reliable ≡ true → now.reliable ≡ true
  pub used : before.room ≤ now.room + n

-- a fault is counted where a call that adds n entries fails, and nowhere else
abbrev pub HasLinkCause : LinkHealth → LinkHealth → ℕ → LinkAnswer → Type 0
HasLinkCause before now n link.Done = IsCarriedOn before now n
HasLinkCause before now n link.Failed = LinkFault before now n

-- and where a poll fails, which adds one entry
abbrev pub HasPollCause : LinkHealth → LinkHealth → LinkIn → Type 0
HasPollCause before now Failed = LinkFault before now 1
HasPollCause before now answer = IsCarriedOn before now 1
