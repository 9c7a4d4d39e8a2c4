-- What a link over TCP answers and counts (this profile).
use Rattle.std.specs.Prelude.{◌≡◌, ℕ, false, List, Option, Some, None, Result, Ok, Err}
use Rattle.std.specs.Io.KnownBytes.{Appends, prepend_known}
use Rattle.gl_base.specs.Faults.{Rose}
use Rattle.gl_base.specs.Link.{LinkHealth}
use Rattle.gl_base.specs.declared.link.LinkAnswer.{LinkAnswer}
use Rattle.gl_base.specs.declared.link.LinkAnswer.TheVariants as link
use Rattle.gl_base.specs.declared.link.LinkIn.{LinkIn}
use Rattle.gl_base.specs.declared.link.LinkIn.TheVariants.{Failed}
use Rattle.tcp_link.specs.Arrived.{HandsOut}
use Rattle.tcp_link.specs.declared.connection.Connection.{Connection}

-- no call is sure
abbrev pub tcp_health : ℕ → LinkHealth
tcp_health faults = record { faults = faults; reliable = false; room = 0 }

-- one fault was counted where a call failed, and none otherwise
abbrev pub Counts : ℕ → ℕ → LinkAnswer → Type 0
Counts before now link.Done = now ≡ before
Counts before now link.Failed = Rose before now

-- and where a poll failed
abbrev pub CountsPoll : ℕ → ℕ → LinkIn → Type 0
CountsPoll before now Failed = Rose before now
CountsPoll before now answer = now ≡ before

-- the link's answer to the system's
abbrev pub answer_of : {T E : Type 0} → Result T E → LinkAnswer
answer_of (Ok done) = link.Done
answer_of (Err error) = link.Failed

-- a poll hands out what comes over the connection; without one it fails
abbrev pub Polls : {S : Type 0} → (S → Option (List ℕ)) → Option (Connection S) → Option (Connection S) → LinkIn
    → Type 0
Polls unread (Some old) (Some new) answer =
    HandsOut (prepend_known old.arrived (unread old.stream)) (prepend_known new.arrived (unread new.stream)) answer
Polls unread None None answer = answer ≡ Failed
Polls unread old new answer = ⊥

-- there is a connection, and its stream took these characters
abbrev pub Sends : {S : Type 0} → (S → Option (List ℕ)) → Option (Connection S) → Option (Connection S) → List ℕ
    → Type 0
Sends written (Some old) (Some new) bytes = Appends (written old.stream) (written new.stream) bytes
Sends written old new bytes = ⊥
