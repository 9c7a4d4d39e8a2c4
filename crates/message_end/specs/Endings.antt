-- How all open messages of an end fail together.
use Rattle.std.specs.Prelude.{◌≡◌, Bool, ◌%◌, ◌==◌, ◌&&◌, true, false, List, [], ◌∷◌, flat_map, Option, Some, None}
use Rattle.std.specs.List.{list_any}
use Rattle.block_codec.specs.declared.header.Header.{Header}
use Rattle.message_flow.specs.declared.step.StepOut.{StepOut}
use Rattle.message_flow.specs.declared.waiting.Waiting.{Waiting}
use Rattle.trace_log.specs.Log.{Happening}
use Rattle.trace_log.specs.Names.{header_title, title_of}
use Rattle.transact.specs.declared.begun.Begun.{Begun}
use Rattle.transact.specs.Transactions.{has_system, primary_of, system_of}
use Rattle.message_end.specs.Core.{Command, EndView}
use Rattle.message_end.specs.Core.Command.{DropFront, End, Note, Recall, Remove}
use Rattle.message_end.specs.Duties.{Duty}
use Rattle.message_end.specs.Parts.{AreCarried}

-- the message of the block with this header has failed
abbrev pub notes_failed : {K : Type 0} → Header → List (Command K)
notes_failed header = Note (Happening.Failed (header_title header)) ∷ []

-- a transaction ends, and its primary waits no longer. What more its end brings, its note too, is the end's own affair
abbrev pub ends_one : {K : Type 0} → (Begun K → List (Command K)) → Begun K → List (Command K)
ends_one brings begun = End (system_of begun) ∷ Remove true (system_of begun) ∷ brings begun

abbrev pub ends_begun : {K : Type 0} → (Begun K → List (Command K)) → Duty K
ends_begun brings e = flat_map (ends_one brings) e.transactions.begun

-- a block with this header is of a primary whose transaction is open
abbrev pub is_of_open : {K : Type 0} → EndView K → Header → Bool
is_of_open e header =
    header.function % 2 == 1 && list_any (has_system header.system) e.transactions.begun

-- the message of which this block failed waits no longer, and ends
abbrev pub ends_failed : {K : Type 0} → Bool → Header → Duty K
ends_failed true header e = []
ends_failed false header e = Recall header ∷ notes_failed header

-- a message that waits in front of the others ends
abbrev pub ends_front : {K : Type 0} → Waiting → List (Command K)
ends_front waiting = DropFront ∷ Note (Happening.Failed (title_of waiting.message)) ∷ []

abbrev pub ends_waiting : {K : Type 0} → Duty K
ends_waiting e = flat_map ends_front e.outgoing.waiting

-- all open messages end: those with a transaction first, in the order in which these began; then the one whose block
-- failed, unless it has ended with its transaction; then those that wait still, in their order (this profile)
abbrev pub ends_open : {K : Type 0} → (Begun K → List (Command K)) → EndView K → Option Header → List (Duty K)
ends_open brings e None = ends_begun brings ∷ ends_waiting ∷ []
ends_open brings e (Some header) =
    ends_begun brings ∷ ends_failed (is_of_open e header) header ∷ ends_waiting ∷ []

-- ---- what the code says of the first one

-- the transaction that began first, of this primary, has ended, and what its end brings is still to be done
pub record IsFirstEnded {K : Type 0} (primary : Header × K) (old new : EndView K) : Type 0 where
  pub first : Begun K
  pub rest : List (Begun K)
  pub begun : old.transactions.begun ≡ first ∷ rest
  pub left : new.transactions.begun ≡ rest
  pub primary_is : primary_of first ≡ primary
  pub ended : (out : StepOut) → AreCarried (ends_one (λ begun. []) first) old out new out

-- none is open, and all is as it was
pub record IsNoneOpen {K : Type 0} (old new : EndView K) : Type 0 where
  pub none : old.transactions.begun ≡ []
  pub same : new ≡ old

-- that of this primary has ended, or there is none
abbrev pub EndsFirst : {K : Type 0} → Option (Header × K) → EndView K → EndView K → Type 0
EndsFirst (Some primary) old new = IsFirstEnded primary old new
EndsFirst None old new = IsNoneOpen old new
