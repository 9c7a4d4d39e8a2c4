-- What is said of a spool whose file held a message before the equipment's first start, in examples that can be
-- followed by hand. The newest comes first.
use Rattle.std.specs.Prelude.{◌≡◌, ℕ, true, List, [], ◌∷◌, None}
use Rattle.message_flow.specs.declared.message.Message.{Message}
use Rattle.spool_law.specs.Shelf.{KeepsSpool, KeepsSpoolFrom, Policy}
use Rattle.trace_log.specs.declared.names.Cause.TheVariants as cause
use Rattle.trace_log.specs.Log.{Happening}
use Rattle.trace_log.specs.Names.{Spooled}

abbrev pub held : Spooled → List (ℕ × Spooled)
held message = (7, message) ∷ []

-- it is found, and all leave as the host asks for that
abbrev pub found_and_purged : Spooled → Message → List Happening
found_and_purged message request =
    Happening.Gone 7 ∷ Happening.Leaving 7 cause.Purged None ∷ Happening.Received request
    ∷ Happening.EquipmentStarted (held message) 0 ∷ []

-- nothing is found; and its number is given again
abbrev pub found_empty : List Happening
found_empty = Happening.EquipmentStarted [] 0 ∷ []

abbrev pub numbered_again : Spooled → List Happening
numbered_again message =
    Happening.Storing 7 message ∷ Happening.EquipmentStarted (held message) 0 ∷ []

-- over its file the first keeps the law, which it wouldn't over an empty one; the others don't
pub record KeepsWhatIsHeld : Type 0 where
  pub purged :
      (policy : Policy) (message : Spooled) (request : Message) → policy.purges request ≡ true
      → KeepsSpoolFrom policy (held message) (found_and_purged message request)
  pub not_empty :
      (policy : Policy) (message : Spooled) (request : Message)
      → KeepsSpool policy (found_and_purged message request) → ⊥
  pub forgotten :
      (policy : Policy) (message : Spooled) → KeepsSpoolFrom policy (held message) found_empty → ⊥
  pub again :
      (policy : Policy) (message : Spooled)
      → KeepsSpoolFrom policy (held message) (numbered_again message) → ⊥
