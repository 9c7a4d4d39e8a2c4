-- Messages that leave in the step of their cause, and behind it, in examples that can be followed by hand. The newest
-- comes first.
use Rattle.std.specs.Prelude.{◌≡◌, ℕ, false, true, List, [], ◌∷◌, None}
use Rattle.message_flow.specs.declared.message.Message.{Message}
use Rattle.spool_law.specs.Shelf.{Policy}
use Rattle.trace_log.specs.declared.names.Cause.TheVariants as cause
use Rattle.trace_log.specs.Log.{Happening}
use Rattle.trace_log.specs.Names.{Spooled}
use Rattle.tool_spool.specs.LeavesInStep.{LeaveInTheirSteps}

-- an S6F11 of the spool, and a secondary with the system bytes of its try
abbrev pub report : List ℕ → Spooled
report body = record { stream = 6; function = 11; body = body }

abbrev pub secondary : ℕ → Message
secondary function = record { stream = 6; function = function; wait = false; system = 5; body = [] }

-- it is tried in one step; in the next one a message is received
abbrev pub received : List ℕ → Message → List Happening
received body message =
    Happening.Received message ∷ Happening.StepEnded ∷ Happening.Try 0 5
    ∷ Happening.EquipmentStarted ((0, report body) ∷ []) 0 ∷ []

-- it leaves in that step; and in the one behind
abbrev pub leaves : List Happening → List Happening
leaves notes = Happening.Leaving 0 cause.Confirmed None ∷ notes

abbrev pub leaves_late : List Happening → List Happening
leaves_late notes = Happening.Leaving 0 cause.Confirmed None ∷ Happening.StepEnded ∷ notes

-- a request to empty the spool, in its step and behind it
abbrev pub purged : List Happening → List Happening
purged notes = Happening.Leaving 0 cause.Purged None ∷ notes

abbrev pub purged_late : List Happening → List Happening
purged_late notes = Happening.Leaving 0 cause.Purged None ∷ Happening.StepEnded ∷ notes

pub record StepsOfCauses : Type 0 where
  pub confirmed : (policy : Policy) (body : List ℕ) → LeaveInTheirSteps policy (leaves (received body (secondary 12)))
  -- an abort, function 0, confirms nothing; and a reply confirms nothing in a later step
  pub aborted :
      (policy : Policy) (body : List ℕ) → LeaveInTheirSteps policy (leaves (received body (secondary 0))) → ⊥
  -- nor does a secondary with the W bit, which is no reply
  pub asking :
      (policy : Policy) (body : List ℕ)
      → LeaveInTheirSteps policy (leaves (received body (record (secondary 12) { wait = true }))) → ⊥
  -- nor does the reply to the last try confirm another message
  pub other :
      (policy : Policy) (body : List ℕ)
      → LeaveInTheirSteps policy (Happening.Leaving 1 cause.Confirmed None ∷ received body (secondary 12)) → ⊥
  pub late :
      (policy : Policy) (body : List ℕ) → LeaveInTheirSteps policy (leaves_late (received body (secondary 12))) → ⊥
  pub emptied :
      (policy : Policy) (body : List ℕ) (request : Message) → policy.purges request ≡ true
      → LeaveInTheirSteps policy (purged (received body request))
  pub emptied_late :
      (policy : Policy) (body : List ℕ) (request : Message)
      → LeaveInTheirSteps policy (purged_late (received body request)) → ⊥
