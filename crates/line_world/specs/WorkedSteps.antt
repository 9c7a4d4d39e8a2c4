-- Logs of a reply that goes behind the step of its primary: no plans make one of these safe.
use Rattle.std.specs.Prelude.{◌≡◌, false, List, [], ◌∷◌, None}
use Rattle.equipment_tables.specs.declared.plan.Plans.{Plans}
use Rattle.gl_base.specs.declared.side.Side.TheVariants.{Equipment, Host}
use Rattle.message_flow.specs.declared.message.Message.{Message}
use Rattle.message_flow.specs.Message.{is_primary}
use Rattle.trace_log.specs.Log.{Entry, Happening}
use Rattle.trace_log.specs.Log.Entry.{Noted}
use Rattle.line_world.specs.Safe.{IsSafe}

-- the host's primary comes
abbrev pub asked_at_once : Message → List Entry
asked_at_once asked =
    Noted 0 Equipment (Happening.Received asked) ∷ Noted 0 Host Happening.StepEnded
    ∷ Noted 0 Host (Happening.Sent asked) ∷ Noted 0 Host (Happening.HostStarted None)
    ∷ Noted 0 Equipment (Happening.EquipmentStarted [] 0) ∷ []

-- it is replied to 10 ms later, with no end of a step between
abbrev pub unended : Message → Message → List Entry
unended asked reply = Noted 10 Equipment (Happening.Sent reply) ∷ asked_at_once asked

-- and with one
abbrev pub ended : Message → Message → List Entry
ended asked reply =
    Noted 10 Equipment (Happening.Sent reply) ∷ Noted 0 Equipment Happening.StepEnded ∷ asked_at_once asked

pub record LateReplies : Type 0 where
  pub without_end : (plans : Plans) (asked reply : Message) → IsSafe plans (unended asked reply) → ⊥
  pub behind_end :
      (plans : Plans) (asked reply : Message) → is_primary reply ≡ false → IsSafe plans (ended asked reply) → ⊥
