-- What an end has noted in the step that it makes. Notes have the newest first.
use Rattle.std.specs.Prelude.{List, [], ◌∷◌}
use Rattle.message_flow.specs.declared.message.Message.{Message}
use Rattle.trace_log.specs.Log.{Happening}
use Rattle.trace_log.specs.Log.Happening.{EquipmentStarted, HostStarted, Received, StepEnded}

-- since its last step has come to its end, or since its start; what the world notes of that step, its characters,
-- stands among these
abbrev pub noted_in_step : List Happening → List Happening
noted_in_step [] = []
noted_in_step (StepEnded ∷ before) = []
noted_in_step (EquipmentStarted found base ∷ before) = []
noted_in_step (HostStarted journal ∷ before) = []
noted_in_step (what ∷ before) = what ∷ noted_in_step before

-- the messages received among these
abbrev pub received_among : List Happening → List Message
received_among [] = []
received_among (Received message ∷ before) = message ∷ received_among before
received_among (_ ∷ before) = received_among before

abbrev pub received_in_step : List Happening → List Message
received_in_step notes = received_among (noted_in_step notes)
