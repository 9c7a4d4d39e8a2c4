-- A state after one input more.
use Rattle.std.proofs.Common.{◌≡◌, List, [], ◌∷◌, ◌++◌}
use Rattle.std.proofs.lemmas.List.Sums.{fold-append}
use Rattle.gem_states.specs.declared.control.ControlIn.{ControlIn}
use Rattle.gem_states.specs.declared.control.ControlState.{ControlState}
use Rattle.gem_states.specs.Comms.{CommsEntry, comms_after, comms_next}
use Rattle.gem_states.specs.Control.{control_after, control_next}

pub comms_push :
    (past : List CommsEntry) (entry : CommsEntry)
    → comms_after (past ++ entry ∷ []) ≡ comms_next (comms_after past) entry
comms_push past entry = fold-append comms_next _ past (entry ∷ [])

pub control_push :
    (planned : ControlState) (past : List ControlIn) (input : ControlIn)
    → control_after planned (past ++ input ∷ []) ≡ control_next (control_after planned past) input
control_push planned past input = fold-append control_next _ past (input ∷ [])
