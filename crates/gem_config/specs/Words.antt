-- Words that a plan file has for control states, spooled primaries and kinds of items (this profile).
use Rattle.std.specs.Prelude.{ℕ, List, [], ◌∷◌, codes, bytes_eq, Option, Some, None, if◌then◌else◌}
use Rattle.gem_shapes.specs.declared.entries.RuleEntry.{RuleEntry}
use Rattle.gem_states.specs.declared.control.ControlState.{ControlState}
use Rattle.gem_states.specs.declared.control.ControlState.TheVariants.{EquipmentOffline, HostOffline, Local, Remote}
use Rattle.secs_items.specs.declared.kind.Kind.{Kind}
use Rattle.secs_items.specs.declared.kind.Kind.TheVariants as kind
use Rattle.equipment_tables.specs.Plan.{function_of}

abbrev pub control_named : List ℕ → Option ControlState
control_named name =
    if bytes_eq name (codes "equipment-offline") then Some EquipmentOffline
    else if bytes_eq name (codes "host-offline") then Some HostOffline
    else if bytes_eq name (codes "local") then Some Local
    else if bytes_eq name (codes "remote") then Some Remote
    else None

abbrev pub spooled_named : List ℕ → Option RuleEntry
spooled_named name =
    if bytes_eq name (codes "S5F1") then Some (function_of 5 1)
    else if bytes_eq name (codes "S6F11") then Some (function_of 6 11)
    else if bytes_eq name (codes "S10F1") then Some (function_of 10 1)
    else None

-- all three
abbrev pub all_spooled : List RuleEntry
all_spooled = function_of 5 1 ∷ function_of 6 11 ∷ function_of 10 1 ∷ []

-- the kinds by their names in item text
abbrev pub kind_named : List ℕ → Option Kind
kind_named name =
    if bytes_eq name (codes "L") then Some kind.L
    else if bytes_eq name (codes "B") then Some kind.B
    else if bytes_eq name (codes "BOOLEAN") then Some kind.Bool
    else if bytes_eq name (codes "A") then Some kind.A
    else if bytes_eq name (codes "J") then Some kind.J
    else if bytes_eq name (codes "I1") then Some kind.I1
    else if bytes_eq name (codes "I2") then Some kind.I2
    else if bytes_eq name (codes "I4") then Some kind.I4
    else if bytes_eq name (codes "I8") then Some kind.I8
    else if bytes_eq name (codes "U1") then Some kind.U1
    else if bytes_eq name (codes "U2") then Some kind.U2
    else if bytes_eq name (codes "U4") then Some kind.U4
    else if bytes_eq name (codes "U8") then Some kind.U8
    else if bytes_eq name (codes "F4") then Some kind.F4
    else if bytes_eq name (codes "F8") then Some kind.F8
    else None
