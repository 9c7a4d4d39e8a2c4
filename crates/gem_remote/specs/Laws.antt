-- What holds of every second part of S2F41.
use Rattle.std.specs.Prelude.{◌≡◌, List, Some}
use Rattle.secs_items.specs.declared.item.Item.{Item}
use Rattle.gem_shapes.specs.Requests.{parameters}
use Rattle.gem_remote.specs.Commands.{Param, params_item}

-- what is read as the parameters of a command is the item of some parameters, and each such item is read so
pub record ParametersAreRead : Type 0 where
  pub listed : (item given : Item) → parameters item ≡ Some given → (all : List Param) × (given ≡ params_item all)
  pub read : (all : List Param) → parameters (params_item all) ≡ Some (params_item all)
