-- What a message asks the equipment for, and what is known of it.
use Rattle.std.specs.Prelude.{◌≡◌, List}
use Rattle.gem_remote.specs.Commands.{Param, params_item}
pub use Rattle.gem_shapes.specs.Asked.{asked_by, is_nothing, item_in, request_of, whole_item}
use Rattle.gem_shapes.specs.declared.request.Request.{Request}
use Rattle.gem_shapes.specs.declared.request.Request.TheVariants as request
use Rattle.gem_shapes.specs.declared.request.TablesRequest.{TablesRequest}
use Rattle.gem_shapes.specs.declared.request.TablesRequest.TheVariants as tables_request

-- A request that some message asks of the tables: the second part of S2F41 lists parameters.
abbrev pub IsAskedOfTables : TablesRequest → Type 0
IsAskedOfTables (tables_request.Command name params) = (all : List Param) × (params ≡ params_item all)
IsAskedOfTables _ = Unit {0}

-- a request of some message
abbrev pub IsAsked : Request → Type 0
IsAsked (request.OfTables asked) = IsAskedOfTables asked
IsAsked _ = Unit {0}
