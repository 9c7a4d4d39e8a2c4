-- What holds of every body.
use Rattle.std.specs.Prelude.{◌≡◌, ℕ, List}
use Rattle.gem_shapes.specs.declared.request.Request.{Request}
use Rattle.gem_shapes.specs.Requests.{Asks}

-- no message asks for two things
abbrev pub AsksOneThing : Type 0
AsksOneThing =
    (stream function : ℕ) (body : List ℕ) (request other : Request)
    → Asks stream function body request → Asks stream function body other → request ≡ other
