-- Where the code looks next for an S1F13 of the equipment that is open.
use Rattle.std.specs.Prelude.{ℕ, ◌+◌}
use Rattle.tool_step.specs.declared.kind.Kind.{Kind}
use Rattle.tool_step.specs.declared.kind.Kind.TheVariants as kind

-- behind one that has ended the next one stands at its place
abbrev pub place_behind : Kind → ℕ → ℕ
place_behind kind.Establish place = place
place_behind _ place = place + 1
