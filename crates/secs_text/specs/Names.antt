-- The names of the kinds in item text, and the characters of the grammar (this profile).
use Rattle.std.specs.Prelude.{ℕ, ◌==◌, ◌||◌, Bool, List, codes}
use Rattle.secs_items.specs.declared.kind.Kind.{Kind}
use Rattle.secs_items.specs.declared.kind.Kind.TheVariants as kind

abbrev pub name_of : Kind → List ℕ
name_of kind.L = codes "L"
name_of kind.B = codes "B"
name_of kind.Bool = codes "BOOLEAN"
name_of kind.A = codes "A"
name_of kind.J = codes "J"
name_of kind.I1 = codes "I1"
name_of kind.I2 = codes "I2"
name_of kind.I4 = codes "I4"
name_of kind.I8 = codes "I8"
name_of kind.U1 = codes "U1"
name_of kind.U2 = codes "U2"
name_of kind.U4 = codes "U4"
name_of kind.U8 = codes "U8"
name_of kind.F4 = codes "F4"
name_of kind.F8 = codes "F8"

-- space, tab, CR, LF
abbrev pub is_blank : ℕ → Bool
is_blank b = b == 32 || b == 9 || b == 13 || b == 10
