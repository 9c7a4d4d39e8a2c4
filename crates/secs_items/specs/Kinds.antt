-- The kinds of items: the codes and the sizes of elements of SEMI E5's format table.
use Rattle.std.specs.Prelude.{ℕ, Bool, true, false, List, [], ◌∷◌, Option, find, ◌==◌}
use Rattle.secs_items.specs.declared.kind.Kind.{Kind}
use Rattle.secs_items.specs.declared.kind.Kind.TheVariants as kind

-- the upper six bits of the format byte
abbrev pub code_of : Kind → ℕ
code_of kind.L = 0
code_of kind.B = 8
code_of kind.Bool = 9
code_of kind.A = 16
code_of kind.J = 17
code_of kind.I8 = 24
code_of kind.I1 = 25
code_of kind.I2 = 26
code_of kind.I4 = 28
code_of kind.F8 = 32
code_of kind.F4 = 36
code_of kind.U8 = 40
code_of kind.U1 = 41
code_of kind.U2 = 42
code_of kind.U4 = 44

-- how many bytes an element takes; the length of a list counts its items
abbrev pub unit_of : Kind → ℕ
unit_of kind.L = 1
unit_of kind.B = 1
unit_of kind.Bool = 1
unit_of kind.A = 1
unit_of kind.J = 1
unit_of kind.I1 = 1
unit_of kind.I2 = 2
unit_of kind.I4 = 4
unit_of kind.I8 = 8
unit_of kind.U1 = 1
unit_of kind.U2 = 2
unit_of kind.U4 = 4
unit_of kind.U8 = 8
unit_of kind.F4 = 4
unit_of kind.F8 = 8

-- all of them, by their codes
abbrev pub kinds : List Kind
kinds =
    kind.L ∷ kind.B ∷ kind.Bool ∷ kind.A ∷ kind.J ∷ kind.I8 ∷ kind.I1 ∷ kind.I2 ∷ kind.I4 ∷ kind.F8 ∷ kind.F4
    ∷ kind.U8 ∷ kind.U1 ∷ kind.U2 ∷ kind.U4 ∷ []

-- the kind that has a code
abbrev pub kind_with : ℕ → Option Kind
kind_with code = find (λ k. code_of k == code) kinds

abbrev pub is_list : Kind → Bool
is_list kind.L = true
is_list _ = false
