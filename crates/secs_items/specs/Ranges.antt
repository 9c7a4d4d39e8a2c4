-- Which mathematical items are values of the program: those whose elements are within the ranges of their kinds.
use Rattle.std.specs.Prelude.{⊤, ◌<◌, ◌^◌, FitsSigned}
use Rattle.std.specs.Int.{w8, w16, w32, w64}
use Rattle.std.specs.List.{AllByRecursion}
use Rattle.secs_items.specs.declared.item.Item.{Item}
use Rattle.secs_items.specs.declared.item.Item.TheOpen.{Item-F}
use Rattle.secs_items.specs.declared.item.Item.TheFolds.{every-Item}
use Rattle.secs_items.specs.Elements.{IsByte, IsRaw}

-- the elements of one item
abbrev pub HasRanges : Item-F Item → Type 0
HasRanges (Item-F.L items) = ⊤
HasRanges (Item-F.B bytes) = AllByRecursion IsByte bytes
HasRanges (Item-F.Bool bytes) = AllByRecursion IsByte bytes
HasRanges (Item-F.A bytes) = AllByRecursion IsByte bytes
HasRanges (Item-F.J bytes) = AllByRecursion IsByte bytes
HasRanges (Item-F.I1 numbers) = AllByRecursion (FitsSigned w8) numbers
HasRanges (Item-F.I2 numbers) = AllByRecursion (FitsSigned w16) numbers
HasRanges (Item-F.I4 numbers) = AllByRecursion (FitsSigned w32) numbers
HasRanges (Item-F.I8 numbers) = AllByRecursion (FitsSigned w64) numbers
HasRanges (Item-F.U1 numbers) = AllByRecursion IsByte numbers
HasRanges (Item-F.U2 numbers) = AllByRecursion (λ n. n < 2 ^ 16) numbers
HasRanges (Item-F.U4 numbers) = AllByRecursion (λ n. n < 2 ^ 32) numbers
HasRanges (Item-F.U8 numbers) = AllByRecursion (λ n. n < 2 ^ 64) numbers
HasRanges (Item-F.F4 floats) = AllByRecursion (IsRaw 4) floats
HasRanges (Item-F.F8 floats) = AllByRecursion (IsRaw 8) floats

-- each element of an item, and of the items in it
abbrev pub InRange : Item → Type 0
InRange = every-Item HasRanges
