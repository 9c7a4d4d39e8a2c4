-- Why bytes are no frame.
use Rattle.std.specs.Prelude.{ℕ, ◌+◌, ◌==◌, nat_lt, ◌||◌, List, [], ◌∷◌, length, take, drop, Option, Some, None, if◌then◌else◌}
use Rattle.std.specs.Int.{w16, from_be_bytes}
use Rattle.block_codec.specs.Frame.{checksum}
use Rattle.block_codec.specs.Protocol.{header_length, most_counted}
use Rattle.block_codec.specs.declared.frame.BlockFault.{BlockFault}
use Rattle.block_codec.specs.declared.frame.BlockFault.TheVariants.{Length, Short, Long, Sum}

-- the checksum that was sent is not that of the counted bytes (SEMI E4, checksum)
abbrev pub sum_fault : List ℕ → List ℕ → Option BlockFault
sum_fault counted sent =
    if from_be_bytes w16 sent == checksum counted then None else Some (Sum (from_be_bytes w16 sent) (checksum counted))

-- the first that holds: nothing came, the length is outside 10 to 254, bytes are missing, bytes are left over, the sum
-- is wrong (SEMI E4, block)
abbrev pub fault_of : List ℕ → Option BlockFault
fault_of [] = Some (Short 0)
fault_of (n ∷ rest) =
    if nat_lt n header_length || nat_lt most_counted n then Some (Length n)
    else if nat_lt (length rest) (n + 2) then Some (Short (length rest + 1))
    else if nat_lt (n + 2) (length rest) then Some (Long (n + 3))
    else sum_fault (take n rest) (drop n rest)
