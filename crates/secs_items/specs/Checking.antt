-- A check of bytes that come one by one: where reading stands behind those that came.
use Rattle.std.specs.Prelude.{◌≡◌, ◌≤◌, ℕ, zero, suc, ◌+◌, ◌-◌, ◌*◌, ◌%◌, Bool, true, false, not, ◌==◌, if◌then◌else◌, List, [], ◌∷◌, length, fold, Option, Some, None, Result, Ok, Err}
use Rattle.secs_items.specs.declared.item_fault.ItemFault.{ItemFault}
use Rattle.secs_items.specs.declared.item_fault.ItemFault.TheVariants as fault
use Rattle.secs_items.specs.declared.kind.Kind.{Kind}
use Rattle.secs_items.specs.declared.point.Point.{Point}
use Rattle.secs_items.specs.declared.point.Point.TheVariants as point
use Rattle.secs_items.specs.declared.verdict.Verdict.{Verdict}
use Rattle.secs_items.specs.declared.verdict.Verdict.TheVariants as verdict
use Rattle.secs_items.specs.Kinds.{is_list, unit_of}
use Rattle.secs_items.specs.Limits.{max_depth}
use Rattle.secs_items.specs.Reading.{first_fault, format_at}

-- how many bytes came, how many items each open list still wants behind the one at hand, innermost list first, and
-- where reading stands
pub record Checking : Type 0 where
  pub fed : ℕ
  pub lists : List ℕ
  pub point : Point

abbrev pub stands_at : ℕ → List ℕ → Point → Checking
stands_at fed lists point = record { fed = fed; lists = lists; point = point }

-- the lists that are still open behind an item of the innermost one
abbrev pub open_behind : List ℕ → List ℕ
open_behind [] = []
open_behind (zero ∷ lists) = open_behind lists
open_behind (suc more ∷ lists) = more ∷ lists

abbrev pub is_open : List ℕ → Bool
is_open [] = false
is_open (more ∷ lists) = true

-- behind an item the next one of an open list begins, or all is whole
abbrev pub behind_item : ℕ → List ℕ → Checking
behind_item fed lists =
    stands_at fed (open_behind lists) (if is_open (open_behind lists) then point.Format else point.Whole)

-- behind the head of an item that is no list, with so many bytes of content
abbrev pub behind_leaf : ℕ → List ℕ → ℕ → Checking
behind_leaf fed lists zero = behind_item fed lists
behind_leaf fed lists (suc more) = stands_at fed lists (point.Content more)

-- behind the last length byte of an item that began at a place
abbrev pub behind_head : ℕ → List ℕ → ℕ → Kind → ℕ → Checking
behind_head fed lists at kind size =
    if not (size % unit_of kind == 0) then stands_at fed lists (point.Broken (fault.Uneven at))
    else if is_list kind then behind_item fed (size ∷ lists)
    else behind_leaf fed lists size

-- so many length bytes are to come
abbrev pub before_lengths : ℕ → Kind → ℕ → Point
before_lengths at kind (suc zero) = point.One at kind 0
before_lengths at kind (suc (suc zero)) = point.Two at kind 0
before_lengths at kind _ = point.Three at kind

abbrev pub behind_format : ℕ → Result (Kind × ℕ) ItemFault → Point
behind_format at (Ok x) = before_lengths at x.0 x.1
behind_format at (Err e) = point.Broken e

-- one byte more, which stands at a place
abbrev pub step_at : ℕ → List ℕ → Point → ℕ → Checking
step_at at lists point.Format byte =
    stands_at (at + 1) lists (behind_format at (format_at at (max_depth - length lists) byte))
step_at at lists (point.Three place kind) byte = stands_at (at + 1) lists (point.Two place kind byte)
step_at at lists (point.Two place kind high) byte = stands_at (at + 1) lists (point.One place kind (256 * high + byte))
step_at at lists (point.One place kind high) byte = behind_head (at + 1) lists place kind (256 * high + byte)
step_at at lists (point.Content zero) byte = behind_item (at + 1) lists
step_at at lists (point.Content (suc more)) byte = stands_at (at + 1) lists (point.Content more)
step_at at lists point.Whole byte = stands_at (at + 1) lists (point.Broken (fault.Trailing at))
step_at at lists (point.Broken e) byte = stands_at (at + 1) lists (point.Broken e)

abbrev pub with_byte : Checking → ℕ → Checking
with_byte c byte = step_at c.fed c.lists c.point byte

-- the check that was fed these bytes too
abbrev pub fed_with : Checking → List ℕ → Checking
fed_with = fold with_byte

-- nothing came
abbrev pub unfed : Checking
unfed = stands_at 0 [] point.Format

-- the one check of these bytes, however they were cut
unfoldable pub check_of : List ℕ → Checking
check_of = fed_with unfed

-- the fault of the bytes that came, if they end here
abbrev pub fault_now : ℕ → Point → Option ItemFault
fault_now fed point.Whole = None
fault_now fed (point.Broken e) = Some e
fault_now fed _ = Some (fault.Short fed)

abbrev pub verdict_by : Option ItemFault → Verdict
verdict_by None = verdict.Whole
verdict_by (Some e) = verdict.Broken e

abbrev pub verdict_now : Checking → Verdict
verdict_now c = if c.fed == 0 then verdict.Empty else verdict_by (fault_now c.fed c.point)

-- what is to be said of bytes that are to be none or one item
abbrev pub verdict_of : List ℕ → Verdict
verdict_of [] = verdict.Empty
verdict_of (byte ∷ bytes) = verdict_by (first_fault (byte ∷ bytes))

-- a list's length bytes are being read
abbrev pub heads_list : Point → Bool
heads_list (point.Three at kind) = is_list kind
heads_list (point.Two at kind high) = is_list kind
heads_list (point.One at kind high) = is_list kind
heads_list _ = false

-- bytes alone tell nothing of memory
abbrev pub is_memory : Point → Bool
is_memory (point.Broken fault.NoMemory) = true
is_memory _ = false

-- what stays as it is while so many bytes are passed over
abbrev pub passed_point : ℕ → Point → Point
passed_point count (point.Content more) = point.Content (more - count)
passed_point count point = point

abbrev pub passed : ℕ → Checking → Checking
passed count c = stands_at (c.fed + count) c.lists (passed_point count c.point)

-- so many bytes may be passed over
abbrev pub MayPass : ℕ → Point → Type 0
MayPass count (point.Content more) = count ≤ more
MayPass count (point.Broken e) = Unit {0}
MayPass count _ = count ≡ 0

-- at most so many bytes may be passed over
abbrev pub IsIdle : ℕ → Point → Type 0
IsIdle most point = (count : ℕ) → count ≤ most → MayPass count point
