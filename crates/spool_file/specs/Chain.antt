-- How one pass over the slots tests that each message follows another (this profile).
use Rattle.std.specs.Prelude.{◌≡◌, ℕ, ◌^◌, ◌==◌, ◌-◌, min, Bool, true, false, ◌&&◌, not, if◌then◌else◌, List}
use Rattle.std.specs.Prelude.{Option, Some, None}
use Rattle.std.specs.List.{list_any}
use Rattle.disk_base.specs.Story.{Story}
use Rattle.spool_file.specs.Breaks.{head_end}
use Rattle.spool_file.specs.Reading.{IsBreak}
use Rattle.spool_file.specs.Slot.{Slot, in_slot, slot_in, stands_on}
use Rattle.spool_file.specs.declared.reading.Reading.{Reading}
use Rattle.spool_file.specs.declared.reading.Reading.TheVariants as reading

-- a number of eight bytes that no message has, since each has one below 2^63
abbrev pub no_number : ℕ
no_number = 2 ^ 64 - 1

-- the number behind the message of a slot that stands
abbrev pub lead_of : (floor : ℕ) → Slot → ℕ
lead_of floor slot = if stands_on floor slot then min (head_end slot.head) no_number else no_number

-- whether some such number is this one
abbrev pub is_led : List ℕ → (number : ℕ) → Bool
is_led leads number = list_any (λ lead. lead == number) leads

-- where a slot that stands has neither the least number nor one of these
abbrev pub lone_by : (floor least : ℕ) → List ℕ → Slot → Option ℕ
lone_by floor least leads here =
    if stands_on floor here && not (here.head.number == least) && not (is_led leads here.head.number) then Some 1
    else None

-- a slot was read for its lead, and tested so where it was its turn
abbrev pub LoneIs : (floor least : ℕ) → Bool → List ℕ → Slot → Option ℕ → Type 0
LoneIs floor least true leads here place = lone_by floor least leads here ≡ place
LoneIs floor least false leads here place = place ≡ None

abbrev pub LeadIs : (floor least k : ℕ) → Bool → List ℕ → Option Story → Reading ℕ → Type 0
LeadIs floor least k tested leads told (reading.Whole lead) = (s : Story) → told ≡ Some s →
    (lead ≡ lead_of floor (slot_in s.now.bytes k)) × LoneIs floor least tested leads (slot_in s.now.bytes k) None
LeadIs floor least k tested leads told (reading.Broken break) = (s : Story) → told ≡ Some s →
    (tested ≡ true) × IsBreak s.now.bytes (in_slot k (lone_by floor least leads (slot_in s.now.bytes k))) break
LeadIs floor least k tested leads told reading.Failed = Unit {0}
