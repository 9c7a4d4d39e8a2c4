-- Kept lists worked by hand.
use Rattle.std.specs.Prelude.{◌≡◌, ℕ, true, false, List, [], ◌∷◌, length, map, flat_map, fold, replicate, Some, None, Ok, Err}
use Rattle.setup_store.specs.Entries.{Entry, bytes_of, entries_in, has_room}
use Rattle.setup_store.specs.Kept.{kept}

-- ---- bodies (SEMI E5): a list, a number as U1, and one byte

abbrev pub list_item : List (List ℕ) → List ℕ
list_item items = 1 ∷ length items ∷ flat_map (λ item. item) items

abbrev pub number_item : ℕ → List ℕ
number_item n = 165 ∷ 1 ∷ n ∷ []

abbrev pub pair : List ℕ → List ℕ → List ℕ
pair first second = list_item (first ∷ second ∷ [])

abbrev pub numbers : List ℕ → List ℕ
numbers all = list_item (map number_item all)

-- a number with others, as a report with its variables
abbrev pub with_numbers : ℕ × List ℕ → List ℕ
with_numbers x = pair (number_item x.0) (numbers x.1)

-- ---- primaries

abbrev pub entry : ℕ → ℕ → List ℕ → Entry
entry stream function body = record { stream = stream; function = function; body = body }

abbrev pub constants : List (ℕ × ℕ) → Entry
constants list = entry 2 15 (list_item (map (λ e. pair (number_item e.0) (number_item e.1)) list))

abbrev pub define : List (ℕ × List ℕ) → Entry
define list = entry 2 33 (pair (number_item 0) (list_item (map with_numbers list)))

abbrev pub link : List (ℕ × List ℕ) → Entry
link list = entry 2 35 (pair (number_item 0) (list_item (map with_numbers list)))

-- 1 enables, 0 disables
abbrev pub events : ℕ → List ℕ → Entry
events on ceids = entry 2 37 (pair (37 ∷ 1 ∷ on ∷ []) (numbers ceids))

abbrev pub rule : List (ℕ × List ℕ) → Entry
rule list = entry 2 43 (list_item (map with_numbers list))

-- 128 enables, 0 disables
abbrev pub alarm : ℕ → ℕ → Entry
alarm aled alid = entry 5 3 (pair (33 ∷ 1 ∷ aled ∷ []) (number_item alid))

abbrev pub alarms : ℕ → Entry
alarms aled = entry 5 3 (pair (33 ∷ 1 ∷ aled ∷ []) (165 ∷ 0 ∷ []))

-- ---- what is kept

abbrev pub kept_of : List Entry → List Entry
kept_of primaries = fold kept [] primaries

-- report 10 with variable 1, or report 11
abbrev pub ten : Entry
ten = define ((10, 1 ∷ []) ∷ [])

abbrev pub eleven : Entry
eleven = define ((11, 1 ∷ []) ∷ [])

abbrev pub linked : Entry
linked = link ((1, 10 ∷ []) ∷ [])

pub record ReportsAreAsWorked : Type 0 where
  -- behind S2F33 without entries no report is left of those before, and no link; that S2F33 isn't kept itself
  pub anew : kept_of (ten ∷ define [] ∷ eleven ∷ []) ≡ eleven ∷ []
  pub deleted : kept_of (ten ∷ linked ∷ events 1 (1 ∷ []) ∷ define [] ∷ []) ≡ events 1 (1 ∷ []) ∷ []
  -- one that deletes a report stays beside the one that defined it, and so do links
  pub one_deleted : kept_of (ten ∷ define ((10, []) ∷ []) ∷ []) ≡ ten ∷ define ((10, []) ∷ []) ∷ []
  pub links : kept_of (ten ∷ linked ∷ link ((1, []) ∷ []) ∷ []) ≡ ten ∷ linked ∷ link ((1, []) ∷ []) ∷ []
  pub no_links : kept_of (ten ∷ linked ∷ link [] ∷ []) ≡ ten ∷ linked ∷ []

pub record SettingsAreAsWorked : Type 0 where
  -- all of an older one's identifiers are named, or not all; in one list twice, in any order
  pub constants_again :
      kept_of (constants ((101, 5) ∷ []) ∷ constants ((102, 1) ∷ (101, 7) ∷ []) ∷ [])
      ≡ constants ((102, 1) ∷ (101, 7) ∷ []) ∷ []
  pub constants_in_part :
      kept_of (constants ((101, 5) ∷ (102, 0) ∷ []) ∷ constants ((101, 7) ∷ []) ∷ [])
      ≡ constants ((101, 5) ∷ (102, 0) ∷ []) ∷ constants ((101, 7) ∷ []) ∷ []
  pub no_constants : kept_of (constants ((101, 5) ∷ []) ∷ constants [] ∷ []) ≡ constants ((101, 5) ∷ []) ∷ []
  pub events_again :
      kept_of (events 1 (1 ∷ 2 ∷ 1 ∷ []) ∷ events 0 (3 ∷ []) ∷ events 0 (2 ∷ 1 ∷ []) ∷ [])
      ≡ events 0 (3 ∷ []) ∷ events 0 (2 ∷ 1 ∷ []) ∷ []
  -- where none is named all are, and that one stays until all are named so again
  pub all_events :
      kept_of (events 1 (1 ∷ []) ∷ events 0 [] ∷ events 1 (1 ∷ 2 ∷ []) ∷ []) ≡ events 0 [] ∷ events 1 (1 ∷ 2 ∷ []) ∷ []
  pub alarms_again : kept_of (alarm 128 1 ∷ alarm 128 2 ∷ alarm 0 1 ∷ []) ≡ alarm 128 2 ∷ alarm 0 1 ∷ []
  pub all_alarms : kept_of (alarm 128 1 ∷ alarms 0 ∷ alarm 128 2 ∷ []) ≡ alarms 0 ∷ alarm 128 2 ∷ []
  pub rules : kept_of (rule ((6, 11 ∷ []) ∷ []) ∷ rule [] ∷ []) ≡ rule [] ∷ []
  -- a body that isn't of its shape names nothing, and goes where all of its function go
  pub shapeless_stays :
      kept (entry 2 37 (0 ∷ []) ∷ []) (events 1 (1 ∷ [])) ≡ entry 2 37 (0 ∷ []) ∷ events 1 (1 ∷ []) ∷ []
  pub shapeless_goes : kept (entry 2 37 (0 ∷ []) ∷ []) (events 1 []) ≡ events 1 [] ∷ []

-- ---- bytes

pub record BytesAreAsWorked : Type 0 where
  pub spelled :
      bytes_of (events 1 [] ∷ entry 5 3 [] ∷ [])
      ≡ 2 ∷ 37 ∷ 0 ∷ 0 ∷ 0 ∷ 7 ∷ 1 ∷ 2 ∷ 37 ∷ 1 ∷ 1 ∷ 1 ∷ 0 ∷ 5 ∷ 3 ∷ 0 ∷ 0 ∷ 0 ∷ 0 ∷ []
  pub none : entries_in [] ≡ Ok []
  pub read :
      entries_in (5 ∷ 3 ∷ 0 ∷ 0 ∷ 0 ∷ 1 ∷ 9 ∷ 2 ∷ 43 ∷ 0 ∷ 0 ∷ 0 ∷ 0 ∷ [])
      ≡ Ok (entry 5 3 (9 ∷ []) ∷ entry 2 43 [] ∷ [])
  pub stream : entries_in (3 ∷ 3 ∷ []) ≡ Err (record { at = 0; got = Some 3 })
  pub function : entries_in (2 ∷ 36 ∷ []) ≡ Err (record { at = 1; got = Some 36 })
  pub of_another : entries_in (5 ∷ 33 ∷ 0 ∷ []) ≡ Err (record { at = 1; got = Some 33 })
  pub second : entries_in (5 ∷ 3 ∷ 0 ∷ 0 ∷ 0 ∷ 1 ∷ 9 ∷ 0 ∷ []) ≡ Err (record { at = 7; got = Some 0 })
  -- a list that ends within an entry breaks at its end, whatever the length says
  pub head_alone : entries_in (2 ∷ []) ≡ Err (record { at = 1; got = None })
  pub no_length : entries_in (2 ∷ 15 ∷ 0 ∷ []) ≡ Err (record { at = 3; got = None })
  pub no_body : entries_in (2 ∷ 15 ∷ 0 ∷ 0 ∷ 0 ∷ 2 ∷ 1 ∷ []) ≡ Err (record { at = 7; got = None })
  pub long : entries_in (2 ∷ 37 ∷ 255 ∷ 255 ∷ 255 ∷ 255 ∷ 0 ∷ []) ≡ Err (record { at = 7; got = None })
  -- 262,144 bytes can be kept, and not one more
  pub fits : has_room (replicate 262144 0) ≡ true
  pub one_more : has_room (replicate 262145 0) ≡ false

pub record KeptListsAreAsWorked : Type 0 where
  pub reports : ReportsAreAsWorked
  pub settings : SettingsAreAsWorked
  pub bytes : BytesAreAsWorked
