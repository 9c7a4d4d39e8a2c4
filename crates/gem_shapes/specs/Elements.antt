-- What an item of a request is read as: a value where the item has the form, and otherwise nothing.
use Rattle.std.specs.Prelude.{◌≤◌, ℕ, Bool, false, not, ◌&&◌, ◌==◌, ◌^◌, List, [], ◌∷◌, length, map, nat_le, nat_lt, if◌then◌else◌, Option, Some, None}
use Rattle.std.specs.Option.{option_and_then, option_map, option_map_or, option_or, option_zip}
use Rattle.secs_items.specs.declared.item.Item.{Item, out-Item}
use Rattle.secs_items.specs.declared.item.Item.TheOpen.{Item-F}
use Rattle.secs_items.specs.Views.{number_of}

-- the number, where it is below the limit
abbrev pub below : ℕ → ℕ → Option ℕ
below limit n = if nat_lt n limit then Some n else None

-- the one element
abbrev pub one_of : List ℕ → Option ℕ
one_of (n ∷ []) = Some n
one_of _ = None

-- the one element of B
abbrev pub byte_of : {A : Type 0} → Item-F A → Option ℕ
byte_of (Item-F.B bytes) = one_of bytes
byte_of _ = None

-- the one element, of which 00 is false and every other byte is true (this profile)
abbrev pub one_flag_of : List ℕ → Option Bool
one_flag_of bytes = option_map (λ byte. not (byte == 0)) (one_of bytes)

-- the one element of BOOLEAN
abbrev pub flag_of : {A : Type 0} → Item-F A → Option Bool
flag_of (Item-F.Bool bytes) = one_flag_of bytes
flag_of _ = None

abbrev pub text_of : {A : Type 0} → Item-F A → Option (List ℕ)
text_of (Item-F.A text) = Some text
text_of _ = None

abbrev pub list_of : {A : Type 0} → Item-F A → Option (List A)
list_of (Item-F.L items) = Some items
list_of _ = None

-- a list without items
abbrev pub is_empty_list : {A : Type 0} → Item-F A → Bool
is_empty_list x = option_map_or (λ items. length items == 0) (list_of x) false

-- the elements of U1, U2, U4 or U8
abbrev pub numbers_of : {A : Type 0} → Item-F A → Option (List ℕ)
numbers_of (Item-F.U1 numbers) = Some numbers
numbers_of (Item-F.U2 numbers) = Some numbers
numbers_of (Item-F.U4 numbers) = Some numbers
numbers_of (Item-F.U8 numbers) = Some numbers
numbers_of _ = None

-- a code of one byte, as ALED and TID: B of one element (SEMI E5)
abbrev pub code : Item → Option ℕ
code item = byte_of (out-Item item)

-- CEED: BOOLEAN of one element (SEMI E5)
abbrev pub flag : Item → Option Bool
flag item = flag_of (out-Item item)

-- RCMD, CPNAME and texts: A
abbrev pub text : Item → Option (List ℕ)
text item = text_of (out-Item item)

-- PPID: A of 1 to 80 bytes (this profile)
abbrev pub IsPpid : List ℕ → Type 0
IsPpid name = (1 ≤ length name) × (length name ≤ 80)

abbrev pub if_ppid : List ℕ → Option (List ℕ)
if_ppid name = if nat_lt 0 (length name) && nat_le (length name) 80 then Some name else None

abbrev pub ppid : Item → Option (List ℕ)
ppid item = option_and_then if_ppid (text item)

-- An identifier, as VID and CEID, and DATALENGTH: U1, U2, U4 or U8 of one element that four bytes hold (this profile).
abbrev pub identifier : Item → Option ℕ
identifier item = option_and_then (below (2 ^ 32)) (number_of (out-Item item))

-- RSDC, STRID and FCNID: U1, U2, U4, U8 or B of one element that one byte holds (this profile)
abbrev pub small_number : Item → Option ℕ
small_number item = option_and_then (below 256) (option_or (number_of (out-Item item)) (code item))

abbrev pub flag_number : Bool → ℕ
flag_number on = if on then 1 else 0

-- ECV: an identifier, or BOOLEAN of one element, of which false counts as 0 and true as 1 (this profile)
abbrev pub setting : Item → Option ℕ
setting item = option_or (identifier item) (option_map flag_number (flag item))

-- the values in their order, where each is there
abbrev pub all_of : {T : Type 0} → List (Option T) → Option (List T)
all_of [] = Some []
all_of (None ∷ values) = None
all_of (Some value ∷ values) = option_map (λ others. value ∷ others) (all_of values)

-- the identifiers that are the elements of one item: U1, U2, U4 or U8 of any count (SEMI E5, S5F5)
abbrev pub identifiers : Item → Option (List ℕ)
identifiers item = option_and_then (λ numbers. all_of (map (below (2 ^ 32)) numbers)) (numbers_of (out-Item item))

-- an ALID, or U1, U2, U4 or U8 of no element for all alarms (SEMI E5, S5F3)
abbrev pub one_or_all : List ℕ → Option (Option ℕ)
one_or_all [] = Some None
one_or_all (n ∷ []) = Some (Some n)
one_or_all _ = None

abbrev pub identifier_or_all : Item → Option (Option ℕ)
identifier_or_all item = option_and_then one_or_all (identifiers item)

-- L,n of such items
abbrev pub each : {T : Type 0} → (Item → Option T) → Item → Option (List T)
each read item = option_and_then (λ items. all_of (map read items)) (list_of (out-Item item))

-- the items of L,2
abbrev pub two_of : List Item → Option (Item × Item)
two_of (first ∷ second ∷ []) = Some (first, second)
two_of _ = None

abbrev pub two : Item → Option (Item × Item)
two item = option_and_then two_of (list_of (out-Item item))

-- L,2 of two such items
abbrev pub both : {T U : Type 0} → (Item → Option T) → (Item → Option U) → Item → Option (T × U)
both read read_second item = option_and_then (λ items. option_zip (read items.0) (read_second items.1)) (two item)

-- the items of L,5
abbrev pub five_of : List Item → Option (Item × Item × Item × Item × Item)
five_of (first ∷ second ∷ third ∷ fourth ∷ fifth ∷ []) = Some (first, second, third, fourth, fifth)
five_of _ = None

abbrev pub five_items : Item → Option (Item × Item × Item × Item × Item)
five_items item = option_and_then five_of (list_of (out-Item item))

-- the five values, where each is there
abbrev pub all_five :
    {A B C D E : Type 0} → Option A → Option B → Option C → Option D → Option E → Option (A × B × C × D × E)
all_five (Some a) (Some b) (Some c) (Some d) (Some e) = Some (a, b, c, d, e)
all_five _ _ _ _ _ = None

-- L,5 of five such items
abbrev pub five :
    {A B C D E : Type 0} → (Item → Option A) → (Item → Option B) → (Item → Option C) → (Item → Option D)
    → (Item → Option E) → Item → Option (A × B × C × D × E)
five first second third fourth fifth item =
    option_and_then (λ x. all_five (first x.0) (second x.1) (third x.2) (fourth x.3) (fifth x.4)) (five_items item)

-- any item at all
abbrev pub anything : Item → Option (Unit {0})
anything item = Some tt
