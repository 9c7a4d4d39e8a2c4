-- The kinds of values, each with what it refuses, and keys that are needed or have a default (this profile).
use Rattle.std.specs.Prelude.{ℕ, ℤ, pos, negsuc, Bool, nat_le, nat_lt, ◌&&◌, List, [], ◌∷◌, ◌++◌, length, Option, Some, None, Result, Ok, Err, if◌then◌else◌}
use Rattle.std.specs.List.{list_all}
use Rattle.std.specs.Option.{ok_or}
use Rattle.secs_items.specs.declared.item.Item.{Item}
use Rattle.secs_text.specs.declared.text_fault.TextFault.{TextFault}
use Rattle.secs_text.specs.Reading.{read_text}
use Rattle.gem_vars.specs.Settings.{is_within, value_fits}
use Rattle.toml.specs.Data.{Data, Items, no_items, item, as_array, as_bool, as_integer, as_str}
use Rattle.gem_config.specs.declared.fault.ConfigFault.TheVariants as fault
use Rattle.gem_config.specs.declared.fault.ConfigWhat.TheVariants.{Kind, Missing, Range}
use Rattle.gem_config.specs.Reading.{FoundView, Read, refused, ◌>>=◌}

-- what the value at a key is read as, by the name that a refusal gives the key
abbrev pub Rule : Type 0 → Type 0
Rule A = List ℕ → Data → Read A

-- ---- kinds of values

-- a value of the right kind, where there is one
abbrev pub of_kind : {A : Type 0} → List ℕ → Option A → Read A
of_kind key value = ok_or value (fault.Key key Kind)

abbrev pub in_range : ℕ → ℕ → List ℕ → ℤ → Read ℕ
in_range least most key (pos n) = if is_within least most n then Ok n else refused key Range
in_range least most key (negsuc n) = refused key Range

abbrev pub number : ℕ → ℕ → Rule ℕ
number least most key d = of_kind key (as_integer d) >>= in_range least most key

abbrev pub flag : Rule Bool
flag key d = of_kind key (as_bool d)

abbrev pub text : Rule (List ℕ)
text key d = of_kind key (as_str d)

abbrev pub is_ascii : ℕ → Bool
is_ascii character = nat_lt character 128

-- at most so many characters, all of ASCII
abbrev pub is_short : ℕ → List ℕ → Bool
is_short longest s = nat_le (length s) longest && list_all is_ascii s

abbrev pub short_text : ℕ → Rule (List ℕ)
short_text longest key d = text key d >>= (λ s. if is_short longest s then Ok s else refused key Range)

-- a text among those that have a meaning
abbrev pub word : {A : Type 0} → (List ℕ → Option A) → Rule A
word meaning key d = text key d >>= (λ s. ok_or (meaning s) (fault.Key key Range))

abbrev pub found : Result Item TextFault → Option Item
found (Ok x) = Some x
found (Err e) = None

-- the item that all of a text reads as
abbrev pub item_in : List ℕ → Option Item
item_in s = found (read_text s)

abbrev pub item_text : Rule Item
item_text key d = text key d >>= (λ s. of_kind key (item_in s))

-- an item text of a value that is short and shallow enough for a variable
abbrev pub value_text : Rule Item
value_text key d = item_text key d >>= (λ x. if value_fits x then Ok x else refused key Range)

-- one after another, behind those before
abbrev pub each_from : {A : Type 0} → (Data → Read A) → List A → Items → Read (List A)
each_from read before no_items = Ok before
each_from read before (item d ds) = read d >>= (λ x. each_from read (before ++ x ∷ []) ds)

abbrev pub list : {A : Type 0} → Rule A → Rule (List A)
list rule key d = of_kind key (as_array d) >>= each_from (rule key) []

-- ---- keys

abbrev pub needed_in : {A : Type 0} → Rule A → List ℕ → Option Data → Read A
needed_in rule key None = refused key Missing
needed_in rule key (Some d) = rule key d

abbrev pub optional_in : {A : Type 0} → A → Rule A → List ℕ → Option Data → Read A
optional_in default rule key None = Ok default
optional_in default rule key (Some d) = rule key d

-- the key must be there
abbrev pub needed : {A : Type 0} → Rule A → FoundView → Read A
needed rule at_key = needed_in rule at_key.key at_key.held

-- the key may be missing, and then has this value
abbrev pub optional : {A : Type 0} → A → Rule A → FoundView → Read A
optional default rule at_key = optional_in default rule at_key.key at_key.held
