-- Keys of a plan file that have no meaning, as refusals name them, and the least of them (this profile).
use Rattle.std.specs.Prelude.{ℕ, Bool, List, [], ◌∷◌, ◌++◌, codes, bytes_eq, fold, Option, Some, None, if◌then◌else◌}
use Rattle.std.specs.List.{list_any}
use Rattle.std.specs.Option.{option_and_then}
use Rattle.std.specs.Cmp.Lexicographic.{slice_cmp}
use Rattle.std.specs.Ordering.{is_lt, nat_cmp}
use Rattle.toml.specs.Data.{Items, no_items, item, Members, no_members, member, as_array, as_table, get_member}
use Rattle.gem_config.specs.declared.part.Part.{Part}
use Rattle.gem_config.specs.declared.part.Part.TheVariants as part
use Rattle.gem_config.specs.Reading.{key_of}

-- the keys of each part of the file
abbrev pub keys_of : Part → List (List ℕ)
keys_of part.Document =
    codes "line" ∷ codes "equipment" ∷ codes "variable" ∷ codes "constant" ∷ codes "event" ∷ codes "alarm"
    ∷ codes "command" ∷ codes "host" ∷ []
keys_of part.Line =
    codes "device" ∷ codes "t1" ∷ codes "t2" ∷ codes "t3" ∷ codes "t4" ∷ codes "rty" ∷ codes "max_body" ∷ []
keys_of part.Equipment =
    codes "mdln" ∷ codes "softrev" ∷ codes "enable" ∷ codes "control" ∷ codes "slots" ∷ codes "enable_spool"
    ∷ codes "overwrite" ∷ codes "max_transmit" ∷ codes "delay" ∷ codes "spooled" ∷ codes "terminals" ∷ []
keys_of part.Variable = codes "vid" ∷ codes "name" ∷ codes "units" ∷ codes "value" ∷ []
keys_of part.Constant =
    codes "ecid" ∷ codes "name" ∷ codes "units" ∷ codes "min" ∷ codes "max" ∷ codes "value" ∷ []
keys_of part.Event = codes "ceid" ∷ codes "name" ∷ []
keys_of part.Alarm = codes "alid" ∷ codes "category" ∷ codes "text" ∷ codes "enabled" ∷ []
keys_of part.Command = codes "name" ∷ codes "later" ∷ codes "params" ∷ []
keys_of part.Param = codes "name" ∷ codes "kind" ∷ codes "values" ∷ []
keys_of part.Host = codes "enable" ∷ []

abbrev pub knows : Part → List ℕ → Bool
knows p key = list_any (bytes_eq key) (keys_of p)

-- how a refusal names a key of the part
abbrev pub name_of : Part → List ℕ → List ℕ
name_of part.Document key = key
name_of part.Line key = key_of (codes "line") key
name_of part.Equipment key = key_of (codes "equipment") key
name_of part.Variable key = key_of (codes "variable") key
name_of part.Constant key = key_of (codes "constant") key
name_of part.Event key = key_of (codes "event") key
name_of part.Alarm key = key_of (codes "alarm") key
name_of part.Command key = key_of (codes "command") key
name_of part.Param key = codes "command.params"
name_of part.Host key = key_of (codes "host") key

-- ---- the other keys, by their names

abbrev pub others : Part → Members → List (List ℕ)
others p no_members = []
others p (member k d ms) = if knows p k then others p ms else name_of p k ∷ others p ms

abbrev pub others_of : Part → Option Members → List (List ℕ)
others_of p None = []
others_of p (Some ms) = others p ms

-- those of a table that may be missing
abbrev pub others_at : Part → List ℕ → Members → List (List ℕ)
others_at p key ms = others_of p (option_and_then as_table (get_member key ms))

-- those of the tables among these
abbrev pub others_in_each : Part → Items → List (List ℕ)
others_in_each p no_items = []
others_in_each p (item d ds) = others_of p (as_table d) ++ others_in_each p ds

abbrev pub items_or_none : Option Items → Items
items_or_none None = no_items
items_or_none (Some ds) = ds

abbrev pub items_at : List ℕ → Members → Items
items_at key ms = items_or_none (option_and_then as_array (get_member key ms))

abbrev pub params_of : Option Members → Items
params_of None = no_items
params_of (Some ms) = items_at (codes "params") ms

-- those of the parameters of these commands
abbrev pub others_in_params : Items → List (List ℕ)
others_in_params no_items = []
others_in_params (item d ds) = others_in_each part.Param (params_of (as_table d)) ++ others_in_params ds

unfoldable pub other_keys : Members → List (List ℕ)
other_keys document =
    others part.Document document ++ others_at part.Line (codes "line") document
    ++ others_at part.Equipment (codes "equipment") document ++ others_at part.Host (codes "host") document
    ++ others_in_each part.Variable (items_at (codes "variable") document)
    ++ others_in_each part.Constant (items_at (codes "constant") document)
    ++ others_in_each part.Event (items_at (codes "event") document)
    ++ others_in_each part.Alarm (items_at (codes "alarm") document)
    ++ others_in_each part.Command (items_at (codes "command") document)
    ++ others_in_params (items_at (codes "command") document)

-- ---- the least

-- the lesser of two by bytes
abbrev pub lesser : Option (List ℕ) → List ℕ → Option (List ℕ)
lesser None name = Some name
lesser (Some least) name = if is_lt (slice_cmp nat_cmp name least) then Some name else Some least

-- the least of these and of what was the least before
abbrev pub least_of : Option (List ℕ) → List (List ℕ) → Option (List ℕ)
least_of before names = fold lesser before names
