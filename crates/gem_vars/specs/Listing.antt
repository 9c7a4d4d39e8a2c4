-- The lists of variables and constants that the host asks for.
use Rattle.std.specs.Prelude.{ℕ, List, [], ◌∷◌, map, Option, None, Some}
use Rattle.std.specs.Option.{option_map_or, unwrap_or}
use Rattle.secs_items.specs.declared.item.Item.{Item}
use Rattle.secs_items.specs.declared.item.Item.TheVariants as item
use Rattle.secs_items.specs.Items.{number_item}
use Rattle.gem_vars.specs.declared.constant.Constant.{Constant}
use Rattle.gem_vars.specs.declared.listing.Listing.{Listing}
use Rattle.gem_vars.specs.declared.listing.Listing.TheVariants as listing
use Rattle.gem_vars.specs.declared.variable.Variable.{Variable}
use Rattle.gem_vars.specs.Tables.{VarsTable, constant_in, ecids_of, constant_row_in, value_in, variable_in, vids_of}

-- the value; of a VID that isn't there an empty list (SEMI E5, S1F4)
abbrev pub value_item : VarsTable → ℕ → Item
value_item table vid = unwrap_or (value_in table vid) (item.L [])

-- SVID, SVNAME and UNITS (SEMI E5, S1F12)
abbrev pub name_row : ℕ → List ℕ → List ℕ → Item
name_row vid name units = item.L (number_item vid ∷ item.A name ∷ item.A units ∷ [])

-- of a VID that isn't there both texts are empty (SEMI E5, S1F12)
abbrev pub names_row : ℕ → Option Variable → Item
names_row vid (Some variable) = name_row vid variable.name variable.units
names_row vid None = name_row vid [] []

abbrev pub name_item : VarsTable → ℕ → Item
name_item table vid = names_row vid (variable_in table vid)

-- the value; of an ECID that isn't there an empty list (SEMI E5, S2F14)
abbrev pub constant_item : VarsTable → ℕ → Item
constant_item table ecid = option_map_or number_item (constant_in table ecid) (item.L [])

-- ECID, ECNAME, ECMIN, ECMAX, ECDEF and UNITS (SEMI E5, S2F30)
abbrev pub constant_row : ℕ → List ℕ → Item → Item → Item → List ℕ → Item
constant_row ecid name min max default units =
    item.L (number_item ecid ∷ item.A name ∷ min ∷ max ∷ default ∷ item.A units ∷ [])

-- the default is the plan's value (this profile); of an ECID that isn't there all others are empty texts (SEMI E5,
-- S2F30)
abbrev pub limits_row : ℕ → Option Constant → Item
limits_row ecid (Some constant) =
    constant_row ecid constant.name (number_item constant.min) (number_item constant.max)
    (number_item constant.default) constant.units
limits_row ecid None = constant_row ecid [] (item.A []) (item.A []) (item.A []) []

abbrev pub constant_name_item : VarsTable → ℕ → Item
constant_name_item table ecid = limits_row ecid (constant_row_in table ecid)

-- those asked for, in the order of asking; where none is asked for, all (SEMI E5, S1F3, S1F11, S2F13 and S2F29)
abbrev pub asked_of : List ℕ → List ℕ → List ℕ
asked_of all [] = all
asked_of all (id ∷ ids) = id ∷ ids

-- S1F4
abbrev pub status_values_of : VarsTable → List ℕ → Item
status_values_of table ids = item.L (map (value_item table) (asked_of (vids_of table) ids))

-- S1F12
abbrev pub status_names_of : VarsTable → List ℕ → Item
status_names_of table ids = item.L (map (name_item table) (asked_of (vids_of table) ids))

-- S2F14
abbrev pub constant_values_of : VarsTable → List ℕ → Item
constant_values_of table ids = item.L (map (constant_item table) (asked_of (ecids_of table) ids))

-- S2F30
abbrev pub constant_names_of : VarsTable → List ℕ → Item
constant_names_of table ids = item.L (map (constant_name_item table) (asked_of (ecids_of table) ids))

-- the item for an identifier, and all identifiers, by which of the four is asked for
abbrev pub item_of : VarsTable → Listing → ℕ → Item
item_of table listing.StatusValues = value_item table
item_of table listing.StatusNames = name_item table
item_of table listing.ConstantValues = constant_item table
item_of table listing.ConstantNames = constant_name_item table

abbrev pub known_ids : VarsTable → Listing → List ℕ
known_ids table listing.StatusValues = vids_of table
known_ids table listing.StatusNames = vids_of table
known_ids table listing.ConstantValues = ecids_of table
known_ids table listing.ConstantNames = ecids_of table

abbrev pub ids_of : VarsTable → Listing → List ℕ → List ℕ
ids_of table listing ids = asked_of (known_ids table listing) ids

abbrev pub items_of : VarsTable → Listing → List ℕ → List Item
items_of table listing ids = map (item_of table listing) (ids_of table listing ids)
