-- Which settings are refused, and why.
use Rattle.std.specs.Prelude.{◌≡◌, ◌≢◌, ◌==◌, ◌&&◌, ℕ, Bool, List, [], ◌∷◌, length, nat_le, if◌then◌else◌, Option, Some, None, Result, Ok, Err}
use Rattle.std.specs.Option.{option_map_or, unwrap_or}
use Rattle.secs_items.specs.declared.item.Item.{Item, out-Item}
use Rattle.secs_items.specs.Kinds.{code_of}
use Rattle.secs_items.specs.Layers.{kind_of}
use Rattle.secs_items.specs.Measures.{depth_of}
use Rattle.secs_items.specs.Spelling.{shortest_spelling}
use Rattle.gem_vars.specs.declared.constant.Constant.{Constant}
use Rattle.gem_vars.specs.declared.settings.Eac.{Eac}
use Rattle.gem_vars.specs.declared.settings.Eac.TheVariants as eac
use Rattle.gem_vars.specs.declared.settings.Setting.{Setting}
use Rattle.gem_vars.specs.declared.settings.Setting.TheVariants as setting
use Rattle.gem_vars.specs.Tables.{VarsTable, constant_row_in, value_in}

-- A value is short and shallow enough for the body of an event, which puts four lists round it (this profile).
abbrev pub value_fits : Item → Bool
value_fits value = nat_le (length (shortest_spelling value)) 4096 && nat_le (depth_of value) 60

-- two items are of one kind, by their codes (SEMI E5, item formats)
abbrev pub same_kind : Item → Item → Bool
same_kind a b = code_of (kind_of (out-Item a)) == code_of (kind_of (out-Item b))

-- the first test that a value doesn't pass for a variable that holds another: it is of that kind, and it fits (this
-- profile)
abbrev pub value_refusal : ℕ → Item → Item → Option Setting
value_refusal vid value held =
    if same_kind held value then if value_fits value then None else Some (setting.TooLong vid)
    else Some (setting.Kind vid)

abbrev pub refusal_of : VarsTable → ℕ → Item → Option Setting
refusal_of table vid value =
    option_map_or (value_refusal vid value) (value_in table vid) (Some (setting.Unknown vid))

-- the answer to a setting is its refusal, if it has one, unless memory runs out
abbrev pub SetAnswers : Option Setting → Result (Unit {0}) Setting → Type 0
SetAnswers refusal (Ok _) = refusal ≡ None
SetAnswers refusal (Err e) = e ≢ setting.NoMemory → refusal ≡ Some e

abbrev pub is_within : ℕ → ℕ → ℕ → Bool
is_within min max value = nat_le min value && nat_le value max

-- what is wrong with a constant's new value, if anything (SEMI E5, EAC)
abbrev pub range_fault : ℕ → ℕ → Constant → Option Eac
range_fault ecid value constant =
    if is_within constant.min constant.max value then None else Some (eac.OutOfRange ecid)

abbrev pub entry_fault : VarsTable → ℕ × ℕ → Option Eac
entry_fault table e =
    option_map_or (range_fault e.0 e.1) (constant_row_in table e.0) (Some (eac.Unknown e.0))

-- what is wrong with the first bad entry of S2F15, and otherwise that all is done (SEMI E5, EAC)
abbrev pub eac_of : VarsTable → List (ℕ × ℕ) → Eac
eac_of table [] = eac.Done
eac_of table (e ∷ list) = unwrap_or (entry_fault table e) (eac_of table list)
