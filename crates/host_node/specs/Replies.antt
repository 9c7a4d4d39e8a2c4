-- What the host replies to the equipment, and what it reads in a reply.
use Rattle.std.specs.Prelude.{ℕ, Bool, false, ◌==◌, ◌&&◌, ◌||◌, List, [], ◌∷◌, length, Option, Some, None, Result, Ok, Err, if◌then◌else◌}
use Rattle.std.specs.Option.{option_map_or}
use Rattle.gem_shapes.specs.Answers.{code_item, pair_item}
use Rattle.gem_shapes.specs.Elements.{code, list_of}
use Rattle.secs_items.specs.declared.item.Item.{Item, out-Item}
use Rattle.secs_items.specs.declared.item.Item.TheVariants as item
use Rattle.secs_items.specs.declared.item_fault.ItemFault.{ItemFault}
use Rattle.secs_items.specs.Limits.{max_depth}
use Rattle.secs_items.specs.Reading.{item_at}

-- ---- what it replies

-- a report or a request that is acknowledged by a code: S5F1, S6F5, S6F11 and S10F1 (SEMI E5)
abbrev pub is_acknowledged : ℕ → ℕ → Bool
is_acknowledged stream function =
    ((stream == 5) && (function == 1)) || ((stream == 6) && ((function == 5) || (function == 11)))
    || ((stream == 10) && (function == 1))

-- S1F1 asks who is there, and S1F13 establishes communication (SEMI E5)
abbrev pub is_question : ℕ → ℕ → Bool
is_question stream function = (stream == 1) && (function == 1)

abbrev pub is_establishing : ℕ → ℕ → Bool
is_establishing stream function = (stream == 1) && (function == 13)

-- the text of S1F2 and the second part of S1F14, as a host has it (SEMI E5)
abbrev pub no_identity : Item
no_identity = item.L []

-- the reply to a primary of this stream and function, where the host knows it (SEMI E5; SEMI E30, host)
abbrev pub reply_item : ℕ → ℕ → Option Item
reply_item stream function =
    if is_question stream function then Some no_identity
    else if is_establishing stream function then Some (pair_item (code_item 0) no_identity)
    else if is_acknowledged stream function then Some (code_item 0)
    else None

-- ---- what it reads

-- the item that all of the bytes spell, if they spell one (SEMI E5)
abbrev pub alone : Item → List ℕ → Option Item
alone item [] = Some item
alone item (byte ∷ rest) = None

abbrev pub whole_item : Result (Item × List ℕ) ItemFault → Option Item
whole_item (Ok read) = alone read.0 read.1
whole_item (Err fault) = None

abbrev pub item_of : List ℕ → Option Item
item_of bytes = whole_item (item_at (length bytes) max_depth bytes)

-- L,2 of COMMACK and anything, with COMMACK 0: communication is established (SEMI E5, S1F14)
abbrev pub is_commack_zero : List Item → Bool
is_commack_zero (first ∷ second ∷ []) = option_map_or (λ commack. commack == 0) (code first) false
is_commack_zero _ = false

abbrev pub establishes_item : Item → Bool
establishes_item answer = option_map_or is_commack_zero (list_of (out-Item answer)) false

abbrev pub is_established_by : List ℕ → Bool
is_established_by body = option_map_or establishes_item (item_of body) false
