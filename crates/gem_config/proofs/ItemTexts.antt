-- The item of a text, or none.
use Rattle.std.proofs.Common.{◌≡◌, ℕ, List, Some, None, Result, Ok, Err, refl, ap}
use Rattle.secs_items.specs.declared.item.Item.{Item}
use Rattle.secs_text.specs.declared.text_fault.TextFault.{TextFault}
use Rattle.secs_text.specs.Grammar.{ReadsAs}
use Rattle.secs_text.specs.Faults.{HasFault}
use Rattle.secs_text.specs.Reading.{fault_of, read_text}
use Rattle.secs_text.proofs.FaultLaws.{met_fault}
use Rattle.secs_text.proofs.TextLaws.{as_read}
use Rattle.gem_config.specs.Values.{found, item_in}

pub item_again : (text : List ℕ) (item : Item) → ReadsAs text item → item_in text ≡ Some item
item_again text item r = ap found (as_read text item r)

none_found : (r : Result Item TextFault) (e : TextFault) → fault_of r ≡ Some e → found r ≡ None
none_found (Ok item) e h = absurd cc
none_found (Err f) e h = refl

-- a text that has a fault reads as none
pub no_item : (text : List ℕ) (e : TextFault) → HasFault text e → item_in text ≡ None
no_item text e has = none_found (read_text text) e (met_fault text e has)
