-- What is shown of a message's text.
use Rattle.std.proofs.Common.{◌≡◌, ◌≢◌, ◌==◌, ℕ, true, false, List, [], ◌∷◌, ◌++◌, length, Option, Some, None, Result, Ok, Err, refl, sym, ap, ◌∙◌}
use Rattle.std.specs.Prelude.{OnOk, codes}
use Rattle.gl_base.specs.declared.no_memory.NoMemory.{NoMemory}
use Rattle.secs_items.specs.declared.item.Item.{Item}
use Rattle.secs_items.specs.declared.item_fault.ItemFault.{ItemFault}
use Rattle.secs_items.specs.declared.item_fault.ItemFault.TheVariants as fault
use Rattle.secs_items.specs.Reading as reading
use Rattle.secs_items.specs.Reading.{after_item, fault_after, first_fault, item_at}
use Rattle.secs_items.specs.Spelling.{Spells}
use Rattle.secs_items.proofs.Faults.{item_rest, rest_of}
use Rattle.secs_items.proofs.SpellLaws.{spells_read}
use Rattle.secs_text.specs.Text.{text_of}
use Rattle.line_show.specs.Bodies.{all_of, body_text, fault_text, item_of, read_text}

-- the fault of what was read, if it has one
abbrev fault_in : Result Item ItemFault → Option ItemFault
fault_in (Ok item) = None
fault_in (Err e) = Some e

same_fault : (total : ℕ) (read : Result (Item × List ℕ) ItemFault)
    → fault_in (all_of total read) ≡ fault_after total (rest_of read)
same_fault total (Err e) = refl
same_fault total (Ok (item, [])) = refl
same_fault total (Ok (item, b ∷ rest)) = refl

first_fault_in : (bytes : List ℕ) → fault_in (item_of bytes) ≡ first_fault bytes
unfolding first_fault
first_fault_in bytes =
    same_fault (length bytes) (item_at (length bytes) 64 bytes)
    ∙ ap (fault_after (length bytes)) (sym (item_rest (length bytes) 64 bytes))

is_fault : (read : Result Item ItemFault) (fault : ItemFault) → fault_in read ≡ Some fault → read ≡ Err fault
is_fault (Ok item) fault is = cc
is_fault (Err e) fault is = let same : e ≡ fault = cc in ap Err same

pub item_of-spelled : (item : Item) (bytes : List ℕ) → Spells item bytes → item_of bytes ≡ Ok item
item_of-spelled item bytes spelled = ap (all_of (length bytes)) (spells_read (length bytes) item bytes spelled)

pub item_of-fault : (bytes : List ℕ) (fault : ItemFault) → first_fault bytes ≡ Some fault → item_of bytes ≡ Err fault
item_of-fault bytes fault is = is_fault (item_of bytes) fault (first_fault_in bytes ∙ is)

-- a text that is there
pub body_text-some : (body : List ℕ) → body ≢ [] → body_text body ≡ read_text (item_of body)
body_text-some [] some = absurd (some refl)
body_text-some (b ∷ bytes) some = refl

nothing_fault : first_fault [] ≡ Some (fault.Short 0)
unfolding first_fault after_item reading.head_at
nothing_fault = refl

-- no item has a spelling without bytes
some_spelled : (item : Item) (body : List ℕ) → Spells item body → body ≢ []
some_spelled item body spelled nothing =
    let read : Ok item ≡ item_of [] = sym (item_of-spelled item body spelled) ∙ ap item_of nothing in
    let none : item_of [] ≡ Err (fault.Short 0) = item_of-fault [] (fault.Short 0) nothing_fault in
    cc

pub body_text-item : (item : Item) (body : List ℕ) → Spells item body → body_text body ≡ text_of item
body_text-item item body spelled = body_text-some body (some_spelled item body spelled)
    ∙ ap read_text (item_of-spelled item body spelled)

pub body_text-fault : (body : List ℕ) (fault : ItemFault) → body ≢ [] → first_fault body ≡ Some fault
    → body_text body ≡ codes "bad " ++ fault_text fault
body_text-fault body fault some is = body_text-some body some ∙ ap read_text (item_of-fault body fault is)

something : (body : List ℕ) → length body == 0 ≡ false → body ≢ []
something body some nothing = let none : length body == 0 ≡ true = ap (λ (all : List ℕ). length all == 0) nothing in cc

-- a text of which the fault was put
pub bad_shown : (body page page' : List ℕ) (found : ItemFault) (result : Result (Unit {0}) NoMemory)
    → length body == 0 ≡ false →
    (found ≢ fault.NoMemory → first_fault body ≡ Some found)
    → OnOk result (page' ≡ page ++ (codes "bad " ++ fault_text found)) →
    OnOk result (found ≢ fault.NoMemory) → OnOk result (page' ≡ page ++ body_text body)
bad_shown body page page' found (Ok done) some first put named =
    put ∙ ap (λ (text : List ℕ). page ++ text) (sym (body_text-fault body found (something body some) (first named)))
bad_shown body page page' found (Err e) some first put named = tt
