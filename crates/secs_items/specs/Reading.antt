-- Reading from left to right: the value and the bytes after it, or the first fault that is met.
use Rattle.std.specs.Prelude.{◌≡◌, ◌≢◌, ℕ, zero, suc, ◌+◌, ◌-◌, ◌*◌, ◌/◌, ◌%◌, not, ◌&&◌, ◌==◌, nat_lt, if◌then◌else◌, List, [], ◌∷◌, length, take, drop, fold, Option, Some, None, Result, Ok, Err}
use Rattle.std.specs.Int.{w8, w16, w32, w64, from_be_bytes}
use Rattle.std.specs.Option.{ok_or}
use Rattle.secs_items.specs.declared.item.Item.{Item}
use Rattle.secs_items.specs.declared.item.Item.TheVariants as item
use Rattle.secs_items.specs.declared.item_fault.ItemFault.{ItemFault}
use Rattle.secs_items.specs.declared.item_fault.ItemFault.TheVariants as fault
use Rattle.secs_items.specs.declared.kind.Kind.{Kind}
use Rattle.secs_items.specs.declared.kind.Kind.TheVariants as kind
use Rattle.secs_items.specs.Elements.{elements_at, signed_at}
use Rattle.secs_items.specs.Kinds.{kind_with, unit_of, is_list}
use Rattle.secs_items.specs.Limits.{max_depth}

infixl 10 ◌>>=◌
abbrev pub ◌>>=◌ : {A B : Type 0} → Result A ItemFault → (A → Result B ItemFault) → Result B ItemFault
(Ok x) >>= f = f x
(Err e) >>= f = Err e

-- what a function returned, seen by view, is what reading gives, unless memory ran out
abbrev pub Gives : {X Y : Type 0} → (X → Y) → Result X ItemFault → Result Y ItemFault → Type 0
Gives view (Ok x) read = read ≡ Ok (view x)
Gives view (Err e) read = e ≢ fault.NoMemory → read ≡ Err e

-- the number that bytes are, high byte first
abbrev pub number_from : List ℕ → ℕ
number_from = fold (λ n byte. 256 * n + byte) 0

-- a kind, a length, and the bytes after both
pub record Head : Type 0 where
  pub kind : Kind
  pub size : ℕ
  pub rest : List ℕ

-- the kind and the number of length bytes that a format byte has, at a place where lists may still nest so deep
unfoldable pub format_at : ℕ → ℕ → ℕ → Result (Kind × ℕ) ItemFault
format_at at depth format = do
  kind ← ok_or (kind_with (format / 4)) (fault.BadCode at)
  if format % 4 == 0 then Err (fault.NoLengthBytes at)
      else if is_list kind && depth == 0 then Err (fault.TooDeep at)
      else Ok (kind, format % 4)

-- the length in so many bytes, for an item at a place; Short names the end of the total bytes
unfoldable pub size_at : ℕ → ℕ → Kind → ℕ → List ℕ → Result Head ItemFault
size_at total at kind count bytes =
    let size = number_from (take count bytes) in
    let rest = drop count bytes in
    if nat_lt (length bytes) count then Err (fault.Short total)
    else if not (size % unit_of kind == 0) then Err (fault.Uneven at)
    else if not (is_list kind) && nat_lt (length rest) size then Err (fault.Short total)
    else Ok (record { kind = kind; size = size; rest = rest })

-- the head of an item at the front of what is left of the total bytes
unfoldable pub head_at : ℕ → ℕ → List ℕ → Result Head ItemFault
head_at total depth [] = Err (fault.Short total)
head_at total depth (format ∷ bytes) = do
  f ← format_at (total - suc (length bytes)) depth format
  size_at total (total - suc (length bytes)) f.0 f.1 bytes

-- what is left after so many items, one by one
abbrev pub after_each : (List ℕ → Result (List ℕ) ItemFault) → ℕ → List ℕ → Result (List ℕ) ItemFault
after_each after zero bytes = Ok bytes
after_each after (suc count) bytes = after bytes >>= after_each after count

-- what is left after the content behind a head
abbrev pub after_content : (List ℕ → Result (List ℕ) ItemFault) → Head → Result (List ℕ) ItemFault
after_content after h = if is_list h.kind then after_each after h.size h.rest else Ok (drop h.size h.rest)

-- What is left after one item, in which lists may nest so deep, of the total bytes. No head of a list is read where
-- none may stand.
unfoldable pub after_item : ℕ → ℕ → List ℕ → Result (List ℕ) ItemFault
after_item total zero bytes = head_at total zero bytes >>= λ h. Ok (drop h.size h.rest)
after_item total (suc depth) bytes = head_at total (suc depth) bytes >>= after_content (after_item total depth)

-- what is left after the content behind a head, where lists may nest so deep with the item itself
abbrev pub after_behind : ℕ → ℕ → Head → Result (List ℕ) ItemFault
after_behind total depth = after_content (after_item total (depth - 1))

abbrev pub fault_after : ℕ → Result (List ℕ) ItemFault → Option ItemFault
fault_after total (Err e) = Some e
fault_after total (Ok []) = None
fault_after total (Ok (b ∷ rest)) = Some (fault.Trailing (total - suc (length rest)))

-- The first fault of bytes that are to be one item, if they have one. No list stands in more than 63 others (this
-- profile).
unfoldable pub first_fault : List ℕ → Option ItemFault
first_fault bytes = fault_after (length bytes) (after_item (length bytes) max_depth bytes)

-- An item that is no list, from its content. There is no such list.
abbrev pub leaf_of : Kind → List ℕ → Item
leaf_of kind.L bytes = item.L []
leaf_of kind.B bytes = item.B bytes
leaf_of kind.Bool bytes = item.Bool bytes
leaf_of kind.A bytes = item.A bytes
leaf_of kind.J bytes = item.J bytes
leaf_of kind.I1 bytes = item.I1 (elements_at (signed_at w8) 1 (length bytes / 1) bytes)
leaf_of kind.I2 bytes = item.I2 (elements_at (signed_at w16) 2 (length bytes / 2) bytes)
leaf_of kind.I4 bytes = item.I4 (elements_at (signed_at w32) 4 (length bytes / 4) bytes)
leaf_of kind.I8 bytes = item.I8 (elements_at (signed_at w64) 8 (length bytes / 8) bytes)
leaf_of kind.U1 bytes = item.U1 bytes
leaf_of kind.U2 bytes = item.U2 (elements_at (from_be_bytes w16) 2 (length bytes / 2) bytes)
leaf_of kind.U4 bytes = item.U4 (elements_at (from_be_bytes w32) 4 (length bytes / 4) bytes)
leaf_of kind.U8 bytes = item.U8 (elements_at (from_be_bytes w64) 8 (length bytes / 8) bytes)
leaf_of kind.F4 bytes = item.F4 (elements_at (λ raw. raw) 4 (length bytes / 4) bytes)
leaf_of kind.F8 bytes = item.F8 (elements_at (λ raw. raw) 8 (length bytes / 8) bytes)

-- so many items, one by one
abbrev pub items_at : (List ℕ → Result (Item × List ℕ) ItemFault) → ℕ → List ℕ → Result (List Item × List ℕ) ItemFault
items_at one zero bytes = Ok ([], bytes)
items_at one (suc count) bytes = do
  first ← one bytes
  others ← items_at one count first.1
  Ok (first.0 ∷ others.0, others.1)

abbrev pub leaf_at : Head → Result (Item × List ℕ) ItemFault
leaf_at h = Ok (leaf_of h.kind (take h.size h.rest), drop h.size h.rest)

abbrev pub list_at : (List ℕ → Result (Item × List ℕ) ItemFault) → Head → Result (Item × List ℕ) ItemFault
list_at one h = do
  items ← items_at one h.size h.rest
  Ok (item.L items.0, items.1)

abbrev pub content_at : (List ℕ → Result (Item × List ℕ) ItemFault) → Head → Result (Item × List ℕ) ItemFault
content_at one h = if is_list h.kind then list_at one h else leaf_at h

-- one item, as after_item, with its value
unfoldable pub item_at : ℕ → ℕ → List ℕ → Result (Item × List ℕ) ItemFault
item_at total zero bytes = head_at total zero bytes >>= leaf_at
item_at total (suc depth) bytes = head_at total (suc depth) bytes >>= content_at (item_at total depth)

-- the value that was read is this one, unless memory ran out
abbrev pub ReadsOnly : Item → Result Item ItemFault → Type 0
ReadsOnly item (Ok read) = read ≡ item
ReadsOnly item (Err e) = e ≡ fault.NoMemory
