-- Reading from left to right: the value and the bytes after it, or the first fault that is met.
use Rattle.std.specs.Prelude.{◌≡◌, ◌≢◌, ℕ, zero, suc, ◌+◌, ◌-◌, ◌*◌, ◌^◌, ℤ, pos, negsuc, neg_ℤ, Bool, true, false, not, ◌&&◌, ◌||◌, ◌⊎◌, ◌==◌, nat_lt, nat_le, if◌then◌else◌, List, [], ◌∷◌, length, drop, codes, Option, Some, None, Result, Ok, Err}
use Rattle.std.specs.Option.{ok_or, option_and_then, option_map}
use Rattle.std.specs.Char.{is_ascii_digit}
use Rattle.hex.specs.Hex.{hex_digit_value}
use Rattle.secs_items.specs.declared.item.Item.{Item}
use Rattle.secs_items.specs.declared.item.Item.TheVariants as item
use Rattle.secs_items.specs.declared.kind.Kind.{Kind}
use Rattle.secs_items.specs.declared.kind.Kind.TheVariants as kind
use Rattle.secs_items.specs.Kinds.{is_list}
use Rattle.secs_items.specs.Limits.{max_depth}
use Rattle.secs_text.specs.declared.text_fault.TextFault.{TextFault}
use Rattle.secs_text.specs.declared.text_fault.TextFault.TheVariants as fault
use Rattle.secs_text.specs.Grammar.{Bounds, Kept, Free}
use Rattle.secs_text.specs.Names.{is_blank}
use Rattle.short_text.specs.Shown.{stands_for_itself}

infixl 10 ◌>>=◌
abbrev pub ◌>>=◌ : {A B : Type 0} → Result A TextFault → (A → Result B TextFault) → Result B TextFault
(Ok x) >>= f = f x
(Err e) >>= f = Err e

-- what a function returned, seen by view, is what reading gives
abbrev pub Reads : {X Y : Type 0} → (X → Y) → Result X TextFault → Result Y TextFault → Type 0
Reads view (Ok x) read = read ≡ Ok (view x)
Reads view (Err e) read = read ≡ Err e

-- the same, unless memory ran out
abbrev pub Gives : {X Y : Type 0} → (X → Y) → Result X TextFault → Result Y TextFault → Type 0
Gives view (Ok x) read = read ≡ Ok (view x)
Gives view (Err e) read = e ≢ fault.NoMemory → read ≡ Err e

-- a reader of values at the front of what is left of the total bytes
abbrev pub Reader : Type 0 → Type 0
Reader T = ℕ → List ℕ → Result (T × List ℕ) TextFault

-- no text has what stands at the front of the rest
abbrev pub syntax_fault : {A : Type 0} → ℕ → List ℕ → Result A TextFault
syntax_fault total rest = Err (fault.Syntax (total - length rest))

-- what is left after the blanks at the front
abbrev pub after_blanks : List ℕ → List ℕ
after_blanks [] = []
after_blanks (b ∷ rest) = if is_blank b then after_blanks rest else b ∷ rest

-- what is left after this byte
abbrev pub after_byte : ℕ → ℕ → List ℕ → Result (List ℕ) TextFault
after_byte wanted total [] = Err (fault.Syntax total)
after_byte wanted total (b ∷ rest) = if b == wanted then Ok rest else Err (fault.Syntax (total - suc (length rest)))

-- what is left after these bytes
abbrev pub after_word : List ℕ → ℕ → List ℕ → Result (List ℕ) TextFault
after_word [] total bytes = Ok bytes
after_word (b ∷ word) total bytes = after_byte b total bytes >>= after_word word total

-- what is left after any blanks and `>`
abbrev pub after_end : ℕ → List ℕ → Result (List ℕ) TextFault
after_end total bytes = after_byte 62 total (after_blanks bytes)

-- what is left after some blanks
abbrev pub after_space : ℕ → List ℕ → Result (List ℕ) TextFault
after_space total bytes =
    if length (after_blanks bytes) == length bytes then syntax_fault total bytes
    else Ok (after_blanks bytes)

-- one byte that the table has a value for
abbrev pub byte_in : {T : Type 0} → (ℕ → Option T) → Reader T
byte_in table total [] = Err (fault.Syntax total)
byte_in table total (b ∷ rest) =
    ok_or (table b) (fault.Syntax (total - suc (length rest))) >>= λ value. Ok (value, rest)

-- ---- names

abbrev pub integer_kind : ℕ → Option Kind
integer_kind digit =
    if digit == 49 then Some kind.I1
    else if digit == 50 then Some kind.I2
    else if digit == 52 then Some kind.I4
    else if digit == 56 then Some kind.I8
    else None

abbrev pub unsigned_kind : ℕ → Option Kind
unsigned_kind digit =
    if digit == 49 then Some kind.U1
    else if digit == 50 then Some kind.U2
    else if digit == 52 then Some kind.U4
    else if digit == 56 then Some kind.U8
    else None

abbrev pub float_kind : ℕ → Option Kind
float_kind digit =
    if digit == 52 then Some kind.F4
    else if digit == 56 then Some kind.F8
    else None

abbrev pub begins : ℕ → List ℕ → Bool
begins wanted [] = false
begins wanted (b ∷ rest) = b == wanted

-- B or BOOLEAN, behind the B
unfoldable pub binary_at : Reader Kind
binary_at total bytes =
    if begins 79 bytes then (after_word (codes "OOLEAN") total bytes >>= λ rest. Ok (kind.Bool, rest))
    else Ok (kind.B, bytes)

-- a kind's name
unfoldable pub name_at : Reader Kind
name_at total [] = Err (fault.Syntax total)
name_at total (letter ∷ rest) =
    if letter == 76 then Ok (kind.L, rest)
    else if letter == 65 then Ok (kind.A, rest)
    else if letter == 74 then Ok (kind.J, rest)
    else if letter == 66 then binary_at total rest
    else if letter == 73 then byte_in integer_kind total rest
    else if letter == 85 then byte_in unsigned_kind total rest
    else if letter == 70 then byte_in float_kind total rest
    else Err (fault.Syntax (total - suc (length rest)))

-- `<` and a name
unfoldable pub kind_at : Reader Kind
kind_at total bytes = after_byte 60 total bytes >>= name_at total

-- ---- elements

-- What stands at a place in a run of elements: its end, and what is left after it, or an element.
pub data Next : Type 0 where
  Ends : List ℕ → Next
  Goes : List ℕ → Next

abbrev pub each_from :
    {T : Type 0} → (List ℕ → Result (List T × List ℕ) TextFault) → (List ℕ → Result (T × List ℕ) TextFault) → Next
    → Result (List T × List ℕ) TextFault
each_from each one (Ends rest) = Ok ([], rest)
each_from each one (Goes rest) = do
  first ← one rest
  others ← each first.1
  Ok (first.0 ∷ others.0, others.1)

-- Values one after another, up to the end that next finds. There are no more of them than bytes.
abbrev pub each_at : {T : Type 0} → (ℕ → List ℕ → Result Next TextFault) → Reader T → ℕ → Reader (List T)
each_at next one zero total bytes = syntax_fault total bytes
each_at next one (suc most) total bytes = next total bytes >>= each_from (each_at next one most total) (one total)

-- `>` after any blanks, or an element after some
unfoldable pub element_next : ℕ → List ℕ → Result Next TextFault
element_next total bytes =
    let after = after_blanks bytes in
    if begins 62 after then Ok (Ends (drop 1 after))
    else if length after == length bytes then syntax_fault total bytes
    else Ok (Goes after)

abbrev pub elements_at : {T : Type 0} → Reader T → Reader (List T)
elements_at one total bytes = each_at element_next one (length bytes) total bytes

-- a byte as two hex digits
unfoldable pub hex_byte_at : Reader ℕ
hex_byte_at total bytes = do
  high ← byte_in hex_digit_value total bytes
  low ← byte_in hex_digit_value total high.1
  Ok (16 * high.0 + low.0, low.1)

-- so many bytes in hex
abbrev pub hex_bytes_at : ℕ → Reader (List ℕ)
hex_bytes_at zero total bytes = Ok ([], bytes)
hex_bytes_at (suc size) total bytes = do
  byte ← hex_byte_at total bytes
  others ← hex_bytes_at size total byte.1
  Ok (byte.0 ∷ others.0, others.1)

-- whether a byte that doesn't stand for itself has this as its high four bits
abbrev pub begins_escape : ℕ → Bool
begins_escape high = not (high == 3 || high == 4 || high == 6)

-- the two digits of a byte that doesn't stand for itself
unfoldable pub escape_at : Reader ℕ
escape_at total bytes = do
  high ← byte_in hex_digit_value total bytes
  low ← if begins_escape high.0 then byte_in hex_digit_value total high.1 else syntax_fault total bytes
  if stands_for_itself (16 * high.0 + low.0) then syntax_fault total high.1 else Ok (16 * high.0 + low.0, low.1)

-- a byte between quotes
unfoldable pub shown_at : Reader ℕ
shown_at total [] = Err (fault.Syntax total)
shown_at total (b ∷ rest) =
    if stands_for_itself b then Ok (b, rest)
    else if b == 92 then (after_byte 120 total rest >>= escape_at total)
    else Err (fault.Syntax (total - suc (length rest)))

-- the closing quote, or a byte
unfoldable pub shown_next : ℕ → List ℕ → Result Next TextFault
shown_next total bytes = if begins 34 bytes then Ok (Ends (drop 1 bytes)) else Ok (Goes bytes)

-- the bytes of a quoted text up to the quote that ends it
abbrev pub all_shown_at : Reader (List ℕ)
all_shown_at total bytes = each_at shown_next shown_at (length bytes) total bytes

-- a text in quotes
unfoldable pub quoted_at : Reader (List ℕ)
quoted_at total bytes = after_byte 34 total bytes >>= λ inner. all_shown_at total inner

-- the one text of an A, after some blanks, and the end of the A
unfoldable pub text_at : Reader (List ℕ)
text_at total bytes = do
  front ← after_space total bytes
  text ← quoted_at total front
  rest ← after_end total text.1
  Ok (text.0, rest)

-- ---- numbers

-- the number that the digits at the front go on to, behind a number
abbrev pub digits_from : ℕ → List ℕ → ℕ × List ℕ
digits_from n [] = (n, [])
digits_from n (b ∷ rest) = if is_ascii_digit b then digits_from (10 * n + (b - 48)) rest else (n, b ∷ rest)

-- a number that 64 bits hold
abbrev pub as_u64 : ℕ → Option ℕ
as_u64 n = if nat_lt n (2 ^ 64) then Some n else None

-- the number of this sign and magnitude
abbrev pub with_sign : Bool → ℕ → ℤ
with_sign negative n = if negative then neg_ℤ (pos n) else pos n

abbrev pub value_of : Bool → Option ℕ → Option ℤ
value_of negative n = option_map (with_sign negative) n

-- A number, where 64 bits hold its magnitude: no kind has larger ones. The first digit isn't 0.
unfoldable pub magnitude_at : Bool → Reader (Option ℤ)
magnitude_at negative total [] = Err (fault.Syntax total)
magnitude_at negative total (b ∷ rest) =
    if nat_le 49 b && nat_le b 57 then
    Ok (value_of negative (as_u64 (digits_from (b - 48) rest).0), (digits_from (b - 48) rest).1)
    else Err (fault.Syntax (total - suc (length rest)))

-- a number without leading zeros; -0 is none
unfoldable pub number_at : Reader (Option ℤ)
number_at total bytes =
    if begins 48 bytes then Ok (Some (pos 0), drop 1 bytes)
    else if begins 45 bytes then magnitude_at true total (drop 1 bytes)
    else magnitude_at false total bytes

-- the number, where it is below the limit and not negative
abbrev pub as_unsigned : ℕ → Option ℤ → Option ℕ
as_unsigned limit (Some (pos n)) = if nat_lt n limit then Some n else None
as_unsigned limit (Some (negsuc n)) = None
as_unsigned limit None = None

-- whether a number is at least -half and below half
abbrev pub is_within : ℕ → ℤ → Bool
is_within half (pos n) = nat_lt n half
is_within half (negsuc n) = nat_lt n half

-- the number, where it is at least -half and below half
abbrev pub as_signed : ℕ → Option ℤ → Option ℤ
as_signed half n = option_and_then (λ z. if is_within half z then Some z else None) n

-- a number of a kind; Range names its place
abbrev pub within_at : {T : Type 0} → (Option ℤ → Option T) → Reader T
within_at fits total bytes = do
  n ← number_at total bytes
  value ← ok_or (fits n.0) (fault.Range (total - length bytes))
  Ok (value, n.1)

abbrev pub unsigned_at : ℕ → Reader ℕ
unsigned_at bits = within_at (as_unsigned (2 ^ bits))

abbrev pub signed_at : ℕ → Reader ℤ
signed_at bits = within_at (as_signed (2 ^ (bits - 1)))

-- the same where bounds are kept, else any number, for which 0 is given
abbrev pub unsigned_of : Bounds → ℕ → Reader ℕ
unsigned_of Kept bits = unsigned_at bits
unsigned_of Free bits = within_at (λ n. Some 0)

abbrev pub signed_of : Bounds → ℕ → Reader ℤ
signed_of Kept bits = signed_at bits
signed_of Free bits = within_at (λ n. Some (pos 0))

-- ---- items

abbrev pub item_of : {T : Type 0} → (T → Item) → Result (T × List ℕ) TextFault → Result (Item × List ℕ) TextFault
item_of make read = read >>= λ x. Ok (make x.0, x.1)

-- an item behind its name, where one reads each item of a list
unfoldable pub elements_of : Bounds → Reader Item → Kind → Reader Item
elements_of bounds one kind.L total bytes = item_of item.L (elements_at one total bytes)
elements_of bounds one kind.B total bytes = item_of item.B (elements_at hex_byte_at total bytes)
elements_of bounds one kind.Bool total bytes = item_of item.Bool (elements_at hex_byte_at total bytes)
elements_of bounds one kind.A total bytes = item_of item.A (text_at total bytes)
elements_of bounds one kind.J total bytes = item_of item.J (elements_at hex_byte_at total bytes)
elements_of bounds one kind.I1 total bytes = item_of item.I1 (elements_at (signed_of bounds 8) total bytes)
elements_of bounds one kind.I2 total bytes = item_of item.I2 (elements_at (signed_of bounds 16) total bytes)
elements_of bounds one kind.I4 total bytes = item_of item.I4 (elements_at (signed_of bounds 32) total bytes)
elements_of bounds one kind.I8 total bytes = item_of item.I8 (elements_at (signed_of bounds 64) total bytes)
elements_of bounds one kind.U1 total bytes = item_of item.U1 (elements_at (unsigned_of bounds 8) total bytes)
elements_of bounds one kind.U2 total bytes = item_of item.U2 (elements_at (unsigned_of bounds 16) total bytes)
elements_of bounds one kind.U4 total bytes = item_of item.U4 (elements_at (unsigned_of bounds 32) total bytes)
elements_of bounds one kind.U8 total bytes = item_of item.U8 (elements_at (unsigned_of bounds 64) total bytes)
elements_of bounds one kind.F4 total bytes = item_of item.F4 (elements_at (hex_bytes_at 4) total bytes)
elements_of bounds one kind.F8 total bytes = item_of item.F8 (elements_at (hex_bytes_at 8) total bytes)

-- an item that begins at a place where no list may
abbrev pub shallow_at : Bounds → ℕ → List ℕ → Kind × List ℕ → Result (Item × List ℕ) TextFault
shallow_at bounds total bytes k =
    if is_list k.0 then Err (fault.TooDeep (total - length bytes))
    else elements_of bounds (λ total bytes. syntax_fault total bytes) k.0 total k.1

-- one item, in which lists may nest so deep
unfoldable pub item_at : Bounds → ℕ → Reader Item
item_at bounds zero total bytes = kind_at total bytes >>= shallow_at bounds total bytes
item_at bounds (suc depth) total bytes =
    kind_at total bytes >>= λ k. elements_of bounds (item_at bounds depth) k.0 total k.1

abbrev pub whole : ℕ → Item × List ℕ → Result Item TextFault
whole total x = if length (after_blanks x.1) == 0 then Ok x.0 else syntax_fault total (after_blanks x.1)

-- the one item that is all of the text, with any blanks at both ends
unfoldable pub read_within : Bounds → ℕ → List ℕ → Result Item TextFault
read_within bounds depth text = item_at bounds depth (length text) (after_blanks text) >>= whole (length text)

-- the same where bounds are kept and no list stands in more than 63 others (this profile)
abbrev pub read_text : List ℕ → Result Item TextFault
read_text = read_within Kept max_depth

abbrev pub fault_of : Result Item TextFault → Option TextFault
fault_of (Ok item) = None
fault_of (Err e) = Some e

-- the fault that reading meets; HasFault says which it is by the grammar alone
abbrev pub first_text_fault : List ℕ → Option TextFault
first_text_fault text = fault_of (read_text text)

-- an item that is no list: what a list's items would be read by makes no difference
abbrev pub GivesLeaf : {X : Type 0} → (X → Item × List ℕ) → Result X TextFault → Kind → ℕ → List ℕ → Type 0
GivesLeaf view result kind total bytes = (one : Reader Item) → Gives view result (elements_of Kept one kind total bytes)

-- the value that was read is this one, unless memory ran out
abbrev pub ReadsOnly : Item → Result Item TextFault → Type 0
ReadsOnly item (Ok read) = read ≡ item
ReadsOnly item (Err e) = e ≡ fault.NoMemory

-- the fault that was named is this one, unless memory ran out
abbrev pub FailsOnly : TextFault → Result Item TextFault → Type 0
FailsOnly named (Ok read) = ⊥
FailsOnly named (Err e) = (e ≡ named) ⊎ (e ≡ fault.NoMemory)
