-- Which fault a text has, in the words of the grammar (this profile).
use Rattle.std.specs.Prelude.{◌≡◌, ℕ, ◌+◌, ◌≤◌, ◌<◌, Bool, true, false, List, [], ◌∷◌, ◌++◌, length, take, drop}
use Rattle.std.specs.Char.{is_ascii_digit}
use Rattle.secs_items.specs.declared.item.Item.{Item}
use Rattle.secs_text.specs.declared.text_fault.TextFault.{TextFault}
use Rattle.secs_text.specs.declared.text_fault.TextFault.TheVariants as fault
use Rattle.secs_text.specs.Grammar.{IsFormed, IsNumeral, ReadsAs}
use Rattle.secs_text.specs.Names.{is_blank}

-- some text that reads as an item begins so
abbrev pub Begins : List ℕ → Type 0
Begins front = (more : List ℕ) × (item : Item) × ReadsAs (front ++ more) item

-- some text of the form begins so
abbrev pub BeginsForm : List ℕ → Type 0
BeginsForm front = (more : List ℕ) × IsFormed (front ++ more)

-- ---- where the form breaks

-- What stands before the place begins a text of the form. With the byte at the place nothing does; or the text ends
-- there and isn't such a text.
pub record BreaksAt (at : ℕ) (text : List ℕ) : Type 0 where
  pub within : at ≤ length text
  pub front : BeginsForm (take at text)
  pub byte : at < length text → BeginsForm (take (at + 1) text) → ⊥
  pub unfinished : IsFormed text → ⊥

-- ---- what passes a limit

-- a digit stands at the front
abbrev pub digit_first : List ℕ → Bool
digit_first [] = false
digit_first (b ∷ rest) = is_ascii_digit b

-- a blank stands at the end
abbrev pub EndsInBlank : List ℕ → Type 0
EndsInBlank front = (before : List ℕ) × (b : ℕ) × (front ≡ before ++ b ∷ []) × (is_blank b ≡ true)

-- A number stands at the place, right behind a blank and up to its last digit. The form has a number there; what stands
-- before it begins a text that reads, and with the number nothing does.
pub record IsOutsideAt (at : ℕ) (text : List ℕ) : Type 0 where
  pub number : List ℕ
  pub rest : List ℕ
  pub stands : drop at text ≡ number ++ rest
  pub parted : EndsInBlank (take at text)
  pub numeral : IsNumeral number
  pub last : digit_first rest ≡ false
  pub formed : BeginsForm (take at text ++ number)
  pub front : Begins (take at text)
  pub outside : Begins (take at text ++ number) → ⊥

-- `<L` stands at the place, where the form has a list. With `<` alone some text begins that reads, with both bytes none
-- does.
pub record IsTooDeepAt (at : ℕ) (text : List ℕ) : Type 0 where
  pub rest : List ℕ
  pub stands : drop at text ≡ 60 ∷ 76 ∷ rest
  pub formed : BeginsForm (take at text ++ 60 ∷ 76 ∷ [])
  pub front : Begins (take at text ++ 60 ∷ [])
  pub deep : Begins (take at text ++ 60 ∷ 76 ∷ []) → ⊥

-- The form breaks at the place, and no number or list of the text passes a limit (behind the place none can).
pub record IsBrokenAt (at : ℕ) (text : List ℕ) : Type 0 where
  pub breaks : BreaksAt at text
  pub numbers : (place : ℕ) → IsOutsideAt place text → ⊥
  pub lists : (place : ℕ) → IsTooDeepAt place text → ⊥

-- the text has this fault
abbrev pub HasFault : List ℕ → TextFault → Type 0
HasFault text (fault.Syntax at) = IsBrokenAt at text
HasFault text (fault.Range at) = IsOutsideAt at text
HasFault text (fault.TooDeep at) = IsTooDeepAt at text
HasFault text fault.NoMemory = ⊥
