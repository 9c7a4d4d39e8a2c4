-- What holds of all words.
use Rattle.std.specs.Prelude.{◌≡◌, ◌≢◌, ◌==◌, ◌++◌, ℕ, Bool, true, not, List, [], ◌∷◌, codes, Some, None}
use Rattle.command_words.specs.Asked.{Drop, Equipment, Format, Host, JournalHost, JournalReplay, Make, Replay, Spool}
use Rattle.command_words.specs.Numbers.{number_in}
use Rattle.command_words.specs.Words.{asked_of}

-- the word is the name of no command
pub record IsNoName (word : List ℕ) : Type 0 where
  pub show : word ≢ codes "show"
  pub spell : word ≢ codes "spell"
  pub replay : word ≢ codes "replay"
  pub equipment : word ≢ codes "equipment"
  pub host : word ≢ codes "host"
  pub format : word ≢ codes "format"
  pub spool : word ≢ codes "spool"
  pub drop : word ≢ codes "drop"
  pub make : word ≢ codes "make"

-- words that begin with no name are refused
abbrev pub RefusesOtherNames : Type 0
RefusesOtherNames = (word : List ℕ) (words : List (List ℕ)) → IsNoName word → asked_of (word ∷ words) ≡ None

-- the text begins with no hyphen (45), so it can't be taken for an option
abbrev pub is_plain : List ℕ → Bool
is_plain [] = true
is_plain (x ∷ xs) = not (x == 45)

abbrev pub IsPlain : List ℕ → Type 0
IsPlain text = is_plain text ≡ true

-- a name with its plain values, as many as it takes, is its command
pub record TakesPlainWords : Type 0 where
  pub replay :
      (plan schedule : List ℕ) → IsPlain plan → IsPlain schedule
      → asked_of (codes "replay" ∷ plan ∷ schedule ∷ []) ≡ Some (Replay plan schedule)
  pub equipment :
      (plan address spool : List ℕ) → IsPlain plan → IsPlain address → IsPlain spool
      → asked_of (codes "equipment" ∷ plan ∷ address ∷ spool ∷ []) ≡ Some (Equipment plan address spool 1000000)
  pub host :
      (plan address : List ℕ) → IsPlain plan → IsPlain address
      → asked_of (codes "host" ∷ plan ∷ address ∷ []) ≡ Some (Host plan address 1000000)
  pub format :
      (spool slots : List ℕ) (n : ℕ) → IsPlain spool → IsPlain slots → number_in 1 65535 slots ≡ Some n
      → asked_of (codes "format" ∷ spool ∷ slots ∷ []) ≡ Some (Format spool n)
  pub outside :
      (spool slots : List ℕ) → IsPlain spool → IsPlain slots → number_in 1 65535 slots ≡ None
      → asked_of (codes "format" ∷ spool ∷ slots ∷ []) ≡ None
  pub spool : (spool : List ℕ) → IsPlain spool → asked_of (codes "spool" ∷ spool ∷ []) ≡ Some (Spool spool)
  pub drop :
      (spool count : List ℕ) (n : ℕ) → IsPlain spool → IsPlain count → number_in 1 65535 count ≡ Some n
      → asked_of (codes "drop" ∷ spool ∷ count ∷ []) ≡ Some (Drop spool n)
  pub too_many :
      (spool count : List ℕ) → IsPlain spool → IsPlain count → number_in 1 65535 count ≡ None
      → asked_of (codes "drop" ∷ spool ∷ count ∷ []) ≡ None
  pub make :
      (rounds : List ℕ) (n : ℕ) → IsPlain rounds → number_in 1 10000 rounds ≡ Some n
      → asked_of (codes "make" ∷ rounds ∷ []) ≡ Some (Make n)
  pub beyond :
      (rounds : List ℕ) → IsPlain rounds → number_in 1 10000 rounds ≡ None
      → asked_of (codes "make" ∷ rounds ∷ []) ≡ None

-- behind `--` any words at all are values, and behind `--polls=` and `--journal=` any text is
pub record TakesAllBehindHyphens : Type 0 where
  pub replay :
      (plan schedule : List ℕ)
      → asked_of (codes "replay" ∷ codes "--" ∷ plan ∷ schedule ∷ []) ≡ Some (Replay plan schedule)
  pub equipment :
      (plan address spool : List ℕ)
      → asked_of (codes "equipment" ∷ codes "--" ∷ plan ∷ address ∷ spool ∷ [])
      ≡ Some (Equipment plan address spool 1000000)
  pub host :
      (plan address : List ℕ)
      → asked_of (codes "host" ∷ codes "--" ∷ plan ∷ address ∷ []) ≡ Some (Host plan address 1000000)
  pub polls :
      (plan address polls : List ℕ) (n : ℕ) → number_in 1 4294967295 polls ≡ Some n
      → asked_of (codes "host" ∷ (codes "--polls=" ++ polls) ∷ codes "--" ∷ plan ∷ address ∷ [])
      ≡ Some (Host plan address n)
  pub outside :
      (plan address polls : List ℕ) → number_in 1 4294967295 polls ≡ None
      → asked_of (codes "host" ∷ (codes "--polls=" ++ polls) ∷ codes "--" ∷ plan ∷ address ∷ []) ≡ None
  pub journal :
      (plan address journal : List ℕ)
      → asked_of (codes "host" ∷ (codes "--journal=" ++ journal) ∷ codes "--" ∷ plan ∷ address ∷ [])
      ≡ Some (JournalHost plan address journal 1000000)
  pub slots :
      (plan schedule slots : List ℕ) (n : ℕ) → number_in 1 1024 slots ≡ Some n
      → asked_of (codes "replay" ∷ (codes "--journal=" ++ slots) ∷ codes "--" ∷ plan ∷ schedule ∷ [])
      ≡ Some (JournalReplay plan schedule n)
  pub slots_outside :
      (plan schedule slots : List ℕ) → number_in 1 1024 slots ≡ None
      → asked_of (codes "replay" ∷ (codes "--journal=" ++ slots) ∷ codes "--" ∷ plan ∷ schedule ∷ []) ≡ None
  pub spool : (spool : List ℕ) → asked_of (codes "spool" ∷ codes "--" ∷ spool ∷ []) ≡ Some (Spool spool)
