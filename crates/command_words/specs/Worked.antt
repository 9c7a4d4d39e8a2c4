-- Words with what they ask for, worked by `clap`'s own definitions.
use Rattle.std.specs.Prelude.{◌≡◌, ℕ, List, [], ◌∷◌, codes, map, Option, Some, None}
use Rattle.command_words.specs.Asked.{Asked, Drop, Equipment, Format, Host, JournalHost, JournalReplay, Make, Replay, Show, Spell, SpellHex, Spool}
use Rattle.command_words.specs.Words.{asked_of}

abbrev pub Row : Type 0
Row = List (List ℕ) × Option Asked

abbrev pub taken : List Row
taken =
    (codes "show" ∷ [], Some Show)
    ∷ (codes "show" ∷ codes "--" ∷ [], Some Show)
    ∷ (codes "spell" ∷ [], Some Spell)
    ∷ (codes "spell" ∷ codes "--hex" ∷ [], Some SpellHex)
    ∷ (codes "replay" ∷ codes "a" ∷ codes "b" ∷ [], Some (Replay (codes "a") (codes "b")))
    ∷ (codes "replay" ∷ [] ∷ [] ∷ [], Some (Replay [] []))
    ∷ (codes "replay" ∷ codes "-" ∷ codes "--" ∷ codes "-b" ∷ [], Some (Replay (codes "-") (codes "-b")))
    ∷ (
      codes "replay" ∷ codes "a" ∷ codes "b" ∷ codes "--journal" ∷ codes "3" ∷ [],
      Some (JournalReplay (codes "a") (codes "b") 3),
    )
    ∷ (
      codes "replay" ∷ codes "--journal=1024" ∷ codes "a" ∷ codes "b" ∷ [],
      Some (JournalReplay (codes "a") (codes "b") 1024),
    )
    ∷ (
      codes "equipment" ∷ codes "p" ∷ codes "a" ∷ codes "f" ∷ [],
      Some (Equipment (codes "p") (codes "a") (codes "f") 1000000),
    )
    ∷ (
      codes "equipment" ∷ codes "--polls=7" ∷ codes "p" ∷ codes "a" ∷ codes "f" ∷ [],
      Some (Equipment (codes "p") (codes "a") (codes "f") 7),
    )
    ∷ (codes "host" ∷ codes "p" ∷ codes "a" ∷ [], Some (Host (codes "p") (codes "a") 1000000))
    ∷ (codes "host" ∷ codes "p" ∷ codes "a" ∷ codes "--polls" ∷ codes "5" ∷ [], Some (Host (codes "p") (codes "a") 5))
    ∷ (codes "host" ∷ codes "p" ∷ codes "--polls=05" ∷ codes "a" ∷ [], Some (Host (codes "p") (codes "a") 5))
    ∷ (
      codes "host" ∷ codes "--polls" ∷ codes "1" ∷ codes "--" ∷ codes "p" ∷ codes "--polls" ∷ [],
      Some (Host (codes "p") (codes "--polls") 1),
    )
    ∷ (
      codes "host" ∷ codes "p" ∷ codes "a" ∷ codes "--polls=4294967295" ∷ [],
      Some (Host (codes "p") (codes "a") 4294967295),
    )
    ∷ (
      codes "host" ∷ codes "p" ∷ codes "a" ∷ codes "--journal" ∷ codes "f" ∷ [],
      Some (JournalHost (codes "p") (codes "a") (codes "f") 1000000),
    )
    ∷ (
      codes "host" ∷ codes "--polls=5" ∷ codes "--journal=" ∷ codes "p" ∷ codes "a" ∷ [],
      Some (JournalHost (codes "p") (codes "a") [] 5),
    )
    ∷ (codes "format" ∷ codes "f" ∷ codes "1" ∷ [], Some (Format (codes "f") 1))
    ∷ (codes "format" ∷ codes "f" ∷ codes "0000065535" ∷ [], Some (Format (codes "f") 65535))
    ∷ (codes "spool" ∷ codes "f" ∷ [], Some (Spool (codes "f")))
    ∷ (codes "drop" ∷ codes "f" ∷ codes "1" ∷ [], Some (Drop (codes "f") 1))
    ∷ (codes "drop" ∷ codes "--" ∷ codes "--" ∷ codes "65535" ∷ [], Some (Drop (codes "--") 65535))
    ∷ (codes "make" ∷ codes "1" ∷ [], Some (Make 1))
    ∷ (codes "make" ∷ codes "--" ∷ codes "0000010000" ∷ [], Some (Make 10000))
    ∷ []

abbrev pub refused : List (List (List ℕ))
refused =
    []
    ∷ ([] ∷ [])
    ∷ (codes "shwo" ∷ [])
    ∷ (codes "Show" ∷ [])
    ∷ (codes "--" ∷ codes "show" ∷ [])
    ∷ (codes "--help" ∷ [])
    ∷ (codes "show" ∷ codes "--help" ∷ [])
    ∷ (codes "show" ∷ codes "-h" ∷ [])
    ∷ (codes "show" ∷ codes "--version" ∷ [])
    ∷ (codes "show" ∷ codes "help" ∷ [])
    ∷ (codes "show" ∷ [] ∷ [])
    ∷ (codes "spell" ∷ codes "--hex" ∷ codes "--hex" ∷ [])
    ∷ (codes "spell" ∷ codes "--hex=true" ∷ [])
    ∷ (codes "spell" ∷ codes "--" ∷ codes "--hex" ∷ [])
    ∷ (codes "replay" ∷ codes "a" ∷ [])
    ∷ (codes "replay" ∷ codes "a" ∷ codes "b" ∷ codes "c" ∷ [])
    ∷ (codes "replay" ∷ codes "a" ∷ codes "-b" ∷ [])
    ∷ (codes "replay" ∷ codes "a" ∷ codes "b" ∷ codes "--journal" ∷ [])
    ∷ (codes "replay" ∷ codes "a" ∷ codes "b" ∷ codes "--journal=0" ∷ [])
    ∷ (codes "replay" ∷ codes "a" ∷ codes "b" ∷ codes "--journal=1025" ∷ [])
    ∷ (codes "replay" ∷ codes "a" ∷ codes "b" ∷ codes "--journal=f" ∷ [])
    ∷ (codes "equipment" ∷ codes "p" ∷ codes "a" ∷ [])
    ∷ (codes "equipment" ∷ codes "p" ∷ codes "a" ∷ codes "f" ∷ codes "--journal=f" ∷ [])
    ∷ (codes "host" ∷ codes "p" ∷ [])
    ∷ (codes "host" ∷ codes "p" ∷ codes "--polls" ∷ codes "5" ∷ [])
    ∷ (codes "host" ∷ codes "p" ∷ codes "a" ∷ codes "s" ∷ [])
    ∷ (codes "host" ∷ codes "p" ∷ codes "a" ∷ codes "--polls" ∷ [])
    ∷ (codes "host" ∷ codes "p" ∷ codes "a" ∷ codes "--polls=" ∷ [])
    ∷ (codes "host" ∷ codes "p" ∷ codes "a" ∷ codes "--polls=0" ∷ [])
    ∷ (codes "host" ∷ codes "p" ∷ codes "a" ∷ codes "--polls=4294967296" ∷ [])
    ∷ (codes "host" ∷ codes "p" ∷ codes "a" ∷ codes "--polls=5" ∷ codes "--polls=5" ∷ [])
    ∷ (codes "host" ∷ codes "p" ∷ codes "a" ∷ codes "--journal" ∷ [])
    ∷ (codes "host" ∷ codes "p" ∷ codes "a" ∷ codes "--journal=f" ∷ codes "--journal=f" ∷ [])
    ∷ (codes "format" ∷ codes "f" ∷ [])
    ∷ (codes "format" ∷ codes "f" ∷ codes "0" ∷ [])
    ∷ (codes "format" ∷ codes "f" ∷ codes "65536" ∷ [])
    ∷ (codes "format" ∷ codes "f" ∷ codes "00000065535" ∷ [])
    ∷ (codes "format" ∷ codes "f" ∷ codes "+1" ∷ [])
    ∷ (codes "format" ∷ codes "f" ∷ [] ∷ [])
    ∷ (codes "spool" ∷ [])
    ∷ (codes "spool" ∷ codes "f" ∷ codes "f" ∷ [])
    ∷ (codes "drop" ∷ codes "f" ∷ [])
    ∷ (codes "drop" ∷ codes "f" ∷ codes "0" ∷ [])
    ∷ (codes "drop" ∷ codes "f" ∷ codes "65536" ∷ [])
    ∷ (codes "drop" ∷ codes "f" ∷ codes "1" ∷ codes "1" ∷ [])
    ∷ (codes "make" ∷ [])
    ∷ (codes "make" ∷ codes "0" ∷ [])
    ∷ (codes "make" ∷ codes "10001" ∷ [])
    ∷ (codes "make" ∷ codes "00000010000" ∷ [])
    ∷ (codes "make" ∷ codes "-1" ∷ [])
    ∷ (codes "make" ∷ codes "1" ∷ codes "1" ∷ [])
    ∷ []

pub record AreAsWorked : Type 0 where
  pub takes : map (λ row. asked_of row.0) taken ≡ map (λ row. row.1) taken
  pub refuses : map asked_of refused ≡ map (λ _. None) refused
