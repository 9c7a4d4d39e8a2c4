-- What holds of all lists of kept primaries.
use Rattle.std.specs.Prelude.{◌≡◌, ◌<◌, ℕ, List, [], ◌∷◌, ◌++◌, length, get_or, take, slice_get, All, Option, Some, None, Ok, Err}
use Rattle.spool_file.specs.declared.reading.NotSpool.{NotSpool}
use Rattle.setup_store.specs.Entries.{AreBytesOf, Entry, IsEntry, bytes_of, entries_in}
use Rattle.setup_store.specs.Kept.{kept}

abbrev pub AreBytes : List ℕ → Type 0
AreBytes bytes = (i : ℕ) → get_or bytes i 0 < 256

-- some list of entries begins with these bytes
pub record CanGoOn (front : List ℕ) : Type 0 where
  pub entries : List Entry
  pub more : List ℕ
  pub are : AreBytesOf entries (front ++ more)

-- behind so many bytes none goes on with the next one; where there is none they are all
abbrev pub CannotGoOn : List ℕ → ℕ → Option ℕ → Type 0
CannotGoOn bytes at (Some byte) = CanGoOn (take at bytes ++ byte ∷ []) → ⊥
CannotGoOn bytes at None = at ≡ length bytes

-- where bytes break: those before the place begin some list, and with the byte there they begin none
pub record BreaksAt (bytes : List ℕ) (at : ℕ) (got : Option ℕ) : Type 0 where
  pub before : CanGoOn (take at bytes)
  pub there : got ≡ slice_get bytes at
  pub behind : CannotGoOn bytes at got

-- a list of entries is read as it was spelled, and what is read was spelled so; bytes that are no list break; and what
-- is kept of entries are entries
pub record ListsAreReadAsSpelled : Type 0 where
  pub read : (entries : List Entry) → All IsEntry entries → entries_in (bytes_of entries) ≡ Ok entries
  pub spelled :
      (entries : List Entry) (bytes : List ℕ) → AreBytes bytes → entries_in bytes ≡ Ok entries
      → AreBytesOf entries bytes
  pub broken :
      (bytes : List ℕ) (e : NotSpool) → AreBytes bytes → entries_in bytes ≡ Err e → BreaksAt bytes e.at e.got
  pub stay :
      (entries : List Entry) (primary : Entry) → All IsEntry entries → IsEntry primary
      → All IsEntry (kept entries primary)
