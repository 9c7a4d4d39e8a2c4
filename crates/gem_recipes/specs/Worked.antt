-- Exchanges with a store of two slots that can be followed by hand. The newest one stands first.
use Rattle.std.specs.Prelude.{◌≡◌, ℕ, List, [], ◌∷◌, codes, None, Some}
use Rattle.std.specs.FinMap.{empty, get}
use Rattle.std.specs.List.{filter_map}
use Rattle.gem_recipes.specs.History.{recipes_after}
use Rattle.gem_recipes.specs.Requests.{AreAnswered, Exchange, accepted}
use Rattle.gem_recipes.specs.Requests.Exchange.{Asked, Deleted, Inquired, Listed, Sent}

abbrev pub first : List ℕ
first = codes "A1"

abbrev pub second : List ℕ
second = codes "A2"

-- a B of one byte
abbrev pub one_byte : List ℕ
one_byte = 33 ∷ 1 ∷ 2 ∷ []

abbrev pub another_byte : List ℕ
another_byte = 33 ∷ 1 ∷ 3 ∷ []

-- a recipe is stored, read and listed; another name isn't known
abbrev pub stored_and_read : List Exchange
stored_and_read =
    Deleted (second ∷ []) 4
    ∷ Listed (first ∷ [])
    ∷ Asked first (Some one_byte)
    ∷ Sent first one_byte 0
    ∷ []

-- with two slots there is no space for a second name; the first one is replaced, and then all are deleted
abbrev pub replaced : List Exchange
replaced = Sent first another_byte 0 ∷ Sent second one_byte 3 ∷ stored_and_read

abbrev pub all_deleted : List Exchange
all_deleted =
    Deleted [] 0
    ∷ Listed []
    ∷ Asked first None
    ∷ Deleted [] 0
    ∷ Asked first (Some another_byte)
    ∷ replaced

-- what may be sent
abbrev pub inquired : List Exchange
inquired =
    Inquired second 1 2
    ∷ Inquired first 65439 2
    ∷ Inquired first 65438 0
    ∷ Sent first one_byte 0
    ∷ Inquired second 65438 0
    ∷ []

-- a deletion of two names of which one isn't known has deleted the other
abbrev pub deleted_before_looking : List Exchange
deleted_before_looking =
    Asked first None
    ∷ Deleted (first ∷ second ∷ []) 4
    ∷ Sent first one_byte 0
    ∷ []

-- names as they were stored, in a store of three slots
abbrev pub listed_as_stored : List Exchange
listed_as_stored = Listed (second ∷ first ∷ []) ∷ Sent first one_byte 0 ∷ Sent second one_byte 0 ∷ []

abbrev pub listed_by_bytes : List Exchange
listed_by_bytes = Listed (first ∷ second ∷ []) ∷ Sent first one_byte 0 ∷ Sent second one_byte 0 ∷ []

pub record WorkedExchanges : Type 0 where
  pub stores : AreAnswered 2 empty all_deleted
  pub inquires : AreAnswered 2 empty inquired
  pub lists : AreAnswered 3 empty listed_by_bytes
  pub number :
      get (recipes_after empty (filter_map accepted replaced)) first ≡ Some (record { number = 1; body = another_byte })
  pub early : AreAnswered 2 empty deleted_before_looking → ⊥
  pub disordered : AreAnswered 3 empty listed_as_stored → ⊥
