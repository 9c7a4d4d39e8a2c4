-- Removals for room that can be followed by hand.
use Rattle.std.specs.Prelude.{◌≡◌, ℕ, true, List, [], ◌∷◌, replicate, None, Option, Some}
use Rattle.gem_spool.specs.declared.works.Work.TheVariants.{DropOldest}
use Rattle.trace_log.specs.Log.Happening.{Gone, Leaving, TooLong}
use Rattle.trace_log.specs.Names.{Spooled, spooled_name}
use Rattle.trace_log.specs.declared.names.Cause.TheVariants.{Overwritten}
use Rattle.spool_ledger.specs.Ledger.{Booked, LedgerView, is_full, quiet}
use Rattle.spool_ledger.specs.Storing.{room_made, spooled, stored, unstored}

-- three slots, and messages of these sizes, the oldest with number 0
abbrev pub of_three : List ℕ → LedgerView
of_three sizes = record {
  slots = 3;
  first = 0;
  sizes = sizes;
  stood = record { first = 0; sizes = sizes };
  works = [];
  is_active = true;
  unload = None;
}

-- what leaves for a message of this size
abbrev pub removed : List ℕ → (size : ℕ) → Option Spooled → Booked
removed sizes size for_one = room_made size for_one sizes (of_three sizes)

-- a message that takes four slots
abbrev pub four_slots : Spooled
four_slots = spooled 5 1 (replicate 12244 0)

pub record RemovesForRoom : Type 0 where
  -- a full spool, and a message of one slot
  pub one :
      (message : Spooled)
      → removed (1 ∷ 1 ∷ 1 ∷ []) 1 (Some message)
      ≡ record {
        next = record (of_three (1 ∷ 1 ∷ 1 ∷ [])) { first = 1; sizes = 1 ∷ 1 ∷ []; works = DropOldest 1 ∷ [] };
        lines = Leaving 0 Overwritten (Some message) ∷ Gone 0 ∷ [];
      }
  -- one of two slots leaves for another of two
  pub greater :
      (message : Spooled)
      → removed (2 ∷ 1 ∷ []) 2 (Some message)
      ≡ record {
        next = record (of_three (2 ∷ 1 ∷ [])) { first = 2; sizes = 1 ∷ []; works = DropOldest 2 ∷ [] };
        lines = Leaving 0 Overwritten (Some message) ∷ Gone 0 ∷ [];
      }
  -- two of one slot leave for one of two
  pub two :
      (message : Spooled)
      → removed (1 ∷ 1 ∷ 1 ∷ []) 2 (Some message)
      ≡ record {
        next = record (of_three (1 ∷ 1 ∷ 1 ∷ [])) {
          first = 2;
          sizes = 1 ∷ [];
          works = DropOldest 1 ∷ DropOldest 1 ∷ [];
        };
        lines =
            Leaving 0 Overwritten (Some message) ∷ Gone 0 ∷ Leaving 1 Overwritten (Some message) ∷ Gone 1 ∷ [];
      }
  -- one removal would be too few
  pub too_few : is_full 3 (1 ∷ 1 ∷ []) 2 ≡ true
  -- none leaves where there is room
  pub none : (message : Spooled) → removed (1 ∷ 1 ∷ []) 1 (Some message) ≡ quiet (of_three (1 ∷ 1 ∷ []))
  -- nor for a message that could never be put
  pub too_long :
      stored true four_slots (of_three (1 ∷ 1 ∷ 1 ∷ []))
      ≡ Some (unstored (TooLong (spooled_name four_slots)) (of_three (1 ∷ 1 ∷ 1 ∷ [])))
