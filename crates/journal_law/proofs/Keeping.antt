-- What a host's notes tell of its journal, with what it is then.
use Rattle.std.proofs.Common.{◌≡◌, refl, sym, ap, subst, ◌∙◌, arith, Bool, true, false, ℕ, ◌<◌, List, [], ◌∷◌, ◌++◌, append-nil, Option, Some, None, if◌then◌else◌}
use Rattle.journal_law.specs.Kept.{HasNoGap, room_in}
use Rattle.journal_law.specs.Turns.{AreEnded, WriteInTurn}
use Rattle.journal_law.proofs.Quiet.{AreQuiet, IsQuiet, quiet-behind, quiet-more, stored}
use Rattle.journal_node.specs.Journal.{JournalView, is_marked_out, started_on, starts, unstarted}
use Rattle.line_end.specs.declared.plan.HostPlan.{HostPlan}
use Rattle.message_end.specs.Core.{at_first}
use Rattle.message_end.specs.Core.Went.{Goes, Spent}
use Rattle.message_end.specs.Course.{Course, noted_behind, went_on}
use Rattle.message_end.specs.Course.Course.{Reached, Stopped}
use Rattle.message_end.specs.Own.{Has}
use Rattle.spool_file.specs.File.{SpoolFile}
use Rattle.spool_law.specs.Journal.{KeepsJournal, entry_of, nothing_leaves}
use Rattle.spool_law.specs.Shelf.{Change, IsFoundOf, KeepsSpoolFrom, MayChange, MayFollow, Shelf, shelf_changed, shelf_of}
use Rattle.spool_works.specs.Found.{found_in}
use Rattle.trace_log.specs.Log.{Happening}
use Rattle.trace_log.specs.Log.Happening.{HostStarted, Listed, Listing, Stored, Storing}
use Rattle.trace_log.specs.Names.{Record, Spooled}

-- these messages stand, and this one is being listed
abbrev pub shelf_with : List (ℕ × Spooled) → Option (ℕ × Spooled) → Shelf
shelf_with stands storing =
    record { stands = stands; storing = storing; leaving = None; tried = None; told = [] }

-- a file in which a host may go on, with so many slots
pub record IsGoodFile (slots : ℕ) (file : SpoolFile) : Type 0 where
  pub slots_are : file.slots ≡ slots
  pub no_gap : HasNoGap file

module _ (slots : ℕ) (held : List (ℕ × Spooled)) where
  abbrev pub Keeps : List Happening → Type 0
  Keeps notes = KeepsJournal (room_in slots) held notes

  -- the notes keep the law, a start is among them, and this is what stands by them
  pub record Tells (stands : List (ℕ × Spooled)) (storing : Option (ℕ × Spooled)) (notes : List Happening) : Type 0
    where
      pub keeps : Keeps notes
      pub newest : Happening
      pub before : List Happening
      pub some : stored notes ≡ newest ∷ before
      pub shelf : shelf_of (stored notes) ≡ shelf_with stands storing

  -- other notes say nothing of it
  told-same :
      (stands : List (ℕ × Spooled)) (storing : Option (ℕ × Spooled)) (notes more : List Happening)
      → stored more ≡ stored notes → Tells stands storing notes → Tells stands storing more
  told-same stands storing notes more same is = record {
    keeps = subst (λ (told : List Happening). KeepsSpoolFrom (nothing_leaves (room_in slots)) held told)
        (sym same) is.keeps;
    newest = is.newest;
    before = is.before;
    some = same ∙ is.some;
    shelf = ap shelf_of same ∙ is.shelf;
  }

  pub quiet-tells :
      (stands : List (ℕ × Spooled)) (storing : Option (ℕ × Spooled)) (said notes : List Happening) → AreQuiet said
      → Tells stands storing notes → Tells stands storing (noted_behind said notes)
  quiet-tells stands storing said notes quiet is =
      told-same stands storing notes (noted_behind said notes) (quiet-behind said notes quiet) is

  pub quiet-tell :
      (stands : List (ℕ × Spooled)) (storing : Option (ℕ × Spooled)) (what : Happening) (notes : List Happening)
      → IsQuiet what → Tells stands storing notes → Tells stands storing (what ∷ notes)
  quiet-tell stands storing what notes quiet is =
      told-same stands storing notes (what ∷ notes) (quiet-more what notes quiet) is

  -- one that says something of it
  module _ (stands : List (ℕ × Spooled)) (storing : Option (ℕ × Spooled)) (notes : List Happening)
      (is : Tells stands storing notes) where
    abbrev May : Change → Type 0
    May change = MayChange (nothing_leaves (room_in slots)) (stored notes) change

    follows : (change : Change) → May change → MayFollow (nothing_leaves (room_in slots)) held (stored notes) change
    follows change may =
        subst (λ (told : List Happening). MayFollow (nothing_leaves (room_in slots)) held told change) (sym is.some)
        (subst (λ (told : List Happening). MayChange (nothing_leaves (room_in slots)) told change) is.some may)

    -- a start finds what stands
    pub found-tells :
        (found : List (ℕ × Spooled)) (base : ℕ) → IsFoundOf stands storing None found
        → Tells found None (HostStarted (Some (record { found = found; base = base })) ∷ notes)
    found-tells found base may = record {
      keeps = (
        follows (Change.Finds found)
            (subst (λ (shelf : Shelf). IsFoundOf shelf.stands shelf.storing shelf.leaving found) (sym is.shelf) may),
        is.keeps,
      );
      newest = Happening.EquipmentStarted found base;
      before = stored notes;
      some = refl;
      shelf = ap (λ (shelf : Shelf). shelf_changed (Change.Finds found) shelf) is.shelf;
    }

  -- a record is listed
  module _ (stands : List (ℕ × Spooled)) (notes : List Happening) (is : Tells stands None notes) (number : ℕ)
      (listed : Record) where
    abbrev One : ℕ × Spooled
    One = (number, entry_of listed)

    pub listing-tells :
        ((one : ℕ × Spooled) → Has stands one → one.0 < number)
        → room_in slots stands (entry_of listed) ≡ true → Tells stands (Some One) (Listing number listed ∷ notes)
    listing-tells above room = record {
      keeps = (
        follows stands None notes is (Change.Stores number (entry_of listed))
            (record {
              rest = record {
                none_stored = ap (λ (shelf : Shelf). shelf.storing) is.shelf;
                none_leaves = ap (λ (shelf : Shelf). shelf.leaving) is.shelf;
              };
              above =
                  subst (λ (shelf : Shelf). (one : ℕ × Spooled) → Has shelf.stands one
                  → one.0 < number) (sym is.shelf) above;
              room =
                  subst (λ (shelf : Shelf). room_in slots shelf.stands (entry_of listed) ≡ true) (sym is.shelf) room;
            }),
        is.keeps,
      );
      newest = Storing number (entry_of listed);
      before = stored notes;
      some = refl;
      shelf = ap (λ (shelf : Shelf). shelf_changed (Change.Stores number (entry_of listed)) shelf) is.shelf;
    }

  pub listed-tells :
      (stands : List (ℕ × Spooled)) (notes : List Happening) (number : ℕ) (listed : Record)
      → Tells stands (Some (number, entry_of listed)) notes
      → Tells (stands ++ (number, entry_of listed) ∷ []) None (Listed number listed ∷ notes)
  listed-tells stands notes number listed is = record {
    keeps = (
      follows stands (Some (number, entry_of listed)) notes is (Change.HasStored number)
          (record { message = entry_of listed; is = ap (λ (shelf : Shelf). shelf.storing) is.shelf }),
      is.keeps,
    );
    newest = Stored number;
    before = stored notes;
    some = refl;
    shelf = ap (λ (shelf : Shelf). shelf_changed (Change.HasStored number) shelf) is.shelf;
  }

  -- ---- what a host is then

  -- its notes tell what its file holds
  pub record IsSo (s : JournalView) (notes : List Happening) : Type 0 where
    pub file : IsGoodFile slots s.file
    pub tells : Tells (found_in s.file.list) None notes
    pub ended : AreEnded notes
    pub turns : WriteInTurn notes

  abbrev pub IsCourseSo : Course JournalView → Type 0
  IsCourseSo (Reached s notes) = IsSo s notes
  IsCourseSo (Stopped notes) = Keeps notes × WriteInTurn notes

  finds-all : (stands : List (ℕ × Spooled)) → IsFoundOf stands None None stands
  finds-all stands = record { missing = 0; stored = false; at_most = omega arith; is = sym (append-nil stands) }

  -- a start over what is left of its file
  pub start-so :
      (plan : HostPlan) (left : SpoolFile) (stands : List (ℕ × Spooled)) (storing : Option (ℕ × Spooled))
      (notes : List Happening) → IsGoodFile slots left → Tells stands storing notes → WriteInTurn notes
      → IsFoundOf stands storing None (found_in left.list) → IsCourseSo (went_on (starts plan left) notes)
  start-so plan left stands storing notes good is turns found = go (is_marked_out left.mark.value)
    where
      go : (out : Bool)
          → IsCourseSo
          (went_on (if out then Spent (at_first (unstarted plan left)) else Goes (started_on plan left)) notes)
      go true = (is.keeps, turns)
      go false = record {
        file = record { slots_are = good.slots_are; no_gap = good.no_gap };
        tells = found-tells stands storing notes is (found_in left.list) left.mark.value found;
        ended = tt;
        turns = turns;
      }

  pub anew-so : (s : JournalView) (plan : HostPlan) (notes : List Happening) → IsSo s notes
      → IsCourseSo (went_on (starts plan s.file) notes)
  anew-so s plan notes so =
      start-so plan s.file (found_in s.file.list) None notes so.file so.tells so.turns (finds-all
      (found_in s.file.list))
