-- Works with the lines that tell of them, in examples that can be followed by hand. The oldest line comes first.
use Rattle.std.specs.Prelude.{ℕ, List, [], ◌∷◌, None, Some}
use Rattle.gem_spool.specs.declared.works.Work.{Work}
use Rattle.gem_spool.specs.declared.works.Work.TheVariants as work
use Rattle.spool_file.specs.Slot.{Message}
use Rattle.trace_log.specs.declared.names.Cause.TheVariants as cause
use Rattle.trace_log.specs.Log.{Happening}
use Rattle.trace_log.specs.Names.{Spooled, spooled_name}
use Rattle.tool_spool.specs.InPairs.{AreInPairs, changes_in}

-- a spool that holds one message, under number 7; a report comes, and the next number is 8
abbrev pub standing : Message → List Message
standing oldest = record oldest { number = 7 } ∷ []

abbrev pub report : ℕ → List ℕ → Spooled
report function body = record { stream = 6; function = function; body = body }

-- the lines tell of these works there
abbrev pub Tell : Message → List Work → List Happening → Type 0
Tell oldest works lines = AreInPairs 8 (standing oldest) works (changes_in lines)

-- it is put in place of the oldest, which is overwritten
abbrev pub put_over : ℕ → List ℕ → List Work
put_over function body = (work.DropOldest 1) ∷ work.Put 6 function body ∷ []

abbrev pub over_lines : ℕ → List ℕ → List Happening
over_lines function body =
    Happening.Event 1 0 ∷ Happening.Leaving 7 cause.Overwritten (Some (report function body)) ∷ Happening.Gone 7
    ∷ Happening.Storing 8 (report function body) ∷ Happening.Stored 8 ∷ []

-- it is put under this number, with these lines before and behind
abbrev pub put_lines : ℕ → Spooled → List Happening
put_lines number message = Happening.Storing number message ∷ Happening.Stored number ∷ []

abbrev pub purge_lines : List Happening
purge_lines = Happening.Leaving 7 cause.Purged None ∷ Happening.Gone 7 ∷ []

pub record TellsEachWork : Type 0 where
  pub over :
      (oldest : Message) (function : ℕ) (body : List ℕ)
      → Tell oldest (put_over function body) (over_lines function body)
  pub purged : (oldest : Message) → Tell oldest (work.Purge ∷ []) purge_lines
  -- the oldest is dropped, and the report is discarded: the disk has put nothing, or the lines leave a work out
  pub discarded :
      (oldest : Message) (function : ℕ) (body : List ℕ)
      → Tell oldest (put_over function body)
      (Happening.Leaving 7 cause.Overwritten (Some (report function body)) ∷ Happening.Gone 7
      ∷ Happening.Discarded (spooled_name (report function body)) ∷ [])
      → ⊥
  -- a purge has no line; there are the lines of a purge without a purge, and in place of a drop
  pub silent : (oldest : Message) → Tell oldest (work.Purge ∷ []) [] → ⊥
  pub empty : (oldest : Message) → Tell oldest [] purge_lines → ⊥
  pub all_for_one : (oldest : Message) → Tell oldest (work.DropOldest 1 ∷ []) purge_lines → ⊥
  -- a put is told under the number that stands, or as another message
  pub again :
      (oldest : Message) (function : ℕ) (body : List ℕ)
      → Tell oldest (work.Put 6 function body ∷ []) (put_lines 7 (report function body)) → ⊥
  pub other :
      (oldest : Message) (body : List ℕ)
      → Tell oldest (work.Put 6 11 body ∷ []) (put_lines 8 (report 1 body)) → ⊥
  -- it leaves and is never gone
  pub undone :
      (oldest : Message) → Tell oldest (work.DropOldest 1 ∷ []) (Happening.Leaving 7 cause.Confirmed None ∷ []) → ⊥
