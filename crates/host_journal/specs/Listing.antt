-- What listing a record does to a journal (this profile).
use Rattle.std.specs.Prelude.{◌≡◌, ℕ, List, [], ◌∷◌, length, Result, Ok, Err}
use Rattle.disk_base.specs.declared.disk.Disk as disk
use Rattle.gem_spool.specs.declared.spool.GemSpool.{GemSpool}
use Rattle.gem_spool.specs.declared.works.Work.{Work}
use Rattle.gem_spool.specs.declared.works.Work.TheVariants.{Put}
use Rattle.gem_spool.specs.Standing.{count_of}
use Rattle.gem_spool.specs.Works.{HasCarried, HasUndone}
use Rattle.host_journal.specs.declared.listing.Fit.TheVariants as fit
use Rattle.host_journal.specs.declared.listing.Listing.{Listing}
use Rattle.host_journal.specs.declared.listing.Listing.TheVariants as listing
use Rattle.host_journal.specs.Fitting.{fit_in}

-- the one work that it is
abbrev pub listing_works : ℕ → ℕ → List ℕ → List Work
listing_works stream function entry = Put stream function entry ∷ []

-- the record was put at the end; or it can't be listed, and nothing was done; or the disk failed in the put
abbrev pub Lists :
    {D : Type 0} → disk.Ghosts D → GemSpool D → ℕ → ℕ → List ℕ → Result (GemSpool D) (Listing D) → Type 0
Lists members g stream function entry (Ok h) =
    (fit_in (count_of g.spool) (length entry) ≡ fit.Fits)
    × HasCarried members g (listing_works stream function entry) h
Lists members g stream function entry (Err (listing.Full h)) =
    (h ≡ g) × (fit_in (count_of g.spool) (length entry) ≡ fit.Full)
Lists members g stream function entry (Err (listing.NumbersSpent h)) =
    (h ≡ g) × (fit_in (count_of g.spool) (length entry) ≡ fit.NumbersSpent)
Lists members g stream function entry (Err (listing.Failed spent)) =
    (fit_in (count_of g.spool) (length entry) ≡ fit.Fits)
    × HasUndone members g (listing_works stream function entry) (record { at = 0; spent = spent })
