-- Of the works of a step, for any end that keeps a file: what is noted where a disk fails at one of them is a front of
-- the step's notes, and so is what is noted where power is lost; and what holds of what each call leaves holds of each
-- loss.
use Rattle.std.proofs.Common.{◌⊎◌, inl, inr, ◌≡◌, refl, sym, subst, ℕ, List, [], ◌∷◌, ◌++◌, map}
use Rattle.gem_spool.specs.Standing.{Standing}
use Rattle.gem_spool.specs.Updates.{Left}
use Rattle.spool_file.specs.File.{SpoolFile}
use Rattle.spool_works.specs.DiskWorks.{DiskWork, behind_change, front_at, fronts_of, lines_behind, lines_up_to, standing_behind}
use Rattle.spool_works.specs.DiskWorks.DiskWork.{Change, Keep, ReadOldest, Reserve}
use Rattle.spool_works.proofs.EachFront.{lines-whole, up-to}
use Rattle.spool_works.specs.WorkLosses.{calls_at, lost_calls}
use Rattle.spool_works.proofs.LossCounts.{AllOf, Each, lost-each}
use Rattle.trace_log.specs.Log.{Happening}
use Rattle.message_end.specs.Ends.{IsFront, Loss}
use Rattle.message_end.specs.Own.{Has}
use Rattle.message_end.proofs.Growing.{front-more, front-same}
use Rattle.message_end.proofs.Members.{has-either}
use Rattle.journal_node.specs.Works.{loss_at, losses_of}

-- what is noted where the disk fails at a work are first notes
front-first : (one : DiskWork) (before notes : List Happening) → IsFront (front_at one before notes) (before ++ notes)
front-first Reserve before notes = front-more before notes
front-first (Change work) before notes = record { rest = behind_change notes; whole = up-to before notes }
front-first (Keep bytes) before notes = record { rest = behind_change notes; whole = up-to before notes }
front-first (ReadOldest slots) before notes = front-same (before ++ notes)

pub fronts-are :
    (works : List DiskWork) (before notes front : List Happening) → Has (fronts_of before works notes) front
    → IsFront front (before ++ notes)
fronts-are [] before notes front has = absurd has
fronts-are (one ∷ works) before notes front (inl same) =
    subst (λ (f : List Happening). IsFront f (before ++ notes)) (sym same) (front-first one before notes)
fronts-are (one ∷ works) before notes front (inr has) =
    subst (λ (ns : List Happening). IsFront front ns) (sym (lines-whole one before notes))
    (fronts-are works (lines_up_to one before notes) (lines_behind one notes) front has)

-- of each call of these works, with what is noted by then
abbrev pub AtEach :
    (List Happening → Left → Type 0) → Standing → List Happening → List DiskWork → List Happening → Type 0
AtEach P st before [] notes = Unit {0}
AtEach P st before (one ∷ works) notes =
    Each (P (front_at one before notes)) (calls_at st one)
    × AtEach P (standing_behind st one) (lines_up_to one before notes) works (lines_behind one notes)

module _ {S : Type 0} (left : SpoolFile → S) (P : List Happening → Left → Type 0) where
  -- a loss is at a call of which this holds, with what is noted at one of these works
  pub record IsAtCall (fronts : List (List Happening)) (loss : Loss S) : Type 0 where
    pub bytes : ℕ
    pub lost : Left
    pub is : loss ≡ loss_at left loss.front (bytes, lost)
    pub at : P loss.front lost
    pub front : Has fronts loss.front

  one-call :
      (front : List Happening) (fronts : List (List Happening)) (calls : List (ℕ × Left)) (loss : Loss S)
      → AllOf (λ (lost : ℕ × Left). P front lost.1) calls → Has (map (loss_at left front) calls) loss
      → IsAtCall (front ∷ fronts) loss
  one-call front fronts [] loss each has = absurd has
  one-call front fronts (lost ∷ calls) loss each (inl same) =
      subst (λ (one : Loss S). IsAtCall (front ∷ fronts) one) (sym same)
      (record { bytes = lost.0; lost = lost.1; is = refl; at = each.0; front = inl refl })
  one-call front fronts (lost ∷ calls) loss each (inr has) = one-call front fronts calls loss each.1 has

  one-or-later :
      (front : List Happening) (fronts : List (List Happening)) (calls : List (ℕ × Left)) (rest : List (Loss S))
      (loss : Loss S) → AllOf (λ (lost : ℕ × Left). P front lost.1) calls → (Has rest loss → IsAtCall fronts loss)
      → Has (map (loss_at left front) calls ++ rest) loss → IsAtCall (front ∷ fronts) loss
  one-or-later front fronts calls rest loss each more has = go (has-either (map
      (loss_at left front) calls) rest loss has)
    where
      go : Has (map (loss_at left front) calls) loss ⊎ Has rest loss → IsAtCall (front ∷ fronts) loss
      go (inl has) = one-call front fronts calls loss each has
      go (inr has) =
          let later = more has in
          record { bytes = later.bytes; lost = later.lost; is = later.is; at = later.at; front = inr later.front }

  pub at-call :
      (works : List DiskWork) (st : Standing) (before notes : List Happening) (loss : Loss S)
      → AtEach P st before works notes → Has (losses_of left st before works notes) loss
      → IsAtCall (fronts_of before works notes) loss
  at-call [] st before notes loss each has = absurd has
  at-call (one ∷ works) st before notes loss each has =
      let front = front_at one before notes in
      one-or-later front (fronts_of (lines_up_to one before notes) works (lines_behind one notes)) (lost_calls st one)
      (losses_of left (standing_behind st one) (lines_up_to one before notes) works (lines_behind one notes)) loss
      (lost-each (P front) st one each.0)
      (at-call works (standing_behind st one) (lines_up_to one before notes) (lines_behind one notes) loss each.1) has
