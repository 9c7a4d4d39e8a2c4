-- The text of a start anew, behind the line of the loss.
use Rattle.std.proofs.Common.{◌≡◌, ℕ, List, ◌∷◌, ◌++◌, refl, sym, subst}
use Rattle.std.specs.List.{flat_map}
use Rattle.gl_base.specs.declared.side.Side.{Side}
use Rattle.message_end.specs.Core.{Went as WentTo, step_in}
use Rattle.message_end.specs.Ends.{HasGone, HasSpent, printed}
use Rattle.message_flow.specs.declared.step.Note.{Note}
use Rattle.message_flow.specs.declared.step.StepOut.{StepOut}
use Rattle.trace_log.specs.Laws.{NotesAreLines}
use Rattle.trace_log.specs.Log.{Happening}
use Rattle.trace_log.specs.Log.Happening.{Power}
use Rattle.trace_log.specs.Text.{note_line, note_of, text_of}
use Rattle.end_pair.specs.declared.answers.WorldStep.{WorldStep}
use Rattle.end_pair.specs.declared.answers.WorldStep.TheVariants as answer
use Rattle.end_pair.specs.Kept.{PutPart, Puts, gone}
use Rattle.end_pair.specs.Steps.{entries_of}
use Rattle.end_pair.proofs.Pieces.{put_all, put_before, put_none, puts_behind}
use Rattle.end_pair.proofs.Texts.{noted_text}

-- the line of a loss
abbrev pub power_line : Side → ℕ → List ℕ
power_line side now = note_line now side (note_of Power)

abbrev pub lines_of : Side → ℕ → List Note → List ℕ
lines_of side now notes = flat_map (note_line now side) notes

module _ (law : NotesAreLines) (side : Side) (now : ℕ) where
  -- what is noted, behind it
  abbrev pub again_text : List Happening → List ℕ
  again_text notes = text_of (entries_of side now (Power ∷ notes))

  power_text : (notes : List Happening) → again_text notes ≡ power_line side now ++ lines_of side now (printed notes)
  power_text notes = noted_text law side now (Power ∷ notes)

  pub power_none : (notes : List Happening) (old lines : List ℕ) → lines ≡ old → PutPart (again_text notes) old lines
  power_none notes old lines same =
      subst (λ (t : List ℕ). PutPart (again_text notes) t lines) same (put_none (again_text notes) lines)

  pub power_first : (notes : List Happening) (old lines : List ℕ) → lines ≡ old ++ power_line side now
      → PutPart (again_text notes) old lines
  power_first notes old lines same =
      subst (λ (t : List ℕ). PutPart t old lines) (sym (power_text notes))
      (put_before (power_line side now) (lines_of side now (printed notes)) old lines
      (put_all (power_line side now) old lines same))

  power_puts : (how result : WorldStep) (notes : List Happening) (old between lines : List ℕ)
      → between ≡ old ++ power_line side now → Puts how (lines_of side now (printed notes)) between lines result
      → Puts how (again_text notes) old lines result
  power_puts how result notes old between lines one two =
      subst (λ (t : List ℕ). Puts how t old lines result) (sym (power_text notes))
      (puts_behind how result (power_line side now) (lines_of side now (printed notes)) old between lines one two)

  module _ {S : Type 0} (went : WentTo S Happening) (out : StepOut) (old between lines : List ℕ)
      (one : between ≡ old ++ power_line side now) where
    -- the numbers are spent
    pub again_spent : HasSpent went out → (result : WorldStep)
        → Puts answer.NumbersSpent (lines_of side now out.notes) between lines result
        → Puts (gone went) (again_text (step_in went).notes) old lines result
    again_spent spent result puts =
        subst (λ (w : WentTo S Happening). Puts (gone w) (again_text (step_in w).notes) old lines result)
        (sym spent.is)
        (power_puts answer.NumbersSpent result spent.step.notes old between lines one
        (subst (λ (notes : List Note). Puts answer.NumbersSpent (lines_of side now notes) between lines result) spent.notes
        puts))

    -- it goes on
    again_gone : (next : S) → HasGone went next out → (result : WorldStep)
        → Puts answer.Went (lines_of side now out.notes) between lines result
        → Puts (gone went) (again_text (step_in went).notes) old lines result
    again_gone next has result puts =
        subst (λ (w : WentTo S Happening). Puts (gone w) (again_text (step_in w).notes) old lines result) (sym has.is)
        (power_puts answer.Went result has.step.notes old between lines one
        (subst (λ (notes : List Note). Puts answer.Went (lines_of side now notes) between lines result) has.notes puts))

    pub again_goes : (next : S) → HasGone went next out → lines ≡ between ++ lines_of side now out.notes
        → Puts (gone went) (again_text (step_in went).notes) old lines answer.Went
    again_goes next has whole = again_gone next has answer.Went (refl, whole)

    pub again_part : (next : S) → HasGone went next out → PutPart (lines_of side now out.notes) between lines
        → PutPart (again_text (step_in went).notes) old lines
    again_part next has part = again_gone next has answer.NoMemory part
