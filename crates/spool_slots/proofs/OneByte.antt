-- A byte that is written and synced, as a row of calls.
use Rattle.std.proofs.Common.{◌≡◌, inr, ℕ, ◌<◌, List, [], ◌∷◌, ◌++◌, drop, length, length-append}
use Rattle.std.proofs.Common.{Option, Some, None, ◌∙◌, refl, sym, ap, subst, arith}
use Rattle.std.specs.Option.{option_map}
use Rattle.disk_base.specs.Calls.{DiskCall, write_call}
use Rattle.disk_base.specs.Cut.{image_of}
use Rattle.disk_base.specs.Listed.{next_story}
use Rattle.disk_base.specs.Settle.{Settles}
use Rattle.disk_base.specs.Story.{Story, with_write}
use Rattle.disk_base.specs.declared.disk.Disk as disk
use Rattle.disk_base.specs.declared.disk.DiskAnswer.{DiskAnswer}
use Rattle.disk_base.specs.declared.disk.DiskAnswer.TheVariants.{Done, Failed}
use Rattle.spool_file.specs.Logs.{answered, written_by}
use Rattle.spool_slots.specs.Calls.{byte_calls}
use Rattle.spool_slots.specs.Carried.{CarriesOut, FailsBy, story_behind}
use Rattle.spool_slots.specs.Losses.{IsSure, LeavesByte}
use Rattle.spool_slots.proofs.Carrying.{same_told, sure_less}
use Rattle.spool_slots.proofs.Lost.{ChosenLaw}

abbrev first_or : DiskCall → List DiskCall → DiskCall
first_or other [] = other
first_or other (call ∷ calls) = call

abbrev story_or : Story → Option Story → Story
story_or other None = other
story_or other (Some s) = s

-- where the row was stopped: at the write, or at the sync
module _ (at byte : ℕ) where
  abbrev write : DiskCall
  write = write_call at (byte ∷ []) Done

  written_anyway : (before rest : List DiskCall) (call : DiskCall) (s : Story) →
      byte_calls at byte ≡ before ++ call ∷ rest →
      next_story (story_behind before s) (answered call Failed) ≡ with_write at (byte ∷ []) s
  written_anyway [] rest call s split =
      ap (λ (c : DiskCall). next_story s (answered c Failed)) (sym (ap (first_or call) split))
  written_anyway (b ∷ []) rest call s split =
      ap (λ (c : DiskCall). next_story (next_story s c) (answered call Failed)) (sym (ap (first_or b) split))
      ∙ ap (λ (c : DiskCall). next_story (with_write at (byte ∷ []) s) (answered c Failed))
      (sym (ap (λ (calls : List DiskCall). first_or call (drop 1 calls)) split))
  written_anyway (b ∷ (c ∷ before)) rest call s split =
      let none = ap (λ (calls : List DiskCall). length (drop 2 calls)) split in
      absurd (omega (arith, none, length-append before (call ∷ rest)))

  fails_anyway : (before rest : List DiskCall) (call : DiskCall) (told after : Option Story) →
      byte_calls at byte ≡ before ++ call ∷ rest →
      FailsBy call.kind call.at call.bytes (option_map (story_behind before) told) after →
      Settles told at (byte ∷ []) after Failed
  fails_anyway [] rest call told after split fails =
      subst (λ (o : Option Story). Settles o at (byte ∷ []) after Failed) (same_told told)
      (subst (λ (c : DiskCall). FailsBy c.kind c.at c.bytes (option_map (story_behind []) told) after)
      (sym (ap (first_or call) split)) fails)
  fails_anyway (b ∷ []) rest call told after split fails =
      let same : after ≡ option_map (story_behind (b ∷ [])) told =
      subst (λ (c : DiskCall). FailsBy c.kind c.at c.bytes (option_map (story_behind (b ∷ [])) told) after)
      (sym (ap (λ (calls : List DiskCall). first_or call (drop 1 calls)) split)) fails in
      inr (
        byte ∷ [],
        refl,
        same ∙ ap (λ (c : DiskCall). option_map (story_behind (c ∷ [])) told) (sym (ap (first_or b) split)),
      )
  fails_anyway (b ∷ (c ∷ before)) rest call told after split fails =
      let none = ap (λ (calls : List DiskCall). length (drop 2 calls)) split in
      absurd (omega (arith, none, length-append before (call ∷ rest)))

module _ {D : Type 0} (members : disk.Ghosts D) (a c : D) (at byte : ℕ) where
  pub byte_settles : (answer : DiskAnswer) → CarriesOut members a c (byte_calls at byte) answer →
      Settles (members.told a) at (byte ∷ []) (members.told c) answer
  byte_settles Done row = row.goes
  byte_settles Failed row =
      fails_anyway at byte row.goes.before row.goes.rest row.goes.call (members.told a) (members.told c) row.goes.split
      row.goes.told

  module _ (row : CarriesOut members a c (byte_calls at byte) Failed)
      (sure : IsSure (members.health a) (members.health c) 2 1) where
    byte_written : (o : Option Story) →
        option_map (λ s. next_story (story_behind row.goes.before s) (answered row.goes.call Failed)) o
        ≡ option_map (with_write at (byte ∷ [])) o
    byte_written None = refl
    byte_written (Some s) = ap Some (written_anyway at byte row.goes.before row.goes.rest row.goes.call s row.goes.split)

    pub byte_told : members.told c ≡ option_map (with_write at (byte ∷ [])) (members.told a)
    byte_told =
        row.goes.listed (sure_less (members.health a) (members.health c) (length (byte_calls at byte))
        (written_by (byte_calls at byte)) 2 1 (omega arith) (omega arith) sure)
        ∙ byte_written (members.told a)

    -- so a crash leaves the byte of its choice
    pub byte_leaves : ChosenLaw → ((s : Story) → members.told a ≡ Some s → s.now.loose ≡ []) →
        ((s : Story) → members.told a ≡ Some s → at < length s.now.bytes) →
        LeavesByte (members.told a) (members.told c) at byte
    byte_leaves chosen settled inside s t told told' choice =
        let same : with_write at (byte ∷ []) s ≡ t =
        ap (story_or t) (sym (ap (λ (o : Option Story). option_map (with_write at (byte ∷ [])) o) told)
        ∙ sym byte_told ∙ told') in
        ap (λ (u : Story). image_of choice u) (sym same) ∙ chosen choice s at byte (settled s told) (inside s told)
