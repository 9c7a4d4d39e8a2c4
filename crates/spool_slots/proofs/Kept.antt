-- Bytes that are written in the area beside those that the cell names leave the file as it was; and those that a new
-- value names are what was written.
use Rattle.std.proofs.Common.{◌≡◌, ◌⊎◌, ℕ, ◌+◌, ◌*◌, ◌/◌, ◌%◌, ◌^◌, ◌≤◌, List, length, Option, Some, sym, ap, ◌∙◌, arith}
use Rattle.std.proofs.lemmas.List.{take_all}
use Rattle.std.specs.Option.{option_map}
use Rattle.disk_base.specs.Story.{bytes_at, with_part}
use Rattle.gate_cell.specs.Cell.{cell_in}
use Rattle.spool_file.specs.File.{file_in}
use Rattle.spool_file.specs.Setup.{area_in, copy_size, named_in, setup_cell}
use Rattle.spool_file.proofs.Written.{bytes_beside, bytes_inside}
use Rattle.spool_slots.specs.Files.{with_setup, written_in}

-- where the bytes that a value names begin in the area, and how many they are
abbrev pub begin_of : (value : ℕ) → ℕ
begin_of value = copy_size * (value / 2 ^ 32)

abbrev pub long_of : (value : ℕ) → ℕ
long_of value = value % 2 ^ 32

module _ (area part : List ℕ) (at value : ℕ) (inside : at + length part ≤ length area) where
  pub named_beside : (begin_of value + long_of value ≤ at) ⊎ (at + length part ≤ begin_of value) →
      named_in value (with_part area at part) ≡ named_in value area
  named_beside side = bytes_beside area part at inside (begin_of value) (long_of value) side

  pub named_there : begin_of value ≡ at → long_of value ≡ length part → named_in value (with_part area at part) ≡ part
  named_there here long =
      let same : begin_of value ≡ at + 0 = omega (arith, here) in
      ap (λ (n : ℕ). bytes_at (with_part area at part) (begin_of value) n) long
      ∙ ap (λ (p : ℕ). bytes_at (with_part area at part) p (length part)) same
      ∙ bytes_inside area part at inside 0 (length part) (omega arith)
      ∙ take_all (length part) part (omega arith)

pub written_same : (bytes part area : List ℕ) (at : ℕ) → area_in bytes ≡ Some area → at + length part ≤ length area →
    (begin_of (cell_in bytes setup_cell).value + long_of (cell_in bytes setup_cell).value ≤ at)
    ⊎ (at + length part ≤ begin_of (cell_in bytes setup_cell).value) → written_in at part bytes ≡ file_in bytes
written_same bytes part area at is inside side =
    let cell = cell_in bytes setup_cell in
    ap (λ (kept : Option (List ℕ)). with_setup (record { cell = cell; bytes = kept }) (file_in bytes))
    (ap (λ (a : Option (List ℕ)). option_map (named_in cell.value) (option_map (λ a. with_part a at part) a)) is
    ∙ ap (λ (kept : List ℕ). Some kept) (named_beside area part at cell.value inside side)
    ∙ sym (ap (option_map (named_in cell.value)) is))
