-- The setup of a spool file stays where neither its cell nor the area is written.
use Rattle.std.proofs.Common.{◌≡◌, ◌⊎◌, ℕ, ◌+◌, ◌≤◌, if◌then◌else◌, List, length, Option, Some, None, ap, ◌∙◌}
use Rattle.std.proofs.Common.{inl, inr}
use Rattle.disk_base.specs.Story.{bytes_at, with_part}
use Rattle.disk_base.proofs.Marks.{length-part}
use Rattle.gate_cell.specs.Cell.{Cell, cell_in, cell_of}
use Rattle.spool_file.specs.File.{slots_in}
use Rattle.spool_file.specs.Setup.{area_in, area_of, area_size, has_area, setup_cell, setup_in, setup_of}
use Rattle.spool_file.specs.Slot.{slot_place}
use Rattle.spool_file.proofs.Written.{bytes_beside}

module _ (bytes image : List ℕ) (count : slots_in image ≡ slots_in bytes) (long : length image ≡ length bytes)
    (behind : bytes_at image (slot_place (slots_in bytes)) area_size
    ≡ bytes_at bytes (slot_place (slots_in bytes)) area_size) where
  pub area_same : area_in image ≡ area_in bytes
  area_same =
      ap (λ (n : ℕ). area_of n image) count
      ∙ ap (λ (size : ℕ). if has_area (slots_in bytes) size
      then Some (bytes_at image (slot_place (slots_in bytes)) area_size) else None) long
      ∙ ap (λ (area : List ℕ). if has_area (slots_in bytes) (length bytes) then Some area else None) behind

  pub setup_same : cell_in image setup_cell ≡ cell_in bytes setup_cell → setup_in image ≡ setup_in bytes
  setup_same cell =
      ap (λ (c : Cell). setup_of c (area_in image)) cell
      ∙ ap (λ (area : Option (List ℕ)). setup_of (cell_in bytes setup_cell) area) area_same

-- some bytes before the area are written
module _ (bytes part : List ℕ) (at : ℕ) (inside : at + length part ≤ length bytes)
    (before : at + length part ≤ slot_place (slots_in bytes)) where
  abbrev now : List ℕ
  now = with_part bytes at part

  pub area_beside : slots_in now ≡ slots_in bytes → area_in now ≡ area_in bytes
  area_beside count = area_same bytes now count (length-part bytes part at inside)
      (bytes_beside bytes part at inside (slot_place (slots_in bytes)) area_size (inr before))

  pub setup_beside : slots_in now ≡ slots_in bytes → (at + length part ≤ setup_cell) ⊎ (setup_cell + 17 ≤ at) →
      setup_in now ≡ setup_in bytes
  setup_beside count side = setup_same bytes now count (length-part bytes part at inside)
      (bytes_beside bytes part at inside (slot_place (slots_in bytes)) area_size (inr before))
      (ap cell_of (bytes_beside bytes part at inside setup_cell 17 (other side)))
    where
      other : (at + length part ≤ setup_cell) ⊎ (setup_cell + 17 ≤ at) →
          (setup_cell + 17 ≤ at) ⊎ (at + length part ≤ setup_cell)
      other (inl less) = inr less
      other (inr more) = inl more
