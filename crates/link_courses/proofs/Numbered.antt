-- That the list of a spool file has no gap in its numbers, so that a tool may start over it.
use Rattle.std.proofs.Common.{◌≡◌, ℕ, ◌+◌, ◌^◌, ◌<◌, ◌≤◌, List, [], ◌∷◌, length, None, subst, ◌∙◌, arith, All}
use Rattle.spool_file.specs.Area.{first_of, next_of}
use Rattle.spool_file.specs.File.{SpoolFile, file_in, floor_in, frame_in, spool_break}
use Rattle.spool_file.specs.Front.{front_in}
use Rattle.spool_file.specs.Run.{IsChainFrom}
use Rattle.spool_file.specs.Slot.{Message, slot_in}
use Rattle.spool_file.proofs.Areas.{Each}
use Rattle.spool_file.proofs.Contents.{IsHeld, each_held}
use Rattle.spool_file.proofs.Fronts.{floor_is, front_of}
use Rattle.spool_file.proofs.Runs.{chain_total}
use Rattle.spool_file.proofs.Sound.{IsWhole}
use Rattle.spool_file.proofs.Wholes.{sound_front, sound_kept, sound_slots}
use Rattle.gem_spool.proofs.Stays.{chain_sum}
use Rattle.spool_ledger.proofs.Widths.{used-is}
use Rattle.spool_works.specs.Found.{first_in}
use Rattle.equipment_node.proofs.FoundBytes.{found-sent}
use Rattle.tool_spool.specs.SpoolKept.{MayHold, used_in}

first-low : (floor : ℕ) (list : List Message) → floor ≤ 2 ^ 63 → Each IsHeld list → first_of floor list ≤ 2 ^ 63
first-low floor [] low each = low
first-low floor (x ∷ list) low each = let held = each.0.number in omega (arith, held)

module _ (bytes : List ℕ) (sound : spool_break bytes ≡ None) where
  abbrev file : SpoolFile
  file = file_in bytes

  low : floor_in bytes ≤ 2 ^ 63
  low =
      let same = floor_is bytes in
      let least = (front_of (front_in bytes) (length bytes) (sound_front bytes sound)).floor in
      omega (arith, same, least)

  whole : IsWhole (frame_in bytes) (slot_in bytes) (first_in file) (next_of (floor_in bytes) file.list)
  whole = sound_kept bytes sound

  -- its messages take as many numbers as lie between the first one and the next
  used : next_of (floor_in bytes) file.list ≡ first_in file + used_in file
  used =
      let sum =
      chain_sum (first_in file) (next_of (floor_in bytes) file.list) file.list whole.kept.chain ∙ used-is file.list in
      let all = chain_total (first_in file) (next_of (floor_in bytes) file.list) file.list whole.kept.chain in
      omega (arith, sum, all)

  -- what the file stands for may be found by a start
  pub may-hold : All (λ byte. byte < 256) bytes → MayHold file
  may-hold are =
      let first = first-low (floor_in bytes) file.list low (each_held bytes sound) in
      let room = whole.room in
      let slots = (sound_slots bytes sound).most in
      record {
        chain = subst (λ (n : ℕ). IsChainFrom (first_in file) n file.list) used whole.kept.chain;
        room = omega (arith, used, room);
        bound = omega (arith, used, room, first, slots);
        floor = omega (arith, low);
        sent = found-sent bytes are sound;
      }
