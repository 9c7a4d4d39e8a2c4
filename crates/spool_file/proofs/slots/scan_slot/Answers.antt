-- The slot breaks exactly where the file's does, or is counted.

use Rattle.std.proofs.Common.{◌+◌, ◌≤◌, ◌==◌, ℕ, Bool, true, false, if◌then◌else◌, drop, ◌∙◌, sym, subst, arith}
use Rattle.spool_file.specs.Reading.{HasRoom, slot_from}
use Rattle.spool_file.specs.Slot.{head_of, stands_on}
use Rattle.spool_file.proofs.Scans.{counted_room, used_small}
use Rattle.spool_file.proofs.Starts.{broken_on, same_break, same_count}
use Rattle.spool_file.proofs.slots.scan_slot.Goals as goal

pub returns-in-Some-clause-scan : goal.returns-in-Some-clause-scan
returns-in-Some-clause-scan g c s told =
    let is = c.in-Done.ensures.start s told in
    broken_on s.now.bytes c.read_start.new.start c.args.slot c.in-Some.place _ _ c.break_in.result is
    (same_break s.now.bytes c.read_start.new.start c.args.slot c.read_start.array_long is c.args.frame)
    (sym c.in-Some.is ∙ c.start_break.ensures.place) c.break_in.ensures.at c.break_in.ensures.got

pub returns-in-None-clause-scan : goal.returns-in-None-clause-scan
returns-in-None-clause-scan g c s told =
    let is = c.in-Done.ensures.start s told in (
      sym (same_break s.now.bytes c.read_start.new.start c.args.slot c.read_start.array_long is c.args.frame)
          ∙ sym c.start_break.ensures.place ∙ c.in-None.is,
      c.counted.ensures
          ∙ same_count s.now.bytes c.read_start.new.start c.args.slot c.read_start.array_long is c.args.frame.floor
          c.args.scan,
    )

-- its count is in range

pub counted-requires-clause-count : goal.counted-requires-clause-count
counted-requires-clause-count g c = omega (arith, c.requires.room.count, c.requires.slot, c.requires.frame.most)

pub counted-requires-clause-used : goal.counted-requires-clause-used
counted-requires-clause-used g c =
    used_small c.args.frame.version c.args.slot c.args.scan c.requires.room
    (omega (arith, c.requires.slot, c.requires.frame.most))

pub counted-requires-clause-size : goal.counted-requires-clause-size
counted-requires-clause-size g c = λ there.
    by_version (c.args.frame.version == 1) (c.start_break.ensures.size c.in-None.is there) where
      by_version : {n : ℕ} (b : Bool) → n ≤ (if b then 1 else 257) → n ≤ 257
      by_version true less = omega (arith, less)
      by_version false less = less

pub returns-in-None-clause-fits : goal.returns-in-None-clause-fits
returns-in-None-clause-fits g c =
    let start = c.read_start.new.start in
    subst (HasRoom c.args.frame.version (c.args.slot + 1)) (sym c.counted.ensures)
    (counted_room c.args.frame.version c.args.slot c.args.scan c.requires.room
    (stands_on c.args.frame.floor (slot_from start)) (head_of (drop 1 start))
    (λ there. c.start_break.ensures.size c.in-None.is there) (λ there. c.start_break.ensures.number c.in-None.is there))
