-- A page in which no place is marked keeps its bytes.

use Rattle.std.proofs.Common.{◌≡◌, ◌+◌, ◌≤◌, ◌++◌, ◌∙◌, ℕ, List, true, false, length, drop, ap, arith, rules}
use Rattle.std.specs.Bool.{beq}
use Rattle.std.specs.List.{list_any, slice_range}
use Rattle.disk_base.specs.Cut.{bytes_left}
use Rattle.disk_base.proofs.Pages.{unmarked_part}
use Rattle.disk_base.proofs.cut.leave_pages.Goals as goal

pub loop-place-preserved : goal.loop-place-preserved
loop-place-preserved c =
    let place = c.loop-place.place in
    let end = place + c.min.result in
    let within : end ≤ length c.args.now.now = search rules in
    let image : c.extend_from_slice.new.self.items ≡ c.loop-place.image.items ++ slice_range c.args.now.now place end =
    search rules in
    let none : list_any (λ mark. beq mark true) (slice_range c.args.marks.now place end) ≡ false = search rules in (
      within,
      ap (λ (all : List ℕ). all
          ++ bytes_left c.loop-place.choice (drop end c.args.marks.now) (drop end c.args.settled.now)
          (drop end c.args.now.now)) image
          ∙ unmarked_part place end c.loop-place.choice c.args.marks.now c.args.settled.now c.args.now.now
          c.loop-place.image.items _ (omega arith) within c.requires.marks c.requires.settled none
          c.loop-place.invariant.1,
    )
