-- The break that was found is the first of the area, by fields or by numbers, and no slot was read more than twice.

use Rattle.std.proofs.Common.{arith, ◌+◌, ◌*◌, ◌∙◌, sym, Some, None}
use Rattle.disk_base.specs.declared.disk.DiskAnswer.TheVariants.{Done, Failed}
use Rattle.spool_file.specs.Slot.{slot_in}
use Rattle.spool_file.proofs.Gapless.{even_both, even_fields, even_numbers, none_ahead, none_even}
use Rattle.spool_file.proofs.Scans.{end_is, fits_even, less_than, none_used, scanned, used_none}
use Rattle.spool_file.proofs.Stretches.{read_behind, read_wider}
use Rattle.spool_file.proofs.slots.read_even.Goals as goal

pub returns-then-scan-eq0-clause-area : goal.returns-then-scan-eq0-clause-area
returns-then-scan-eq0-clause-area g c s told =
    let found = c.in-Whole.ensures.scan s told in
    let frame = c.args.frame in
    let slot = slot_in s.now.bytes in
    let is = scanned frame slot frame.slots c.in-Whole.scan found.1 in
    let none = used_none frame.version frame.slots c.in-Whole.scan c.in-Whole.ensures.fits
    (omega (arith, c.if-scan-eq0.true)) in (
      none_even frame slot c.requires.version (none_used frame slot frame.slots (sym is.used ∙ none)) found.0,
      found.1,
    )

pub returns-then-scan-end-clause-area : goal.returns-then-scan-end-clause-area
returns-then-scan-end-clause-area g c s told =
    let found = c.in-Whole.ensures.scan s told in
    let frame = c.args.frame in
    let slot = slot_in s.now.bytes in
    let is = scanned frame slot frame.slots c.in-Whole.scan found.1 in (
      even_numbers frame slot c.requires.version (c.in-Whole.scan.least + c.in-Whole.scan.count) None found.0
          (end_is frame slot frame.slots c.in-Whole.scan is)
          (none_ahead frame slot frame.slots (c.in-Whole.scan.least + c.in-Whole.scan.count)
          (omega (arith, is.greatest, c.if-scan-end.true))),
      found.1,
    )

pub returns-in-Whole-check_slots-clause-area : goal.returns-in-Whole-check_slots-clause-area
returns-in-Whole-check_slots-clause-area g c s told =
    let found = c.in-Whole.ensures.scan s told in
    let frame = c.args.frame in
    let slot = slot_in s.now.bytes in
    let is = scanned frame slot frame.slots c.in-Whole.scan found.1 in (
      even_numbers frame slot c.requires.version (c.in-Whole.scan.least + c.in-Whole.scan.count) None found.0
          (end_is frame slot frame.slots c.in-Whole.scan is)
          (c.in-Whole-check_slots.ensures.end s (c.in-Whole.ensures.told ∙ told)),
      found.1,
    )

pub returns-in-Broken-check_slots-clause-area : goal.returns-in-Broken-check_slots-clause-area
returns-in-Broken-check_slots-clause-area g c s told =
    let found = c.in-Whole.ensures.scan s told in
    let frame = c.args.frame in
    let slot = slot_in s.now.bytes in
    let is = scanned frame slot frame.slots c.in-Whole.scan found.1 in
    let broken = c.in-Broken-check_slots.ensures.end s (c.in-Whole.ensures.told ∙ told) in (
      even_numbers frame slot c.requires.version (c.in-Whole.scan.least + c.in-Whole.scan.count) (Some _) found.0
          (end_is frame slot frame.slots c.in-Whole.scan is) broken.0,
      broken.1,
    )

pub returns-in-Broken-clause-area : goal.returns-in-Broken-clause-area
returns-in-Broken-clause-area g c s told =
    let found = c.in-Broken.ensures.scan s told in
    (even_fields c.args.frame (slot_in s.now.bytes) c.requires.version c.in-Broken.not_spool.at found.0, found.1)

pub returns-in-Whole-check_slots-clause-reads : goal.returns-in-Whole-check_slots-clause-reads
returns-in-Whole-check_slots-clause-reads g c =
    let n = c.args.frame.slots in
    read_behind _ _ _ _ _ _ n n (2 * n) Done (omega arith) c.in-Whole.ensures.reads c.in-Whole-check_slots.ensures.reads

pub returns-in-Broken-check_slots-clause-reads : goal.returns-in-Broken-check_slots-clause-reads
returns-in-Broken-check_slots-clause-reads g c =
    let n = c.args.frame.slots in
    read_behind _ _ _ _ _ _ n n (2 * n) Done (omega arith) c.in-Whole.ensures.reads c.in-Broken-check_slots.ensures.reads

pub returns-in-Failed-check_slots-clause-reads : goal.returns-in-Failed-check_slots-clause-reads
returns-in-Failed-check_slots-clause-reads g c =
    let n = c.args.frame.slots in
    read_behind _ _ _ _ _ _ n n (2 * n) Failed (omega arith) c.in-Whole.ensures.reads
    c.in-Failed-check_slots.ensures.reads

pub returns-in-Broken-clause-reads : goal.returns-in-Broken-clause-reads
returns-in-Broken-clause-reads g c =
    read_wider _ _ _ _ c.args.frame.slots (2 * c.args.frame.slots) Done (omega arith) c.in-Broken.ensures.reads

pub returns-in-Failed-clause-reads : goal.returns-in-Failed-clause-reads
returns-in-Failed-clause-reads g c =
    read_wider _ _ _ _ c.args.frame.slots (2 * c.args.frame.slots) Failed (omega arith) c.in-Failed.ensures.reads

pub returns-then-scan-eq0-clause-reads : goal.returns-then-scan-eq0-clause-reads
returns-then-scan-eq0-clause-reads g c =
    read_wider _ _ _ _ c.args.frame.slots (2 * c.args.frame.slots) Done (omega arith) c.in-Whole.ensures.reads

pub returns-then-scan-end-clause-reads : goal.returns-then-scan-end-clause-reads
returns-then-scan-end-clause-reads g c =
    read_wider _ _ _ _ c.args.frame.slots (2 * c.args.frame.slots) Done (omega arith) c.in-Whole.ensures.reads

-- exactly, where no slot breaks: no slot is read again then
pub returns-then-scan-eq0-clause-exact : goal.returns-then-scan-eq0-clause-exact
returns-then-scan-eq0-clause-exact g c s told none =
    c.in-Whole.ensures.exact s told (even_both c.args.frame (slot_in s.now.bytes) c.requires.version none).0

pub returns-then-scan-end-clause-exact : goal.returns-then-scan-end-clause-exact
returns-then-scan-end-clause-exact g c s told none =
    c.in-Whole.ensures.exact s told (even_both c.args.frame (slot_in s.now.bytes) c.requires.version none).0

pub returns-in-Whole-check_slots-clause-exact : goal.returns-in-Whole-check_slots-clause-exact
returns-in-Whole-check_slots-clause-exact g c s told none =
    let slot = slot_in s.now.bytes in
    let found = c.in-Whole.ensures.scan s told in
    let is = scanned c.args.frame slot c.args.frame.slots c.in-Whole.scan found.1 in
    let less = less_than c.args.frame slot c.in-Whole.scan is
    (even_both c.args.frame slot c.requires.version none).1 (grind (arith, c.if-scan-eq0.false)) in
    absurd (omega (arith, less, c.if-scan-end.false))

pub returns-in-Broken-check_slots-clause-exact : goal.returns-in-Broken-check_slots-clause-exact
returns-in-Broken-check_slots-clause-exact g c s told none =
    let slot = slot_in s.now.bytes in
    let found = c.in-Whole.ensures.scan s told in
    let is = scanned c.args.frame slot c.args.frame.slots c.in-Whole.scan found.1 in
    let less = less_than c.args.frame slot c.in-Whole.scan is
    (even_both c.args.frame slot c.requires.version none).1 (grind (arith, c.if-scan-eq0.false)) in
    absurd (omega (arith, less, c.if-scan-end.false))

pub returns-in-Failed-check_slots-clause-exact : goal.returns-in-Failed-check_slots-clause-exact
returns-in-Failed-check_slots-clause-exact g c s told none =
    let slot = slot_in s.now.bytes in
    let found = c.in-Whole.ensures.scan s told in
    let is = scanned c.args.frame slot c.args.frame.slots c.in-Whole.scan found.1 in
    let less = less_than c.args.frame slot c.in-Whole.scan is
    (even_both c.args.frame slot c.requires.version none).1 (grind (arith, c.if-scan-eq0.false)) in
    absurd (omega (arith, less, c.if-scan-end.false))

pub returns-in-Broken-clause-exact : goal.returns-in-Broken-clause-exact
returns-in-Broken-clause-exact g c s told none =
    c.in-Broken.ensures.exact s told (even_both c.args.frame (slot_in s.now.bytes) c.requires.version none).0

pub returns-in-Failed-clause-exact : goal.returns-in-Failed-clause-exact
returns-in-Failed-clause-exact g c s told none =
    c.in-Failed.ensures.exact s told (even_both c.args.frame (slot_in s.now.bytes) c.requires.version none).0

-- what is counted is in range

pub returns-then-scan-eq0-clause-fits : goal.returns-then-scan-eq0-clause-fits
returns-then-scan-eq0-clause-fits g c =
    fits_even c.args.frame.version c.args.frame.slots c.in-Whole.scan c.in-Whole.ensures.fits c.requires.version

pub returns-then-scan-end-clause-fits : goal.returns-then-scan-end-clause-fits
returns-then-scan-end-clause-fits g c =
    fits_even c.args.frame.version c.args.frame.slots c.in-Whole.scan c.in-Whole.ensures.fits c.requires.version

pub returns-in-Whole-check_slots-clause-fits : goal.returns-in-Whole-check_slots-clause-fits
returns-in-Whole-check_slots-clause-fits g c =
    fits_even c.args.frame.version c.args.frame.slots c.in-Whole.scan c.in-Whole.ensures.fits c.requires.version
