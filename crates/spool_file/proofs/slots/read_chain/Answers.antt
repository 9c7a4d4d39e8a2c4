-- The break that was found is the first of the area: by fields, by a message that follows none, or by the sum.

use Rattle.std.proofs.Common.{arith, ◌+◌, ◌*◌, ◌∙◌, sym, None}
use Rattle.disk_base.specs.declared.disk.DiskAnswer.TheVariants.{Done, Failed}
use Rattle.spool_file.specs.Reads.{look_back}
use Rattle.spool_file.specs.Slot.{slot_in}
use Rattle.spool_file.proofs.Chains.{chain_parts, less_sum}
use Rattle.spool_file.proofs.FileLooks.{both_looks, first_looks}
use Rattle.spool_file.proofs.Firsts.{found_none}
use Rattle.spool_file.proofs.Scans.{fits_chain, scanned}
use Rattle.spool_file.proofs.Stretches.{read_behind, read_wider}
use Rattle.spool_file.proofs.Sums.{chain_fields, chain_lone, chain_sum, sum_broken}
use Rattle.spool_file.proofs.slots.read_chain.Goals as goal

pub check_chain-requires-clause-told : goal.check_chain-requires-clause-told
check_chain-requires-clause-told g c = λ s told.
    let found = c.in-Whole.ensures.scan s (sym c.in-Whole.ensures.told ∙ told) in
    (found.0, (scanned c.args.frame (slot_in s.now.bytes) c.args.frame.slots c.in-Whole.scan found.1).least)

pub returns-in-Broken-clause-area : goal.returns-in-Broken-clause-area
returns-in-Broken-clause-area g c s told =
    let found = c.in-Broken.ensures.scan s told in
    (chain_fields c.args.frame (slot_in s.now.bytes) c.requires.version c.in-Broken.not_spool.at found.0, found.1)

pub returns-in-Broken-check_chain-clause-area : goal.returns-in-Broken-check_chain-clause-area
returns-in-Broken-check_chain-clause-area g c s told =
    let found = c.in-Whole.ensures.scan s told in
    let broken = c.in-Broken-check_chain.ensures.chain s (c.in-Whole.ensures.told ∙ told) in
    (chain_lone c.args.frame (slot_in s.now.bytes) c.requires.version _ found.0 broken.0, broken.1)

pub returns-then-scan-frame-clause-area : goal.returns-then-scan-frame-clause-area
returns-then-scan-frame-clause-area g c s told =
    let frame = c.args.frame in
    let found = c.in-Whole.ensures.scan s told in
    let linked = c.in-Whole-check_chain.ensures.chain s (c.in-Whole.ensures.told ∙ told) in
    let sized = g.met.D.Disk.sized c.args.disk.now s told in
    let broken = sum_broken s.now.bytes frame c.in-Whole.scan c.sum_break.result c.requires.frame
    (omega (arith, c.requires.size, sized)) found.0 found.1 (omega (arith, c.if-scan-frame.true)) c.sum_break.ensures.at
    c.sum_break.ensures.got in
    (chain_sum frame (slot_in s.now.bytes) c.requires.version _ found.0 linked broken.0, broken.1)

pub returns-else-scan-frame-clause-area : goal.returns-else-scan-frame-clause-area
returns-else-scan-frame-clause-area g c s told =
    let frame = c.args.frame in
    let slot = slot_in s.now.bytes in
    let found = c.in-Whole.ensures.scan s told in
    let linked = c.in-Whole-check_chain.ensures.chain s (c.in-Whole.ensures.told ∙ told) in
    let is = scanned frame slot frame.slots c.in-Whole.scan found.1 in (
      chain_sum frame slot c.requires.version None found.0 linked
          (less_sum frame slot (omega (arith, is.used, c.if-scan-frame.false))),
      found.1,
    )

pub returns-in-Broken-clause-reads : goal.returns-in-Broken-clause-reads
returns-in-Broken-clause-reads g c =
    read_wider _ _ _ _ c.args.frame.slots (3 * c.args.frame.slots) Done (omega arith) c.in-Broken.ensures.reads

pub returns-in-Failed-clause-reads : goal.returns-in-Failed-clause-reads
returns-in-Failed-clause-reads g c =
    read_wider _ _ _ _ c.args.frame.slots (3 * c.args.frame.slots) Failed (omega arith) c.in-Failed.ensures.reads

pub returns-in-Broken-check_chain-clause-reads : goal.returns-in-Broken-check_chain-clause-reads
returns-in-Broken-check_chain-clause-reads g c =
    let n = c.args.frame.slots in
    read_behind _ _ _ _ _ _ n (n + look_back n) (3 * n) Done (omega arith) c.in-Whole.ensures.reads
    c.in-Broken-check_chain.ensures.reads

pub returns-in-Failed-check_chain-clause-reads : goal.returns-in-Failed-check_chain-clause-reads
returns-in-Failed-check_chain-clause-reads g c =
    let n = c.args.frame.slots in
    read_behind _ _ _ _ _ _ n (n + look_back n) (3 * n) Failed (omega arith) c.in-Whole.ensures.reads
    c.in-Failed-check_chain.ensures.reads

pub returns-else-scan-frame-clause-reads : goal.returns-else-scan-frame-clause-reads
returns-else-scan-frame-clause-reads g c =
    let n = c.args.frame.slots in
    read_behind _ _ _ _ _ _ n (n + look_back n) (3 * n) Done (omega arith) c.in-Whole.ensures.reads
    c.in-Whole-check_chain.ensures.reads

pub returns-then-scan-frame-clause-reads : goal.returns-then-scan-frame-clause-reads
returns-then-scan-frame-clause-reads g c =
    let n = c.args.frame.slots in
    read_behind _ _ _ _ _ _ n (n + look_back n) (3 * n) Done (omega arith) c.in-Whole.ensures.reads
    c.in-Whole-check_chain.ensures.reads

-- exactly, where nothing breaks
pub returns-else-scan-frame-clause-exact : goal.returns-else-scan-frame-clause-exact
returns-else-scan-frame-clause-exact g c s told none =
    let parts = chain_parts c.args.frame (slot_in s.now.bytes) c.requires.version none in
    both_looks c.args.frame.slots Done (c.in-Whole.ensures.exact s told parts.0)
    (c.in-Whole-check_chain.ensures.exact s (c.in-Whole.ensures.told ∙ told) parts.1)

pub returns-then-scan-frame-clause-exact : goal.returns-then-scan-frame-clause-exact
returns-then-scan-frame-clause-exact g c s told none =
    let parts = chain_parts c.args.frame (slot_in s.now.bytes) c.requires.version none in
    both_looks c.args.frame.slots Done (c.in-Whole.ensures.exact s told parts.0)
    (c.in-Whole-check_chain.ensures.exact s (c.in-Whole.ensures.told ∙ told) parts.1)

pub returns-in-Broken-check_chain-clause-exact : goal.returns-in-Broken-check_chain-clause-exact
returns-in-Broken-check_chain-clause-exact g c s told none =
    let parts = chain_parts c.args.frame (slot_in s.now.bytes) c.requires.version none in
    both_looks c.args.frame.slots Done (c.in-Whole.ensures.exact s told parts.0)
    (c.in-Broken-check_chain.ensures.exact s (c.in-Whole.ensures.told ∙ told) parts.1)

pub returns-in-Failed-check_chain-clause-exact : goal.returns-in-Failed-check_chain-clause-exact
returns-in-Failed-check_chain-clause-exact g c s told none =
    let parts = chain_parts c.args.frame (slot_in s.now.bytes) c.requires.version none in
    both_looks c.args.frame.slots Failed (c.in-Whole.ensures.exact s told parts.0)
    (c.in-Failed-check_chain.ensures.exact s (c.in-Whole.ensures.told ∙ told) parts.1)

pub returns-in-Broken-clause-exact : goal.returns-in-Broken-clause-exact
returns-in-Broken-clause-exact g c s told none =
    let parts = chain_parts c.args.frame (slot_in s.now.bytes) c.requires.version none in
    absurd (found_none (sym (c.in-Broken.ensures.scan s told).0) parts.0)

pub returns-in-Failed-clause-exact : goal.returns-in-Failed-clause-exact
returns-in-Failed-clause-exact g c s told none =
    let parts = chain_parts c.args.frame (slot_in s.now.bytes) c.requires.version none in
    first_looks c.args.frame.slots (c.in-Failed.ensures.exact s told parts.0)

-- what is counted is in range
pub returns-else-scan-frame-clause-fits : goal.returns-else-scan-frame-clause-fits
returns-else-scan-frame-clause-fits g c =
    fits_chain c.args.frame.version c.args.frame.slots c.in-Whole.scan c.in-Whole.ensures.fits
    (omega (arith, c.if-scan-frame.false))
