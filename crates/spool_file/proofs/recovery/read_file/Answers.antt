-- Front and slots make the file's list, and the reads are counted by where it ends.

use Rattle.std.proofs.Common.{arith, ◌≡◌, ◌*◌, ◌+◌, ◌∙◌, ap, subst, sym}
use Rattle.disk_base.specs.declared.disk.DiskAnswer.TheVariants.{Done, Failed}
use Rattle.spool_file.specs.File.{frame_in}
use Rattle.spool_file.specs.Reading.{scan_of}
use Rattle.spool_file.specs.Reads.{slots_looked}
use Rattle.spool_file.specs.Slot.{slot_in}
use Rattle.spool_file.specs.declared.slot.Frame.{Frame}
use Rattle.spool_file.proofs.Bounds.{front_slots, looked_for}
use Rattle.spool_file.proofs.FileLooks.{frame_looks, front_looks, whole_looks}
use Rattle.spool_file.proofs.Firsts.{found_none}
use Rattle.spool_file.proofs.Fronts.{mark_is}
use Rattle.spool_file.proofs.Scans.{IsScan, scan_is}
use Rattle.spool_file.proofs.Stretches.{read_behind, read_of, read_wider}
use Rattle.spool_file.proofs.Wholes.{area_sound, next_counted, sound_front, spool_broken, spool_sound}
use Rattle.spool_file.proofs.recovery.read_file.Goals as goal

pub returns-in-Whole-read_slots-clause-file : goal.returns-in-Whole-read_slots-clause-file
returns-in-Whole-read_slots-clause-file g c s is =
    let front = c.in-Whole.ensures.front s is in
    let area = c.in-Whole-read_slots.ensures.area s (c.in-Whole.ensures.told ∙ is) in
    let slot = slot_in s.now.bytes in
    let frame = frame_in s.now.bytes in
    let sound = spool_sound s.now.bytes c.in-Whole.front.frame front.0 front.1 area.0 in
    let read : c.in-Whole-read_slots.scan ≡ scan_of frame.floor slot frame.slots =
    subst (λ (f : Frame). c.in-Whole-read_slots.scan ≡ scan_of f.floor slot f.slots) front.1 area.1 in
    let scan = subst (IsScan frame slot frame.slots) (sym read) (scan_is frame slot frame.slots) in (
      sound,
      ap (λ (f : Frame). f.version) front.1,
      ap (λ (f : Frame). f.slots) front.1,
      front.2 ∙ sym (mark_is s.now.bytes),
      scan.least,
      next_counted s.now.bytes c.in-Whole-read_slots.scan sound scan,
      scan.count,
    )

pub returns-in-Whole-read_slots-clause-reads : goal.returns-in-Whole-read_slots-clause-reads
returns-in-Whole-read_slots-clause-reads g c =
    let n = c.in-Whole.front.frame.slots in
    read_behind _ _ _ _ _ _ 1 (3 * n) (3 * n + 1) Done (omega arith)
    (read_of 0 _ Done c.in-Whole.ensures.look) c.in-Whole-read_slots.ensures.reads

pub returns-in-Broken-read_slots-clause-reads : goal.returns-in-Broken-read_slots-clause-reads
returns-in-Broken-read_slots-clause-reads g c =
    let n = c.in-Whole.front.frame.slots in
    let told = g.D.Disk.told c.args.disk.now in
    let size = g.D.Disk.size_is c.args.disk.now in
    let few = looked_for told size n c.in-Whole.ensures.fits.1
    (λ s is. front_slots s.now.bytes c.in-Whole.front (c.in-Whole.ensures.front s is)) in
    read_behind _ _ _ _ _ _ 1 (3 * n) (3 * slots_looked told size + 1) Done (omega (arith, few))
    (read_of 0 _ Done c.in-Whole.ensures.look) c.in-Broken-read_slots.ensures.reads

pub returns-in-Failed-read_slots-clause-reads : goal.returns-in-Failed-read_slots-clause-reads
returns-in-Failed-read_slots-clause-reads g c =
    let n = c.in-Whole.front.frame.slots in
    let told = g.D.Disk.told c.args.disk.now in
    let size = g.D.Disk.size_is c.args.disk.now in
    let few = looked_for told size n c.in-Whole.ensures.fits.1
    (λ s is. front_slots s.now.bytes c.in-Whole.front (c.in-Whole.ensures.front s is)) in
    read_behind _ _ _ _ _ _ 1 (3 * n) (3 * slots_looked told size + 1) Failed (omega (arith, few))
    (read_of 0 _ Done c.in-Whole.ensures.look) c.in-Failed-read_slots.ensures.reads

pub returns-in-Broken-clause-reads : goal.returns-in-Broken-clause-reads
returns-in-Broken-clause-reads g c =
    read_wider _ _ _ _ 1 (3 * slots_looked (g.D.Disk.told c.args.disk.now) (g.D.Disk.size_is c.args.disk.now) + 1)
    Done (omega arith)
    (read_of 0 _ Done c.in-Broken.ensures.look)

pub returns-in-Failed-clause-reads : goal.returns-in-Failed-clause-reads
returns-in-Failed-clause-reads g c =
    read_wider _ _ _ _ 1 (3 * slots_looked (g.D.Disk.told c.args.disk.now) (g.D.Disk.size_is c.args.disk.now) + 1)
    Failed (omega arith)
    (read_of 0 _ Failed c.in-Failed.ensures.look)

-- a break that the area has, where the front has none
pub returns-in-Broken-read_slots-clause-file : goal.returns-in-Broken-read_slots-clause-file
returns-in-Broken-read_slots-clause-file g c s is =
    let front = c.in-Whole.ensures.front s is in
    let area = c.in-Broken-read_slots.ensures.area s (c.in-Whole.ensures.told ∙ is) in
    (spool_broken s.now.bytes c.in-Whole.front.frame front.1 _ front.0 area.0, area.1)

-- exactly, where nothing breaks
pub returns-in-Whole-read_slots-clause-exact : goal.returns-in-Whole-read_slots-clause-exact
returns-in-Whole-read_slots-clause-exact g c s is none =
    let front = c.in-Whole.ensures.front s is in
    whole_looks _ _ _ _ _ _ s (g.D.Disk.size_is c.args.disk.now) Done (g.met.D.Disk.sized c.args.disk.now s is) none
    c.in-Whole.ensures.look
    (frame_looks s.now.bytes c.in-Whole.front.frame front.1
    (c.in-Whole-read_slots.ensures.exact s (c.in-Whole.ensures.told ∙ is)
    (area_sound s.now.bytes c.in-Whole.front.frame front.1 none)))

pub returns-in-Broken-read_slots-clause-exact : goal.returns-in-Broken-read_slots-clause-exact
returns-in-Broken-read_slots-clause-exact g c s is none =
    let front = c.in-Whole.ensures.front s is in
    whole_looks _ _ _ _ _ _ s (g.D.Disk.size_is c.args.disk.now) Done (g.met.D.Disk.sized c.args.disk.now s is) none
    c.in-Whole.ensures.look
    (frame_looks s.now.bytes c.in-Whole.front.frame front.1
    (c.in-Broken-read_slots.ensures.exact s (c.in-Whole.ensures.told ∙ is)
    (area_sound s.now.bytes c.in-Whole.front.frame front.1 none)))

pub returns-in-Failed-read_slots-clause-exact : goal.returns-in-Failed-read_slots-clause-exact
returns-in-Failed-read_slots-clause-exact g c s is none =
    let front = c.in-Whole.ensures.front s is in
    whole_looks _ _ _ _ _ _ s (g.D.Disk.size_is c.args.disk.now) Failed (g.met.D.Disk.sized c.args.disk.now s is) none
    c.in-Whole.ensures.look
    (frame_looks s.now.bytes c.in-Whole.front.frame front.1
    (c.in-Failed-read_slots.ensures.exact s (c.in-Whole.ensures.told ∙ is)
    (area_sound s.now.bytes c.in-Whole.front.frame front.1 none)))

pub returns-in-Broken-clause-exact : goal.returns-in-Broken-clause-exact
returns-in-Broken-clause-exact g c s is none =
    absurd (found_none (sym (c.in-Broken.ensures.front s is).0) (sound_front s.now.bytes none))

pub returns-in-Failed-clause-exact : goal.returns-in-Failed-clause-exact
returns-in-Failed-clause-exact g c s is none =
    front_looks _ _ _ _ s (g.D.Disk.size_is c.args.disk.now) (g.met.D.Disk.sized c.args.disk.now s is) none
    c.in-Failed.ensures.look
