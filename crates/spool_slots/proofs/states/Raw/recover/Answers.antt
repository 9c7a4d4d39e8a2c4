-- What was read whole makes a spool, and each other end has its calls.

use Rattle.std.proofs.Common.{◌≡◌, ◌∙◌, ◌≤◌, ◌*◌, ◌+◌, inl, inr, length, Some, refl, ap, sym, subst, arith}
use Rattle.std.specs.Option.{option_map}
use Rattle.disk_base.specs.Story.{Story, with_sync}
use Rattle.disk_base.specs.declared.disk.DiskAnswer.TheVariants.{Done, Failed}
use Rattle.disk_base.proofs.Stretches.{same_then}
use Rattle.spool_file.specs.Area.{first_of}
use Rattle.spool_file.specs.File.{file_in, floor_in, slots_in, version_in}
use Rattle.spool_file.specs.Reading.{KnownFits}
use Rattle.spool_file.specs.Slot.{slot_place}
use Rattle.spool_file.proofs.Bounds.{most_same}
use Rattle.spool_file.proofs.FileLooks.{no_sync, synced_looks}
use Rattle.spool_file.proofs.Stretches.{read_from}
use Rattle.spool_slots.specs.Changes.{HasRecovered, RecoversBy}
use Rattle.spool_slots.specs.Spool.{Rests, SpoolView, known_of}
use Rattle.spool_slots.proofs.Found.{rests_of, spool_of, synced}
use Rattle.spool_slots.proofs.states.Raw.recover.Goals as goal

pub taken_up-requires : goal.taken_up-requires
taken_up-requires g c =
    spool_of g.D.Disk c.read_file.new.disk c.in-Whole.known
    (subst (λ n. KnownFits n c.in-Whole.known) (sym c.in-Whole.ensures.size) c.in-Whole.ensures.fits)
    (λ s is. let sized = g.met.D.Disk.sized c.read_file.new.disk s is in
    let fits = c.in-Whole.ensures.fits in
    let inside : slot_place c.in-Whole.known.slots ≤ length s.now.bytes =
    omega (arith, fits.fits, sized, c.in-Whole.ensures.size) in
    rests_of s c.in-Whole.known
    (synced (g.D.Disk.told c.args.self.disk) _ s (c.in-Whole.ensures.told ∙ c.in-Done.ensures.told) is) inside
    (c.in-Whole.ensures.file s (sym c.in-Whole.ensures.told ∙ is)))

pub returns-in-Whole : goal.returns-in-Whole
returns-in-Whole g c =
    subst (λ (v : SpoolView g.row.D.Denot). HasRecovered g.D.Disk c.args.self.disk v.disk (3 * v.slots + 1) Done
    × ((s : Story) → g.D.Disk.told c.args.self.disk ≡ Some s → Rests (with_sync s) (known_of v)
    × (v.first ≡ first_of (floor_in s.now.bytes) (file_in s.now.bytes).list))
    × RecoversBy g.D.Disk c.args.self.disk v.disk Done) (sym c.taken_up.ensures) (
      record {
        told = c.in-Whole.ensures.told ∙ c.in-Done.ensures.told;
        size = c.in-Whole.ensures.size ∙ c.in-Done.ensures.size;
        same_disk = same_then c.in-Done.ensures.same_disk c.in-Whole.ensures.same_disk;
        synced = g.D.Disk.health c.sync.new.self;
        cause = c.in-Done.ensures.cause;
        reads = read_from c.in-Done.ensures.calls c.in-Whole.ensures.reads;
      },
      λ s is. let told = c.in-Done.ensures.told ∙ ap (option_map with_sync) is in
          let sized = g.met.D.Disk.sized c.sync.new.self (with_sync s) told in
          let fits = c.in-Whole.ensures.fits in
          let inside : slot_place c.in-Whole.known.slots ≤ length s.now.bytes = omega (arith, fits.fits, sized) in
          let known = c.in-Whole.ensures.file (with_sync s) told in
          (rests_of (with_sync s) c.in-Whole.known refl inside known, known.4),
      λ s is none. synced_looks _ _ _ _ _ _ (version_in s.now.bytes) (slots_in s.now.bytes) Done c.in-Done.ensures.cause c.in-Done.ensures.calls
          (c.in-Whole.ensures.exact (with_sync s) (c.in-Done.ensures.told ∙ ap (option_map with_sync) is) none),
    )

pub returns-in-Broken : goal.returns-in-Broken
returns-in-Broken g c = (
  record {
    told = c.in-Broken.ensures.told ∙ c.in-Done.ensures.told;
    size = c.in-Broken.ensures.size ∙ c.in-Done.ensures.size;
    same_disk = same_then c.in-Done.ensures.same_disk c.in-Broken.ensures.same_disk;
    synced = g.D.Disk.health c.sync.new.self;
    cause = c.in-Done.ensures.cause;
    reads = read_from c.in-Done.ensures.calls (most_same _ _ c.in-Done.ensures.size _ _ c.in-Done.ensures.told
        c.in-Broken.ensures.reads);
  },
  λ s is. c.in-Broken.ensures.file (with_sync s) (c.in-Done.ensures.told ∙ ap (option_map with_sync) is),
)

pub returns-in-Failed-read_file : goal.returns-in-Failed-read_file
returns-in-Failed-read_file g c = (
  inr (record {
    told = c.in-Failed-read_file.ensures.told ∙ c.in-Done.ensures.told;
    size = c.in-Failed-read_file.ensures.size ∙ c.in-Done.ensures.size;
    same_disk = same_then c.in-Done.ensures.same_disk c.in-Failed-read_file.ensures.same_disk;
    synced = g.D.Disk.health c.sync.new.self;
    cause = c.in-Done.ensures.cause;
    reads = read_from c.in-Done.ensures.calls (most_same _ _ c.in-Done.ensures.size _ _ c.in-Done.ensures.told
        c.in-Failed-read_file.ensures.reads);
  }),
  λ s is none. synced_looks _ _ _ _ _ _ (version_in s.now.bytes) (slots_in s.now.bytes) Failed c.in-Done.ensures.cause c.in-Done.ensures.calls
      (c.in-Failed-read_file.ensures.exact (with_sync s) (c.in-Done.ensures.told ∙ ap (option_map with_sync) is) none),
)

pub returns-in-Failed : goal.returns-in-Failed
returns-in-Failed g c = (
  inl (record {
    told = c.in-Failed.ensures.told;
    size = c.in-Failed.ensures.size;
    same_disk = c.in-Failed.ensures.same_disk;
    cause = c.in-Failed.ensures.cause;
    calls = c.in-Failed.ensures.calls;
  }),
  λ s is none. no_sync _ _ _ _ (version_in s.now.bytes) (slots_in s.now.bytes) c.in-Failed.ensures.cause c.in-Failed.ensures.calls,
)
