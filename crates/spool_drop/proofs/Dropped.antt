-- From the list in hand to the file that the disk was given.
use Rattle.std.proofs.Common.{◌≡◌, refl, ◌∙◌, ap, subst, ℕ, List, min, Option, Some, Ok, Err, inl, inr}
use Rattle.disk_base.specs.Disk.{Attaches}
use Rattle.disk_base.specs.Faults.{Rose}
use Rattle.disk_base.specs.Story.{Story}
use Rattle.disk_base.specs.declared.disk.Disk as trait
use Rattle.disk_base.specs.declared.disk.DiskAnswer.TheVariants as answer
use Rattle.gl_base.specs.Sink.{SinkHealth}
use Rattle.gl_base.specs.Told.{SinkTold}
use Rattle.gl_base.proofs.Appending.{told, wrote_nothing}
use Rattle.spool_drop.specs.Dropping.{DropsListed, DropsOf, GetsTo, Leaves, MayBeLeft, WritesDropped}
use Rattle.spool_drop.specs.Dropping.{few_of, upgraded_without}
use Rattle.spool_file.specs.File.{file_in}
use Rattle.spool_file.specs.Reads.{most_reads}
use Rattle.spool_show.specs.Showing.{IsCounted, IsSound, end_of_refusal, refused_disk}
use Rattle.spool_show.specs.Told.{DiskTold}
use Rattle.spool_show.specs.declared.spool_end.SpoolEnd.{SpoolEnd}
use Rattle.spool_show.specs.declared.spool_end.SpoolEnd.TheVariants as end
use Rattle.spool_show.proofs.SpoolFiles.{attached}
use Rattle.spool_slots.specs.Changes.{HasRecovered, HoldsThrough, Recovers}
use Rattle.spool_slots.specs.Spool.{SpoolView}
use Rattle.spool_slots.specs.declared.states.Recovering.{Recovering}
use Rattle.spool_slots.specs.declared.states.Recovering.TheVariants as recovering
use Rattle.spool_slots.specs.declared.states.Spent.{Spent}

-- what came of a file, by what is told of its disk
pub record DropsAs (count : ℕ) (before after : Option Story) (faults faults_after : ℕ) (out : SinkTold)
    (end : SpoolEnd) :
    Type 0 where
  pub left : Leaves count before after out end
  pub count_is : IsCounted faults faults_after end

pub drops-of : (disk : DiskTold) (count : ℕ) (out : SinkTold) (end : SpoolEnd) {before after : Option Story}
    {faults faults_after : ℕ} {shown : SpoolEnd} → before ≡ disk.before → after ≡ disk.after
    → faults ≡ disk.health.faults → faults_after ≡ disk.health_after.faults → shown ≡ end
    → DropsAs count before after faults faults_after out shown → DropsOf count disk out end
drops-of disk count out end {before} {after} {faults} {faults_after} {shown} one two three four five drops =
    let all =
    subst (λ (e : SpoolEnd). DropsAs count disk.before disk.after disk.health.faults disk.health_after.faults out e)
    five
    (subst (λ (n : ℕ). DropsAs count disk.before disk.after disk.health.faults n out shown) four
    (subst (λ (n : ℕ). DropsAs count disk.before disk.after n faults_after out shown) three
    (subst (λ (t : Option Story). DropsAs count disk.before t faults faults_after out shown) two
    (subst (λ (t : Option Story). DropsAs count t after faults faults_after out shown) one drops))))
    in
    record { left = all.left; count_is = all.count_is }

-- behind an attaching that changed nothing of what is told
pub drops-before : (disk : DiskTold) (mid : DiskTold) (count : ℕ) (out : SinkTold) (end : SpoolEnd)
    → mid.before ≡ disk.before → mid.after ≡ disk.after → mid.health.faults ≡ disk.health.faults
    → mid.health_after.faults ≡ disk.health_after.faults → DropsOf count mid out end → DropsOf count disk out end
drops-before disk mid count out end one two three four drops =
    drops-of disk count out end one two three four refl (record { left = drops.left; count_is = drops.count_is })

module _ {D : Type 0} (members : trait.Ghosts D) where
  recovered_count : (old new : D) {most : ℕ} → HasRecovered members old new most answer.Done
      → (members.health new).faults ≡ (members.health old).faults
  recovered_count old new is = is.reads.cause.same ∙ is.cause.same

  failed_count : (old new : D) (most : ℕ) → HasRecovered members old new most answer.Failed
      → Rose (members.health old).faults (members.health new).faults
  failed_count old new most is =
      subst (λ (n : ℕ). Rose n (members.health new).faults) is.cause.same is.reads.cause.rose

  -- where a device wasn't recovered, nothing was dropped or written
  pub not-recovered : (old : D) (count : ℕ) {was : Option (List ℕ)} {a : SinkHealth} (refusal : Recovering D)
      → Recovers members old (Err refusal)
      → DropsAs count (members.told old) (members.told (refused_disk refusal)) (members.health old).faults
      (members.health (refused_disk refusal)).faults (told was was a a) (end_of_refusal refusal)
  not-recovered old count (recovering.NotSpool raw place) (read, breaks) =
      record { left = (wrote_nothing, breaks, inr read.told); count_is = recovered_count old raw.disk read }
  not-recovered old count (recovering.Failed spent) (inl unsynced, by) =
      record { left = (wrote_nothing, inl (inl unsynced.told)); count_is = unsynced.cause.rose }
  not-recovered old count (recovering.Failed spent) (inr read, by) = record {
    left = (wrote_nothing, inl (inr read.told));
    count_is = failed_count old spent.disk (most_reads (members.told old) (members.size_is old)) read;
  }

  module _ (old : D) (v : SpoolView D) (count : ℕ) (is : Recovers members old (Ok v)) where
    sound : IsSound (members.told old)
    sound s there = (is.1 s there).0.sound

    few-is : (s : Story) → members.told old ≡ Some s → min count v.len ≡ few_of count (file_in s.now.bytes)
    few-is s there = ap (min count) (is.1 s there).0.count

    -- all were dropped, and the line was to go out
    pub dropped : (w : SpoolView D) (few : ℕ) (out : SinkTold) (e : SpoolEnd) → DropsListed members v count (Ok
        (w, few))
        → WritesDropped few out e
        → DropsAs count (members.told old) (members.told w.disk) (members.health old).faults
        (members.health w.disk).faults out e
    dropped w few out end.Done (few_is, left, unharmed) written = record {
      left = record {
        few = few;
        few_is = λ s there. few_is ∙ few-is s there;
        sound = sound;
        left = subst (λ (t : Option Story). GetsTo t (members.told w.disk) (MayBeLeft few) (upgraded_without few))
            is.0.told left;
        written = written;
      };
      count_is = unharmed.faults ∙ recovered_count old v.disk is.0;
    }
    dropped w few out end.WriteFailed (few_is, left, unharmed) written = record {
      left = record {
        few = few;
        few_is = λ s there. few_is ∙ few-is s there;
        sound = sound;
        left = subst (λ (t : Option Story). GetsTo t (members.told w.disk) (MayBeLeft few) (upgraded_without few))
            is.0.told left;
        written = written;
      };
      count_is = unharmed.faults ∙ recovered_count old v.disk is.0;
    }
    dropped w few out end.DiskFailed drops written = absurd written
    dropped w few out (end.NotSpool place) drops written = absurd written

    -- the disk failed on the way
    pub stopped : (spent : Spent D) {was : Option (List ℕ)} {a : SinkHealth} → DropsListed members v count (Err spent)
        → DropsAs count (members.told old) (members.told spent.disk) (members.health old).faults
        (members.health spent.disk).faults (told was was a a) end.DiskFailed
    stopped spent (through, harmed) = record {
      left = (
        wrote_nothing,
        inr (
          sound,
          (
            min count v.len,
            few-is,
            subst (λ (t : Option Story). HoldsThrough t (members.told spent.disk) (MayBeLeft (min count v.len)))
                is.0.told through,
          ),
        ),
      );
      count_is =
          subst (λ (n : ℕ). Rose n (members.health spent.disk).faults) (recovered_count old v.disk is.0) harmed.faults;
    }

-- the file wasn't taken
pub not-attached : (count : ℕ) {disk : DiskTold} {was : Option (List ℕ)} {a : SinkHealth}
    → Attaches 0 disk.before disk.after
    → Rose disk.health.faults disk.health_after.faults → DropsOf count disk (told was was a a) end.DiskFailed
not-attached count is rose = record { left = (wrote_nothing, inl (inl (attached is))); count_is = rose }
