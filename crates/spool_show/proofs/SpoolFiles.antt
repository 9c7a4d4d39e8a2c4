-- From the spool in hand to the file that the disk was given.
use Rattle.std.proofs.Common.{◌≡◌, refl, ◌∙◌, ap, subst, ℕ, ◌+◌, ◌<◌, List, [], Option, Some, None, Ok, Err, inl, inr, arith}
use Rattle.std.specs.Option.{option_map}
use Rattle.disk_base.specs.Calls.{DiskCall, Logs, attach_call, with_call}
use Rattle.disk_base.specs.Disk.{Attaches}
use Rattle.disk_base.specs.Faults.{DiskHealth, HasCause, IsUsed, Rose}
use Rattle.disk_base.specs.Story.{Story, with_growth, with_sync}
use Rattle.disk_base.specs.declared.disk.Disk as trait
use Rattle.disk_base.specs.declared.disk.DiskAnswer.TheVariants as answer
use Rattle.disk_base.proofs.Stretches.{fault_behind, fault_wider, used_behind}
use Rattle.gl_base.specs.Sink.{SinkHealth}
use Rattle.gl_base.specs.Told.{SinkTold}
use Rattle.gl_base.proofs.Appending.{told, wrote_nothing}
use Rattle.spool_show.specs.Formatting.{AsksForSize, LacksRoom, answer_by}
use Rattle.spool_show.specs.Showing.{HasFile, HasShown, IsCounted, IsSound, Keeps, ShowsFile, ShowsList, TellsSpool}
use Rattle.spool_show.specs.Showing.{end_of_refusal, refused_disk}
use Rattle.spool_show.specs.Text.{file_text}
use Rattle.spool_show.specs.Told.{DiskTold}
use Rattle.spool_show.specs.declared.spool_end.SpoolEnd.{SpoolEnd}
use Rattle.spool_show.specs.declared.spool_end.SpoolEnd.TheVariants as end
use Rattle.spool_file.specs.Added.{OnlyAdds, WritesOrSyncs}
use Rattle.spool_file.specs.File.{file_in}
use Rattle.spool_file.specs.Reads.{most_reads}
use Rattle.spool_file.specs.Setup.{area_end}
use Rattle.spool_file.specs.declared.recovery.Known.{Known}
use Rattle.spool_file.proofs.Added.{adds_as, adds_behind, adds_done, adds_failed}
use Rattle.spool_slots.specs.Changes.{HasRecovered, Recovers}
use Rattle.spool_slots.specs.Spool.{Rests, SpoolView, known_of}
use Rattle.spool_slots.specs.declared.states.Recovering.{Recovering}
use Rattle.spool_slots.specs.declared.states.Recovering.TheVariants as recovering

-- what a disk told, by its parts
abbrev disk_parts : Option (List ℕ) → Option (List ℕ) → Option (List DiskCall) → Option (List DiskCall) → Option Story →
    Option Story → ℕ → DiskHealth → DiskHealth → DiskTold
disk_parts file file_after calls calls_after before after size health health_after = record {
  before = before;
  after = after;
  calls = calls;
  calls_after = calls_after;
  size = size;
  health = health;
  health_after = health_after;
  file = file;
  file_after = file_after;
}

-- a file that was taken as it is has its bytes
pub attached : {before after : Option Story} → Attaches 0 before after → after ≡ before
attached {before = None} is = is.grown
attached {before = Some s} is = is.grown ∙ ap (λ more. Some (with_growth more s)) (is.enough s refl (omega arith))

-- what was written of a list that was recovered
pub recovered_list : (before : Option Story) (out : SinkTold) (e : SpoolEnd)
    → ShowsList (option_map with_sync before) out e → ShowsList before out e
recovered_list before out end.Done (text, wrote, is) =
    (text, wrote, λ s told_is. is (with_sync s) (ap (option_map with_sync) told_is))
recovered_list before out end.DiskFailed (text, wrote, is) =
    (text, wrote, λ s told_is. is (with_sync s) (ap (option_map with_sync) told_is))
recovered_list before out end.WriteFailed (text, wrote, is) =
    (text, wrote, λ s told_is. is (with_sync s) (ap (option_map with_sync) told_is))
recovered_list before out (end.NotSpool place) is = absurd is

tells : (before : Option Story) (out : SinkTold) (e : SpoolEnd) → IsSound before → ShowsList before out e
    → TellsSpool before out e
tells before out end.Done sound shows = (sound, shows)
tells before out end.DiskFailed sound shows = shows
tells before out end.WriteFailed sound shows = (sound, shows)
tells before out (end.NotSpool place) sound shows = absurd shows

-- and of the file
pub recovered_text : (before here : Option Story) (k : Known) (out : SinkTold) (e : SpoolEnd)
    → here ≡ option_map with_sync before
    → ((s : Story) → before ≡ Some s → Rests (with_sync s) k) → ShowsList here out e
    → TellsSpool before out e
recovered_text before here k out e is rests shows =
    tells before out e (λ s told_is. (rests s told_is).sound)
    (recovered_list before out e (subst (λ t. ShowsList t out e) is shows))

-- the same of the disk before it took the file
pub shows_before : {f g h : Option (List ℕ)} {i k l : Option (List DiskCall)} {before mid after : Option Story}
    {m n : ℕ} {a b c : DiskHealth}
    (out : SinkTold) (e : SpoolEnd) → mid ≡ before → b.faults ≡ a.faults
    → ShowsFile (disk_parts h g i l mid after n b c) out e → ShowsFile (disk_parts f g k l before after m a c) out e
shows_before {before} {mid} {after} {a} {b} {c} out e is same shows = record {
  written = subst (λ t. TellsSpool t out e) is shows.written;
  kept = subst (λ t. Keeps t after) is shows.kept;
  count = subst (λ k. IsCounted k c.faults e) same shows.count;
}

-- a disk was read behind a sync, and its count of faults stands or rose by the last read
recovered_count : {D : Type 0} {members : trait.Ghosts D} {old new : D} {most : ℕ}
    → HasRecovered members old new most answer.Done → (members.health new).faults ≡ (members.health old).faults
recovered_count is = is.reads.cause.same ∙ is.cause.same

failed_count : {D : Type 0} {members : trait.Ghosts D} (old new : D) (most : ℕ)
    → HasRecovered members old new most answer.Failed → Rose (members.health old).faults (members.health new).faults
failed_count {D} {members} old new most is =
    subst (λ n. Rose n (members.health new).faults) is.cause.same is.reads.cause.rose

-- where a device wasn't recovered, nothing was written
pub not_recovered : {D : Type 0} (members : trait.Ghosts D) {f g was : Option (List ℕ)} {k l : Option (List DiskCall)}
    {a : SinkHealth} (old : D)
    (refusal : Recovering D) → Recovers members old (Err refusal)
    → ShowsFile
    (disk_parts f g k l (members.told old) (members.told (refused_disk refusal)) (members.size_is old)
    (members.health old) (members.health (refused_disk refusal)))
    (told was was a a) (end_of_refusal refusal)
not_recovered members old (recovering.NotSpool raw place) (read, breaks) =
    record { written = (wrote_nothing, breaks); kept = inr read.told; count = recovered_count read }
not_recovered members old (recovering.Failed spent) (inl unsynced, by) = record {
  written = ([], wrote_nothing, λ s told_is. (file_text (file_in s.now.bytes), refl));
  kept = inl unsynced.told;
  count = unsynced.cause.rose;
}
not_recovered members old (recovering.Failed spent) (inr read, by) = record {
  written = ([], wrote_nothing, λ s told_is. (file_text (file_in s.now.bytes), refl));
  kept = inr read.told;
  count = failed_count old spent.disk (most_reads (members.told old) (members.size_is old)) read;
}

-- the list of a recovered file was shown
pub shows_recovered : {D : Type 0} {members : trait.Ghosts D} {f g : Option (List ℕ)} {k l : Option (List DiskCall)}
    {out : SinkTold} (old : D)
    (v w : SpoolView D) (e : SpoolEnd) → Recovers members old (Ok v) → HasShown members v w e
    → ShowsList (members.told v.disk) out e
    → ShowsFile
    (disk_parts f g k l (members.told old) (members.told w.disk) (members.size_is old) (members.health old)
    (members.health w.disk)) out e
shows_recovered {D} {members} {out = out} old v w e (read, stands, by) shown shows = record {
  written = recovered_text (members.told old) (members.told v.disk) (known_of v) out e read.told
      (λ s told_is. (stands s told_is).0) shows;
  kept = inr (shown.told ∙ read.told);
  count = subst (λ n. IsCounted n (members.health w.disk).faults e) (recovered_count read) shown.count;
}

-- the file wasn't taken
pub not_attached : {f g : Option (List ℕ)} {k l : Option (List DiskCall)} {before after : Option Story} {m : ℕ}
    {a b : DiskHealth} {was : Option (List ℕ)}
    {h : SinkHealth} → Attaches 0 before after → Rose a.faults b.faults
    → ShowsFile (disk_parts f g k l before after m a b) (told was was h h) end.DiskFailed
not_attached is rose = record {
  written = ([], wrote_nothing, λ s told_is. (file_text (file_in s.now.bytes), refl));
  kept = inl (attached is);
  count = rose;
}

-- the same of equal disks and ends
pub shows_same : {f g : Option (List ℕ)} {k l : Option (List DiskCall)} {before before' after after' : Option Story}
    {m m' : ℕ} {a a' b b' : DiskHealth}
    {e e' : SpoolEnd} (out : SinkTold) → before ≡ before' → after ≡ after' → m ≡ m' → a ≡ a' → b ≡ b' → e ≡ e'
    → ShowsFile (disk_parts f g k l before after m a b) out e
    → ShowsFile (disk_parts f g k l before' after' m' a' b') out e'
shows_same {f} {g} {k} {l} {before} {before'} {after} {after'} {m} {m'} {a} {a'} {b} {b'} {e} {e'} out one two size three four five
    shows =
    subst (ShowsFile (disk_parts f g k l before' after' m' a' b') out) five
    (subst (λ h. ShowsFile (disk_parts f g k l before' after' m' a' h) out e) four
    (subst (λ h. ShowsFile (disk_parts f g k l before' after' m' h b) out e) three
    (subst (λ n. ShowsFile (disk_parts f g k l before' after' n a b) out e) size
    (subst (λ t. ShowsFile (disk_parts f g k l before' t m a b) out e) two
    (subst (λ t. ShowsFile (disk_parts f g k l t after m a b) out e) one shows)))))

-- a file was attached, and is so still
pub has_file : (name : List ℕ) (before : Option (List ℕ)) {mid after : Option (List ℕ)} (e : SpoolEnd)
    → mid ≡ Some name → after ≡ mid
    → HasFile name before after e
has_file name before end.Done is same = same ∙ is
has_file name before (end.NotSpool place) is same = same ∙ is
has_file name before end.WriteFailed is same = same ∙ is
has_file name before end.DiskFailed is same = inr (same ∙ is)

behind_done : (a b c : DiskHealth) (slots : ℕ) → IsUsed a b 1 0
    → IsUsed b c (slots + 34) (slots + 528384) → IsUsed a c (slots + 35) (slots + 528384)
behind_done a b c slots first more =
    used_behind a b 1 0 first c (slots + 34) (slots + 528384) (slots + 35) (slots + 528384) (omega arith) (omega arith) more

-- a disk that has taken its file was asked for what making it takes
pub cause_behind : (a b c : DiskHealth) (slots size : ℕ) (e : SpoolEnd) → IsUsed a b 1 0
    → HasCause b c (slots + 34) (slots + 528384) (b.room < slots + 528384) (answer_by e)
    → HasCause a c (slots + 35) (slots + 528384) (LacksRoom slots size a) (answer_by e)
cause_behind a b c slots size end.Done first more = behind_done a b c slots first more
cause_behind a b c slots size (end.NotSpool place) first more = behind_done a b c slots first more
cause_behind a b c slots size end.WriteFailed first more = behind_done a b c slots first more
cause_behind a b c slots size end.DiskFailed first more =
    fault_behind a b 1 0 first c (slots + 34) (slots + 35) (b.room < slots + 528384) (LacksRoom slots size a) (omega arith)
    (λ less. inr (omega (arith, less, first.room_left))) more

-- and one that hasn't taken it has fewer bytes, where no call of it was to fail
pub unattached : (a b : DiskHealth) (slots size : ℕ) {need : ℕ} → need ≡ area_end slots
    → HasCause a b 1 0 (size < need) answer.Failed
    → HasCause a b (slots + 35) (slots + 528384) (LacksRoom slots size a) answer.Failed
unattached a b slots size {need} is more =
    fault_wider a b 1 (slots + 35) (size < need) (LacksRoom slots size a) (omega arith)
    (λ less. inl (subst (λ n. size < n) is less)) more

-- it was asked for the size of the file, and for no bytes behind that
pub asks_making : {k l m : Option (List DiskCall)} (slots : ℕ) {need : ℕ} → need ≡ area_end slots
    → l ≡ with_call (attach_call need answer.Done) k → OnlyAdds WritesOrSyncs l m
    → OnlyAdds (AsksForSize (area_end slots)) k m
asks_making slots {need} is listed adds =
    adds_behind (AsksForSize (area_end slots))
    (adds_done (AsksForSize (area_end slots)) (attach_call need answer.Done) (inl (refl, is)) listed)
    (adds_as WritesOrSyncs (AsksForSize (area_end slots)) (λ call one. inr one) adds)

pub asks_failed : {Crowded : Type 0} {k l : Option (List DiskCall)} (slots : ℕ) {need : ℕ} → need ≡ area_end slots
    → Logs (attach_call need) Crowded k l answer.Failed → OnlyAdds (AsksForSize (area_end slots)) k l
asks_failed slots {need} is logs =
    adds_failed (AsksForSize (area_end slots)) (attach_call need answer.Failed) (inl (refl, is)) logs
