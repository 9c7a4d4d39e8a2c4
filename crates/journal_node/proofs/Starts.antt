-- A start, from what the code says of its pieces.
use Rattle.std.proofs.Common.{◌≡◌, refl, sym, ap, subst, ◌∙◌, inl, inr, ◌⊎◌, arith, ℕ, ◌+◌, ◌-◌, Bool, true, false, List, [], ◌∷◌, length, Option, Some, None, if◌then◌else◌}
use Rattle.std.proofs.lemmas.Bool.Decides.{nat_tests}
use Rattle.std.specs.List.{sum_by}
use Rattle.std.specs.Option.{option_map}
use Rattle.std.specs.Prelude.{IfOk, Result, Ok, Err}
use Rattle.disk_base.specs.Faults.{DiskHealth, IsUsed, Rose}
use Rattle.disk_base.specs.Story.{Story, with_sync}
use Rattle.disk_base.specs.Through.{EachImage}
use Rattle.disk_base.specs.declared.disk.Disk as disk
use Rattle.disk_base.specs.declared.disk.DiskAnswer.TheVariants.{Done, Failed}
use Rattle.gem_spool.proofs.Stays.{chain_sum}
use Rattle.gem_spool.specs.Spool.{ReservesFrom}
use Rattle.gem_spool.specs.Standing.{Standing, Stands, file_told, standing_of}
use Rattle.gem_spool.specs.Works.{IsMarked}
use Rattle.gem_spool.specs.declared.count.Count.{Count}
use Rattle.gem_spool.specs.declared.spool.GemSpool.{GemSpool}
use Rattle.host_node.specs.Host.{at_start}
use Rattle.line_end.specs.declared.plan.HostPlan.{HostPlan}
use Rattle.message_end.specs.Core.{at_first}
use Rattle.message_end.specs.Core.Went.{Goes, Spent}
use Rattle.message_end.specs.Ends.{IsEmpty}
use Rattle.message_flow.specs.declared.step.Note.{Note}
use Rattle.message_flow.specs.declared.step.StepOut.{StepOut}
use Rattle.spool_file.proofs.Runs.{chain_up}
use Rattle.spool_file.specs.File.{SpoolFile, StandsFor, file_in, spool_break}
use Rattle.spool_file.specs.Logs.{written_by}
use Rattle.spool_file.specs.Slot.{width}
use Rattle.spool_slots.specs.Calls.{upgrade_calls}
use Rattle.spool_slots.specs.Changes.{HasRecovered, IsSameOr, Recovers}
use Rattle.spool_slots.specs.Files.{upgraded, upgraded_in, with_mark_moved}
use Rattle.spool_slots.specs.Spool.{SpoolView, known_of}
use Rattle.spool_slots.specs.declared.states.Recovering.{Recovering}
use Rattle.spool_slots.specs.declared.states.Recovering.TheVariants as recovering
use Rattle.spool_slots.specs.declared.states.Spent.{Spent as Device}
use Rattle.spool_works.specs.Found.{first_in, found_in}
use Rattle.spool_works.specs.HandedBack.{HasFailed, IsKept}
use Rattle.spool_works.proofs.FoundLosses.{found-long}
use Rattle.trace_log.specs.Log.{Happening}
use Rattle.trace_log.specs.Text.{note_of}
use Rattle.transact.specs.Numbers.{numbers_from}
use Rattle.journal_node.specs.declared.journal_host.JournalStarting.{JournalStarting}
use Rattle.journal_node.specs.declared.journal_host.JournalStarting.TheVariants as starting
use Rattle.journal_node.specs.Amid.{HasMoved, HasNoMark, HasNotMoved, HasUpgraded, StartsOver, StartsWith}
use Rattle.journal_node.specs.Causes.{IsStartSpentByCause}
use Rattle.journal_node.specs.Held.{Held, IsOn, IsTold, view_in, view_of}
use Rattle.journal_node.specs.Journal.{JournalView, is_marked_out, standing_of_file, started_on, starts, unstarted}
use Rattle.journal_node.specs.Starting.{Begins, FindsFile, HasBegunOn, HasMark, IsMarkedIn, IsSureDisk, KeepsSure, StartHandsBack, UpgradesOnce, starting_by}
use Rattle.journal_node.proofs.HandingBack.{failed-then, kept-still, kept-then}
use Rattle.journal_node.proofs.OnDisk.{held, view-is}
use Rattle.journal_node.proofs.StepDone.{at-last}

same-story : (a b : Story) → Some a ≡ Some b → a ≡ b
same-story a b same = cc

-- ---- a start that has found a file, or none

pub found : {D : Type 0} (s : Story) (result : Result (Held D) (JournalStarting D)) → spool_break s.now.bytes ≡ None
    → FindsFile s result
found s (Ok h) sound = sound
found s (Err (starting.NoMemory spent)) sound = sound
found s (Err (starting.NumbersSpent spent)) sound = sound
found s (Err (starting.NotSpool raw break)) sound = tt
found s (Err (starting.DiskFailed spent)) sound = tt

pub not-found : {D : Type 0} (s : Story) (why : Recovering D) → FindsFile s (Err (starting_by why))
not-found s (recovering.NotSpool raw break) = tt
not-found s (recovering.Failed spent) = tt

module _ {D : Type 0} (members : disk.Ghosts D) where
  -- ---- the device stands for no journal, or failed

  pub not-taken :
      (old : D) (s : Story) → members.told old ≡ Some s → (plan : HostPlan) (out : StepOut) (why : Recovering D)
      → IsEmpty out → Recovers members old (Err why) → Begins members plan s out (Err (starting_by why))
  not-taken old s told plan out (recovering.NotSpool raw break) empty is = (
    empty,
    is.1 s told,
    λ t now. inr (same-story t (with_sync s) (sym now ∙ is.0.told ∙ ap (option_map with_sync) told)),
  )
  not-taken old s told plan out (recovering.Failed spent) empty (inl is, by) =
      (empty, (λ t now. inl (inl (same-story t s (sym now ∙ is.told ∙ told)))))
  not-taken old s told plan out (recovering.Failed spent) empty (inr is, by) = (
    empty,
    λ t now. inl (inr (same-story t (with_sync s) (sym now ∙ is.told ∙ ap (option_map with_sync) told))),
  )

  -- ---- a journal in hand is made one of version 2, where its disk tells so much, and its numbers are the file's

  module _ (here : Story) (v : SpoolView D) (now-told : members.told v.disk ≡ Some here)
      (version-is : (file_in here.now.bytes).version ≡ v.version) (first-is : v.first ≡ first_in
      (file_in here.now.bytes))
    where
      abbrev file : SpoolFile
      file = file_in here.now.bytes

      module _ (plan : HostPlan) (out : StepOut) (result : Result (Held D) (JournalStarting D))
          (up : HasUpgraded members plan v out result)
        where
          -- what is told then is the file of version 2
          told-up : (t : Story) × (members.told up.w.disk ≡ Some t) × (upgraded file ≡ file_in t.now.bytes)
          told-up = go up.up
            where
              go : UpgradesOnce members v (Ok up.w)
                  → (t : Story) × (members.told up.w.disk ≡ Some t) × (upgraded file ≡ file_in t.now.bytes)
              go (inl (two, same)) = (
                here,
                ap (λ (x : SpoolView D). members.told x.disk) same ∙ now-told,
                ap (λ (n : ℕ). record file { version = n }) (sym (version-is ∙ two)),
              )
              go (inr (one, ups)) =
                  let through = ups.0.images here now-told in
                  (through.0, through.1, (ups.2 here through.0 now-told through.1).stands.is)

          known-up : known_of up.w ≡ record (known_of v) { version = 2 }
          known-up = go up.up
            where
              go : UpgradesOnce members v (Ok up.w) → known_of up.w ≡ record (known_of v) { version = 2 }
              go (inl (two, same)) =
                  ap (λ (x : SpoolView D). known_of x) same
                  ∙ ap (λ (n : ℕ). record (known_of v) { version = n }) two
              go (inr (one, ups)) = ap (λ (x : SpoolView D). known_of x) ups.1

          file-up : (standing_of members up.w).file ≡ upgraded file
          file-up = ap (λ (tells : Option Story). file_told tells (known_of up.w)) told-up.1 ∙ sym told-up.2

          -- it stands as its file says
          pub stands-up : Stands members up.g.spool (standing_of_file (upgraded file))
          stands-up =
              subst (λ (x : SpoolView D). Stands members x (standing_of_file (upgraded file))) (sym up.made)
              (subst (λ (x : Standing). Stands members up.w x) same up.stands)
            where
              first-up : up.w.first ≡ first_in (upgraded file)
              first-up = ap (λ k. k.first) known-up ∙ first-is

              sum-is : up.w.first + sum_by width (standing_of members up.w).file.list ≡ up.w.next
              sum-is =
                  let sum = chain_sum up.w.first up.w.next (standing_of members up.w).file.list up.stands.chain in
                  let under = chain_up up.w.first up.w.next (standing_of members up.w).file.list up.stands.chain in
                  omega (arith, sum, under)

              same : standing_of members up.w ≡ standing_of_file (upgraded file)
              same =
                  ap (λ (n : ℕ). record { next = n; file = (standing_of members up.w).file })
                  (sym sum-is ∙ ap (λ (n : ℕ). n + sum_by width (standing_of members up.w).file.list) first-up
                  ∙ ap (λ (f : SpoolFile). first_in (upgraded file) + sum_by width f.list) file-up)
                  ∙ ap
                  (λ (f : SpoolFile).
                  record { next = (standing_of_file (upgraded file)).next; file = f }) file-up

          pub told-g : IsTold (members.told up.g.spool.disk)
          told-g = (told-up.0, ap (λ (x : SpoolView D). members.told x.disk) up.made ∙ told-up.1)

          abbrev st : Standing
          st = standing_of_file (upgraded file)

          mark-is : up.g.spool.mark ≡ file.mark.value
          mark-is = stands-up.mark

          -- ---- the mark can't be moved, or that fails

          no-mark : (spent : Device D) → HasNoMark up.g out spent
              → IsEmpty out × (is_marked_out file.mark.value ≡ true)
              × ((t : Story) → members.told spent.disk ≡ Some t
              → EachImage (λ image. StandsFor image (upgraded file)) t.now)
          no-mark spent none = (
            none.empty,
            let most = none.none in let mark = mark-is in grind (arith, nat_tests, most, mark),
            λ t now. held members up.g.spool st spent none.same_disk stands-up t now,
          )

          marked-as : (image : List ℕ) → IsMarked st image → HasMark file image
          marked-as image (inl is) = inr (inl is)
          marked-as image (inr is) = inr (inr is)

          not-moved : (spent : Device D) → HasNotMoved members up.g out spent
              → IsEmpty out × IsMarkedIn members file spent
          not-moved spent failed = (
            failed.empty,
            λ t now image image_is.
                marked-as image
                (at-last told-g.0 _ (IsMarked st) t (failed.moments st stands-up told-g.0 told-g.1) now image image_is),
          )

          -- ---- it is moved

          module _ (moved : HasMoved members plan up.g out result) where
            stands-moved : Stands members moved.h.spool (standing_of_file (with_mark_moved (upgraded file)))
            stands-moved = moved.stands st stands-up

            told-moved : IsTold (members.told moved.h.spool.disk)
            told-moved =
                let through = moved.moments st stands-up told-g.0 told-g.1 in (through.0, through.1)

            room : is_marked_out file.mark.value ≡ false
            room = let most = moved.reserve.0.0.0 in let mark = mark-is in grind (arith, nat_tests, most, mark)

            base-is : moved.base ≡ file.mark.value
            base-is = moved.reserve.0.1 ∙ mark-is

            starts-is : starts plan file ≡ Goes (started_on plan file)
            starts-is =
                ap (λ (b : Bool). if b then Spent (at_first (unstarted plan file)) else Goes
                (started_on plan file)) room

            -- memory was wanting behind that
            wanting : (spent : Device D) → spent.disk ≡ moved.h.spool.disk → (t : Story)
                → members.told spent.disk ≡ Some t → EachImage (HasMark file) t.now
            wanting spent same t now image image_is =
                inr (inr (held members moved.h.spool (standing_of_file (with_mark_moved (upgraded file))) spent same
                stands-moved t now image image_is))

            begun :
                (k : Held D) → StartsWith plan moved.h moved.base out (Ok k)
                → HasBegunOn members plan file out k
            begun k starts =
                record {
                  gone = record {
                    step = started_on plan file;
                    is = starts-is;
                    next_is = sym same_view;
                    notes =
                        starts.2.2 ∙ ap (λ (n : Note). n ∷ []) (starts.2.1 (found_in file.list) long)
                        ∙ ap
                        (λ (n : ℕ).
                        note_of (Happening.HostStarted (Some (record { found = found_in file.list; base = n }))) ∷ [])
                        base-is;
                    written = starts.3;
                  };
                  in_state = subst (λ (x : JournalView). IsOn members k.journal.spool x) (sym same_view) on;
                }
              where
                next : JournalView
                next = (started_on plan file).next

                on : IsOn members k.journal.spool next
                on =
                    subst (λ (x : GemSpool D). IsOn members x.spool next) (sym starts.0)
                    (record { stands = stands-moved; version_is = refl; told = told-moved })

                host_is : k.host ≡ next.node
                host_is = starts.1 ∙ ap (λ (n : ℕ). at_start plan (numbers_from n 4096)) base-is

                same_view : view_in members k ≡ next
                same_view =
                    ap (λ n. view_of members n k.journal.spool) host_is ∙ view-is members k.journal.spool next on refl

                long : length (found_in file.list) ≡ moved.h.spool.len
                long = found-long file.list ∙ sym (ap (λ (c : Count). c.len) stands-moved.count)

      -- ---- all of it

      up-failed : (spent : Device D) → UpgradesOnce members v (Err spent) → (t : Story)
          → members.told spent.disk ≡ Some t → EachImage (HasMark file) t.now
      up-failed spent (one, done) t now image image_is =
          let through = done.0.images here now-told in
          by
          (subst (λ (x : Story). EachImage (IsSameOr upgraded_in here.now.bytes) x.now)
          (same-story through.0 t (sym through.1 ∙ now)) through.2.last image image_is)
        where
          by : StandsFor image file ⊎ StandsFor image (upgraded file) → HasMark file image
          by (inl is) = inl is
          by (inr is) = inr (inl is)

      -- what a start of it comes to
      abbrev pub Comes : HostPlan → StepOut → Result (Held D) (JournalStarting D) → Type 0
      Comes plan out (Ok k) = HasBegunOn members plan file out k
      Comes plan out (Err (starting.NoMemory spent)) = (out.line.items ≡ []) × IsMarkedIn members file spent
      Comes plan out (Err (starting.NumbersSpent spent)) =
          IsEmpty out × (is_marked_out file.mark.value ≡ true)
          × ((t : Story) → members.told spent.disk ≡ Some t → EachImage (λ image. StandsFor image
          (upgraded file)) t.now)
      Comes plan out (Err (starting.DiskFailed spent)) = IsEmpty out × IsMarkedIn members file spent
      Comes plan out (Err (starting.NotSpool raw break)) = ⊥

      pub over-comes :
          (plan : HostPlan) (out : StepOut) (result : Result (Held D) (JournalStarting D))
          → StartsOver members plan v out result → Comes plan out result
      over-comes plan out (Ok k) up = begun plan out (Ok k) up up.on k up.on.starts
      over-comes plan out (Err (starting.NoMemory spent)) up = (
        up.on.starts.1,
        λ t now. wanting plan out (Err (starting.NoMemory spent)) up up.on spent up.on.starts.0 t now,
      )
      over-comes plan out (Err (starting.NumbersSpent spent)) up =
          no-mark plan out (Err (starting.NumbersSpent spent)) up spent up.on
      over-comes plan out (Err (starting.DiskFailed spent)) (inl up) =
          not-moved plan out (Err (starting.DiskFailed spent)) up spent up.on
      over-comes plan out (Err (starting.DiskFailed spent)) (inr failed) =
          (failed.empty, (λ t now. up-failed spent failed.up t now))
      over-comes plan out (Err (starting.NotSpool raw break)) up = absurd up

  -- ---- it was taken up

  module _ (old : D) (s : Story) (told : members.told old ≡ Some s) (v : SpoolView D)
      (is : Recovers members old (Ok v))
    where
      pub now-told : members.told v.disk ≡ Some (with_sync s)
      now-told = is.0.told ∙ ap (option_map with_sync) told

      pub version-is : (file_in s.now.bytes).version ≡ v.version
      version-is = sym (is.1 s told).0.version_is

      pub over-begins :
          (plan : HostPlan) (out : StepOut) (result : Result (Held D) (JournalStarting D))
          → StartsOver members plan v out result → Begins members plan s out result
      over-begins plan out result over =
          go result (over-comes (with_sync s) v now-told version-is (is.1 s told).1 plan out result over)
        where
          go : (result : Result (Held D) (JournalStarting D))
              → Comes (with_sync s) v now-told version-is (is.1 s told).1 plan out result
              → Begins members plan s out result
          go (Ok k) comes = comes
          go (Err (starting.NoMemory spent)) comes = comes
          go (Err (starting.NumbersSpent spent)) comes = comes
          go (Err (starting.DiskFailed spent)) comes = (comes.0, (λ t now. inr (comes.1 t now)))
          go (Err (starting.NotSpool raw break)) comes = absurd comes

  -- ---- its numbers, by their cause

  pub begun-by-cause :
      (plan : HostPlan) (s : Story) (out : StepOut) (result : Result (Held D) (JournalStarting D))
      → Begins members plan s out result → IsStartSpentByCause (file_in s.now.bytes) result
  begun-by-cause plan s out (Ok k) begins = go (is_marked_out (file_in s.now.bytes).mark.value) refl begins.gone.is
    where
      go : (b : Bool) → is_marked_out (file_in s.now.bytes).mark.value ≡ b
          → (if b then Spent (at_first (unstarted plan (file_in s.now.bytes)))
          else Goes (started_on plan (file_in s.now.bytes))) ≡ Goes begins.gone.step
          → is_marked_out (file_in s.now.bytes).mark.value ≡ false
      go true is goes = absurd (cc)
      go false is goes = is
  begun-by-cause plan s out (Err (starting.NumbersSpent spent)) begins = begins.1
  begun-by-cause plan s out (Err (starting.NotSpool raw break)) begins = tt
  begun-by-cause plan s out (Err (starting.DiskFailed spent)) begins = tt
  begun-by-cause plan s out (Err (starting.NoMemory spent)) begins = tt

  -- ---- its device

  recovered-back : (old new : D) (most : ℕ) → HasRecovered members old new most Done → IsKept members old new
  recovered-back old new most is =
      record { same_disk = is.same_disk; count = is.reads.cause.same ∙ is.cause.same }

  unread-back : (old new : D) (most : ℕ) → HasRecovered members old new most Failed → HasFailed members old new
  unread-back old new most is = record {
    same_disk = is.same_disk;
    rose = subst (λ (n : ℕ). Rose n (members.health new).faults) is.cause.same is.reads.cause.rose;
  }

  pub untaken-back :
      (old : D) (why : Recovering D) → Recovers members old (Err why)
      → StartHandsBack members old (Err (starting_by why))
  untaken-back old (recovering.NotSpool raw break) is = recovered-back old raw.disk _ is.0
  untaken-back old (recovering.Failed spent) (inl is, by) = record { same_disk = is.same_disk; rose = is.cause.rose }
  untaken-back old (recovering.Failed spent) (inr is, by) = unread-back old spent.disk _ is

  up-back : (v w : SpoolView D) → UpgradesOnce members v (Ok w) → IsKept members v.disk w.disk
  up-back v w (inl (two, same)) =
      subst (λ (x : SpoolView D). IsKept members v.disk x.disk) (sym same) (kept-still members v.disk)
  up-back v w (inr (one, ups)) = record { same_disk = ups.0.made.same_disk; count = ups.0.made.calls.cause.same }

  moved-back : (g h : GemSpool D) (base : ℕ) → ReservesFrom members g h (Some base)
      → IsKept members g.spool.disk h.spool.disk
  moved-back g h base done = record { same_disk = done.0.0.1.0.same_disk; count = done.0.0.1.0.cause.same }

  -- from the spool that was taken up to the one behind the upgrade, and to the one whose mark is moved
  kept-up : (plan : HostPlan) (v : SpoolView D) (out : StepOut) (result : Result (Held D) (JournalStarting D))
      (up : HasUpgraded members plan v out result) → IsKept members v.disk up.g.spool.disk
  kept-up plan v out result up =
      subst (λ (x : SpoolView D). IsKept members v.disk x.disk) (sym up.made) (up-back v up.w up.up)

  kept-moved : (plan : HostPlan) (v : SpoolView D) (out : StepOut) (result : Result (Held D) (JournalStarting D))
      (up : HasUpgraded members plan v out result) (moved : HasMoved members plan up.g out result)
      → IsKept members v.disk moved.h.spool.disk
  kept-moved plan v out result up moved =
      kept-then members v.disk up.g.spool.disk moved.h.spool.disk (kept-up plan v out result up)
      (moved-back up.g moved.h moved.base moved.reserve)

  over-back :
      (plan : HostPlan) (v : SpoolView D) (out : StepOut) (result : Result (Held D) (JournalStarting D))
      → StartsOver members plan v out result → StartHandsBack members v.disk result
  over-back plan v out (Ok k) up =
      subst (λ (x : GemSpool D). IsKept members v.disk x.spool.disk) (sym up.on.starts.0)
      (kept-moved plan v out (Ok k) up up.on)
  over-back plan v out (Err (starting.NoMemory spent)) up =
      subst (λ (d : D). IsKept members v.disk d) (sym up.on.starts.0)
      (kept-moved plan v out (Err (starting.NoMemory spent)) up up.on)
  over-back plan v out (Err (starting.NumbersSpent spent)) up =
      subst (λ (d : D). IsKept members v.disk d) (sym up.on.same_disk)
      (kept-up plan v out (Err (starting.NumbersSpent spent)) up)
  over-back plan v out (Err (starting.DiskFailed spent)) (inl up) =
      failed-then members v.disk up.g.spool.disk spent.disk
      (kept-up plan v out (Err (starting.DiskFailed spent)) up)
      (let done = up.on.reserve in record { same_disk = done.1.0.same_disk; rose = done.1.0.cause.rose })
  over-back plan v out (Err (starting.DiskFailed spent)) (inr failed) =
      let done = failed.up.1 in
      record { same_disk = done.0.made.same_disk; rose = done.0.made.calls.cause.rose }
  over-back plan v out (Err (starting.NotSpool raw break)) up = absurd up

  pub start-back :
      (old : D) (plan : HostPlan) (v : SpoolView D) (out : StepOut) (result : Result (Held D) (JournalStarting D))
      → Recovers members old (Ok v) → StartsOver members plan v out result → StartHandsBack members old result
  start-back old plan v out result is over = go result (over-back plan v out result over)
    where
      taken : IsKept members old v.disk
      taken = recovered-back old v.disk _ is.0

      go : (result : Result (Held D) (JournalStarting D)) → StartHandsBack members v.disk result
          → StartHandsBack members old result
      go (Ok k) back = kept-then members old v.disk k.journal.spool.disk taken back
      go (Err (starting.NoMemory spent)) back = kept-then members old v.disk spent.disk taken back
      go (Err (starting.NumbersSpent spent)) back = kept-then members old v.disk spent.disk taken back
      go (Err (starting.NotSpool raw break)) back = kept-then members old v.disk raw.disk taken back
      go (Err (starting.DiskFailed spent)) back = failed-then members old v.disk spent.disk taken back

  -- ---- a disk of which no call is to fail stays such

  used-sure : (a b : DiskHealth) (calls bytes : ℕ) → IsUsed a b calls bytes → IsSureDisk a → IsSureDisk b
  used-sure a b calls bytes used is = record {
    fails_not = used.fail_left ∙ ap (λ (n : ℕ). n - calls) is.fails_not ∙ none calls;
    stops_not = used.stop_left ∙ ap (λ (n : ℕ). n - calls) is.stops_not ∙ none calls;
    going = used.going ∙ is.going;
  }
    where
      none : (n : ℕ) → 0 - n ≡ 0
      none n = omega arith

  pub over-sure :
      (plan : HostPlan) (v : SpoolView D) (out : StepOut) (k : Held D) → StartsOver members plan v out (Ok k)
      → KeepsSure members v.disk k.journal.spool.disk
  over-sure plan v out k up sure =
      subst (λ (x : GemSpool D). IsSureDisk (members.health x.spool.disk)) (sym up.on.starts.0)
      (used-sure (members.health up.g.spool.disk) (members.health up.on.h.spool.disk) 5 9 up.on.reserve.0.0.1.0.cause
      (subst (λ (x : SpoolView D). IsSureDisk (members.health x.disk)) (sym up.made) (by up.up sure)))
    where
      by : UpgradesOnce members v (Ok up.w) → IsSureDisk (members.health v.disk)
          → IsSureDisk (members.health up.w.disk)
      by (inl (two, same)) sure =
          subst (λ (x : SpoolView D). IsSureDisk (members.health x.disk)) (sym same) sure
      by (inr (one, ups)) sure =
          used-sure (members.health v.disk) (members.health up.w.disk) (length upgrade_calls)
          (written_by upgrade_calls) ups.0.made.calls.cause sure

  pub start-sure :
      (old : D) (plan : HostPlan) (v : SpoolView D) (out : StepOut) (result : Result (Held D) (JournalStarting D))
      → Recovers members old (Ok v) → StartsOver members plan v out result
      → IfOk result (λ (k : Held D). KeepsSure members old k.journal.spool.disk)
  start-sure old plan v out (Err why) is over = tt
  start-sure old plan v out (Ok k) is up = λ sure.
      over-sure plan v out k up
      (used-sure is.0.synced (members.health v.disk) is.0.reads.made 0 is.0.reads.cause
      (used-sure (members.health old) is.0.synced 1 0 is.0.cause sure))
