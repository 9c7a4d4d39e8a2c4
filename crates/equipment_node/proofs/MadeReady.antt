-- That a start makes a spool ready: its sizes are read, and it becomes one of version 2.
use Rattle.std.proofs.Common.{◌≡◌, refl, sym, ap, subst, ◌∙◌, inl, inr, arith, ℕ, ◌+◌, ◌==◌, true}
use Rattle.std.proofs.Common.{false, List, [], ◌∷◌, ◌++◌, append_assoc, append-nil, length, Option, Some, None}
use Rattle.std.proofs.Common.{if◌then◌else◌}
use Rattle.std.specs.Prelude.{IfOk, Result, Ok, Err, is_some, map, sum}
use Rattle.disk_base.specs.Calls.{DiskCall}
use Rattle.disk_base.specs.Story.{Story}
use Rattle.disk_base.specs.Through.{EachImage}
use Rattle.disk_base.specs.declared.disk.Disk as disk
use Rattle.disk_base.proofs.Moments.{only_now}
use Rattle.gem_spool.specs.declared.spool.GemSpool.{GemSpool}
use Rattle.gem_spool.specs.Standing.{file_told, standing_of}
use Rattle.setup_store.specs.Copies.{HoldsList}
use Rattle.setup_store.specs.OnDisk.{HoldsKept}
use Rattle.spool_file.specs.File.{SpoolFile, StandsFor, file_in}
use Rattle.spool_file.specs.Logs.{written_by}
use Rattle.spool_file.specs.Slot.{width}
use Rattle.spool_file.specs.declared.recovery.Known.{Known}
use Rattle.spool_ledger.proofs.Widths.{widths-long}
use Rattle.spool_slots.specs.Calls.{upgrade_calls}
use Rattle.spool_slots.specs.Files.{upgraded}
use Rattle.spool_slots.specs.Spool.{Rests, SpoolView, known_of}
use Rattle.spool_slots.specs.declared.states.Spent.{Spent}
use Rattle.spool_works.specs.DiskCalls.{HasFailedIn, HasMade}
use Rattle.spool_works.specs.Found.{first_in}
use Rattle.spool_works.specs.HandedBack.{IsKept}
use Rattle.spool_works.proofs.Called.{failed-all, failed-before, failed-behind, made-all, made-same, made-then}
use Rattle.gem_recipes.specs.declared.no_recipes.NoRecipes.{NoRecipes}
use Rattle.equipment_node.specs.Keeping.{no_keeper}
use Rattle.equipment_node.specs.declared.equipment.Starting.{Starting}
use Rattle.equipment_node.specs.declared.equipment.Starting.TheVariants as starting
use Rattle.equipment_node.specs.declared.sizes.Unsized.{Unsized}
use Rattle.equipment_node.specs.declared.sizes.Unsized.TheVariants as unsized
use Rattle.equipment_node.specs.HandedBack.{UnstartedBack}
use Rattle.equipment_node.specs.Held.{Held}
use Rattle.equipment_node.specs.MadeReady.{HasBegun, IsEither, IsMadeReady, MakesReady, UpgradesOnce, ready_calls}
use Rattle.equipment_node.specs.MadeReady.{upgrades}
use Rattle.equipment_node.specs.StartOver.{IsFresh, KeepsSure}
use Rattle.equipment_node.specs.Amid.{HasSizes}
use Rattle.equipment_node.specs.StartSizes.{AreFirst, AreSizes, HasMissed, HasRead, ReadsSizes, looks_in, size_looks}
use Rattle.equipment_node.specs.Stepping.{IsTold}
use Rattle.equipment_node.proofs.HandingBack.{failed-then, kept-still, kept-then}
use Rattle.equipment_node.proofs.ReadSizes.{looks-front, looks-then}
use Rattle.equipment_node.proofs.Standings.{used-sure}

pub same-story : (a b : Story) → Some a ≡ Some b → a ≡ b
same-story a b same = cc

-- some first calls of these are some of those with more behind them
pub begun-before :
    {D : Type 0} (members : disk.Ghosts D) (old new : D) (xs ys : List DiskCall) → HasBegun members old new xs
    → HasBegun members old new (xs ++ ys)
begun-before members old new xs ys is = record {
  first = is.first;
  rest = is.rest ++ ys;
  are = ap (λ (all : List DiskCall). all ++ ys) is.are ∙ append_assoc is.first is.rest ys;
  made = is.made;
}

-- the calls that make a file of this version one of version 2
abbrev upgrades-by : ℕ → List DiskCall
upgrades-by version = if version == 1 then upgrade_calls else []

by-one : (version : ℕ) → version ≡ 1 → upgrades-by version ≡ upgrade_calls
by-one version one = ap upgrades-by one

by-two : (version : ℕ) → version ≡ 2 → upgrades-by version ≡ []
by-two version two = ap upgrades-by two

module _ {D : Type 0} (members : disk.Ghosts D) (v : SpoolView D)
    (rests : (s : Story) → members.told v.disk ≡ Some s → Rests s (known_of v))
  where
    file-of : (w : SpoolView D) (s : Story) → members.told w.disk ≡ Some s
        → (standing_of members w).file ≡ file_in s.now.bytes
    file-of w s told = ap (λ (tells : Option Story). file_told tells (known_of w)) told

    -- a disk whose bytes are told holds the file, whatever a crash leaves
    module _ (s : Story) (told : members.told v.disk ≡ Some s) where
      abbrev file : SpoolFile
      file = file_in s.now.bytes

      pub same-images : (t : Story) → members.told v.disk ≡ Some t → EachImage (λ image. StandsFor image file) t.now
      same-images t again image image_is =
          subst (λ (bytes : List ℕ). StandsFor bytes file)
          (ap (λ (x : Story). x.now.bytes) (same-story s t (sym told ∙ again))
          ∙ sym (only_now t.now image (rests t again).settled image_is))
          (record { sound = (rests s told).sound; is = refl })

      -- the looks at the messages that the bytes have
      looks-are : IsFresh members v → (sizes : List ℕ) → map width file.list ≡ sizes
          → size_looks v.slots v.first sizes ≡ looks_in file
      looks-are fresh sizes are =
          ap (λ (n : ℕ). size_looks n v.first sizes) (rests s told).slots_are
          ∙ ap (λ (n : ℕ). size_looks file.slots n sizes)
          (fresh.first ∙ ap (λ (f : SpoolFile). first_in f) (file-of v s told))
          ∙ ap (λ (ns : List ℕ). size_looks file.slots (first_in file) ns) (sym are)

      -- and of some first ones
      first-looks : IsFresh members v → (sizes rest : List ℕ) → map width file.list ≡ sizes ++ rest
          → looks_in file
          ≡ size_looks v.slots v.first sizes ++ size_looks v.slots (v.first + sum sizes) rest
      first-looks fresh sizes rest are =
          sym (looks-are fresh (sizes ++ rest) are) ∙ looks-then v.slots v.first sizes rest

    -- ---- the sizes weren't all read

    module _ (u : SpoolView D) (spent : Spent D) (same : spent.disk ≡ u.disk) where
      images-stay :
          (fresh : IsFresh members v) → members.told u.disk ≡ members.told v.disk → (t : Story)
          → members.told spent.disk ≡ Some t → EachImage (IsEither (standing_of members v).file) t.now
      images-stay fresh stays t told image image_is =
          let s = fresh.told.0 in
          let there = sym stays ∙ ap (λ (d : D). members.told d) (sym same) ∙ told in
          inl
          (subst (λ (f : SpoolFile). StandsFor image f) (sym (file-of v s fresh.told.1))
          (same-images s fresh.told.1 t there image image_is))

      -- memory was wanting
      unread :
          (sizes : List ℕ) → AreFirst members v sizes → HasRead members v u sizes
          → MakesReady members v (Err (starting.NoMemory spent no_keeper))
      unread sizes front read = (
        subst (λ (d : D). IsKept members v.disk d) (sym same) read.kept,
        λ fresh.
            let s = fresh.told.0 in
            let told = fresh.told.1 in
            let here = front s told in (
              subst (λ (f : SpoolFile). HasBegun members v.disk spent.disk (ready_calls f)) (sym (file-of v s told))
                  (begun-before members v.disk spent.disk (looks_in (file_in s.now.bytes))
                  (upgrades (file_in s.now.bytes))
                  (record {
                    first = size_looks v.slots v.first sizes;
                    rest = size_looks v.slots (v.first + sum sizes) here.0;
                    are = first-looks s told fresh sizes here.0 here.1;
                    made =
                        subst (λ (d : D). HasMade members v.disk d (size_looks v.slots v.first sizes)) (sym same)
                        read.made;
                  })),
              images-stay fresh read.told,
            ),
      )

      -- the disk failed
      missed : (sizes : List ℕ) → HasMissed members v u sizes
          → MakesReady members v (Err (starting.DiskFailed spent no_keeper))
      missed sizes is = (
        subst (λ (d : D). UnstartedBack members v.disk (starting.DiskFailed (record { disk = d }) no_keeper)) (sym same)
            is.faulted,
        λ fresh.
            let s = fresh.told.0 in
            let told = fresh.told.1 in
            let here = is.first s told in (
              subst (λ (f : SpoolFile). HasFailedIn members v.disk spent.disk (ready_calls f)) (sym (file-of v s told))
                  (failed-before members v.disk spent.disk (looks_in (file_in s.now.bytes))
                  (upgrades (file_in s.now.bytes))
                  (by_rest s told fresh here.0 here.1)),
              images-stay fresh is.told,
            ),
      )
        where
          by_rest : (s : Story) → members.told v.disk ≡ Some s → IsFresh members v → (rest : List ℕ)
              → map width (file_in s.now.bytes).list ≡ sizes ++ rest
              → HasFailedIn members v.disk spent.disk (looks_in (file_in s.now.bytes))
          by_rest s told fresh [] are =
              let long = widths-long (file_in s.now.bytes).list in
              let count = (rests s told).count in
              let all = ap (length {A = ℕ}) (are ∙ append-nil sizes) in
              let few = is.few in
              absurd (omega (arith, long, count, all, few))
          by_rest s told fresh (size ∷ rest) are =
              let failed =
              subst (λ (d : D). HasFailedIn members v.disk d (size_looks v.slots v.first (sizes ++ 1 ∷ []))) (sym same)
              is.failed in
              subst (λ (calls : List DiskCall). HasFailedIn members v.disk spent.disk calls)
              (sym (looks-front v.slots v.first sizes size rest)
              ∙ looks-are s told fresh (sizes ++ size ∷ rest) are)
              (failed-before members v.disk spent.disk (size_looks v.slots v.first (sizes ++ 1 ∷ []))
              (size_looks v.slots (v.first + sum sizes + size) rest) failed)

      pub lacks : (why : Unsized) → why ≡ unsized.NoMemory → ReadsSizes members v u (Err why)
          → MakesReady members v (Err (starting.NoMemory spent no_keeper))
      lacks unsized.Failed is reads = absurd (cc)
      lacks unsized.NoMemory is reads = unread reads.0 reads.1 reads.2

      pub fails : (why : Unsized) → why ≡ unsized.Failed → ReadsSizes members v u (Err why)
          → MakesReady members v (Err (starting.DiskFailed spent no_keeper))
      fails unsized.NoMemory is reads = absurd (cc)
      fails unsized.Failed is reads = missed reads.0 reads.1

    -- ---- they were

    module _ (u : SpoolView D) (sizes : List ℕ) (read : HasRead members v u sizes) (sized : AreSizes members v sizes)
      where
        told-there : (s : Story) → members.told v.disk ≡ Some s → members.told u.disk ≡ Some s
        told-there s told = read.told ∙ told

        version-there : (s : Story) → members.told v.disk ≡ Some s → (file_in s.now.bytes).version ≡ v.version
        version-there s told = sym (rests s told).version_is

        same-version : u.version ≡ v.version
        same-version = ap (λ (x : SpoolView D). x.version) read.same

        looked : (s : Story) → members.told v.disk ≡ Some s → IsFresh members v
            → HasMade members v.disk u.disk (looks_in (file_in s.now.bytes))
        looked s told fresh =
            subst (λ (calls : List DiskCall). HasMade members v.disk u.disk calls)
            (looks-are s told fresh sizes (sized.are s told)) read.made

        -- the upgrade failed
        pub not-upgraded :
            (spent : Spent D) → UpgradesOnce members u (Err spent)
            → MakesReady members v (Err (starting.DiskFailed spent no_keeper))
        not-upgraded spent (one, done) = (
          failed-then members v.disk u.disk spent.disk read.kept
              (record { same_disk = done.0.made.same_disk; rose = done.0.made.calls.cause.rose }),
          λ fresh.
              let s = fresh.told.0 in
              let told = fresh.told.1 in
              let through = done.0.images s (told-there s told) in (
                subst (λ (f : SpoolFile). HasFailedIn members v.disk spent.disk (ready_calls f))
                    (sym (file-of v s told))
                    (subst
                    (λ (calls : List DiskCall).
                    HasFailedIn members v.disk spent.disk (looks_in (file_in s.now.bytes) ++ calls))
                    (sym (by-one _ (version-there s told ∙ sym same-version ∙ one)))
                    (failed-behind members v.disk u.disk spent.disk (looks_in (file_in s.now.bytes)) upgrade_calls
                    (looked s told fresh)
                    (failed-all members u.disk spent.disk upgrade_calls done.0.made.calls))),
                λ t there. subst (λ (f : SpoolFile). EachImage (IsEither f) t.now) (sym (file-of v s told))
                    (subst (λ (x : Story). EachImage (IsEither (file_in s.now.bytes)) x.now)
                    (same-story through.0 t (sym through.1 ∙ there)) through.2.last),
              ),
        )

        module _ (w : SpoolView D) (g : GemSpool D) (g_is : g.spool ≡ w) (done : UpgradesOnce members u (Ok w)) where
          in-known : known_of g.spool ≡ record (known_of v) { version = 2 }
          in-known = ap (λ (x : SpoolView D). known_of x) g_is ∙ go done
            where
              go : UpgradesOnce members u (Ok w) → known_of w ≡ record (known_of v) { version = 2 }
              go (inl (two, same)) =
                  ap (λ (x : SpoolView D). known_of x) (same ∙ read.same)
                  ∙ ap (λ (n : ℕ). record (known_of v) { version = n }) (sym same-version ∙ two)
              go (inr (one, ups)) =
                  ap (λ (x : SpoolView D). known_of x) ups.1
                  ∙ ap (λ (x : SpoolView D). record (known_of x) { version = 2 }) read.same

          -- what is told then is the file of version 2
          abbrev IsUp : Story → Story → Type 0
          IsUp s t = upgraded (file_in s.now.bytes) ≡ file_in t.now.bytes

          told-then : (s : Story) → members.told v.disk ≡ Some s
              → (t : Story) × (members.told g.spool.disk ≡ Some t) × IsUp s t
          told-then s told = go done
            where
              there : {t : Story} → members.told w.disk ≡ Some t → members.told g.spool.disk ≡ Some t
              there is = ap (λ (x : SpoolView D). members.told x.disk) g_is ∙ is

              go : UpgradesOnce members u (Ok w)
                  → (t : Story) × (members.told g.spool.disk ≡ Some t) × IsUp s t
              go (inl (two, same)) = (
                s,
                there (ap (λ (x : SpoolView D). members.told x.disk) same ∙ told-there s told),
                ap (λ (n : ℕ). record (file_in s.now.bytes) { version = n })
                    (sym (version-there s told ∙ sym same-version ∙ two)),
              )
              go (inr (one, ups)) =
                  let through = ups.0.images s (told-there s told) in (
                    through.0,
                    there through.1,
                    (ups.2 s through.0 (told-there s told) through.1).stands.is,
                  )

          -- and nothing is told then where nothing was
          was-told : (t : Story) → members.told g.spool.disk ≡ Some t → IsTold (members.told v.disk)
          was-told t told = go (members.told v.disk) refl
            where
              tells : is_some (members.told w.disk) ≡ is_some (members.told v.disk)
              tells = by done ∙ ap (λ (o : Option Story). is_some o) read.told
                where
                  by : UpgradesOnce members u (Ok w) → is_some (members.told w.disk) ≡ is_some (members.told u.disk)
                  by (inl (two, same)) = ap (λ (x : SpoolView D). is_some (members.told x.disk)) same
                  by (inr (one, ups)) = ups.0.made.same_disk.2

              go : (was : Option Story) → members.told v.disk ≡ was → IsTold (members.told v.disk)
              go (Some s) is = (s, is)
              go None is =
                  let some : is_some (members.told w.disk) ≡ true =
                  ap (λ (o : Option Story). is_some o)
                  (sym (ap (λ (x : SpoolView D). members.told x.disk) g_is) ∙ told) in
                  let none : is_some (members.told w.disk) ≡ false =
                  tells ∙ ap (λ (o : Option Story). is_some o) is in
                  absurd (cc)

          widths-then : HasSizes members g.spool sizes
          widths-then t there =
              let was = was-told t there in
              let now = told-then was.0 was.1 in
              ap (λ (x : Story). map width (file_in x.now.bytes).list) (same-story t now.0 (sym there ∙ now.1))
              ∙ ap (λ (f : SpoolFile). map width f.list) (sym now.2)
              ∙ sized.are was.0 was.1

          -- what is held of the setup is so still
          holds-then : HoldsKept members v → HoldsKept members g.spool
          holds-then holds t there =
              let was = was-told t there in
              let now = told-then was.0 was.1 in
              subst (λ (f : SpoolFile). HoldsList f)
              (now.2 ∙ sym (ap (λ (x : Story). file_in x.now.bytes) (same-story t now.0 (sym there ∙ now.1))))
              (holds was.0 was.1)

          file-then : IsFresh members v → (standing_of members g.spool).file ≡ upgraded (standing_of members v).file
          file-then fresh =
              let now = told-then fresh.told.0 fresh.told.1 in
              file-of g.spool now.0 now.1 ∙ sym now.2
              ∙ ap (λ (f : SpoolFile). upgraded f) (sym (file-of v fresh.told.0 fresh.told.1))

          made-on : (s : Story) → members.told v.disk ≡ Some s
              → HasMade members u.disk w.disk (upgrades (file_in s.now.bytes))
          made-on s told = go done
            where
              go : UpgradesOnce members u (Ok w) → HasMade members u.disk w.disk (upgrades (file_in s.now.bytes))
              go (inl (two, same)) =
                  subst (λ (calls : List DiskCall). HasMade members u.disk w.disk calls)
                  (sym (by-two _ (version-there s told ∙ sym same-version ∙ two)))
                  (made-same members u.disk w.disk (ap (λ (x : SpoolView D). x.disk) same))
              go (inr (one, ups)) =
                  subst (λ (calls : List DiskCall). HasMade members u.disk w.disk calls)
                  (sym (by-one _ (version-there s told ∙ sym same-version ∙ one)))
                  (made-all members u.disk w.disk upgrade_calls ups.0.made.calls)

          kept-on : UpgradesOnce members u (Ok w) → IsKept members u.disk w.disk
          kept-on (inl (two, same)) =
              subst (λ (x : SpoolView D). IsKept members u.disk x.disk) (sym same) (kept-still members u.disk)
          kept-on (inr (one, ups)) = record { same_disk = ups.0.made.same_disk; count = ups.0.made.calls.cause.same }

          sure-on : UpgradesOnce members u (Ok w) → KeepsSure members u.disk w.disk
          sure-on (inl (two, same)) =
              subst (λ (x : SpoolView D). KeepsSure members u.disk x.disk) (sym same) (λ sure. sure)
          sure-on (inr (one, ups)) =
              used-sure (members.health u.disk) (members.health w.disk) (length upgrade_calls)
              (written_by upgrade_calls) ups.0.made.calls.cause

          pub made-ready : MakesReady {K = NoRecipes} members v (Ok (g, sizes))
          made-ready = record {
            known = in-known;
            sized = record {
              each = sized.each;
              many = sized.many ∙ sym (ap (λ (k : Known). k.len) in-known);
              used =
                  ap (λ (k : Known). k.first + sum sizes) in-known ∙ sized.used
                  ∙ sym (ap (λ (k : Known). k.next) in-known);
              are = widths-then;
            };
            holds = holds-then;
            fresh = λ fresh.
                let now = told-then fresh.told.0 fresh.told.1 in
                record {
                  told = (now.0, now.1);
                  first =
                      ap (λ (k : Known). k.first) in-known ∙ fresh.first
                      ∙ sym (ap (λ (f : SpoolFile). first_in f) (file-then fresh));
                };
            file = file-then;
            made = λ fresh.
                let s = fresh.told.0 in
                let told = fresh.told.1 in
                subst (λ (x : SpoolView D). HasMade members v.disk x.disk (ready_calls (standing_of members v).file))
                (sym g_is)
                (subst (λ (f : SpoolFile). HasMade members v.disk w.disk (ready_calls f)) (sym (file-of v s told))
                (made-then members v.disk u.disk w.disk (looks_in (file_in s.now.bytes))
                (upgrades (file_in s.now.bytes)) (looked s told fresh) (made-on s told)));
            kept =
                subst (λ (x : SpoolView D). IsKept members v.disk x.disk) (sym g_is)
                (kept-then members v.disk u.disk w.disk read.kept (kept-on done));
            sure =
                subst (λ (x : SpoolView D). KeepsSure members v.disk x.disk) (sym g_is)
                (λ sure. sure-on done
                (used-sure (members.health v.disk) (members.health u.disk) _ _ read.made.used sure));
          }

-- a disk of which no call is to fail stays such in what comes behind
pub ready-sure :
    {D : Type 0} (members : disk.Ghosts D) (v : SpoolView D) (g : GemSpool D) (sizes : List ℕ)
    → IsMadeReady members v g sizes → (result : Result (Held D NoRecipes) (Starting D NoRecipes))
    → IfOk result (λ (h : Held D NoRecipes). KeepsSure members g.spool.disk h.spool.spool.disk)
    → IfOk result (λ (h : Held D NoRecipes). KeepsSure members v.disk h.spool.spool.disk)
ready-sure members v g sizes ready (Err why) keeps = tt
ready-sure members v g sizes ready (Ok h) keeps = λ sure. keeps (ready.sure sure)
