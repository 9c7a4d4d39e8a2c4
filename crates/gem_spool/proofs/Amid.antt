-- What a crash leaves of a work that is on its way.
use Rattle.std.proofs.Common.{◌≡◌, ⊎_elim, inl, inr, ℕ, ◌<◌, List, [], ◌∷◌, ◌++◌}
use Rattle.std.proofs.Common.{length, Option, Some, Ok, Err, sym, ap, subst, ◌∙◌, arith}
use Rattle.disk_base.specs.Story.{Story}
use Rattle.disk_base.specs.Through.{GoesThrough}
use Rattle.disk_base.specs.declared.disk.Disk as disk
use Rattle.disk_base.proofs.Moments.{only_now, starts, through_more}
use Rattle.gem_spool.proofs.Doing.{clear_file, drop_file, len_is, put_file, same_file}
use Rattle.gem_spool.specs.Updates.{Commit, IsAmidCommit, IsAmidUpdates, Update}
use Rattle.gem_spool.specs.Updates.Commit.{ByGate, ByGates, Nothing}
use Rattle.gem_spool.specs.Spool.{IsPutting, numbered}
use Rattle.gem_spool.specs.Standing.{Standing, Stands}
use Rattle.gem_spool.specs.Works.{Does, IsAmid, IsOnWay, purge_updates, standing_after, standings_after, updates_of}
use Rattle.gem_spool.specs.declared.spool.GemSpool.{GemSpool}
use Rattle.gem_spool.specs.declared.works.Work.{Work}
use Rattle.gem_spool.specs.declared.works.Work.TheVariants as work
use Rattle.spool_file.specs.File.{SpoolFile, StandsFor, file_in}
use Rattle.spool_file.specs.Slot.{Message}
use Rattle.spool_slots.specs.Changes.{Clears, HoldsThrough, IsSameOr}
use Rattle.spool_slots.specs.Files.{cleared_in, dropped_in, with_gates}
use Rattle.spool_slots.specs.Spool.{SpoolView}
use Rattle.spool_slots.specs.declared.states.Spent.{Spent}

-- ---- on the way

-- what stands before a work or some works is on their way
pub amid_starts : (updates : List Update) (st : Standing) (image : List ℕ) → StandsFor image st.file →
    IsAmidUpdates st updates image
amid_starts [] st image is = is
amid_starts (update ∷ updates) st image is = inl (at_commit update.commit is) where
  at_commit : (commit : Commit) → StandsFor image st.file → IsAmidCommit st commit image
  at_commit Nothing is = is
  at_commit (ByGate gate) is = is
  at_commit (ByGates gates) is = (st.file.gates, is)

pub way_starts : (st : Standing) (works : List Work) (image : List ℕ) → StandsFor image st.file → IsOnWay st works image
way_starts st [] image is = is
way_starts st (one ∷ works) image is = inl (amid_starts (updates_of st one) st image is)

pub way_more : (st : Standing) (xs ys : List Work) (image : List ℕ) → IsOnWay st xs image → IsOnWay st (xs ++ ys) image
way_more st [] ys image is = way_starts st ys image is
way_more st (x ∷ xs) ys image is =
    ⊎_elim (λ (amid : IsAmid st x image). inl amid)
    (λ (on : IsOnWay (standing_after st x) xs image). inr (way_more (standing_after st x) xs ys image on)) is

pub way_behind : (st : Standing) (xs ys : List Work) (image : List ℕ) → IsOnWay (standings_after st xs) ys image →
    IsOnWay st (xs ++ ys) image
way_behind st [] ys image is = is
way_behind st (x ∷ xs) ys image is = inr (way_behind (standing_after st x) xs ys image is)

-- ---- the updates of a work

-- some are purged by one update
pub purge_one : (st : Standing) (P : List Update → Type 0) → 0 < length st.file.list →
    ((message : Message) (list : List Message) → P (purge_updates (message ∷ list) st)) → P (updates_of st work.Purge)
purge_one st P some one = go st.file.list some
  where
    go : (list : List Message) → 0 < length list → P (purge_updates list st)
    go [] none = absurd (omega (arith, none))
    go (message ∷ list) some = one message list

module _ {D : Type 0} (members : disk.Ghosts D) (v : SpoolView D) (st : Standing) (stands : Stands members v st)
    (after : Option Story) (s : Story) (told : members.told v.disk ≡ Some s) where
  same : st.file ≡ file_in s.now.bytes
  same = same_file members v st stands s told

  as_told : (f : SpoolFile → SpoolFile) (image : List ℕ) → StandsFor image (f (file_in s.now.bytes)) →
      StandsFor image (f st.file)
  as_told f image = subst (λ (file : SpoolFile). StandsFor image (f file)) (sym same)

  pub put_amid : (stream function : ℕ) (body : List ℕ) →
      HoldsThrough (members.told v.disk) after (IsPutting (numbered v stream function body)) →
      GoesThrough s after (IsAmid st (work.Put stream function body))
  put_amid stream function body images =
      let one = images s told in (
        one.0,
        one.1,
        through_more s one.0 (IsPutting (numbered v stream function body) s.now.bytes)
            (IsAmid st (work.Put stream function body)) way one.2,
      )
    where
      way : (image : List ℕ) → IsPutting (numbered v stream function body) s.now.bytes image →
          IsAmid st (work.Put stream function body) image
      way image (inl (gates, left)) = inl (gates, as_told (with_gates gates) image left)
      way image (inr left) =
          inr (inr (subst (StandsFor image) (put_file members v st stream function body stands s told) left))

  pub drop_amid : (slots : ℕ) → HoldsThrough (members.told v.disk) after (IsSameOr dropped_in) →
      GoesThrough s after (IsAmid st (work.DropOldest slots))
  drop_amid slots images =
      let one = images s told in (
        one.0,
        one.1,
        through_more s one.0 (IsSameOr dropped_in s.now.bytes) (IsAmid st (work.DropOldest slots))
            (λ image. ⊎_elim (λ (left : StandsFor image (file_in s.now.bytes)). inl (as_told (λ f. f) image left))
            (λ (left : StandsFor image (dropped_in s.now.bytes)). inr
            (subst (StandsFor image) (drop_file members v st slots stands s told) left))) one.2,
      )

  pub purge_amid : 0 < v.len → HoldsThrough (members.told v.disk) after (IsSameOr (cleared_in v.next)) →
      GoesThrough s after (IsAmid st work.Purge)
  purge_amid some images =
      let one = images s told in (
        one.0,
        one.1,
        through_more s one.0 (IsSameOr (cleared_in v.next) s.now.bytes) (IsAmid st work.Purge) way one.2,
      )
    where
      way : (image : List ℕ) → IsSameOr (cleared_in v.next) s.now.bytes image → IsAmid st work.Purge image
      way image left =
          purge_one st (λ (updates : List Update). IsAmidUpdates st updates image)
          (subst (λ (n : ℕ). 0 < n) (len_is members v st stands) some)
          (λ message list. ⊎_elim (λ (left : StandsFor image (file_in s.now.bytes)). inl (as_told (λ f. f) image left))
          (λ (left : StandsFor image (cleared_in v.next s.now.bytes)). inr
          (subst (StandsFor image) (clear_file members v st stands some s told) left)) left)

  -- where nothing is done it stands throughout
  pub none_amid : after ≡ members.told v.disk → (updates : List Update) → GoesThrough s after (IsAmidUpdates st updates)
  none_amid still updates = (
    s,
    still ∙ told,
    starts s (IsAmidUpdates st updates) (λ image left. amid_starts updates st image
        (subst (λ (bytes : List ℕ). StandsFor bytes st.file)
        (sym (only_now s.now image (stands.file s told).settled left)) (stands.file s told).stands)),
  )

module _ {D : Type 0} (members : disk.Ghosts D) where
  pub does_amid : (g h : GemSpool D) (one : Work) (st : Standing) → Stands members g.spool st →
      Does members g one (Ok h) → (s : Story) → members.told g.spool.disk ≡ Some s →
      GoesThrough s (members.told h.spool.disk) (IsAmid st one)
  does_amid g h (work.Put stream function body) st stands done s told =
      put_amid members g.spool st stands (members.told h.spool.disk) s told stream function body done.0.images
  does_amid g h (work.DropOldest slots) st stands done s told =
      drop_amid members g.spool st stands (members.told h.spool.disk) s told slots done.0.0.images
  does_amid g h work.Purge st stands done s told = go done.0
    where
      go : Clears members g.spool (Ok h.spool) → GoesThrough s (members.told h.spool.disk) (IsAmid st work.Purge)
      go (inl none) =
          none_amid members g.spool st stands (members.told h.spool.disk) s told
          (ap (λ (x : SpoolView D). members.told x.disk) none.2) (updates_of st work.Purge)
      go (inr moved) =
          purge_amid members g.spool st stands (members.told h.spool.disk) s told moved.0.0 moved.0.1.0.images

  pub fails_amid : (g : GemSpool D) (one : Work) (spent : Spent D) (st : Standing) → Stands members g.spool st →
      Does members g one (Err spent) → (s : Story) → members.told g.spool.disk ≡ Some s →
      GoesThrough s (members.told spent.disk) (IsAmid st one)
  fails_amid g (work.Put stream function body) spent st stands failed s told =
      put_amid members g.spool st stands (members.told spent.disk) s told stream function body failed.0.images
  fails_amid g (work.DropOldest slots) spent st stands failed s told =
      drop_amid members g.spool st stands (members.told spent.disk) s told slots failed.0.images
  fails_amid g work.Purge spent st stands failed s told =
      purge_amid members g.spool st stands (members.told spent.disk) s told failed.0 failed.1.0.images
