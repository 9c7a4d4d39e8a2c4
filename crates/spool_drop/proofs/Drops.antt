-- The first messages of a list in hand are dropped, one behind the other.
use Rattle.std.proofs.Common.{◌≡◌, ℕ, suc, ◌+◌, ◌<◌, ◌≤◌, refl, sym, ap, subst, ◌∙◌, arith, List, min, Some}
use Rattle.std.proofs.Common.{Result, Ok, Err, inl, inr, ⊎_elim}
use Rattle.disk_base.specs.Faults.{Rose}
use Rattle.disk_base.specs.SameDisk.{IsSameDisk}
use Rattle.disk_base.specs.Story.{Story}
use Rattle.disk_base.specs.Through.{Through}
use Rattle.disk_base.specs.declared.disk.Disk as trait
use Rattle.disk_base.proofs.Moments.{only_now, starts, through_both, through_more}
use Rattle.spool_drop.specs.Dropping.{DropsListed, GetsTo, IsHarmed, IsUnharmed, IsWithout, MayBeLeft}
use Rattle.spool_drop.specs.Dropping.{without}
use Rattle.spool_file.specs.File.{Ends, SpoolFile, StandsFor, file_in, version_in}
use Rattle.spool_slots.specs.Changes.{Drops, HoldsThrough, IsSameOr, Upgrades}
use Rattle.spool_slots.specs.Files.{dropped_in, upgraded, upgraded_in, without_first}
use Rattle.spool_slots.specs.Spool.{Rests, SpoolView, known_of}
use Rattle.spool_slots.specs.declared.states.Dropping.TheVariants as dropping
use Rattle.spool_slots.specs.declared.states.Spent.{Spent}

module _ {D : Type 0} (members : trait.Ghosts D) where
  same-both : (a b c : D) → IsSameDisk members a b → IsSameDisk members b c → IsSameDisk members a c
  same-both a b c one two = (two.0 ∙ one.0, two.1 ∙ one.1, two.2 ∙ one.2)

  pub unharmed-both : (a b c : D) → IsUnharmed members a b → IsUnharmed members b c → IsUnharmed members a c
  unharmed-both a b c one two = record {
    faults = two.faults ∙ one.faults;
    same_disk = same-both a b c one.same_disk two.same_disk;
  }

  pub harmed-behind : (a b c : D) → IsUnharmed members a b → IsHarmed members b c → IsHarmed members a c
  harmed-behind a b c one two = record {
    faults = subst (λ (n : ℕ). Rose n (members.health c).faults) one.faults two.faults;
    same_disk = same-both a b c one.same_disk two.same_disk;
  }

-- the file of a list in hand stands, and nothing else may be left of it
rested : (s : Story) (file : SpoolFile) → Ends s file → (image : List ℕ) → image ≡ s.now.bytes → StandsFor image file
rested s file ends image is = subst (λ (bytes : List ℕ). StandsFor bytes file) (sym is) ends.stands

pub stays : (s : Story) (P : List ℕ → Type 0) (file : SpoolFile) → Ends s file
    → ((image : List ℕ) → StandsFor image file → P image) → Through s s P
stays s P file ends good =
    starts s P (λ image left. good image (rested s file ends image (only_now s.now image ends.settled left)))

module _ {D : Type 0} (members : trait.Ghosts D) (v : SpoolView D) where
  -- so many are off
  pub record SoFar (w : SpoolView D) (n : ℕ) : Type 0 where
    pub len : w.len + n ≡ v.len
    pub left : GetsTo (members.told v.disk) (members.told w.disk) (λ bytes. IsWithout n (file_in bytes))
        (λ bytes. without n (file_in bytes))
    pub unharmed : IsUnharmed members v.disk w.disk

  module _ (w : SpoolView D) (n : ℕ) (so_far : SoFar w n) where
    -- what a drop goes through, of the file before all drops
    on : (s t : Story) (u : Story) → Ends t (without n (file_in s.now.bytes))
        → Through t u (IsSameOr dropped_in t.now.bytes) → Through t u (IsWithout (suc n) (file_in s.now.bytes))
    on s t u ends through =
        through_more t u (IsSameOr dropped_in t.now.bytes) (IsWithout (suc n) (file_in s.now.bytes))
        (λ image.
        ⊎_elim
        (λ same.
        (n, omega arith, subst (λ (file : SpoolFile). StandsFor image file) (sym ends.stands.is) same))
        (λ less. (
          suc n,
          omega arith,
          subst (λ (file : SpoolFile). StandsFor image (without_first file)) (sym ends.stands.is) less,
        )))
        through

    wider : (most : ℕ) (file : SpoolFile) (image : List ℕ) → n ≤ most → IsWithout n file image
        → IsWithout most file image
    wider most file image few (k, within, stands) = (k, omega (arith, within, few), stands)

    through-so : (x : D) → HoldsThrough (members.told w.disk) (members.told x) (IsSameOr dropped_in)
        → (s : Story) → members.told v.disk ≡ Some s
        → (u : Story) × (members.told x ≡ Some u) × Through s u (IsWithout (suc n) (file_in s.now.bytes))
    through-so x images s is =
        let reached = so_far.left s is in
        let t = reached.0 in
        let more = images t reached.1 in
        let u = more.0 in (
          u,
          more.1,
          through_both s t u (IsWithout (suc n) (file_in s.now.bytes))
              (through_more s t (IsWithout n (file_in s.now.bytes)) (IsWithout (suc n) (file_in s.now.bytes))
              (λ image. wider (suc n) (file_in s.now.bytes) image (omega arith)) reached.2)
              (on s t u reached.3 more.2),
        )

    pub one-more : (x : SpoolView D) → 0 < w.len → Drops members w (Ok x) → SoFar x (suc n)
    one-more x some (dropped, (size, first_size, same), ends) = record {
      len = omega (arith, some, so_far.len, ap (λ (y : SpoolView D). y.len) same);
      left = λ s is.
          let reached = so_far.left s is in
          let all = through-so x.disk dropped.images s is in (
            all.0,
            all.1,
            all.2,
            subst (λ (file : SpoolFile). Ends all.0 (without_first file)) (sym reached.3.stands.is)
                (ends reached.0 all.0 reached.1 all.1),
          );
      unharmed =
          unharmed-both members v.disk w.disk x.disk so_far.unharmed
          (record { faults = dropped.made.calls.cause.same; same_disk = dropped.made.same_disk });
    }

  module _ (rests : (s : Story) → members.told v.disk ≡ Some s → Rests s (known_of v)) where
    ends-now : (s : Story) → members.told v.disk ≡ Some s → Ends s (file_in s.now.bytes)
    ends-now s is =
        record { settled = (rests s is).settled; stands = record { sound = (rests s is).sound; is = refl } }

    pub none-so-far : SoFar v 0
    none-so-far = record {
      len = omega arith;
      left = λ s is. (
        s,
        is,
        stays s (IsWithout 0 (file_in s.now.bytes)) (file_in s.now.bytes) (ends-now s is)
            (λ image stands. (0, omega arith, stands)),
        ends-now s is,
      );
      unharmed = record { faults = refl; same_disk = (refl, refl, refl) };
    }

-- a file of version 2 is as if it were made one
second : (bytes : List ℕ) → version_in bytes ≡ 2 → file_in bytes ≡ upgraded (file_in bytes)
second bytes is =
    ap
    (λ (version : ℕ).
    record {
      version = version;
      slots = (file_in bytes).slots;
      gates = (file_in bytes).gates;
      mark = (file_in bytes).mark;
      floor = (file_in bytes).floor;
      setup = (file_in bytes).setup;
      list = (file_in bytes).list;
    })
    is

module _ {D : Type 0} (members : trait.Ghosts D) (v : SpoolView D) (count : ℕ) where
  -- ---- of a file of version 2

  module _ (rests : (s : Story) → members.told v.disk ≡ Some s → Rests s (known_of v)) (version : v.version ≡ 2) where
    as-second : (s : Story) → members.told v.disk ≡ Some s → file_in s.now.bytes ≡ upgraded (file_in s.now.bytes)
    as-second s is = second s.now.bytes (sym (rests s is).version_is ∙ version)

    left-so : (most : ℕ) (s t : Story) → members.told v.disk ≡ Some s
        → Through s t (IsWithout most (file_in s.now.bytes)) → Through s t (MayBeLeft most s.now.bytes)
    left-so most s t is through =
        through_more s t (IsWithout most (file_in s.now.bytes)) (MayBeLeft most s.now.bytes)
        (λ image off. inr (subst (λ (file : SpoolFile). IsWithout most file image) (as-second s is) off)) through

    pub all-off : (w : SpoolView D) (n : ℕ) → n ≡ min count v.len → SoFar members v w n
        → DropsListed members v count (Ok (w, n))
    all-off w n few so_far = (
      few,
      λ s is.
          let reached = so_far.left s is in (
            reached.0,
            reached.1,
            left-so n s reached.0 is reached.2,
            subst (λ (file : SpoolFile). Ends reached.0 (without n file)) (as-second s is) reached.3,
          ),
      so_far.unharmed,
    )

    pub none-more : (w : SpoolView D) (n : ℕ) → SoFar members v w n → (spent : Spent D) → n < min count v.len
        → Drops members w (Err (dropping.Failed spent)) → DropsListed members v count (Err spent)
    none-more w n so_far spent few (dropped, lost) = (
      λ s is.
          let all = through-so members v w n so_far spent.disk dropped.images s is in (
            all.0,
            all.1,
            left-so (min count v.len) s all.0 is
                (through_more s all.0 (IsWithout (suc n) (file_in s.now.bytes))
                (IsWithout (min count v.len) (file_in s.now.bytes))
                (λ image off. (off.0, omega (arith, off.1, few), off.2)) all.2),
          ),
      harmed-behind members v.disk w.disk spent.disk so_far.unharmed
          (record { faults = dropped.made.calls.cause.rose; same_disk = dropped.made.same_disk }),
    )

  -- ---- of one that was made of version 2

  module _ (w : SpoolView D) (up : Upgrades members v (Ok w)) where
    same_len : w.len ≡ v.len
    same_len = ap (λ (x : SpoolView D). x.len) up.1

    unharmed-up : IsUnharmed members v.disk w.disk
    unharmed-up = record { faults = up.0.made.calls.cause.same; same_disk = up.0.made.same_disk }

    on-up : (most : ℕ) (s : Story) → members.told v.disk ≡ Some s → (t : Story) → members.told w.disk ≡ Some t
        → Through s t (IsSameOr upgraded_in s.now.bytes) → (u : Story)
        → Through t u (MayBeLeft most t.now.bytes) → Through s u (MayBeLeft most s.now.bytes)
    on-up most s is t there one u two =
        through_both s t u (MayBeLeft most s.now.bytes)
        (through_more s t (IsSameOr upgraded_in s.now.bytes) (MayBeLeft most s.now.bytes)
        (λ image. ⊎_elim (λ same. inl same) (λ new. inr (0, omega arith, new))) one)
        (through_more t u (MayBeLeft most t.now.bytes) (MayBeLeft most s.now.bytes)
        (λ image.
        ⊎_elim
        (λ same. inr (0, omega arith, subst (λ (file : SpoolFile). StandsFor image file) file-is same))
        (λ off. inr (subst (λ (file : SpoolFile). IsWithout most (upgraded file) image) file-is off)))
        two)
      where
        file-is : file_in t.now.bytes ≡ upgraded_in s.now.bytes
        file-is = sym (up.2 s t is there).stands.is

    pub all-up : (result : Result (SpoolView D × ℕ) (Spent D)) → DropsListed members w count result
        → DropsListed members v count result
    all-up (Ok (x, few)) (is, left, unharmed) = (
      is ∙ ap (min count) same_len,
      λ s told.
          let one = up.0.images s told in
          let two = left one.0 one.1 in (
            two.0,
            two.1,
            on-up few s told one.0 one.1 one.2 two.0 two.2,
            subst (λ (file : SpoolFile). Ends two.0 (without few (upgraded file)))
                (sym (up.2 s one.0 told one.1).stands.is) two.3,
          ),
      unharmed-both members v.disk w.disk x.disk unharmed-up unharmed,
    )
    all-up (Err spent) (through, harmed) = (
      λ s told.
          let one = up.0.images s told in
          let two = through one.0 one.1 in (
            two.0,
            two.1,
            subst (λ (n : ℕ). Through s two.0 (MayBeLeft (min count n) s.now.bytes)) same_len
                (on-up (min count w.len) s told one.0 one.1 one.2 two.0 two.2),
          ),
      harmed-behind members v.disk w.disk spent.disk unharmed-up harmed,
    )

  pub stopped-up : (spent : Spent D) → Upgrades members v (Err spent) → DropsListed members v count (Err spent)
  stopped-up spent (made, lost) = (
    λ s told.
        let one = made.images s told in (
          one.0,
          one.1,
          through_more s one.0 (IsSameOr upgraded_in s.now.bytes) (MayBeLeft (min count v.len) s.now.bytes)
              (λ image. ⊎_elim (λ same. inl same) (λ new. inr (0, omega arith, new))) one.2,
        ),
    record { faults = made.made.calls.cause.rose; same_disk = made.made.same_disk },
  )
