-- That the spool in hand has messages of the sizes that its ledger says, and so finds each message by its size.
use Rattle.std.proofs.Common.{◌≡◌, refl, sym, ap, subst, ◌∙◌, arith, ◌<◌, ◌≤◌, ◌-◌, ℕ, List, [], ◌∷◌, length, map}
use Rattle.std.proofs.Common.{Option, Some, None, Ok, inl, inr, is_some}
use Rattle.std.proofs.lemmas.List.Elements.{All-append, All-cons, All-drop, All-head, All-nil, All-tail}
use Rattle.std.proofs.lemmas.List.Sums.{sum_by-cons}
use Rattle.std.specs.Prelude.{All, sum}
use Rattle.std.specs.List.{slice_get}
use Rattle.disk_base.specs.Story.{Story}
use Rattle.disk_base.specs.declared.disk.Disk as disk
use Rattle.disk_base.proofs.Told.{told_already}
use Rattle.gem_spool.specs.Spool.{HasList}
use Rattle.gem_spool.specs.Standing.{Standing, Stands, count_of}
use Rattle.gem_spool.specs.Works.{AreSized, AreSizedOn, HasCarried, counts_after, list_after, lists_after, next_after}
use Rattle.gem_spool.specs.declared.count.Count.{Count}
use Rattle.gem_spool.specs.declared.spool.GemSpool.{GemSpool}
use Rattle.gem_spool.specs.declared.works.Work.{Work}
use Rattle.gem_spool.specs.declared.works.Work.TheVariants as work
use Rattle.gem_spool.proofs.Doing.{same_file}
use Rattle.setup_store.specs.OnDisk.{Keeps}
use Rattle.spool_file.specs.File.{SpoolFile, file_in}
use Rattle.spool_file.specs.Sizes.{slots_for}
use Rattle.spool_file.specs.Slot.{Message, width}
use Rattle.spool_file.proofs.BodySizes.{some_slots}
use Rattle.spool_slots.specs.Changes.{IsFirstSize}
use Rattle.spool_slots.specs.Spool.{SpoolView}
use Rattle.spool_ledger.specs.Ledger.{IsSome, LedgerView, Numbered, carried_out, count_by, stood_count}
use Rattle.spool_ledger.specs.Sizes.{AreSizedBy, all_sizes_after, oldest_of, sizes_after}
use Rattle.spool_ledger.proofs.Widths.{sized-by, widths-after}
use Rattle.spool_works.specs.HandedBack.{IsKept}
use Rattle.spool_works.specs.Owed.{CarriesOwed}
use Rattle.equipment_node.specs.Amid.{HasSizes, IsCounted, WorksFit}
use Rattle.equipment_node.specs.Stepping.{IsTold}
use Rattle.spool_works.proofs.HandingBack.{carried-back}

-- ---- sizes behind works

pub all-widths-after : (next : ℕ) (list : List Message) (works : List Work)
    → map width (lists_after next list works) ≡ all_sizes_after (map width list) works
all-widths-after next list [] = refl
all-widths-after next list (one ∷ works) =
    all-widths-after (next_after next one) (list_after next list one) works
    ∙ ap (λ (sizes : List ℕ). all_sizes_after sizes works) (sym (widths-after next list one))

some-after : (sizes : List ℕ) (works : List Work) → All IsSome sizes → All IsSome (all_sizes_after sizes works)
some-after sizes [] some = some
some-after sizes (one ∷ works) some = some-after (sizes_after sizes one) works (after one)
  where
    after : (one : Work) → All IsSome (sizes_after sizes one)
    after (work.Put stream function body) =
        All-append IsSome sizes (slots_for (length body) ∷ []) some
        (All-cons IsSome (slots_for (length body)) [] (some_slots (length body)) (All-nil IsSome))
    after (work.DropOldest slots) = All-drop IsSome 1 sizes some
    after work.Purge = All-nil IsSome

-- each takes a slot at least
sum-most : (sizes : List ℕ) → All IsSome sizes → length sizes ≤ sum sizes
sum-most [] some = omega arith
sum-most (size ∷ sizes) some =
    let one = All-head IsSome size sizes some in
    let rest = sum-most sizes (All-tail IsSome size sizes some) in
    let more = sum_by-cons (λ (n : ℕ). n) size sizes in
    omega (arith, one, rest, more)

sum-none : (sizes : List ℕ) → length sizes ≡ 0 → sum sizes ≡ 0
sum-none [] none = refl
sum-none (size ∷ sizes) none = absurd (omega (arith, none))

-- the works that a ledger owes are sized by a list of its sizes
pub sized-of : (st : Standing) (ledger : LedgerView) → map width st.file.list ≡ ledger.stood.sizes → WorksFit ledger
    → AreSized st.next st.file.list ledger.works
sized-of st ledger sizes fit =
    sized-by st.next st.file.list ledger.works
    (subst (λ (ns : List ℕ). AreSizedBy ns ledger.works) (sym sizes) fit.sized)

-- ---- the spool in hand

pub same-count :
    (old new : LedgerView) → new.slots ≡ old.slots → new.stood ≡ old.stood → stood_count new ≡ stood_count old
same-count old new slots stood =
    ap (λ (n : ℕ). count_by n new.stood) slots ∙ ap (λ (list : Numbered). count_by old.slots list) stood

module _ {D : Type 0} (members : disk.Ghosts D) where
  pub sized-on : (v : SpoolView D) (sizes : List ℕ) (works : List Work) → HasSizes members v sizes
      → AreSizedBy sizes works → AreSizedOn members v works
  sized-on v sizes works has sized s told =
      sized-by v.next (file_in s.now.bytes).list works
      (subst (λ (ns : List ℕ). AreSizedBy ns works) (sym (has s told)) sized)

  -- the same of how it stands
  pub sizes-stand : (v : SpoolView D) (st : Standing) (sizes : List ℕ) → Stands members v st → HasSizes members v sizes
      → (s : Story) → members.told v.disk ≡ Some s → map width st.file.list ≡ sizes
  sizes-stand v st sizes stands has s told =
      ap (λ (file : SpoolFile). map width file.list) (same_file members v st stands s told) ∙ has s told

  pub sized-standing :
      (v : SpoolView D) (st : Standing) (ledger : LedgerView) → Stands members v st → IsTold (members.told v.disk)
      → IsCounted members v ledger → WorksFit ledger → AreSized st.next st.file.list ledger.works
  sized-standing v st ledger stands told counted fit =
      sized-of st ledger (sizes-stand v st ledger.stood.sizes stands counted.sizes told.0 told.1) fit

  -- where its disk tells the same, and the numbers are the same
  pub counted-still : (v w : SpoolView D) (ledger : LedgerView) → IsCounted members v ledger
      → members.told w.disk ≡ members.told v.disk → count_of w ≡ count_of v → IsCounted members w ledger
  counted-still v w ledger is told same = record {
    count = same ∙ is.count;
    sizes = λ s now. is.sizes s (sym told ∙ now);
    some = is.some;
  }

  -- by another ledger that takes it to have the same
  pub counted-as : (v : SpoolView D) (old new : LedgerView) → IsCounted members v old → new.slots ≡ old.slots
      → new.stood ≡ old.stood → IsCounted members v new
  counted-as v old new is slots stood = record {
    count = is.count ∙ sym (same-count old new slots stood);
    sizes = λ s told. is.sizes s told ∙ ap (λ (list : Numbered). list.sizes) (sym stood);
    some = subst (λ (list : Numbered). All IsSome list.sizes) (sym stood) is.some;
  }

  -- behind a call that changes the list so
  pub sizes-then :
      (v w : SpoolView D) (before after : List ℕ) (change : List Message → List Message)
      → IsKept members v.disk w.disk
      → ((list : List Message) → HasList members v list → HasList members w (change list))
      → ((list : List Message) → map width list ≡ before → map width (change list) ≡ after)
      → HasSizes members v before → HasSizes members w after
  sizes-then v w before after change kept lists sizes has s told = go (members.told v.disk) refl
    where
      tells : is_some (members.told w.disk) ≡ is_some (members.told v.disk)
      tells = kept.same_disk.2

      same-story : (a b : Story) → Some a ≡ Some b → a ≡ b
      same-story a b same = cc

      go : (had : Option Story) → members.told v.disk ≡ had → map width (file_in s.now.bytes).list ≡ after
      go None none = absurd (let same = tells in cc)
      go (Some b) there =
          let list = (file_in b.now.bytes).list in
          let first : HasList members v list = record {
            is = λ t now. ap (λ (u : Story). (file_in u.now.bytes).list) (same-story t b (sym now ∙ there));
          } in
          ap (λ (ms : List Message). map width ms) ((lists list first).is s told) ∙ sizes list (has b there)

  -- behind the works
  pub counted-behind : (g h : GemSpool D) (ledger : LedgerView) → IsCounted members g.spool ledger → WorksFit ledger
      → HasCarried members g ledger.works h → IsCounted members h.spool (carried_out ledger)
  counted-behind g h ledger is fit carried = record {
    count = carried.count ∙ ap (λ (c : Count). counts_after c ledger.works) is.count ∙ fit.come_to;
    sizes =
        sizes-then g.spool h.spool ledger.stood.sizes ledger.sizes
        (λ (list : List Message). lists_after g.spool.next list ledger.works)
        (carried-back members g h ledger.works carried) carried.list
        (λ list is_so.
        all-widths-after g.spool.next list ledger.works
        ∙ ap (λ (sizes : List ℕ). all_sizes_after sizes ledger.works) is_so
        ∙ fit.leave)
        is.sizes;
    some = subst (λ (sizes : List ℕ). All IsSome sizes) fit.leave (some-after ledger.stood.sizes ledger.works is.some);
  }

  -- and behind a keep
  kept-counted : (u h : GemSpool D) (bytes : List ℕ) (ledger : LedgerView) → IsCounted members u.spool ledger
      → Keeps members u.spool bytes (Ok h.spool) → IsCounted members h.spool ledger
  kept-counted u h bytes ledger is keeps = record {
    count = ap (λ (x : SpoolView D). count_of x) keeps.3 ∙ is.count;
    sizes = λ t there.
        let told = told_already (members.told u.spool.disk) (members.told h.spool.disk) t keeps.2.same_disk.2 there in
        ap (λ (f : SpoolFile). map width f.list) (sym (keeps.4 told.0 t told.1 there).stands.is)
        ∙ is.sizes told.0 told.1;
    some = is.some;
  }

  pub owed-counted : (g h : GemSpool D) (ledger : LedgerView) (setup : Option (List ℕ))
      → IsCounted members g.spool ledger
      → WorksFit ledger → CarriesOwed members g ledger.works setup (Ok h)
      → IsCounted members h.spool (carried_out ledger)
  owed-counted g h ledger None is fit (u, carried, same) =
      subst (λ (x : GemSpool D). IsCounted members x.spool (carried_out ledger)) (sym same)
      (counted-behind g u ledger is fit carried)
  owed-counted g h ledger (Some bytes) is fit (u, carried, inl kept) =
      kept-counted u h bytes (carried_out ledger) (counted-behind g u ledger is fit carried) kept.0
  owed-counted g h ledger (Some bytes) is fit (u, carried, inr none) =
      subst (λ (x : GemSpool D). IsCounted members x.spool (carried_out ledger)) (sym none.1)
      (counted-behind g u ledger is fit carried)

  -- ---- the oldest message

  first-width : (list : List Message) (m : Message) (size : ℕ) (sizes : List ℕ) → slice_get list 0 ≡ Some m
      → map width list ≡ size ∷ sizes → size ≡ width m
  first-width [] m size sizes first is = absurd (cc)
  first-width (x ∷ list) m size sizes first is =
      let one : x ≡ m = cc in let same : width x ≡ size = cc in sym same ∙ ap width one

  -- where nothing is owed it takes as many slots as the ledger says
  pub first-size : (v : SpoolView D) (ledger : LedgerView) → IsCounted members v ledger → carried_out ledger ≡ ledger
      → 0 < v.len → IsFirstSize members v (oldest_of ledger.sizes)
  first-size v ledger is owes some =
      go ledger.sizes
      (ap (λ (c : Count). c.len) is.count ∙ ap (λ (sizes : List ℕ). length sizes) (sym stood))
      (ap (λ (c : Count). c.used) is.count ∙ ap sum (sym stood))
      (subst (λ (sizes : List ℕ). All IsSome sizes) (sym stood) is.some)
      (λ s told. is.sizes s told ∙ sym stood)
    where
      stood : ledger.sizes ≡ ledger.stood.sizes
      stood = ap (λ (l : LedgerView). l.stood.sizes) owes

      go : (sizes : List ℕ) → v.len ≡ length sizes → v.next - v.first ≡ sum sizes → All IsSome sizes
          → HasSizes members v sizes → IsFirstSize members v (oldest_of sizes)
      go [] len used all has = absurd (omega (arith, some, len))
      go (size ∷ sizes) len used all has =
          let one = All-head IsSome size sizes all in
          let least = sum-most sizes (All-tail IsSome size sizes all) in
          let more = sum_by-cons (λ (n : ℕ). n) size sizes in
          record {
            some = one;
            is = λ s told m first. first-width (file_in s.now.bytes).list m size sizes first (has s told);
            within = omega (arith, len, used, one, least, more);
            last = λ only. let none = sum-none sizes (omega (arith, len, only)) in omega (arith, used, one, more, none);
          }
