-- That each call leaves a spool that stands as it says.
use Rattle.std.proofs.Common.{◌≡◌, ⊎_elim, inl, inr, ℕ, zero, suc, ◌+◌, ◌-◌, ◌*◌, ◌/◌, ◌≤◌, ◌==◌, Bool, true, false}
use Rattle.std.proofs.Common.{if◌then◌else◌, List, [], ◌∷◌, length, replicate, sum_by, Option, Some, None, Ok, Err, refl}
use Rattle.std.proofs.Common.{sym, ap, subst, ◌∙◌, arith}
use Rattle.std.proofs.lemmas.Bool.Decides.{nat_tests}
use Rattle.std.proofs.lemmas.List.{length-replicate}
use Rattle.std.proofs.lemmas.List.Sums.{sum_by-cons}
use Rattle.disk_base.specs.Story.{Story}
use Rattle.disk_base.specs.Through.{GoesThrough}
use Rattle.disk_base.specs.declared.disk.Disk as disk
use Rattle.disk_base.specs.declared.disk.DiskAnswer.{DiskAnswer}
use Rattle.disk_base.specs.declared.disk.DiskAnswer.TheVariants.{Done, Failed}
use Rattle.disk_base.proofs.Moments.{only_now, starts, through_more}
use Rattle.gem_spool.specs.declared.count.Count.{Count}
use Rattle.gem_spool.specs.Standing.{Standing, Stands, blank, blanks, count_of, file_told, sizes_of, standing_of}
use Rattle.gem_spool.specs.Works.{IsMarked, reserved}
use Rattle.gem_spool.proofs.Lists.{reserve_told}
use Rattle.spool_file.specs.File.{Ends, SpoolFile, StandsFor, file_in}
use Rattle.spool_file.specs.Run.{IsChainFrom}
use Rattle.spool_file.specs.Sizes.{slots_for}
use Rattle.spool_file.specs.Slot.{Message, width}
use Rattle.spool_file.specs.declared.recovery.Known.{Known}
use Rattle.spool_file.proofs.Runs.{chain_total, total}
use Rattle.spool_slots.specs.Changes.{HasMoved, IsSameOr, Moves, MovesMark, Reserves}
use Rattle.spool_slots.specs.Files.{reserved_in, with_mark_moved}
use Rattle.spool_slots.specs.Spool.{Rests, SpoolView, in_hand, known_of}
use Rattle.spool_slots.specs.declared.states.Reserving.TheVariants as reserving
use Rattle.spool_slots.specs.declared.states.Spent.{Spent}

-- ---- messages that a disk doesn't tell

blank_wide : (size : ℕ) → 1 ≤ size → slots_for (length {A = ℕ} (replicate (4081 * size) 0)) ≡ size
unfolding slots_for
blank_wide size some =
    let long : length {A = ℕ} (replicate (4081 * size) 0) ≡ 4081 * size = length-replicate (4081 * size) 0 in
    ap (λ (n : ℕ). if n == 0 then 1 else (n + 4080) / 4081) long
    ∙ by_test (4081 * size == 0) refl where
      by_test : (b : Bool) → (4081 * size == 0) ≡ b → (if b then 1 else (4081 * size + 4080) / 4081) ≡ size
      by_test true is = let none : 4081 * size ≡ 0 = grind (arith, nat_tests, is) in absurd (omega (arith, none, some))
      by_test false is = omega arith

pub blanks_len : (first : ℕ) (sizes : List ℕ) → length (blanks first sizes) ≡ length sizes
blanks_len first [] = refl
blanks_len first (size ∷ sizes) = ap suc (blanks_len (first + size) sizes)

pub sizes_len : (len used : ℕ) → length (sizes_of len used) ≡ len
sizes_len zero used = refl
sizes_len (suc zero) used = refl
sizes_len (suc (suc len)) used = ap suc (sizes_len (suc len) (used - 1))

-- they have no gap, where each takes a slot at least
blank_first : (first size next : ℕ) (rest : List Message) → 1 ≤ size → IsChainFrom (first + size) next rest →
    IsChainFrom first next (blank first size ∷ rest)
blank_first first size next rest some chain =
    (refl, subst (λ (n : ℕ). IsChainFrom (first + n) next rest) (sym (blank_wide size some)) chain)

blanks_chain : (first len used : ℕ) → len ≤ used → (len ≡ 0 → used ≡ 0) →
    IsChainFrom first (first + used) (blanks first (sizes_of len used))
blanks_chain first zero used within none = let empty = none refl in omega (arith, empty)
blanks_chain first (suc zero) used within none =
    blank_first first used (first + used) [] (omega (arith, within)) refl
blanks_chain first (suc (suc len)) used within none =
    let next : first + 1 + (used - 1) ≡ first + used = omega (arith, within) in
    blank_first first 1 (first + used) (blanks (first + 1) (sizes_of (suc len) (used - 1))) (omega arith)
    (subst (λ (n : ℕ). IsChainFrom (first + 1) n (blanks (first + 1) (sizes_of (suc len) (used - 1)))) next
    (blanks_chain (first + 1) (suc len) (used - 1) (omega (arith, within)) (λ empty. absurd (omega (arith, empty)))))

-- how many slots the messages of a list without gaps take
pub chain_sum : (first next : ℕ) (list : List Message) → IsChainFrom first next list →
    next - first ≡ sum_by width list
chain_sum first next list chain = let all = chain_total first next list chain in omega (arith, all) ∙ total_is list where
  total_is : (list : List Message) → total list ≡ sum_by width list
  total_is [] = refl
  total_is (x ∷ list) = ap (λ (n : ℕ). width x + n) (total_is list) ∙ sym (sum_by-cons width x list)

-- ---- what a disk tells

told_chain : (told : Option Story) (k : Known) → k.first + k.len ≤ k.next → (k.len ≡ 0 → k.first ≡ k.next) →
    ((s : Story) → told ≡ Some s → Rests s k) → IsChainFrom k.first k.next (file_told told k).list
told_chain None k from none rests =
    let next : k.first + (k.next - k.first) ≡ k.next = omega (arith, from) in
    subst (λ (n : ℕ). IsChainFrom k.first n (blanks k.first (sizes_of k.len (k.next - k.first)))) next
    (blanks_chain k.first k.len (k.next - k.first) (omega (arith, from))
    (λ empty. let same = none empty in omega (arith, same)))
told_chain (Some s) k from none rests = (rests s refl).chain

told_len : (told : Option Story) (k : Known) →
    ((s : Story) → told ≡ Some s → Rests s k) → k.len ≡ length (file_told told k).list
told_len None k rests =
    sym (blanks_len k.first (sizes_of k.len (k.next - k.first)) ∙ sizes_len k.len (k.next - k.first))
told_len (Some s) k rests = (rests s refl).count

told_version : (told : Option Story) (k : Known) →
    ((s : Story) → told ≡ Some s → Rests s k) → k.version ≡ (file_told told k).version
told_version None k rests = refl
told_version (Some s) k rests = (rests s refl).version_is

told_slots : (told : Option Story) (k : Known) →
    ((s : Story) → told ≡ Some s → Rests s k) → k.slots ≡ (file_told told k).slots
told_slots None k rests = refl
told_slots (Some s) k rests = (rests s refl).slots_are

told_mark : (told : Option Story) (k : Known) →
    ((s : Story) → told ≡ Some s → Rests s k) → k.mark ≡ (file_told told k).mark.value
told_mark None k rests = refl
told_mark (Some s) k rests = (rests s refl).mark_is

told_file : (told : Option Story) (k : Known) (s : Story) → told ≡ Some s → Rests s k → Ends s (file_told told k)
told_file None k s is rests = absurd (grind (arith, is))
told_file (Some r) k s is rests =
    let same : r ≡ s = cc in
    subst (λ (q : Story). Ends s (file_in q.now.bytes)) (sym same)
    (record { settled = rests.settled; stands = record { sound = rests.sound; is = refl } })

module _ {D : Type 0} (members : disk.Ghosts D) where
  -- as far as a value was written in a cell
  pub moved_is : (old new : D) (at value : ℕ) (moved : List ℕ → SpoolFile) (said : DiskAnswer) →
      Moves members old new at value moved said → HasMoved members old new at value moved said
  moved_is old new at value moved Done is = is.0
  moved_is old new at value moved Failed is = is.0

module _ {D : Type 0} (members : disk.Ghosts D) (v : SpoolView D) where
  abbrev found : SpoolFile
  found = (standing_of members v).file

  abbrev counted : (version slots len used : ℕ) → Count
  counted version slots len used =
      record { version = version; slots = slots; next = v.next; len = len; used = used }

  pub stands_so : v.first + v.len ≤ v.next → (v.len ≡ 0 → v.first ≡ v.next) →
      ((s : Story) → members.told v.disk ≡ Some s → Rests s (known_of v)) → Stands members v (standing_of members v)
  stands_so from none rests =
      let chain = told_chain (members.told v.disk) (known_of v) from none rests in record {
        count = ap (λ (n : ℕ). counted n v.slots v.len (v.next - v.first))
            (told_version (members.told v.disk) (known_of v) rests)
            ∙ ap (λ (n : ℕ). counted found.version n v.len (v.next - v.first))
            (told_slots (members.told v.disk) (known_of v) rests)
            ∙ ap (λ (n : ℕ). counted found.version found.slots n (v.next - v.first))
            (told_len (members.told v.disk) (known_of v) rests)
            ∙ ap (λ (n : ℕ). counted found.version found.slots (length found.list) n)
            (chain_sum v.first v.next found.list chain);
        mark = told_mark (members.told v.disk) (known_of v) rests;
        chain = chain;
        file = λ s told. told_file (members.told v.disk) (known_of v) s told (rests s told);
      }

  -- another mark leaves the numbers
  pub same_chain : (w : SpoolView D) (mark : ℕ) → w ≡ in_hand w.disk (record (known_of v) { mark = mark }) →
      (st : Standing) → Stands members v st → IsChainFrom w.first w.next st.file.list
  same_chain w mark view st stands =
      subst (λ (n : ℕ). IsChainFrom n w.next st.file.list) (sym (ap (λ (x : SpoolView D). x.first) view))
      (subst (λ (n : ℕ). IsChainFrom v.first n st.file.list) (sym (ap (λ (x : SpoolView D). x.next) view)) stands.chain)

  pub reserve_stands : (w : SpoolView D) (base : ℕ) → Reserves members v (Ok (w, base)) → (st : Standing) →
      Stands members v st → Stands members w (reserved st)
  reserve_stands w base done st stands =
      let view = done.2 in record {
        count = ap (λ (x : SpoolView D). count_of x) view ∙ stands.count;
        mark = ap (λ (x : SpoolView D). x.mark) view ∙ ap (λ (n : ℕ). n + 4096) stands.mark;
        chain = same_chain w (v.mark + 4096) view st stands;
        file = λ t told. let old = reserve_told members v w.disk done.0 t told in
            subst (λ (f : SpoolFile). Ends t (with_mark_moved f)) (sym (stands.file old.0 old.1).stands.is)
            (done.0.1.1 old.0 t old.1 told);
      }

  -- at every moment the list stands, with the one mark or the other
  pub rest_way : (st : Standing) → Stands members v st → (s : Story) → members.told v.disk ≡ Some s →
      GoesThrough s (members.told v.disk) (IsMarked st)
  rest_way st stands s told =
      let file = stands.file s told in (
        s,
        told,
        starts s (IsMarked st) (λ image left. inl (subst (λ (bytes : List ℕ). StandsFor bytes st.file)
            (sym (only_now s.now image file.settled left)) file.stands)),
      )

  pub reserve_way : (after : D) (said : DiskAnswer) → MovesMark members v after said → (st : Standing) →
      Stands members v st → (s : Story) → members.told v.disk ≡ Some s →
      GoesThrough s (members.told after) (IsMarked st)
  reserve_way after said done st stands s told =
      let one = (moved_is members v.disk after _ _ _ said done.1).images s told in
      let same : st.file ≡ file_in s.now.bytes = (stands.file s told).stands.is in (
        one.0,
        one.1,
        through_more s one.0 (IsSameOr reserved_in s.now.bytes) (IsMarked st)
            (λ image. ⊎_elim (λ (left : StandsFor image (file_in s.now.bytes)). inl
            (subst (λ (f : SpoolFile). StandsFor image f) (sym same) left))
            (λ (left : StandsFor image (reserved_in s.now.bytes)). inr
            (subst (λ (f : SpoolFile). StandsFor image (with_mark_moved f)) (sym same) left))) one.2,
      )

  pub reserve_failed : (spent : Spent D) → Reserves members v (Err (reserving.Failed spent)) → (st : Standing) →
      Stands members v st → (s : Story) → members.told v.disk ≡ Some s →
      GoesThrough s (members.told spent.disk) (IsMarked st)
  reserve_failed spent failed = reserve_way spent.disk Failed failed
