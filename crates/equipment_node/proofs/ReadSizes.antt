-- That a start reads how many slots each message takes, and that nothing is held back of what a list says.
use Rattle.std.proofs.Common.{◌≡◌, refl, sym, ap, subst, ◌∙◌, inl, inr, ◌⊎◌, arith, ℕ, ◌+◌, ◌-◌, ◌%◌, ◌<◌, ◌≤◌}
use Rattle.std.proofs.Common.{◌==◌, Bool, true, false, List, [], ◌∷◌, ◌++◌, append_assoc, append-nil, length}
use Rattle.std.proofs.Common.{length-append, min, Some}
use Rattle.std.proofs.Common.{None, if◌then◌else◌}
use Rattle.std.proofs.lemmas.Bool.Decides.{nat_tests}
use Rattle.std.proofs.lemmas.List.{map-append}
use Rattle.std.proofs.lemmas.List.Elements.{All-append, All-cons, All-nil}
use Rattle.std.proofs.lemmas.List.Sums.{sum_by-append, sum_by-cons}
use Rattle.std.proofs.lemmas.Nat.{mod_below}
use Rattle.std.proofs.lemmas.Option.{get_or_from_slice_get, slice_get_within}
use Rattle.std.specs.Prelude.{All, map, max, sum}
use Rattle.std.specs.List.{slice_get}
use Rattle.std.specs.Prelude.{Ok, Err}
use Rattle.disk_base.specs.Calls.{DiskCall, read_call}
use Rattle.disk_base.specs.Story.{Story}
use Rattle.disk_base.specs.declared.disk.Disk as disk
use Rattle.disk_base.specs.declared.disk.DiskAnswer.TheVariants.{Done, Failed}
use Rattle.spool_file.specs.Breaks.{slot_stands}
use Rattle.spool_file.specs.File.{file_in, frame_in, slots_in}
use Rattle.spool_file.specs.Run.{IsChainFrom}
use Rattle.spool_file.specs.Sizes.{slots_for}
use Rattle.spool_file.specs.Slot.{Message, slot_in, slot_message, slot_place, width}
use Rattle.spool_file.specs.declared.recovery.Known.{Known}
use Rattle.spool_file.specs.declared.slot.SlotHead.{SlotHead}
use Rattle.spool_file.proofs.Runs.{chain_up, found, some_width}
use Rattle.spool_file.proofs.Sound.{IsFull, width_is}
use Rattle.spool_file.proofs.Wholes.{full_in, sound_kept}
use Rattle.spool_ledger.specs.Ledger.{IsSome}
use Rattle.spool_ledger.proofs.Widths.{widths-last, widths-long}
use Rattle.spool_slots.specs.Calls.{number_place}
use Rattle.spool_slots.specs.Changes.{HasHead, HasLooked, HasSlot, IsInReach, IsListed, Looks}
use Rattle.spool_slots.specs.Spool.{Rests, SpoolView, in_hand, known_of}
use Rattle.spool_slots.specs.declared.states.OldestAnswer.TheVariants as look
use Rattle.spool_works.specs.DiskCalls.{HasFailedIn, HasMade}
use Rattle.spool_works.proofs.Called.{failed-all, failed-behind, made-all, made-same, made-then}
use Rattle.equipment_node.specs.declared.sizes.Unsized.TheVariants as unsized
use Rattle.equipment_node.specs.StartSizes.{AreFirst, HasRead, HasReadSize, ReadsSizes, held_size}
use Rattle.equipment_node.specs.StartSizes.{size_looks}
use Rattle.equipment_node.proofs.HandingBack.{failed-then, kept-still, kept-then}

-- ---- one size

-- a size that fits is held as it is
held-is : (size left behind : ℕ) → 1 ≤ size → size + behind ≤ left → (behind ≡ 0 → size ≡ left)
    → held_size (Some size) left behind ≡ size
held-is size left behind some fits last = go (behind == 0) refl
  where
    go : (b : Bool) → (behind == 0) ≡ b → (if b then left else min (max size 1) (left - behind)) ≡ size
    go true is = sym (last (grind (arith, nat_tests, is)))
    go false is = omega (arith, some, fits)

-- a head of a message that the list has says how many slots it takes
module _ (s : Story) (k : Known) (rests : Rests s k) (some : 1 ≤ k.slots) where
  abbrev bytes : List ℕ
  bytes = s.now.bytes

  abbrev n : ℕ
  n = slots_in bytes

  there : 1 ≤ n
  there = subst (λ (x : ℕ). 1 ≤ x) rests.slots_are some

  full : IsFull (slot_in bytes) n
  full = full_in bytes n (subst (λ (x : ℕ). slot_place x ≤ length bytes) rests.slots_are rests.inside)

  head-width : (head : SlotHead) → IsListed s head → (place : ℕ) (m : Message)
      → slice_get (file_in bytes).list place ≡ Some m → m.number ≡ head.number → slots_for head.len ≡ width m
  head-width head listed place m got same =
      let here : slot_message n (slot_in bytes) (head.number % n) ≡ m =
      ap (λ (x : ℕ). slot_message n (slot_in bytes) (x % n)) (sym same)
      ∙ (found (slot_stands (frame_in bytes).floor (slot_in bytes)) (slot_message n (slot_in bytes)) n _ _
      (sound_kept bytes rests.sound).kept place m got).2 in
      ap (λ (h : SlotHead). slots_for h.len) listed.head_is
      ∙ sym (width_is (slot_in bytes) n full there (head.number % n) (mod_below head.number n there))
      ∙ ap width here

module _ {D : Type 0} (members : disk.Ghosts D) (v w : SpoolView D) (number left behind : ℕ) (some : behind < left)
    (size : ℕ) (reach : IsInReach v number) (next : number + left ≡ v.next) (before into : List ℕ)
    (slots : (1 ≤ v.slots) × (v.slots ≤ 65535)) (within : v.next ≤ v.first + v.slots)
    (rests : (s : Story) → members.told v.disk ≡ Some s → Rests s (known_of v))
  where
    short : size + behind ≤ left → size ≤ 65535
    short room =
        let from = reach.0 in let most = slots.1 in omega (arith, room, next, within, from, most)

    -- it is there
    pub size-found :
        (head : SlotHead) → Looks members v w number before into (look.Found head) → (said : ℕ)
        → said ≡ slots_for head.len → size ≡ held_size (Some said) left behind → 1 ≤ size → size + behind ≤ left
        → HasReadSize members v w number left behind size
    size-found head (looked, within, is, has) said said_is size_is least room = record {
      looked = looked;
      some = least;
      short = short room;
      room = room;
      last = λ none. size_is ∙ all-left none;
      said = λ s told place m got here fits last.
          let listed = is.listed s told in
          let wide =
          said_is ∙ head-width s (known_of v) (rests s told) slots.0 head listed.1 place m got (here ∙ sym listed.0) in
          size_is ∙ ap (λ (x : ℕ). held_size (Some x) left behind) wide
          ∙ held-is (width m) left behind (some_width m) fits last;
    }
      where
        all-left : behind ≡ 0 → held_size (Some said) left behind ≡ left
        all-left none = ap (λ (b : ℕ). held_size (Some said) left b) none

    -- a disk that tells nothing may hold none, and so may no other
    pub size-missed :
        Looks members v w number before into look.Empty → size ≡ held_size None left behind → 1 ≤ size
        → size + behind ≤ left → HasReadSize members v w number left behind size
    size-missed (none, looks) size_is least room = record {
      looked = go looks;
      some = least;
      short = short room;
      room = room;
      last = λ b. size_is ∙ ap (λ (x : ℕ). held_size None left x) b;
      said = λ s told place m got here fits last.
          absurd (lacks (file_in s.now.bytes).list place m (none s told) got here);
    }
      where
        lacks : (list : List Message) (place : ℕ) (m : Message) → All (λ x. x.number ≡ number → ⊥) list
            → slice_get list place ≡ Some m → m.number ≡ number → ⊥
        lacks list place m none got here =
            none place m (slice_get_within list place m got)
            (ap (λ (x : Message). x.number) (get_or_from_slice_get list place m m got) ∙ here)

        go : ((w ≡ v) × (into ≡ before) × ((number < v.first) ⊎ (v.next ≤ number)))
            ⊎ (HasLooked members v w (number % v.slots) Done × IsInReach v number
            × HasSlot members v (number % v.slots) into × (HasHead number into → ⊥))
            → HasLooked members v w (number % v.slots) Done
        go (inl (same, stays, inl out)) = let from = reach.0 in absurd (omega (arith, out, from))
        go (inl (same, stays, inr out)) = let to = reach.1 in absurd (omega (arith, out, to))
        go (inr is) = is.0

-- ---- the looks at some messages, one behind the other

pub looks-then :
    (slots number : ℕ) (xs ys : List ℕ)
    → size_looks slots number (xs ++ ys) ≡ size_looks slots number xs ++ size_looks slots (number + sum xs) ys
looks-then slots number [] ys = ap (λ (n : ℕ). size_looks slots n ys) (omega arith)
looks-then slots number (x ∷ xs) ys =
    ap (λ (calls : List DiskCall). read_call (number_place slots number) 4096 Done ∷ calls)
    (looks-then slots (number + x) xs ys
    ∙ ap (λ (n : ℕ). size_looks slots (number + x) xs ++ size_looks slots n ys)
    (let more = sum_by-cons (λ (n : ℕ). n) x xs in omega (arith, more)))

-- the size of the last one decides nothing
looks-last :
    (slots number : ℕ) (xs : List ℕ) (x : ℕ)
    → size_looks slots number (xs ++ x ∷ [])
    ≡ size_looks slots number xs ++ read_call (number_place slots (number + sum xs)) 4096 Done ∷ []
looks-last slots number xs x = looks-then slots number xs (x ∷ [])

-- so what is missed is a look of the list's
pub looks-front :
    (slots number : ℕ) (xs : List ℕ) (x : ℕ) (ys : List ℕ)
    → size_looks slots number (xs ++ x ∷ ys)
    ≡ size_looks slots number (xs ++ 1 ∷ []) ++ size_looks slots (number + sum xs + x) ys
looks-front slots number xs x ys =
    looks-then slots number xs (x ∷ ys)
    ∙ sym
    (append_assoc (size_looks slots number xs) (read_call (number_place slots (number + sum xs)) 4096 Done ∷ [])
    (size_looks slots (number + sum xs + x) ys))
    ∙ ap (λ (calls : List DiskCall). calls ++ size_looks slots (number + sum xs + x) ys)
    (sym (looks-last slots number xs 1))

-- ---- some sizes were read

-- a list goes on behind the messages of these sizes, with this number
pub record IsAtMessage (list : List Message) (number next : ℕ) (sizes : List ℕ) : Type 0 where
  pub done : List Message
  pub rest : List Message
  pub whole : list ≡ done ++ rest
  pub chain : IsChainFrom number next rest
  pub are : sizes ≡ map width done

pub record IsUnderWay {D : Type 0} (members : disk.Ghosts D) (v w : SpoolView D) (number left at : ℕ) (sizes : List ℕ) :
    Type 0 where
  pub read : HasRead members v w sizes
  pub each : All IsSome sizes
  pub many : length sizes ≡ at
  pub place : number ≡ v.first + sum sizes
  pub next : number + left ≡ v.next
  pub room : v.len ≤ at + left
  pub last : v.len ≤ at → left ≡ 0
  pub list : (s : Story) → members.told v.disk ≡ Some s → IsAtMessage (file_in s.now.bytes).list number v.next sizes

got-behind : (xs : List Message) (m : Message) (ys : List Message) → slice_get (xs ++ m ∷ ys) (length xs) ≡ Some m
got-behind [] m ys = refl
got-behind (x ∷ xs) m ys = got-behind xs m ys

module _ {D : Type 0} (members : disk.Ghosts D) (v : SpoolView D) where
  -- so far they are the first ones
  first-of : (w : SpoolView D) (number left at : ℕ) (sizes : List ℕ) → IsUnderWay members v w number left at sizes
      → AreFirst members v sizes
  first-of w number left at sizes is s told =
      let here = is.list s told in (
        map width here.rest,
        ap (map width) here.whole ∙ map-append width here.done here.rest
            ∙ ap (λ (ns : List ℕ). ns ++ map width here.rest) (sym here.are),
      )

module _ {D : Type 0} (members : disk.Ghosts D) (v : SpoolView D)
    (rests : (s : Story) → members.told v.disk ≡ Some s → Rests s (known_of v))
  where
    -- none yet
    pub none-read :
        (left : ℕ) → v.first + v.len ≤ v.next → (v.len ≡ 0 → v.first ≡ v.next) → left ≡ v.next - v.first
        → IsUnderWay members v v v.first left 0 []
    none-read left up none left_is = record {
      read = record {
        same = refl;
        told = refl;
        made = made-same members v.disk v.disk refl;
        kept = kept-still members v.disk;
      };
      each = All-nil IsSome;
      many = refl;
      place = omega arith;
      next = omega (arith, up, left_is);
      room = omega (arith, up, left_is);
      last = λ no. let same = none (omega (arith, no)) in omega (arith, same, left_is);
      list = λ s told. record {
        done = [];
        rest = (file_in s.now.bytes).list;
        whole = refl;
        chain = (rests s told).chain;
        are = refl;
      };
    }

    module _ (w : SpoolView D) (number left at : ℕ) (sizes : List ℕ)
        (is : IsUnderWay members v w number left at sizes) (less : at < v.len)
      where
        pub in-reach : IsInReach w number
        in-reach =
            subst (λ (x : SpoolView D). IsInReach x number) (sym is.read.same)
            (let place = is.place in
            let next = is.next in
            let room = is.room in
            (omega (arith, place), omega (arith, next, room, less)))

        pub left-over : (behind : ℕ) → behind ≡ v.len - 1 - at → behind < left
        left-over behind same = let room = is.room in omega (arith, room, less, same)

        pub still-rests : (s : Story) → members.told w.disk ≡ Some s → Rests s (known_of w)
        still-rests s told =
            subst (λ (k : Known). Rests s k) (sym (ap (λ (x : SpoolView D). known_of x) is.read.same))
            (rests s (sym is.read.told ∙ told))

        ends : (others : List Message) → length others ≡ 0 → (m : Message)
            → IsChainFrom (number + width m) v.next others → width m ≡ left
        ends [] none m chain = let next = is.next in omega (arith, next, chain)
        ends (x ∷ others) none m chain = absurd (omega (arith, none))

        look-place : read_call (number_place v.slots (v.first + sum sizes)) 4096 Done ∷ []
            ≡ read_call (number_place w.slots number) 4096 Done ∷ []
        look-place =
            ap (λ (n : ℕ). read_call (number_place v.slots n) 4096 Done ∷ []) (sym is.place)
            ∙ ap (λ (n : ℕ). read_call (number_place n number) 4096 Done ∷ [])
            (sym (ap (λ (x : SpoolView D). x.slots) is.read.same))

        here-looks : (size : ℕ)
            → size_looks v.slots v.first sizes ++ read_call (number_place w.slots number) 4096 Done ∷ []
            ≡ size_looks v.slots v.first (sizes ++ size ∷ [])
        here-looks size =
            ap (λ (calls : List DiskCall). size_looks v.slots v.first sizes ++ calls) (sym look-place)
            ∙ sym (looks-last v.slots v.first sizes size)

        -- it failed
        pub one-failed :
            (u : SpoolView D) → HasLooked members w u (number % w.slots) Failed
            → ReadsSizes members v u (Err unsized.Failed)
        one-failed u looked = (
          sizes,
          record {
            few = let many = is.many in omega (arith, many, less);
            first = first-of members v w number left at sizes is;
            told = looked.told ∙ is.read.told;
            failed =
                subst (λ (calls : List DiskCall). HasFailedIn members v.disk u.disk calls) (here-looks 1)
                (failed-behind members v.disk w.disk u.disk (size_looks v.slots v.first sizes)
                (read_call (number_place w.slots number) 4096 Done ∷ []) is.read.made
                (failed-all members w.disk u.disk (read_call (number_place w.slots number) 4096 Done ∷ [])
                looked.made.calls));
            faulted =
                failed-then members v.disk w.disk u.disk is.read.kept
                (record { same_disk = looked.made.same_disk; rose = looked.made.calls.cause.rose });
          },
        )

        module _ (u : SpoolView D) (size behind : ℕ) (behind_is : behind ≡ v.len - 1 - at)
            (one : HasReadSize members w u number left behind size)
          where
            read-then : HasRead members v u (sizes ++ size ∷ [])
            read-then = record {
              same = one.looked.same ∙ ap (λ (x : SpoolView D). in_hand u.disk (known_of x)) is.read.same;
              told = one.looked.told ∙ is.read.told;
              made =
                  subst (λ (calls : List DiskCall). HasMade members v.disk u.disk calls) (here-looks size)
                  (made-then members v.disk w.disk u.disk (size_looks v.slots v.first sizes)
                  (read_call (number_place w.slots number) 4096 Done ∷ []) is.read.made
                  (made-all members w.disk u.disk (read_call (number_place w.slots number) 4096 Done ∷ [])
                  one.looked.made.calls));
              kept =
                  kept-then members v.disk w.disk u.disk is.read.kept
                  (record { same_disk = one.looked.made.same_disk; count = one.looked.made.calls.cause.same });
            }

            summed : sum (sizes ++ size ∷ []) ≡ sum sizes + size
            summed =
                let both = sum_by-append (λ (n : ℕ). n) sizes (size ∷ []) in
                let more = sum_by-cons (λ (n : ℕ). n) size [] in
                omega (arith, both, more)

            -- one more
            pub one-read : IsUnderWay members v u (number + size) (left - size) (at + 1) (sizes ++ size ∷ [])
            one-read = record {
              read = read-then;
              each = All-append IsSome sizes (size ∷ []) is.each (All-cons IsSome size [] one.some (All-nil IsSome));
              many = let long = length-append sizes (size ∷ []) in let many = is.many in omega (arith, long, many);
              place = let place = is.place in omega (arith, place, summed);
              next = let next = is.next in let room = one.room in omega (arith, next, room);
              room = let room = one.room in omega (arith, room, less, behind_is);
              last = λ end. let all = one.last (omega (arith, end, less, behind_is)) in omega (arith, all);
              list = λ s told. go s told (is.list s told);
            }
              where
                go : (s : Story) → members.told v.disk ≡ Some s
                    → IsAtMessage (file_in s.now.bytes).list number v.next sizes
                    → IsAtMessage (file_in s.now.bytes).list (number + size) v.next (sizes ++ size ∷ [])
                go s told here = by_rest here.rest here.whole here.chain
                  where
                    long-done : length here.done ≡ at
                    long-done =
                        sym (widths-long here.done) ∙ sym (ap (length {A = ℕ}) here.are) ∙ is.many

                    by_rest : (rest : List Message) → (file_in s.now.bytes).list ≡ here.done ++ rest
                        → IsChainFrom number v.next rest
                        → IsAtMessage (file_in s.now.bytes).list (number + size) v.next (sizes ++ size ∷ [])
                    by_rest [] whole chain =
                        let count = (rests s told).count in
                        let long = ap (length {A = Message}) whole ∙ length-append here.done [] in
                        absurd (omega (arith, count, long, long-done, less))
                    by_rest (m ∷ others) whole chain =
                        let count = (rests s told).count in
                        let long = ap (length {A = Message}) whole ∙ length-append here.done (m ∷ others) in
                        let up = chain_up (number + width m) v.next others chain.1 in
                        let next = is.next in
                        let others_are : behind ≡ length others = omega (arith, count, long, long-done, behind_is) in
                        let size_is : size ≡ width m =
                        one.said s (is.read.told ∙ told) (length here.done) m
                        (ap (λ (all : List Message). slice_get all (length here.done)) whole
                        ∙ got-behind here.done m others)
                        chain.0 (omega (arith, up, next, others_are))
                        (λ none. ends others (omega (arith, none, others_are)) m chain.1) in
                        record {
                          done = here.done ++ m ∷ [];
                          rest = others;
                          whole = whole ∙ sym (append_assoc here.done (m ∷ []) others);
                          chain = subst (λ (n : ℕ). IsChainFrom (number + n) v.next others) (sym size_is) chain.1;
                          are =
                              ap (λ (ns : List ℕ). ns ++ size ∷ []) here.are
                              ∙ ap (λ (n : ℕ). map width here.done ++ n ∷ []) size_is
                              ∙ sym (widths-last here.done m);
                        }

            -- memory is wanting for it
            pub one-lacks : ReadsSizes members v u (Err unsized.NoMemory)
            one-lacks =
                (sizes ++ size ∷ [], first-of members v u (number + size) (left - size) (at + 1) _ one-read, read-then)

    -- all were read
    pub all-read :
        (w : SpoolView D) (number left at : ℕ) (sizes : List ℕ) → IsUnderWay members v w number left at sizes
        → at ≡ v.len → ReadsSizes members v w (Ok sizes)
    all-read w number left at sizes is all = (
      is.read,
      record {
        each = is.each;
        many = is.many ∙ all;
        used =
            let none = is.last (omega (arith, all)) in
            let place = is.place in
            let next = is.next in
            omega (arith, none, place, next);
        are = λ s told. go s told (is.list s told);
      },
    )
      where
        go : (s : Story) → members.told v.disk ≡ Some s → IsAtMessage (file_in s.now.bytes).list number v.next sizes
            → map width (file_in s.now.bytes).list ≡ sizes
        go s told here = by_rest here.rest here.whole
          where
            by_rest : (rest : List Message) → (file_in s.now.bytes).list ≡ here.done ++ rest
                → map width (file_in s.now.bytes).list ≡ sizes
            by_rest [] whole = ap (map width) (whole ∙ append-nil here.done) ∙ sym here.are
            by_rest (m ∷ others) whole =
                let count = (rests s told).count in
                let long = ap (length {A = Message}) whole ∙ length-append here.done (m ∷ others) in
                let done : length here.done ≡ at =
                sym (widths-long here.done) ∙ sym (ap (length {A = ℕ}) here.are) ∙ is.many in
                absurd (omega (arith, count, long, done, all))
