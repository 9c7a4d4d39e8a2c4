-- What a loss of power leaves of the list is what a start may find of it, at whichever call of a work it comes.
use Rattle.std.proofs.Common.{◌≡◌, refl, sym, ap, subst, ◌∙◌, inl, inr, ◌⊎◌, arith, ◌+◌, ◌^◌, ◌≤◌, Bool, true, false, ℕ, List, []}
use Rattle.std.proofs.Common.{◌∷◌, ◌++◌, append-nil, append_assoc, length, map, Option, Some, None, if◌then◌else◌}
use Rattle.std.specs.Option.{option_map_or}
use Rattle.std.specs.Prelude.{sum}
use Rattle.disk_base.specs.declared.cut.CutChoice.{CutChoice}
use Rattle.gem_spool.specs.Updates.{Left}
use Rattle.message_flow.specs.declared.message.Message.{Message as Primary}
use Rattle.gem_spool.specs.Spool.{room_in}
use Rattle.gem_spool.specs.Standing.{Standing, count_in}
use Rattle.gem_spool.specs.Works.{AreDue, AreSized, IsDue, IsSized, count_after, floor_above, list_after, lists_after}
use Rattle.gem_spool.specs.Works.{next_after, reserved, standing_after, standings_after}
use Rattle.gem_spool.specs.declared.count.Count.{Count}
use Rattle.gem_spool.specs.declared.spool.Room.TheVariants as room
use Rattle.gem_spool.specs.declared.works.Work.{Work}
use Rattle.gem_spool.specs.declared.works.Work.TheVariants as work
use Rattle.gem_spool.proofs.Doing.{count_keeps}
use Rattle.message_end.specs.Core.{Went, step_in}
use Rattle.message_end.specs.Core.Went.{Goes, Spent}
use Rattle.message_end.specs.Course.{noted_behind}
use Rattle.setup_store.specs.Entries.{Entry, bytes_of, has_room, is_kept}
use Rattle.spool_law.specs.Shelf.{IsFoundOf, Shelf, shelf_of}
use Rattle.spool_file.specs.File.{SpoolFile}
use Rattle.spool_file.specs.Run.{IsChainFrom}
use Rattle.spool_file.specs.Sizes.{is_too_long, slots_for}
use Rattle.spool_file.specs.Slot.{Message, width}
use Rattle.spool_file.proofs.Runs.{chain_last}
use Rattle.spool_slots.specs.Files.{with_gates}
use Rattle.trace_log.specs.Log.{Happening}
use Rattle.trace_log.specs.Names.{Spooled}
use Rattle.spool_works.specs.DiskWorks.{DiskWork, behind_change, set_up, standing_behind, up_to_change}
use Rattle.tool_step.specs.Disk.{keep_works, read_works, takes_up}
use Rattle.spool_works.specs.DiskWorks.DiskWork.{Change, Keep, ReadOldest, Reserve}
use Rattle.tool_step.specs.Equipment.{EquipmentView}
use Rattle.spool_works.specs.Found.{found_in}
use Rattle.spool_works.proofs.EachFront.{split-change}
use Rattle.tool_step.specs.Setup.{to_keep}
use Rattle.tool_step.proofs.LossCalls.{AtEach}
use Rattle.tool_reports.proofs.QuietNotes.{one-behind}
use Rattle.spool_works.proofs.EachLoss.{each-work}
use Rattle.spool_works.proofs.LossCounts.{Each}
use Rattle.tool_spool.proofs.Chained.{chain-rest}
use Rattle.message_end.proofs.Growing.{behind-both}
use Rattle.tool_law.proofs.WorkLines.{ComesLater, GoesOn, Walks, comes-later, goes-on, has_change}
use Rattle.spool_works.specs.WorkLosses.{calls_at, storing_at}
use Rattle.spool_works.proofs.FoundLosses.{Leaves, each-call}
use Rattle.spool_ledger.specs.Sizes.{oldest_of}
use Rattle.spool_ledger.proofs.Keeping.{sum-last, sum-parted}
use Rattle.spool_ledger.proofs.Limits.{IsWithin, fits_by}
use Rattle.spool_ledger.proofs.Widths.{used-is, widths-last, widths-rest}

-- ---- numbers and room

-- the numbers are a chain up to the next one, and there are so many slots, of which the messages take no more; the
-- floor has the same bound as the numbers
pub record StandsWell (slots : ℕ) (st : Standing) : Type 0 where
  pub first : ℕ
  pub chain : IsChainFrom first st.next st.file.list
  pub room : sum (map width st.file.list) ≤ slots
  pub bound : st.next ≤ 2 ^ 63 + 65535
  pub floor : st.file.floor.value ≤ 2 ^ 63 + 65535
  pub slots_are : st.file.slots ≡ slots

-- so it is of a file, whatever comes behind its numbers
pub record IsWell (slots : ℕ) (file : SpoolFile) : Type 0 where
  pub first : ℕ
  pub next : ℕ
  pub chain : IsChainFrom first next file.list
  pub room : sum (map width file.list) ≤ slots
  pub bound : next ≤ 2 ^ 63 + 65535
  pub floor : file.floor.value ≤ 2 ^ 63 + 65535
  pub slots_are : file.slots ≡ slots

module _ (slots : ℕ) where
  file-well : (st : Standing) → StandsWell slots st → IsWell slots st.file
  file-well st is = record {
    first = is.first;
    next = st.next;
    chain = is.chain;
    room = is.room;
    bound = is.bound;
    floor = is.floor;
    slots_are = is.slots_are;
  }

  after-put :
      (st : Standing) (stream function : ℕ) (body : List ℕ) → room_in (count_in st) (length body) ≡ room.Fits
      → StandsWell slots st → StandsWell slots (standing_after st (work.Put stream function body))
  after-put st stream function body fits is = record {
    first = is.first;
    chain = chain_last is.first st.next st.file.list one is.chain refl;
    room =
        let used = used-is st.file.list in
        let more = ap (λ (ns : List ℕ). sum ns) (widths-last st.file.list one) in
        let last = sum-last (map width st.file.list) (width one) in
        let free = within.1 in
        let all = is.slots_are in
        omega (arith, used, more, last, free, all);
    bound = let number = within.0.number in omega (arith, number);
    floor = is.floor;
    slots_are = is.slots_are;
  }
    where
      one : Message
      one = record { number = st.next; stream = stream; function = function; body = body }

      within : IsWithin (is_too_long st.file.version st.file.slots (length body)) (slots_for (length body))
          (count_in st)
          × ((count_in st).used + slots_for (length body) ≤ st.file.slots)
      within =
          fits_by (is_too_long st.file.version st.file.slots (length body)) (slots_for (length body)) (count_in st) fits

  after-drop : (st : Standing) (freed : ℕ) → StandsWell slots st
      → StandsWell slots (standing_after st (work.DropOldest freed))
  after-drop st freed is = record {
    first = is.first + oldest_of (map width st.file.list);
    chain = chain-rest is.first st.next st.file.list is.chain;
    room =
        let rest = ap (λ (ns : List ℕ). sum ns) (widths-rest st.file.list) in
        let parted = sum-parted (map width st.file.list) in
        let most = is.room in
        omega (arith, rest, parted, most);
    bound = is.bound;
    floor = is.floor;
    slots_are = is.slots_are;
  }

  after-purge : (st : Standing) → StandsWell slots st → StandsWell slots (standing_after st work.Purge)
  after-purge st is = record {
    first = st.next;
    chain = refl;
    room = omega arith;
    bound = is.bound;
    floor = above st.file.list;
    slots_are = is.slots_are;
  }
    where
      above : (list : List Message) → (floor_above st.next list st.file.floor).value ≤ 2 ^ 63 + 65535
      above [] = is.floor
      above (message ∷ list) = is.bound

  pub after-reserve : (st : Standing) → StandsWell slots st → StandsWell slots (reserved st)
  after-reserve st is = record {
    first = is.first;
    chain = is.chain;
    room = is.room;
    bound = is.bound;
    floor = is.floor;
    slots_are = is.slots_are;
  }

  -- and a setup is kept
  after-keep : (bytes : List ℕ) (st : Standing) → StandsWell slots st → StandsWell slots (set_up bytes st)
  after-keep bytes st is = record {
    first = is.first;
    chain = is.chain;
    room = is.room;
    bound = is.bound;
    floor = is.floor;
    slots_are = is.slots_are;
  }

  after-well :
      (st : Standing) (one : Work) → IsDue (count_in st) one → StandsWell slots st
      → StandsWell slots (standing_after st one)
  after-well st (work.Put stream function body) due is = after-put st stream function body due.2 is
  after-well st (work.DropOldest freed) due is = after-drop st freed is
  after-well st work.Purge due is = after-purge st is

  -- one more work of those that are due
  pub due-behind :
      (st : Standing) (one : Work) (works : List Work) → IsSized st.file.list one
      → AreDue (count_after (count_in st) one) works → AreDue (count_in (standing_after st one)) works
  due-behind st one works sized due = subst (λ (c : Count). AreDue c works) (count_keeps st one sized) due

  pub all-well : (works : List Work) (st : Standing) → AreDue (count_in st) works
      → AreSized st.next st.file.list works → StandsWell slots st → StandsWell slots (standings_after st works)
  all-well [] st due sized is = is
  all-well (one ∷ works) st due sized is =
      all-well works (standing_after st one) (due-behind st one works sized.0 due.1) sized.1
      (after-well st one due.0 is)

  abbrev WellLeft : Left → Type 0
  WellLeft left = (choice : CutChoice) → IsWell slots (left choice)

  -- whichever gates are open
  gates-well : (st : Standing) (gates : List Bool) → StandsWell slots st → IsWell slots (with_gates gates st.file)
  gates-well st gates is =
      let well = file-well st is in
      record {
        first = well.first;
        next = well.next;
        chain = well.chain;
        room = well.room;
        bound = well.bound;
        floor = well.floor;
        slots_are = well.slots_are;
      }

  call-well :
      (st : Standing) (one : DiskWork) → StandsWell slots st → StandsWell slots (standing_behind st one)
      → Each WellLeft (calls_at st one)
  call-well st one is after =
      each-work (IsWell slots) st one (file-well st is) (λ gates. gates-well st gates is)
      (file-well (standing_behind st one) after)

  -- ---- what is found behind what was noted

  -- what is left is what a start may find then
  pub record IsFoundAt (shelf : Shelf) (file : SpoolFile) : Type 0 where
    pub found : IsFoundOf shelf.stands shelf.storing shelf.leaving (found_in file.list)
    pub well : IsWell slots file

  abbrev FoundIn : Shelf → Left → Type 0
  FoundIn shelf left = (choice : CutChoice) → IsFoundAt shelf (left choice)

  each-found :
      (stood : List Message) (storing : Option (ℕ × Spooled)) (shelf : Shelf) (calls : List Left)
      → shelf.stands ≡ found_in stood → shelf.storing ≡ storing → Each (Leaves stood storing shelf.leaving) calls
      → Each WellLeft calls → Each (FoundIn shelf) calls
  each-found stood storing shelf [] stands stores found well = tt
  each-found stood storing shelf (left ∷ calls) stands stores found well = (
    λ choice. record {
      found =
          subst (λ (all : List (ℕ × Spooled)). IsFoundOf all shelf.storing shelf.leaving (found_in (left choice).list))
          (sym stands)
          (subst
          (λ (one : Option (ℕ × Spooled)).
          IsFoundOf (found_in stood) one shelf.leaving (found_in (left choice).list)) (sym stores)
          (found.0 choice));
      well = well.0 choice;
    },
    each-found stood storing shelf calls stands stores found.1 well.1,
  )

  -- at rest all is found
  rest-found : (shelf : Shelf) (st : Standing) → shelf.stands ≡ found_in st.file.list → StandsWell slots st
      → IsFoundAt shelf st.file
  rest-found shelf st stands is = record {
    found = record {
      missing = 0;
      stored = false;
      at_most = omega arith;
      is = sym stands ∙ sym (append-nil shelf.stands);
    };
    well = file-well st is;
  }

  module _ (base : List Happening) where
    -- up to a front behind what was noted before
    abbrev pub FoundAt : List Happening → Left → Type 0
    FoundAt front left = (choice : CutChoice) → IsFoundAt (shelf_of (noted_behind front base)) (left choice)

    -- of a step that goes on
    abbrev pub WhereGoes : Went EquipmentView Happening → Type 0 → Type 0
    WhereGoes (Goes step) P = P
    WhereGoes (Spent step) P = Unit {0}

    pub where-as : (went : Went EquipmentView Happening) (P Q : Type 0) → (P → Q) → WhereGoes went P → WhereGoes went Q
    where-as (Goes step) P Q more is = more is
    where-as (Spent step) P Q more is = tt

    read-found :
        (went : Went EquipmentView Happening) (st : Standing) (front lines : List Happening)
        → WhereGoes went ((shelf_of (noted_behind (front ++ lines) base)).stands ≡ found_in st.file.list)
        → StandsWell slots st → AtEach FoundAt st front (read_works went) lines
    read-found (Goes step) st front lines stands is = go (takes_up step.next.node.own)
      where
        shelf : Shelf
        shelf = shelf_of (noted_behind (front ++ lines) base)

        size : ℕ
        size = oldest_of step.next.node.own.ledger.sizes

        go : (takes : Bool) → AtEach FoundAt st front (if takes then ReadOldest size ∷ [] else []) lines
        go true =
            let same = rest-found shelf st stands is in (
              each-work (IsFoundAt shelf) st (ReadOldest size) same
                  (λ gates. record { found = same.found; well = gates-well st gates is }) same,
              tt,
            )
        go false = tt
    read-found (Spent step) st front lines stands is = tt

    -- ---- where a change of the setup is kept

    -- with this primary, which is one of those that are kept, this list is kept, for which there is room
    pub record IsKeptWith (went : Went EquipmentView Happening) (message : Primary) : Type 0 where
      pub list : List Entry
      pub setup : (step_in went).next.node.own.setup ≡ Some list
      pub works : keep_works went ≡ Keep (bytes_of list) ∷ []
      pub room : has_room (bytes_of list) ≡ true
      pub kind : is_kept message.stream message.function ≡ true

    -- its two lines stand behind those of the spool; where there are none, nothing is kept
    abbrev pub IsTail : Went EquipmentView Happening → List Happening → Type 0
    IsTail went tail =
        ((tail ≡ []) × (keep_works went ≡ []))
        ⊎ ((message : Primary) × (tail ≡ Happening.Keeping message ∷ Happening.Kept message ∷ [])
        × IsKeptWith went message)

    keep-found :
        (went : Went EquipmentView Happening) (st : Standing) (front lines tail : List Happening)
        → has_change lines ≡ false → IsTail went tail
        → WhereGoes went
        ((shelf_of (noted_behind (front ++ (lines ++ tail)) base)).stands ≡ found_in st.file.list)
        → StandsWell slots st
        → AtEach FoundAt st front (keep_works went ++ read_works went) (lines ++ tail)
    keep-found went st front lines tail none (inl (no_tail, no_works)) stands is =
        subst
        (λ (works : List DiskWork). AtEach FoundAt st front (works ++ read_works went) (lines ++ tail))
        (sym no_works) (read-found went st front (lines ++ tail) stands is)
    keep-found (Spent step) st front lines tail none (inr kept) stands is = tt
    keep-found (Goes step) st front lines tail none (inr (message, is_tail, kept)) stands is =
        subst
        (λ (t : List Happening).
        AtEach FoundAt st front (keep_works (Goes step) ++ read_works (Goes step)) (lines ++ t)) (sym is_tail)
        (go (to_keep step.next.node.own))
      where
        two : List Happening
        two = Happening.Keeping message ∷ Happening.Kept message ∷ []

        all : List Happening
        all = lines ++ two

        upto : List Happening
        upto = front ++ up_to_change all

        later : ComesLater lines two
        later = comes-later lines two none

        whole : front ++ all ≡ upto ++ behind_change all
        whole =
            ap (λ (ns : List Happening). front ++ ns) (split-change all)
            ∙ sym (append_assoc front (up_to_change all) (behind_change all))

        ended : (shelf_of (noted_behind (upto ++ behind_change all) base)).stands ≡ found_in st.file.list
        ended =
            ap (λ (ns : List Happening). (shelf_of (noted_behind ns base)).stands) (sym whole)
            ∙ ap (λ (t : List Happening). (shelf_of (noted_behind (front ++ (lines ++ t)) base)).stands) (sym is_tail)
            ∙ stands

        -- the last line says nothing of the list
        stood : (shelf_of (noted_behind upto base)).stands ≡ found_in st.file.list
        stood =
            ap (λ (ns : List Happening). (shelf_of ns).stands) (sym (one-behind upto (Happening.Kept message) base))
            ∙ ap (λ (ns : List Happening). (shelf_of (noted_behind (upto ++ ns) base)).stands) (sym later.2)
            ∙ ended

        go : (kept : Option (List ℕ))
            → AtEach FoundAt st front
            (option_map_or (λ (bytes : List ℕ). Keep bytes ∷ []) kept [] ++ read_works (Goes step)) all
        go None =
            read-found (Goes step) st front all
            (ap (λ (ns : List Happening). (shelf_of (noted_behind ns base)).stands) whole ∙ ended) is
        go (Some bytes) =
            let same = rest-found (shelf_of (noted_behind upto base)) st stood is in
            let more =
            rest-found (shelf_of (noted_behind upto base)) (set_up bytes st) stood (after-keep bytes st is) in (
              each-work (IsFoundAt (shelf_of (noted_behind upto base))) st (Keep bytes) same
                  (λ gates. record { found = same.found; well = gates-well st gates is }) more,
              read-found (Goes step) (set_up bytes st) upto (behind_change all) ended (after-keep bytes st is),
            )

    pub works-found :
        (works : List Work) (went : Went EquipmentView Happening) (st : Standing) (front lines tail : List Happening)
        → AreDue (count_in st) works → AreSized st.next st.file.list works → StandsWell slots st
        → Walks st.next st.file.list (noted_behind front base) works lines → IsTail went tail
        → WhereGoes went
        ((shelf_of (noted_behind (front ++ (lines ++ tail)) base)).stands
        ≡ found_in (lists_after st.next st.file.list works))
        → AtEach FoundAt st front (map Change works ++ keep_works went ++ read_works went) (lines ++ tail)
    works-found [] went st front lines tail due sized is walks is_tail stands =
        keep-found went st front lines tail walks is_tail stands is
    works-found (one ∷ works) went st front lines tail due sized is walks is_tail stands =
        subst
        (λ (upto : List Happening).
        Each (FoundAt (front ++ upto)) (calls_at st (Change one))
        × AtEach FoundAt (standing_after st one) (front ++ upto) rest (behind_change (lines ++ tail)))
        (sym on.1)
        (subst
        (λ (behind : List Happening).
        Each (FoundAt (front ++ up_to_change lines)) (calls_at st (Change one))
        × AtEach FoundAt (standing_after st one) (front ++ up_to_change lines) rest behind)
        (sym on.2) (
          subst (λ (ns : List Happening). Each (FoundIn (shelf_of ns)) (calls_at st (Change one))) (sym here)
              (each-found st.file.list (storing_at st.next (Change one)) shelf (calls_at st (Change one))
              walks.1.stands walks.1.storing (each-call st (Change one) shelf.leaving walks.1.leaving)
              (call-well st (Change one) is (after-well st one due.0 is))),
          works-found works went (standing_after st one) (front ++ up_to_change lines) (behind_change lines) tail
              (due-behind st one works sized.0 due.1) sized.1
              (after-well st one due.0 is)
              (subst
              (λ (ns : List Happening).
              Walks (next_after st.next one) (list_after st.next st.file.list one) ns works (behind_change lines))
              (sym here)
              walks.2) is_tail
              (where-as went _ _ (λ same.
              ap (λ (ns : List Happening). (shelf_of (noted_behind ns base)).stands) (sym whole) ∙ same)
              stands),
        ))
      where
        rest : List DiskWork
        rest = map Change works ++ keep_works went ++ read_works went

        on : GoesOn lines tail
        on = goes-on lines tail walks.0

        shelf : Shelf
        shelf = shelf_of (noted_behind (up_to_change lines) (noted_behind front base))

        here : noted_behind (front ++ up_to_change lines) base
            ≡ noted_behind (up_to_change lines) (noted_behind front base)
        here = behind-both front (up_to_change lines) base

        whole : front ++ (lines ++ tail) ≡ (front ++ up_to_change lines) ++ (behind_change lines ++ tail)
        whole =
            ap (λ (ns : List Happening). front ++ (ns ++ tail)) (split-change lines)
            ∙ ap (λ (ns : List Happening). front ++ ns)
            (append_assoc (up_to_change lines) (behind_change lines) tail)
            ∙ sym (append_assoc front (up_to_change lines) (behind_change lines ++ tail))

    -- where system bytes are reserved first
    pub reserve-found :
        (st : Standing) (works : List DiskWork) (lines : List Happening)
        → (shelf_of base).stands ≡ found_in st.file.list → StandsWell slots st
        → AtEach FoundAt (standing_behind st Reserve) [] works lines → AtEach FoundAt st [] (Reserve ∷ works) lines
    reserve-found st works lines stands is rest =
        let same = rest-found (shelf_of base) st stands is in
        let more = rest-found (shelf_of base) (reserved st) stands (after-reserve st is) in (
          each-work (IsFoundAt (shelf_of base)) st Reserve same
              (λ gates. record { found = same.found; well = gates-well st gates is }) more,
          rest,
        )
