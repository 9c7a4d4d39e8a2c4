-- How the journal in hand stands behind a reserve and behind a put, and what its disk holds.
use Rattle.std.proofs.Common.{◌≡◌, refl, sym, ap, subst, ◌∙◌, inl, inr, arith, ◌+◌, ◌-◌, ◌^◌, ◌<◌, ◌≤◌, min, nat_lt, Bool, true, false, ℕ, List, [], ◌∷◌, ◌++◌, Option, Some, if◌then◌else◌}
use Rattle.std.proofs.lemmas.Bool.Decides.{nat_tests}
use Rattle.std.proofs.lemmas.List.Sums.{sum_by-append, sum_by-cons}
use Rattle.std.specs.List.{sum_by}
use Rattle.std.specs.Prelude.{Ok}
use Rattle.disk_base.specs.Story.{Story}
use Rattle.disk_base.specs.declared.disk.Disk as disk
use Rattle.disk_base.proofs.Moments.{only_now}
use Rattle.gem_spool.specs.declared.count.Count.{Count}
use Rattle.gem_spool.specs.declared.spool.GemSpool.{GemSpool}
use Rattle.gem_spool.specs.Standing.{Standing, Stands, file_told, standing_of}
use Rattle.gem_spool.specs.Works.{HasCarried, standing_after}
use Rattle.host_journal.specs.Fitting.{fit_in}
use Rattle.host_node.specs.Calls.{refilled}
use Rattle.host_node.specs.Host.{HostOwn, Kind}
use Rattle.message_end.specs.Core.{at_first, with_numbers}
use Rattle.message_end.specs.Core.Went.{Goes, Spent}
use Rattle.message_end.specs.Parts.{Node}
use Rattle.spool_file.specs.Area.{first_of}
use Rattle.spool_file.specs.File.{SpoolFile, StandsFor}
use Rattle.spool_file.specs.Slot.{Message, width}
use Rattle.spool_law.specs.Journal.{entry_of}
use Rattle.spool_slots.specs.Spool.{SpoolView, known_of}
use Rattle.spool_slots.specs.declared.states.Spent.{Spent as Device}
use Rattle.trace_log.specs.Names.{Record}
use Rattle.transact.specs.Numbers.{NumbersView}
use Rattle.std.specs.Prelude.{length}
use Rattle.journal_node.specs.Amid.{HasEnough, HasFew, HasNone, HasOpened, HasReserved, Opens, entry_works, fit_on, opened}
use Rattle.journal_node.specs.Held.{IsOn, IsReady, IsTold, view_of}
use Rattle.journal_node.specs.Journal.{JournalView, begins, file_behind, fit_of, is_marked_out, needs_numbers, put_of, reserved, reserving, standing_in, standing_of_file}
use Rattle.journal_node.specs.Left.{Holds}

same-story : (a b : Story) → Some a ≡ Some b → a ≡ b
same-story a b same = cc

module _ {D : Type 0} (members : disk.Ghosts D) where
  -- whatever a crash leaves of a journal in hand is it
  pub held : (v : SpoolView D) (st : Standing) (spent : Device D) → spent.disk ≡ v.disk → Stands members v st
      → (t : Story) → members.told spent.disk ≡ Some t → Holds st t.now
  held v st spent same stands t told image image_is =
      let file = stands.file t (ap (λ (d : D). members.told d) (sym same) ∙ told) in
      subst (λ (bytes : List ℕ). StandsFor bytes st.file) (sym (only_now t.now image file.settled image_is)) file.stands

  -- its file is the one for which its bytes stand
  pub file-of : (v : SpoolView D) (st : Standing) → Stands members v st → IsTold (members.told v.disk)
      → (standing_of members v).file ≡ st.file
  file-of v st stands told =
      ap (λ (tells : Option Story). file_told tells (known_of v)) told.1
      ∙ sym (stands.file told.0 told.1).stands.is

  -- so is its state
  pub view-is : (v : SpoolView D) (s : JournalView) → IsOn members v s → s.has_ended ≡ false
      → view_of members s.node v ≡ s
  view-is v s on going =
      ap (λ (f : SpoolFile). record { node = s.node; file = f; has_ended = false })
      (file-of v (standing_in s) on.stands on.told)
      ∙ ap (λ (b : Bool). record { node = s.node; file = s.file; has_ended = b }) (sym going)

  -- ---- system bytes

  module _ (s : JournalView) (going : s.has_ended ≡ false) where
    pub needs-of : (numbers : NumbersView) → 128 ≤ numbers.end - numbers.next
        → nat_lt numbers.end (numbers.next + 128) ≡ false
    needs-of numbers enough = grind (arith, nat_tests, enough)

    needs-few : (numbers : NumbersView) → numbers.end - numbers.next < 128
        → nat_lt numbers.end (numbers.next + 128) ≡ true
    needs-few numbers few = grind (arith, nat_tests, few)

    begins-by :
        (needs out : Bool) → needs_numbers s ≡ needs → is_marked_out s.file.mark.value ≡ out
        → begins s
        ≡ (if needs then if out then Spent (at_first s) else Goes (at_first (reserved s)) else Goes (at_first s))
    begins-by needs out is marks =
        ap (λ (b : Bool). if b then Spent (at_first s) else reserving s) going
        ∙ ap (λ (b : Bool).
        if b then if is_marked_out s.file.mark.value then Spent (at_first s) else Goes (at_first (reserved s))
        else Goes (at_first s)) is
        ∙ ap (λ (b : Bool).
        if needs then if b then Spent (at_first s) else Goes (at_first (reserved s)) else Goes (at_first s)) marks

    opened-by : (needs : Bool) → needs_numbers s ≡ needs → opened s ≡ (if needs then reserved s else s)
    opened-by needs is = ap (λ (b : Bool). if b then reserved s else s) is

    pub opened-plain :
        (old new : Node HostOwn Kind) (g h : GemSpool D) → old ≡ s.node → IsOn members g.spool s → HasEnough old
        → new ≡ old → h ≡ g → HasOpened members s new h
    opened-plain old new g h old_is on enough new_is h_is =
        let few = needs-of s.node.core.numbers
        (subst (λ (n : Node HostOwn Kind). HasEnough n) old_is enough) in
        let same = opened-by false few in
        record {
          went =
              begins-by false (is_marked_out s.file.mark.value) few refl
              ∙ ap (λ (x : JournalView). Goes (at_first x)) (sym same);
          node_is = new_is ∙ old_is ∙ ap (λ (x : JournalView). x.node) (sym same);
          on =
              subst (λ (x : JournalView). IsOn members h.spool x) (sym same)
              (subst (λ (x : GemSpool D). IsOn members x.spool s) (sym h_is) on);
        }

    numbers-more :
        (numbers : NumbersView) (base : ℕ) → numbers.end ≡ base → base + 4096 ≤ 2 ^ 32
        → base + 4096 ≡ min (numbers.end + 4096) (2 ^ 32)
    numbers-more numbers base same most = omega (arith, same, most)

    pub opened-more :
        (old new : Node HostOwn Kind) (g h : GemSpool D) → old ≡ s.node → IsOn members g.spool s
        → IsReady g.spool old → HasReserved members old g new h → HasOpened members s new h
    opened-more old new g h old_is on ready is =
        let needs = needs-few s.node.core.numbers (subst (λ (n : Node HostOwn Kind). HasFew n) old_is is.few) in
        let same = opened-by true needs in
        let most : g.spool.mark + 4096 ≤ 2 ^ 32 = is.reserve.0.0.0 in
        let base_is : is.base ≡ g.spool.mark = is.reserve.0.1 in
        let mark = on.stands.mark in
        let through = is.moments (standing_in s) on.stands on.told.0 on.told.1 in
        record {
          went =
              begins-by true false needs (grind (arith, nat_tests, most, mark))
              ∙ ap (λ (x : JournalView). Goes (at_first x)) (sym same);
          node_is =
              is.more ∙ ap (λ (n : Node HostOwn Kind). refilled is.base n) old_is
              ∙ ap
              (λ (end : ℕ).
              record {
                own = s.node.own;
                core = with_numbers (record { next = s.node.core.numbers.next; end = end }) s.node.core;
              })
              (numbers-more s.node.core.numbers is.base
              (ap (λ (n : Node HostOwn Kind). n.core.numbers.end) (sym old_is) ∙ ready.mark ∙ sym base_is)
              (subst (λ (n : ℕ). n + 4096 ≤ 2 ^ 32) (sym base_is) most))
              ∙ ap (λ (x : JournalView). x.node) (sym same);
          on =
              subst (λ (x : JournalView). IsOn members h.spool x) (sym same)
              (record {
                stands = is.stands (standing_in s) on.stands;
                version_is = on.version_is;
                told = (through.0, through.1);
              });
        }

    pub opens :
        (old new : Node HostOwn Kind) (g h : GemSpool D) → old ≡ s.node → IsOn members g.spool s
        → IsReady g.spool old → Opens members old g new (Ok h) → HasOpened members s new h
    opens old new g h old_is on ready (inl (enough, new_is, h_is)) =
        opened-plain old new g h old_is on enough new_is h_is
    opens old new g h old_is on ready (inr is) = opened-more old new g h old_is on ready is

    pub few-needs : (old : Node HostOwn Kind) → old ≡ s.node → HasFew old → needs_numbers s ≡ true
    few-needs old old_is few =
        needs-few s.node.core.numbers (subst (λ (n : Node HostOwn Kind). HasFew n) old_is few)

    -- there are none any more
    pub opens-none :
        (old : Node HostOwn Kind) (g : GemSpool D) (spent : Device D) → old ≡ s.node → IsOn members g.spool s
        → HasNone old g spent → begins s ≡ Spent (at_first s)
    opens-none old g spent old_is on is =
        let none = is.none in
        let mark = on.stands.mark in
        begins-by true true
        (needs-few s.node.core.numbers (subst (λ (n : Node HostOwn Kind). HasFew n) old_is is.few))
        (grind (arith, nat_tests, none, mark))

  -- ---- a put

  -- what is listed goes behind all that is there, so that the next number follows from the messages again
  next-behind :
      (floor : ℕ) (list : List Message) (one : Message)
      → one.number ≡ first_of floor list + sum_by width list
      → first_of floor list + sum_by width list + width one
      ≡ first_of floor (list ++ one ∷ []) + sum_by width (list ++ one ∷ [])
  next-behind floor [] one is =
      let sum = sum_by-cons width one [] in omega (arith, is, sum)
  next-behind floor (message ∷ list) one is =
      let sum = sum_by-append width (message ∷ list) (one ∷ []) in
      let last = sum_by-cons width one [] in
      omega (arith, sum, last)

  pub put-standing :
      (file : SpoolFile) (listed : Record)
      → standing_after (standing_of_file file) (put_of listed) ≡ standing_of_file (file_behind file (Some listed))
  put-standing file listed =
      ap (λ (n : ℕ). record { next = n; file = file_behind file (Some listed) })
      (next-behind file.floor.value file.list
      (record {
        number = (standing_of_file file).next;
        stream = listed.stream;
        function = listed.function;
        body = (entry_of listed).body;
      })
      refl)

  -- whether it fits the spool in hand tells as well
  pub fit-same : (g : GemSpool D) (st : Standing) (listed : Record) → Stands members g.spool st
      → fit_of st listed ≡ fit_on g listed
  fit-same g st listed stands =
      ap (λ (c : Count). fit_in c (length (entry_of listed).body)) (sym stands.count)

  pub next-same : (g : GemSpool D) (st : Standing) → Stands members g.spool st → g.spool.next ≡ st.next
  next-same g st stands = ap (λ (c : Count). c.next) stands.count

  -- and the journal stands so behind it
  pub put-on :
      (s : JournalView) (node : Node HostOwn Kind) (g k : GemSpool D) (listed : Record) → IsOn members g.spool s
      → HasCarried members g (entry_works listed) k
      → IsOn members k.spool
      (record { node = node; file = file_behind s.file (Some listed); has_ended = false })
  put-on s node g k listed on carried =
      let through = carried.goes_on.images (standing_in s) on.stands on.told.0 on.told.1 in
      record {
        stands =
            subst (λ (st : Standing). Stands members k.spool st) (put-standing s.file listed)
            (carried.stands (standing_in s) on.stands (tt, tt));
        version_is = on.version_is;
        told = (through.0, through.1);
      }
