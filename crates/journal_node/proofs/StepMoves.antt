-- What the code says of the pieces of a step comes to the step as it is defined.
use Rattle.std.proofs.Common.{◌≡◌, refl, sym, ap, subst, ◌∙◌, inl, inr, ◌&&◌, not, zero, suc, Bool, true, false, ℕ, List, [], ◌∷◌, ◌++◌, append_assoc, length, take, Option, Some, None, if◌then◌else◌}
use Rattle.std.proofs.lemmas.List.Elements.{filter_map-append}
use Rattle.std.specs.List.{slice_get}
use Rattle.std.specs.Prelude.{Result, Ok, Err}
use Rattle.disk_base.specs.Through.{EachImage}
use Rattle.disk_base.specs.declared.disk.Disk as disk
use Rattle.gem_spool.specs.declared.spool.GemSpool.{GemSpool}
use Rattle.gem_spool.specs.Standing.{Standing}
use Rattle.gem_spool.specs.Works.{HasUndone, IsAmid}
use Rattle.gem_spool.specs.declared.works.Work.{Work}
use Rattle.host_journal.specs.declared.listing.Fit.{Fit}
use Rattle.host_journal.specs.declared.listing.Fit.TheVariants as fit
use Rattle.host_node.specs.Calls.{HasStepped}
use Rattle.host_node.specs.Host.{HostOwn, Kind, host_machine}
use Rattle.host_node.specs.declared.calls.HostEnded.{HostEnded}
use Rattle.host_node.specs.declared.calls.HostEnded.TheVariants as host_ended
use Rattle.message_end.specs.Core.{Went, and_then, at_first, carried, step_in}
use Rattle.message_end.specs.Core.Went.{Goes, Spent}
use Rattle.message_end.specs.Ends.{HasGone, HasSpent, HasStopped, Input, printed}
use Rattle.message_end.specs.Own.{Has}
use Rattle.message_end.specs.Duties.{all_done}
use Rattle.message_end.specs.Parts.{Node, after_parts, core_step, went_with}
use Rattle.message_flow.specs.declared.step.Note.{Note}
use Rattle.message_flow.specs.declared.step.StepOut.{StepOut}
use Rattle.spool_file.specs.File.{SpoolFile}
use Rattle.spool_slots.specs.declared.states.Spent.{Spent as Device}
use Rattle.spool_works.specs.DiskWorks.{DiskWork, IsAmidWork, fronts_of, standings_behind, up_to_change}
use Rattle.spool_works.specs.DiskWorks.DiskWork.{Change, Reserve}
use Rattle.trace_log.specs.declared.commands.HostCommand.{HostCommand}
use Rattle.trace_log.specs.Log.{Happening}
use Rattle.trace_log.specs.Log.Happening.{Listed, Listing}
use Rattle.trace_log.specs.Names.{Record}
use Rattle.trace_log.specs.Text.{note_of, printed_note}
use Rattle.journal_node.specs.declared.journal_host.JournalEnded.TheVariants as ended
use Rattle.journal_node.specs.Amid.{HasActed, HasNotListed, HasOpened, ListsOf, entry_works, opened}
use Rattle.journal_node.specs.Held.{Held, IsIn, IsLeftBy, IsOn, view_in}
use Rattle.journal_node.specs.Journal.{JournalView, act, acts_on, file_behind, first_parts, fit_of, has_no_room, is_full, is_marked_out, lacks_behind, lacks_on, lacks_room, listed_by, listed_of, listing_commands, lists, needs_numbers, noted_by, noted_on, parts, put_of, put_works, reserved, standing_in, went_with_file, with_file}
use Rattle.journal_node.specs.Left.{HasBegunAt, HasFailedAt, Holds, HoldsEnded}
use Rattle.journal_node.specs.Works.{reserve_works, stops, works_behind, works_of}
use Rattle.journal_node.proofs.Commuting.{HostWent, ended as ended_step, ended-printed, first, host-goes, host-spent, journal-spent, lists-full, lists-none, lists-one, lists-spent, more, more-next, more-printed, more-written}
use Rattle.journal_node.proofs.EarlyNotes.{ChangeNothing, first-unchanged, up-to}
use Rattle.journal_node.proofs.HostHalves.{HostStep}
use Rattle.journal_node.proofs.Lawful.{parts-both, stops-are}
use Rattle.journal_node.proofs.OnDisk.{fit-same, held, next-same, put-on, view-is}

-- ---- places in lists

get-has : {X : Type 0} (xs : List X) (place : ℕ) (x : X) → slice_get xs place ≡ Some x → Has xs x
get-has [] place x is = absurd (cc)
get-has (one ∷ xs) zero x is = inl (cc)
get-has (one ∷ xs) (suc place) x is = inr (get-has xs place x is)

get-behind : {X : Type 0} (xs : List X) (x : X) → slice_get (xs ++ x ∷ []) (length xs) ≡ Some x
get-behind [] x = refl
get-behind (one ∷ xs) x = get-behind xs x

take-front : {X : Type 0} (xs ys : List X) → take (length xs) (xs ++ ys) ≡ xs
take-front [] ys = refl
take-front {X} (x ∷ xs) ys = ap (λ (rest : List X). x ∷ rest) (take-front xs ys)

only-one : {X : Type 0} (x y : X) → slice_get (x ∷ []) 0 ≡ Some y → x ≡ y
only-one x y is = cc

module _ {D : Type 0} (members : disk.Ghosts D) (s : JournalView) (node : Node HostOwn Kind) (g : GemSpool D)
    (at : HasOpened members s node g) (input : Input HostCommand) (now : ℕ)
  where
    abbrev o : JournalView
    o = opened s

    abbrev st : Standing
    st = standing_in o

    -- a step is that of the node, with the file
    act-is : act s input now ≡ went_with_file o.file (after_parts Some (parts st input now) (at_first o.node))
    act-is = ap (λ (went : Went JournalView Happening). and_then went (acts_on input now)) at.went

    lacks-is : lacks_room s input now ≡ lacks_behind st (after_parts Some (first_parts input now) (at_first o.node))
    lacks-is = ap (lacks_on input now) at.went

    abbrev Stepped : StepOut → Result (Node HostOwn Kind) HostEnded → Type 0
    Stepped out result = HasStepped (host_machine.act o.node input now) out result

    same-node : (out : StepOut) (result : Result (Node HostOwn Kind) HostEnded)
        → HasStepped (host_machine.act node input now) out result → Stepped out result
    same-node out result is =
        subst (λ (n : Node HostOwn Kind). HasStepped (host_machine.act n input now) out result) at.node_is is

    -- what the host met, and what it has delivered
    record Delivers (next : Node HostOwn Kind) (mid : StepOut) (listed : Option Record) : Type 0 where
      met : HostStep
      is : first input now o.node ≡ Goes met
      ends : (ended_step now met).next ≡ next
      delivered : listed_of met.next.own.delivered ≡ listed
      notes : mid.notes ≡ printed met.notes
      written : mid.line.items ≡ (ended_step now met).written

    delivers : (next : Node HostOwn Kind) (mid : StepOut) → Stepped mid (Ok next)
        → Delivers next mid (listed_of next.own.delivered)
    delivers next mid gone =
        let meets = host-goes input now o.node gone.step gone.is in
        let same = ap (λ (step : HostStep). step.next) meets.ends ∙ gone.next_is in
        record {
          met = meets.met;
          is = meets.is;
          ends = same;
          delivered = ap (λ (n : Node HostOwn Kind). listed_of n.own.delivered) same;
          notes =
              gone.notes ∙ ap (λ (step : HostStep). printed step.notes) (sym meets.ends)
              ∙ ended-printed now meets.met;
          written = gone.written ∙ ap (λ (step : HostStep). step.written) (sym meets.ends);
        }

    -- ---- it goes on

    abbrev Moved : Held D → StepOut → Type 0
    Moved k out = HasGone (act s input now) (view_in members k) out × IsIn members k

    -- to this state, in which the journal in hand stands
    moved-to :
        (k : Held D) (out : StepOut) (step : HostStep) (file : SpoolFile)
        → act s input now ≡ Goes (with_file file false step) → step.next ≡ k.host
        → IsOn members k.journal.spool (record { node = k.host; file = file; has_ended = false })
        → out.notes ≡ printed step.notes → out.line.items ≡ step.written → Moved k out
    moved-to k out step file is next on notes written = (
      record {
        step = with_file file false step;
        is = is;
        next_is =
            ap (λ (n : Node HostOwn Kind). record { node = n; file = file; has_ended = false }) next
            ∙ sym (view-is members k.journal.spool (record { node = k.host; file = file; has_ended = false }) on refl);
        notes = notes;
        written = written;
      },
      subst (λ (v : JournalView). IsOn members k.journal.spool v)
          (sym (view-is members k.journal.spool (record { node = k.host; file = file; has_ended = false }) on refl)) on,
    )

    listed-moved :
        (k : Held D) (mid out : StepOut) (listed : Option Record) → Delivers k.host mid listed
        → ListsOf members listed g mid out (Ok k.journal) → out.line ≡ mid.line → Moved k out
    listed-moved k mid out None is lists line =
        moved-to k out (ended_step now is.met) o.file
        (act-is
        ∙ ap (went_with_file o.file) (lists-none input now o.node st is.met is.is is.delivered)
        ∙ ap (λ (listed : Option Record). Goes (with_file (file_behind o.file listed) false (ended_step now is.met)))
        is.delivered)
        is.ends
        (subst (λ (x : GemSpool D). IsOn members x.spool (record { node = k.host; file = o.file; has_ended = false }))
        (sym lists.0)
        (record { stands = at.on.stands; version_is = at.on.version_is; told = at.on.told }))
        (ap (λ (x : StepOut). x.notes) lists.1 ∙ is.notes ∙ sym (ended-printed now is.met))
        (ap (λ x. x.items) line ∙ is.written)
    listed-moved k mid out (Some listed) is lists line =
        let fits = fit-same members g st listed at.on.stands ∙ lists.0 in
        let number = next-same members g st at.on.stands in
        moved-to k out (ended_step now (more now is.met st.next listed)) (file_behind o.file (Some listed))
        (act-is
        ∙ ap (went_with_file o.file) (lists-one input now o.node st is.met is.is listed is.delivered fits)
        ∙ ap
        (λ (one : Option Record).
        Goes (with_file (file_behind o.file one) false (ended_step now (more now is.met st.next listed))))
        is.delivered)
        (more-next now is.met st.next listed ∙ is.ends)
        (put-on members o k.host g k.journal listed at.on lists.1)
        (lists.2 ∙ ap (λ (notes : List Note). notes ++ note_of (Listing g.spool.next listed)
        ∷ note_of (Listed g.spool.next listed) ∷ []) is.notes
        ∙ ap
        (λ (n : ℕ). printed is.met.notes ++ note_of (Listing n listed) ∷ note_of (Listed n listed) ∷ []) number
        ∙ sym (more-printed now is.met st.next listed))
        (ap (λ x. x.items) line ∙ is.written ∙ sym (more-written now is.met st.next listed))

    pub moves-on : (k : Held D) (out : StepOut) → HasActed members node g input now out k → Moved k out
    moves-on k out acted =
        listed-moved k acted.mid out (listed_of k.host.own.delivered)
        (delivers k.host acted.mid (same-node acted.mid (Ok k.host) acted.stepped)) acted.lists acted.line

    -- ---- it ends early

    -- with what the first parts have noted, and its journal as it was
    abbrev SpentSo : Bool → StepOut → Device D → Type 0
    SpentSo full out spent =
        HasSpent (act s input now) out × (lacks_room s input now ≡ full)
        × IsLeftBy members spent (λ t. HoldsEnded s input now t.now)

    spent-at :
        (full : Bool) (out : StepOut) (spent : Device D) (step : HostStep)
        → after_parts Some (parts st input now) (at_first o.node) ≡ Spent step → lacks_room s input now ≡ full
        → out.notes ≡ printed step.notes → out.line.items ≡ [] → spent.disk ≡ g.spool.disk → SpentSo full out spent
    spent-at full out spent step is lacks notes quiet same = (
      record {
        step = with_file o.file true step;
        is = spent_is;
        notes = notes;
        quiet = quiet;
      },
      lacks,
      λ t told image image_is.
          subst (λ (went : Went JournalView Happening). Holds (standing_in (step_in went).next) t.now) (sym spent_is)
          (held members g.spool st spent same at.on.stands t told) image image_is,
    )
      where
        spent_is : act s input now ≡ Spent (with_file o.file true step)
        spent_is = act-is ∙ ap (went_with_file o.file) is

    lacks-at : (listed : Record) (f : Fit) (met : HostStep) → first input now o.node ≡ Goes met
        → listed_of met.next.own.delivered ≡ Some listed → fit_of st listed ≡ f → lacks_room s input now ≡ is_full f
    lacks-at listed f met is some fits =
        lacks-is ∙ ap (lacks_behind st) is ∙ ap (has_no_room st) some ∙ ap is_full fits

    pub ends-full :
        (out : StepOut) (spent : Device D) → HasNotListed members node g input now out (ended.JournalFull spent)
        → SpentSo true out spent
    ends-full out spent not_listed =
        go (listed_of not_listed.next.own.delivered)
        (delivers not_listed.next not_listed.mid (same-node not_listed.mid (Ok not_listed.next) not_listed.stepped))
        not_listed.lists
      where
        go : (listed : Option Record) → Delivers not_listed.next not_listed.mid listed
            → ListsOf members listed g not_listed.mid out (Err (ended.JournalFull spent)) → SpentSo true out spent
        go None is lists = absurd lists
        go (Some listed) is lists =
            let full = fit-same members g st listed at.on.stands ∙ lists.0 in
            spent-at true out spent is.met (lists-full input now o.node st is.met is.is listed is.delivered full)
            (lacks-at listed fit.Full is.met is.is is.delivered full) (lists.1 ∙ is.notes) not_listed.quiet lists.2

    pub ends-numberless :
        (out : StepOut) (spent : Device D) → HasNotListed members node g input now out (ended.NumbersSpent spent)
        → SpentSo false out spent
    ends-numberless out spent not_listed =
        go (listed_of not_listed.next.own.delivered)
        (delivers not_listed.next not_listed.mid (same-node not_listed.mid (Ok not_listed.next) not_listed.stepped))
        not_listed.lists
      where
        go : (listed : Option Record) → Delivers not_listed.next not_listed.mid listed
            → ListsOf members listed g not_listed.mid out (Err (ended.NumbersSpent spent)) → SpentSo false out spent
        go None is lists = absurd lists
        go (Some listed) is lists =
            let none = fit-same members g st listed at.on.stands ∙ lists.0 in
            spent-at false out spent is.met (lists-spent input now o.node st is.met is.is listed is.delivered none)
            (lacks-at listed fit.NumbersSpent is.met is.is is.delivered none) (lists.1 ∙ is.notes) not_listed.quiet
            lists.2

    -- the host by itself had no number
    pub ends-spent :
        (out : StepOut) (spent : Device D)
        → HasStepped (host_machine.act node input now) out (Err host_ended.NumbersSpent)
        → spent.disk ≡ g.spool.disk → SpentSo false out spent
    ends-spent out spent stepped same =
        let is = same-node out (Err host_ended.NumbersSpent) stepped in
        let first_is = host-spent input now o.node is.step is.is in
        spent-at false out spent is.step (journal-spent input now o.node st is.step first_is)
        (lacks-is ∙ ap (lacks_behind st) first_is) is.notes is.quiet same

    -- ---- what is done of its works

    abbrev reserving_by : Bool → List DiskWork
    reserving_by is = if is then Reserve ∷ [] else []

    abbrev begins_by : (ended needs out : Bool) → Went JournalView Happening
    begins_by ended needs out =
        if ended then Spent (at_first s)
        else if needs then if out then Spent (at_first s) else Goes (at_first (reserved s))
        else Goes (at_first s)

    -- behind a reserve, where there is one, the journal stands as the step goes on with it
    open-by :
        (ended needs out : Bool) → begins_by ended needs out ≡ Goes (at_first (if needs then reserved s else s))
        → standings_behind (standing_in s) (if needs && not out then Reserve ∷ [] else [])
        ≡ standing_in (if needs then reserved s else s)
    open-by true needs out is = absurd (cc)
    open-by false true true is = absurd (cc)
    open-by false true false is = refl
    open-by false false out is = refl

    pub reserved-behind : standings_behind (standing_in s) (reserve_works s) ≡ st
    reserved-behind = open-by s.has_ended (needs_numbers s) (is_marked_out s.file.mark.value) at.went

    begun-at : (works : List DiskWork) → works_of s input now ≡ reserve_works s ++ works
        → standings_behind (standing_in s) (take (length (reserve_works s)) (works_of s input now)) ≡ st
    begun-at works are =
        ap (λ (all : List DiskWork). standings_behind (standing_in s) (take (length (reserve_works s)) all)) are
        ∙ ap (standings_behind (standing_in s)) (take-front (reserve_works s) works) ∙ reserved-behind

    -- memory ran out before anything was listed
    pub ends-wanting : (out : StepOut) (spent : Device D) → out.line.items ≡ [] → spent.disk ≡ g.spool.disk
        → (out.line.items ≡ []) × IsLeftBy members spent (λ t. HasBegunAt s input now t.now)
    ends-wanting out spent quiet same = (
      quiet,
      λ t told. record {
        place = length (reserve_works s);
        left =
            subst (λ (x : Standing). Holds x t.now) (sym (begun-at (works_behind (act s input now)) refl))
            (held members g.spool st spent same at.on.stands t told);
      },
    )

    pub lists-wanting : (out : StepOut) (spent : Device D)
        → HasNotListed members node g input now out (ended.NoMemory spent)
        → (out.line.items ≡ []) × IsLeftBy members spent (λ t. HasBegunAt s input now t.now)
    lists-wanting out spent not_listed =
        ends-wanting out spent not_listed.quiet (go (listed_of not_listed.next.own.delivered) not_listed.lists)
      where
        go : (listed : Option Record) → ListsOf members listed g not_listed.mid out (Err (ended.NoMemory spent))
            → spent.disk ≡ g.spool.disk
        go None lists = absurd lists
        go (Some listed) lists = lists

    -- ---- the disk has failed in the put

    abbrev StoppedSo : StepOut → Device D → Type 0
    StoppedSo out spent =
        HasStopped (stops s input now) (act s input now) out
        × IsLeftBy members spent (λ t. HasFailedAt s input now out t.now)

    front-at :
        (is : Bool) (listed : Record) (notes : List Happening)
        → slice_get (fronts_of [] (reserving_by is ++ Change (put_of listed) ∷ []) notes) (length (reserving_by is))
        ≡ Some (up_to_change notes)
    front-at true listed notes = refl
    front-at false listed notes = refl

    module _ (listed : Record) (mid : StepOut) (next : Node HostOwn Kind) (is : Delivers next mid (Some listed))
        (fits : fit_of st listed ≡ fit.Fits)
      where
        abbrev number : ℕ
        number = st.next

        acted : act s input now
            ≡ Goes (with_file (file_behind o.file (Some listed)) false (ended_step now (more now is.met number listed)))
        acted =
            act-is
            ∙ ap (went_with_file o.file) (lists-one input now o.node st is.met is.is listed is.delivered fits)
            ∙ ap
            (λ (one : Option Record).
            Goes (with_file (file_behind o.file one) false (ended_step now (more now is.met number listed))))
            is.delivered

        works-are : works_of s input now ≡ reserve_works s ++ Change (put_of listed) ∷ []
        works-are =
            ap (λ (went : Went JournalView Happening). reserve_works s ++ works_behind went) acted
            ∙ ap (λ (one : Option Record). reserve_works s ++ put_works one) is.delivered

        -- what is noted up to the turn of the line, and of that up to the first line
        noted-are : noted_by s input now ≡ (more now is.met number listed).notes
        noted-are =
            ap (noted_on input now) at.went
            ∙ ap (λ (went : HostWent). (step_in went).notes)
            (parts-both (first_parts input now) (lists st ∷ []) (at_first o.node)
            ∙ ap (λ (went : HostWent). and_then went (after_parts Some (lists st ∷ []))) is.is
            ∙ ap
            (λ (one : Option Record).
            and_then
            (went_with is.met.next.own
            (and_then (carried Some (listing_commands st one) (core_step is.met)) (all_done Some [])))
            (after_parts Some [])) is.delivered
            ∙ ap
            (λ (f : Fit).
            and_then
            (went_with is.met.next.own
            (and_then (carried Some (listed_by f number listed) (core_step is.met)) (all_done Some [])))
            (after_parts Some [])) fits)

        abbrev front : List Happening
        front = is.met.notes ++ Listing number listed ∷ []

        up-to-front : up_to_change (noted_by s input now) ≡ front
        up-to-front =
            ap up_to_change
            (noted-are ∙ append_assoc is.met.notes (Listing number listed ∷ []) (Listed number listed ∷ []))
            ∙ up-to is.met.notes (Listed number listed ∷ []) (Listing number listed)
            (subst (λ (went : HostWent). ChangeNothing (step_in went).notes) is.is (first-unchanged input now o.node))
            refl

        front-is : slice_get (stops s input now) (length (reserve_works s)) ≡ Some front
        front-is =
            ap
            (λ (works : List DiskWork).
            slice_get (fronts_of [] works (noted_by s input now)) (length (reserve_works s))) works-are
            ∙ front-at (needs_numbers s && not (is_marked_out s.file.mark.value)) listed (noted_by s input now)
            ∙ ap (λ (ns : List Happening). Some ns) up-to-front

        noted-at : (out : StepOut) → out.notes ≡ mid.notes ++ note_of (Listing g.spool.next listed) ∷ []
            → out.notes ≡ printed front
        noted-at out notes =
            notes
            ∙ ap (λ (ns : List Note). ns ++ note_of (Listing g.spool.next listed) ∷ []) is.notes
            ∙ ap (λ (n : ℕ). printed is.met.notes ++ note_of (Listing n listed) ∷ [])
            (next-same members g st at.on.stands)
            ∙ sym (filter_map-append printed_note is.met.notes (Listing number listed ∷ []))

        stopped-at :
            (out : StepOut) (spent : Device D)
            → HasUndone members g (entry_works listed) (record { at = 0; spent = spent })
            → out.notes ≡ mid.notes ++ note_of (Listing g.spool.next listed) ∷ [] → out.line.items ≡ []
            → StoppedSo out spent
        stopped-at out spent undone notes quiet = (
          record {
            front = front;
            may = may;
            first = stops-are s input now front may;
            notes = noted;
            quiet = quiet;
          },
          λ t told. record {
            place = length (reserve_works s);
            work = Change (put_of listed);
            is =
                ap (λ (works : List DiskWork). slice_get works (length (reserve_works s))) works-are
                ∙ get-behind (reserve_works s) (Change (put_of listed));
            front = front;
            front_is = front-is;
            notes = noted;
            left =
                subst (λ (x : Standing). EachImage (IsAmidWork x (Change (put_of listed))) t.now)
                (sym (begun-at (Change (put_of listed) ∷ []) works-are))
                (subst (λ (one : Work). EachImage (IsAmid st one) t.now)
                (sym (only-one (put_of listed) undone.failed undone.is))
                (undone.left st at.on.stands at.on.told.0 t at.on.told.1 told));
          },
        )
          where
            may : Has (stops s input now) front
            may = get-has (stops s input now) (length (reserve_works s)) front front-is

            noted : out.notes ≡ printed front
            noted = noted-at out notes

    pub ends-stopped :
        (out : StepOut) (spent : Device D) → HasNotListed members node g input now out (ended.DiskFailed spent)
        → StoppedSo out spent
    ends-stopped out spent not_listed =
        go (listed_of not_listed.next.own.delivered)
        (delivers not_listed.next not_listed.mid (same-node not_listed.mid (Ok not_listed.next) not_listed.stepped))
        not_listed.lists
      where
        go : (listed : Option Record) → Delivers not_listed.next not_listed.mid listed
            → ListsOf members listed g not_listed.mid out (Err (ended.DiskFailed spent)) → StoppedSo out spent
        go None is lists = absurd lists
        go (Some listed) is lists =
            stopped-at listed not_listed.mid not_listed.next is (fit-same members g st listed at.on.stands
            ∙ lists.0) out
            spent lists.1 lists.2 not_listed.quiet

    -- what it was to put then
    pub puts-then :
        (out : StepOut) (spent : Device D) → HasNotListed members node g input now out (ended.DiskFailed spent)
        → (listed : Record) × (works_behind (act s input now) ≡ Change (put_of listed) ∷ [])
        × HasUndone members g (entry_works listed) (record { at = 0; spent = spent })
        × (out.notes ≡ printed (up_to_change (noted_by s input now)))
    puts-then out spent not_listed =
        go (listed_of not_listed.next.own.delivered)
        (delivers not_listed.next not_listed.mid (same-node not_listed.mid (Ok not_listed.next) not_listed.stepped))
        not_listed.lists
      where
        go : (listed : Option Record) → Delivers not_listed.next not_listed.mid listed
            → ListsOf members listed g not_listed.mid out (Err (ended.DiskFailed spent))
            → (one : Record) × (works_behind (act s input now) ≡ Change (put_of one) ∷ [])
            × HasUndone members g (entry_works one) (record { at = 0; spent = spent })
            × (out.notes ≡ printed (up_to_change (noted_by s input now)))
        go None is lists = absurd lists
        go (Some listed) is lists = (
          listed,
          ap (λ (went : Went JournalView Happening). works_behind went)
              (acted listed not_listed.mid not_listed.next is (fit-same members g st listed at.on.stands ∙ lists.0))
              ∙ ap (λ (one : Option Record). put_works one) is.delivered,
          lists.1,
          let fits = fit-same members g st listed at.on.stands ∙ lists.0 in
              noted-at listed not_listed.mid not_listed.next is fits out lists.2
              ∙ ap printed (sym (up-to-front listed not_listed.mid not_listed.next is fits)),
        )
