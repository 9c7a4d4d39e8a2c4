-- That a host keeps its journal in a step, wherever that ends.
use Rattle.std.proofs.Common.{◌≡◌, refl, sym, ap, subst, ◌∙◌, Bool, true, false, not, ℕ, ◌&&◌, List, [], ◌∷◌, ◌++◌, append_assoc, Option, Some, None, if◌then◌else◌}
use Rattle.disk_base.specs.declared.cut.CutChoice.{CutChoice}
use Rattle.gem_spool.specs.Standing.{Standing}
use Rattle.gem_spool.specs.Updates.{Left}
use Rattle.host_journal.specs.declared.listing.Fit.{Fit}
use Rattle.host_journal.specs.declared.listing.Fit.TheVariants as fit
use Rattle.journal_law.specs.Kept.{HasNoGap, JournalsAreKept, room_in}
use Rattle.journal_law.specs.Turns.{AreEnded, JournalsWriteInTurn, WriteInTurn}
use Rattle.journal_law.proofs.Fronts.{up-to-listing}
use Rattle.journal_law.proofs.Keeping.{IsCourseSo, IsGoodFile, IsSo, Tells, anew-so, listed-tells, listing-tells, quiet-tell, quiet-tells, start-so}
use Rattle.journal_law.proofs.Numbers.{all-below, gapless-behind, has-room}
use Rattle.journal_law.proofs.Quiet.{AreQuiet, AreUnwritten, first-quiet, first-unwritten, quiet-both, turns-behind, unwritten-both}
use Rattle.journal_node.specs.End.{machine}
use Rattle.journal_node.specs.Journal.{JournalView, act, acts_on, file_behind, fit_of, is_marked_out, listed_of, needs_numbers, noted_by, noted_on, parts, put_of, put_works, reserved, standing_in, standing_of_file, started_on, went_with_file}
use Rattle.journal_node.specs.Works.{left_as, losses, stops, works_behind, works_of}
use Rattle.journal_node.proofs.Commuting.{HostWent, ended as ended_step, ended-notes, first, journal-spent, lists-full, lists-none, lists-one, lists-spent, more}
use Rattle.journal_node.proofs.HostHalves.{HostStep}
use Rattle.journal_node.proofs.WorkFronts.{AtEach, IsAtCall, at-call}
use Rattle.line_end.specs.declared.plan.HostPlan.{HostPlan}
use Rattle.message_end.specs.Core.{and_then, at_first, step_in}
use Rattle.message_end.specs.Core.Went.{Goes, Spent}
use Rattle.message_end.specs.Course.{Course, Meeting, broken_at, course_of, filled_at, met_by, noted_behind, notes_of, went_on, with_meeting}
use Rattle.message_end.specs.Course.Course.{Reached, Stopped}
use Rattle.message_end.specs.Course.Meeting.{Acts, Breaks, Fills, LosesPower, Restarts, Writes}
use Rattle.message_end.specs.Ends.{Input, Loss, call_of}
use Rattle.message_end.specs.Own.{Has}
use Rattle.message_end.specs.Parts.{after_parts}
use Rattle.message_end.proofs.Growing.{behind-both}
use Rattle.spool_file.specs.File.{SpoolFile}
use Rattle.spool_file.specs.Slot.{Message}
use Rattle.spool_law.specs.Journal.{KeepsJournal, entry_of}
use Rattle.spool_works.specs.DiskWorks.DiskWork.{Change, Reserve}
use Rattle.spool_works.specs.Found.{first_in, found_in}
use Rattle.spool_works.specs.WorkLosses.{calls_at}
use Rattle.spool_works.proofs.EachLoss.{LeavesGood, each-work}
use Rattle.spool_works.proofs.FoundLosses.{Leaves, each-call, found-behind}
use Rattle.spool_works.proofs.LossCounts.{Each, has-call}
use Rattle.trace_log.specs.declared.commands.HostCommand.{HostCommand}
use Rattle.trace_log.specs.Log.{Happening}
use Rattle.trace_log.specs.Log.Happening.{Listed, Listing, StepEnded}
use Rattle.trace_log.specs.Names.{Record, Spooled}

-- what two things of each of these calls make of it
each-of : (P Q R : Left → Type 0) → ((left : Left) → P left → Q left → R left) → (calls : List Left) → Each P calls
    → Each Q calls → Each R calls
each-of P Q R both [] one two = tt
each-of P Q R both (left ∷ calls) one two = (both left one.0 two.0, each-of P Q R both calls one.1 two.1)

module _ (slots : ℕ) (held : List (ℕ × Spooled)) where
  abbrev So : JournalView → List Happening → Type 0
  So = IsSo slots held

  abbrev CourseSo : Course JournalView → Type 0
  CourseSo = IsCourseSo slots held

  -- ---- what is listed

  module _ (file : SpoolFile) (good : IsGoodFile slots file) (listed : Record) where
    abbrev number : ℕ
    number = (standing_of_file file).next

    -- its message there
    abbrev message : Message
    message = record {
      number = number;
      stream = listed.stream;
      function = listed.function;
      body = (entry_of listed).body;
    }

    behind-good : IsGoodFile slots (file_behind file (Some listed))
    behind-good = record {
      slots_are = good.slots_are;
      no_gap = gapless-behind file.floor.value file.list message good.no_gap refl;
    }

    module _ (notes : List Happening) (is : Tells slots held (found_in file.list) None notes)
        (fits : fit_of (standing_of_file file) listed ≡ fit.Fits)
      where
        is-listing : Tells slots held (found_in file.list) (Some (number, entry_of listed))
            (Listing number listed ∷ notes)
        is-listing =
            listing-tells slots held (found_in file.list) notes is number listed
            (λ one has. all-below (first_in file) number file.list good.no_gap one has)
            (subst (λ (n : ℕ). room_in n (found_in file.list) (entry_of listed) ≡ true) good.slots_are
            (has-room file listed fits))

        has-listed : Tells slots held (found_in (file_behind file (Some listed)).list) None
            (Listed number listed ∷ Listing number listed ∷ notes)
        has-listed =
            subst
            (λ (stands : List (ℕ × Spooled)).
            Tells slots held stands None (Listed number listed ∷ Listing number listed ∷ notes))
            (sym (found-behind file.list message))
            (listed-tells slots held (found_in file.list) (Listing number listed ∷ notes) number listed is-listing)

  -- ---- a step with system bytes enough

  module _ (o : JournalView) (notes : List Happening) (so : So o notes) (input : Input HostCommand) (now : ℕ) where
    abbrev st : Standing
    st = standing_in o

    abbrev both : HostWent
    both = after_parts Some (parts st input now) (at_first o.node)

    abbrev Comes : HostWent → Type 0
    Comes went = CourseSo (went_on (went_with_file o.file went) notes)

    spent-so : (met : HostStep) → AreQuiet met.notes → AreUnwritten met.notes → Comes (Spent met)
    spent-so met quiet free = (
      (quiet-tells slots held (found_in o.file.list) None met.notes notes quiet so.tells).keeps,
      turns-behind met.notes notes free so.turns,
    )

    ended-quiet : (met : HostStep) → AreQuiet met.notes → AreQuiet (ended_step now met).notes
    ended-quiet met quiet =
        subst AreQuiet (sym (ended-notes now met)) (quiet-both met.notes (StepEnded ∷ []) quiet (refl, tt))

    -- a step that goes on ends with its end
    ended-notes-behind :
        (met : HostStep)
        → noted_behind (ended_step now met).notes notes ≡ StepEnded ∷ noted_behind met.notes notes
    ended-notes-behind met =
        ap (λ (ns : List Happening). noted_behind ns notes) (ended-notes now met)
        ∙ behind-both met.notes (StepEnded ∷ []) notes

    none-so : (met : HostStep) → AreQuiet met.notes → AreUnwritten met.notes → listed_of met.next.own.delivered ≡ None
        → Comes (Goes (ended_step now met))
    none-so met quiet free none =
        subst
        (λ (listed : Option Record).
        So (record { node = (ended_step now met).next; file = file_behind o.file listed; has_ended = false })
        (noted_behind (ended_step now met).notes notes))
        (sym none)
        (record {
          file = so.file;
          tells =
              quiet-tells slots held (found_in o.file.list) None (ended_step now met).notes notes
              (ended-quiet met quiet)
              so.tells;
          ended = subst AreEnded (sym (ended-notes-behind met)) tt;
          turns = subst WriteInTurn (sym (ended-notes-behind met)) (turns-behind met.notes notes free so.turns);
        })

    -- with both lines more
    abbrev listing : HostStep → Record → HostStep
    listing met listed = more now met st.next listed

    listing-notes :
        (met : HostStep) (listed : Record)
        → noted_behind (ended_step now (listing met listed)).notes notes
        ≡ StepEnded ∷ Listed st.next listed ∷ Listing st.next listed ∷ noted_behind met.notes notes
    listing-notes met listed =
        ap (λ (ns : List Happening). noted_behind ns notes)
        (ended-notes now (listing met listed)
        ∙ ap (λ (ns : List Happening). ns ++ StepEnded ∷ [])
        (append_assoc met.notes (Listing st.next listed ∷ []) (Listed st.next listed ∷ []))
        ∙ append_assoc met.notes (Listing st.next listed ∷ Listed st.next listed ∷ []) (StepEnded ∷ []))
        ∙ behind-both met.notes (Listing st.next listed ∷ Listed st.next listed ∷ StepEnded ∷ []) notes

    met-tells : (met : HostStep) → AreQuiet met.notes
        → Tells slots held (found_in o.file.list) None (noted_behind met.notes notes)
    met-tells met quiet = quiet-tells slots held (found_in o.file.list) None met.notes notes quiet so.tells

    one-so : (met : HostStep) (listed : Record) → AreQuiet met.notes → AreUnwritten met.notes
        → listed_of met.next.own.delivered ≡ Some listed → fit_of st listed ≡ fit.Fits
        → Comes (Goes (ended_step now (listing met listed)))
    one-so met listed quiet free some fits =
        subst
        (λ (one : Option Record).
        So
        (record {
          node = (ended_step now (listing met listed)).next;
          file = file_behind o.file one;
          has_ended = false;
        }) (noted_behind (ended_step now (listing met listed)).notes notes))
        (sym some)
        (record {
          file = behind-good o.file so.file listed;
          tells =
              subst (λ (ns : List Happening). Tells slots held (found_in (file_behind o.file
              (Some listed)).list) None ns)
              (sym (listing-notes met listed))
              (quiet-tell slots held (found_in (file_behind o.file (Some listed)).list) None StepEnded
              (Listed st.next listed ∷ Listing st.next listed ∷ noted_behind met.notes notes) refl
              (has-listed o.file so.file listed (noted_behind met.notes notes) (met-tells met quiet) fits));
          ended = subst AreEnded (sym (listing-notes met listed)) tt;
          turns = subst WriteInTurn (sym (listing-notes met listed)) (turns-behind met.notes notes free so.turns);
        })

    met-so : (met : HostStep) → first input now o.node ≡ Goes met → AreQuiet met.notes → AreUnwritten met.notes
        → Comes both
    met-so met is quiet free = by-listed (listed_of met.next.own.delivered) refl
      where
        by-fit : (listed : Record) → listed_of met.next.own.delivered ≡ Some listed → (f : Fit) → fit_of st listed ≡ f
            → Comes both
        by-fit listed some fit.Fits fits =
            subst Comes (sym (lists-one input now o.node st met is listed some fits))
            (one-so met listed quiet free some fits)
        by-fit listed some fit.Full full =
            subst Comes (sym (lists-full input now o.node st met is listed some full)) (spent-so met quiet free)
        by-fit listed some fit.NumbersSpent spent =
            subst Comes (sym (lists-spent input now o.node st met is listed some spent)) (spent-so met quiet free)

        by-listed : (listed : Option Record) → listed_of met.next.own.delivered ≡ listed → Comes both
        by-listed None none =
            subst Comes (sym (lists-none input now o.node st met is none)) (none-so met quiet free none)
        by-listed (Some listed) some = by-fit listed some (fit_of st listed) refl

    pub acts-so : Comes both
    acts-so = go (first input now o.node) refl (first-quiet input now o.node) (first-unwritten input now o.node)
      where
        go : (went : HostWent) → first input now o.node ≡ went → AreQuiet (step_in went).notes
            → AreUnwritten (step_in went).notes → Comes both
        go (Goes met) is quiet free = met-so met is quiet free
        go (Spent met) is quiet free = subst Comes (sym (journal-spent input now o.node st met is))
            (spent-so met quiet free)

  -- ---- a step

  module _ (s : JournalView) (notes : List Happening) (so : So s notes) (input : Input HostCommand) (now : ℕ) where
    -- as it begins, its file holds the same
    reserved-so : So (reserved s) notes
    reserved-so = record {
      file = record {
        slots_are = so.file.slots_are;
        no_gap = so.file.no_gap;
      };
      tells = so.tells;
      ended = so.ended;
      turns = so.turns;
    }

    pub act-so : CourseSo (went_on (act s input now) notes)
    act-so = go s.has_ended (needs_numbers s) (is_marked_out s.file.mark.value)
      where
        go : (ended needs out : Bool)
            → CourseSo
            (went_on
            (and_then
            (if ended then Spent (at_first s)
            else (if needs then if out then Spent (at_first s) else Goes (at_first (reserved s))
            else Goes (at_first s)))
            (acts_on input now)) notes)
        go true needs out = (so.tells.keeps, so.turns)
        go false true true = (so.tells.keeps, so.turns)
        go false true false = acts-so (reserved s) notes reserved-so input now
        go false false out = acts-so s notes so input now

    -- ---- where its power is lost

    -- what is told then, and what is left
    pub record IsLostSo (front : List Happening) (left : Left) : Type 0 where
      pub storing : Option (ℕ × Spooled)
      pub tells : Tells slots held (found_in s.file.list) storing (noted_behind front notes)
      pub turns : WriteInTurn (noted_behind front notes)
      pub good : LeavesGood (IsGoodFile slots) left
      pub found : Leaves s.file.list storing None left

    lost-each :
        (front : List Happening) (storing : Option (ℕ × Spooled)) (calls : List Left)
        → Tells slots held (found_in s.file.list) storing (noted_behind front notes)
        → WriteInTurn (noted_behind front notes)
        → Each (LeavesGood (IsGoodFile slots)) calls → Each (Leaves s.file.list storing None) calls
        → Each (IsLostSo front) calls
    lost-each front storing calls tells turns =
        each-of (LeavesGood (IsGoodFile slots)) (Leaves s.file.list storing None) (IsLostSo front)
        (λ left good found.
        record { storing = storing; tells = tells; turns = turns; good = good; found = found })
        calls

    -- the same numbers in another state of gates
    good-as : (file : SpoolFile) → IsGoodFile slots file → (gates : List Bool)
        → IsGoodFile slots (record file { gates = gates })
    good-as file good gates =
        record { slots_are = good.slots_are; no_gap = good.no_gap }

    reserve-each : Each (IsLostSo []) (calls_at (standing_in s) Reserve)
    reserve-each =
        lost-each [] None (calls_at (standing_in s) Reserve) so.tells so.turns
        (each-work (IsGoodFile slots) (standing_in s) Reserve so.file (good-as s.file so.file) reserved-so.file)
        (each-call (standing_in s) Reserve None tt)

    module _ (o : JournalView) (o-so : So o notes) (same : o.file.list ≡ s.file.list) where
      abbrev here : Standing
      here = standing_in o

      put-each :
          (met : HostStep) (listed : Record) → AreQuiet met.notes → AreUnwritten met.notes
          → fit_of here listed ≡ fit.Fits
          → Each (IsLostSo (met.notes ++ Listing here.next listed ∷ [])) (calls_at here (Change (put_of listed)))
      put-each met listed quiet free fits =
          lost-each (met.notes ++ Listing here.next listed ∷ []) (Some (here.next, entry_of listed))
          (calls_at here (Change (put_of listed)))
          (subst
          (λ (ns : List Happening). Tells slots held (found_in s.file.list) (Some (here.next, entry_of listed)) ns)
          (sym (behind-both met.notes (Listing here.next listed ∷ []) notes))
          (subst
          (λ (list : List Message).
          Tells slots held (found_in list) (Some (here.next, entry_of listed))
          (Listing here.next listed ∷ noted_behind met.notes notes))
          same
          (is-listing o.file o-so.file listed (noted_behind met.notes notes)
          (quiet-tells slots held (found_in o.file.list) None met.notes notes quiet o-so.tells) fits)))
          (turns-behind (met.notes ++ Listing here.next listed ∷ []) notes
          (unwritten-both met.notes (Listing here.next listed ∷ []) free (tt, tt)) so.turns)
          (each-work (IsGoodFile slots) here (Change (put_of listed)) o-so.file (good-as o.file o-so.file)
          (behind-good o.file o-so.file listed))
          (subst
          (λ (list : List Message).
          Each (Leaves list (Some (here.next, entry_of listed)) None) (calls_at here (Change (put_of listed))))
          same (each-call here (Change (put_of listed)) None tt))

      abbrev noted : List Happening
      noted = noted_on input now (Goes (at_first o))

      -- the works of a step that goes on from here, with what is noted up to the turn of the line
      behind-each :
          AtEach IsLostSo here []
          (works_behind (went_with_file o.file (after_parts Some (parts here input now) (at_first o.node)))) noted
      behind-each = go (first input now o.node) refl (first-quiet input now o.node) (first-unwritten input now o.node)
        where
          Each-of : HostWent → Type 0
          Each-of went = AtEach IsLostSo here [] (works_behind (went_with_file o.file went)) noted

          go : (went : HostWent) → first input now o.node ≡ went → AreQuiet (step_in went).notes
              → AreUnwritten (step_in went).notes
              → Each-of (after_parts Some (parts here input now) (at_first o.node))
          go (Spent met) is quiet free =
              subst Each-of (sym (journal-spent input now o.node here met is)) tt
          go (Goes met) is quiet free = by-listed (listed_of met.next.own.delivered) refl
            where
              All : Type 0
              All = Each-of (after_parts Some (parts here input now) (at_first o.node))

              by-fit : (listed : Record) → listed_of met.next.own.delivered ≡ Some listed → (f : Fit)
                  → fit_of here listed ≡ f → All
              by-fit listed some fit.Full full =
                  subst Each-of (sym (lists-full input now o.node here met is listed some full)) tt
              by-fit listed some fit.NumbersSpent spent =
                  subst Each-of (sym (lists-spent input now o.node here met is listed some spent)) tt
              by-fit listed some fit.Fits fits =
                  subst Each-of (sym (lists-one input now o.node here met is listed some fits))
                  (subst (λ (one : Option Record). AtEach IsLostSo here [] (put_works one) noted) (sym some) (
                    subst (λ (front : List Happening). Each (IsLostSo front) (calls_at here (Change (put_of listed))))
                        (sym (up-to-listing o input now met is listed some fits))
                        (put-each met listed quiet free fits),
                    tt,
                  ))

              by-listed : (listed : Option Record) → listed_of met.next.own.delivered ≡ listed → All
              by-listed None none =
                  subst Each-of (sym (lists-none input now o.node here met is none))
                  (subst (λ (one : Option Record). AtEach IsLostSo here [] (put_works one) noted) (sym none) tt)
              by-listed (Some listed) some = by-fit listed some (fit_of here listed) refl

    -- each call of a step
    each-lost : AtEach IsLostSo (standing_in s) [] (works_of s input now) (noted_by s input now)
    each-lost = go s.has_ended (needs_numbers s) (is_marked_out s.file.mark.value)
      where
        go : (ended needs out : Bool)
            → (let begun =
            (if ended then Spent (at_first s)
            else (if needs then if out then Spent (at_first s) else Goes (at_first (reserved s))
            else Goes (at_first s)))
            in
            AtEach IsLostSo (standing_in s) []
            ((if needs && not out then Reserve ∷ [] else []) ++ works_behind (and_then begun (acts_on input now)))
            (noted_on input now begun))
        go true true true = tt
        go true true false = (reserve-each, tt)
        go true false out = tt
        go false true true = tt
        go false true false = (reserve-each, behind-each (reserved s) reserved-so refl)
        go false false out = behind-each s so refl

    lost-at : (loss : Loss JournalView) → Has (losses s input now) loss
        → IsAtCall (left_as s) IsLostSo (stops s input now) loss
    lost-at loss has =
        at-call (left_as s) IsLostSo (works_of s input now) (standing_in s) [] (noted_by s input now) loss each-lost has

    pub broken-so :
        (choice : CutChoice) (loss : Loss JournalView) → Has (losses s input now) loss
        → CourseSo
        (went_on (machine.restart (loss.left choice) now) (Happening.Power ∷ noted_behind loss.front notes))
    broken-so choice loss has =
        let at = lost-at loss has in
        subst
        (λ (left : JournalView).
        CourseSo (went_on (machine.restart left now) (Happening.Power ∷ noted_behind loss.front notes)))
        (sym (ap (λ (one : Loss JournalView). one.left choice) at.is))
        (start-so slots held s.node.own.plan (at.lost choice) (found_in s.file.list) at.at.storing
        (Happening.Power ∷ noted_behind loss.front notes) (at.at.good choice)
        (quiet-tell slots held (found_in s.file.list) at.at.storing Happening.Power (noted_behind loss.front notes) refl
        at.at.tells)
        at.at.turns (at.at.found choice))

    pub filled-so : (loss : Loss JournalView) → Has (losses s input now) loss
        → CourseSo (Stopped (noted_behind loss.front notes))
    filled-so loss has = let at = (lost-at loss has).at in (at.tells.keeps, at.turns)

  -- ---- all that it meets

  pub met-so-far : (meeting : Meeting HostCommand) (s : JournalView) (notes : List Happening) → So s notes
      → CourseSo (met_by machine meeting s notes)
  met-so-far (Acts input now) s notes so = act-so s notes so input now
  met-so-far (Restarts now) s notes so = anew-so slots held s s.node.own.plan notes so
  met-so-far (Writes characters) s notes so = record {
    file = so.file;
    tells = quiet-tell slots held (found_in s.file.list) None (Happening.Wrote characters) notes refl so.tells;
    ended = so.ended;
    turns = (so.ended, so.turns);
  }
  met-so-far LosesPower s notes so = record {
    file = so.file;
    tells = quiet-tell slots held (found_in s.file.list) None Happening.Power notes refl so.tells;
    ended = so.ended;
    turns = so.turns;
  }
  met-so-far (Breaks input now call choice) s notes so = go (call_of call (losses s input now)) refl
    where
      go : (at : Option (Loss JournalView)) → call_of call (losses s input now) ≡ at
          → CourseSo (broken_at machine now choice s notes at)
      go None is = so
      go (Some loss) is =
          broken-so s notes so input now choice loss (has-call call (losses s input now) loss is)
  met-so-far (Fills input now call) s notes so = go (call_of call (losses s input now)) refl
    where
      go : (at : Option (Loss JournalView)) → call_of call (losses s input now) ≡ at
          → CourseSo (filled_at s notes at)
      go None is = so
      go (Some loss) is = filled-so s notes so input now loss (has-call call (losses s input now) loss is)

-- over a file that held these messages
module _ (plan : HostPlan) (file : SpoolFile) (no_gap : HasNoGap file) where
  course-so : (meetings : List (Meeting HostCommand))
      → IsCourseSo file.slots (found_in file.list) (course_of (started_on plan file) machine meetings)
  course-so [] = record {
    file = record { slots_are = refl; no_gap = no_gap };
    tells = record {
      keeps = (refl, tt);
      newest = Happening.EquipmentStarted (found_in file.list) file.mark.value;
      before = [];
      some = refl;
      shelf = refl;
    };
    ended = tt;
    turns = tt;
  }
  course-so (meeting ∷ before) = go (course_of (started_on plan file) machine before) (course-so before)
    where
      go : (course : Course JournalView) → IsCourseSo file.slots (found_in file.list) course
          → IsCourseSo file.slots (found_in file.list) (with_meeting machine meeting course)
      go (Reached s notes) so = met-so-far file.slots (found_in file.list) meeting s notes so
      go (Stopped notes) keeps = keeps

  both-of : (course : Course JournalView) → IsCourseSo file.slots (found_in file.list) course
      → KeepsJournal (room_in file.slots) (found_in file.list) (notes_of course) × WriteInTurn (notes_of course)
  both-of (Reached s notes) so = (so.tells.keeps, so.turns)
  both-of (Stopped notes) both = both

pub journals-kept : JournalsAreKept
journals-kept plan file no_gap meetings =
    (both-of plan file no_gap (course_of (started_on plan file) machine meetings)
    (course-so plan file no_gap meetings)).0

pub journals-turn : JournalsWriteInTurn
journals-turn plan file no_gap meetings =
    (both-of plan file no_gap (course_of (started_on plan file) machine meetings)
    (course-so plan file no_gap meetings)).1
