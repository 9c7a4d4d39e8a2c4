-- A step as a whole, from what the code says of its pieces.
use Rattle.std.proofs.Common.{◌≡◌, refl, sym, ap, subst, ◌∙◌, inl, inr, arith, ◌+◌, ◌&&◌, not, Bool, true, false, ℕ, List, [], ◌∷◌, ◌++◌, Option, Some, None, if◌then◌else◌}
use Rattle.std.proofs.lemmas.Bool.Decides.{nat_tests}
use Rattle.std.specs.List.{slice_get}
use Rattle.std.specs.Prelude.{Result, Ok, Err}
use Rattle.disk_base.specs.Story.{Story}
use Rattle.disk_base.specs.Through.{EachImage, GoesThrough}
use Rattle.disk_base.specs.declared.disk.Disk as disk
use Rattle.gem_spool.specs.Standing.{Standing}
use Rattle.gem_spool.specs.declared.spool.GemSpool.{GemSpool}
use Rattle.host_journal.specs.declared.listing.Fit.{Fit}
use Rattle.host_journal.specs.declared.listing.Fit.TheVariants as fit
use Rattle.host_node.specs.Host.{HostOwn, Kind, offers}
use Rattle.message_end.specs.Core.{Went, and_then, at_first, carried, step_in}
use Rattle.message_end.specs.Core.Went.{Goes, Spent}
use Rattle.message_end.specs.Ends.{Input, IsEmpty}
use Rattle.message_end.specs.Own.{Has}
use Rattle.message_end.specs.Duties.{all_done}
use Rattle.message_end.specs.Parts.{Node, after_parts, closes, core_step, went_with}
use Rattle.message_flow.specs.declared.step.StepOut.{StepOut}
use Rattle.spool_works.specs.DiskWorks.{DiskWork, fronts_of}
use Rattle.spool_works.specs.DiskWorks.DiskWork.{Reserve}
use Rattle.trace_log.specs.declared.commands.HostCommand.{HostCommand}
use Rattle.trace_log.specs.Log.{Happening}
use Rattle.trace_log.specs.Names.{Record}
use Rattle.journal_node.specs.declared.journal_host.JournalEnded.{JournalEnded}
use Rattle.journal_node.specs.declared.journal_host.JournalEnded.TheVariants as ended
use Rattle.journal_node.specs.Amid.{Acts, HasOpened, Opens}
use Rattle.journal_node.specs.Causes.{IsEndedByCause, has_no_number, lacks_number, lacks_numbers, spent_behind, spent_on}
use Rattle.journal_node.specs.Held.{Held, IsIn, IsReady, Moves, view_in}
use Rattle.journal_node.specs.Journal.{JournalView, act, acts_on, begins, first_parts, fit_of, has_no_room, is_full, is_marked_out, lacks_behind, lacks_on, lacks_room, listed_by, listed_of, listing_commands, lists, node_step, noted_by, standing_in, went_with_file}
use Rattle.journal_node.specs.Left.{Holds}
use Rattle.journal_node.specs.Works.{reserve_works, stops, works_behind, works_of}
use Rattle.journal_node.proofs.Commuting.{HostWent}
use Rattle.journal_node.proofs.HostHalves.{HostStep}
use Rattle.journal_node.proofs.Lawful.{parts-both}
use Rattle.journal_node.proofs.OnDisk.{few-needs, held, opens, opens-none}
use Rattle.journal_node.proofs.StepMoves.{ends-full, ends-numberless, ends-spent, ends-stopped, ends-wanting, lists-wanting, moves-on}

same-story : (a b : Story) → Some a ≡ Some b → a ≡ b
same-story a b same = cc

pub at-last : (s : Story) (after : Option Story) (P : List ℕ → Type 0) (t : Story) → GoesThrough s after P → after
    ≡ Some t
    → EachImage P t.now
at-last s after P t through is =
    subst (λ (x : Story). EachImage P x.now) (same-story through.0 t (sym through.1 ∙ is)) through.2.last

module _ {D : Type 0} (members : disk.Ghosts D) (h : Held D) (input : Input HostCommand) (now : ℕ) where
  abbrev s : JournalView
  s = view_in members h

  -- it has system bytes enough
  pub acts-move :
      (node : Node HostOwn Kind) (g : GemSpool D) → HasOpened members s node g → (out : StepOut)
      (result : Result (Held D) (JournalEnded D)) → Acts members node g input now out result
      → Moves members h input now out result
  acts-move node g at out (Ok k) acts =
      let moved = moves-on members s node g at input now k out acts in
      record { gone = moved.0; in_state = moved.1 }
  acts-move node g at out (Err (ended.NoMemory spent)) (inl ends) =
      ends-wanting members s node g at input now out spent ends.0 ends.1
  acts-move node g at out (Err (ended.NoMemory spent)) (inr lists) =
      lists-wanting members s node g at input now out spent lists
  acts-move node g at out (Err (ended.NumbersSpent spent)) (inl ends) =
      ends-spent members s node g at input now out spent ends.0 ends.1
  acts-move node g at out (Err (ended.NumbersSpent spent)) (inr lists) =
      ends-numberless members s node g at input now out spent lists
  acts-move node g at out (Err (ended.JournalFull spent)) (inl ends) = absurd ends
  acts-move node g at out (Err (ended.JournalFull spent)) (inr lists) =
      ends-full members s node g at input now out spent lists
  acts-move node g at out (Err (ended.DiskFailed spent)) (inl ends) = absurd ends
  acts-move node g at out (Err (ended.DiskFailed spent)) (inr lists) =
      ends-stopped members s node g at input now out spent lists

  pub step-moves :
      (node : Node HostOwn Kind) (g : GemSpool D) (out : StepOut) (result : Result (Held D) (JournalEnded D))
      → IsReady h.journal.spool h.host → IsIn members h → Opens members h.host h.journal node (Ok g)
      → Acts members node g input now out result → Moves members h input now out result
  step-moves node g out result ready on opened acts =
      acts-move node g (opens members s refl h.host node h.journal g refl on ready opened) out result acts

  -- ---- it hasn't

  pub not-opened :
      (node : Node HostOwn Kind) (out : StepOut) (end : JournalEnded D) → IsEmpty out
      → IsIn members h → Opens members h.host h.journal node (Err end) → Moves members h input now out (Err end)
  not-opened node out (ended.NumbersSpent spent) empty on none =
      let begins_is = opens-none members s refl h.host h.journal spent refl on none in
      let spent_is = ap (λ (went : Went JournalView Happening). and_then went (acts_on input now)) begins_is in (
        record { step = at_first s; is = spent_is; notes = empty.notes; quiet = empty.line },
        ap (lacks_on input now) begins_is,
        λ t told image image_is.
            subst (λ (went : Went JournalView Happening). Holds (standing_in (step_in went).next) t.now) (sym spent_is)
            (held members h.journal.spool (standing_in s) spent none.same_disk on.stands t told) image image_is,
      )
  not-opened node out (ended.DiskFailed spent) empty on failed =
      let most = failed.reserve.0 in
      let mark = on.stands.mark in
      let room : is_marked_out s.file.mark.value ≡ false = grind (arith, nat_tests, most, mark) in
      let works : reserve_works s ≡ Reserve ∷ [] =
      ap (λ (b : Bool). if b && not (is_marked_out s.file.mark.value) then Reserve ∷ [] else [])
      (few-needs members s refl h.host refl failed.few)
      ∙ ap (λ (b : Bool). if true && not b then Reserve ∷ [] else []) room in
      let all : works_of s input now ≡ Reserve ∷ works_behind (act s input now) =
      ap (λ (first : List DiskWork). first ++ works_behind (act s input now)) works in
      let fronts : stops s input now
      ≡ [] ∷ fronts_of [] (works_behind (act s input now)) (noted_by s input now) =
      ap (λ (works : List DiskWork). fronts_of [] works (noted_by s input now)) all in (
        record {
          front = [];
          may = subst (λ (all : List (List Happening)). Has all []) (sym fronts) (inl refl);
          first = record { rest = (step_in (act s input now)).notes; whole = refl };
          notes = empty.notes;
          quiet = empty.line;
        },
        λ t told. record {
          place = 0;
          work = Reserve;
          is = ap (λ (works : List DiskWork). slice_get works 0) all;
          front = [];
          front_is = ap (λ (all : List (List Happening)). slice_get all 0) fronts;
          notes = empty.notes;
          left =
              at-last on.told.0 _ _ t (failed.moments (standing_in s) on.stands on.told.0 on.told.1) told;
        },
      )
  not-opened node out (ended.JournalFull spent) empty on none = absurd none
  not-opened node out (ended.NoMemory spent) empty on none = absurd none

-- ---- by their causes

abbrev EndsBy : Went JournalView Happening → (spent full : Bool) → Type 0
EndsBy (Goes step) spent full = (spent ≡ false) × (full ≡ false)
EndsBy (Spent step) spent full = full ≡ false → spent ≡ true

caused : (s : JournalView) (input : Input HostCommand) (now : ℕ)
    → EndsBy (act s input now) (lacks_numbers s input now) (lacks_room s input now)
caused s input now = go (begins s)
  where
    go : (went : Went JournalView Happening)
        → EndsBy (and_then went (acts_on input now)) (spent_on input now went) (lacks_on input now went)
    go (Spent step) = λ none. refl
    go (Goes step) =
        subst
        (λ (went : HostWent).
        EndsBy (went_with_file step.next.file went)
        (spent_behind st (after_parts Some (first_parts input now) (node_step step)))
        (lacks_behind st (after_parts Some (first_parts input now) (node_step step))))
        (sym (parts-both (first_parts input now) (lists st ∷ offers now ∷ closes ∷ []) (node_step step)))
        (by (after_parts Some (first_parts input now) (node_step step)))
      where
        st : Standing
        st = standing_in step.next

        listed-by :
            (met : HostStep) (listed : Option Record)
            → EndsBy
            (went_with_file step.next.file
            (and_then
            (went_with met.next.own
            (and_then (carried Some (listing_commands st listed) (core_step met)) (all_done Some [])))
            (after_parts Some (offers now ∷ closes ∷ []))))
            (has_no_number st listed) (has_no_room st listed)
        listed-by met None = (refl, refl)
        listed-by met (Some listed) = fits (fit_of st listed)
          where
            fits : (f : Fit)
                → EndsBy
                (went_with_file step.next.file
                (and_then
                (went_with met.next.own
                (and_then (carried Some (listed_by f st.next listed) (core_step met)) (all_done Some [])))
                (after_parts Some (offers now ∷ closes ∷ []))))
                (lacks_number f) (is_full f)
            fits fit.Fits = (refl, refl)
            fits fit.Full = λ full. absurd (cc)
            fits fit.NumbersSpent = λ full. refl

        by : (went : HostWent)
            → EndsBy
            (went_with_file step.next.file
            (and_then went (after_parts Some (lists st ∷ offers now ∷ closes ∷ []))))
            (spent_behind st went) (lacks_behind st went)
        by (Goes met) = listed-by met (listed_of met.next.own.delivered)
        by (Spent met) = λ none. refl

pub moved-by-cause :
    {D : Type 0} (members : disk.Ghosts D) (h : Held D) (input : Input HostCommand) (now : ℕ) (out : StepOut)
    (result : Result (Held D) (JournalEnded D)) → Moves members h input now out result
    → IsEndedByCause members h input now result
moved-by-cause members h input now out (Ok k) moves =
    subst
    (λ (went : Went JournalView Happening).
    EndsBy went (lacks_numbers (view_in members h) input now) (lacks_room (view_in members h) input now)) moves.gone.is
    (caused (view_in members h) input now)
moved-by-cause members h input now out (Err (ended.NumbersSpent spent)) moves =
    subst
    (λ (went : Went JournalView Happening).
    EndsBy went (lacks_numbers (view_in members h) input now) (lacks_room (view_in members h) input now)) moves.0.is
    (caused (view_in members h) input now) moves.1
moved-by-cause members h input now out (Err (ended.JournalFull spent)) moves = moves.1
moved-by-cause members h input now out (Err (ended.DiskFailed spent)) moves = tt
moved-by-cause members h input now out (Err (ended.NoMemory spent)) moves = tt
