-- A step that ends early has listed nothing, whatever the host was before.
use Rattle.std.proofs.Common.{◌≡◌, refl, sym, ap, subst, ◌∙◌, Bool, true, false, ℕ, List, [], ◌∷◌, ◌++◌, Option, Some, None, if◌then◌else◌}
use Rattle.block_codec.specs.declared.header.Header.{Header}
use Rattle.line_end.specs.declared.event.LineEvent.{LineEvent}
use Rattle.line_end.specs.declared.event.LineEvent.TheVariants.{Arrived, Failed, Nothing as NothingCame, Refused, Sent}
use Rattle.line_end.specs.Step.{LineCall, line_step}
use Rattle.gem_spool.specs.Standing.{Standing}
use Rattle.host_journal.specs.declared.listing.Fit.{Fit}
use Rattle.host_journal.specs.declared.listing.Fit.TheVariants as fit
use Rattle.message_flow.specs.Assembly.{flow_to, with_block}
use Rattle.message_flow.specs.declared.flow.Flow.{Flow}
use Rattle.message_flow.specs.declared.flow.Flow.TheVariants.{Part as PartOf, Whole, Duplicate, Foreign, Unexpected, TooLong, Crowded}
use Rattle.message_flow.specs.declared.message.Message.{Message}
use Rattle.spool_file.specs.File.{SpoolFile}
use Rattle.trace_log.specs.declared.commands.HostCommand.{HostCommand}
use Rattle.spool_works.specs.DiskWorks.{up_to_change}
use Rattle.trace_log.specs.Log.{Happening, is_before_change}
use Rattle.trace_log.specs.Names.{Record}
use Rattle.message_end.specs.Calls.{failed_as, failed_at, took_by}
use Rattle.message_end.specs.Core.{EndView, Step, Went, and_then, at_first, calls, carried, held_header, judges, step_in, takes_back, tells, with_assembly, with_end}
use Rattle.message_end.specs.Core.Command.{Take, Tick}
use Rattle.message_end.specs.Core.Went.{Goes, Spent}
use Rattle.message_end.specs.Duties.{all_done}
use Rattle.message_end.specs.Ends.{Input}
use Rattle.message_end.specs.Ends.Input.{Char, Command as Told, Time}
use Rattle.message_end.specs.Parts.{Node, after_parts, after_turn, closes, core_after, core_step, went_with}
use Rattle.message_end.specs.declared.end.Took.{Took}
use Rattle.message_end.specs.declared.end.Took.TheVariants as took
use Rattle.host_node.specs.Host.{HostOwn, HostTurn, Kind, breaks, brings, ends_late, given, late_duties, obeys, offers, ticks, undelivered}
use Rattle.spool_law.specs.Listing.{BeginsNoneEarly, IsNoListing, ListNothing, NeverListsEarly}
use Rattle.journal_node.specs.End.{machine}
use Rattle.journal_node.specs.Journal.{acts_on, first_parts, fit_of, is_marked_out, listed_by, listed_of, listing_commands, lists, needs_numbers, parts, reserved, standing_in, went_with_file}
use Rattle.journal_node.proofs.FreeNotes.{AreFreeDuties, IsFree, done-keep}
use Rattle.journal_node.proofs.Lawful.{parts-both}
use Rattle.journal_node.proofs.FreeParts.{breaks-free, heeds-free, late-free, obeys-free}

abbrev HostStep : Type 0
HostStep = Step (Node HostOwn Kind) Happening

abbrev HostWent : Type 0
HostWent = Went (Node HostOwn Kind) Happening

-- ---- the parts up to the input

-- what holds of no notes, of one free note more, and of one message received more, holds of what they note
module _ (P : List Happening → Type 0)
    (more : (notes : List Happening) (what : Happening) → IsFree what → P notes → P (notes ++ what ∷ []))
    (heard : (notes : List Happening) (message : Message) → P notes → P (notes ++ Happening.Received message ∷ []))
  where
    abbrev pub OfNotes : HostWent → Type 0
    OfNotes went = P (step_in went).notes

    turn-notes : (own : HostOwn) (turn : HostTurn) (core : Step (EndView Kind) Happening) → AreFreeDuties turn.duties
        → P core.notes → OfNotes (went_with turn.own (all_done Some turn.duties core))
    turn-notes own turn core free is =
        go (all_done Some turn.duties core) (done-keep P more turn.duties core free is)
      where
        go : (went : Went (EndView Kind) Happening) → P (step_in went).notes → OfNotes (went_with turn.own went)
        go (Goes next) notes = notes
        go (Spent next) notes = notes

    module _ (own : HostOwn) (behind : EndView Kind) where
      abbrev Brings : Took → Step (EndView Kind) Happening → Type 0
      Brings brought next =
          OfNotes (went_with (brings own behind brought).own (all_done Some (brings own behind brought).duties next))

      failed-notes : (header : Option Header) (next : Step (EndView Kind) Happening) → P next.notes
          → Brings (failed_as header) next
      failed-notes None next is = turn-notes own (brings own behind took.Nothing) next ((λ e. tt), tt) is
      failed-notes (Some header) next is =
          turn-notes own (breaks own behind (Some header)) next (breaks-free own behind (Some header)).free is

      came-notes : (header : Header) (came : Flow) (before : Step (EndView Kind) Happening) → P before.notes
          → Brings (took.Came header came) (judges Some header came before)
      came-notes header (Whole message check) before is =
          turn-notes own (brings own behind (took.Came header (Whole message check)))
          (judges Some header (Whole message check) before) (heeds-free own behind header message).free
          (heard before.notes message is)
      came-notes header PartOf before is =
          turn-notes own (brings own behind (took.Came header PartOf)) (judges Some header PartOf before)
          ((λ e. tt), tt) is
      came-notes header Duplicate before is =
          turn-notes own (brings own behind (took.Came header Duplicate)) (judges Some header Duplicate before)
          ((λ e. tt), tt) (more before.notes (Happening.Duplicate header) tt is)
      came-notes header (Foreign address) before is =
          turn-notes own (brings own behind (took.Came header (Foreign address)))
          (judges Some header (Foreign address) before) ((λ e. tt), tt)
          (more before.notes (Happening.Foreign header) tt is)
      came-notes header Unexpected before is =
          turn-notes own (brings own behind (took.Came header Unexpected)) (judges Some header Unexpected before)
          ((λ e. (tt, tt)), tt) (more before.notes (Happening.Unexpected header) tt is)
      came-notes header TooLong before is =
          turn-notes own (brings own behind (took.Came header TooLong)) (judges Some header TooLong before)
          ((λ e. (tt, tt)), tt) (more before.notes (Happening.TooLongBlock header) tt is)
      came-notes header Crowded before is =
          turn-notes own (brings own behind (took.Came header Crowded)) (judges Some header Crowded before)
          ((λ e. (tt, tt)), tt) (more before.notes (Happening.Crowded header) tt is)

    given-notes :
        (input : Input HostCommand) (now : ℕ) (step : HostStep) → P step.notes
        → OfNotes (after_turn Some (given input now step.next.own step.next.core) step)
    given-notes Time now step is =
        turn-notes step.next.own (given Time now step.next.own step.next.core) (core_step step) ((λ e. tt), tt) is
    given-notes (Told command) now step is =
        turn-notes step.next.own (obeys command step.next.own step.next.core) (core_step step)
        (obeys-free command step.next.own step.next.core).free is
    given-notes (Char byte) now step is = go (line_step core.next.line (LineCall.Take byte now)).event
      where
        core : Step (EndView Kind) Happening
        core = core_step step

        called : Step (EndView Kind) Happening
        called = calls (LineCall.Take byte now) core

        go : (event : LineEvent)
            → Brings step.next.own (core_after (Take byte now) core.next) (took_by core.next event)
            (tells Some (held_header core.next.line.held) event now called)
        go (Arrived block) =
            came-notes step.next.own (core_after (Take byte now) core.next) block.header
            (flow_to core.next.assembly block)
            (with_end (takes_back block.header now (with_assembly
            (with_block called.next.assembly block now) called.next))
            called) is
        go Sent =
            failed-notes step.next.own (core_after (Take byte now) core.next) None
            (tells Some (held_header core.next.line.held) Sent now called) is
        go NothingCame = failed-notes step.next.own (core_after (Take byte now) core.next) None called is
        go Failed =
            failed-notes step.next.own (core_after (Take byte now) core.next)
            (held_header core.next.line.held) called is
        go (Refused cause) = failed-notes step.next.own (core_after (Take byte now) core.next) None called is

    notes-then : (went : HostWent) (next : HostStep → HostWent) → OfNotes went
        → ((step : HostStep) → P step.notes → OfNotes (next step)) → OfNotes (and_then went next)
    notes-then (Goes step) next is behind = behind step is
    notes-then (Spent step) next is behind = is

    pub first-notes : (input : Input HostCommand) (now : ℕ) (node : Node HostOwn Kind) → P []
        → OfNotes (after_parts Some (first_parts input now) (at_first node))
    first-notes input now node none =
        notes-then (after_turn Some (ticks now node.own node.core) (at_first node))
        (after_parts Some (ends_late now ∷ given input now ∷ []))
        (let behind = core_after (Tick now) node.core in
        turn-notes node.own (breaks (undelivered node.own) behind (failed_at node.core now))
        (calls (LineCall.Tick now) (core_step (at_first node)))
        (breaks-free (undelivered node.own) behind (failed_at node.core now)).free none)
        (λ step is.
        notes-then (after_turn Some (ends_late now step.next.own step.next.core) step)
        (after_parts Some (given input now ∷ []))
        (turn-notes step.next.own (record { own = step.next.own; duties = late_duties now }) (core_step step)
        (late-free now) is)
        (λ late is.
        notes-then (after_turn Some (given input now late.next.own late.next.core) late) (after_parts Some [])
        (given-notes input now late is) (λ last is. is)))

-- ---- notes without a listing

none-both : (xs ys : List Happening) → ListNothing xs → ListNothing ys → ListNothing (xs ++ ys)
none-both [] ys one two = two
none-both (x ∷ xs) ys one two = (one.0, none-both xs ys one.1 two)

none-more : (notes : List Happening) (what : Happening) → IsFree what → ListNothing notes
    → ListNothing (notes ++ what ∷ [])
none-more notes what free is = none-both notes (what ∷ []) is (one what free, tt)
  where
    one : (what : Happening) → IsFree what → IsNoListing what
    one (Happening.Listing number listed) free = absurd free
    one what free = tt

-- ---- notes before no change

abbrev pub ChangeNothing : List Happening → Type 0
ChangeNothing [] = Unit {0}
ChangeNothing (what ∷ notes) = (is_before_change what ≡ false) × ChangeNothing notes

unchanged-both : (xs ys : List Happening) → ChangeNothing xs → ChangeNothing ys → ChangeNothing (xs ++ ys)
unchanged-both [] ys one two = two
unchanged-both (x ∷ xs) ys one two = (one.0, unchanged-both xs ys one.1 two)

pub first-unchanged :
    (input : Input HostCommand) (now : ℕ) (node : Node HostOwn Kind)
    → ChangeNothing (step_in (after_parts Some (first_parts input now) (at_first node))).notes
first-unchanged input now node =
    first-notes ChangeNothing (λ notes what free is. unchanged-both notes (what ∷ []) is (one what free, tt))
    (λ notes message is. unchanged-both notes (Happening.Received message ∷ []) is (refl, tt)) input now node tt
  where
    one : (what : Happening) → IsFree what → is_before_change what ≡ false
    one (Happening.Storing number message) free = absurd free
    one (Happening.Leaving number cause room_for) free = absurd free
    one (Happening.Keeping primary) free = absurd free
    one (Happening.Listing number listed) free = absurd free
    one what free = refl

-- so a note before a change behind them is the first one
pub up-to : (notes rest : List Happening) (what : Happening) → ChangeNothing notes → is_before_change what ≡ true
    → up_to_change (notes ++ what ∷ rest) ≡ notes ++ what ∷ []
up-to [] rest what none is = ap (λ (b : Bool). what ∷ (if b then [] else up_to_change rest)) is
up-to (x ∷ notes) rest what none is =
    ap (λ (b : Bool). x ∷ (if b then [] else up_to_change (notes ++ what ∷ rest))) none.0
    ∙ ap (λ (ns : List Happening). x ∷ ns) (up-to notes rest what none.1 is)

-- ---- a step

parts-none :
    (st : Standing) (input : Input HostCommand) (now : ℕ) (node : Node HostOwn Kind)
    → BeginsNoneEarly (after_parts Some (parts st input now) (at_first node))
parts-none st input now node =
    subst (λ (went : HostWent). BeginsNoneEarly went)
    (sym (parts-both (first_parts input now) (lists st ∷ offers now ∷ closes ∷ []) (at_first node)))
    (by (after_parts Some (first_parts input now) (at_first node))
    (first-notes ListNothing none-more
    (λ notes message is. none-both notes (Happening.Received message ∷ []) is (tt, tt)) input now node tt))
  where
    lists-none :
        (step : HostStep) (listed : Option Record) → ListNothing step.notes
        → BeginsNoneEarly
        (and_then
        (went_with step.next.own
        (and_then (carried Some (listing_commands st listed) (core_step step)) (all_done Some [])))
        (after_parts Some (offers now ∷ closes ∷ [])))
    lists-none step None is = tt
    lists-none step (Some listed) is = go (fit_of st listed)
      where
        go : (f : Fit)
            → BeginsNoneEarly
            (and_then
            (went_with step.next.own
            (and_then (carried Some (listed_by f st.next listed) (core_step step)) (all_done Some [])))
            (after_parts Some (offers now ∷ closes ∷ [])))
        go fit.Fits = tt
        go fit.Full = is
        go fit.NumbersSpent = is

    by : (went : HostWent) → ListNothing (step_in went).notes
        → BeginsNoneEarly (and_then went (after_parts Some (lists st ∷ offers now ∷ closes ∷ [])))
    by (Goes step) is = lists-none step (listed_of step.next.own.delivered) is
    by (Spent step) is = is

pub lists-nothing-early : NeverListsEarly machine
lists-nothing-early s input now = ended s.has_ended (needs_numbers s) (is_marked_out s.file.mark.value)
  where
    by : (file : SpoolFile) (went : HostWent) → BeginsNoneEarly went → BeginsNoneEarly (went_with_file file went)
    by file (Goes step) is = tt
    by file (Spent step) is = is

    ended : (ended needs spent : Bool)
        → BeginsNoneEarly
        (and_then
        (if ended then Spent (at_first s)
        else (if needs then if spent then Spent (at_first s) else Goes (at_first (reserved s))
        else Goes (at_first s)))
        (acts_on input now))
    ended true needs spent = tt
    ended false true true = tt
    ended false true false =
        by (reserved s).file (after_parts Some (parts (standing_in (reserved s)) input now) (at_first
        (reserved s).node))
        (parts-none (standing_in (reserved s)) input now (reserved s).node)
    ended false false spent =
        by s.file (after_parts Some (parts (standing_in s) input now) (at_first s.node))
        (parts-none (standing_in s) input now s.node)
