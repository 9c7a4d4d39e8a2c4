-- The whole step of a host, and what it has delivered listed behind that: the same as where it is listed before the
-- turn of the line, but for the place of its notes among those that print none.
use Rattle.std.proofs.Common.{◌≡◌, refl, sym, ap, ◌∙◌, ℕ, List, [], ◌∷◌, ◌++◌, append-nil, append_assoc, Option, Some, None}
use Rattle.std.proofs.lemmas.List.Elements.{filter_map-append}
use Rattle.gem_spool.specs.Standing.{Standing}
use Rattle.host_journal.specs.declared.listing.Fit.{Fit}
use Rattle.host_journal.specs.declared.listing.Fit.TheVariants as fit
use Rattle.host_node.specs.Host.{HostOwn, Kind, host_machine, offers as offer_part}
use Rattle.message_end.specs.Core.{EndView, Went, and_then, at_first, carried, noted, offers, step_in, with_asked}
use Rattle.message_end.specs.Core.Went.{Goes, Spent}
use Rattle.message_end.specs.Duties.{all_done}
use Rattle.message_end.specs.Ends.{Input, printed}
use Rattle.message_end.specs.Parts.{Node, Part, after_parts, closes, core_step, went_with, with_own}
use Rattle.message_end.proofs.PartsKept.{step_ended}
use Rattle.trace_log.specs.declared.commands.HostCommand.{HostCommand}
use Rattle.trace_log.specs.Log.{Happening}
use Rattle.trace_log.specs.Log.Happening.{Listed, Listing, StepEnded}
use Rattle.trace_log.specs.Names.{Record}
use Rattle.trace_log.specs.Text.{note_of, printed_note}
use Rattle.journal_node.specs.Journal.{first_parts, fit_of, listed_by, listed_of, listing_commands, lists, parts}
use Rattle.journal_node.proofs.HostHalves.{HostStep}
use Rattle.journal_node.proofs.Lawful.{parts-both}
use Rattle.journal_node.proofs.Reached.{CoreStep, IsBehind, offers-behind}

abbrev pub HostWent : Type 0
HostWent = Went (Node HostOwn Kind) Happening

-- the line has its turn, and the step ends
abbrev pub ended : ℕ → HostStep → HostStep
ended now step =
    step_ended
    (with_own step.next.own (offers step.next.core.line.phase step.next.core.line.held now (core_step step)))

goes-inj : (a b : HostStep) → Goes a ≡ Goes b → a ≡ b
goes-inj a b same = ap (λ (went : HostWent). step_in went) same

spent-inj : (a b : HostStep) → Spent a ≡ Spent b → a ≡ b
spent-inj a b same = ap (λ (went : HostWent). step_in went) same

module _ (input : Input HostCommand) (now : ℕ) (node : Node HostOwn Kind) where
  abbrev pub first : HostWent
  first = after_parts Some (first_parts input now) (at_first node)

  abbrev rest : List (Part HostOwn Kind)
  rest = offer_part now ∷ closes ∷ []

  host-is : host_machine.act node input now ≡ and_then first (after_parts Some rest)
  host-is = parts-both (first_parts input now) rest (at_first node)

  journal-is : (st : Standing)
      → after_parts Some (parts st input now) (at_first node) ≡ and_then first (after_parts Some (lists st ∷ rest))
  journal-is st = parts-both (first_parts input now) (lists st ∷ rest) (at_first node)

  -- where the host goes on it has met its input, and then the line had its turn
  pub record IsMet (step : HostStep) : Type 0 where
    pub met : HostStep
    pub is : first ≡ Goes met
    pub ends : ended now met ≡ step

  pub host-goes : (step : HostStep) → host_machine.act node input now ≡ Goes step → IsMet step
  host-goes step goes = go first refl (sym host-is ∙ goes)
    where
      go : (went : HostWent) → first ≡ went → and_then went (after_parts Some rest) ≡ Goes step → IsMet step
      go (Goes met) is same = record { met = met; is = is; ends = goes-inj (ended now met) step same }
      go (Spent met) is same = absurd (cc)

  pub host-spent : (step : HostStep) → host_machine.act node input now ≡ Spent step → first ≡ Spent step
  host-spent step spent = go first refl (sym host-is ∙ spent)
    where
      go : (went : HostWent) → first ≡ went → and_then went (after_parts Some rest) ≡ Spent step → first ≡ Spent step
      go (Goes met) is same = absurd (cc)
      go (Spent met) is same = is ∙ same

  pub journal-spent : (st : Standing) (step : HostStep) → first ≡ Spent step
      → after_parts Some (parts st input now) (at_first node) ≡ Spent step
  journal-spent st step spent =
      journal-is st ∙ ap (λ (went : HostWent). and_then went (after_parts Some (lists st ∷ rest))) spent

  -- what is made of what was met
  module _ (st : Standing) (met : HostStep) (is : first ≡ Goes met) where
    abbrev both : HostWent
    both = after_parts Some (parts st input now) (at_first node)

    by-met : both ≡ after_parts Some (lists st ∷ rest) met
    by-met = journal-is st ∙ ap (λ (went : HostWent). and_then went (after_parts Some (lists st ∷ rest))) is

    -- by what was delivered
    abbrev listing_of : Option Record → HostWent
    listing_of listed =
        and_then
        (went_with met.next.own
        (and_then (carried Some (listing_commands st listed) (core_step met)) (all_done Some [])))
        (after_parts Some rest)

    by-listed : (listed : Option Record) → listed_of met.next.own.delivered ≡ listed → both ≡ listing_of listed
    by-listed listed same = by-met ∙ ap listing_of same

    pub lists-none : listed_of met.next.own.delivered ≡ None → both ≡ Goes (ended now met)
    lists-none none = by-listed None none

    -- with both notes more
    abbrev pub with_both : Record → HostStep
    with_both listed = noted Some (Listed st.next listed) (noted Some (Listing st.next listed) met)

    by-fit : (listed : Record) (f : Fit) → listed_of met.next.own.delivered ≡ Some listed → fit_of st listed ≡ f
        → both
        ≡ and_then
        (went_with met.next.own
        (and_then (carried Some (listed_by f st.next listed) (core_step met)) (all_done Some [])))
        (after_parts Some rest)
    by-fit listed f some is_so =
        by-listed (Some listed) some
        ∙ ap
        (λ (x : Fit).
        and_then
        (went_with met.next.own
        (and_then (carried Some (listed_by x st.next listed) (core_step met)) (all_done Some [])))
        (after_parts Some rest)) is_so

    pub lists-one : (listed : Record) → listed_of met.next.own.delivered ≡ Some listed → fit_of st listed ≡ fit.Fits
        → both ≡ Goes (ended now (with_both listed))
    lists-one listed some fits = by-fit listed fit.Fits some fits

    pub lists-full : (listed : Record) → listed_of met.next.own.delivered ≡ Some listed → fit_of st listed ≡ fit.Full
        → both ≡ Spent met
    lists-full listed some full = by-fit listed fit.Full some full

    pub lists-spent : (listed : Record) → listed_of met.next.own.delivered ≡ Some listed
        → fit_of st listed ≡ fit.NumbersSpent → both ≡ Spent met
    lists-spent listed some spent = by-fit listed fit.NumbersSpent some spent

-- an ended step prints what it has printed before its end, and is the same with more notes
module _ (now : ℕ) (met : HostStep) where
  abbrev core : CoreStep
  core = core_step met

  behind : (step : HostStep)
      → IsBehind (core_step step)
      (offers step.next.core.line.phase step.next.core.line.held now (at_first step.next.core))
      (offers step.next.core.line.phase step.next.core.line.held now (core_step step))
  behind step = offers-behind step.next.core.line.phase step.next.core.line.held now (core_step step)

  pub ended-notes : (ended now met).notes ≡ met.notes ++ StepEnded ∷ []
  ended-notes = ap (λ (ns : List Happening). ns ++ StepEnded ∷ []) (behind met).notes

  pub ended-printed : printed (ended now met).notes ≡ printed met.notes
  ended-printed =
      ap (λ (ns : List Happening). printed ns) ended-notes
      ∙ filter_map-append printed_note met.notes (StepEnded ∷ []) ∙ append-nil (printed met.notes)

  -- with two notes more it comes to the same, and these stand behind what was printed
  module _ (number : ℕ) (listed : Record) where
    abbrev pub more : HostStep
    more = noted Some (Listed number listed) (noted Some (Listing number listed) met)

    pub more-next : (ended now more).next ≡ (ended now met).next
    more-next =
        ap (λ (e : EndView Kind). record { own = met.next.own; core = with_asked None e })
        ((behind more).next ∙ sym (behind met).next)

    pub more-written : (ended now more).written ≡ (ended now met).written
    more-written = (behind more).written ∙ sym (behind met).written

    pub more-printed :
        printed (ended now more).notes
        ≡ printed met.notes ++ note_of (Listing number listed) ∷ note_of (Listed number listed) ∷ []
    more-printed =
        ap (λ (ns : List Happening). printed (ns ++ StepEnded ∷ [])) (behind more).notes
        ∙ ap (λ (ns : List Happening). printed ns)
        (ap (λ (ns : List Happening). ns ++ StepEnded ∷ [])
        (append_assoc met.notes (Listing number listed ∷ []) (Listed number listed ∷ []))
        ∙ append_assoc met.notes (Listing number listed ∷ Listed number listed ∷ []) (StepEnded ∷ []))
        ∙ filter_map-append printed_note met.notes (Listing number listed ∷ Listed number listed ∷ StepEnded ∷ [])
