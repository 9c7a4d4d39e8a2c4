-- What is noted where the disk fails in a put: all up to its first line.
use Rattle.std.proofs.Common.{◌≡◌, refl, ap, subst, ◌∙◌, ℕ, [], ◌∷◌, ◌++◌, append_assoc, Option, Some}
use Rattle.host_journal.specs.declared.listing.Fit.{Fit}
use Rattle.host_journal.specs.declared.listing.Fit.TheVariants as fit
use Rattle.journal_node.specs.Journal.{JournalView, first_parts, fit_of, listed_by, listed_of, listing_commands, lists, noted_on, standing_in}
use Rattle.journal_node.proofs.Commuting.{HostWent, first}
use Rattle.journal_node.proofs.EarlyNotes.{ChangeNothing, first-unchanged, up-to}
use Rattle.journal_node.proofs.HostHalves.{HostStep}
use Rattle.journal_node.proofs.Lawful.{parts-both}
use Rattle.message_end.specs.Core.{and_then, at_first, carried, step_in}
use Rattle.message_end.specs.Core.Went.{Goes}
use Rattle.message_end.specs.Duties.{all_done}
use Rattle.message_end.specs.Ends.{Input}
use Rattle.message_end.specs.Parts.{after_parts, core_step, went_with}
use Rattle.spool_works.specs.DiskWorks.{up_to_change}
use Rattle.trace_log.specs.declared.commands.HostCommand.{HostCommand}
use Rattle.trace_log.specs.Log.Happening.{Listed, Listing}
use Rattle.trace_log.specs.Names.{Record}

module _ (o : JournalView) (input : Input HostCommand) (now : ℕ) (met : HostStep) (is : first input now o.node
    ≡ Goes met)
    (listed : Record) (some : listed_of met.next.own.delivered ≡ Some listed)
    (fits : fit_of (standing_in o) listed ≡ fit.Fits)
  where
    abbrev number : ℕ
    number = (standing_in o).next

    noted-are :
        noted_on input now (Goes (at_first o))
        ≡ (met.notes ++ Listing number listed ∷ []) ++ Listed number listed ∷ []
    noted-are =
        ap (λ (went : HostWent). (step_in went).notes)
        (parts-both (first_parts input now) (lists (standing_in o) ∷ []) (at_first o.node)
        ∙ ap (λ (went : HostWent). and_then went (after_parts Some (lists (standing_in o) ∷ []))) is
        ∙ ap
        (λ (one : Option Record).
        and_then
        (went_with met.next.own
        (and_then (carried Some (listing_commands (standing_in o) one) (core_step met)) (all_done Some [])))
        (after_parts Some [])) some
        ∙ ap
        (λ (f : Fit).
        and_then
        (went_with met.next.own
        (and_then (carried Some (listed_by f number listed) (core_step met)) (all_done Some [])))
        (after_parts Some [])) fits)

    pub up-to-listing :
        up_to_change (noted_on input now (Goes (at_first o))) ≡ met.notes ++ Listing number listed ∷ []
    up-to-listing =
        ap up_to_change (noted-are ∙ append_assoc met.notes (Listing number listed ∷ []) (Listed number listed ∷ []))
        ∙ up-to met.notes (Listed number listed ∷ []) (Listing number listed)
        (subst (λ (went : HostWent). ChangeNothing (step_in went).notes) is (first-unchanged input now o.node)) refl
