-- All that is claimed of a run's log, from the laws of the crates below.
use Rattle.std.proofs.Common.{◌≡◌, ℕ, List, [], ◌∷◌, ◌++◌, refl, sym, ap, subst, ◌∙◌}
use Rattle.end_pair.specs.Laws.{AreNoNotes, IsOfMoves}
use Rattle.end_pair.specs.Noted.{AreOfCourses, TimedNotes, noted_by, timed_by}
use Rattle.equipment_tables.specs.Plan.{PlansFit}
use Rattle.equipment_tables.specs.declared.plan.EquipmentPlan.{EquipmentPlan}
use Rattle.equipment_tables.specs.declared.plan.Plans.{Plans}
use Rattle.gl_base.specs.declared.side.Side.TheVariants.{Equipment, Host}
use Rattle.journal_delivery.specs.Laws.{KeepJournalLaws}
use Rattle.journal_delivery.specs.Listed.{listed_log}
use Rattle.journal_law.specs.Kept.{room_in}
use Rattle.journal_law.specs.Turns.{WriteInTurn}
use Rattle.journal_node.specs.End as journal
use Rattle.journal_node.specs.Law as host
use Rattle.line_schedule.specs.declared.schedule.JournalSchedule.{JournalSchedule}
use Rattle.line_world.specs.Cuts.{AreSampledSoFar, untimed}
use Rattle.line_world.specs.Run.{equipment_start}
use Rattle.line_world.specs.Safe.{plans_of}
use Rattle.line_world.proofs.AtOnce.{same-notes}
use Rattle.line_world.proofs.Behind.{delivers, is-delivered}
use Rattle.line_world.proofs.Noted.{NotesHold, notes-hold}
use Rattle.line_world.proofs.Replies.{no-notes}
use Rattle.line_world.proofs.Spool.{holds-spool, moved-notes, spool-laws, taken-behind}
use Rattle.message_end.specs.Log as moves
use Rattle.spool_delivery.specs.Claims.{equipment_notes}
use Rattle.spool_delivery.specs.Laws.{IsSpoolTaken}
use Rattle.spool_file.specs.Format.{empty_file}
use Rattle.spool_law.specs.Journal.{KeepsJournal}
use Rattle.spool_law.specs.Listing.{AllStoredAreSpoolable}
use Rattle.spool_law.specs.Shelf.{Policy}
use Rattle.tool_law.specs.Laws.{DidOf}
use Rattle.tool_spool.specs.SpoolKept.{policy_of}
use Rattle.tool_step.specs.End as equipment
use Rattle.trace_log.specs.Log.{Entry, Happening}
use Rattle.trace_log.specs.Log.Entry.{Ended, Noted, Slipped}
use Rattle.journal_world.specs.Below.{LawsHold}
use Rattle.journal_world.specs.Run.{host_start, log_of}
use Rattle.journal_world.specs.Safe.{IsSafe}
use Rattle.journal_world.proofs.Listing.{listing-kept, owing-kept}

-- what no end has noted changes nothing of what is read as listed
listed-behind : (last log : List Entry) → AreNoNotes last → listed_log (last ++ log) ≡ last ++ listed_log log
listed-behind [] log none = refl
listed-behind (Noted moment side what ∷ last) log none = absurd none.0
listed-behind (Slipped moment side frame characters ∷ last) log none =
    ap (λ (rest : List Entry). Slipped moment side frame characters ∷ rest) (listed-behind last log none.1)
listed-behind (Ended moment ∷ last) log none =
    ap (λ (rest : List Entry). Ended moment ∷ rest) (listed-behind last log none.1)

-- what is put into the spool can be spooled, by what is said of trace data
stored-so : (plan : EquipmentPlan) (timed : TimedNotes) → AreSampledSoFar plan timed
    → AllStoredAreSpoolable (untimed timed)
stored-so plan [] sampled = tt
stored-so plan (note ∷ before) sampled = sampled.0.spoolable

module _ (plans : Plans) (slots : ℕ) (schedule : JournalSchedule) (fit : PlansFit plans) (laws : LawsHold)
    (moved :
    IsOfMoves (DidOf plans.equipment) (host.DidOf plans.host) (plans_of plans) (log_of plans slots schedule))
    (courses :
    AreOfCourses equipment.machine journal.machine (equipment_start plans) (host_start plans.host slots)
    (log_of plans slots schedule))
  where
    abbrev log : List Entry
    log = log_of plans slots schedule

    abbrev inner : List Entry
    inner = moves.log_of moved.moves

    abbrev policy : Policy
    policy = policy_of plans.equipment plans.slots

    holds : NotesHold plans log
    holds = notes-hold plans fit laws.line log journal.machine (host_start plans.host slots) courses

    -- ---- what is listed

    stored : AllStoredAreSpoolable (equipment_notes inner)
    stored =
        subst AllStoredAreSpoolable
        (sym (same-notes Equipment log) ∙ moved-notes plans (host.DidOf plans.host) log holds.kept moved)
        (stored-so plans.equipment (timed_by Equipment log) holds.sampled)

    turns : WriteInTurn (noted_by Host inner)
    turns =
        subst WriteInTurn
        (sym courses.host_noted ∙ ap (noted_by Host) moved.is ∙ no-notes Host moved.last inner moved.no_notes)
        (laws.turns plans.host (empty_file slots) refl courses.host_met)

    journal-laws : KeepJournalLaws policy (plans_of plans) moved.moves
    journal-laws = record {
      spool = spool-laws plans (host.DidOf plans.host) log holds.kept moved;
      stored = stored;
      listing =
          listing-kept (plans_of plans) moved.moves
          (owing-kept (plans_of plans) (DidOf plans.equipment) plans.host moved.moves moved.steps) turns;
    }

    listed : IsSpoolTaken policy (listed_log inner)
    listed =
        laws.list policy (plans_of plans) moved.moves fit.equipment.line.times fit.host.line.times moved.no_slip
        journal-laws

    pub safe : IsSafe plans slots log
    safe = record {
      delivered = is-delivered plans (host.DidOf plans.host) fit laws.line.deliver log moved;
      in_order =
          record {
            moved = moved;
            in_order = (delivers plans (host.DidOf plans.host) fit laws.line.deliver log moved).in_order;
          };
      reported = holds.reported;
      sampled = holds.sampled;
      spooled = holds-spool plans (host.DidOf plans.host) log holds.kept moved fit laws.line.take;
      left = holds.left;
      set_up = holds.set_up;
      listed =
          subst (λ (all : List Entry). IsSpoolTaken policy (listed_log all)) (sym moved.is)
          (subst (IsSpoolTaken policy) (sym (listed-behind moved.last inner moved.no_notes))
          (taken-behind policy moved.last (listed_log inner) moved.no_notes listed));
      journal =
          subst (KeepsJournal (room_in slots) []) (sym courses.host_noted)
          (laws.journals plans.host (empty_file slots) refl courses.host_met);
    }
