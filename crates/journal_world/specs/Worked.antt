-- Logs of a journal that can be followed by hand: no plans make one of these safe.
use Rattle.std.specs.Prelude.{ℕ, List, [], ◌∷◌, None, Some}
use Rattle.equipment_tables.specs.declared.plan.Plans.{Plans}
use Rattle.gl_base.specs.declared.side.Side.TheVariants.{Equipment, Host}
use Rattle.spool_delivery.specs.Worked.{reply, report, sent_report}
use Rattle.spool_law.specs.Listing.{record_of}
use Rattle.trace_log.specs.declared.names.Cause.TheVariants as cause
use Rattle.trace_log.specs.Log.{Entry}
use Rattle.trace_log.specs.Log.Entry.{Noted}
use Rattle.trace_log.specs.Log.Happening.{EquipmentStarted, Gone, HostStarted, Leaving, Listed, Listing, Power, Received, Stored, Storing, Try}
use Rattle.trace_log.specs.Names.{Record}
use Rattle.journal_world.specs.Safe.{IsSafe}

abbrev pub first_record : Record
first_record = record_of (sent_report 1 (65 ∷ []))

abbrev pub second_record : Record
second_record = record_of (sent_report 2 (66 ∷ []))

-- both ends start, the host over an empty journal
abbrev pub started : List Entry
started =
    Noted 0 Host (HostStarted (Some (record { found = []; base = 0 }))) ∷ Noted 0 Equipment (EquipmentStarted [] 1)
    ∷ []

-- two reports are put, and the host receives the first
abbrev pub received : List Entry
received =
    Noted 1 Host (Received (sent_report 1 (65 ∷ []))) ∷ Noted 0 Equipment (Try 0 1) ∷ Noted 0 Equipment (Stored 1)
    ∷ Noted 0 Equipment (Storing 1 (report (66 ∷ []))) ∷ Noted 0 Equipment (Stored 0)
    ∷ Noted 0 Equipment (Storing 0 (report (65 ∷ []))) ∷ started

-- it answers, and the equipment confirms what isn't listed
abbrev pub confirmed : List Entry
confirmed =
    Noted 2 Equipment (Leaving 0 cause.Confirmed None) ∷ Noted 2 Equipment (Received (reply 1)) ∷ received

-- the second one alone is listed
abbrev pub skipped : List Entry
skipped =
    Noted 3 Host (Listed 0 second_record) ∷ Noted 3 Host (Listing 0 second_record)
    ∷ Noted 3 Host (Received (sent_report 2 (66 ∷ []))) ∷ Noted 2 Equipment (Try 1 2)
    ∷ Noted 2 Equipment (Gone 0) ∷ confirmed

-- the first one is listed, and the next start finds an empty journal
abbrev pub forgotten : List Entry
forgotten =
    Noted 1 Host (HostStarted (Some (record { found = []; base = 4096 }))) ∷ Noted 1 Host Power
    ∷ Noted 1 Host (Listed 0 first_record) ∷ Noted 1 Host (Listing 0 first_record) ∷ received

-- neither what leaves as confirmed and isn't listed, nor a put that is skipped, nor a record that is gone
pub record UnsafeJournals : Type 0 where
  pub unlisted : (plans : Plans) (slots : ℕ) → IsSafe plans slots confirmed → ⊥
  pub out_of_order : (plans : Plans) (slots : ℕ) → IsSafe plans slots skipped → ⊥
  pub lost : (plans : Plans) (slots : ℕ) → IsSafe plans slots forgotten → ⊥
