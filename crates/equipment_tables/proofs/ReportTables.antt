-- What becomes of the tables, by what becomes of their reports.
use Rattle.std.proofs.Common.{◌≡◌, refl, sym, ◌∙◌, ap, subst, ℕ, Bool, List, ◌∷◌, ◌⊎◌, inl, inr, Option, Result, Ok, Err}
use Rattle.std.specs.Prelude.{IfOk}
use Rattle.secs_items.specs.declared.item.Item.{Item}
use Rattle.gl_base.specs.declared.no_memory.NoMemory.{NoMemory}
use Rattle.gem_alarms.specs.Alarms.{AlarmTable}
use Rattle.gem_remote.specs.declared.plan.RemotePlan.{RemotePlan}
use Rattle.gem_reports.specs.declared.answers.Drack.{Drack}
use Rattle.gem_reports.specs.declared.answers.Drack.TheVariants as drack
use Rattle.gem_reports.specs.declared.answers.Erack.{Erack}
use Rattle.gem_reports.specs.declared.answers.Erack.TheVariants as erack
use Rattle.gem_reports.specs.declared.answers.Lrack.{Lrack}
use Rattle.gem_reports.specs.declared.answers.Lrack.TheVariants as lrack
use Rattle.gem_reports.specs.Answers.{drack_of, erack_of, lrack_of, past_after_define, past_after_link}
use Rattle.gem_reports.specs.History.{ReportEntry}
use Rattle.gem_reports.specs.History.ReportEntry.{Enable}
use Rattle.gem_reports.specs.Laws.{HasPast, ReportsGoByWhatStands}
use Rattle.gem_reports.specs.Reporting.{Reporting, after_entry, drack_in, erack_in, lrack_in, reporting_at, reporting_of, with_definitions, with_linkings}
use Rattle.gem_reports.specs.Tables.{ReportsView, StandsFor}
use Rattle.gem_shapes.specs.declared.entries.Definition.{Definition}
use Rattle.gem_shapes.specs.declared.entries.Linking.{Linking}
use Rattle.spool_rule.specs.declared.rule.SpoolRule.{SpoolRule}
use Rattle.gem_vars.specs.Tables.{VarsTable}
use Rattle.equipment_tables.specs.Tables.{TablesState, definitions_by, events_by, linkings_by, with_reports}

-- equal parts
pub same_state :
    {v w : VarsTable} {r s : Reporting} {a b : AlarmTable} {p q : RemotePlan} {f g : SpoolRule}
    {m n x y : List ℕ} → v ≡ w → r ≡ s → a ≡ b → p ≡ q → f ≡ g → m ≡ n → x ≡ y
    → ◌≡◌ {A = TablesState}
    (record { vars = v; reports = r; alarms = a; remote = p; rule = f; mdln = m; softrev = x })
    (record { vars = w; reports = s; alarms = b; remote = q; rule = g; mdln = n; softrev = y })
same_state vars reports alarms remote rule mdln softrev = λ j. record {
  vars = vars j;
  reports = reports j;
  alarms = alarms j;
  remote = remote j;
  rule = rule j;
  mdln = mdln j;
  softrev = softrev j;
}

-- ---- a history goes on where a request was done, and stays where it was refused

abbrev IsOrNot : Type 0 → Type 0
IsOrNot P = P ⊎ (P → ⊥)

goes_on :
    (P : Type 0) (old new : ReportsView) (past : HasPast old) (after : List ReportEntry) → IsOrNot P
    → (P → StandsFor new past.0 after) → ((P → ⊥) → new ≡ old) → HasPast new
goes_on P old new past after (inl done) stands refused = (past.0, after, stands done)
goes_on P old new past after (inr not) stands refused = subst HasPast (sym (refused not)) past

drack_done : (r : Result Drack NoMemory) → IsOrNot (r ≡ Ok drack.Done)
drack_done (Ok drack.Done) = inl refl
drack_done (Ok drack.NoSpace) = inr (λ e. cc)
drack_done (Ok (drack.Defined rptid)) = inr (λ e. cc)
drack_done (Ok (drack.UnknownVid vid)) = inr (λ e. cc)
drack_done (Err e) = inr (λ e. cc)

lrack_done : (r : Result Lrack NoMemory) → IsOrNot (r ≡ Ok lrack.Done)
lrack_done (Ok lrack.Done) = inl refl
lrack_done (Ok lrack.NoSpace) = inr (λ e. cc)
lrack_done (Ok (lrack.Linked ceid)) = inr (λ e. cc)
lrack_done (Ok (lrack.UnknownCeid ceid)) = inr (λ e. cc)
lrack_done (Ok (lrack.UnknownRptid rptid)) = inr (λ e. cc)
lrack_done (Err e) = inr (λ e. cc)

erack_done : (r : Erack) → IsOrNot (r ≡ erack.Done)
erack_done erack.Done = inl refl
erack_done (erack.Unknown ceid) = inr (λ e. cc)

module _ (law : ReportsGoByWhatStands) (old new : ReportsView) (past : HasPast old) where
  -- the old value by its history
  before : reporting_at past.0 past.1 ≡ reporting_of old
  before = sym (law.at old past.0 past.1 past.2)

  pub drack_is :
      (value : ℕ → Option Item) (list : List Definition) (r : Result Drack NoMemory)
      → IfOk r (λ a. a ≡ drack_of value past.1 list) → IfOk r (λ a. a ≡ drack_in value (reporting_of old) list)
  drack_is value list (Ok a) is =
      is ∙ law.drack value past.0 past.1 list ∙ ap (λ r. drack_in value r list) before
  drack_is value list (Err e) is = tt

  pub defined_past :
      (list : List Definition) (r : Result Drack NoMemory)
      → (r ≡ Ok drack.Done → StandsFor new past.0 (past_after_define past.1 list))
      → ((r ≡ Ok drack.Done → ⊥) → new ≡ old) → HasPast new
  defined_past list r = goes_on (r ≡ Ok drack.Done) old new past (past_after_define past.1 list) (drack_done r)

  pub definitions_are :
      (t : TablesState) (list : List Definition) (r : Result Drack NoMemory) → t.reports ≡ reporting_of old
      → (r ≡ Ok drack.Done → StandsFor new past.0 (past_after_define past.1 list))
      → ((r ≡ Ok drack.Done → ⊥) → new ≡ old)
      → IfOk r (λ a. with_reports (reporting_of new) t ≡ definitions_by a list t)
  definitions_are t list (Err e) is stands refused = tt
  definitions_are t list (Ok drack.Done) is stands refused =
      ap (λ r. with_reports r t)
      (law.at new past.0 (past_after_define past.1 list) (stands refl) ∙ law.defined past.0 past.1 list
      ∙ ap (with_definitions list) (before ∙ sym is))
  definitions_are t list (Ok drack.NoSpace) is stands refused =
      ap (λ r. with_reports r t) (ap reporting_of (refused (λ e. cc)) ∙ sym is)
  definitions_are t list (Ok (drack.Defined rptid)) is stands refused =
      ap (λ r. with_reports r t) (ap reporting_of (refused (λ e. cc)) ∙ sym is)
  definitions_are t list (Ok (drack.UnknownVid vid)) is stands refused =
      ap (λ r. with_reports r t) (ap reporting_of (refused (λ e. cc)) ∙ sym is)

  pub lrack_is :
      (list : List Linking) (r : Result Lrack NoMemory)
      → IfOk r (λ a. a ≡ lrack_of past.0 past.1 list) → IfOk r (λ a. a ≡ lrack_in (reporting_of old) list)
  lrack_is list (Ok a) is = is ∙ law.lrack past.0 past.1 list ∙ ap (λ r. lrack_in r list) before
  lrack_is list (Err e) is = tt

  pub linked_past :
      (list : List Linking) (r : Result Lrack NoMemory)
      → (r ≡ Ok lrack.Done → StandsFor new past.0 (past_after_link past.1 list))
      → ((r ≡ Ok lrack.Done → ⊥) → new ≡ old) → HasPast new
  linked_past list r = goes_on (r ≡ Ok lrack.Done) old new past (past_after_link past.1 list) (lrack_done r)

  pub linkings_are :
      (t : TablesState) (list : List Linking) (r : Result Lrack NoMemory) → t.reports ≡ reporting_of old
      → (r ≡ Ok lrack.Done → StandsFor new past.0 (past_after_link past.1 list))
      → ((r ≡ Ok lrack.Done → ⊥) → new ≡ old)
      → IfOk r (λ a. with_reports (reporting_of new) t ≡ linkings_by a list t)
  linkings_are t list (Err e) is stands refused = tt
  linkings_are t list (Ok lrack.Done) is stands refused =
      ap (λ r. with_reports r t)
      (law.at new past.0 (past_after_link past.1 list) (stands refl) ∙ law.linked past.0 past.1 list
      ∙ ap (with_linkings list) (before ∙ sym is))
  linkings_are t list (Ok lrack.NoSpace) is stands refused =
      ap (λ r. with_reports r t) (ap reporting_of (refused (λ e. cc)) ∙ sym is)
  linkings_are t list (Ok (lrack.Linked ceid)) is stands refused =
      ap (λ r. with_reports r t) (ap reporting_of (refused (λ e. cc)) ∙ sym is)
  linkings_are t list (Ok (lrack.UnknownCeid ceid)) is stands refused =
      ap (λ r. with_reports r t) (ap reporting_of (refused (λ e. cc)) ∙ sym is)
  linkings_are t list (Ok (lrack.UnknownRptid rptid)) is stands refused =
      ap (λ r. with_reports r t) (ap reporting_of (refused (λ e. cc)) ∙ sym is)

  pub erack_is :
      (ceids : List ℕ) (a : Erack) → a ≡ erack_of past.0 ceids → a ≡ erack_in (reporting_of old) ceids
  erack_is ceids a is = is ∙ law.erack past.0 past.1 ceids ∙ ap (λ r. erack_in r ceids) before

  pub enabled_past :
      (on : Bool) (ceids : List ℕ) (a : Erack)
      → (a ≡ erack.Done → StandsFor new past.0 (Enable on ceids ∷ past.1)) → ((a ≡ erack.Done → ⊥) → new ≡ old)
      → HasPast new
  enabled_past on ceids a = goes_on (a ≡ erack.Done) old new past (Enable on ceids ∷ past.1) (erack_done a)

  pub enables_are :
      (t : TablesState) (on : Bool) (ceids : List ℕ) (a : Erack) → t.reports ≡ reporting_of old
      → (a ≡ erack.Done → StandsFor new past.0 (Enable on ceids ∷ past.1)) → ((a ≡ erack.Done → ⊥) → new ≡ old)
      → with_reports (reporting_of new) t ≡ events_by a on ceids t
  enables_are t on ceids erack.Done is stands refused =
      ap (λ r. with_reports r t)
      (law.at new past.0 (Enable on ceids ∷ past.1) (stands refl) ∙ law.next past.0 past.1 (Enable on ceids)
      ∙ ap (λ r. after_entry r (Enable on ceids)) (before ∙ sym is))
  enables_are t on ceids (erack.Unknown ceid) is stands refused =
      ap (λ r. with_reports r t) (ap reporting_of (refused (λ e. cc)) ∙ sym is)
