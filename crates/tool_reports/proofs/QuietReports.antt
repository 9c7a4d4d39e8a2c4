-- Texts and notes that say nothing of reports.
use Rattle.std.proofs.Common.{◌≡◌, refl, sym, ap, subst, ◌∙◌, inl, inr, ◌⊎◌, arith, ◌<◌, ◌≤◌, ◌+◌, Bool, true, false, not, ℕ, ◌&&◌, ◌||◌, nat_lt, List, [], ◌∷◌, length, Option, Some, None, cond, if◌then◌else◌}
use Rattle.std.specs.List.{find}
use Rattle.std.specs.Prelude.{bytes_eq, filter, is_some}
use Rattle.std.proofs.lemmas.Slice.Eq.{bytes_eq-Decides}
use Rattle.message_flow.proofs.Firsts.{removed, without-first}
use Rattle.message_flow.specs.declared.message.Message.{Message}
use Rattle.secs_items.specs.declared.item.Item.{Item}
use Rattle.secs_items.specs.declared.encode_fault.EncodeFault.{EncodeFault}
use Rattle.secs_items.specs.Encoding.{encode_fault}
use Rattle.secs_items.specs.Spelling.{shortest_spelling}
use Rattle.gem_reports.specs.Reporting.{is_enabled_in, is_planned}
use Rattle.setup_law.proofs.Notes.{command-rests, refused-rests}
use Rattle.setup_law.specs.Setup.{list_in}
use Rattle.setup_store.specs.Entries.{Entry}
use Rattle.trace_log.specs.declared.commands.ToolCommand.{ToolCommand}
use Rattle.trace_log.specs.declared.commands.ToolCommand.TheVariants as tool
use Rattle.trace_log.specs.Log.{Happening, Past}
use Rattle.message_end.specs.Core.{primary_of}
use Rattle.equipment_tables.specs.declared.answers.Answer.TheVariants as answer
use Rattle.equipment_tables.specs.declared.plan.EquipmentPlan.{EquipmentPlan}
use Rattle.equipment_tables.specs.Answers.{event_item, has_bytes, spelled_body}
use Rattle.equipment_tables.specs.Past.{tables_at}
use Rattle.equipment_tables.specs.Tables.{TablesState}
use Rattle.tool_step.specs.Grants.{GrantView}
use Rattle.tool_step.specs.Live.{ReportView}
use Rattle.tool_step.specs.declared.owed.Owed.{Owed}
use Rattle.tool_step.specs.Own.{OwnView, event_report, is_granted_by, without_grant}
use Rattle.message_end.specs.Own.{Has}
use Rattle.tool_reports.specs.Reported.{Happened, IsOfEvent, IsReport, IsReported, brought_by, commands_in, count_of, count_of_events, due_behind, events_in, is_brought, is_event_report, is_live, is_reported_by, item_of, next_dataid, past_in, reports_in, tables_in, to_carry, tries_in, was_enabled}
use Rattle.tool_step.specs.Sent as sent
use Rattle.tool_step.specs.Tool.{with_event}
use Rattle.message_end.proofs.Lists.{has-snoc}
use Rattle.tool_reports.proofs.PlainTurns.{IsNoMore, count_waiting, kept_of, owing_none}
use Rattle.tool_reports.proofs.QuietNotes.{AreInPlace, AreResting, AreSettled, IsAsBefore, IsNoSetup, counted, counted-last, in-place, none-more, one, settled-more, some-passes, still-rests}

-- how many S6F11 went out with a text, but out of the spool
abbrev pub count_of_reports : List ℕ → List Happening → ℕ
count_of_reports body notes = count_of body (reports_in notes)

-- what the equipment keeps is that of its notes, in which the tool has said this since the start, and it owes nothing;
-- there are events for all that it may report still, and for each S6F11 that was sent and may be put into the spool;
-- and the number that it has drawn by itself is that of a try
pub record Holds (plan : EquipmentPlan) (start : List Happening) (said : List ToolCommand) (own : OwnView)
    (drawn : Option ℕ)
    (notes : List Happening) : Type 0 where
  pub plan_is : own.plan ≡ plan
  pub kept_is : (held : Option (List Entry)) → kept_of own ≡ owing_none (list_in held notes)
  pub tables_are : own.tables ≡ tables_in plan notes
  pub events_are : own.events ≡ next_dataid notes
  pub commanded : commands_in (past_in notes) ≡ said
  pub waits :
      (body : List ℕ)
      → count_of_reports body notes + count_waiting body own.for_grant ≤ count_of_events plan body notes
  pub live :
      (one : ReportView) → Has own.reports one → is_event_report one.message ≡ true
      → 0 < count_of_events plan one.message.body notes
  pub tried : (number : ℕ) → drawn ≡ Some number → Has (tries_in notes) number
  pub settled : AreSettled plan start notes

-- the setup that is kept is that of the notes
pub setup-is :
    {plan : EquipmentPlan} {start : List Happening} {said : List ToolCommand} {drawn : Option ℕ} (own : OwnView)
    (notes : List Happening)
    → Holds plan start said own drawn notes → (held : Option (List Entry)) → own.setup ≡ list_in held notes
setup-is own notes holds held = ap (λ (kept : Option Owed × Option (List Entry)). kept.1) (holds.kept_is held)

-- an event that happens by its command behind these notes
abbrev pub happening : ℕ → ℕ → List Happening → Happened
happening ceid dataid notes =
    record { ceid = ceid; dataid = dataid; past = Past.Commanded (tool.Event ceid) ∷ past_in notes }

-- an event more than those is there for one more report with this text
abbrev pub HasSpare : EquipmentPlan → OwnView → List Happening → List ℕ → Type 0
HasSpare plan own notes text =
    (body : List ℕ)
    → count_of_reports body notes + (count_waiting body own.for_grant + one (bytes_eq body text))
    ≤ count_of_events plan body notes

pub holds-less :
    {drawn : Option ℕ} (plan : EquipmentPlan) (start : List Happening) (said : List ToolCommand) (own other : OwnView)
    (notes : List Happening)
    → Holds plan start said own drawn notes → IsNoMore own other → Holds plan start said other drawn notes
holds-less plan start said own other notes holds less = record {
  plan_is = less.plan_is ∙ holds.plan_is;
  kept_is = λ held. less.kept_is ∙ holds.kept_is held;
  tables_are = less.tables_are ∙ holds.tables_are;
  events_are = less.events_are ∙ holds.events_are;
  commanded = holds.commanded;
  waits = λ body. let most = holds.waits body in let fewer = less.fewer body in omega (arith, most, fewer);
  live = λ one has is. holds.live one (less.live one has is) is;
  tried = holds.tried;
  settled = holds.settled;
}

-- as many reports that were sent or wait, for as many events
pub waits-as :
    (plan : EquipmentPlan) (waiting : List GrantView) (old new : List Happening) → reports_in new ≡ reports_in old
    → events_in new ≡ events_in old
    → ((body : List ℕ)
    → count_of_reports body old + count_waiting body waiting ≤ count_of_events plan body old)
    → (body : List ℕ) → count_of_reports body new + count_waiting body waiting ≤ count_of_events plan body new
waits-as plan waiting old new reports events most body =
    subst
    (λ (sent : List (List ℕ)). count_of body sent + count_waiting body waiting ≤ count_of_events plan body new)
    (sym reports)
    (subst
    (λ (happened : List Happened).
    count_of_reports body old + count_waiting body waiting ≤ length (filter (is_reported_by plan body) happened))
    (sym events) (most body))

live-as :
    (plan : EquipmentPlan) (body : List ℕ) (old new : List Happening) → events_in new ≡ events_in old
    → 0 < count_of_events plan body old → 0 < count_of_events plan body new
live-as plan body old new events some =
    subst (λ (happened : List Happened). 0 < length (filter (is_reported_by plan body) happened)) (sym events) some

pub holds-as :
    {drawn : Option ℕ} (plan : EquipmentPlan) (start : List Happening) (said : List ToolCommand) (own : OwnView)
    (old new : List Happening)
    → Holds plan start said own drawn old → IsAsBefore old new → Holds plan start said own drawn new
holds-as plan start said own old new holds same = record {
  plan_is = holds.plan_is;
  kept_is = λ held. holds.kept_is held ∙ ap owing_none (sym (same.kept held));
  tables_are = holds.tables_are ∙ ap (λ (past : List Past). tables_at plan past) (sym same.past);
  events_are = holds.events_are ∙ sym same.next;
  commanded = ap commands_in same.past ∙ holds.commanded;
  waits = waits-as plan own.for_grant old new same.reports same.events holds.waits;
  live = λ one has is. live-as plan one.message.body old new same.events (holds.live one has is);
  tried = λ number is. subst (λ (tries : List ℕ). Has tries number) (sym same.tries) (holds.tried number is);
  settled = same.keeps plan start holds.settled;
}

-- ---- texts

is-none : {X : Type 0} (o : Option X) → is_some o ≡ false → o ≡ None
is-none None is = refl
is-none (Some x) is = absurd (cc)

pub equal-bytes : (text : List ℕ) → bytes_eq text text ≡ true
equal-bytes text = (bytes_eq-Decides text text).1 refl

pub record IsSpelledSo (item : Item) (body : List ℕ) : Type 0 where
  pub spelled : encode_fault item ≡ None
  pub shortest : body ≡ shortest_spelling item

pub spelled-so : (max : ℕ) (item : Item) (body : List ℕ) → spelled_body max item ≡ answer.Body body
    → IsSpelledSo item body
spelled-so max item body is =
    go (nat_lt max (length (shortest_spelling item))) (is_some (encode_fault item)) (has_bytes item) refl is
  where
    go : (long fault bytes : Bool) → is_some (encode_fault item) ≡ fault
        → (if long || (fault || not bytes) then answer.TooLong else answer.Body (shortest_spelling item))
        ≡ answer.Body body
        → IsSpelledSo item body
    go true fault bytes e f = absurd (cc)
    go false true bytes e f = absurd (cc)
    go false false false e f = absurd (cc)
    go false false true e f = record { spelled = is-none (encode_fault item) e; shortest = cc }

all-three : (a b c : Bool) → (a && (not b && c)) ≡ true → (a ≡ true) × (b ≡ false) × (c ≡ true)
all-three true true c is = absurd (cc)
all-three true false true is = (refl, refl, refl)
all-three true false false is = absurd (cc)
all-three false b c is = absurd (cc)

-- where some events have a text, it tells of one of them
pub of-event :
    (plan : EquipmentPlan) (body : List ℕ) (notes : List Happening) → 0 < count_of_events plan body notes
    → IsOfEvent plan body notes
of-event plan body notes some =
    let found = some-passes (is_reported_by plan body) (events_in notes) some in
    let all = all-three (was_enabled plan found.0) (is_some (encode_fault (item_of plan found.0)))
    (bytes_eq body (shortest_spelling (item_of plan found.0))) found.2 in
    record {
      event = found.0;
      happened = found.1;
      enabled = all.0;
      text = record {
        spelled = is-none (encode_fault (item_of plan found.0)) all.1;
        shortest = (bytes_eq-Decides body (shortest_spelling (item_of plan found.0))).0 all.2;
      };
    }

-- where more events have it than reports, one more tells of one of them
pub is-report :
    (plan : EquipmentPlan) (message : Message) (notes : List Happening) → message.wait ≡ true
    → count_of_reports message.body notes < count_of_events plan message.body notes → IsReport plan message notes
is-report plan message notes wait once = record {
  wait = wait;
  of_event = of-event plan message.body notes (omega (arith, once));
  once = once;
}

-- ---- one note more

-- an S6F11 as it goes out
abbrev pub event_message : List ℕ → ℕ → Message
event_message text system = primary_of (sent.live_report (event_report text)) system

pub report-sent :
    {drawn : Option ℕ} (plan : EquipmentPlan) (start : List Happening) (said : List ToolCommand) (own : OwnView)
    (notes : List Happening)
    (text : List ℕ) (system : ℕ)
    → Holds plan start said own drawn notes → HasSpare plan own notes text
    → Holds plan start said own drawn (Happening.Sent (event_message text system) ∷ notes)
report-sent plan start said own notes text system holds spare = record {
  plan_is = holds.plan_is;
  kept_is = holds.kept_is;
  tables_are = holds.tables_are;
  events_are = holds.events_are;
  commanded = holds.commanded;
  waits = λ body. most body (is_live (event_message text system) notes);
  live = holds.live;
  tried = holds.tried;
  settled =
      settled-more plan start (Happening.Sent (event_message text system)) notes tt refl
      (record {
        s6f11 = λ is.
            is-report plan (event_message text system) notes refl
            (let most = spare text in let same = ap one (equal-bytes text) in omega (arith, most, same));
        s6f16 = λ is. absurd (cc);
        s6f20 = λ is. absurd (cc);
        reply = λ is. absurd (cc);
      })
      refl (still-rests plan (Happening.Sent (event_message text system)) notes refl) holds.settled;
}
  where
    most : (body : List ℕ) (counts : Bool)
        → count_of body (if counts then text ∷ reports_in notes else reports_in notes)
        + count_waiting body own.for_grant ≤ count_of_events plan body notes
    most body true =
        let most = spare body in let more = counted (bytes_eq body) text (reports_in notes) in omega (arith, most, more)
    most body false = let most = spare body in omega (arith, most)

-- a report is kept as it is sent
pub with-live :
    {drawn : Option ℕ} (plan : EquipmentPlan) (start : List Happening) (said : List ToolCommand) (own : OwnView)
    (notes : List Happening)
    (text : List ℕ) (crowded : Bool) (next : Option ℕ)
    → Holds plan start said own drawn notes → 0 < count_of_events plan text notes
    → Holds plan start said (if crowded then own else sent.kept_report next (event_report text) own) drawn notes
with-live plan start said own notes text true next holds some = holds
with-live plan start said own notes text false None holds some = holds
with-live plan start said own notes text false (Some system) holds some = record {
  plan_is = holds.plan_is;
  kept_is = holds.kept_is;
  tables_are = holds.tables_are;
  events_are = holds.events_are;
  commanded = holds.commanded;
  waits = holds.waits;
  live = λ one has is.
      go one (has-snoc own.reports (record { system = system; message = event_report text }) one has) is;
  tried = holds.tried;
  settled = holds.settled;
}
  where
    go : (one : ReportView) → Has own.reports one ⊎ (one ≡ record { system = system; message = event_report text })
        → is_event_report one.message ≡ true → 0 < count_of_events plan one.message.body notes
    go one (inl has) is = holds.live one has is
    go one (inr same) is =
        subst (λ (body : List ℕ). 0 < count_of_events plan body notes)
        (ap (λ (r : ReportView). r.message.body) (sym same)) some

-- what is due behind a command is what it brings by the tables that are kept
pub due-of :
    {drawn : Option ℕ} (plan : EquipmentPlan) (start : List Happening) (said : List ToolCommand) (own : OwnView)
    (command : ToolCommand)
    (notes : List Happening)
    → Holds plan start said own drawn notes
    → due_behind plan (Happening.Recorded (Past.Commanded command) ∷ notes)
    ≡ brought_by own.tables own.events command
due-of plan start said own command notes holds =
    ap (λ (t : TablesState). brought_by t (next_dataid notes) command) (sym holds.tables_are)
    ∙ ap (λ (dataid : ℕ). brought_by own.tables dataid command) (sym holds.events_are)

-- a note that a command brings leaves the setup at rest
brought-rests :
    (plan : EquipmentPlan) (held : Option (List Entry)) (what : Happening) (notes : List Happening)
    → is_brought what ≡ true → AreResting plan held notes → AreResting plan held (what ∷ notes)
brought-rests plan held (Happening.Set vid) notes is at = still-rests plan (Happening.Set vid) notes refl held at
brought-rests plan held (Happening.Event ceid dataid) notes is at =
    still-rests plan (Happening.Event ceid dataid) notes refl held at
brought-rests plan held (Happening.Alarm alid is_set) notes is at =
    still-rests plan (Happening.Alarm alid is_set) notes refl held at
brought-rests plan held Happening.Refused notes is at = refused-rests plan held (list_in held notes) notes at
brought-rests plan held what notes is at = absurd (cc)

-- a command and the note that it brings
pub brought-settled :
    {drawn : Option ℕ} (plan : EquipmentPlan) (start : List Happening) (said : List ToolCommand) (own : OwnView)
    (command : ToolCommand)
    (what : Happening)
    (notes : List Happening)
    → Holds plan start said own drawn notes → brought_by own.tables own.events command ≡ Some what
    → is_brought what ≡ true
    → IsReported plan what (Happening.Recorded (Past.Commanded command) ∷ notes)
    → due_behind plan (what ∷ Happening.Recorded (Past.Commanded command) ∷ notes) ≡ None
    → AreSettled plan start (what ∷ Happening.Recorded (Past.Commanded command) ∷ notes)
brought-settled plan start said own command what notes holds brings kind right none = record {
  placed = record {
    reported = (
      in-place plan what (recorded ∷ notes) left
          (ap (λ (b : Bool). if b then Some what else None) kind ∙ sym brings
          ∙ sym (due-of plan start said own command notes holds))
          right,
      (in-place plan recorded notes placed.none_left (sym placed.none_due) tt, placed.reported),
    );
    none_due = none;
    none_left = none-more what (recorded ∷ notes) (no-setup what kind) left;
  };
  rests = λ held keeps.
      brought-rests plan held what (recorded ∷ notes) kind
      (command-rests plan held (list_in held notes) command notes (holds.settled.rests held keeps));
}
  where
    recorded : Happening
    recorded = Happening.Recorded (Past.Commanded command)

    placed : AreInPlace plan notes
    placed = holds.settled.placed

    left : to_carry (recorded ∷ notes) ≡ []
    left = none-more recorded notes tt placed.none_left

    no-setup : (what : Happening) → is_brought what ≡ true → IsNoSetup what
    no-setup (Happening.Setup found) is = absurd (cc)
    no-setup what is = tt

-- an event happens
pub event-noted :
    {drawn : Option ℕ} (plan : EquipmentPlan) (start : List Happening) (said : List ToolCommand) (own : OwnView)
    (ceid : ℕ)
    (notes : List Happening)
    → Holds plan start said own drawn notes → is_planned own.tables.reports ceid ≡ true
    → Holds plan start (tool.Event ceid ∷ said) (with_event own) drawn
    (Happening.Event ceid own.events ∷ Happening.Recorded (Past.Commanded (tool.Event ceid)) ∷ notes)
event-noted plan start said own ceid notes holds planned = record {
  plan_is = holds.plan_is;
  kept_is = holds.kept_is;
  tables_are = holds.tables_are;
  events_are = refl;
  commanded = ap (λ (commands : List ToolCommand). tool.Event ceid ∷ commands) holds.commanded;
  waits = λ body.
      let most = holds.waits body in
      let more = counted (is_reported_by plan body) (happening ceid own.events notes) (events_in notes) in
      omega (arith, most, more);
  live = λ one has is.
      let some = holds.live one has is in
      let more = counted (is_reported_by plan one.message.body) (happening ceid own.events notes) (events_in notes) in
      omega (arith, some, more);
  tried = holds.tried;
  settled =
      brought-settled plan start said own (tool.Event ceid) (Happening.Event ceid own.events) notes holds
      (ap (λ (b : Bool). Some (if b then Happening.Event ceid own.events else Happening.Refused)) planned) refl tt
      refl;
}

-- where it is enabled and has a text, it may be reported
pub event-spare :
    {drawn : Option ℕ} (plan : EquipmentPlan) (start : List Happening) (said : List ToolCommand) (own : OwnView)
    (ceid max : ℕ) (text : List ℕ)
    (notes : List Happening)
    → Holds plan start said own drawn notes → is_enabled_in own.tables.reports ceid ≡ true
    → spelled_body max (event_item own.tables ceid own.events) ≡ answer.Body text
    → HasSpare plan (with_event own)
    (Happening.Event ceid own.events ∷ Happening.Recorded (Past.Commanded (tool.Event ceid)) ∷ notes) text
event-spare plan start said own ceid max text notes holds enabled is body =
    let most = holds.waits body in
    let more = counted (is_reported_by plan body) event (events_in notes) in
    let same = ap one reported_by in
    omega (arith, most, more, same)
  where
    event : Happened
    event = happening ceid own.events notes

    so : IsSpelledSo (event_item own.tables ceid own.events) text
    so = spelled-so max (event_item own.tables ceid own.events) text is

    item : item_of plan event ≡ event_item own.tables ceid own.events
    item = ap (λ (t : TablesState). event_item t ceid own.events) (sym holds.tables_are)

    was : was_enabled plan event ≡ true
    was = ap (λ (t : TablesState). is_enabled_in t.reports ceid) (sym holds.tables_are) ∙ enabled

    reported_by : is_reported_by plan body event ≡ bytes_eq body text
    reported_by =
        ap
        (λ (b : Bool).
        b && (not (is_some (encode_fault (item_of plan event)))
        && bytes_eq body (shortest_spelling (item_of plan event)))) was
        ∙ ap (λ (i : Item). not (is_some (encode_fault i)) && bytes_eq body (shortest_spelling i)) item
        ∙ ap
        (λ (fault : Option EncodeFault).
        not (is_some fault) && bytes_eq body (shortest_spelling (event_item own.tables ceid own.events)))
        so.spelled
        ∙ ap (λ (bytes : List ℕ). bytes_eq body bytes) (sym so.shortest)

-- one that was to wait for its grant
pub with-waiting :
    {drawn : Option ℕ} (plan : EquipmentPlan) (start : List Happening) (said : List ToolCommand) (own : OwnView)
    (notes : List Happening)
    (text : List ℕ)
    (system : Option ℕ)
    → Holds plan start said own drawn notes → HasSpare plan own notes text
    → Holds plan start said (sent.with_asked system text own) drawn notes
with-waiting plan start said own notes text None holds spare = holds
with-waiting plan start said own notes text (Some system) holds spare = record {
  plan_is = holds.plan_is;
  kept_is = holds.kept_is;
  tables_are = holds.tables_are;
  events_are = holds.events_are;
  commanded = holds.commanded;
  waits = λ body.
      let most = spare body in
      let more = counted-last (λ (one : GrantView). bytes_eq body one.body) own.for_grant
      (record { system = system; body = text }) in
      omega (arith, most, more);
  live = holds.live;
  tried = holds.tried;
  settled = holds.settled;
}

-- one that waits no longer, for it is granted
pub found-waiting :
    (test : GrantView → Bool) (waiting : List GrantView) (found : GrantView) (body : List ℕ)
    → find test waiting ≡ Some found
    → count_waiting body (without-first test waiting) + one (bytes_eq body found.body) ≡ count_waiting body waiting
found-waiting test [] found body is = absurd (cc)
found-waiting test (first ∷ waiting) found body is =
    go (test first) is (found-waiting test waiting found body)
  where
    passes : GrantView → Bool
    passes = λ one. bytes_eq body one.body

    go : (b : Bool) → cond b (Some first) (find test waiting) ≡ Some found
        → (find test waiting ≡ Some found
        → count_waiting body (without-first test waiting) + one (bytes_eq body found.body)
        ≡ count_waiting body waiting)
        → count_waiting body (cond b waiting (first ∷ without-first test waiting)) + one (bytes_eq body found.body)
        ≡ count_waiting body (first ∷ waiting)
    go true is next =
        let same : first ≡ found = cc in
        let more = counted passes first waiting in
        let text = ap (λ (w : GrantView). one (bytes_eq body w.body)) same in
        omega (arith, more, text)
    go false is next =
        let rest = next is in
        let more = counted passes first waiting in
        let less = counted passes first (without-first test waiting) in
        omega (arith, rest, more, less)

pub granted-spare :
    {drawn : Option ℕ} (plan : EquipmentPlan) (start : List Happening) (said : List ToolCommand) (own : OwnView)
    (system : ℕ) (found : GrantView)
    (notes : List Happening)
    → Holds plan start said own drawn notes → find (is_granted_by system) own.for_grant ≡ Some found
    → HasSpare plan (without_grant system own) notes found.body
granted-spare plan start said own system found notes holds is body =
    subst
    (λ (waiting : List GrantView).
    count_of_reports body notes + (count_waiting body waiting + one (bytes_eq body found.body))
    ≤ count_of_events plan body notes)
    (sym (removed (is_granted_by system) own.for_grant))
    (let most = holds.waits body in
    let all = found-waiting (is_granted_by system) own.for_grant found body is in
    omega (arith, most, all))

pub has-found : {X : Type 0} (test : X → Bool) (xs : List X) (found : X) → find test xs ≡ Some found → Has xs found
has-found test [] found is = absurd (cc)
has-found {X} test (first ∷ xs) found is = go (test first) is (λ later. has-found test xs found later)
  where
    go : (b : Bool) → cond b (Some first) (find test xs) ≡ Some found → (find test xs ≡ Some found → Has xs found)
        → Has (first ∷ xs) found
    go true is more = inl (cc)
    go false is more = inr (more is)
