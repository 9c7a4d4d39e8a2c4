-- How a request is worked through, entry by entry.
use Rattle.std.specs.Prelude.{min}
use Rattle.std.proofs.Common.{◌≡◌, true≢false, refl, sym, ◌∙◌, ap, subst, Bool, true, false, cond, not, ◌||◌, ◌↔◌, IsTrue, ◌⊎◌, inl, inr, ◌==◌, ℕ, ◌+◌, ◌-◌, ◌^◌, ◌<◌, ◌≤◌, List, [], ◌∷◌, length, drop, get_or, nat_eq, nat_lt, sum_by, Option, Some, None, is_some, arith}
use Rattle.std.proofs.lemmas.Bool.{eqb-true}
use Rattle.std.proofs.lemmas.Bool.Decides.{nat_tests}
use Rattle.std.proofs.lemmas.Cmp.{nat_eq_equiv}
use Rattle.std.proofs.lemmas.List.{length-map}
use Rattle.std.proofs.lemmas.List.Sums.{sum_by-cons, sum_by-le-sum_by}
use Rattle.std.proofs.lemmas.Map.Keys.{IsDistinct-head, IsDistinct-tail}
use Rattle.std.specs.List.{AllByRecursion, IsDistinct, find, list_any}
use Rattle.std.specs.Map.{keys_of, lookup}
use Rattle.std.specs.Option.{option_map, option_map_or, unwrap_or}
use Rattle.secs_items.specs.declared.item.Item.{Item}
use Rattle.secs_items.specs.Measures.{capped}
use Rattle.gem_shapes.specs.declared.entries.Definition.{Definition}
use Rattle.gem_shapes.specs.declared.entries.Linking.{Linking}
use Rattle.gem_tables.specs.Rows.{with_each, with_row}
use Rattle.gem_reports.specs.declared.answers.Drack.{Drack}
use Rattle.gem_reports.specs.declared.answers.Drack.TheVariants as drack
use Rattle.gem_reports.specs.declared.answers.Lrack.{Lrack}
use Rattle.gem_reports.specs.declared.answers.Lrack.TheVariants as lrack
use Rattle.gem_reports.specs.declared.event.Event.{Event}
use Rattle.gem_reports.specs.Answers.{past_with_definitions, define_entry, drack_at, drack_by, drack_of, first_drack, link_entry, lrack_at, lrack_by, lrack_of, first_lrack, past_after_define, past_after_link}
use Rattle.gem_reports.specs.Drafts.{IsDraft, IsLinkDraft}
use Rattle.gem_reports.specs.Events.{EventTable, enabled_by, event_after, events_at, links_in, links_in_table, with_no_links, with_links, without}
use Rattle.gem_reports.specs.History.{ReportEntry, each_once, is_event, link_count, links_at, links_of, report_at, report_count}
use Rattle.gem_reports.specs.History.ReportEntry.{DeleteAll, Link, Unlink, Enable}
use Rattle.gem_reports.specs.Tables.{HasReports, ReportTable, ReportsView, StandsFor, vids_behind, vids_in}
use Rattle.gem_reports.proofs.Counted.{counted}
use Rattle.gem_reports.proofs.Members.{among_each_once, filter_shorter, none_distinct, once_distinct}
use Rattle.gem_reports.proofs.Rows.{at_event, each_after, event_row, event_rows, looked_up}
use Rattle.gem_reports.proofs.Working.{IsWorking, begins, ends, goes_on, refuses}
use Rattle.gem_reports.proofs.Steps.{enabled_row, linked_row, without_none}

keyed : {X : Type 0} (q : ℕ) (rows : List (ℕ × X)) → list_any (nat_eq q) (keys_of rows) ≡ is_some (lookup (nat_eq q) rows)
keyed q [] = refl
keyed q (e ∷ es) =
    elim (nat_eq q e.0) as (λ b. (b || list_any (nat_eq q) (keys_of es)) ≡ is_some (cond b (Some e.1) (lookup (nat_eq q) es)))
    [ true ↦ refl | false ↦ keyed q es ]

-- as many reports are kept as stand
pub count_is : (reports : ReportTable) (past : List ReportEntry) → HasReports reports past → length reports ≡ report_count past
count_is reports past has =
    sym (length-map reports (λ (e : ℕ × List ℕ). e.0))
    ∙ counted past (keys_of reports) has.distinct (λ q. keyed q reports ∙ ap (λ o. is_some o) (has.each q))

-- an entry of S2F33 is judged by the draft as by the history
judged_define :
    (value : ℕ → Option Item) (standing changes : ReportTable) (count : ℕ) (deleted : List ℕ)
    (start past : List ReportEntry) (entry : Definition) → IsDraft standing changes count deleted start past
    → drack_by value (vids_behind changes standing entry.rptid) count entry ≡ drack_at value past entry
judged_define value standing changes count deleted start past entry draft =
    ap (λ o. drack_by value o count entry) (draft.each entry.rptid)
    ∙ ap (λ n. drack_by value (report_at past entry.rptid) n entry) draft.counted

-- what an entry of S2F33 leaves
abbrev entered : Definition → List ReportEntry → List ReportEntry
entered entry past = define_entry entry ∷ past

-- so many entries have been worked through
abbrev pub IsDefining :
    (ℕ → Option Item) → ReportTable → ReportTable → ℕ → List ℕ → List ReportEntry → List ReportEntry
    → List Definition → List Definition → Type 0
IsDefining value standing changes count deleted start past list rest =
    IsWorking (drack_of value) entered (IsDraft standing changes count deleted start) past list rest

pub defining :
    (value : ℕ → Option Item) (standing changes : ReportTable) (count : ℕ) (deleted : List ℕ)
    (start past : List ReportEntry) (list : List Definition) → IsDraft standing changes count deleted start past
    → IsDefining value standing changes count deleted start past list list
defining value standing changes count deleted start past list draft =
    begins (drack_of value) entered (IsDraft standing changes count deleted start) past list draft

-- the answer to an entry by the draft
abbrev pub kept_drack : (ℕ → Option Item) → ReportTable → ReportTable → ℕ → Definition → Drack
kept_drack value standing changes count entry =
    drack_by value (vids_behind changes standing entry.rptid) count entry

-- an entry's answer, and that to those behind it
first_of :
    (value : ℕ → Option Item) (standing changes : ReportTable) (count : ℕ) (deleted : List ℕ)
    (start at : List ReportEntry) (entry : Definition) (rest : List Definition) (answer : Drack)
    → IsDraft standing changes count deleted start at → answer ≡ kept_drack value standing changes count entry
    → first_drack answer (drack_of value (entered entry at) rest) ≡ drack_of value at (entry ∷ rest)
first_of value standing changes count deleted start at entry rest answer draft verdict =
    ap (λ a. first_drack a (drack_of value (entered entry at) rest))
    (verdict ∙ judged_define value standing changes count deleted start at entry draft)

pub defining_more :
    (value : ℕ → Option Item) (standing changes now : ReportTable) (count after : ℕ) (deleted gone : List ℕ)
    (start past : List ReportEntry) (list : List Definition) (i : ℕ) (d : Definition) → i < length list
    → drack.Done ≡ kept_drack value standing changes count (get_or list i d)
    → ((at : List ReportEntry) → IsDraft standing changes count deleted start at
    → IsDraft standing now after gone start (define_entry (get_or list i d) ∷ at))
    → IsDefining value standing changes count deleted start past list (drop i list)
    → IsDefining value standing now after gone start past list (drop (i + 1) list)
defining_more value standing changes now count after deleted gone start past list i d within verdict drafted_more so_far =
    goes_on (drack_of value) entered (IsDraft standing changes count deleted start)
    (IsDraft standing now after gone start) past list i d within drafted_more
    (λ at draft rest.
    first_of value standing changes count deleted start at (get_or list i d) rest drack.Done draft verdict) so_far

first_refusal : (answer rest : Drack) → (answer ≡ drack.Done → ⊥) → first_drack answer rest ≡ answer
first_refusal drack.Done rest refused = absurd (refused refl)
first_refusal drack.NoSpace rest refused = refl
first_refusal (drack.Defined rptid) rest refused = refl
first_refusal (drack.UnknownVid vid) rest refused = refl

pub defining_refused :
    (value : ℕ → Option Item) (standing changes : ReportTable) (count : ℕ) (deleted : List ℕ)
    (start past : List ReportEntry) (list : List Definition) (i : ℕ) (d : Definition) (answer : Drack)
    → i < length list → answer ≡ kept_drack value standing changes count (get_or list i d)
    → (answer ≡ drack.Done → ⊥) → IsDefining value standing changes count deleted start past list (drop i list)
    → answer ≡ drack_of value past list
defining_refused value standing changes count deleted start past list i d answer within verdict refused so_far =
    refuses (drack_of value) entered (IsDraft standing changes count deleted start) past list i d answer within
    (λ at draft rest.
    let entry = get_or list i d in
    sym (first_refusal answer (drack_of value (entered entry at) rest) refused)
    ∙ first_of value standing changes count deleted start at entry rest answer draft verdict) so_far

pub defining_done :
    (value : ℕ → Option Item) (standing changes : ReportTable) (count : ℕ) (deleted : List ℕ)
    (start past : List ReportEntry) (list : List Definition) (i : ℕ) → length list ≤ i
    → IsDefining value standing changes count deleted start past list (drop i list)
    → (drack.Done ≡ drack_of value past list)
    × IsDraft standing changes count deleted start (past_with_definitions past list)
defining_done value standing changes count deleted start past list i end so_far =
    ends (drack_of value) entered (IsDraft standing changes count deleted start) past list i drack.Done end
    (λ at. refl) so_far

-- the draft before any entry
pub drafted :
    (standing changes : ReportTable) (count : ℕ) (deleted : List ℕ) (past : List ReportEntry)
    → HasReports standing past → changes ≡ [] → count ≡ length standing → deleted ≡ []
    → IsDraft standing changes count deleted past past
drafted standing changes count deleted past has unchanged counted none = record {
  each = λ q. ap (λ (t : ReportTable). vids_behind t standing q) unchanged ∙ has.each q;
  counted = counted ∙ count_is standing past has;
  rows = λ ceid. ap (λ (ids : List ℕ). without ids ceid (event_after past ceid)) none ∙ without_none past ceid;
}

fewer :
    (f g : ℕ → ℕ) (events : List ℕ) → ((ceid : ℕ) → f ceid ≤ g ceid) → sum_by g (each_once events) ≤ 4096
    → sum_by f (each_once events) ≤ 4096
fewer f g events less few = let sums = sum_by-le-sum_by f g (each_once events) less in omega (arith, sums, few)

-- a definition of reports that was worked through
pub defined_stands :
    (view : ReportsView) (now : EventTable) (reports changes : ReportTable) (count : ℕ) (deleted : List ℕ)
    (events : List ℕ) (past after : List ReportEntry) → StandsFor view events past
    → IsDraft view.reports changes count deleted past after → now ≡ with_each (without deleted) view.events
    → ((q : ℕ) → vids_in reports q ≡ vids_behind changes view.reports q) → IsDistinct nat_eq (keys_of reports)
    → StandsFor (record { events = now; reports = reports }) events after
defined_stands view now reports changes count deleted events past after stands draft is changed distinct = record {
  rows = is ∙ ap (with_each (without deleted)) stands.rows ∙ each_after (without deleted) events past after draft.rows;
  standing = record { each = λ q. changed q ∙ draft.each q; distinct = distinct };
  few = fewer (λ ceid. length (links_at after ceid)) (λ ceid. length (links_at past ceid)) events
      (λ ceid. let same = ap (λ (e : Event). length e.rptids) (draft.rows ceid) in
      let short = filter_shorter (λ rptid. not (list_any (nat_eq rptid) deleted)) (links_at past ceid) in
      omega (arith, same, short)) stands.few;
}

-- all reports and links are deleted
pub deleted_stands :
    (view : ReportsView) (now : EventTable) (reports : ReportTable) (events : List ℕ) (past : List ReportEntry)
    (list : List Definition) → (length list == 0) ≡ true → StandsFor view events past
    → now ≡ with_each with_no_links view.events → reports ≡ []
    → StandsFor (record { events = now; reports = reports }) events (past_after_define past list)
deleted_stands view now reports events past list none stands is empty =
    subst (StandsFor (record { events = now; reports = reports }) events)
    (ap (λ b. cond b (DeleteAll ∷ past) (past_with_definitions past list)) (sym none))
    (record {
      rows = is ∙ ap (with_each with_no_links) stands.rows ∙ each_after with_no_links events past (DeleteAll ∷ past) (λ ceid. refl);
      standing = record {
        each = λ rptid. ap (lookup (nat_eq rptid)) empty;
        distinct = subst (λ t. IsDistinct nat_eq (keys_of t)) (sym empty) none_distinct;
      };
      few = fewer (λ ceid. 0) (λ ceid. length (links_at past ceid)) events (λ ceid. omega arith) stands.few;
    })

pub nothing_refused :
    (value : ℕ → Option Item) (past : List ReportEntry) (list : List Definition) → (length list == 0) ≡ true
    → drack.Done ≡ drack_of value past list
nothing_refused value past [] none = refl
nothing_refused value past (d ∷ ds) none = let some = eqb-true (length (d ∷ ds)) 0 none in absurd (omega arith)

pub some_defined :
    (past : List ReportEntry) (list : List Definition) → (length list == 0) ≡ false
    → past_with_definitions past list ≡ past_after_define past list
some_defined past list some = ap (λ b. cond b (DeleteAll ∷ past) (past_with_definitions past list)) (sym some)

-- a value after no request
none_linked : (f : ℕ → ℕ) (xs : List ℕ) → ((x : ℕ) → f x ≡ 0) → sum_by f xs ≡ 0
none_linked f [] none = refl
none_linked f (x ∷ xs) none =
    let rest = none_linked f xs none in
    let here = none x in
    let sum = sum_by-cons f x xs in
    omega (arith, rest, here, sum)

pub first_stands :
    (table : EventTable) (reports : ReportTable) (events : List ℕ) → table ≡ events_at events [] → reports ≡ []
    → StandsFor (record { events = table; reports = reports }) events []
first_stands table reports events is none = record {
  rows = is;
  standing = record {
    each = λ rptid. ap (lookup (nat_eq rptid)) none;
    distinct = subst (λ t. IsDistinct nat_eq (keys_of t)) (sym none) none_distinct;
  };
  few = let zero = none_linked (λ ceid. length (links_at [] ceid)) (each_once events) (λ ceid. refl) in omega (arith, zero);
}

-- some events are enabled, or disabled
pub enabled_stands :
    (view : ReportsView) (now : EventTable) (on : Bool) (ceids events : List ℕ) (past : List ReportEntry)
    → StandsFor view events past → now ≡ with_each (enabled_by on ceids) view.events
    → StandsFor (record { events = now; reports = view.reports }) events (Enable on ceids ∷ past)
enabled_stands view now on ceids events past stands is = record {
  rows = is ∙ ap (with_each (enabled_by on ceids)) stands.rows
      ∙ each_after (enabled_by on ceids) events past (Enable on ceids ∷ past) (enabled_row on ceids past);
  standing = record { each = stands.standing.each; distinct = stands.standing.distinct };
  few = stands.few;
}

-- what an accepted entry of S2F35 tells
record Accepted (known : Option (List ℕ)) (count : ℕ) (entry : Linking) : Type 0 where
  pub links : List ℕ
  pub is : known ≡ Some links
  pub room : (length entry.rptids ≡ 0) ⊎ ((length links ≡ 0) × (count + length entry.rptids ≤ 4096))

accepted :
    (known : Option (List ℕ)) (report : ℕ → Option (List ℕ)) (count : ℕ) (entry : Linking)
    → lrack_by known report count entry ≡ lrack.Done → Accepted known count entry
accepted None report count entry done = absurd (cc)
accepted (Some links) report count entry done =
    go (length entry.rptids == 0) refl (length links == 0) refl
    (find (λ rptid. not (is_some (report rptid))) entry.rptids) (nat_lt 4096 (count + length entry.rptids)) refl done
  where
    go : (a : Bool) → (length entry.rptids == 0) ≡ a → (b : Bool) → (length links == 0) ≡ b → (o : Option ℕ)
        → (c : Bool) → nat_lt 4096 (count + length entry.rptids) ≡ c
        → cond a lrack.Done (cond b (option_map_or lrack.UnknownRptid o (cond c lrack.NoSpace lrack.Done))
        (lrack.Linked entry.ceid)) ≡ lrack.Done
        → Accepted (Some links) count entry
    go true none b is o c room d =
        record { links = links; is = refl; room = inl (eqb-true (length entry.rptids) 0 none) }
    go false some true is None false room d =
        record { links = links; is = refl; room = inr (eqb-true (length links) 0 is, grind (arith, nat_tests)) }
    go false some true is None true room d = absurd (cc)
    go false some true is (Some rptid) c room d = absurd (cc)
    go false some false is o c room d = absurd (cc)

-- where a sum over distinct numbers changes at none of them, and at one
sum_apart :
    (f g : ℕ → ℕ) (c : ℕ) (xs : List ℕ) → AllByRecursion (λ x. nat_eq c x ≡ false) xs
    → ((x : ℕ) → nat_eq c x ≡ false → g x ≡ f x) → sum_by g xs ≡ sum_by f xs
sum_apart f g c [] apart same = refl
sum_apart f g c (x ∷ xs) apart same =
    let rest = sum_apart f g c xs apart.1 same in
    let here = same x apart.0 in
    let now = sum_by-cons g x xs in
    let was = sum_by-cons f x xs in
    omega (arith, rest, here, now, was)

sum_changed :
    (f g : ℕ → ℕ) (c : ℕ) (xs : List ℕ) → IsDistinct nat_eq xs → list_any (nat_eq c) xs ≡ true
    → ((x : ℕ) → nat_eq c x ≡ false → g x ≡ f x) → sum_by g xs + f c ≡ sum_by f xs + g c
sum_changed f g c [] distinct there same = absurd (cc)
sum_changed f g c (x ∷ xs) distinct there same =
    go (nat_eq c x) refl there
    (λ rest. sum_changed f g c xs (IsDistinct-tail nat_eq x xs distinct) rest same)
  where
    go : (b : Bool) → nat_eq c x ≡ b → (b || list_any (nat_eq c) xs) ≡ true
        → (list_any (nat_eq c) xs ≡ true → sum_by g xs + f c ≡ sum_by f xs + g c)
        → sum_by g (x ∷ xs) + f c ≡ sum_by f (x ∷ xs) + g c
    go true is there rest =
        let here : c ≡ x = eqb-true c x is in
        let apart =
        sum_apart f g c xs
        (subst (λ n. AllByRecursion (λ y. nat_eq n y ≡ false) xs) (sym here) (IsDistinct-head nat_eq x xs distinct)) same in
        let now = sum_by-cons g x xs in
        let was = sum_by-cons f x xs in
        let at_f = ap f here in
        let at_g = ap g here in
        omega (arith, apart, now, was, at_f, at_g)
    go false is there rest =
        let others = rest there in
        let here = same x is in
        let now = sum_by-cons g x xs in
        let was = sum_by-cons f x xs in
        omega (arith, others, here, now, was)

pub links_of_rows :
    (past : List ReportEntry) (ks : List ℕ) → links_in (event_rows past ks) ≡ sum_by (λ k. length (links_at past k)) ks
links_of_rows past [] = refl
links_of_rows past (k ∷ ks) =
    sum_by-cons (λ (e : ℕ × Event). length e.1.rptids) (k, event_after past k) (event_rows past ks)
    ∙ ap (λ n. length (links_at past k) + n) (links_of_rows past ks)
    ∙ sym (sum_by-cons (λ x. length (links_at past x)) k ks)

known_is : (b : Bool) (links : List ℕ) (there : List ℕ) → cond b (Some links) None ≡ Some there → (b ≡ true) × (links ≡ there)
known_is true links there is = (refl, cc)
known_is false links there is = absurd (cc)

links_there :
    (b : Bool) (e : Event) → option_map (λ (x : Event). x.rptids) (cond b (Some e) None) ≡ cond b (Some e.rptids) None
links_there true e = refl
links_there false e = refl

-- the links that the table has of an event
pub table_links :
    (table : EventTable) (events : List ℕ) (past : List ReportEntry) (ceid : ℕ) → table ≡ events_at events past
    → option_map (λ (event : Event). event.rptids) (lookup (nat_eq ceid) table) ≡ links_of events past ceid
table_links table events past ceid is =
    ap (λ t. option_map (λ (event : Event). event.rptids) (lookup (nat_eq ceid) t)) is
    ∙ ap (option_map (λ (event : Event). event.rptids)) (looked_up events past ceid)
    ∙ links_there (is_event events ceid) (event_after past ceid)

-- an entry of S2F35 is judged by what is kept as by the history
judged_link :
    (table : EventTable) (count : ℕ) (reports : ReportTable) (events : List ℕ) (past : List ReportEntry)
    (entry : Linking) → IsLinkDraft table count reports events past
    → lrack_by (option_map (λ (event : Event). event.rptids) (lookup (nat_eq entry.ceid) table))
    (λ rptid. lookup (nat_eq rptid) reports) count entry
    ≡ lrack_at events past entry
judged_link table count reports events past entry draft =
    let same : (λ rptid. lookup (nat_eq rptid) reports) ≡ report_at past = λ j rptid. draft.stands.standing.each rptid j in
    ap (λ o. lrack_by o (λ rptid. lookup (nat_eq rptid) reports) count entry)
    (table_links table events past entry.ceid draft.stands.rows)
    ∙ ap (λ report. lrack_by (links_of events past entry.ceid) report count entry) same
    ∙ ap (λ n. lrack_by (links_of events past entry.ceid) (report_at past) n entry) draft.counted

same_reports :
    (entry : Linking) (past : List ReportEntry) (rptid : ℕ) → report_at past rptid ≡ report_at (link_entry entry ∷ past) rptid
same_reports entry past rptid =
    elim (length entry.rptids == 0) as (λ b. report_at past rptid
    ≡ report_at (cond b (Unlink entry.ceid) (Link entry.ceid entry.rptids) ∷ past) rptid)
    [ true ↦ refl | false ↦ refl ]

sums_then :
    (was now links rptids count after : ℕ) → count ≡ was → was ≤ 4096 → now + links ≡ was + rptids
    → after ≡ min (count - links + rptids) (2 ^ 64 - 1)
    → (rptids ≡ 0) ⊎ ((links ≡ 0) × (was + rptids ≤ 4096))
    → (after ≡ now) × (now ≤ 4096)
sums_then was now links rptids count after is few sums counted (inl none) = (omega arith, omega arith)
sums_then was now links rptids count after is few sums counted (inr some) =
    let none = some.0 in let room = some.1 in (omega arith, omega arith)

-- one accepted entry of S2F35 more
link_entered :
    (entry : Linking) (table : EventTable) (count after : ℕ) (reports : ReportTable) (events : List ℕ)
    (past : List ReportEntry) → IsLinkDraft table count reports events past
    → lrack.Done ≡ lrack_at events past entry
    → after ≡ capped (count - length (links_in_table table entry.ceid) + length entry.rptids)
    → IsLinkDraft (with_each (at_event entry.ceid (with_links entry.rptids)) table) after reports events (link_entry entry ∷ past)
link_entered entry table count after reports events past draft done count_after =
    let c = entry.ceid in
    let told = accepted (links_of events past c) (report_at past) (link_count events past) entry (sym done) in
    let known = known_is (is_event events c) (links_at past c) told.links told.is in
    let there : list_any (nat_eq c) (each_once events) ≡ true = among_each_once events c ∙ known.0 in
    let row = linked_row entry past in
    let now : ℕ → ℕ = λ k. length (links_at (link_entry entry ∷ past) k) in
    let was : ℕ → ℕ = λ k. length (links_at past k) in
    let others : (k : ℕ) → nat_eq c k ≡ false → now k ≡ was k =
    λ k apart. ap (λ (e : Event). length e.rptids) (sym (row k))
    ∙ ap (λ b. length (cond b (with_links entry.rptids (event_after past k)) (event_after past k)).rptids) apart in
    let self : nat_eq c c ≡ true = nat_eq_equiv.refl c in
    let here : now c ≡ length entry.rptids =
    ap (λ (e : Event). length e.rptids) (sym (row c))
    ∙ ap (λ b. length (cond b (with_links entry.rptids (event_after past c)) (event_after past c)).rptids) self in
    let sums = sum_changed was now c (each_once events) (once_distinct events) there others in
    let links = ap (λ (l : List ℕ). length l) known.1 in
    let total : sum_by now (each_once events) + length told.links ≡ sum_by was (each_once events) + length entry.rptids =
    omega (arith, sums, links, here) in
    let had : links_in_table table c ≡ told.links =
    ap (λ o. unwrap_or o []) (table_links table events past c draft.stands.rows ∙ told.is) in
    let counts =
    sums_then (sum_by was (each_once events)) (sum_by now (each_once events)) (length told.links) (length entry.rptids)
    count after draft.counted draft.stands.few total
    (count_after ∙ ap (λ (l : List ℕ). capped (count - length l + length entry.rptids)) had) told.room in
    record {
      stands = record {
        rows = ap (with_each (at_event c (with_links entry.rptids))) draft.stands.rows
            ∙ each_after (at_event c (with_links entry.rptids)) events past (link_entry entry ∷ past) row;
        standing = record {
          each = λ rptid. draft.stands.standing.each rptid ∙ same_reports entry past rptid;
          distinct = draft.stands.standing.distinct;
        };
        few = counts.1;
      };
      counted = counts.0;
    }

-- what it leaves
abbrev linked : Linking → List ReportEntry → List ReportEntry
linked entry past = link_entry entry ∷ past

-- so many entries of S2F35 have been worked through
abbrev pub IsLinking :
    EventTable → ℕ → ReportTable → List ℕ → List ReportEntry → List Linking → List Linking → Type 0
IsLinking table count reports events past list rest =
    IsWorking (lrack_of events) linked (IsLinkDraft table count reports events) past list rest

pub linking :
    (table : EventTable) (count : ℕ) (reports : ReportTable) (events : List ℕ) (past : List ReportEntry)
    (list : List Linking) → IsLinkDraft table count reports events past
    → IsLinking table count reports events past list list
linking table count reports events past list draft =
    begins (lrack_of events) linked (IsLinkDraft table count reports events) past list draft

-- the answer to an entry by what is kept
abbrev kept_lrack : EventTable → ℕ → ReportTable → Linking → Lrack
kept_lrack table count reports entry =
    lrack_by (option_map (λ (event : Event). event.rptids) (lookup (nat_eq entry.ceid) table))
    (λ rptid. lookup (nat_eq rptid) reports) count entry

-- an entry's answer, and that to those behind it
first_of_links :
    (table : EventTable) (count : ℕ) (reports : ReportTable) (events : List ℕ) (at : List ReportEntry)
    (entry : Linking) (rest : List Linking) (answer : Lrack) → IsLinkDraft table count reports events at
    → answer ≡ kept_lrack table count reports entry
    → first_lrack answer (lrack_of events (linked entry at) rest) ≡ lrack_of events at (entry ∷ rest)
first_of_links table count reports events at entry rest answer draft verdict =
    ap (λ a. first_lrack a (lrack_of events (linked entry at) rest))
    (verdict ∙ judged_link table count reports events at entry draft)

pub linking_more :
    (table : EventTable) (count after : ℕ) (reports : ReportTable) (now : EventTable) (events : List ℕ)
    (past : List ReportEntry) (list : List Linking) (i : ℕ) (d : Linking) → i < length list
    → lrack.Done ≡ kept_lrack table count reports (get_or list i d)
    → now ≡ with_row (get_or list i d).ceid (with_links (get_or list i d).rptids) table
    → IsDistinct nat_eq (keys_of table)
    → after ≡ capped (count - length (links_in_table table (get_or list i d).ceid) + length (get_or list i d).rptids)
    → IsLinking table count reports events past list (drop i list)
    → IsLinking now after reports events past list (drop (i + 1) list)
linking_more table count after reports now events past list i d within verdict set distinct count_after so_far =
    let entry = get_or list i d in
    let rows = set ∙ event_row entry.ceid (with_links entry.rptids) table distinct in
    goes_on (lrack_of events) linked (IsLinkDraft table count reports events) (IsLinkDraft now after reports events)
    past list i d within
    (λ at draft. subst (λ t. IsLinkDraft t after reports events (linked entry at)) (sym rows)
    (link_entered entry table count after reports events at draft
    (verdict ∙ judged_link table count reports events at entry draft) count_after))
    (λ at draft rest. first_of_links table count reports events at entry rest lrack.Done draft verdict) so_far

first_link_refusal : (answer rest : Lrack) → (answer ≡ lrack.Done → ⊥) → first_lrack answer rest ≡ answer
first_link_refusal lrack.Done rest refused = absurd (refused refl)
first_link_refusal lrack.NoSpace rest refused = refl
first_link_refusal (lrack.Linked ceid) rest refused = refl
first_link_refusal (lrack.UnknownCeid ceid) rest refused = refl
first_link_refusal (lrack.UnknownRptid rptid) rest refused = refl

pub linking_refused :
    (table : EventTable) (count : ℕ) (reports : ReportTable) (events : List ℕ) (past : List ReportEntry)
    (list : List Linking) (i : ℕ) (d : Linking) (answer : Lrack) → i < length list
    → answer ≡ kept_lrack table count reports (get_or list i d)
    → (answer ≡ lrack.Done → ⊥) → IsLinking table count reports events past list (drop i list)
    → answer ≡ lrack_of events past list
linking_refused table count reports events past list i d answer within verdict refused so_far =
    refuses (lrack_of events) linked (IsLinkDraft table count reports events) past list i d answer within
    (λ at draft rest.
    let entry = get_or list i d in
    sym (first_link_refusal answer (lrack_of events (linked entry at) rest) refused)
    ∙ first_of_links table count reports events at entry rest answer draft verdict) so_far

pub linking_done :
    (table : EventTable) (count : ℕ) (reports : ReportTable) (events : List ℕ) (past : List ReportEntry)
    (list : List Linking) (i : ℕ) → length list ≤ i
    → IsLinking table count reports events past list (drop i list)
    → (lrack.Done ≡ lrack_of events past list) × IsLinkDraft table count reports events (past_after_link past list)
linking_done table count reports events past list i end so_far =
    ends (lrack_of events) linked (IsLinkDraft table count reports events) past list i lrack.Done end (λ at. refl) so_far

-- the links as they are before a request
pub link_drafted :
    (view : ReportsView) (copy : EventTable) (count : ℕ) (events : List ℕ) (past : List ReportEntry)
    → StandsFor view events past → copy ≡ with_each (without []) view.events → count ≡ capped (links_in view.events)
    → IsLinkDraft copy count view.reports events past
link_drafted view copy count events past stands is counted =
    let rows : copy ≡ events_at events past =
    is ∙ ap (with_each (without [])) stands.rows ∙ each_after (without []) events past past (λ ceid. without_none past ceid) in
    let links : links_in view.events ≡ link_count events past =
    ap (λ t. links_in t) stands.rows ∙ links_of_rows past (each_once events) in
    record {
      stands = record { rows = rows; standing = stands.standing; few = stands.few };
      counted = let few = stands.few in omega (arith, counted, links, few);
    }

pub not_done : (b : Bool) (P : Type 0) → (IsTrue b ↔ P) → b ≡ false → P → ⊥
not_done b P iff fails is = true≢false (sym (iff.1 is) ∙ fails)
