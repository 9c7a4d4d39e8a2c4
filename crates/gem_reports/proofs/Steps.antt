-- What an entry more does to events and reports.
use Rattle.std.specs.Prelude.{min}
use Rattle.std.proofs.Common.{◌≡◌, refl, sym, ◌∙◌, ap, subst, Bool, true, false, cond, not, ◌&&◌, ◌||◌, ◌==◌, ℕ, ◌+◌, ◌-◌, ◌^◌, ◌<◌, List, [], ◌∷◌, ◌++◌, length, filter, nat_eq, nat_lt, Option, Some, None, is_some, arith}
use Rattle.std.proofs.lemmas.Bool.Decides.{nat_tests}
use Rattle.std.proofs.lemmas.List.Elements.{filter_agree}
use Rattle.std.specs.List.{find, list_any}
use Rattle.std.specs.Option.{option_map_or, unwrap_or}
use Rattle.secs_items.specs.declared.item.Item.{Item}
use Rattle.gem_tables.specs.History.{newest}
use Rattle.gem_shapes.specs.declared.entries.Definition.{Definition}
use Rattle.gem_shapes.specs.declared.entries.Linking.{Linking}
use Rattle.gem_reports.specs.declared.answers.Drack.{Drack}
use Rattle.gem_reports.specs.declared.answers.Drack.TheVariants as drack
use Rattle.gem_reports.specs.declared.event.Event.{Event}
use Rattle.gem_reports.specs.Answers.{define_entry, drack_by, link_entry}
use Rattle.gem_reports.specs.Drafts.{IsDraft}
use Rattle.gem_reports.specs.Events.{enabled_by, event_after, with_no_links, with_enabled, with_links, without}
use Rattle.gem_reports.specs.History.{ReportEntry, is_deletion, enabled_at, link_in, links_at, is_named, report_at, report_count, since_link}
use Rattle.gem_reports.specs.History.ReportEntry.{Define, Delete, DeleteAll, Link, Unlink, Enable}
use Rattle.gem_reports.specs.Tables.{ReportTable, report_of, vids_behind, vids_in}
use Rattle.gem_reports.proofs.Counted.{count_defined, count_deleted, put_report, removed_report}
use Rattle.gem_reports.proofs.Rows.{at_event}
use Rattle.gem_reports.proofs.Members.{filter_all, filter_twice, same_test}

neither_kept : (a b : Bool) → not (cond b true a) ≡ (not a && not b)
neither_kept true true = refl
neither_kept true false = refl
neither_kept false true = refl
neither_kept false false = refl

neither_deleted : (a b : Bool) → (not a && not b) ≡ not (b || a)
neither_deleted true true = refl
neither_deleted true false = refl
neither_deleted false true = refl
neither_deleted false false = refl

-- a report is deleted, and its links go
pub deleted_row :
    (r : ℕ) (deleted now : List ℕ) (start past : List ReportEntry) (ceid : ℕ)
    → ((q : ℕ) → list_any (nat_eq q) now ≡ cond (nat_eq r q) true (list_any (nat_eq q) deleted))
    → without deleted ceid (event_after start ceid) ≡ event_after past ceid
    → without now ceid (event_after start ceid) ≡ event_after (Delete r ∷ past) ceid
deleted_row r deleted now start past ceid keys is =
    let first = links_at start ceid in
    let linked_then = newest (link_in ceid) [] past in
    let since = since_link past ceid in
    let links : filter (λ x. not (list_any (nat_eq x) deleted)) first ≡ links_at past ceid =
    ap (λ (e : Event). e.rptids) is in
    let on : enabled_at start ceid ≡ enabled_at past ceid = ap (λ (e : Event). e.is_enabled) is in
    let all : filter (λ x. not (list_any (nat_eq x) now)) first
    ≡ filter (λ x. not (nat_eq r x || list_any (is_deletion x) since)) linked_then =
    filter_agree (λ x. not (list_any (nat_eq x) now)) (λ x. not (list_any (nat_eq x) deleted) && not (nat_eq r x))
    (λ x. ap not (keys x) ∙ neither_kept (list_any (nat_eq x) deleted) (nat_eq r x)) first
    ∙ sym (filter_twice (λ x. not (nat_eq r x)) (λ x. not (list_any (nat_eq x) deleted)) first)
    ∙ ap (filter (λ x. not (nat_eq r x))) links
    ∙ filter_twice (λ x. not (nat_eq r x)) (λ x. not (list_any (is_deletion x) since)) linked_then
    ∙ filter_agree (λ x. not (list_any (is_deletion x) since) && not (nat_eq r x))
    (λ x. not (nat_eq r x || list_any (is_deletion x) since))
    (λ x. neither_deleted (list_any (is_deletion x) since) (nat_eq r x)) linked_then in
    ap (λ (b : Bool). record { is_enabled = b; rptids = filter (λ x. not (list_any (nat_eq x) now)) first }) on
    ∙ ap (λ (rs : List ℕ). record { is_enabled = enabled_at past ceid; rptids = rs }) all

defines : (entry : Definition) → (length entry.vids == 0) ≡ false → define_entry entry ≡ Define entry.rptid entry.vids
defines entry some = ap (λ b. cond b (Delete entry.rptid) (Define entry.rptid entry.vids)) some

deletes_one : (entry : Definition) → (length entry.vids == 0) ≡ true → define_entry entry ≡ Delete entry.rptid
deletes_one entry none = ap (λ b. cond b (Delete entry.rptid) (Define entry.rptid entry.vids)) none

-- what is seen behind the changes with an entry more
entry_behind :
    (entry : Definition) (standing changes now : ReportTable) (q : ℕ)
    → vids_in now q ≡ cond (nat_eq entry.rptid q) (Some entry.vids) (vids_in changes q)
    → vids_behind now standing q ≡ cond (nat_eq entry.rptid q) (report_of entry.vids) (vids_behind changes standing q)
entry_behind entry standing changes now q put =
    ap (λ o. option_map_or report_of o (vids_in standing q)) put ∙ go (nat_eq entry.rptid q)
  where
    go : (b : Bool)
        → option_map_or report_of (cond b (Some entry.vids) (vids_in changes q)) (vids_in standing q)
        ≡ cond b (report_of entry.vids) (vids_behind changes standing q)
    go true = refl
    go false = refl

-- once the last of some changes is made, the reports are seen behind the others as before
pub last_behind :
    (changes : ReportTable) (rptid : ℕ) (vids : List ℕ) (reports now : ReportTable) (q : ℕ)
    → vids_in now q ≡ cond (nat_eq rptid q) (report_of vids) (vids_in reports q)
    → vids_behind changes now q ≡ vids_behind (changes ++ (rptid, vids) ∷ []) reports q
last_behind [] rptid vids reports now q made =
    made ∙ ap (λ b. cond b (report_of vids) (vids_in reports q)) (same_test rptid q) ∙ go (nat_eq q rptid)
  where
    go : (b : Bool)
        → cond b (report_of vids) (vids_in reports q)
        ≡ option_map_or report_of (cond b (Some vids) None) (vids_in reports q)
    go true = refl
    go false = refl
last_behind (e ∷ es) rptid vids reports now q made =
    go (nat_eq q e.0) (last_behind es rptid vids reports now q made)
  where
    go : (b : Bool) → vids_behind es now q ≡ vids_behind (es ++ (rptid, vids) ∷ []) reports q
        → option_map_or report_of (cond b (Some e.1) (vids_in es q)) (vids_in now q)
        ≡ option_map_or report_of (cond b (Some e.1) (vids_in (es ++ (rptid, vids) ∷ []) q)) (vids_in reports q)
    go true rest = refl
    go false rest = rest

pub none_left : (changes : ReportTable) → (0 < length changes → ⊥) → changes ≡ []
none_left [] none = refl
none_left (e ∷ es) none = absurd (none (omega arith))

-- an accepted entry that defines: its report doesn't stand, and there is room
has_room :
    (value : ℕ → Option Item) (standing : Option (List ℕ)) (count : ℕ) (entry : Definition)
    → (length entry.vids == 0) ≡ false → drack.Done ≡ drack_by value standing count entry
    → (is_some standing ≡ false) × (count < 1024)
has_room value standing count entry some done =
    go (is_some standing) refl (find (λ vid. not (is_some (value vid))) entry.vids) refl (nat_lt count 1024) refl
    (ap (λ b. cond b drack.Done (drack_behind (is_some standing)
    (find (λ vid. not (is_some (value vid))) entry.vids) (nat_lt count 1024))) (sym some) ∙ sym done)
  where
    drack_behind : Bool → Option ℕ → Bool → Drack
    drack_behind b o c =
        cond b (drack.Defined entry.rptid) (option_map_or drack.UnknownVid o (cond c drack.Done drack.NoSpace))

    go : (b : Bool) → is_some standing ≡ b → (o : Option ℕ) → find (λ vid. not (is_some (value vid))) entry.vids ≡ o
        → (c : Bool) → nat_lt count 1024 ≡ c → drack_behind b o c ≡ drack.Done
        → (is_some standing ≡ false) × (count < 1024)
    go true is o found c room accepted = absurd (cc)
    go false is (Some vid) found c room accepted = absurd (cc)
    go false is None found true room accepted = (is, grind (arith, nat_tests))
    go false is None found false room accepted = absurd (cc)

-- a draft with a report more
pub draft_defines :
    (value : ℕ → Option Item) (entry : Definition) (standing changes now : ReportTable) (count after : ℕ)
    (deleted : List ℕ) (start past : List ReportEntry)
    → (length entry.vids == 0) ≡ false → IsDraft standing changes count deleted start past
    → drack.Done ≡ drack_by value (vids_behind changes standing entry.rptid) count entry
    → ((q : ℕ) → vids_in now q ≡ cond (nat_eq entry.rptid q) (Some entry.vids) (vids_in changes q))
    → after ≡ min (count + 1) (2 ^ 64 - 1) → IsDraft standing now after deleted start (define_entry entry ∷ past)
draft_defines value entry standing changes now count after deleted start past some draft done put counted =
    let r = entry.rptid in
    let told = has_room value (vids_behind changes standing r) count entry some done in
    let room = told.1 in
    let was = draft.counted in
    let more : report_count (Define r entry.vids ∷ past) ≡ report_count past + 1 =
    count_defined past r entry.vids
    ∙ ap (λ b. cond b (report_count past) (report_count past + 1))
    (ap (λ o. is_some o) (sym (draft.each r)) ∙ told.0) in
    subst (λ e. IsDraft standing now after deleted start (e ∷ past)) (sym (defines entry some)) (record {
      each = λ q. entry_behind entry standing changes now q (put q)
          ∙ ap (λ b. cond (nat_eq r q) (cond b None (Some entry.vids)) (vids_behind changes standing q)) some
          ∙ ap (cond (nat_eq r q) (Some entry.vids)) (draft.each q)
          ∙ put_report (nat_eq r q) entry.vids (report_at past q);
      counted = omega (arith, counted, room, was, more);
      rows = draft.rows;
    })

-- a draft with a report deleted
pub draft_deletes :
    (entry : Definition) (standing changes now : ReportTable) (count after : ℕ) (deleted gone : List ℕ)
    (start past : List ReportEntry)
    → (length entry.vids == 0) ≡ true → IsDraft standing changes count deleted start past
    → ((q : ℕ) → list_any (nat_eq q) gone ≡ cond (nat_eq entry.rptid q) true (list_any (nat_eq q) deleted))
    → ((q : ℕ) → vids_in now q ≡ cond (nat_eq entry.rptid q) (Some entry.vids) (vids_in changes q))
    → after ≡ cond (is_some (vids_behind changes standing entry.rptid)) (count - 1) count
    → IsDraft standing now after gone start (define_entry entry ∷ past)
draft_deletes entry standing changes now count after deleted gone start past none draft keys put counted =
    let r = entry.rptid in
    subst (λ e. IsDraft standing now after gone start (e ∷ past)) (sym (deletes_one entry none)) (record {
      each = λ q. entry_behind entry standing changes now q (put q)
          ∙ ap (λ b. cond (nat_eq r q) (cond b None (Some entry.vids)) (vids_behind changes standing q)) none
          ∙ ap (cond (nat_eq r q) None) (draft.each q)
          ∙ removed_report (nat_eq r q) (report_at past q);
      counted = counted
          ∙ ap (λ o. cond (is_some o) (count - 1) count) (draft.each r)
          ∙ ap (λ n. cond (is_some (report_at past r)) (n - 1) n) draft.counted
          ∙ sym (count_deleted past r);
      rows = λ ceid. deleted_row r deleted gone start past ceid keys (draft.rows ceid);
    })

pub without_none : (past : List ReportEntry) (ceid : ℕ) → without [] ceid (event_after past ceid) ≡ event_after past ceid
without_none past ceid = ap (λ (rs : List ℕ). with_links rs (event_after past ceid)) (filter_all (links_at past ceid))

pub all_unlinked :
    (past : List ReportEntry) (ceid : ℕ) → with_no_links ceid (event_after past ceid) ≡ event_after (DeleteAll ∷ past) ceid
all_unlinked past ceid = refl

pub enabled_row :
    (on : Bool) (ceids : List ℕ) (past : List ReportEntry) (ceid : ℕ)
    → enabled_by on ceids ceid (event_after past ceid) ≡ event_after (Enable on ceids ∷ past) ceid
enabled_row on ceids past ceid = go (is_named ceids ceid)
  where
    go : (b : Bool)
        → cond b (with_enabled on (event_after past ceid)) (event_after past ceid)
        ≡ record { is_enabled = unwrap_or (cond b (Some on) None) (enabled_at past ceid); rptids = links_at past ceid }
    go true = refl
    go false = refl

no_ids : (ids : List ℕ) → (length ids == 0) ≡ true → ids ≡ []
no_ids [] none = refl
no_ids (id ∷ ids) none = let more : (length (id ∷ ids) == 0) ≡ false = grind (arith, nat_tests) in absurd (cc)

pub link_row :
    (c : ℕ) (rptids : List ℕ) (past : List ReportEntry) (k : ℕ)
    → at_event c (with_links rptids) k (event_after past k) ≡ event_after (Link c rptids ∷ past) k
link_row c rptids past k = go (nat_eq c k) refl
  where
    go : (b : Bool) → nat_eq c k ≡ b
        → at_event c (with_links rptids) k (event_after past k) ≡ event_after (Link c rptids ∷ past) k
    go true same = rw same (ap (λ (rs : List ℕ). with_links rs (event_after past k)) (sym (filter_all rptids)))
    go false other = rw other refl

pub unlink_row :
    (c : ℕ) (past : List ReportEntry) (k : ℕ)
    → at_event c (with_links []) k (event_after past k) ≡ event_after (Unlink c ∷ past) k
unlink_row c past k = go (nat_eq c k) refl
  where
    go : (b : Bool) → nat_eq c k ≡ b
        → at_event c (with_links []) k (event_after past k) ≡ event_after (Unlink c ∷ past) k
    go true same = rw same refl
    go false other = rw other refl

-- an event is linked, or unlinked
pub linked_row :
    (entry : Linking) (past : List ReportEntry) (k : ℕ)
    → at_event entry.ceid (with_links entry.rptids) k (event_after past k) ≡ event_after (link_entry entry ∷ past) k
linked_row entry past k = go (length entry.rptids == 0) refl
  where
    go : (b : Bool) → (length entry.rptids == 0) ≡ b
        → at_event entry.ceid (with_links entry.rptids) k (event_after past k)
        ≡ event_after (cond b (Unlink entry.ceid) (Link entry.ceid entry.rptids) ∷ past) k
    go true none =
        ap (λ (rs : List ℕ). at_event entry.ceid (with_links rs) k (event_after past k)) (no_ids entry.rptids none)
        ∙ unlink_row entry.ceid past k
    go false some = link_row entry.ceid entry.rptids past k
