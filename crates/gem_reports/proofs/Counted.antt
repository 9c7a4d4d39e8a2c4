-- How many reports stand.
use Rattle.std.proofs.Common.{◌≡◌, refl, sym, ◌∙◌, ap, Bool, true, false, cond, ◌&&◌, ◌||◌, ℕ, ◌+◌, ◌-◌, List, [], ◌∷◌, ◌++◌, length, length-append, nat_eq, Option, Some, None, is_some, arith}
use Rattle.std.proofs.lemmas.Bool.{eqb-true}
use Rattle.std.proofs.lemmas.Cmp.{nat_eq_equiv}
use Rattle.std.proofs.lemmas.Map.Made.{length-from_keys}
use Rattle.std.specs.List.{IsDistinct, filter_map, list_any}
use Rattle.std.specs.Option.{unwrap_or}
use Rattle.gem_reports.specs.History.{ReportEntry, defined_in, each_once, report_at, report_count, standing_at, with_number}
use Rattle.gem_reports.specs.History.ReportEntry.{Define, Delete, DeleteAll, Link, Unlink, Enable}
use Rattle.gem_reports.proofs.Members.{among_each_once, among_filtered, among_inserted, inserted_distinct, once_distinct, or_false, or_true, same_test}

-- a report that stands was defined
defined :
    (past : List ReportEntry) (q : ℕ) → is_some (report_at past q) ≡ true
    → list_any (nat_eq q) (filter_map defined_in past) ≡ true
defined [] q stands = absurd (cc)
defined (Define r vids ∷ past) q stands = go (nat_eq r q) refl (defined past q) stands
  where
    go : (b : Bool) → nat_eq r q ≡ b
        → (is_some (report_at past q) ≡ true → list_any (nat_eq q) (filter_map defined_in past) ≡ true)
        → is_some (unwrap_or (cond b (Some (Some vids)) None) (report_at past q)) ≡ true
        → (nat_eq q r || list_any (nat_eq q) (filter_map defined_in past)) ≡ true
    go true same rest is = let here : nat_eq q r ≡ true = same_test q r ∙ same in rw here refl
    go false other rest is = ap (λ b. nat_eq q r || b) (rest is) ∙ or_true (nat_eq q r)
defined (Delete r ∷ past) q stands = go (nat_eq r q) (defined past q) stands
  where
    go : (b : Bool)
        → (is_some (report_at past q) ≡ true → list_any (nat_eq q) (filter_map defined_in past) ≡ true)
        → is_some (unwrap_or (cond b (Some None) None) (report_at past q)) ≡ true
        → list_any (nat_eq q) (filter_map defined_in past) ≡ true
    go true rest is = absurd (cc)
    go false rest is = rest is
defined (DeleteAll ∷ past) q stands = absurd (cc)
defined (Link ceid rptids ∷ past) q stands = defined past q stands
defined (Unlink ceid ∷ past) q stands = defined past q stands
defined (Enable is_enabled ceids ∷ past) q stands = defined past q stands

-- the list of those that stand has these and no others
pub listed : (past : List ReportEntry) (q : ℕ) → is_some (report_at past q) ≡ list_any (nat_eq q) (standing_at past)
listed past q =
    go (is_some (report_at past q)) refl
    ∙ sym (among_filtered (λ r. is_some (report_at past r)) q (filter_map defined_in past))
  where
    go : (b : Bool) → is_some (report_at past q) ≡ b
        → is_some (report_at past q)
        ≡ (is_some (report_at past q) && list_any (nat_eq q) (filter_map defined_in past))
    go true stands = let has = defined past q stands in rw (stands, has) refl
    go false is = rw is refl

pub counted :
    (past : List ReportEntry) (rptids : List ℕ) → IsDistinct nat_eq rptids
    → ((rptid : ℕ) → list_any (nat_eq rptid) rptids ≡ is_some (report_at past rptid))
    → length rptids ≡ report_count past
counted past rptids distinct are =
    length-from_keys nat_eq_equiv rptids (standing_at past) distinct (λ q. are q ∙ listed past q)

pub put_report :
    (b : Bool) (vids : List ℕ) (o : Option (List ℕ))
    → cond b (Some vids) o ≡ unwrap_or (cond b (Some (Some vids)) None) o
put_report true vids o = refl
put_report false vids o = refl

pub removed_report :
    (b : Bool) (o : Option (List ℕ)) → cond b None o ≡ unwrap_or (cond b (Some None) None) o
removed_report true o = refl
removed_report false o = refl

-- those that stand, each once
abbrev once : List ReportEntry → List ℕ
once past = each_once (standing_at past)

standing_once :
    (past : List ReportEntry) (q : ℕ) → list_any (nat_eq q) (once past) ≡ is_some (report_at past q)
standing_once past q = among_each_once (standing_at past) q ∙ sym (listed past q)

count_once : (past : List ReportEntry) → length (once past) ≡ report_count past
count_once past = counted past (once past) (once_distinct (standing_at past)) (standing_once past)

same_count :
    (past after : List ReportEntry) → ((q : ℕ) → is_some (report_at past q) ≡ is_some (report_at after q))
    → report_count after ≡ report_count past
same_count past after same =
    sym (counted after (once past) (once_distinct (standing_at past)) (λ q. standing_once past q ∙ same q))
    ∙ count_once past

longer :
    (b : Bool) (xs : List ℕ) (r : ℕ) → length (cond b xs (xs ++ r ∷ [])) ≡ cond b (length xs) (length xs + 1)
longer true xs r = refl
longer false xs r = length-append xs (r ∷ [])

-- one report more stands, unless it stood before
count_more :
    (past after : List ReportEntry) (r : ℕ)
    → ((q : ℕ) → (is_some (report_at past q) || nat_eq q r) ≡ is_some (report_at after q))
    → report_count after ≡ cond (is_some (report_at past r)) (report_count past) (report_count past + 1)
count_more past after r more =
    let those = once past in
    sym (counted after (with_number those r) (inserted_distinct those r (once_distinct (standing_at past)))
    (λ q. among_inserted those r q ∙ ap (λ b. b || nat_eq q r) (standing_once past q) ∙ more q))
    ∙ longer (list_any (nat_eq r) those) those r
    ∙ ap (λ b. cond b (length those) (length those + 1)) (standing_once past r)
    ∙ ap (λ n. cond (is_some (report_at past r)) n (n + 1)) (count_once past)

pub count_defined :
    (past : List ReportEntry) (r : ℕ) (vids : List ℕ)
    → report_count (Define r vids ∷ past)
    ≡ cond (is_some (report_at past r)) (report_count past) (report_count past + 1)
count_defined past r vids =
    count_more past (Define r vids ∷ past) r
    (λ q. go (nat_eq r q) q (same_test q r) (report_at past q)
    ∙ ap (λ o. is_some o) (put_report (nat_eq r q) vids (report_at past q)))
  where
    go : (b : Bool) (q : ℕ) → nat_eq q r ≡ b → (o : Option (List ℕ))
        → (is_some o || nat_eq q r) ≡ is_some (cond b (Some vids) o)
    go true q same o = ap (λ c. is_some o || c) same ∙ or_true (is_some o)
    go false q same o = ap (λ c. is_some o || c) same ∙ or_false (is_some o)

-- whether a report stands once another is deleted
stands_still :
    (past : List ReportEntry) (r q : ℕ)
    → is_some (cond (nat_eq r q) None (report_at past q)) ≡ is_some (report_at (Delete r ∷ past) q)
stands_still past r q = ap (λ o. is_some o) (removed_report (nat_eq r q) (report_at past q))

pub count_deleted :
    (past : List ReportEntry) (r : ℕ)
    → report_count (Delete r ∷ past)
    ≡ cond (is_some (report_at past r)) (report_count past - 1) (report_count past)
count_deleted past r = go (is_some (report_at past r)) refl
  where
    there : (b : Bool) (q : ℕ) → nat_eq r q ≡ b → is_some (report_at past r) ≡ true
        → (is_some (cond b None (report_at past q)) || nat_eq q r) ≡ is_some (report_at past q)
    there true q same stands =
        same_test q r ∙ same ∙ sym stands ∙ ap (λ n. is_some (report_at past n)) (eqb-true r q same)
    there false q same stands =
        ap (λ c. is_some (report_at past q) || c) (same_test q r ∙ same) ∙ or_false (is_some (report_at past q))

    absent : (b : Bool) (q : ℕ) → nat_eq r q ≡ b → is_some (report_at past r) ≡ false
        → is_some (report_at past q) ≡ is_some (cond b None (report_at past q))
    absent true q same none = ap (λ n. is_some (report_at past n)) (sym (eqb-true r q same)) ∙ none
    absent false q same none = refl

    gone : is_some (report_at (Delete r ∷ past) r) ≡ false
    gone = sym (stands_still past r r) ∙ none (nat_eq r r) (refl_test r)
      where
        refl_test : (n : ℕ) → nat_eq n n ≡ true
        refl_test n = grind (arith)

        none : (b : Bool) → b ≡ true → is_some (cond b None (report_at past r)) ≡ false
        none true is = refl
        none false is = absurd (cc)

    go : (b : Bool) → is_some (report_at past r) ≡ b
        → report_count (Delete r ∷ past) ≡ cond b (report_count past - 1) (report_count past)
    go true stands =
        let more : report_count past ≡ cond (is_some (report_at (Delete r ∷ past) r)) (report_count (Delete r ∷ past)) (report_count (Delete r ∷ past) + 1) =
        count_more (Delete r ∷ past) past r
        (λ q. ap (λ b. b || nat_eq q r) (sym (stands_still past r q)) ∙ there (nat_eq r q) q refl stands) in
        let plus : report_count past ≡ report_count (Delete r ∷ past) + 1 =
        more ∙ ap (λ b. cond b (report_count (Delete r ∷ past)) (report_count (Delete r ∷ past) + 1)) gone in
        omega (arith, plus)
    go false none =
        same_count past (Delete r ∷ past) (λ q. absent (nat_eq r q) q refl none ∙ stands_still past r q)
