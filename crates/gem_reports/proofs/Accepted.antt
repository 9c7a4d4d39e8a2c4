-- What accepted definitions leave in a report.
use Rattle.std.proofs.Common.{◌≡◌, refl, sym, ◌∙◌, ap, Bool, true, false, cond, not, ◌&&◌, ◌==◌, ℕ, List, [], ◌∷◌, length, nat_eq, nat_lt, Option, Some, None, is_some, IsTrue, arith}
use Rattle.std.proofs.lemmas.Bool.{eqb-true}
use Rattle.std.specs.List.{find, list_all}
use Rattle.std.specs.Option.{option_map_or, unwrap_or}
use Rattle.secs_items.specs.declared.item.Item.{Item}
use Rattle.gem_reports.specs.declared.answers.Drack.TheVariants as drack
use Rattle.gem_reports.specs.Answers.{drack_at}
use Rattle.gem_reports.specs.History.{ReportEntry, report_at, report_count}
use Rattle.gem_reports.specs.History.ReportEntry.{Define, Delete, DeleteAll, Link, Unlink, Enable}
use Rattle.gem_reports.specs.Laws.{AreAccepted, HasVids}

-- where none is found that is no variable, all are
none_found :
    (is_vid : ℕ → Bool) (value : ℕ → Option Item) (vids : List ℕ) → HasVids is_vid value
    → find (λ vid. not (is_some (value vid))) vids ≡ None → list_all is_vid vids ≡ true
none_found is_vid value [] has none = refl
none_found is_vid value (v ∷ vids) has none =
    go (is_some (value v)) refl none (none_found is_vid value vids has)
  where
    go : (b : Bool) → is_some (value v) ≡ b
        → cond (not b) (Some v) (find (λ vid. not (is_some (value vid))) vids) ≡ None
        → (find (λ vid. not (is_some (value vid))) vids ≡ None → list_all is_vid vids ≡ true)
        → (is_vid v && list_all is_vid vids) ≡ true
    go true is rest others =
        let here : is_vid v ≡ true = sym (has v) ∙ is in
        ap (λ b. b && list_all is_vid vids) here ∙ others rest
    go false is rest others = absurd (cc)

-- an accepted entry's VIDs are variables'
accepted_vids :
    (is_vid : ℕ → Bool) (value : ℕ → Option Item) (past : List ReportEntry) (rptid : ℕ) (vids : List ℕ)
    → HasVids is_vid value → drack_at value past (record { rptid = rptid; vids = vids }) ≡ drack.Done
    → list_all is_vid vids ≡ true
accepted_vids is_vid value past rptid [] has done = refl
accepted_vids is_vid value past rptid (v ∷ vids) has done =
    go (length (v ∷ vids) == 0) refl (is_some (report_at past rptid))
    (find (λ vid. not (is_some (value vid))) (v ∷ vids)) refl (nat_lt (report_count past) 1024) done
  where
    go : (a : Bool) → (length (v ∷ vids) == 0) ≡ a → (b : Bool)
        → (o : Option ℕ) → find (λ vid. not (is_some (value vid))) (v ∷ vids) ≡ o → (c : Bool)
        → cond a drack.Done (cond b (drack.Defined rptid)
        (option_map_or drack.UnknownVid o (cond c drack.Done drack.NoSpace))) ≡ drack.Done
        → list_all is_vid (v ∷ vids) ≡ true
    go true some b o found c is = let none = eqb-true (length (v ∷ vids)) 0 some in absurd (omega arith)
    go false some true o found c is = absurd (cc)
    go false some false (Some vid) found c is = absurd (cc)
    go false some false None found c is = none_found is_vid value (v ∷ vids) has found

pub all_vids :
    (is_vid : ℕ → Bool) (past : List ReportEntry) (rptid : ℕ) (vids : List ℕ) → AreAccepted is_vid past
    → report_at past rptid ≡ Some vids → IsTrue (list_all is_vid vids)
all_vids is_vid [] rptid vids accepted stands = absurd (cc)
all_vids is_vid (Define r defined ∷ past) rptid vids accepted stands =
    go (nat_eq r rptid) stands (all_vids is_vid past rptid vids accepted.1)
  where
    go : (b : Bool) → unwrap_or (cond b (Some (Some defined)) None) (report_at past rptid) ≡ Some vids
        → (report_at past rptid ≡ Some vids → list_all is_vid vids ≡ true) → list_all is_vid vids ≡ true
    go true is others =
        let same : defined ≡ vids = cc in
        let one = accepted.0 in
        ap (list_all is_vid) (sym same) ∙ accepted_vids is_vid one.0 past r defined one.1 one.2
    go false is others = others is
all_vids is_vid (Delete r ∷ past) rptid vids accepted stands =
    go (nat_eq r rptid) stands (all_vids is_vid past rptid vids accepted.1)
  where
    go : (b : Bool) → unwrap_or (cond b (Some None) None) (report_at past rptid) ≡ Some vids
        → (report_at past rptid ≡ Some vids → list_all is_vid vids ≡ true) → list_all is_vid vids ≡ true
    go true is others = absurd (cc)
    go false is others = others is
all_vids is_vid (DeleteAll ∷ past) rptid vids accepted stands = absurd (cc)
all_vids is_vid (Link ceid rptids ∷ past) rptid vids accepted stands = all_vids is_vid past rptid vids accepted.1 stands
all_vids is_vid (Unlink ceid ∷ past) rptid vids accepted stands = all_vids is_vid past rptid vids accepted.1 stands
all_vids is_vid (Enable is_enabled ceids ∷ past) rptid vids accepted stands =
    all_vids is_vid past rptid vids accepted.1 stands
