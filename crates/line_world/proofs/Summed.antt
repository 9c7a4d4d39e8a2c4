-- The summary of what was counted is that of the text.
use Rattle.std.proofs.Common.{◌≡◌, ℕ, List, refl, ap, ◌∙◌}
use Rattle.std.specs.List.{count_by}
use Rattle.line_schedule.specs.Lines.{lines_of}
use Rattle.line_world.specs.Counting.{counts_of}
use Rattle.line_world.specs.Make.{is_equipment_received, is_gone, is_host_received, is_report, is_start, is_stored, summary_of}
use Rattle.line_world.specs.Making.{summary_text}
use Rattle.line_world.specs.declared.counting.Counts.{Counts}
use Rattle.line_world.proofs.Lines.{counts-such}

abbrev with_counts : (rounds a b c d e f : ℕ) → List ℕ
with_counts rounds a b c d e f =
    summary_text rounds
    (record { equipment_received = a; host_received = b; reports = c; stored = d; gone = e; starts = f })

pub summary-is : (rounds : ℕ) (text : List ℕ) (counts : Counts) → counts ≡ counts_of text
    → summary_text rounds counts ≡ summary_of rounds text
summary-is rounds text counts is =
    let lines = lines_of text in
    let all = counts_of text in
    let a = count_by is_equipment_received lines in
    let b = count_by is_host_received lines in
    let r = count_by is_report lines in
    let s = count_by is_stored lines in
    let g = count_by is_gone lines in
    ap (λ (c : Counts). summary_text rounds c) is
    ∙ ap (λ (n : ℕ). with_counts rounds n all.host_received all.reports all.stored all.gone all.starts)
    (counts-such is_equipment_received (λ c. c.equipment_received) (λ c line. refl) lines refl)
    ∙ ap (λ (n : ℕ). with_counts rounds a n all.reports all.stored all.gone all.starts)
    (counts-such is_host_received (λ c. c.host_received) (λ c line. refl) lines refl)
    ∙ ap (λ (n : ℕ). with_counts rounds a b n all.stored all.gone all.starts)
    (counts-such is_report (λ c. c.reports) (λ c line. refl) lines refl)
    ∙ ap (λ (n : ℕ). with_counts rounds a b r n all.gone all.starts)
    (counts-such is_stored (λ c. c.stored) (λ c line. refl) lines refl)
    ∙ ap (λ (n : ℕ). with_counts rounds a b r s n all.starts)
    (counts-such is_gone (λ c. c.gone) (λ c line. refl) lines refl)
    ∙ ap (λ (n : ℕ). with_counts rounds a b r s g n)
    (counts-such is_start (λ c. c.starts) (λ c line. refl) lines refl)
