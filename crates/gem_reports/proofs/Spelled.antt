-- How long the items of events and reports are.
use Rattle.std.specs.Prelude.{min}
use Rattle.std.proofs.Common.{◌≡◌, ◌∙◌, ap, ℕ, ◌+◌, ◌-◌, ◌^◌, ◌<◌, ◌≤◌, List, [], ◌∷◌, ◌++◌, length, take, get_or, Option, length-append, arith}
use Rattle.std.proofs.lemmas.List.{take_more}
use Rattle.std.proofs.lemmas.List.Elements.{filter_map-append}
use Rattle.std.specs.List.{cons_option, filter_map}
use Rattle.secs_items.specs.declared.item.Item.{Item}
use Rattle.secs_items.specs.Items.{number_item}
use Rattle.secs_items.specs.Measures.{capped}
use Rattle.secs_items.specs.Spelling.{shortest_spelling}
use Rattle.secs_items.proofs.SpelledLengths.{length-number, together, together-append, together-cons}

-- an RPTID and its values
pub report_together :
    (rptid : ℕ) (body : Item) → together (number_item rptid ∷ body ∷ []) ≡ 6 + length (shortest_spelling body)
report_together rptid body =
    let a = together-cons (number_item rptid) (body ∷ []) in
    let b = together-cons body [] in
    omega (arith, a, b, length-number rptid)

-- DATAID, CEID and the reports
pub event_together :
    (dataid ceid : ℕ) (reports : Item)
    → together (number_item dataid ∷ number_item ceid ∷ reports ∷ []) ≡ 12 + length (shortest_spelling reports)
event_together dataid ceid reports =
    let a = together-cons (number_item dataid) (number_item ceid ∷ reports ∷ []) in
    let b = report_together ceid reports in
    omega (arith, a, b, length-number dataid)

-- the values of one VID more
pub values_more :
    (value : ℕ → Option Item) (vids : List ℕ) (i d : ℕ) → i < length vids
    → filter_map value (take (i + 1) vids)
    ≡ filter_map value (take i vids) ++ cons_option (value (get_or vids i d)) []
values_more value vids i d within =
    ap (filter_map value) (take_more vids i d within) ∙ filter_map-append value (take i vids) (get_or vids i d ∷ [])

-- how many there are so far, and how long
pub record IsMeasured (value : ℕ → Option Item) (vids : List ℕ) (i count len : ℕ) : Type 0 where
  pub few : count ≤ i
  pub count_is : count ≡ length (filter_map value (take i vids))
  pub len_is : len ≡ capped (together (filter_map value (take i vids)))

pub measured_more :
    (value : ℕ → Option Item) (vids : List ℕ) (i d count len more one now : ℕ) → i < length vids → more ≤ 1
    → more ≡ length (cons_option (value (get_or vids i d)) [])
    → one ≡ capped (together (cons_option (value (get_or vids i d)) [])) → now ≡ min (len + one) (2 ^ 64 - 1)
    → IsMeasured value vids i count len → IsMeasured value vids (i + 1) (count + more) now
measured_more value vids i d count len more one now within most more_is one_is now_is so_far =
    let before = filter_map value (take i vids) in
    let extra = cons_option (value (get_or vids i d)) [] in
    let all = values_more value vids i d within in
    let longer = ap together all ∙ together-append before extra in
    let counted = ap (λ (items : List Item). length items) all ∙ length-append before extra in
    let few = so_far.few in
    let count_is = so_far.count_is in
    let len_is = so_far.len_is in
    record {
      few = omega (arith, few, most);
      count_is = omega (arith, counted, count_is, more_is);
      len_is = omega (arith, longer, len_is, one_is, now_is);
    }
