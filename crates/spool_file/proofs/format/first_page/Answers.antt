-- Name, number of slots, zeros and gate are the page of the definition.

use Rattle.std.proofs.Common.{◌≡◌, ◌∙◌, ◌++◌, ℕ, List, [], ◌∷◌, replicate, ap, sym, rules}
use Rattle.std.specs.Int.{w32, to_be_bytes}
use Rattle.spool_file.specs.Format.{new_magic}
use Rattle.spool_file.proofs.Fresh.{from_ok, page_parts}
use Rattle.spool_file.proofs.format.first_page.Goals as goal

pub returns : goal.returns
returns c =
    let none : c.new-page.result.items ≡ [] = search rules in
    let count : c.to_be_bytes.result ≡ to_be_bytes w32 c.args.slots = search rules in
    let first = from_ok _ _ c.unwrap.ensures c.try_extend_from_slice.ensures.ok in
    let second = from_ok _ _ c.unwrap-2.ensures c.try_extend_from_slice-2.ensures.ok in
    let third = from_ok _ _ c.unwrap-3.ensures c.try_extend_from_slice-3.ensures.ok in
    let fourth = from_ok _ _ c.unwrap-4.ensures c.try_extend_from_slice-4.ensures.ok in
    let fifth = from_ok _ _ c.unwrap-5.ensures c.try_extend_from_slice-5.ensures.ok in
    fifth
    ∙ ap (λ (xs : List ℕ). xs ++ replicate 4049 0)
    (fourth
    ∙ ap (λ (xs : List ℕ). xs ++ (1 ∷ []))
    (third
    ∙ ap (λ (xs : List ℕ). xs ++ replicate 34 0)
    (second ∙ ap (λ (xs : List ℕ). xs ++ c.to_be_bytes.result) (first ∙ ap (λ (xs : List ℕ). xs ++ new_magic) none)
    ∙ ap (λ (xs : List ℕ). new_magic ++ xs) count)))
    ∙ sym (page_parts c.args.slots)
