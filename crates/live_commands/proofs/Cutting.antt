-- A row of bytes asks for the same, wherever it is cut.
use Rattle.std.proofs.Common.{◌≡◌, ℕ, List, [], ◌∷◌, ◌++◌, append_assoc, refl, sym, ap, ◌∙◌}
use Rattle.std.specs.List.{concat}
use Rattle.live_commands.specs.Coming.{Standing, asked_at_end, asked_in_parts, asked_with, asked_with_byte, behind, behind_byte}
use Rattle.live_commands.specs.Commands.{Numbered}
use Rattle.live_commands.specs.Laws.{ComesByBytes}

pub asked_cut : (s : Standing) (first second : List ℕ) →
    asked_with s (first ++ second) ≡ asked_with s first ++ asked_with (behind s first) second
asked_cut s [] second = refl
asked_cut s (b ∷ first) second =
    ap (λ (more : List Numbered). asked_with_byte s b ++ more) (asked_cut (behind_byte s b) first second)
    ∙ sym (append_assoc (asked_with_byte s b) (asked_with (behind_byte s b) first)
    (asked_with (behind (behind_byte s b) first) second))

pub stands_cut : (s : Standing) (first second : List ℕ) → behind s (first ++ second) ≡ behind (behind s first) second
stands_cut s [] second = refl
stands_cut s (b ∷ first) second = stands_cut (behind_byte s b) first second

pub by_bytes : ComesByBytes
by_bytes = record { asked = asked_cut; stands = stands_cut }

-- in parts as at once
pub in_parts : (parts : List (List ℕ)) (s : Standing) →
    asked_in_parts s parts ≡ asked_with s (concat parts) ++ asked_at_end (behind s (concat parts))
in_parts [] s = refl
in_parts (part ∷ parts) s =
    let rest = concat parts in
    let here = behind s part in
    ap (λ (more : List Numbered). asked_with s part ++ more) (in_parts parts here)
    ∙ sym (append_assoc (asked_with s part) (asked_with here rest) (asked_at_end (behind here rest)))
    ∙ ap (λ (asked : List Numbered). asked ++ asked_at_end (behind here rest)) (sym (asked_cut s part rest))
    ∙ ap (λ (end : Standing). asked_with s (part ++ rest) ++ asked_at_end end) (sym (stands_cut s part rest))
