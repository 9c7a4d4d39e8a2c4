-- The commands of plain words.
use Rattle.std.proofs.Common.{◌≡◌, ◌∙◌, ℕ, false, List, [], ◌∷◌, Option, Some, None, refl, ap, if◌then◌else◌}
use Rattle.std.specs.Option.{option_map, option_zip}
use Rattle.clap.proofs.FaultLemmas.{leaf_fault}
use Rattle.clap.specs.Faults.{defaults_fault, level_fault}
use Rattle.clap.specs.Kinds.{or_else}
use Rattle.clap.specs.Simple.{Shape, built}
use Rattle.clap.specs.Walk.{Held, finished, is_empty, nothing_held, rows_after}
use Rattle.clap.specs.Words.{Kinds, Text}
use Rattle.command_words.specs.Asked.{Asked, Drop, Format, Make}
use Rattle.command_words.specs.Forms.{app_for}
use Rattle.command_words.specs.Laws.{IsPlain, TakesPlainWords}
use Rattle.command_words.specs.Numbers.{number_in}
use Rattle.command_words.specs.Words.{asked_behind, found_in, meant_by, refusals}
use Rattle.command_words.specs.declared.names.Name.{Name}
use Rattle.command_words.specs.declared.names.Name.TheVariants as name
use Rattle.command_words.proofs.PlainWords.{Walks, all_found, all_refused, ended}
use Rattle.command_words.proofs.PlainWords.Walks.{ends, goes}

-- the built command of a name
abbrev top_of : Name → Shape
top_of name = (built (app_for name)).top

level_of : (n : Name) (words : List Text) → refusals n words ≡ level_fault (top_of n) [] nothing_held words false []
unfolding refusals app_for
level_of name.Show words = leaf_fault (built (app_for name.Show)) nothing_held words refl
level_of name.Spell words = leaf_fault (built (app_for name.Spell)) nothing_held words refl
level_of name.Replay words = leaf_fault (built (app_for name.Replay)) nothing_held words refl
level_of name.Equipment words = leaf_fault (built (app_for name.Equipment)) nothing_held words refl
level_of name.Host words = leaf_fault (built (app_for name.Host)) nothing_held words refl
level_of name.Format words = leaf_fault (built (app_for name.Format)) nothing_held words refl
level_of name.Spool words = leaf_fault (built (app_for name.Spool)) nothing_held words refl
level_of name.Drop words = leaf_fault (built (app_for name.Drop)) nothing_held words refl
level_of name.Make words = leaf_fault (built (app_for name.Make)) nothing_held words refl

rows_of : (n : Name) (words : List Text) → found_in n words ≡ rows_after (top_of n).rules [] words
unfolding found_in app_for
rows_of name.Show words = refl
rows_of name.Spell words = refl
rows_of name.Replay words = refl
rows_of name.Equipment words = refl
rows_of name.Host words = refl
rows_of name.Format words = refl
rows_of name.Spool words = refl
rows_of name.Drop words = refl
rows_of name.Make words = refl

-- a name with plain values that are not refused is the command of what they leave
asked_is : (n : Name) {words : List Text} {refused : Kinds} {last : Held}
    → Walks (top_of n) nothing_held 1 words refused last → or_else refused (ended (top_of n) last) ≡ []
    → asked_behind n words ≡ meant_by n (finished (top_of n).rules last)
asked_is n {words} walks taken =
    ap (λ (k : Kinds). if is_empty k then meant_by n (found_in n words) else None)
    (level_of n words ∙ all_refused walks ∙ taken)
    ∙ ap (meant_by n) (rows_of n words ∙ all_found walks)

format_asked : (file slots : Text) → IsPlain file → IsPlain slots
    → asked_behind name.Format (file ∷ slots ∷ [])
    ≡ option_map (λ parts. Format parts.0 parts.1) (option_zip (Some file) (number_in 1 65535 slots))
unfolding app_for defaults_fault
format_asked file slots plain_file plain_slots =
    asked_is name.Format (goes plain_file refl (goes plain_slots refl ends)) refl

abbrev format_with : Text → Option ℕ → Option Asked
format_with file slots = option_map (λ parts. Format parts.0 parts.1) (option_zip (Some file) slots)

drop_asked : (file count : Text) → IsPlain file → IsPlain count
    → asked_behind name.Drop (file ∷ count ∷ [])
    ≡ option_map (λ parts. Drop parts.0 parts.1) (option_zip (Some file) (number_in 1 65535 count))
unfolding app_for defaults_fault
drop_asked file count plain_file plain_count =
    asked_is name.Drop (goes plain_file refl (goes plain_count refl ends)) refl

abbrev drop_with : Text → Option ℕ → Option Asked
drop_with file count = option_map (λ parts. Drop parts.0 parts.1) (option_zip (Some file) count)

make_asked : (rounds : Text) → IsPlain rounds
    → asked_behind name.Make (rounds ∷ []) ≡ option_map Make (number_in 1 10000 rounds)
unfolding app_for defaults_fault
make_asked rounds plain = asked_is name.Make (goes plain refl ends) refl

pub takes_plain : TakesPlainWords
unfolding app_for defaults_fault
takes_plain = record {
  replay = λ plan schedule plain_plan plain_schedule. asked_is name.Replay
      (goes plain_plan refl (goes plain_schedule refl ends)) refl;
  equipment = λ plan address spool plain_plan plain_address plain_spool. asked_is name.Equipment
      (goes plain_plan refl (goes plain_address refl (goes plain_spool refl ends))) refl;
  host = λ plan address plain_plan plain_address. asked_is name.Host
      (goes plain_plan refl (goes plain_address refl ends)) refl;
  format = λ file slots n plain_file plain_slots is.
      format_asked file slots plain_file plain_slots ∙ ap (format_with file) is;
  outside = λ file slots plain_file plain_slots is.
      format_asked file slots plain_file plain_slots ∙ ap (format_with file) is;
  spool = λ spool plain. asked_is name.Spool (goes plain refl ends) refl;
  drop = λ file count n plain_file plain_count is.
      drop_asked file count plain_file plain_count ∙ ap (drop_with file) is;
  too_many = λ file count plain_file plain_count is.
      drop_asked file count plain_file plain_count ∙ ap (drop_with file) is;
  make = λ rounds n plain is. make_asked rounds plain ∙ ap (option_map Make) is;
  beyond = λ rounds plain is. make_asked rounds plain ∙ ap (option_map Make) is;
}
