-- A walk by `clap` over words that begin with no hyphen.
use Rattle.std.proofs.Common.{◌≡◌, ◌∙◌, ◌==◌, ℕ, suc, Bool, true, false, not, List, [], ◌∷◌, Some, None, refl, sym, ap, bytes_eq, ◌&&◌, fold, if◌then◌else◌}
use Rattle.std.specs.Option.{option_and_then, option_map_or}
use Rattle.clap.specs.Lexer.{long_of, long_of_rest, short_of, short_of_rest, strip_byte}
use Rattle.clap.specs.Faults.{bundle_fault, check_fault, defaults_fault, flag_word_fault, level_fault, settle_fault, step_fault, turn_fault, walk_fault, word_fault}
use Rattle.clap.specs.Kinds.{or_else}
use Rattle.clap.specs.Simple.{Shape}
use Rattle.clap.specs.Walk.{Held, Rule, Walk, after_step, arg_by_index, finished, idle, long_or_other, nothing_held, rows_after, settled, short_or_plain, to_positional, trailing, value, walk_from, walked, word_met}
use Rattle.clap.specs.Words.{Kinds, Text}
use Rattle.command_words.specs.Laws.{IsPlain}

is_other : (b : Bool) → not b ≡ true → b ≡ false
is_other false h = refl
is_other true h = sym h

-- where the walk stands, with nothing to wait for
abbrev at : Held → ℕ → Walk
at held position =
    record { held = held; waiting = idle; position = position; is_trailing = false; stopped = None }

-- where a value in its place leads
abbrev next : List Rule → Held → ℕ → Text → Walk
next rules held position word = to_positional rules (arg_by_index rules position) word (at held position) held

-- such a word is neither `--` nor an option
module _ (x : ℕ) (xs : List ℕ) (other : (x == 45) ≡ false) where
  no_hyphens : bytes_eq (x ∷ xs) (45 ∷ 45 ∷ []) ≡ false
  no_hyphens = ap (λ b. b && bytes_eq xs (45 ∷ [])) other

  no_long : long_of (x ∷ xs) ≡ None
  no_long = ap (λ b. option_and_then long_of_rest (option_and_then (strip_byte 45) (if b then Some xs else None))) other

  no_short : short_of (x ∷ xs) ≡ None
  no_short = ap (λ b. option_and_then short_of_rest (if b then Some xs else None)) other

met_is : (rules : List Rule) (position : ℕ) (held : Held) (word : Text) → IsPlain word
    → word_met rules [] false idle position word held ≡ (held, value)
met_is rules position held [] plain = refl
met_is rules position held (x ∷ xs) plain =
    let other = is_other (x == 45) plain in
    ap (λ b. if b then (held, trailing position) else long_or_other rules idle (x ∷ xs) (long_of (x ∷ xs)) held)
    (no_hyphens x xs other)
    ∙ ap (λ o. long_or_other rules idle (x ∷ xs) o held) (no_long x xs other)
    ∙ ap (λ o. short_or_plain rules idle (x ∷ xs) o held) (no_short x xs other)

not_refused : (s : Shape) (held : Held) (word : Text) → IsPlain word → word_fault s [] false idle word held ≡ []
not_refused s held [] plain = refl
not_refused s held (x ∷ xs) plain =
    let other = is_other (x == 45) plain in
    ap (λ b. if b then [] else flag_word_fault s.rules s.args_override_self (long_of (x ∷ xs)) (x ∷ xs) held)
    (no_hyphens x xs other)
    ∙ ap (λ o. flag_word_fault s.rules s.args_override_self o (x ∷ xs) held) (no_long x xs other)
    ∙ ap (λ o. option_map_or (λ flags. bundle_fault s.rules s.args_override_self flags held) o []) (no_short x xs other)

walked_is : (rules : List Rule) (held : Held) (position : ℕ) (word : Text) → IsPlain word
    → walked rules [] (at held position) word ≡ next rules held position word
unfolding walked
walked_is rules held position word plain =
    ap (λ met. after_step rules word (at held position) met.0 met.1) (met_is rules position held word plain)

turn_is : (s : Shape) (held : Held) (position : ℕ) (word : Text) → IsPlain word
    → turn_fault s [] (at held position) word ≡ step_fault s position held value
turn_is s held position word plain =
    let met = word_met s.rules [] false idle position word held in
    ap (λ kinds. or_else kinds (step_fault s position met.0 met.1)) (not_refused s held word plain)
    ∙ ap (λ step. step_fault s position step.0 step.1) (met_is s.rules position held word plain)

-- what is checked where the words end
abbrev pub ended : Shape → Held → Kinds
ended s last =
    or_else (settle_fault s.rules s.args_override_self last)
    (or_else (defaults_fault (settled s.rules last).rows s.rules) (check_fault s (finished s.rules last) false))

-- plain words are values, each in its place, from a position on: so each is refused, and the last leaves this
pub data Walks (s : Shape)
    : (held : Held) (position : ℕ) (words : List Text) (refused : Kinds) (last : Held) → Type 0 where
  ends : {held : Held} {position : ℕ} → Walks s held position [] [] held
  goes :
      {held last : Held} {position : ℕ} {word : Text} {words : List Text} {refused : Kinds} {more : Held} → IsPlain word
      → next s.rules held position word ≡ at more (suc position) → Walks s more (suc position) words refused last
      → Walks s held position (word ∷ words) (or_else (step_fault s position held value) refused) last

-- where they lead
leads_to : {s : Shape} {held last : Held} {position : ℕ} {words : List Text} {refused : Kinds}
    → Walks s held position words refused last
    → (fold (walked s.rules []) (at held position) words).held ≡ last
leads_to ends = refl
leads_to {s} (goes {held = held} {position = position} {word = word} {words = words} plain next more) =
    ap (λ w. (fold (walked s.rules []) w words).held) (walked_is s.rules held position word plain ∙ next)
    ∙ leads_to more

refused_by : {s : Shape} {held last : Held} {position : ℕ} {words : List Text} {refused : Kinds}
    → Walks s held position words refused last → walk_fault s [] (at held position) words ≡ refused
unfolding walk_fault
refused_by ends = refl
refused_by {s} (goes {held = held} {position = position} {word = word} {words = words} {more = after} plain next more) =
    ap (λ w. or_else (turn_fault s [] (at held position) word) (walk_fault s [] w words))
    (walked_is s.rules held position word plain ∙ next)
    ∙ ap (λ kinds. or_else kinds (walk_fault s [] (at after (suc position)) words)) (turn_is s held position word plain)
    ∙ ap (or_else (step_fault s position held value)) (refused_by more)

module _ {s : Shape} {words : List Text} {refused : Kinds} {last : Held}
    (walks : Walks s nothing_held 1 words refused last)
  where
    pub all_refused : level_fault s [] nothing_held words false [] ≡ or_else refused (ended s last)
    all_refused =
        ap (λ kinds. or_else kinds (ended s (fold (walked s.rules []) (walk_from nothing_held) words).held))
        (refused_by walks)
        ∙ ap (λ held. or_else refused (ended s held)) (leads_to walks)

    pub all_found : rows_after s.rules [] words ≡ finished s.rules last
    all_found = ap (finished s.rules) (leads_to walks)
