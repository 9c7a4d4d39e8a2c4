-- What a parse by `clap` comes to.
use Rattle.std.proofs.Common.{◌≡◌, ◌&&◌, Bool, true, false, List, refl, subst, Result}
use Rattle.clap.specs.Faults.{is_free_app}
use Rattle.clap.specs.Simple.{built}
use Rattle.clap.specs.Words.{App, Text, fault_of, is_simple, is_simple_and_free, matches_of}
use Rattle.clap.specs.declared.parser.matches.ArgMatches.{ArgMatches}
use Rattle.command_words.specs.Forms.{app_for}
use Rattle.command_words.specs.Words.{IsParse, found_in, refusals}
use Rattle.command_words.specs.declared.command.WordsFault.{WordsFault}
use Rattle.command_words.specs.declared.names.Name.{Name}

left_is : (a b : Bool) → (a && b) ≡ true → a ≡ true
left_is true b h = refl
left_is false b h = h

pub simple_of : (a : App) → is_simple_and_free a ≡ true → is_simple a ≡ true
simple_of a h = left_is (is_simple a) (is_free_app (built a)) h

-- what a parse is to the command of a name
pub parsed_for : (name : Name) (a : App) → a ≡ app_for name
    → (words : List Text) (result : Result ArgMatches WordsFault)
    → IsParse (fault_of a words) (matches_of a words) result
    → IsParse (refusals name words) (found_in name words) result
unfolding refusals found_in
parsed_for name a is words result h = subst (λ (b : App). IsParse (fault_of b words) (matches_of b words) result) is h
