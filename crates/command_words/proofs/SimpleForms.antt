-- The commands of all names are simple ones of `clap`, and none of their arguments has a rule on another.
use Rattle.std.proofs.Common.{◌≡◌, true, refl}
use Rattle.clap.specs.Words.{is_simple_and_free}
use Rattle.clap.proofs.OnLiterals.{clap_on_literals}
use Rattle.command_words.specs.Forms.{app_for}
use Rattle.command_words.specs.declared.names.Name.{Name}
use Rattle.command_words.specs.declared.names.Name.TheVariants.{Show, Spell, Replay, Equipment, Host, Format, Spool, Drop, Make}

pub is_simple_for : (name : Name) → is_simple_and_free (app_for name) ≡ true
unfolding clap_on_literals app_for
is_simple_for Show = refl
is_simple_for Spell = refl
is_simple_for Replay = refl
is_simple_for Equipment = refl
is_simple_for Host = refl
is_simple_for Format = refl
is_simple_for Spool = refl
is_simple_for Drop = refl
is_simple_for Make = refl
