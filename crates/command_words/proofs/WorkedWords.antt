-- Words worked by computing.
use Rattle.std.proofs.Common.{refl}
use Rattle.clap.proofs.OnLiterals.{clap_on_literals}
use Rattle.command_words.specs.Forms.{app_for}
use Rattle.command_words.specs.Words.{found_in, refusals}
use Rattle.command_words.specs.Worked.{AreAsWorked}

pub as_worked : AreAsWorked
unfolding clap_on_literals app_for refusals found_in
as_worked = record { takes = refl; refuses = refl }
