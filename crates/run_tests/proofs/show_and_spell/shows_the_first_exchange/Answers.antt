use Rattle.run_tests.proofs.FirstExchange.{first_ends}
use Rattle.run_tests.proofs.show_and_spell.shows_the_first_exchange.Goals as goal

pub returns : goal.returns
returns c = first_ends
