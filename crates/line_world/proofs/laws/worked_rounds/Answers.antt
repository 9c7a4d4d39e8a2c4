-- The rounds and the counts, computed; the bodies of the requests by their lemmas.

use Rattle.std.proofs.Common.{refl}
use Rattle.line_world.proofs.Bodies.{spelled-s2f33, spelled-s2f35, spelled-s2f37, spelled-s6f23}
use Rattle.line_world.proofs.laws.worked_rounds.Goals as goal

pub returns : goal.returns
returns c = record {
  makes =
      record {
        one = refl;
        two = refl;
        second = refl;
        events_of_one = refl;
        a_lost_character = refl;
        a_report = refl;
        nobody = refl;
        an_unload = refl;
      };
  spells =
      record { s2f33 = spelled-s2f33; s2f35 = spelled-s2f35; s2f37 = spelled-s2f37; s6f23 = spelled-s6f23 };
  counts =
      record {
        report = refl;
        other = refl;
        received = refl;
        stored = refl;
        storing = refl;
        gone = refl;
        starts = refl;
      };
}
