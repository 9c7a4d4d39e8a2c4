-- A first word that is no name.
use Rattle.std.proofs.Common.{◌≡◌, ◌≢◌, ℕ, Bool, true, false, List, refl, bytes_eq}
use Rattle.std.proofs.lemmas.Slice.Eq.{bytes_eq-Decides}
use Rattle.command_words.specs.Laws.{RefusesOtherNames}

differs : (a b : List ℕ) → a ≢ b → bytes_eq a b ≡ false
differs a b apart = go (bytes_eq a b) refl
  where
    go : (test : Bool) → bytes_eq a b ≡ test → test ≡ false
    go true e = absurd (apart ((bytes_eq-Decides a b).0 e))
    go false e = refl

pub refuses_others : RefusesOtherNames
refuses_others word words other =
    rw (
      differs word _ other.show,
      differs word _ other.spell,
      differs word _ other.replay,
      differs word _ other.equipment,
      differs word _ other.host,
      differs word _ other.format,
      differs word _ other.spool,
      differs word _ other.drop,
      differs word _ other.make,
    ) refl
