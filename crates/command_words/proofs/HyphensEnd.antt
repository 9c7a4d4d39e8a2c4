-- Words behind `--`, by computing.
use Rattle.std.proofs.Common.{◌≡◌, ◌∙◌, ◌++◌, ℕ, List, [], ◌∷◌, codes, Option, Some, refl, ap}
use Rattle.std.specs.Option.{option_map, option_zip}
use Rattle.clap.proofs.OnLiterals.{clap_on_literals}
use Rattle.command_words.specs.Asked.{Asked, Host, JournalReplay}
use Rattle.command_words.specs.Forms.{app_for}
use Rattle.command_words.specs.Laws.{TakesAllBehindHyphens}
use Rattle.command_words.specs.Numbers.{number_in}
use Rattle.command_words.specs.Words.{asked_of, found_in, refusals}

-- the host with this number of polls, if it is one
abbrev host_with : List ℕ → List ℕ → Option ℕ → Option Asked
host_with plan address polls =
    option_map (λ parts. Host parts.0 parts.1.0 parts.1.1) (option_zip (Some plan) (option_zip (Some address) polls))

host_polls : (plan address polls : List ℕ)
    → asked_of (codes "host" ∷ (codes "--polls=" ++ polls) ∷ codes "--" ∷ plan ∷ address ∷ [])
    ≡ host_with plan address (number_in 1 4294967295 polls)
unfolding clap_on_literals app_for refusals found_in
host_polls plan address polls = refl

journal_slots : (plan schedule slots : List ℕ)
    → asked_of (codes "replay" ∷ (codes "--journal=" ++ slots) ∷ codes "--" ∷ plan ∷ schedule ∷ [])
    ≡ option_map (JournalReplay plan schedule) (number_in 1 1024 slots)
unfolding clap_on_literals app_for refusals found_in
journal_slots plan schedule slots = refl

pub takes_all : TakesAllBehindHyphens
unfolding clap_on_literals app_for refusals found_in
takes_all = record {
  replay = λ plan schedule. refl;
  equipment = λ plan address spool. refl;
  host = λ plan address. refl;
  polls = λ plan address polls n is. host_polls plan address polls ∙ ap (host_with plan address) is;
  outside = λ plan address polls is. host_polls plan address polls ∙ ap (host_with plan address) is;
  journal = λ plan address journal. refl;
  slots = λ plan schedule slots n is.
      journal_slots plan schedule slots ∙ ap (option_map (JournalReplay plan schedule)) is;
  slots_outside = λ plan schedule slots is.
      journal_slots plan schedule slots ∙ ap (option_map (JournalReplay plan schedule)) is;
  spool = λ spool. refl;
}
