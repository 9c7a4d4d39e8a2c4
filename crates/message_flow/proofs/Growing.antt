-- A message that has grown by a block.
use Rattle.std.proofs.Common.{◌≡◌, refl, ap, ◌∙◌, ℕ, List, ◌++◌}
use Rattle.block_codec.specs.Block.{BlockView}
use Rattle.block_codec.specs.declared.header.Header.{Header}
use Rattle.message_flow.specs.declared.partial.Partial.{Partial}
use Rattle.message_flow.specs.Assembly.{next_partial}
use Rattle.secs_items.specs.Checking.{Checking, check_of}

abbrev partial_of : Header → ℕ → List ℕ → Checking → Partial
partial_of header deadline body check = record { header = header; deadline = deadline; body = body; check = check }

same_parts :
    (h header : Header) (d deadline : ℕ) (b body : List ℕ) (c check : Checking) → h ≡ header → d ≡ deadline → b ≡ body
    → c ≡ check → partial_of h d b c ≡ partial_of header deadline body check
same_parts h header d deadline b body c check one two three four = rw (one, two, three, four) refl

pub grown :
    (old new : Partial) (block : BlockView) (deadline : ℕ) (text : List ℕ) → text ≡ block.body
    → new.header ≡ block.header → new.deadline ≡ deadline → new.body ≡ old.body ++ text
    → new.check ≡ check_of (old.body ++ text) → new ≡ next_partial old block deadline
grown old new block deadline text is header due body check =
    same_parts new.header block.header new.deadline deadline new.body (old.body ++ block.body) new.check
    (check_of (old.body ++ block.body)) header due (body ∙ ap (λ (t : List ℕ). old.body ++ t) is)
    (check ∙ ap (λ (t : List ℕ). check_of (old.body ++ t)) is)
