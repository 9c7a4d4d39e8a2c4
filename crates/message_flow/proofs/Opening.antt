-- An assembly with one open message more.
use Rattle.std.proofs.Common.{◌≡◌, refl, ap, ◌<◌, ◌≤◌, arith, ℕ, [], ◌∷◌, ◌++◌, length}
use Rattle.std.proofs.lemmas.List.{length-append}
use Rattle.std.proofs.lemmas.List.Elements.{All-push}
use Rattle.block_codec.specs.Block.{BlockView, IsBlock}
use Rattle.block_codec.specs.Header.{Fits}
use Rattle.message_flow.specs.declared.partial.Partial.{Partial}
use Rattle.message_flow.specs.Assembly.{AssemblyView, IsAssembly, new_partial}
use Rattle.secs_items.specs.Checking.{check_of}

pub opened :
    (assembly : AssemblyView) (partial : Partial) (block : BlockView) (deadline : ℕ) → IsAssembly assembly
    → length assembly.partials < 16 → partial ≡ new_partial block deadline → IsBlock block
    → IsAssembly (record assembly { partials = assembly.partials ++ partial ∷ [] })
opened assembly partial block deadline is room made fits =
    let long = length-append assembly.partials (partial ∷ []) in
    let text = ap (λ (p : Partial). length p.body) made in
    record {
      receiver = is.receiver;
      few = omega (arith, long, room);
      bodies = All-push (λ (p : Partial). length p.body ≤ assembly.receiver.max_body) assembly.partials partial
          is.bodies (omega (arith, text, fits.at_most_244, is.receiver.max_body_at_least));
      checks = All-push (λ (p : Partial). p.check ≡ check_of p.body) assembly.partials partial is.checks (rw made refl);
      headers = All-push (λ (p : Partial). Fits p.header) assembly.partials partial is.headers
          (rw made fits.header.fits);
    }
