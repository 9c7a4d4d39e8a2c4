-- The gathered characters with the next one are the slip of the definition.

use Rattle.std.proofs.Common.{◌≡◌, ◌++◌, ◌∷◌, [], ℕ, true, List, sym, ap, ◌∙◌, rules}
use Rattle.line_end.specs.Frames.{is_frame}
use Rattle.line_way.specs.Kept.{bytes_with}
use Rattle.line_way.proofs.Made.{slip-made}
use Rattle.line_way.proofs.Sources.{bytes-with}
use Rattle.line_way.proofs.slip.slip_of.Goals as goal

pub returns-then-not-is_whole : goal.returns-then-not-is_whole
returns-then-not-is_whole c =
    let items : c.push.new.self.items ≡ bytes_with c.args.gathered.now c.args.next =
    c.push.ensures.items ∙ ap (λ (bytes : List ℕ). bytes ++ c.args.next.byte ∷ []) c.bytes_of-characters.ensures.bytes
    ∙ sym (bytes-with c.args.gathered.now c.args.next)
    in
    let framed : is_frame (bytes_with c.args.gathered.now c.args.next) ≡ true =
    ap is_frame (sym (c.as_slice.ensures.value ∙ items)) ∙ sym c.is_block.ensures ∙ c.if-is_block.true
    in
    let made = slip-made c.args.gathered.now c.args.next c.in_ok-first.field-0.now (sym c.in_ok-first.ensures.value)
    (sym c.is_complete.ensures ∙ search rules) framed (sym c.is_whole.ensures ∙ c.if-not-is_whole.true)
    in
    (made.0, c.frame_number.ensures ∙ made.1, items)
