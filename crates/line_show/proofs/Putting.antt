-- One text put behind another.
use Rattle.std.proofs.Common.{◌≡◌, ℕ, Bool, Option, List, ◌++◌, refl, sym, ap, subst, ◌∙◌, append_assoc, append-nil}
use Rattle.std.specs.Prelude.{codes, decimal, length}
use Rattle.block_codec.specs.Block.{BlockView}
use Rattle.gl_base.specs.Sending.{IsUnderWay, Passes}
use Rattle.gl_base.specs.Sink.{SinkHealth}
use Rattle.gl_base.specs.declared.copying.SinkAnswer.{SinkAnswer}
use Rattle.gl_base.proofs.Appending.{passes_behind, told, under_way_put}
use Rattle.message_flow.specs.declared.flow.Flow.{Flow}
use Rattle.message_flow.specs.declared.flow.Flow.TheVariants.{Part, Whole, Duplicate, Foreign, Unexpected, TooLong, Crowded}
use Rattle.line_show.specs.Bodies.{body_text}
use Rattle.line_show.specs.Lines.{block_head, block_lines, block_text, flow_head, flow_rest, flow_text, message_head}

pub put_more : (old text more mid new : List ℕ) → mid ≡ old ++ text → new ≡ mid ++ more → new ≡ old ++ (text ++ more)
put_more old text more mid new one two = two ∙ ap (λ (t : List ℕ). t ++ more) one ∙ append_assoc old text more

-- the same of a text that was made before
pub put_made : (old text made more mid new : List ℕ) → mid ≡ old ++ text → new ≡ mid ++ made → made ≡ more
    → new ≡ old ++ (text ++ more)
put_made old text made more mid new one two is =
    put_more old text more mid new one (two ∙ ap (λ (t : List ℕ). mid ++ t) is)

-- the same of the digits of a number
pub put_decimal : (old text mid new : List ℕ) (m n : ℕ) → mid ≡ old ++ text → new ≡ mid ++ decimal m → m ≡ n
    → new ≡ old ++ (text ++ decimal n)
put_decimal old text mid new m n one two is =
    put_more old text (decimal n) mid new one (two ∙ ap (λ (k : ℕ). mid ++ decimal k) is)

-- what a block is, in two parts
flow_parts : (place : ℕ) (from_equipment : Bool) (flow : Flow)
    → flow_head place from_equipment flow ++ flow_rest flow ≡ flow_text place from_equipment flow
flow_parts place from_equipment Part = refl
flow_parts place from_equipment (Whole message check) =
    sym (append_assoc (message_head place from_equipment message) (body_text message.body) (codes "\n"))
flow_parts place from_equipment Duplicate = append-nil _
flow_parts place from_equipment (Foreign address) = refl
flow_parts place from_equipment Unexpected = append-nil _
flow_parts place from_equipment TooLong = append-nil _
flow_parts place from_equipment Crowded = append-nil _

block_parts : (place : ℕ) (block : BlockView) (flow : Flow)
    → block_head place block flow ++ flow_rest flow ≡ block_lines place block flow
block_parts place block flow =
    append_assoc (block_text place block.header (length block.body))
    (flow_head place block.header.from_equipment flow) (flow_rest flow)
    ∙ ap (λ (t : List ℕ). block_text place block.header (length block.body) ++ t)
    (flow_parts place block.header.from_equipment flow)

-- the lines of a block, put straight into a page up to the rest
pub lines_put : {was mid : Option (List ℕ)} {a b : SinkHealth} (now : Option (List ℕ)) (c : SinkHealth) (place : ℕ)
    (block : BlockView) (flow : Flow)
    (old page page' rest new : List ℕ) (answer : SinkAnswer) → rest ≡ flow_rest flow
    → IsUnderWay (told was mid a b) old page →
    page' ≡ page ++ block_head place block flow → Passes (told mid now b c) (page' ++ rest) new answer →
    Passes (told was now a c) (old ++ block_lines place block flow) new answer
lines_put {was} {mid} {a} {b} now c place block flow old page page' rest new answer is_rest under put passes =
    let head = block_head place block flow in
    let whole : (old ++ head) ++ rest ≡ old ++ block_lines place block flow =
    append_assoc old head rest ∙ ap (λ (t : List ℕ). old ++ (head ++ t)) is_rest ∙ ap (λ (t : List ℕ). old ++ t) (block_parts place block flow) in
    subst (λ (t : List ℕ). Passes (told was now a c) t new answer) whole
    (passes_behind now c (old ++ head) page' rest new answer (under_way_put old page head page' under put) passes)
