-- An input of hex is the hex of one item, and what `spell` wrote is read back as the text's own.
use Rattle.std.proofs.Common.{◌≡◌, ◌⊎◌, ◌≤◌, ℕ, List, [], length, Option, Some, Ok, Err, refl, sym, ap, subst, ◌∙◌, inl, inr, arith}
use Rattle.command_words.specs.Asked.{Asked, Spell, SpellHex}
use Rattle.command_words.specs.Words.{asked_of}
use Rattle.gl_base.specs.Sink.{with_bytes}
use Rattle.gl_base.specs.Told.{FilesTold, SinkTold, SourceTold}
use Rattle.gl_base.specs.declared.input.Input.TheVariants as input
use Rattle.secs_items.specs.declared.item.Item.{Item}
use Rattle.secs_items.specs.Spelling.{Spells, shortest_spelling}
use Rattle.secs_items.proofs.SpellLaws as spelling
use Rattle.secs_items.proofs.SpellLaws.{shortest_is_spelled}
use Rattle.secs_text.specs.Grammar.{ReadsAs}
use Rattle.secs_text.proofs.TextLaws as texts
use Rattle.spool_show.specs.Told.{DiskTold}
use Rattle.gemline_app.specs.LinkTold.{LinkTold}
use Rattle.gemline_app.specs.Gemline.{ComesFrom, ComesOnInput, HexRefuses, IsRun, RunComes, TextRefuses, WasPrinted, WasSpelled, WasWritten}
use Rattle.gemline_app.specs.Inputs.{InputRefuses}
use Rattle.gemline_app.specs.Laws.{HexAsks, HexSpellsOne, Hinders, IsDue, IsInputDue, ReadsBack, WroteSpelling}
use Rattle.gemline_app.specs.Outcome.{status_of}
use Rattle.gemline_app.specs.Spelling.{HexSpells, spelled_line, text_line}
use Rattle.gemline_app.specs.Words.{item_limit}
use Rattle.gemline_app.specs.declared.outcome.Outcome.{Outcome}
use Rattle.gemline_app.specs.declared.outcome.Outcome.TheVariants.{Done, Usage, BadFrame, BadText, BadHex, BadItem, BadLine, Longer, FileLonger, FileFailed, ReadFailed, NoMemory, WriteFailed, TurnsSpent, NumbersSpent, Slip, DiskFailed, NotSpool, BadPlan, BadScript, LinkFailed, JournalFull}
use Rattle.gemline_app.proofs.Due.{due_outcome, one_bytes}
use Rattle.gemline_app.proofs.InputDue.{read_of}
use Rattle.gemline_app.proofs.HexMeaning.{hex_means}
use Rattle.line_schedule.proofs.SpelledBytes.{spelled_bytes}
use Rattle.line_schedule.proofs.TextItems.{text_encodes, text_in_range}

pub one_hex_item : HexSpellsOne
one_hex_item digits first second (bytes, means, spells) (bytes', means', spells') =
    spelling.one_value first second bytes spells
    (subst (λ (all : List ℕ). Spells second all) (one_bytes digits bytes' bytes means' means) spells')

pub spelled_is_hex : (text : List ℕ) (item : Item) → ReadsAs text item → length text ≤ 1048576
    → HexSpells item (spelled_line item)
spelled_is_hex text item reads within =
    let spelled : Spells item (shortest_spelling item) =
    shortest_is_spelled item (text_in_range text item reads) (text_encodes text item reads within) in (
      shortest_spelling item,
      hex_means (shortest_spelling item) (spelled_bytes item (shortest_spelling item) spelled),
      spelled,
    )

-- ---- the first run

done_is : (outcome : Outcome) → 0 ≡ status_of outcome → outcome ≡ Done
done_is Done is = refl
done_is Usage is = absurd (omega (arith, is))
done_is (BadFrame named) is = absurd (omega (arith, is))
done_is (BadText at) is = absurd (omega (arith, is))
done_is (BadHex at) is = absurd (omega (arith, is))
done_is (BadItem fault) is = absurd (omega (arith, is))
done_is (BadLine number) is = absurd (omega (arith, is))
done_is Longer is = absurd (omega (arith, is))
done_is (FileLonger which) is = absurd (omega (arith, is))
done_is (FileFailed which) is = absurd (omega (arith, is))
done_is ReadFailed is = absurd (omega (arith, is))
done_is NoMemory is = absurd (omega (arith, is))
done_is WriteFailed is = absurd (omega (arith, is))
done_is TurnsSpent is = absurd (omega (arith, is))
done_is NumbersSpent is = absurd (omega (arith, is))
done_is DiskFailed is = absurd (omega (arith, is))
done_is (NotSpool at) is = absurd (omega (arith, is))
done_is Slip is = absurd (omega (arith, is))
done_is (BadPlan key what) is = absurd (omega (arith, is))
done_is (BadScript number) is = absurd (omega (arith, is))
done_is LinkFailed is = absurd (omega (arith, is))
done_is JournalFull is = absurd (omega (arith, is))

-- an output that was empty received this line
one_line : (before after : Option (List ℕ)) (line found : List ℕ) → before ≡ Some [] → after ≡ Some line
    → after ≡ with_bytes before found → line ≡ found
one_line before after line found empty is received =
    let both : Some line ≡ Some found = sym is ∙ received ∙ ap (λ (b : Option (List ℕ)). with_bytes b found) empty in
    cc

-- the line that was written of a text
spelled_so : (text line : List ℕ) (item : Item) (out : SinkTold) (outcome : Outcome) → outcome ≡ Done
    → out.before ≡ Some [] → out.after ≡ Some line
    → ReadsAs text item → WasSpelled text out outcome → line ≡ spelled_line item
spelled_so text line item out outcome done empty after reads (Err refusal, refuses, (is, untouched)) =
    absurd (subst (λ (o : Outcome). TextRefuses text o) (sym is ∙ done) refuses)
spelled_so text line item out outcome done empty after reads (Ok found, (item', reads', is), written) =
    let went = subst (λ (o : Outcome). WasWritten found out o) done written in
    one_line out.before out.after line found empty after went.received ∙ is
    ∙ ap spelled_line (texts.one_value text item' item reads' reads)

-- what is to be read back
record Spelled (text line : List ℕ) (item : Item) : Type 0 where
  within : length text ≤ 1048576
  is : line ≡ spelled_line item

first_run : (text line : List ℕ) (item : Item) (source : SourceTold) (out : SinkTold) (outcome : Outcome)
    → outcome ≡ Done → source.before ≡ Some text
    → out.before ≡ Some [] → out.after ≡ Some line → ReadsAs text item
    → ComesOnInput item_limit WasSpelled source out outcome → Spelled text line item
first_run text line item source out outcome done told empty after reads (inl (refuses, untouched)) =
    absurd (subst (λ (o : Outcome). InputRefuses 1048576 source o) done refuses)
first_run text line item source out outcome done told empty after reads (inr (whole, read, was)) =
    let all = read_of 1048576 source text (input.Whole whole) told read in
    record {
      within = all.0;
      is =
          spelled_so text line item out outcome done empty after reads
          (subst (λ (bytes : List ℕ). WasSpelled bytes out outcome) all.1 was);
    }

-- ---- the second run

-- the text that was written of hex
printed_so : (line : List ℕ) (item : Item) (out : SinkTold) (outcome : Outcome) → outcome ≡ Done → HexSpells item line
    → WasPrinted line out outcome
    → out.after ≡ with_bytes out.before (text_line item)
printed_so line item out outcome done spells (Err refusal, refuses, (is, untouched)) =
    absurd (subst (λ (o : Outcome). HexRefuses line o) (sym is ∙ done) refuses)
printed_so line item out outcome done spells (Ok found, (item', spells', is), written) =
    let went = subst (λ (o : Outcome). WasWritten found out o) done written in
    let same : item' ≡ item = one_hex_item line item' item spells' spells in
    went.received ∙ ap (with_bytes out.before) (is ∙ ap text_line same)

second_run : (line : List ℕ) (item : Item) (source : SourceTold) (out : SinkTold) (outcome : Outcome) → outcome ≡ Done
    → source.before ≡ Some line
    → HexSpells item line → ComesOnInput item_limit WasPrinted source out outcome
    → out.after ≡ with_bytes out.before (text_line item)
second_run line item source out outcome done told spells (inl (refuses, untouched)) =
    absurd (subst (λ (o : Outcome). InputRefuses 1048576 source o) done refuses)
second_run line item source out outcome done told spells (inr (whole, read, was)) =
    let all = read_of 1048576 source line (input.Whole whole) told read in
    printed_so line item out outcome done spells (subst (λ (bytes : List ℕ). WasPrinted bytes out outcome) all.1 was)

-- what a run of a command that ended well comes from
comes_of : (asked : Asked) (words : List (List ℕ)) (source : SourceTold) (files : FilesTold) (disk : DiskTold)
    (link : LinkTold) (out err : SinkTold) (status : ℕ)
    → (run : IsRun words source files disk link out err status) → run.outcome ≡ Done → asked_of words ≡ Some asked
    → ComesFrom (Some asked) source files disk link out run.outcome
comes_of asked words source files disk link out err status run done asks =
    go (subst (λ (it : Option Asked). RunComes it source files disk link out run.outcome) asks run.comes)
  where
    go : RunComes (Some asked) source files disk link out run.outcome
        → ComesFrom (Some asked) source files disk link out run.outcome
    go (inl refused) = let no : 0 ≡ 71 = ap status_of (sym done ∙ refused.refused) in absurd (omega (arith, no))
    go (inr comes) = comes

spelled_by : (text line : List ℕ) (item : Item) → ReadsAs text item → WroteSpelling text line → Spelled text line item
spelled_by text line item reads wrote =
    first_run text line item wrote.source wrote.out wrote.run.outcome (done_is wrote.run.outcome wrote.run.status_is)
    wrote.told wrote.empty wrote.after reads
    (comes_of Spell wrote.words wrote.source wrote.files wrote.disk wrote.link wrote.out wrote.err 0 wrote.run
    (done_is wrote.run.outcome wrote.run.status_is) wrote.asks).3

pub reads_back : (text line : List ℕ) (item : Item) → ReadsAs text item → WroteSpelling text line
    → length line ≤ 1048576
    → (words : List (List ℕ)) (source : SourceTold) (files : FilesTold) (disk : DiskTold) (link : LinkTold)
    (out err : SinkTold) (status : ℕ)
    → (run : IsRun words source files disk link out err status) → asked_of words ≡ Some SpellHex
    → source.before ≡ Some line
    → ReadsBack item out run.outcome ⊎ Hinders source files disk link out run.outcome
reads_back text line item reads wrote within words source files disk link out err status run asks told =
    elim (due_outcome words source files disk link out err status Done run
    (subst (λ (asked : Option Asked). IsDue asked source files disk link Done) (sym asks) due)) [
      | inl done ↦ inl (record {
        done = done;
        after =
            second_run line item source out run.outcome done told spells
            (comes_of SpellHex words source files disk link out err status run done asks).3;
      })
      | inr hindered ↦ inr hindered
    ]
  where
    was : Spelled text line item
    was = spelled_by text line item reads wrote

    spells : HexSpells item line
    spells = subst (λ (all : List ℕ). HexSpells item all) (sym was.is) (spelled_is_hex text item reads was.within)

    due : IsInputDue 1048576 HexAsks source Done
    due = (line, told, inr (within, inl (spells.0, spells.1, inl (item, spells.2, refl))))
