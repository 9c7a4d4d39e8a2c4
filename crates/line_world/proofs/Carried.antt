-- Events that are carried out one after the other, as their lines are counted.
use Rattle.std.proofs.Common.{◌≡◌, ◌≢◌, ◌++◌, ℕ, List, [], ◌∷◌, refl, sym, ap, subst, ◌∙◌, append-nil, Result, Ok, Err}
use Rattle.gl_base.specs.declared.side.Side.{Side}
use Rattle.end_pair.specs.Kept.{Comes, IfWent, IsPowered, Puts}
use Rattle.end_pair.specs.Run.{whole_log}
use Rattle.end_pair.specs.World.{Piece, World, and_more, and_on, still}
use Rattle.end_pair.specs.declared.answers.WorldStep.{WorldStep}
use Rattle.end_pair.specs.declared.answers.WorldStep.TheVariants as went
use Rattle.end_pair.proofs.Pieces.{comes_behind, comes_more, comes_still, comes_stop, left_of}
use Rattle.line_schedule.specs.Lines.{lines_of}
use Rattle.trace_log.specs.Log.{Entry}
use Rattle.trace_log.specs.Log.Entry.{Ended}
use Rattle.trace_log.specs.Text.{entry_text, text_of}
use Rattle.line_world.specs.Counting.{counts_of, no_lines, with_lines}
use Rattle.line_world.specs.Making.{CarriesOn, Closes, Counted, Leads, Makes}
use Rattle.line_world.specs.declared.counting.Counts.{Counts}
use Rattle.line_world.proofs.Lines.{counts-on}

if-went : {P Q : Type 0} → (P → Q) → (answer : WorldStep) → IfWent answer P → IfWent answer Q
if-went more went.Went is = more is
if-went more other is = tt

not-went : (P : Type 0) (answer : WorldStep) → answer ≢ went.Went → IfWent answer P
not-went P went.Went stops = absurd (stops refl)
not-went P other stops = tt

module _ {S T : Type 0} where
  abbrev same : World S T → World S T
  same world = world

  abbrev None : Side → World S T → World S T → Type 0
  None side now left = Unit {0}

  abbrev ComesTo : Piece S T → World S T → List ℕ → List ℕ → WorldStep → Type 0
  ComesTo piece now old lines answer = Comes same None piece now old lines answer

  -- nothing is to happen
  pub makes-still : (world : World S T) (counts : Counts) → Makes (still world) world counts counts went.Went
  makes-still world counts = record {
    text = [];
    comes = comes_still same None world [];
    counted = refl;
    powered = tt;
  }

  -- what comes behind what went on
  pub makes-more :
      (first : Piece S T) (more : World S T → Piece S T) (mid new : World S T) (before counted after : Counts)
      (answer : WorldStep)
      → Makes first mid before counted went.Went → Makes (more mid) new counted after answer
      → Makes (and_more first more) new before after answer
  makes-more first more mid new before counted after answer one two = record {
    text = one.text ++ two.text;
    comes =
        comes_more same None first more mid new [] one.text (one.text ++ two.text) answer one.comes
        (subst (λ (old : List ℕ). ComesTo (more mid) new old (one.text ++ two.text) answer) (append-nil one.text)
        (comes_behind same None (more mid) new one.text [] two.text answer two.comes));
    counted =
        if-went
        (λ is.
        is ∙ ap (λ (counts : Counts). with_lines counts (lines_of two.text)) one.counted
        ∙ sym (behind one.text two.text first.entries one.comes.puts.1)) answer two.counted;
    powered = two.powered;
  }
    where
      behind : (text more : List ℕ) (entries : List Entry) → text ≡ text_of entries
          → with_lines before (lines_of (text ++ more)) ≡ with_lines (with_lines before (lines_of text)) (lines_of more)
      behind text more entries is =
          ap (λ (t : List ℕ). with_lines before (lines_of (t ++ more))) is ∙ counts-on before entries more
          ∙ ap (λ (t : List ℕ). with_lines (with_lines before (lines_of t)) (lines_of more)) (sym is)

  -- it went on no further
  pub makes-stop :
      (first : Piece S T) (more : World S T → Piece S T) (now : World S T) (before after : Counts) (answer : WorldStep)
      → answer ≢ went.Went → Makes first now before after answer → Makes (and_more first more) now before after answer
  makes-stop first more now before after answer stops one = record {
    text = one.text;
    comes = comes_stop same None first more now [] one.text answer stops one.comes;
    counted = one.counted;
    powered = one.powered;
  }

  -- memory ran out before anything was done
  pub makes-nothing : (piece : Piece S T) (now : World S T) (before after : Counts)
      → Makes piece now before after went.NoMemory
  makes-nothing piece now before after = record {
    text = [];
    comes =
        record {
          puts = record { front = []; rest = text_of piece.entries; whole = refl; lines = refl };
          world = tt;
        };
    counted = tt;
    powered = tt;
  }

  -- an event whose lines were put and counted
  pub makes-event :
      (piece : Piece S T) (now : World S T) (before after : Counts) (empty lines : List ℕ) (answer : WorldStep)
      → empty ≡ [] → IsPowered answer → Puts piece.went (text_of piece.entries) empty lines answer
      → IfWent answer (now ≡ piece.world) → IfWent answer (after ≡ with_lines before (lines_of lines))
      → Makes piece now before after answer
  makes-event piece now before after empty lines answer none powered puts is counts = record {
    text = lines;
    comes =
        subst (λ (old : List ℕ). ComesTo piece now old lines answer) none
        (record { puts = puts; world = left_of _ _ answer powered is });
    counted = counts;
    powered = powered;
  }

  -- an event that has ended the run
  pub makes-end :
      (piece : Piece S T) (now : World S T) (before after : Counts) (empty lines : List ℕ) (answer : WorldStep)
      → empty ≡ [] → answer ≢ went.Went → IsPowered answer → Puts piece.went (text_of piece.entries) empty lines answer
      → IfWent answer (now ≡ piece.world) → Makes piece now before after answer
  makes-end piece now before after empty lines answer none stops powered puts is =
      makes-event piece now before after empty lines answer none powered puts is
      (not-went (after ≡ with_lines before (lines_of lines)) answer stops)

  -- ---- what is left of a run

  pub leads-first : (whole : Piece S T) (before : Counts) → Leads whole before whole before
  leads-first whole before new after answer makes = makes

  pub leads-on :
      (first : Piece S T) (more : World S T → Piece S T) (mid : World S T) (counted after : Counts)
      (whole : Piece S T) (before : Counts)
      → Makes first mid counted after went.Went → Leads (and_more first more) counted whole before
      → Leads (more mid) after whole before
  leads-on first more mid counted after whole before one leads new last answer makes =
      leads new last answer (makes-more first more mid new counted after last answer one makes)

  pub leads-stop :
      (first : Piece S T) (more : World S T → Piece S T) (mid : World S T) (counted after : Counts)
      (answer : WorldStep) (whole : Piece S T) (before : Counts)
      → answer ≢ went.Went → Makes first mid counted after answer → Leads (and_more first more) counted whole before
      → Makes whole mid before after answer
  leads-stop first more mid counted after answer whole before stops one leads =
      leads mid after answer (makes-stop first more mid counted after answer stops one)

  pub leads-done :
      (now : World S T) (counts : Counts) (whole : Piece S T) (before : Counts)
      → Leads (still now) counts whole before → Makes whole now before counts went.Went
  leads-done now counts whole before leads = leads now counts went.Went (makes-still now counts)

  -- what has ended it
  pub carries-stop :
      (answer : WorldStep) (left whole : Piece S T) (now : World S T) (before after : Counts)
      → answer ≢ went.Went → Makes whole now before after answer → CarriesOn answer left whole now before after
  carries-stop went.Went left whole now before after stops makes = absurd (stops refl)
  carries-stop other left whole now before after stops makes = makes

  pub ends-with :
      (answer : WorldStep) (left whole : Piece S T) (now : World S T) (before after : Counts)
      → answer ≢ went.Went → CarriesOn answer left whole now before after → Makes whole now before after answer
  ends-with went.Went left whole now before after stops carries = absurd (stops refl)
  ends-with other left whole now before after stops carries = carries

  -- with another piece left
  pub carries-as :
      (answer : WorldStep) (left other whole : Piece S T) (now : World S T) (before after : Counts)
      → answer ≢ went.Went → CarriesOn answer left whole now before after
      → CarriesOn answer other whole now before after
  carries-as answer left other whole now before after stops carries =
      carries-stop answer other whole now before after stops
      (ends-with answer left whole now before after stops carries)

  -- ---- all of a run

  pub counts-whole :
      (piece : Piece S T) (now : World S T) (counts after : Counts) (moment : ℕ)
      → Makes piece now no_lines counts went.Went → moment ≡ piece.world.moment
      → after ≡ with_lines counts (lines_of (entry_text (Ended moment)))
      → (piece.went ≡ went.Went) × (after ≡ counts_of (text_of (whole_log piece)))
  counts-whole piece now counts after moment makes is closed = (makes.comes.puts.0, all)
    where
      log-is : whole_log piece ≡ Ended piece.world.moment ∷ piece.entries
      log-is =
          ap (λ (how : WorldStep). whole_log (record piece { went = how })) makes.comes.puts.0

      so-far : counts ≡ with_lines no_lines (lines_of (text_of piece.entries))
      so-far = makes.counted ∙ ap (λ (text : List ℕ). with_lines no_lines (lines_of text)) makes.comes.puts.1

      all : after ≡ counts_of (text_of (whole_log piece))
      all =
          closed
          ∙ ap (λ (m : ℕ). with_lines counts (lines_of (entry_text (Ended m)))) is
          ∙ ap (λ (c : Counts). with_lines c (lines_of (entry_text (Ended piece.world.moment)))) so-far
          ∙ sym (counts-on no_lines piece.entries (entry_text (Ended piece.world.moment)))
          ∙ ap (λ (log : List Entry). with_lines no_lines (lines_of (text_of log))) (sym log-is)

  -- a run that has ended on the way
  pub ended-on-way :
      (piece : Piece S T) (now : World S T) (before after : Counts) (answer : WorldStep)
      → answer ≢ went.Went → Makes piece now before after answer → Counted piece (Err answer)
  ended-on-way piece now before after went.Went stops makes = absurd (stops refl)
  ended-on-way piece now before after went.Slip stops makes = makes.comes.puts.0
  ended-on-way piece now before after went.Turns stops makes = makes.comes.puts.0
  ended-on-way piece now before after went.NumbersSpent stops makes = makes.comes.puts.0
  ended-on-way piece now before after went.JournalFull stops makes = makes.comes.puts.0
  ended-on-way piece now before after (went.PowerLost side) stops makes = absurd makes.powered
  ended-on-way piece now before after went.NoMemory stops makes = tt

  -- and that went on no further at its start
  pub begins-not :
      (first : Piece S T) (lines old : List ℕ) (stop : WorldStep)
      → Puts first.went (text_of first.entries) old lines stop → stop ≢ went.Went → IsPowered stop
      → Counted first (Err stop)
  begins-not first lines old went.Went puts stops powered = absurd (stops refl)
  begins-not first lines old went.Slip puts stops powered = puts.0
  begins-not first lines old went.Turns puts stops powered = puts.0
  begins-not first lines old went.NumbersSpent puts stops powered = puts.0
  begins-not first lines old went.JournalFull puts stops powered = puts.0
  begins-not first lines old (went.PowerLost side) puts stops powered = absurd powered
  begins-not first lines old went.NoMemory puts stops powered = tt

  pub counted-first : (first : Piece S T) (more : World S T → Piece S T) (stop : WorldStep) → Counted first (Err stop)
      → Counted (and_more first more) (Err stop)
  counted-first first more stop counted = go stop counted
    where
      so : (how : WorldStep) → first.went ≡ how → (and_on how first more).went ≡ first.went
          → (and_more first more).went ≡ how
      so how is stays = ap (λ (w : WorldStep). (and_on w first more).went) is ∙ stays ∙ is

      go : (stop : WorldStep) → Counted first (Err stop) → Counted (and_more first more) (Err stop)
      go went.Went counted = counted
      go went.Slip counted = so went.Slip counted refl
      go went.Turns counted = so went.Turns counted refl
      go went.NumbersSpent counted = so went.NumbersSpent counted refl
      go went.JournalFull counted = so went.JournalFull counted refl
      go (went.PowerLost side) counted = counted
      go went.NoMemory counted = counted

  pub closes-all :
      (piece : Piece S T) (now : World S T) (counts : Counts) (moment : ℕ) (result : Result Counts WorldStep)
      → Makes piece now no_lines counts went.Went → moment ≡ now.moment → Closes moment counts result
      → Counted piece result
  closes-all piece now counts moment (Ok after) makes is closed =
      counts-whole piece now counts after moment makes
      (is ∙ ap (λ (world : World S T). world.moment) makes.comes.world) closed
  closes-all piece now counts moment (Err went.NoMemory) makes is closed = tt
  closes-all piece now counts moment (Err other) makes is closed = absurd closed
