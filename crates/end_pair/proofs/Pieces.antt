-- Pieces of a run, one after another, and their text.
use Rattle.std.proofs.Common.{◌≡◌, ◌≢◌, ℕ, List, [], ◌++◌, refl, sym, ap, subst, ◌∙◌, append_assoc, append-nil}
use Rattle.gl_base.specs.declared.side.Side.{Side}
use Rattle.trace_log.specs.Text.{text_of}
use Rattle.end_pair.specs.declared.answers.WorldStep.{WorldStep}
use Rattle.end_pair.specs.declared.answers.WorldStep.TheVariants.{Went, Slip, Turns, NumbersSpent, JournalFull, PowerLost, NoMemory}
use Rattle.end_pair.specs.Kept.{Comes, IfLeft, IfWent, IsPowered, PutPart, Puts}
use Rattle.end_pair.specs.World.{Piece, World, and_more, and_on, still}
use Rattle.message_end.proofs.LogText.{text_of-append}

-- ---- a text that was put, or a part of it

-- nothing was put, and memory ran out
pub put_none : (text lines : List ℕ) → PutPart text lines lines
put_none text lines = record { front = []; rest = text; whole = refl; lines = sym (append-nil lines) }

-- with more behind it
pub put_before : (first second old lines : List ℕ) → PutPart first old lines → PutPart (first ++ second) old lines
put_before first second old lines part = record {
  front = part.front;
  rest = part.rest ++ second;
  whole = ap (λ (t : List ℕ). t ++ second) part.whole ∙ append_assoc part.front part.rest second;
  lines = part.lines;
}

-- behind what was put whole
pub put_behind :
    (first second old between lines : List ℕ) → between ≡ old ++ first → PutPart second between lines
    → PutPart (first ++ second) old lines
put_behind first second old between lines one part = record {
  front = first ++ part.front;
  rest = part.rest;
  whole = ap (λ (t : List ℕ). first ++ t) part.whole ∙ sym (append_assoc first part.front part.rest);
  lines = part.lines ∙ ap (λ (t : List ℕ). t ++ part.front) one ∙ append_assoc old first part.front;
}

pub put_all : (text old lines : List ℕ) → lines ≡ old ++ text → PutPart text old lines
put_all text old lines all =
    record { front = text; rest = []; whole = sym (append-nil text); lines = all }

pub puts_behind :
    (how answer : WorldStep) (first second old between lines : List ℕ) → between ≡ old ++ first
    → Puts how second between lines answer → Puts how (first ++ second) old lines answer
puts_behind how Went first second old between lines one two = (two.0, joined first second old between lines one two.1)
  where
    joined :
        (first second old between lines : List ℕ) → between ≡ old ++ first → lines ≡ between ++ second
        → lines ≡ old ++ (first ++ second)
    joined first second old between lines one two =
        two ∙ ap (λ (t : List ℕ). t ++ second) one ∙ append_assoc old first second
puts_behind how Slip first second old between lines one two =
    (two.0, two.1 ∙ ap (λ (t : List ℕ). t ++ second) one ∙ append_assoc old first second)
puts_behind how Turns first second old between lines one two =
    (two.0, two.1 ∙ ap (λ (t : List ℕ). t ++ second) one ∙ append_assoc old first second)
puts_behind how NumbersSpent first second old between lines one two =
    (two.0, two.1 ∙ ap (λ (t : List ℕ). t ++ second) one ∙ append_assoc old first second)
puts_behind how JournalFull first second old between lines one two =
    (two.0, two.1 ∙ ap (λ (t : List ℕ). t ++ second) one ∙ append_assoc old first second)
puts_behind how (PowerLost whose) first second old between lines one two =
    (two.0, two.1 ∙ ap (λ (t : List ℕ). t ++ second) one ∙ append_assoc old first second)
puts_behind how NoMemory first second old between lines one two = put_behind first second old between lines one two

-- ---- pieces

and_more-went :
    {E H : Type 0} (first : Piece E H) (more : World E H → Piece E H) → first.went ≡ Went
    → and_more first more ≡ and_on Went first more
and_more-went first more went = ap (λ (w : WorldStep). and_on w first more) went

-- where there is power
pub left_of : (P : Type 0) (Q : Side → Type 0) (answer : WorldStep) → IsPowered answer → IfWent answer P → IfLeft answer P Q
left_of P Q Went powered is = is
left_of P Q (PowerLost whose) powered is = absurd powered
left_of P Q Slip powered is = tt
left_of P Q Turns powered is = tt
left_of P Q NumbersSpent powered is = tt
left_of P Q JournalFull powered is = tt
left_of P Q NoMemory powered is = tt

-- where it goes on no further
pub left_none : (P : Type 0) (Q : Side → Type 0) (answer : WorldStep) → answer ≢ Went → IsPowered answer
    → IfLeft answer P Q
left_none P Q Went stops powered = absurd (stops refl)
left_none P Q (PowerLost whose) stops powered = absurd powered
left_none P Q Slip stops powered = tt
left_none P Q Turns stops powered = tt
left_none P Q NumbersSpent stops powered = tt
left_none P Q JournalFull stops powered = tt
left_none P Q NoMemory stops powered = tt

-- where a text was put for neither
pub left_no_more :
    (P : Type 0) (Q : Side → Type 0) (how : WorldStep) (text old lines : List ℕ) (answer : WorldStep) → how ≢ Went
    → ((side : Side) → how ≢ PowerLost side) → Puts how text old lines answer → IfLeft answer P Q
left_no_more P Q how text old lines Went no_went no_loss puts = absurd (no_went puts.0)
left_no_more P Q how text old lines (PowerLost whose) no_went no_loss puts = absurd (no_loss whose puts.0)
left_no_more P Q how text old lines Slip no_went no_loss puts = tt
left_no_more P Q how text old lines Turns no_went no_loss puts = tt
left_no_more P Q how text old lines NumbersSpent no_went no_loss puts = tt
left_no_more P Q how text old lines JournalFull no_went no_loss puts = tt
left_no_more P Q how text old lines NoMemory no_went no_loss puts = tt

pub went_of : (P : Type 0) (Q : Side → Type 0) (answer : WorldStep) → IfLeft answer P Q → IfWent answer P
went_of P Q Went is = is
went_of P Q (PowerLost whose) is = tt
went_of P Q Slip is = tt
went_of P Q Turns is = tt
went_of P Q NumbersSpent is = tt
went_of P Q JournalFull is = tt
went_of P Q NoMemory is = tt

-- a text of a piece has that of its first part in front
pub more_text :
    {E H : Type 0} (went : WorldStep) (first : Piece E H) (more : World E H → Piece E H)
    → (rest : List ℕ) × (text_of (and_on went first more).entries ≡ text_of first.entries ++ rest)
more_text Went first more =
    (text_of (more first.world).entries, text_of-append (more first.world).entries first.entries)
more_text Slip first more = ([], sym (append-nil (text_of first.entries)))
more_text Turns first more = ([], sym (append-nil (text_of first.entries)))
more_text NumbersSpent first more = ([], sym (append-nil (text_of first.entries)))
more_text JournalFull first more = ([], sym (append-nil (text_of first.entries)))
more_text (PowerLost whose) first more = ([], sym (append-nil (text_of first.entries)))
more_text NoMemory first more = ([], sym (append-nil (text_of first.entries)))

-- what a value means as a world, and when it is a dark one
module _ {V S T : Type 0} (see : V → World S T) (Dark : Side → V → World S T → Type 0) where
  pub comes_still : (now : V) (lines : List ℕ) → Comes see Dark (still (see now)) now lines lines Went
  comes_still now lines = record { puts = (refl, sym (append-nil lines)); world = refl }

  -- behind a piece that went on
  pub comes_on :
      (first : Piece S T) (more : World S T → Piece S T) (new : V) (old between lines : List ℕ) (answer : WorldStep)
      → between ≡ old ++ text_of first.entries → Comes see Dark (more first.world) new between lines answer
      → Comes see Dark (and_on Went first more) new old lines answer
  comes_on first more new old between lines answer put here = record {
    puts =
        subst (λ (t : List ℕ). Puts (more first.world).went t old lines answer)
        (sym (text_of-append (more first.world).entries first.entries))
        (puts_behind (more first.world).went answer (text_of first.entries) (text_of (more first.world).entries) old
        between lines put here.puts);
    world = here.world;
  }

  pub comes_more :
      (first : Piece S T) (more : World S T → Piece S T) (mid new : V) (old between lines : List ℕ)
      (answer : WorldStep)
      → Comes see Dark first mid old between Went → Comes see Dark (more (see mid)) new between lines answer
      → Comes see Dark (and_more first more) new old lines answer
  comes_more first more mid new old between lines answer one two =
      subst (λ (p : Piece S T). Comes see Dark p new old lines answer) (sym (and_more-went first more one.puts.0))
      (comes_on first more new old between lines answer one.puts.1
      (subst (λ (w : World S T). Comes see Dark (more w) new between lines answer) one.world two))

  -- it goes on no further
  pub comes_stop :
      (first : Piece S T) (more : World S T → Piece S T) (now : V) (old lines : List ℕ) (answer : WorldStep)
      → answer ≢ Went → Comes see Dark first now old lines answer
      → Comes see Dark (and_more first more) now old lines answer
  comes_stop first more now old lines answer stops one = go answer stops one
    where
      same : (w : WorldStep) → first.went ≡ w → and_on w first more ≡ first → and_more first more ≡ first
      same w is stays = ap (λ (v : WorldStep). and_on v first more) is ∙ stays

      go : (answer : WorldStep) → answer ≢ Went → Comes see Dark first now old lines answer
          → Comes see Dark (and_more first more) now old lines answer
      go Went stops one = absurd (stops refl)
      go Slip stops one =
          subst (λ (p : Piece S T). Comes see Dark p now old lines Slip) (sym (same Slip one.puts.0 refl)) one
      go Turns stops one =
          subst (λ (p : Piece S T). Comes see Dark p now old lines Turns) (sym (same Turns one.puts.0 refl)) one
      go NumbersSpent stops one =
          subst (λ (p : Piece S T). Comes see Dark p now old lines NumbersSpent)
          (sym (same NumbersSpent one.puts.0 refl)) one
      go JournalFull stops one =
          subst (λ (p : Piece S T). Comes see Dark p now old lines JournalFull)
          (sym (same JournalFull one.puts.0 refl)) one
      go (PowerLost whose) stops one =
          subst (λ (p : Piece S T). Comes see Dark p now old lines (PowerLost whose))
          (sym (same (PowerLost whose) one.puts.0 refl)) one
      go NoMemory stops one =
          let text = more_text first.went first more in
          record {
            puts =
                subst (λ (t : List ℕ). PutPart t old lines) (sym text.1)
                (put_before (text_of first.entries) text.0 old lines one.puts);
            world = tt;
          }

  -- whatever comes of what is left, comes of the whole
  abbrev pub Leads : Piece S T → List ℕ → Piece S T → List ℕ → Type 0
  Leads left between whole old =
      (new : V) (lines : List ℕ) (answer : WorldStep) → Comes see Dark left new between lines answer
      → Comes see Dark whole new old lines answer

  pub leads_on :
      (first : Piece S T) (more : World S T → Piece S T) (mid : V) (between lines : List ℕ) (whole : Piece S T)
      (old : List ℕ)
      → Comes see Dark first mid between lines Went → Leads (and_more first more) between whole old
      → Leads (more (see mid)) lines whole old
  leads_on first more mid between lines whole old one leads new after answer comes =
      leads new after answer (comes_more first more mid new between lines after answer one comes)

  pub leads_stop :
      (first : Piece S T) (more : World S T → Piece S T) (mid : V) (between lines : List ℕ) (answer : WorldStep)
      (whole : Piece S T) (old : List ℕ)
      → answer ≢ Went → Comes see Dark first mid between lines answer → Leads (and_more first more) between whole old
      → Comes see Dark whole mid old lines answer
  leads_stop first more mid between lines answer whole old stops one leads =
      leads mid lines answer (comes_stop first more mid between lines answer stops one)

  pub leads_done :
      (now : V) (lines : List ℕ) (whole : Piece S T) (old : List ℕ) → Leads (still (see now)) lines whole old
      → Comes see Dark whole now old lines Went
  leads_done now lines whole old leads = leads now lines Went (comes_still now lines)

-- all of it behind a text
pub puts_shift : (how : WorldStep) (put text old lines : List ℕ) (answer : WorldStep) → Puts how put old lines answer
    → Puts how put (text ++ old) (text ++ lines) answer
puts_shift how put text old lines answer puts = go answer puts
  where
    shift : (more : List ℕ) → lines ≡ old ++ more → text ++ lines ≡ (text ++ old) ++ more
    shift more same = ap (λ (t : List ℕ). text ++ t) same ∙ sym (append_assoc text old more)

    go : (answer : WorldStep) → Puts how put old lines answer → Puts how put (text ++ old) (text ++ lines) answer
    go Went puts = (puts.0, shift put puts.1)
    go Slip puts = (puts.0, shift put puts.1)
    go Turns puts = (puts.0, shift put puts.1)
    go NumbersSpent puts = (puts.0, shift put puts.1)
    go JournalFull puts = (puts.0, shift put puts.1)
    go (PowerLost whose) puts = (puts.0, shift put puts.1)
    go NoMemory puts = record {
      front = puts.front;
      rest = puts.rest;
      whole = puts.whole;
      lines = shift puts.front
          puts.lines;
    }

pub comes_behind :
    {V S T : Type 0} (see : V → World S T) (Dark : Side → V → World S T → Type 0) (piece : Piece S T) (new : V)
    (text old lines : List ℕ) (answer : WorldStep)
    → Comes see Dark piece new old lines answer → Comes see Dark piece new (text ++ old) (text ++ lines) answer
comes_behind see Dark piece new text old lines answer one = record {
  puts = puts_shift piece.went (text_of piece.entries) text old lines answer one.puts;
  world = one.world;
}
