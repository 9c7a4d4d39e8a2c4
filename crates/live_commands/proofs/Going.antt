-- A part is gone through line by line, up to the next one that counts.
use Rattle.std.proofs.Common.{◌≡◌, ℕ, ◌+◌, true, false, List, [], ◌∷◌, ◌++◌, drop, Some, None, refl, sym, ap, ◌∙◌}
use Rattle.std.proofs.lemmas.List.{drop-drop}
use Rattle.gl_base.specs.Faults.{one_more}
use Rattle.line_schedule.specs.Reading.{is_passed_over}
use Rattle.live_commands.specs.declared.asks.Asks.{Asks}
use Rattle.live_commands.specs.Coming.{GoesThrough, Reading, Standing, TakesLine, asked_at_end, asked_left, asked_with, behind, closed}
use Rattle.live_commands.specs.Commands.{Numbered, asked_by}

-- what is still to come of bytes behind one standing is what is of others behind another
pub record Reaches (from : Standing) (bytes : List ℕ) (here : Standing) (left : List ℕ) : Type 0 where
  pub asked : asked_with from bytes ≡ asked_with here left
  pub stands : behind from bytes ≡ behind here left

pub starts : (s : Standing) (bytes : List ℕ) → Reaches s bytes s bytes
starts s bytes = record { asked = refl; stands = refl }

ends_none : (s : Standing) → is_passed_over s.line ≡ true → asked_at_end s ≡ []
ends_none s passed = rw passed refl

module _ (from : Standing) (bytes : List ℕ) (here : Standing) (part : List ℕ) (taken : ℕ)
    (r : Reaches from bytes here (drop taken part)) where
  -- a line ends that is passed over
  pub goes_on : (to : Standing) (count : ℕ) → TakesLine here (drop taken part) to (Some count)
      → is_passed_over to.line ≡ true → Reaches from bytes (closed to) (drop (taken + count) part)
  goes_on to count (some, within, ends) passed = record {
    asked =
        r.asked ∙ ends.asked
        ∙ ap (λ (asked : List Numbered). asked ++ asked_with (closed to) (drop count (drop taken part)))
        (ends_none to passed)
        ∙ ap (λ (left : List ℕ). asked_with (closed to) left) (drop-drop count taken part);
    stands = r.stands ∙ ends.stands ∙ ap (λ (left : List ℕ). behind (closed to) left) (drop-drop count taken part);
  }

  -- one that counts
  pub finds : (to : Standing) (count : ℕ) → TakesLine here (drop taken part) to (Some count)
      → is_passed_over to.line ≡ false
      → GoesThrough from bytes (record { here = to; found = true; taken = taken + count }) part
  finds to count (some, within, ends) counts = record {
    asked =
        r.asked ∙ ends.asked
        ∙ ap (λ (left : List ℕ). asked_at_end to ++ asked_with (closed to) left) (drop-drop count taken part);
    stands = r.stands ∙ ends.stands ∙ ap (λ (left : List ℕ). behind (closed to) left) (drop-drop count taken part);
    counts = λ found. counts;
  }

  -- none does
  pub finds_none : (to : Standing) (count : ℕ) → TakesLine here (drop taken part) to None
      → GoesThrough from bytes (record { here = to; found = false; taken = count }) part
  finds_none to count passes = record {
    asked = r.asked ∙ passes.asked;
    stands = r.stands ∙ passes.stands;
    counts = λ found. absurd cc;
  }

-- ---- the next line of a part

left_found : (r : Reading) (bytes : List ℕ) → r.found ≡ true
    → asked_left r bytes ≡ asked_at_end r.here ++ asked_with (closed r.here) (drop r.taken bytes)
left_found r bytes found = rw found refl

one_ends : (s : Standing) → is_passed_over s.line ≡ false
    → asked_at_end s ≡ (one_more s.number, asked_by s.line) ∷ []
one_ends s counts = rw counts refl

-- a line that was found is the next, and what is behind it is still to come
pub next_is : (r later : Reading) (bytes : List ℕ) (read : Numbered) → r.found ≡ true
    → is_passed_over r.here.line ≡ false → read.0 ≡ one_more r.here.number → read.1 ≡ asked_by r.here.line
    → GoesThrough (closed r.here) (drop r.taken bytes) later bytes
    → asked_left r bytes ≡ read ∷ asked_left later bytes
next_is r later bytes (number, asks) found counts number_is asked goes =
    let behind_it = asked_with (closed r.here) (drop r.taken bytes) in
    left_found r bytes found
    ∙ ap (λ (first : List Numbered). first ++ behind_it) (one_ends r.here counts)
    ∙ ap (λ (left : List Numbered). (one_more r.here.number, asked_by r.here.line) ∷ left) goes.asked
    ∙ ap (λ (n : ℕ). (n, asked_by r.here.line) ∷ asked_left later bytes) (sym number_is)
    ∙ ap (λ (a : Asks). (number, a) ∷ asked_left later bytes) (sym asked)
