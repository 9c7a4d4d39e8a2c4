-- A teller goes to the next of what has come.
use Rattle.std.proofs.Common.{◌≡◌, ℕ, Bool, true, false, List, [], ◌∷◌, ◌++◌, Option, Some, None, Result, refl, sym, ap, subst, ◌∙◌}
use Rattle.std.specs.Prelude.{IfOk}
use Rattle.std.specs.Option.{option_map}
use Rattle.gl_base.specs.declared.no_memory.NoMemory.{NoMemory}
use Rattle.end_run.specs.Commands.Telling.{Says, Stops}
use Rattle.end_run.specs.Told.{IsNext}
use Rattle.live_commands.specs.Coming.{Reading, Standing, asked_at_end, asked_left, behind_left, closed}
use Rattle.live_commands.specs.Commands.{Numbered}
use Rattle.live_teller.specs.Stages.{behind_of, ends_still, left_at, stands_at}
use Rattle.live_teller.specs.Tellings.{ToolTelling, end_told, host_line, host_told, stands_after, telling_of, tellings_of, told_by}
use Rattle.live_teller.specs.declared.beside.Beside as beside
use Rattle.live_teller.specs.declared.teller.LiveTeller.{LiveTeller}
use Rattle.live_teller.specs.declared.teller.Stage.{Stage}
use Rattle.live_teller.specs.declared.teller.Stage.TheVariants.{Last, Lines}

-- ---- lines, and what is behind them

-- a line is next, which is told so
pub line_next : (left later : List Numbered) (x : Numbered) (at : ToolTelling) → left ≡ x ∷ later → at ≡ telling_of x
    → tellings_of left ≡ at ∷ tellings_of later
line_next left later x at is told =
    ap tellings_of is ∙ ap (λ (t : ToolTelling). t ∷ tellings_of later) (sym told)

module _ (at : ToolTelling) (r later : Reading) (bytes : List ℕ) (same : behind_left later bytes ≡ behind_left r bytes)
    (next : IsNext (tellings_of (asked_left r bytes)) at (tellings_of (asked_left later bytes)) true) where
  -- one is next
  pub goes_on : (ended : Bool)
      → tellings_of (asked_left r bytes) ++ end_told ended (behind_left r bytes)
      ≡ at ∷ (tellings_of (asked_left later bytes) ++ end_told ended (behind_left later bytes))
  goes_on ended =
      ap (λ (told : List ToolTelling). told ++ end_told ended (behind_left r bytes)) next
      ∙ ap (λ (s : Standing). at ∷ (tellings_of (asked_left later bytes) ++ end_told ended s)) (sym same)

  -- the last one
  pub goes_on_last : tellings_of (asked_left r bytes) ++ Stops ∷ []
      ≡ at ∷ (tellings_of (asked_left later bytes) ++ Stops ∷ [])
  goes_on_last = ap (λ (told : List ToolTelling). told ++ Stops ∷ []) next

-- where none is found, the input stands where the reader does
here_it_stands : (r : Reading) (bytes : List ℕ) → r.found ≡ false → behind_left r bytes ≡ r.here
here_it_stands r bytes found = rw found refl

stands_there : (r later : Reading) (bytes : List ℕ) → later ≡ r → later.found ≡ false
    → behind_left r bytes ≡ later.here
stands_there r later bytes same found =
    ap (λ (at : Reading). behind_left at bytes) (sym same) ∙ here_it_stands later bytes found

module _ (r : Reading) (bytes : List ℕ) (none : tellings_of (asked_left r bytes) ≡ []) where
  -- none is left, and the input goes on
  pub none_left : (ended : Bool) → ended ≡ false
      → tellings_of (asked_left r bytes) ++ end_told ended (behind_left r bytes) ≡ []
  none_left true is = absurd cc
  none_left false is = ap (λ (told : List ToolTelling). told ++ []) none

  -- or has ended
  pub ends : (later : Reading) (ended : Bool) → later ≡ r → ended ≡ true → later.found ≡ false
      → tellings_of (asked_left r bytes) ++ end_told ended (behind_left r bytes) ≡ end_told true later.here
  ends later false same is found = absurd cc
  ends later true same is found =
      ap (λ (told : List ToolTelling). told ++ end_told true (behind_left r bytes)) none
      ∙ ap (λ (s : Standing). end_told true s) (stands_there r later bytes same found)

  -- or its last line was told: it stops
  pub stops : (later : Reading) → later ≡ r
      → tellings_of (asked_left r bytes) ++ Stops ∷ [] ≡ Stops ∷ tellings_of (asked_left later bytes)
  stops later same =
      ap (λ (told : List ToolTelling). told ++ Stops ∷ []) none
      ∙ ap (λ (told : List ToolTelling). Stops ∷ told)
      (sym none ∙ ap (λ (s : Reading). tellings_of (asked_left s bytes)) (sym same))

-- ---- how the input stands behind it

-- the same, by where the reader stands
pub stands_same : (stage : Stage) (ended : Bool) (r later : Reading) (here bytes : List ℕ) → here ≡ bytes
    → behind_left later here ≡ behind_left r here → stands_at stage ended later bytes ≡ stands_at stage ended r bytes
stands_same stage ended r later here bytes is same =
    subst (λ (b : List ℕ). stands_at stage ended later b ≡ stands_at stage ended r b) is
    (ap (λ (s : Standing). stands_after (ends_still stage ended) s) same)

-- no line is left of what ends
pub stands_ended : (ended : Bool) (r later : Reading) (bytes : List ℕ) → ended ≡ true → later ≡ r
    → later.found ≡ false → closed later.here ≡ stands_at Lines ended r bytes
stands_ended false r later bytes is same found = absurd cc
stands_ended true r later bytes is same found =
    sym (ap closed (stands_there r later bytes same found))

-- the last line is what the reader has left
pub last_left : (host : Option (Option (List ℕ))) (ended : Bool) (r : Reading) (s : Standing) (here bytes : List ℕ)
    → here ≡ bytes → asked_left r here ≡ asked_at_end s → end_told true s ≡ left_at Last host ended r bytes
last_left host ended r s here bytes is asked =
    subst (λ (b : List ℕ). end_told true s ≡ left_at Last host ended r b) is
    (ap (λ (left : List Numbered). tellings_of left ++ Stops ∷ []) (sym asked))

-- ---- news of the line

-- it is told first
pub news_first : (host : Option (Option (List ℕ))) (of : Option (List ℕ)) (more : List ToolTelling) → host ≡ Some of
    → host_told host ++ more ≡ Says (host_line of) ∷ more
news_first host of more is = ap (λ (h : Option (Option (List ℕ))). host_told h ++ more) is

pub no_news : (host : Option (Option (List ℕ))) (more : List ToolTelling) → host ≡ None → host_told host ++ more ≡ more
no_news host more is = ap (λ (h : Option (Option (List ℕ))). host_told h ++ more) is

-- ---- what was told of the same

-- the next of one is the next of what is the same
pub next_of_same : (result : Result Bool NoMemory) (at : ToolTelling) (here before later : List ToolTelling)
    → before ≡ here → IfOk result (IsNext here at later) → IfOk result (IsNext before at later)
next_of_same result at here before later same next =
    subst (λ (told : List ToolTelling). IfOk result (IsNext told at later)) (sym same) next

-- ---- what is still to come

-- the same, by where the input stands
pub coming_same : {B L : Type 0} (members : beside.Ghosts B L) (old new : LiveTeller B)
    → behind_of members new ≡ behind_of members old → new.beside ≡ old.beside
    → option_map (told_by (behind_of members new)) (members.to_come new.beside)
    ≡ option_map (told_by (behind_of members old)) (members.to_come old.beside)
coming_same {B} {L} members old new stands same =
    ap (λ (s : Standing). option_map (told_by s) (members.to_come new.beside)) stands
    ∙ ap (λ (b : B). option_map (told_by (behind_of members old)) (members.to_come b)) same
