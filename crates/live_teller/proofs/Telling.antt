-- What has come with an answer, as it is told.
use Rattle.std.proofs.Common.{◌≡◌, ℕ, Bool, List, [], ◌∷◌, ◌++◌, Option, Some, None, sym, ap, subst, ◌∙◌}
use Rattle.std.specs.Option.{option_map}
use Rattle.end_run.specs.Commands.{is_any}
use Rattle.end_run.specs.Told.{Brings}
use Rattle.live_commands.specs.Coming.{GoesThrough, Reading, Standing, asked_left, at_start, behind, behind_left}
use Rattle.live_commands.specs.Commands.{Numbered}
use Rattle.live_teller.specs.Came.{BringsCame, Came}
use Rattle.live_teller.specs.Stages.{IsFresh, left_at, stands_at}
use Rattle.live_teller.specs.Tellings.{HasCome, ToolTelling, end_told, host_told, stands_after, stands_behind, tellings_of, told_by, told_with}
use Rattle.live_teller.specs.declared.teller.Stage.{Stage}
use Rattle.live_teller.specs.declared.teller.Stage.TheVariants.{Host}

-- nothing has come yet, and the input stands at its start
pub fresh_stands : (stage : Stage) (ended : Bool) (r : Reading) (bytes : List ℕ) → IsFresh r stage
    → stands_at stage ended r bytes ≡ at_start
fresh_stands stage ended r bytes (reads, over) =
    ap (λ (at : Stage). stands_at at ended r bytes) over ∙ ap (λ (from : Reading). behind_left from bytes) reads

-- ---- as it comes

module _ (s : Standing) (r : Reading) (host : Option (Option (List ℕ))) (ended : Bool) (bytes : List ℕ) where
  abbrev came_so : List ℕ → Came
  came_so fed = record { host = host; bytes = fed; ended = ended }

  told_here : (fed : List ℕ) → GoesThrough s fed r bytes → told_with s (came_so fed) ≡ left_at Host host ended r bytes
  told_here fed goes =
      ap
      (λ (asked : List Numbered). host_told host ++ (tellings_of asked ++ end_told ended (behind s fed)))
      goes.asked
      ∙ ap
      (λ (here : Standing). host_told host ++ (tellings_of (asked_left r bytes) ++ end_told ended here))
      goes.stands

  stands_here : (fed : List ℕ) → GoesThrough s fed r bytes
      → stands_behind s (came_so fed) ≡ stands_at Host ended r bytes
  stands_here fed goes = ap (λ (here : Standing). stands_after ended here) goes.stands

  abbrev told_later : Option (List Came) → Option (List (List ToolTelling))
  told_later after = option_map (told_by (stands_at Host ended r bytes)) after

  brings : (before after : Option (List Came)) (fed : List ℕ) → BringsCame before (came_so fed) after
      → GoesThrough s fed r bytes
      → Brings (option_map (told_by s) before) (left_at Host host ended r bytes) (told_later after)
  brings None after fed is goes = ap told_later is
  brings (Some []) after fed (came, is) goes =
      (sym (told_here fed goes) ∙ ap (λ (c : Came). told_with s c) came, ap told_later is)
  brings (Some (first ∷ coming)) after fed (came, is) goes = (
    sym (told_here fed goes) ∙ ap (λ (c : Came). told_with s c) came,
    ap told_later is
        ∙ ap (λ (at : Standing). Some (told_by at coming))
        (sym (stands_here fed goes) ∙ ap (λ (c : Came). stands_behind s c) came),
  )

  -- what was to come has come, and may be answered so
  pub brings_it : (before after : Option (List Came)) (May : Bool → Type 0)
      → HasCome before after s r host ended bytes May
      → Brings (option_map (told_by s) before) (left_at Host host ended r bytes) (told_later after)
  brings_it before after May has = brings before after has.fed has.brings has.reads

  pub may_answer : (before after : Option (List Came)) (May : Bool → Type 0)
      → HasCome before after s r host ended bytes May → May (is_any (left_at Host host ended r bytes))
  may_answer before after May has =
      subst (λ (told : List ToolTelling). May (is_any told)) (told_here has.fed has.reads) has.may
