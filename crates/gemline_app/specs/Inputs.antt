-- What reading the input came to (this profile).
use Rattle.std.specs.Prelude.{◌≡◌, ℕ, List, Result, Ok, Err}
use Rattle.gl_base.specs.Input.{HasInputCause, ReadsAll}
use Rattle.gl_base.specs.Told.{SourceTold}
use Rattle.gl_base.specs.declared.input.Input.{Input}
use Rattle.gl_base.specs.declared.input.Input.TheVariants as input
use Rattle.gemline_app.specs.declared.outcome.Outcome.{Outcome}
use Rattle.gemline_app.specs.declared.outcome.Outcome.TheVariants.{Longer, ReadFailed, NoMemory}

-- nothing was read
pub record IsUnread (source : SourceTold) : Type 0 where
  pub left : source.after ≡ source.before
  pub health : source.health_after ≡ source.health

-- reading it to its end within a limit came to this
pub record WasRead (limit : ℕ) (source : SourceTold) (answer : Input) : Type 0 where
  pub bytes : ReadsAll limit source.before source.after answer
  pub cause : HasInputCause source.health source.health_after answer

-- why an input was not read whole
abbrev pub InputRefuses : ℕ → SourceTold → Outcome → Type 0
InputRefuses limit source Longer = WasRead limit source input.Longer
InputRefuses limit source ReadFailed = WasRead limit source input.Failed
InputRefuses limit source NoMemory = WasRead limit source input.NoMemory
InputRefuses limit source _ = ⊥

-- an input's bytes, or why there are none
abbrev pub InputAnswers : ℕ → SourceTold → Result (List ℕ) Outcome → Type 0
InputAnswers limit source (Ok bytes) = WasRead limit source (input.Whole bytes)
InputAnswers limit source (Err refusal) = InputRefuses limit source refusal
