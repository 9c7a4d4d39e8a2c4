-- What is read of a script's text is what it means.
use Rattle.std.proofs.Common.{◌≡◌, ℕ, ◌<◌, ◌≤◌, Bool, true, false, nat_lt, cond, ◌⊎◌, inl, inr, List, [], ◌∷◌, length, Option, Some, None, Result, Ok, Err, refl, sym, ap, ◌∙◌, arith}
use Rattle.std.specs.Prelude.{IfOk}
use Rattle.std.proofs.lemmas.Bool.{lt-ltb, ltb-false, ltb-true, le-leb, le-ltb}
use Rattle.gl_base.specs.declared.side.Side.{Side}
use Rattle.line_schedule.specs.declared.schedule.ScheduleFault.{ScheduleFault}
use Rattle.line_schedule.specs.declared.schedule.ScheduleFault.TheVariants as fault
use Rattle.line_schedule.specs.declared.script.Script.{Script}
use Rattle.line_schedule.specs.declared.script.ScriptStep.{ScriptStep}
use Rattle.line_schedule.specs.Grammar.{IsScriptLine}
use Rattle.line_schedule.specs.Lines.{ReadsOnly, RefusesOnly, Tell, lines_of}
use Rattle.line_schedule.specs.Reading.{Gives, is_passed_over, moment_answer, read_lines, script_answer, script_line_in, script_reader}
use Rattle.line_schedule.specs.Script.{IsScript, IsToldLine, LineFits, OutsideScriptAt, ScriptFits, TellsNoLine, are_in_order, moment_of_line, most_script_lines}
use Rattle.line_schedule.proofs.EventReaders.{a_script_line, none_told, passed_again, passed_there}
use Rattle.line_schedule.proofs.Ranges.{line_fits}
use Rattle.line_schedule.proofs.Telling as telling
use Rattle.line_schedule.proofs.Telling.{IsExact, Says, all_fit, none_some, not_both}

abbrev Line : Type 0
Line = ℕ × ScriptStep

answer_says : (side : Side) (number least : ℕ) (line : List ℕ) →
    Says (IsToldLine side) (TellsNoLine side) most_script_lines number least line (script_answer side number least line)
answer_says side number least line = go (nat_lt most_script_lines number) (is_passed_over line) (script_line_in side line) refl refl refl where
  none_behind : (told : Line) → script_line_in side line ≡ Some told → told.0 < least → (other : Line) → IsToldLine side least other line → ⊥
  none_behind told is falls other (means, least_is) =
      let same : ◌≡◌ {A = Option Line} (Some told) (Some other) = sym is ∙ (a_script_line side).again other line means in
      let equal : told ≡ other = cc in
      let moment : told.0 ≡ other.0 = ap (λ (x : Line). x.0) equal in
      omega (arith, falls, moment, least_is)

  ordered : (told : Line) → number ≤ most_script_lines → is_passed_over line ≡ false → script_line_in side line ≡ Some told →
      (t : Bool) → nat_lt told.0 least ≡ t →
      Says (IsToldLine side) (TellsNoLine side) most_script_lines number least line (cond t (Err (fault.Line number)) (Ok (Some told)))
  ordered told within solid is true e =
      (refl, inr (λ passed. not_both (is_passed_over line) solid (passed_again line passed), none_behind told is (ltb-true told.0 least e)))
  ordered told within solid is false e = (within, ((a_script_line side).there told line is, ltb-false told.0 least e))

  go : (past passed : Bool) (o : Option Line) → nat_lt most_script_lines number ≡ past → is_passed_over line ≡ passed →
      script_line_in side line ≡ o →
      Says (IsToldLine side) (TellsNoLine side) most_script_lines number least line (cond past (Err (fault.Line number)) (cond passed (Ok None) (moment_answer number least o)))
  go true passed o a b c = (refl, inl (ltb-true most_script_lines number a))
  go false true o a b c = (ltb-false most_script_lines number a, passed_there line b)
  go false false None a b c =
      (refl, inr (λ passed. not_both (is_passed_over line) b (passed_again line passed), λ told is. none_some (script_line_in side line) told c ((a_script_line side).again told line is.0)))
  go false false (Some told) a b c = ordered told (ltb-false most_script_lines number a) b c (nat_lt told.0 least) refl

tells_solid : (side : Side) (told : Line) (line : List ℕ) → IsScriptLine side told line → is_passed_over line ≡ false
tells_solid side told line is = go (is_passed_over line) refl where
  go : (t : Bool) → is_passed_over line ≡ t → is_passed_over line ≡ false
  go false e = e
  go true e = absurd (none_told side line told (passed_there line e) is)

outside_answer : (side : Side) (number least : ℕ) (line : List ℕ) → (most_script_lines < number) ⊎ TellsNoLine side least line →
    script_answer side number least line ≡ Err (fault.Line number)
outside_answer side number least line (inl past) = rw (lt-ltb most_script_lines number past) refl
outside_answer side number least line (inr (solid, none)) =
    go (nat_lt most_script_lines number) (is_passed_over line) (script_line_in side line) refl refl
  where
    ordered : (told : Line) → script_line_in side line ≡ Some told → (t : Bool) → nat_lt told.0 least ≡ t →
        cond t (Err (fault.Line number)) (Ok (Some told)) ≡ Err (fault.Line number)
    ordered told is true e = refl
    ordered told is false e = absurd (none told ((a_script_line side).there told line is, ltb-false told.0 least e))

    go : (past passed : Bool) (o : Option Line) → is_passed_over line ≡ passed → script_line_in side line ≡ o →
        cond past (Err (fault.Line number)) (cond passed (Ok None) (moment_answer number least o)) ≡ Err (fault.Line number)
    go true passed o b c = refl
    go false true o b c = absurd (solid (passed_there line b))
    go false false None b c = refl
    go false false (Some told) b c = ordered told c (nat_lt told.0 least) refl

pub exact : (side : Side) → IsExact (script_reader side) (IsToldLine side) (TellsNoLine side) most_script_lines
exact side = record {
  says = answer_says side;
  passed = λ number least line within passed. rw (le-ltb most_script_lines number within, passed_again line passed) refl;
  told = λ number least told line within is. rw (le-ltb most_script_lines number within, tells_solid side told line is.0, (a_script_line side).again told line is.0, le-ltb told.0 least is.1) refl;
  outside = outside_answer side;
}

-- moments that no line lets fall
in_order : (side : Side) (least : ℕ) (lines : List (List ℕ)) (told : List Line) → Tell (IsToldLine side) moment_of_line least lines told →
    are_in_order least told ≡ true
in_order side least [] told tell = ap (are_in_order least) tell
in_order side least (line ∷ lines) told (inl (passed, tell)) = in_order side least lines told tell
in_order side least (line ∷ lines) told (inr (first, others, same, is, tell)) =
    let rest = in_order side first.0 lines others tell in
    let all : are_in_order least (first ∷ others) ≡ true = rw (le-leb least first.0 is.1) rest in
    ap (are_in_order least) same ∙ all

abbrev pub AnswersText : Side → List ℕ → Result Script ScheduleFault → Type 0
AnswersText side text r = Gives (λ (s : Script). s.lines) r (read_lines (script_reader side) 0 0 (lines_of text))

module _ (side : Side) (text : List ℕ) (r : Result Script ScheduleFault) (answers : AnswersText side text r) where
  pub found : IfOk r (λ script. IsScript side text script.lines)
  found = go r (telling.all_found (exact side) (λ (s : Script). s.lines) text r answers) where
    go : (r : Result Script ScheduleFault) →
        IfOk r (λ s. telling.AllTell (exact side) 0 (lines_of text) s.lines × (length (lines_of text) ≤ most_script_lines)) →
        IfOk r (λ script. IsScript side text script.lines)
    go (Ok script) is = record { tell = is.0; within = is.1 }
    go (Err e) is = tt

  pub fits : IfOk r (λ script. ScriptFits script)
  fits = go r found where
    go : (r : Result Script ScheduleFault) → IfOk r (λ script. IsScript side text script.lines) → IfOk r (λ script. ScriptFits script)
    go (Ok script) is =
        let all = all_fit (IsToldLine side) moment_of_line LineFits (λ least told line is. line_fits side told line is.0) 0 (lines_of text) script.lines is.tell in
        record {
          lines = all.0;
          order = in_order side 0 (lines_of text) script.lines is.tell;
          number = omega (arith, all.1, is.within);
        }
    go (Err e) is = tt

  pub only : (lines : List Line) → IsScript side text lines → ReadsOnly (λ (s : Script). s.lines) lines r
  only lines is = telling.only (exact side) (λ (s : Script). s.lines) text r answers lines is.tell is.within

  pub line_named : (n : ℕ) → r ≡ Err (fault.Line n) → OutsideScriptAt side text n
  line_named = telling.line_named (exact side) (λ (s : Script). s.lines) text r answers

  pub outside_refused : (n : ℕ) → OutsideScriptAt side text n → RefusesOnly (fault.Line n) r
  outside_refused = telling.outside_refused (exact side) (λ (s : Script). s.lines) text r answers
