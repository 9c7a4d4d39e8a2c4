-- What a run over words is, by what `command_of` answered of them.
use Rattle.std.proofs.Common.{◌≡◌, ℕ, List, Option, Some, None, Err, refl, sym, subst, inl, inr}
use Rattle.command_words.specs.Asked.{Asked}
use Rattle.command_words.specs.Words.{Answers, asked_of}
use Rattle.command_words.specs.declared.command.WordsFault.{WordsFault}
use Rattle.command_words.specs.declared.command.WordsFault.TheVariants as words_fault
use Rattle.gl_base.specs.Told.{FilesTold, SinkTold, SourceTold}
use Rattle.spool_show.specs.Told.{DiskTold}
use Rattle.gemline_app.specs.LinkTold.{IsUncalled, LinkTold}
use Rattle.gemline_app.specs.Gemline.{ComesFrom, IsRun, WereSent}
use Rattle.gemline_app.specs.Inputs.{IsUnread}
use Rattle.gemline_app.specs.Outcome.{line_of, name_of, refusal_of, status_of}
use Rattle.gemline_app.specs.Spool.{IsUnused}
use Rattle.gemline_app.specs.Written.{AreUnread, IsUntouched}
use Rattle.gemline_app.specs.declared.outcome.Outcome.{Outcome}
use Rattle.gemline_app.specs.declared.outcome.Outcome.TheVariants.{Usage, NoMemory}

-- the words are a command's, and it was carried out
pub carried_out : (words : List (List ℕ)) (source : SourceTold) (files : FilesTold) (disk : DiskTold) (link : LinkTold)
    (out err : SinkTold) (status : ℕ) (asked : Asked) (outcome : Outcome)
    → asked_of words ≡ Some asked → ComesFrom (Some asked) source files disk link out outcome
    → status ≡ status_of outcome → WereSent (line_of (name_of (Some asked) outcome) outcome) err
    → IsRun words source files disk link out err status
carried_out words source files disk link out err status asked outcome is comes ends line = record {
  outcome = outcome;
  status_is = ends;
  comes = inr (subst (λ (a : Option Asked). ComesFrom a source files disk link out outcome) (sym is) comes);
  line = subst (λ (a : Option Asked). WereSent (line_of (name_of a outcome) outcome) err) (sym is) line;
}

-- they are none's, or memory ran out over them: nothing was touched
pub refused : (words : List (List ℕ)) (source : SourceTold) (files : FilesTold) (disk : DiskTold) (link : LinkTold)
    (out err : SinkTold) (status : ℕ) (why : WordsFault)
    → Answers (asked_of words) (Err why) → IsUnread source → AreUnread files → IsUnused disk → IsUncalled link
    → IsUntouched out
    → status ≡ status_of (refusal_of why) → WereSent (line_of (name_of None (refusal_of why)) (refusal_of why)) err
    → IsRun words source files disk link out err status
refused words source files disk link out err status words_fault.Usage is input unread unused uncalled written ends
    line = record {
      outcome = Usage;
      status_is = ends;
      comes = inr (subst (λ (a : Option Asked). ComesFrom a source files disk link out Usage) (sym is) (record {
        refused = refl;
        input = input;
        unread = unread;
        unused = unused;
        uncalled = uncalled;
        written = written;
      }));
      line = line;
    }
refused words source files disk link out err status words_fault.NoMemory is input unread unused uncalled written ends
    line = record {
      outcome = NoMemory;
      status_is = ends;
      comes = inl (record {
        refused = refl;
        input = input;
        unread = unread;
        unused = unused;
        uncalled = uncalled;
        written = written;
      });
      line = line;
    }
