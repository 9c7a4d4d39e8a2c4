-- The text of a log, in parts.
use Rattle.std.proofs.Common.{◌≡◌, ℕ, List, [], ◌∷◌, ◌++◌, sym, ap, ◌∙◌, append_assoc, append-nil}
use Rattle.trace_log.specs.Log.{Entry}
use Rattle.trace_log.specs.Text.{entry_text, text_of}

pub text_of-append : (newer older : List Entry) → text_of (newer ++ older) ≡ text_of older ++ text_of newer
text_of-append [] older = sym (append-nil (text_of older))
text_of-append (entry ∷ newer) older =
    ap (λ (t : List ℕ). t ++ entry_text entry) (text_of-append newer older)
    ∙ append_assoc (text_of older) (text_of newer) (entry_text entry)
