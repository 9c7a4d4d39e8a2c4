-- Texts that are noted, one after another.
use Rattle.std.proofs.Common.{◌≡◌, sym, ◌∙◌, ap, ℕ, ◌+◌, ◌<◌, List, [], ◌∷◌, ◌++◌, append_assoc, get_or, length, map, take}
use Rattle.std.proofs.lemmas.List.{map-append, take_more}
use Rattle.std.proofs.lemmas.List.Elements.{filter_map-append}
use Rattle.std.specs.List.{filter_map}
use Rattle.message_flow.specs.declared.step.Note.{Note}
use Rattle.trace_log.specs.Log.Happening.{Display}
use Rattle.trace_log.specs.Text.{note_of, printed_note}

abbrev pub shown : ℕ → List (List ℕ) → List Note
shown tid texts = filter_map printed_note (map (Display tid) texts)

pub texts_more :
    (tid : ℕ) (texts : List (List ℕ)) (i : ℕ) (d : List ℕ) (old before now : List Note) (note : Note)
    → i < length texts → before ≡ old ++ shown tid (take i texts) → now ≡ before ++ note ∷ []
    → note ≡ note_of (Display tid (get_or texts i d)) → now ≡ old ++ shown tid (take (i + 1) texts)
texts_more tid texts i d old before now note within so_far put is =
    let text = get_or texts i d in
    let parts : shown tid (take (i + 1) texts) ≡ shown tid (take i texts) ++ note_of (Display tid text) ∷ [] =
    ap (shown tid) (take_more texts i d within)
    ∙ ap (filter_map printed_note) (map-append (Display tid) (take i texts) (text ∷ []))
    ∙ filter_map-append printed_note (map (Display tid) (take i texts)) (Display tid text ∷ []) in
    put ∙ ap (λ notes. notes ++ note ∷ []) so_far
    ∙ append_assoc old (shown tid (take i texts)) (note ∷ [])
    ∙ ap (λ n. old ++ (shown tid (take i texts) ++ n ∷ [])) is
    ∙ ap (λ (notes : List Note). old ++ notes) (sym parts)
