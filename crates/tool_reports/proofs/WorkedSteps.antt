-- The worked steps of a trace: what is due in them, and which S6F1 they have sent.
use Rattle.std.proofs.Common.{◌≡◌, refl, sym, ap, subst, ◌∙◌, inl, inr, arith, ◌==◌, ◌&&◌, ◌≤◌, nat_le, not, Bool, true, false, ℕ, List, [], ◌∷◌, ◌++◌, length, Option, Some, None, if◌then◌else◌}
use Rattle.std.specs.List.{cons_option}
use Rattle.std.specs.Prelude.{bytes_eq, filter, is_some}
use Rattle.gem_shapes.specs.declared.request.Request.{Request}
use Rattle.gem_shapes.specs.declared.request.Request.TheVariants as request
use Rattle.gem_trace.specs.History.{Look, TraceEntry, bodies_at, traces_at}
use Rattle.gem_trace.specs.History.TraceEntry.{Step}
use Rattle.gem_vars.specs.declared.settings.Setting.{Setting}
use Rattle.gem_vars.specs.declared.settings.Setting.TheVariants as setting
use Rattle.gem_vars.specs.Settings.{refusal_of, same_kind, value_fits}
use Rattle.message_flow.specs.declared.message.Message.{Message}
use Rattle.secs_items.specs.declared.encode_fault.EncodeFault.{EncodeFault}
use Rattle.secs_items.specs.declared.item.Item.{Item, out-Item}
use Rattle.secs_items.specs.declared.item.Item.TheFolds.{fold-roll-Item}
use Rattle.secs_items.specs.declared.item.Item.TheOpen.{Item-F}
use Rattle.secs_items.specs.declared.item.Item.TheVariants as item
use Rattle.secs_items.specs.declared.item.Item.TheVariants.{rolls-U4}
use Rattle.secs_items.specs.declared.item.Item.TheViews.{out-roll-Item}
use Rattle.secs_items.specs.Kinds.{code_of}
use Rattle.secs_items.specs.Layers.{kind_of}
use Rattle.secs_items.specs.Measures.{depth_of, layer_depth}
use Rattle.secs_items.specs.Spelling.{shortest_layer, shortest_spelling}
use Rattle.message_end.specs.Own.{Has}
use Rattle.equipment_tables.specs.Past.{Entries, asked_counts, set_counts, vars_by}
use Rattle.tool_step.specs.WorkedTraces.{each_second, seven_and_nine}
use Rattle.tool_reports.specs.Reported.{IsTextOf, count_of, is_of}
use Rattle.tool_reports.specs.Sampled.{IsOfTrace, datas_in, due_in, is_text_of, setting_of}
use Rattle.tool_reports.specs.WorkedSampled.{Are, AreOverStart, IsAsking, IsAskingTooMuch, IsData, again, asked, notes_behind, putting, start, steps_of, the_plan, too_early, without_asking}
use Rattle.tool_reports.proofs.QuietNotes.{counted, one}
use Rattle.tool_reports.proofs.QuietReports.{equal-bytes}

-- ---- the variable may be set so

abbrev nothing : Entries
nothing = record { vars = []; reports = []; alarms = []; rules = [] }

abbrev of_u4 : ℕ → Item-F Item
of_u4 n = Item-F.U4 (n ∷ [])

out-u4 : (n : ℕ) → out-Item (item.U4 (n ∷ [])) ≡ of_u4 n
out-u4 n = ap out-Item (sym (rolls-U4 (n ∷ []))) ∙ out-roll-Item (of_u4 n)

of-one-kind : same_kind (item.U4 (7 ∷ [])) (item.U4 (9 ∷ [])) ≡ true
of-one-kind =
    ap (λ (held : Item-F Item). code_of (kind_of held) == code_of (kind_of (out-Item (item.U4 (9 ∷ []))))) (out-u4 7)
    ∙ ap (λ (value : Item-F Item). code_of (kind_of (of_u4 7)) == code_of (kind_of value)) (out-u4 9)

is-short : value_fits (item.U4 (9 ∷ [])) ≡ true
is-short =
    ap (λ (bytes : List ℕ). nat_le (length bytes) 4096 && nat_le (depth_of (item.U4 (9 ∷ []))) 60)
    (ap shortest_spelling (sym (rolls-U4 (9 ∷ [])))
    ∙ fold-roll-Item (List ℕ) shortest_layer (Item-F.U4 (9 ∷ [])))
    ∙ ap (λ (depth : ℕ). nat_le (length (shortest_layer (Item-F.U4 (9 ∷ [])))) 4096 && nat_le depth 60)
    (ap depth_of (sym (rolls-U4 (9 ∷ []))) ∙ fold-roll-Item ℕ layer_depth (Item-F.U4 (9 ∷ [])))

accepted : refusal_of (vars_by the_plan nothing) 1 (item.U4 (9 ∷ [])) ≡ None
accepted =
    ap
    (λ (same : Bool). if same then if value_fits (item.U4 (9 ∷ [])) then None else Some (setting.TooLong 1)
    else Some (setting.Kind 1)) of-one-kind
    ∙ ap (λ (fits : Bool). if fits then None else Some (setting.TooLong 1)) is-short

-- ---- what is due, by what the host has asked for

abbrev looks : Entries → ℕ → Look
looks entries now = record { vars = vars_by the_plan entries; now = now }

abbrev first_look : Look
first_look = looks nothing 0

abbrev asked_by : Option Request → Entries
asked_by asks = asked_counts the_plan asks nothing

-- the variable is set, unless that is refused
abbrev set_by : Option Setting → Option Request → Entries
set_by refusal asks = set_counts refusal 1 (item.U4 (9 ∷ [])) (asked_by asks)

abbrev refused_by : Option Request → Option Setting
refused_by asks = refusal_of (vars_by the_plan (asked_by asks)) 1 (item.U4 (9 ∷ []))

abbrev one_step : Option Request → List TraceEntry
one_step asks =
    Step first_look ∷ (cons_option (setting_of asks first_look (traces_at (Step first_look ∷ []))) [] ++ [])

abbrev two_steps : Option Request → List TraceEntry
two_steps asks = one_step asks ++ Step (looks (asked_by asks) 1000) ∷ []

abbrev three_steps : Option Request → List TraceEntry
three_steps asks = two_steps asks ++ Step (looks (asked_by asks) 1000) ∷ []

abbrev four_steps : Option Setting → Option Request → List TraceEntry
four_steps refusal asks = three_steps asks ++ Step (looks (set_by refusal asks) 2000) ∷ []

abbrev due_by : Option Setting → Option Request → List Item
due_by refusal asks =
    bodies_at (three_steps asks) (looks (set_by refusal asks) 2000)
    ++ (bodies_at (two_steps asks) (looks (asked_by asks) 1000)
    ++ (bodies_at (one_step asks) (looks (asked_by asks) 1000) ++ (bodies_at [] first_look ++ [])))

abbrev still_due_by : Option Setting → Option Request → List Item
still_due_by refusal asks =
    bodies_at (four_steps refusal asks) (looks (set_by refusal asks) 3000) ++ due_by refusal asks

abbrev a_trace : Option Request
a_trace = Some (request.Trace 1 each_second 2 2 (1 ∷ []))

pub asked-due : (message s6f1 : Message) → IsAsking message
    → due_in the_plan (steps_of (asked message s6f1)) ≡ seven_and_nine ∷ []
asked-due message s6f1 is =
    ap (λ (asks : Option Request). due_by (refused_by asks) asks) is
    ∙ ap (λ (refusal : Option Setting). due_by refusal a_trace) accepted

again-due : (message s6f1 other : Message) → IsAsking message
    → due_in the_plan (steps_of (again message s6f1 other)) ≡ seven_and_nine ∷ []
again-due message s6f1 other is =
    ap (λ (asks : Option Request). still_due_by (refused_by asks) asks) is
    ∙ ap (λ (refusal : Option Setting). still_due_by refusal a_trace) accepted

-- ---- where none is due

abbrev early_due_by : Option Request → List Item
early_due_by asks =
    bodies_at (one_step asks) (looks (asked_by asks) 1000) ++ (bodies_at [] first_look ++ [])

early-due : (message s6f1 : Message) → IsAsking message → due_in the_plan (steps_of (too_early message s6f1)) ≡ []
early-due message s6f1 is = ap (λ (asks : Option Request). early_due_by asks) is

abbrev a_group_too_long : Option Request
a_group_too_long = Some (request.Trace 1 each_second 2 3 (1 ∷ []))

refused-due : (message s6f1 : Message) → IsAskingTooMuch message
    → due_in the_plan (steps_of (asked message s6f1)) ≡ []
refused-due message s6f1 is =
    ap (λ (asks : Option Request). due_by (refused_by asks) asks) is
    ∙ ap (λ (refusal : Option Setting). due_by refusal a_group_too_long) accepted

-- ---- which were sent

data-true : (s6f1 : Message) → IsData s6f1 → (is_of 6 1 s6f1 && true) ≡ true
data-true s6f1 is = ap (λ (b : Bool). b && true) is.named

sent-is : (s6f1 : Message) → IsData s6f1
    → (if is_of 6 1 s6f1 && true then s6f1.body ∷ [] else []) ≡ s6f1.body ∷ []
sent-is s6f1 is = ap (λ (b : Bool). if b then s6f1.body ∷ [] else []) (data-true s6f1 is)

pub data-is : (s6f1 : Message) → IsData s6f1 → Has (datas_in (notes_behind (without_asking s6f1) start)) s6f1.body
data-is s6f1 is = subst (λ (all : List (List ℕ)). Has all s6f1.body) (sym (sent-is s6f1 is)) (inl refl)

pub sent-one : (message s6f1 : Message) → IsData s6f1
    → Has (datas_in (notes_behind (asked message s6f1) start)) s6f1.body
sent-one message s6f1 is = subst (λ (all : List (List ℕ)). Has all s6f1.body) (sym (sent-is s6f1 is)) (inl refl)

sent-two : (message s6f1 other : Message) → IsData s6f1 → IsData other
    → datas_in (notes_behind (again message s6f1 other) start) ≡ other.body ∷ s6f1.body ∷ []
sent-two message s6f1 other is also =
    ap
    (λ (b : Bool). if b then other.body ∷ (if is_of 6 1 s6f1 && true then s6f1.body ∷ [] else [])
    else (if is_of 6 1 s6f1 && true then s6f1.body ∷ [] else [])) (data-true other also)
    ∙ ap (λ (all : List (List ℕ)). other.body ∷ all) (sent-is s6f1 is)

-- ---- one that isn't due

pub never-early : (message s6f1 : Message) → IsAsking message → IsData s6f1 → Are (too_early message s6f1) → ⊥
never-early message s6f1 is named are =
    let has : Has (datas_in (notes_behind (too_early message s6f1) start)) s6f1.body =
    subst (λ (all : List (List ℕ)). Has all s6f1.body) (sym (sent-is s6f1 named)) (inl refl) in
    let of = are.each s6f1.body has in
    subst (λ (due : List Item). Has due of.item) (early-due message s6f1 is) of.due

pub never-refused : (message s6f1 : Message) → IsAskingTooMuch message → IsData s6f1 → Are (asked message s6f1) → ⊥
never-refused message s6f1 is named are =
    let of = are.each s6f1.body (sent-one message s6f1 named) in
    subst (λ (due : List Item). Has due of.item) (refused-due message s6f1 is) of.due

pub never-over-start : (message s6f1 : Message) → IsData s6f1 → AreOverStart message s6f1 → ⊥
never-over-start message s6f1 named are =
    (are.each s6f1.body
    (subst (λ (all : List (List ℕ)). Has all s6f1.body) (sym (sent-is s6f1 named)) (inl refl))).due

pub never-spooled : (body : List ℕ) → Are (putting body) → ⊥
never-spooled body are = let can = are.spoolable.0 in absurd (cc)

-- ---- what one holds

-- where this one alone is due
pub of-one : (due : List Item) (body : List ℕ) → due ≡ seven_and_nine ∷ []
    → (item : Item) → Has due item → IsTextOf item body → body ≡ shortest_spelling seven_and_nine
of-one due body is item has text =
    go (subst (λ (all : List Item). Has all item) is has)
  where
    go : Has (seven_and_nine ∷ []) item → body ≡ shortest_spelling seven_and_nine
    go (inl same) = text.shortest ∙ ap shortest_spelling same
    go (inr none) = absurd none

-- ---- two of one text

twice-counted : (body other : List ℕ) → other ≡ body → count_of body (other ∷ body ∷ []) ≡ 2
twice-counted body other same =
    ap (λ (b : List ℕ). count_of body (b ∷ body ∷ [])) same
    ∙ (let is = ap one (equal-bytes body) in
    let first = counted (bytes_eq body) body (body ∷ []) in
    let second = counted (bytes_eq body) body [] in
    omega (arith, is, first, second))

one-most : (b : Bool) → one b ≤ 1
one-most true = omega arith
one-most false = omega arith

due-most : (body : List ℕ) (due : List Item) → due ≡ seven_and_nine ∷ [] → length (filter (is_text_of body) due) ≤ 1
due-most body due is =
    subst (λ (all : List Item). length (filter (is_text_of body) all) ≤ 1) (sym is)
    (let first = counted (is_text_of body) seven_and_nine [] in
    let most = one-most (is_text_of body seven_and_nine) in
    omega (arith, first, most))

pub never-again : (message s6f1 other : Message) → IsAsking message → IsData s6f1 → IsData other
    → Are (again message s6f1 other) → ⊥
never-again message s6f1 other is one two are =
    let due = again-due message s6f1 other is in
    let sent = sent-two message s6f1 other one two in
    let of_data = are.each s6f1.body (subst (λ (all : List (List ℕ)). Has all s6f1.body) (sym sent) (inr (inl refl))) in
    let of_other = are.each other.body (subst (λ (all : List (List ℕ)). Has all other.body) (sym sent) (inl refl)) in
    let same =
    of-one _ other.body due of_other.item of_other.due of_other.text
    ∙ sym (of-one _ s6f1.body due of_data.item of_data.due of_data.text) in
    let most =
    subst (λ (all : List (List ℕ)). count_of s6f1.body all
    ≤ length (filter (is_text_of s6f1.body) (due_in the_plan (steps_of (again message s6f1 other))))) sent
    (are.once s6f1.body) in
    let twice = twice-counted s6f1.body other.body same in
    let few = due-most s6f1.body (due_in the_plan (steps_of (again message s6f1 other))) due in
    omega (arith, most, twice, few)

-- ---- one that may go

counts-alike : (body text : List ℕ) → IsTextOf seven_and_nine text
    → one (bytes_eq body text) ≡ one (is_text_of body seven_and_nine)
counts-alike body text is =
    ap (λ (t : List ℕ). one (bytes_eq body t)) is.shortest
    ∙ sym
    (ap (λ (fault : Option EncodeFault). one (not (is_some fault) && bytes_eq body (shortest_spelling seven_and_nine)))
    is.spelled)

pub asked-is : (message s6f1 : Message) → IsAsking message → IsData s6f1 → IsTextOf seven_and_nine s6f1.body
    → Are (asked message s6f1)
asked-is message s6f1 is named text = record {
  wait = ((λ is_one. named.wait), tt);
  spoolable = tt;
  each = λ body has. of_one body (subst (λ (all : List (List ℕ)). Has all body) (sent-is s6f1 named) has);
  once = λ body.
      let sent = ap (count_of body) (sent-is s6f1 named) in
      let due = ap (λ (all : List Item). length (filter (is_text_of body) all)) (asked-due message s6f1 is) in
      let first = counted (bytes_eq body) s6f1.body [] in
      let second = counted (is_text_of body) seven_and_nine [] in
      let same = counts-alike body s6f1.body text in
      omega (arith, sent, due, first, second, same);
}
  where
    of_one : (body : List ℕ) → Has (s6f1.body ∷ []) body → IsOfTrace the_plan body (steps_of (asked message s6f1))
    of_one body (inl same) = record {
      item = seven_and_nine;
      due = subst (λ (all : List Item). Has all seven_and_nine) (sym (asked-due message s6f1 is)) (inl refl);
      text = subst (IsTextOf seven_and_nine) (sym same) text;
    }
    of_one body (inr none) = absurd none

-- ---- one without W

pub never-unawaited : (s6f1 : Message) → is_of 6 1 s6f1 ≡ true → s6f1.wait ≡ false → Are (without_asking s6f1) → ⊥
never-unawaited s6f1 named none are =
    let wait = are.wait.0 (ap (λ (b : Bool). b && true) named) in
    absurd (cc)
