-- The plans of made rounds fit, and what comes of a run over them.
use Rattle.std.proofs.Common.{◌≡◌, ◌∙◌, sym, ap, refl, ℕ, ◌&&◌, true, nat_le, List, [], ◌∷◌, length, codes, arith, inl, inr, subst}
use Rattle.std.specs.Prelude.{All, nat_eq, bytes_eq}
use Rattle.std.specs.List.{IsDistinct, list_all}
use Rattle.std.proofs.lemmas.Bool.{and_parts, leb-true, ltb-true}
use Rattle.std.proofs.lemmas.Bool.Decides.{nat_tests}
use Rattle.std.proofs.lemmas.List.Elements.{All-cons, All-nil}
use Rattle.std.proofs.lemmas.List.Sums.{AllPass-from_list_all}
use Rattle.equipment_tables.specs.Plan.{CanBeSpooled, IsShortText, PlansFit, function_of}
use Rattle.equipment_tables.specs.declared.plan.Plans.{Plans}
use Rattle.gem_config.specs.Values.{is_ascii, is_short}
use Rattle.gem_vars.specs.Plan.{VariableFits}
use Rattle.gl_base.specs.Told.{SinkTold}
use Rattle.line_end.specs.Plan.{LinePlanFits}
use Rattle.secs_items.specs.declared.item.Item.TheFolds.{fold-roll-Item}
use Rattle.secs_items.specs.declared.item.Item.TheOpen.{Item-F}
use Rattle.secs_items.specs.declared.item.Item.TheVariants.{rolls-U4}
use Rattle.secs_items.specs.Measures.{depth_of, layer_depth}
use Rattle.secs_items.specs.Spelling.{shortest_layer, shortest_spelling}
use Rattle.gemline_app.specs.Make.{MakeComes, WereMade, made_line, made_plans, made_spooled, made_value, made_variable}
use Rattle.gemline_app.specs.declared.outcome.Outcome.{Outcome}

short_fits : (text : List ℕ) → is_short 20 text ≡ true → IsShortText text
short_fits text is =
    let parts = and_parts (nat_le (length text) 20) (list_all is_ascii text) is in
    let short = parts.0 in
    let each = AllPass-from_list_all is_ascii text parts.1 in
    record {
      short = grind (arith, nat_tests);
      ascii = λ k d within. let passes = each k d within in grind (arith, nat_tests);
    }

line_fits : LinePlanFits made_line
line_fits = record {
  device = ltb-true 0 32768 refl;
  times =
      record {
        t1_at_least = leb-true 100 500 refl;
        t1_at_most = leb-true 500 10000 refl;
        t2_at_least = leb-true 200 10000 refl;
        t2_at_most = leb-true 10000 25000 refl;
        rty_at_most = leb-true 3 31 refl;
      };
  t3_at_least = leb-true 1000 45000 refl;
  t3_at_most = leb-true 45000 120000 refl;
  t4_at_least = leb-true 1000 45000 refl;
  t4_at_most = leb-true 45000 120000 refl;
  max_body_at_least = leb-true 244 1048576 refl;
  max_body_at_most = leb-true 1048576 7995148 refl;
}

spooled_fit : All CanBeSpooled made_spooled
spooled_fit =
    All-cons CanBeSpooled (function_of 5 1) (function_of 6 11 ∷ function_of 10 1 ∷ []) (inl refl)
    (All-cons CanBeSpooled (function_of 6 11) (function_of 10 1 ∷ []) (inr (inl refl))
    (All-cons CanBeSpooled (function_of 10 1) [] (inr (inr refl)) (All-nil CanBeSpooled)))

abbrev value_bytes : List ℕ
value_bytes = shortest_layer (Item-F.U4 (0 ∷ []))

spelled : shortest_spelling made_value ≡ value_bytes
spelled =
    ap shortest_spelling (sym (rolls-U4 (0 ∷ []))) ∙ fold-roll-Item (List ℕ) shortest_layer (Item-F.U4 (0 ∷ []))

flat : depth_of made_value ≡ 0
flat = ap depth_of (sym (rolls-U4 (0 ∷ []))) ∙ fold-roll-Item ℕ layer_depth (Item-F.U4 (0 ∷ []))

variable_fits : VariableFits made_variable
variable_fits =
    ap (λ (bytes : List ℕ). nat_le (length bytes) 4096 && nat_le (depth_of made_value) 60) spelled
    ∙ ap (λ (depth : ℕ). nat_le (length value_bytes) 4096 && nat_le depth 60) flat

none_distinct : IsDistinct nat_eq []
unfolding IsDistinct
none_distinct = tt

one_distinct : IsDistinct nat_eq (1 ∷ [])
unfolding IsDistinct
one_distinct = (tt, tt)

no_names : IsDistinct bytes_eq []
unfolding IsDistinct
no_names = tt

pub made_fit : PlansFit made_plans
made_fit = record {
  equipment =
      record {
        line = line_fits;
        mdln = short_fits (codes "GEMLINE") refl;
        softrev = short_fits (codes "1") refl;
        control = λ is. absurd cc;
        spooled = spooled_fit;
        vars =
            record {
              variables =
                  record {
                    few = leb-true 1 1024 refl;
                    each = All-cons VariableFits made_variable [] variable_fits (All-nil VariableFits);
                    distinct = one_distinct;
                  };
              constants = record { few = leb-true 0 256 refl; each = All-nil _; distinct = none_distinct };
              built_in = refl;
            };
        events = record { few = leb-true 1 1024 refl; distinct = one_distinct };
        alarms = record { few = leb-true 0 1024 refl; each = All-nil _; distinct = none_distinct };
        remote = record { few = leb-true 0 256 refl; distinct = no_names };
      };
  host = record { line = line_fits };
  slots_at_least = leb-true 1 16 refl;
  slots_at_most = leb-true 16 1024 refl;
}

-- what came of rounds over these plans came of `make`
pub over_made : (plans : Plans) (rounds : ℕ) (out : SinkTold) (outcome : Outcome) → plans ≡ made_plans
    → WereMade plans rounds out outcome → MakeComes rounds out outcome
over_made plans rounds out outcome is was = inr (subst (λ (p : Plans). WereMade p rounds out outcome) is was)
