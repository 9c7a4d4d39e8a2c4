-- Made rounds one after another, and what happens in them.
use Rattle.std.proofs.Common.{◌≡◌, ◌<◌, ◌≤◌, ◌-◌, ◌%◌, ◌==◌, ◌++◌, zero, suc, ℕ, Bool, true, false, List, [], ◌∷◌, if◌then◌else◌, refl, ap, sym, subst, ◌∙◌, arith}
use Rattle.std.specs.List.{All, AllByRecursion}
use Rattle.std.proofs.lemmas.List.Elements.{All-from_recursion}
use Rattle.end_pair.specs.Kept.{MayHappen}
use Rattle.line_schedule.specs.declared.event.Event.{Event}
use Rattle.secs_items.specs.declared.item.Item.TheFolds.{fold-roll-Item}
use Rattle.secs_items.specs.declared.item.Item.TheOpen.{Item-F}
use Rattle.secs_items.specs.declared.item.Item.TheVariants.{rolls-U4}
use Rattle.secs_items.specs.Limits.{max_depth}
use Rattle.secs_items.specs.Measures.{depth_of, layer_depth}
use Rattle.secs_items.specs.Spelling.{shortest_spelling}
use Rattle.trace_log.specs.Commands.{HostCommandFits, MayBeSent, ToolCommandFits}
use Rattle.line_world.specs.Make.{defines_its_report, enables_all, finds_nobody, first_events, kind_of_round, loses_one, loses_power, next_number, numbers_behind, one_u4, pairs_of, round_of, rounds_of, sends_all, sets_and_tells, unloads}
use Rattle.line_world.proofs.Bodies.{spelled-s2f33, spelled-s2f35, spelled-s2f37, spelled-s6f23}

-- ---- one after another

abbrev events_left : ℕ → ℕ → List Event
events_left left x = rounds_of (numbers_behind left x)

one-more : (left n x next : ℕ) → left ≡ suc n → next ≡ next_number x
    → events_left left x ≡ round_of next ++ events_left n next
one-more left n x next is named =
    ap (λ (l : ℕ). events_left l x) is ∙ ap (λ (y : ℕ). round_of y ++ events_left n y) (sym named)

-- the next one, where some are left
pub next-round : (left x next : ℕ) → 0 < left → next ≡ next_number x
    → events_left left x ≡ round_of next ++ events_left (left - 1) next
next-round left x next some named = one-more left (left - 1) x next (omega (arith, some)) named

-- none, where none is
zero-of : (left : ℕ) → left ≤ 0 → left ≡ zero
zero-of zero none = refl
zero-of (suc n) none = absurd (omega (arith, none))

pub no-round : (left x : ℕ) → left ≤ 0 → events_left left x ≡ []
no-round left x none = ap (λ (l : ℕ). events_left l x) (zero-of left none)

-- ---- their events may happen

abbrev May : Event → Type 0
May = MayHappen ToolCommandFits HostCommandFits (Unit {0}) ⊥

abbrev IsByte : ℕ → Type 0
IsByte byte = byte < 256

may-be-sent :
    (stream function : ℕ) (body bytes : List ℕ) → 1 ≤ stream → stream ≤ 127 → function % 2 ≡ 1 → function < 256
    → body ≡ bytes → AllByRecursion IsByte bytes → MayBeSent stream function body
may-be-sent stream function body bytes least most odd small is all = record {
  name = record { at_least = least; at_most = most; odd = odd };
  byte = small;
  bytes = subst (λ (text : List ℕ). All IsByte text) (sym is) (All-from_recursion IsByte bytes all);
}

s2f33-may : MayBeSent 2 33 (shortest_spelling (pairs_of 1 10 1))
s2f33-may =
    may-be-sent 2 33 _ _ (omega arith) (omega arith) refl (omega arith) spelled-s2f33 (
      omega arith,
      (
        omega arith,
        (
          omega arith,
          (
            omega arith,
            (
              omega arith,
              (
                omega arith,
                (
                  omega arith,
                  (
                    omega arith,
                    (
                      omega arith,
                      (
                        omega arith,
                        (
                          omega arith,
                          (
                            omega arith,
                            (
                              omega arith,
                              (
                                omega arith,
                                (
                                  omega arith,
                                  (
                                    omega arith,
                                    (
                                      omega arith,
                                      (
                                        omega arith,
                                        (
                                          omega arith,
                                          (
                                            omega arith,
                                            (
                                              omega arith,
                                              (
                                                omega arith,
                                                (omega arith, (omega arith, (omega arith, (omega arith, tt)))),
                                              ),
                                            ),
                                          ),
                                        ),
                                      ),
                                    ),
                                  ),
                                ),
                              ),
                            ),
                          ),
                        ),
                      ),
                    ),
                  ),
                ),
              ),
            ),
          ),
        ),
      ),
    )

s2f35-may : MayBeSent 2 35 (shortest_spelling (pairs_of 2 1 10))
s2f35-may =
    may-be-sent 2 35 _ _ (omega arith) (omega arith) refl (omega arith) spelled-s2f35 (
      omega arith,
      (
        omega arith,
        (
          omega arith,
          (
            omega arith,
            (
              omega arith,
              (
                omega arith,
                (
                  omega arith,
                  (
                    omega arith,
                    (
                      omega arith,
                      (
                        omega arith,
                        (
                          omega arith,
                          (
                            omega arith,
                            (
                              omega arith,
                              (
                                omega arith,
                                (
                                  omega arith,
                                  (
                                    omega arith,
                                    (
                                      omega arith,
                                      (
                                        omega arith,
                                        (
                                          omega arith,
                                          (
                                            omega arith,
                                            (
                                              omega arith,
                                              (
                                                omega arith,
                                                (omega arith, (omega arith, (omega arith, (omega arith, tt)))),
                                              ),
                                            ),
                                          ),
                                        ),
                                      ),
                                    ),
                                  ),
                                ),
                              ),
                            ),
                          ),
                        ),
                      ),
                    ),
                  ),
                ),
              ),
            ),
          ),
        ),
      ),
    )

s2f37-may : MayBeSent 2 37 (shortest_spelling enables_all)
s2f37-may =
    may-be-sent 2 37 _ _ (omega arith) (omega arith) refl (omega arith) spelled-s2f37
    (omega arith, (omega arith, (omega arith, (omega arith, (omega arith, (omega arith, (omega arith, tt)))))))

s6f23-may : MayBeSent 6 23 (shortest_spelling sends_all)
s6f23-may =
    may-be-sent 6 23 _ _ (omega arith) (omega arith) refl (omega arith) spelled-s6f23
    (omega arith, (omega arith, (omega arith, tt)))

depth-u4 : (x : ℕ) → depth_of (one_u4 x) ≡ 0
depth-u4 x = ap depth_of (sym (rolls-U4 (x ∷ []))) ∙ fold-roll-Item ℕ layer_depth (Item-F.U4 (x ∷ []))

set-may : (x : ℕ) → depth_of (one_u4 x) ≤ max_depth
set-may x = let none = depth-u4 x in omega (arith, none)

abbrev AllMay : List Event → Type 0
AllMay = AllByRecursion May

defines : AllMay defines_its_report
defines = (s2f33-may, (tt, (s2f35-may, (tt, (s2f37-may, (tt, tt))))))

by-kind : (x : ℕ) (four five six seven : Bool)
    → AllMay (if four then loses_one else if five then finds_nobody else if six then loses_power
    else if seven then unloads else sets_and_tells x)
by-kind x true five six seven = (tt, (tt, (omega arith, (tt, tt))))
by-kind x false true six seven =
    (tt, (tt, (omega arith, (tt, (omega arith, (tt, (omega arith, (tt, (omega arith, (tt, tt))))))))))
by-kind x false false true seven = (tt, (tt, (omega arith, (tt, defines))))
by-kind x false false false true = (s6f23-may, (tt, tt))
by-kind x false false false false = (set-may x, (tt, (tt, tt)))

pub round-may : (x : ℕ) → All May (round_of x)
round-may x =
    let kind = kind_of_round x in
    All-from_recursion May (round_of x) (by-kind x (kind == 4) (kind == 5) (kind == 6) (kind == 7))

pub first-may : All May first_events
first-may = All-from_recursion May first_events (tt, defines)
