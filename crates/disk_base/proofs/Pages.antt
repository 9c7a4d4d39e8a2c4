-- What a crash leaves of places in which nothing was written.
use Rattle.std.proofs.Common.{◌≡◌, ℕ, zero, suc, ◌+◌, ◌-◌, ◌≤◌, Bool, true, false, List, [], ◌∷◌, ◌++◌}
use Rattle.std.proofs.Common.{length, take, drop, refl, sym, ap, ◌∙◌, arith, append_assoc}
use Rattle.std.proofs.lemmas.List.{drop-drop, length-drop}
use Rattle.std.specs.Bool.{beq}
use Rattle.std.specs.List.{list_any, slice_range}
use Rattle.disk_base.specs.Cut.{bytes_left}
use Rattle.disk_base.specs.declared.cut.CutChoice.{CutChoice}

-- places of which none is marked keep their bytes, and the choice for those behind them
none_marked :
    (n : ℕ) (choice : CutChoice) (marks : List Bool) (settled now : List ℕ)
    → length marks ≡ length now → length settled ≡ length now
    → list_any (λ mark. beq mark true) (take n marks) ≡ false
    → take n now ++ bytes_left choice (drop n marks) (drop n settled) (drop n now) ≡ bytes_left choice marks settled now
none_marked zero choice marks settled now marked long none = refl
none_marked (suc n) choice [] settled [] marked long none = refl
none_marked (suc n) choice [] settled (new ∷ now) marked long none = absurd (omega (arith, marked))
none_marked (suc n) choice (mark ∷ marks) settled [] marked long none = absurd (omega (arith, marked))
none_marked (suc n) choice (mark ∷ marks) [] (new ∷ now) marked long none = absurd (omega (arith, long))
none_marked (suc n) choice (true ∷ marks) (old ∷ settled) (new ∷ now) marked long none =
    absurd (grind (arith, none))
none_marked (suc n) choice (false ∷ marks) (old ∷ settled) (new ∷ now) marked long none =
    ap (λ (rest : List ℕ). new ∷ rest)
    (none_marked n choice marks settled now (omega (arith, marked)) (omega (arith, long)) none)

drop_further :
    {A : Type 0} (place end : ℕ) (all : List A) → place ≤ end → drop (end - place) (drop place all) ≡ drop end all
drop_further place end all before =
    let further : place + (end - place) ≡ end = omega (arith, before) in
    drop-drop (end - place) place all ∙ ap (λ (k : ℕ). drop k all) further

-- a part more in which none is marked
pub unmarked_part :
    (place end : ℕ) (choice : CutChoice) (marks : List Bool) (settled now image whole : List ℕ)
    → place ≤ end → end ≤ length now → length marks ≡ length now → length settled ≡ length now
    → list_any (λ mark. beq mark true) (slice_range marks place end) ≡ false
    → image ++ bytes_left choice (drop place marks) (drop place settled) (drop place now) ≡ whole
    → (image ++ slice_range now place end) ++ bytes_left choice (drop end marks) (drop end settled) (drop end now)
    ≡ whole
unmarked_part place end choice marks settled now image whole before within marked long none so_far =
    let n = end - place in
    let part = slice_range now place end in
    let left = bytes_left choice in
    append_assoc image part _
    ∙ ap (λ (rest : List ℕ). image ++ rest) (
    ap (λ (ms : List Bool). part ++ left ms (drop end settled) (drop end now))
    (sym (drop_further place end marks before))
    ∙ ap (λ (ss : List ℕ). part ++ left (drop n (drop place marks)) ss (drop end now))
    (sym (drop_further place end settled before))
    ∙ ap (λ (bs : List ℕ). part ++ left (drop n (drop place marks)) (drop n (drop place settled)) bs)
    (sym (drop_further place end now before))
    ∙ none_marked n choice (drop place marks) (drop place settled) (drop place now)
    (length-drop place marks ∙ ap (λ (k : ℕ). k - place) marked ∙ sym (length-drop place now))
    (length-drop place settled ∙ ap (λ (k : ℕ). k - place) long ∙ sym (length-drop place now)) none
    )
    ∙ so_far
