-- What has been taken in order, with equal neighbours as one.
use Rattle.std.specs.Prelude.{◌≡◌, ◌<◌, ◌≤◌, ◌⊎◌, ◌==◌, ◌≢◌, ℕ, Bool, true, false, List, [], ◌∷◌, ◌++◌, cond, filter, if◌then◌else◌, refl}
use Rattle.std.proofs.Common.{sym, ap, ◌∙◌, subst, arith, inl, inr}
use Rattle.std.proofs.lemmas.Bool.Decides.{nat_tests}
use Rattle.message_end.specs.Own.{Has}
use Rattle.spool_delivery.specs.Account.{Put, folded, folded_from, is_among}
use Rattle.message_end.proofs.Members.{has-either}
use Rattle.spool_delivery.proofs.Lists.{Rising, filter-alike, filter-none}

abbrev pub place_of : Put → ℕ
place_of put = put.place

abbrev pub number_of : Put → ℕ
number_of put = put.number

-- ---- members by place

pub among-at : (puts : List Put) (member put : Put) → Has puts member → member.place ≡ put.place
    → is_among puts put ≡ true
among-at [] member put is at = absurd is
among-at (one ∷ puts) member put (inl same) at =
    let here = ap place_of same in
    let test : (one.place == put.place) ≡ true = grind (arith, nat_tests) in
    ap (λ (b : Bool). if b then true else is_among puts put) test
among-at (one ∷ puts) member put (inr has) at = go (one.place == put.place) (among-at puts member put has at)
  where
    go : (test : Bool) → is_among puts put ≡ true → (if test then true else is_among puts put) ≡ true
    go true later = refl
    go false later = later

pub among-not : (puts : List Put) (put : Put) → ((one : Put) → Has puts one → one.place ≡ put.place → ⊥)
    → is_among puts put ≡ false
among-not [] put apart = refl
among-not (one ∷ puts) put apart =
    let differs = apart one (inl refl) in
    let test : (one.place == put.place) ≡ false = grind (arith, nat_tests) in
    ap (λ (b : Bool). if b then true else is_among puts put) test
    ∙ among-not puts put (λ other has. apart other (inr has))

pub among-member : (puts : List Put) (put : Put) → is_among puts put ≡ true
    → (one : Put) × Has puts one × (one.place ≡ put.place)
among-member [] put is = cc
among-member (one ∷ puts) put is = go (one.place == put.place) refl (among-member puts put) is
  where
    Member : List Put → Type 0
    Member within = (other : Put) × Has within other × (other.place ≡ put.place)

    go : (test : Bool) → (one.place == put.place) ≡ test → (is_among puts put ≡ true → Member puts)
        → (if test then true else is_among puts put) ≡ true → Member (one ∷ puts)
    go true at later found = (one, inl refl, grind (arith, nat_tests))
    go false at later found = let it = later found in (it.0, inr it.1, it.2)

among-more : (puts : List Put) (last put : Put)
    → is_among (puts ++ last ∷ []) put ≡ (if is_among puts put then true else last.place == put.place)
among-more [] last put = go (last.place == put.place)
  where
    go : (test : Bool) → (if test then true else false) ≡ test
    go true = refl
    go false = refl
among-more (one ∷ puts) last put = go (one.place == put.place) (among-more puts last put)
  where
    go : (test : Bool) → is_among (puts ++ last ∷ []) put
        ≡ (if is_among puts put then true else last.place == put.place)
        → (if test then true else is_among (puts ++ last ∷ []) put)
        ≡ (if (if test then true else is_among puts put) then true else last.place == put.place)
    go true later = refl
    go false later = later

-- ---- places that never fall

abbrev pub NeverFalls : List Put → Type 0
NeverFalls [] = Unit {0}
NeverFalls (put ∷ puts) = ((next : Put) → Has puts next → put.place ≤ next.place) × NeverFalls puts

abbrev pub AllUpTo : List Put → Put → Type 0
AllUpTo puts last = (put : Put) → Has puts put → put.place ≤ last.place

abbrev pub AllBefore : List Put → Put → Type 0
AllBefore puts last = (put : Put) → Has puts put → put.place < last.place

pub falls-more : (puts : List Put) (last : Put) → NeverFalls puts → AllUpTo puts last → NeverFalls (puts ++ last ∷ [])
falls-more [] last falls up_to = (λ next is. absurd is, tt)
falls-more (put ∷ puts) last falls up_to = (
  λ next has. go next (has-either puts (last ∷ []) next has),
  falls-more puts last falls.1 (λ one has. up_to one (inr has)),
)
  where
    go : (next : Put) → Has puts next ⊎ Has (last ∷ []) next → put.place ≤ next.place
    go next (inl has) = falls.0 next has
    go next (inr (inl same)) = subst (λ (w : Put). put.place ≤ w.place) (sym same) (up_to put (inl refl))
    go next (inr (inr is)) = absurd is

-- ---- one more is taken

-- of a place that was taken last
fold-same : (put : Put) (puts : List Put) (last : Put) → NeverFalls (put ∷ puts) → AllUpTo (put ∷ puts) last
    → (one : Put) → Has (put ∷ puts) one → one.place ≡ last.place
    → folded_from put (puts ++ last ∷ []) ≡ folded_from put puts
fold-same put [] last falls up_to one (inl same) at =
    let here = ap place_of same in
    let test : (put.place == last.place) ≡ true = grind (arith, nat_tests) in
    ap (λ (b : Bool). if b then put ∷ [] else put ∷ last ∷ []) test
fold-same put [] last falls up_to one (inr is) at = absurd is
fold-same put (next ∷ puts) last falls up_to one has at =
    go (put.place == next.place) refl (fold-same put puts last) (fold-same next puts last) has
  where
    Same : Put → Type 0
    Same first =
        NeverFalls (first ∷ puts) → AllUpTo (first ∷ puts) last → (one : Put) → Has (first ∷ puts) one
        → one.place ≡ last.place → folded_from first (puts ++ last ∷ []) ≡ folded_from first puts

    up_to_put : AllUpTo (put ∷ puts) last
    up_to_put p (inl same) = up_to p (inl same)
    up_to_put p (inr later) = up_to p (inr (inr later))

    go : (test : Bool) → (put.place == next.place) ≡ test → Same put → Same next → Has (put ∷ next ∷ puts) one
        → (if test then folded_from put (puts ++ last ∷ []) else put ∷ folded_from next (puts ++ last ∷ []))
        ≡ (if test then folded_from put puts else put ∷ folded_from next puts)
    go true equal as_put as_next (inl same) =
        as_put (λ p h. falls.0 p (inr h), falls.1.1) up_to_put one (inl same) at
    go true equal as_put as_next (inr (inl same)) =
        let here = ap place_of same in
        as_put (λ p h. falls.0 p (inr h), falls.1.1) up_to_put put (inl refl) (grind (arith, nat_tests))
    go true equal as_put as_next (inr (inr later)) =
        as_put (λ p h. falls.0 p (inr h), falls.1.1) up_to_put one (inr later) at
    go false equal as_put as_next (inl same) =
        let here = ap place_of same in
        let above = falls.0 next (inl refl) in
        let below = up_to next (inr (inl refl)) in
        ap (λ (ps : List Put). put ∷ ps)
        (as_next falls.1 (λ p h. up_to p (inr h)) next (inl refl) (omega (arith, here, above, below, at)))
    go false equal as_put as_next (inr later) =
        ap (λ (ps : List Put). put ∷ ps) (as_next falls.1 (λ p h. up_to p (inr h)) one later at)

-- of a place behind all that was taken
fold-new : (put : Put) (puts : List Put) (last : Put) → AllBefore (put ∷ puts) last
    → folded_from put (puts ++ last ∷ []) ≡ folded_from put puts ++ last ∷ []
fold-new put [] last below =
    let under = below put (inl refl) in
    let test : (put.place == last.place) ≡ false = grind (arith, nat_tests) in
    ap (λ (b : Bool). if b then put ∷ [] else put ∷ last ∷ []) test
fold-new put (next ∷ puts) last below =
    go (put.place == next.place) (fold-new put puts last below_put)
    (fold-new next puts last (λ p h. below p (inr h)))
  where
    below_put : AllBefore (put ∷ puts) last
    below_put p (inl same) = below p (inl same)
    below_put p (inr later) = below p (inr (inr later))

    go : (test : Bool) → folded_from put (puts ++ last ∷ []) ≡ folded_from put puts ++ last ∷ []
        → folded_from next (puts ++ last ∷ []) ≡ folded_from next puts ++ last ∷ []
        → (if test then folded_from put (puts ++ last ∷ []) else put ∷ folded_from next (puts ++ last ∷ []))
        ≡ (if test then folded_from put puts else put ∷ folded_from next puts) ++ last ∷ []
    go true as_put as_next = as_put
    go false as_put as_next = ap (λ (ps : List Put). put ∷ ps) as_next

filter-new : (taken : List Put) (last : Put) (puts : List Put) → Rising place_of puts → Has puts last
    → AllBefore taken last
    → filter (is_among (taken ++ last ∷ [])) puts ≡ filter (is_among taken) puts ++ last ∷ []
filter-new taken last [] rising is below = absurd is
filter-new taken last (put ∷ puts) rising (inl same) below =
    let here = ap place_of same in
    let before : is_among taken put ≡ false =
    among-not taken put (λ one has at. let under = below one has in omega (arith, under, here, at)) in
    let test : (last.place == put.place) ≡ true = grind (arith, nat_tests) in
    let now : is_among (taken ++ last ∷ []) put ≡ true =
    among-more taken last put ∙ ap (λ (b : Bool). if b then true else last.place == put.place) before ∙ test in
    let none_before : filter (is_among taken) puts ≡ [] =
    filter-none (is_among taken) puts (λ p later. among-not taken p (λ one has at.
    let under = below one has in let over = rising.0 p later in omega (arith, under, over, here, at))) in
    let none_now : filter (is_among (taken ++ last ∷ [])) puts ≡ [] =
    filter-none (is_among (taken ++ last ∷ [])) puts (λ p later.
    among-not (taken ++ last ∷ []) p (λ one has at.
    let up_to = up-to one (has-either taken (last ∷ []) one has) in
    let over = rising.0 p later in omega (arith, up_to, over, here, at))) in
    ap (λ (b : Bool). cond b (put ∷ filter (is_among (taken ++ last ∷ [])) puts) (filter (is_among (taken ++ last ∷ []))
    puts)) now
    ∙ ap (λ (ps : List Put). put ∷ ps) none_now
    ∙ ap (λ (p : Put). p ∷ []) (sym same)
    ∙ sym (ap (λ (b : Bool). cond b (put ∷ filter (is_among taken) puts) (filter (is_among taken) puts) ++ last ∷ [])
    before
    ∙ ap (λ (ps : List Put). ps ++ last ∷ []) none_before)
  where
    up-to : (one : Put) → Has taken one ⊎ Has (last ∷ []) one → one.place ≤ last.place
    up-to one (inl has) = let under = below one has in omega (arith, under)
    up-to one (inr (inl is)) = let at = ap place_of is in omega (arith, at)
    up-to one (inr (inr is)) = absurd is
filter-new taken last (put ∷ puts) rising (inr has) below =
    let under = rising.0 last has in
    let test : (last.place == put.place) ≡ false = grind (arith, nat_tests) in
    ap
    (λ (b : Bool). cond b (put ∷ filter (is_among (taken ++ last ∷ [])) puts)
    (filter (is_among (taken ++ last ∷ [])) puts))
    (among-more taken last put ∙ ap (λ (b : Bool). if is_among taken put then true else b) test)
    ∙ go (is_among taken put) (filter-new taken last puts rising.1 has below)
  where
    now : List Put
    now = filter (is_among (taken ++ last ∷ [])) puts

    before : List Put
    before = filter (is_among taken) puts

    go : (test : Bool) → now ≡ before ++ last ∷ []
        → cond (if test then true else false) (put ∷ now) now ≡ cond test (put ∷ before) before ++ last ∷ []
    go true later = ap (λ (ps : List Put). put ∷ ps) later
    go false later = later

-- one more of a place that was taken is no other member
among-again : (taken : List Put) (one last put : Put) → Has taken one → one.place ≡ last.place
    → is_among (taken ++ last ∷ []) put ≡ is_among taken put
among-again taken one last put has at =
    among-more taken last put ∙ go (is_among taken put) refl (last.place == put.place) refl
  where
    go : (among : Bool) → is_among taken put ≡ among → (test : Bool) → (last.place == put.place) ≡ test
        → (if among then true else test) ≡ among
    go true is test equal = refl
    go false is false equal = refl
    go false is true equal =
        let same : one.place ≡ put.place = grind (arith, nat_tests) in
        sym (among-at taken one put has same) ∙ is

-- what is taken, folded, are the puts that were taken, in their order
pub fold-more : (taken : List Put) (last : Put) (puts : List Put) → Rising place_of puts → Has puts last
    → NeverFalls taken → AllUpTo taken last → folded taken ≡ filter (is_among taken) puts
    → folded (taken ++ last ∷ []) ≡ filter (is_among (taken ++ last ∷ [])) puts
fold-more [] last puts rising has falls up_to is =
    ap (λ (ps : List Put). ps ++ last ∷ []) is
    ∙ sym (filter-new [] last puts rising has (λ one none. absurd none))
fold-more (put ∷ before) last puts rising has falls up_to is = go (is_among (put ∷ before) last) refl
  where
    taken : List Put
    taken = put ∷ before

    go : (found : Bool) → is_among taken last ≡ found
        → folded (taken ++ last ∷ []) ≡ filter (is_among (taken ++ last ∷ [])) puts
    go true found =
        let it = among-member taken last found in
        fold-same put before last falls up_to it.0 it.1 it.2 ∙ is
        ∙ sym (filter-alike (is_among (taken ++ last ∷ [])) (is_among taken) puts
        (λ p here. among-again taken it.0 last p it.1 it.2))
    go false new =
        let below : AllBefore taken last = λ p here. under p here (up_to p here) in
        fold-new put before last below ∙ ap (λ (ps : List Put). ps ++ last ∷ []) is
        ∙ sym (filter-new taken last puts rising has below)
      where
        under : (p : Put) → Has taken p → p.place ≤ last.place → p.place < last.place
        under p here at_most = by (p.place == last.place) refl
          where
            by : (test : Bool) → (p.place == last.place) ≡ test → p.place < last.place
            by true equal =
                let at : p.place ≡ last.place = grind (arith, nat_tests) in
                let found : is_among taken last ≡ true = among-at taken p last here at in
                absurd (never (sym found ∙ new))
              where
                never : true ≡ false → ⊥
                never is = cc
            by false differs = let apart : p.place ≢ last.place = grind (arith, nat_tests) in
                omega (arith, at_most, apart)
