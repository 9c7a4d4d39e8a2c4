-- What a plan file means fits.
use Rattle.std.proofs.Common.{◌≡◌, refl, subst, ℕ, ℤ, pos, negsuc, ◌≤◌, ◌<◌, Bool, true, false, cond, List, length, Option, Some, None, Ok, Err, nat_le, arith, codes}
use Rattle.std.specs.Prelude.{All}
use Rattle.std.specs.List.{list_all}
use Rattle.std.proofs.lemmas.Bool.{and_parts}
use Rattle.std.proofs.lemmas.Bool.Decides.{nat_tests}
use Rattle.std.proofs.lemmas.List.Sums.{AllPass-from_list_all}
use Rattle.gem_vars.specs.Settings.{is_within}
use Rattle.line_end.specs.declared.plan.LinePlan.{LinePlan}
use Rattle.line_end.specs.Plan.{LinePlanFits, TimesFit}
use Rattle.toml.specs.Data.{Data, as_integer}
use Rattle.gem_config.specs.declared.fault.ConfigWhat.{ConfigWhat}
use Rattle.gem_config.specs.declared.fault.ConfigWhat.TheVariants.{Range}
use Rattle.gem_config.specs.Reading.{FoundView, Read, SectionView, at, refused, ◌>>=◌}
use Rattle.gem_config.specs.Sections.{line_of}
use Rattle.gem_config.specs.Values.{in_range, is_ascii, is_short, needed, needed_in, number, of_kind, optional, optional_in, short_text, text}

-- what two steps give, each gives
pub opened : {A B : Type 0} (r : Read A) (f : A → Read B) (y : B) → (r >>= f) ≡ Ok y
    → (x : A) × (r ≡ Ok x) × (f x ≡ Ok y)
opened (Ok x) f y e = (x, refl, e)
opened (Err fault) f y e = absurd cc

pub same_Ok : {A : Type 0} (x y : A) → ◌≡◌ {A = Read A} (Ok x) (Ok y) → x ≡ y
same_Ok x y e = cc

-- a test that was passed
pub passed : {A : Type 0} (b : Bool) (x y : A) (key : List ℕ) (what : ConfigWhat)
    → cond b (Ok x) (refused key what) ≡ Ok y → (b ≡ true) × (x ≡ y)
passed true x y key what e = (refl, cc)
passed false x y key what e = absurd cc

pub between : (least most n : ℕ) → is_within least most n ≡ true → (least ≤ n) × (n ≤ most)
between least most n h =
    let parts = and_parts (nat_le least n) (nat_le n most) h in
    let low = parts.0 in
    let high = parts.1 in
    (grind (arith, nat_tests), grind (arith, nat_tests))

-- ---- numbers

in_range_within : (least most : ℕ) (key : List ℕ) (z : ℤ) (n : ℕ) → in_range least most key z ≡ Ok n
    → is_within least most n ≡ true
in_range_within least most key (pos m) n e =
    let p = passed (is_within least most m) m n key Range e in
    subst (λ x. is_within least most x ≡ true) p.1 p.0
in_range_within least most key (negsuc m) n e = absurd cc

pub number_within : (least most : ℕ) (key : List ℕ) (d : Data) (n : ℕ) → number least most key d ≡ Ok n
    → is_within least most n ≡ true
number_within least most key d n e =
    let o = opened (of_kind key (as_integer d)) (in_range least most key) n e in
    in_range_within least most key o.0 n o.2

pub needed_within : (least most : ℕ) (key : List ℕ) (held : Option Data) (n : ℕ)
    → needed_in (number least most) key held ≡ Ok n → is_within least most n ≡ true
needed_within least most key None n e = absurd cc
needed_within least most key (Some d) n e = number_within least most key d n e

optional_within : (default least most : ℕ) → is_within least most default ≡ true
    → (key : List ℕ) (held : Option Data) (n : ℕ) → optional_in default (number least most) key held ≡ Ok n
    → is_within least most n ≡ true
optional_within default least most by_default key None n e =
    subst (λ x. is_within least most x ≡ true) (same_Ok default n e) by_default
optional_within default least most by_default key (Some d) n e = number_within least most key d n e

-- a number that may be missing, and what follows it
pub number_step : {B : Type 0} (default least most : ℕ) → is_within least most default ≡ true → (found : FoundView)
    (f : ℕ → Read B) (y : B) → (optional default (number least most) found >>= f) ≡ Ok y
    → (n : ℕ) × (is_within least most n ≡ true) × (f n ≡ Ok y)
number_step default least most by_default found f y e =
    let o = opened (optional default (number least most) found) f y e in
    (o.0, optional_within default least most by_default found.key found.held o.0 o.1, o.2)

-- a number that must be there, and what follows it
pub needed_step : {B : Type 0} (least most : ℕ) (found : FoundView) (f : ℕ → Read B) (y : B)
    → (needed (number least most) found >>= f) ≡ Ok y → (n : ℕ) × (is_within least most n ≡ true) × (f n ≡ Ok y)
needed_step least most found f y e =
    let o = opened (needed (number least most) found) f y e in
    (o.0, needed_within least most found.key found.held o.0 o.1, o.2)

-- ---- texts

short_within : (longest : ℕ) (key : List ℕ) (d : Data) (s : List ℕ) → short_text longest key d ≡ Ok s
    → is_short longest s ≡ true
short_within longest key d s e =
    let o = opened (text key d) _ s e in
    let p = passed (is_short longest o.0) o.0 s key Range o.2 in
    subst (λ x. is_short longest x ≡ true) p.1 p.0

optional_short : (longest : ℕ) (default : List ℕ) → is_short longest default ≡ true
    → (key : List ℕ) (held : Option Data) (s : List ℕ) → optional_in default (short_text longest) key held ≡ Ok s
    → is_short longest s ≡ true
optional_short longest default by_default key None s e =
    subst (λ x. is_short longest x ≡ true) (same_Ok default s e) by_default
optional_short longest default by_default key (Some d) s e = short_within longest key d s e

-- a short text that may be missing, and what follows it
pub short_step : {B : Type 0} (longest : ℕ) (default : List ℕ) → is_short longest default ≡ true → (found : FoundView)
    (f : List ℕ → Read B) (y : B) → (optional default (short_text longest) found >>= f) ≡ Ok y
    → (s : List ℕ) × (is_short longest s ≡ true) × (f s ≡ Ok y)
short_step longest default by_default found f y e =
    let o = opened (optional default (short_text longest) found) f y e in
    (o.0, optional_short longest default by_default found.key found.held o.0 o.1, o.2)

-- a text that is short, in both its parts
pub short_parts : (longest : ℕ) (s : List ℕ) → is_short longest s ≡ true → (length s ≤ longest) × All (λ c. c < 128) s
short_parts longest s h =
    let parts = and_parts (nat_le (length s) longest) (list_all is_ascii s) h in
    let short = parts.0 in
    let each = AllPass-from_list_all is_ascii s parts.1 in
    (grind (arith, nat_tests), λ k d within. let passes = each k d within in grind (arith, nat_tests))

-- ---- [line]

pub line_fits : (line : SectionView) (plan : LinePlan) → line_of line ≡ Ok plan → LinePlanFits plan
unfolding line_of
line_fits line plan e =
    let device = number_step 0 0 32767 refl (at line (codes "device")) _ plan e in
    let t1 = number_step 500 100 10000 refl (at line (codes "t1")) _ plan device.2 in
    let t2 = number_step 10000 200 25000 refl (at line (codes "t2")) _ plan t1.2 in
    let t3 = number_step 45000 1000 120000 refl (at line (codes "t3")) _ plan t2.2 in
    let t4 = number_step 45000 1000 120000 refl (at line (codes "t4")) _ plan t3.2 in
    let rty = number_step 3 0 31 refl (at line (codes "rty")) _ plan t4.2 in
    let max_body = number_step 1048576 244 7995148 refl (at line (codes "max_body")) _ plan rty.2 in
    let device_in = between 0 32767 device.0 device.1 in
    let t1_in = between 100 10000 t1.0 t1.1 in
    let t2_in = between 200 25000 t2.0 t2.1 in
    let t3_in = between 1000 120000 t3.0 t3.1 in
    let t4_in = between 1000 120000 t4.0 t4.1 in
    let max_in = between 244 7995148 max_body.0 max_body.1 in
    let times : TimesFit (record { t1 = t1.0; t2 = t2.0; rty = rty.0 }) =
    record {
      t1_at_least = t1_in.0;
      t1_at_most = t1_in.1;
      t2_at_least = t2_in.0;
      t2_at_most = t2_in.1;
      rty_at_most = (between 0 31 rty.0 rty.1).1;
    } in
    subst LinePlanFits (same_Ok _ plan max_body.2)
    (record {
      device = omega (arith, device_in.1);
      times = times;
      t3_at_least = t3_in.0;
      t3_at_most = t3_in.1;
      t4_at_least = t4_in.0;
      t4_at_most = t4_in.1;
      max_body_at_least = max_in.0;
      max_body_at_most = max_in.1;
    })
