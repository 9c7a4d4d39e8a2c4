-- Characters given one by one.
use Rattle.std.proofs.Common.{◌≡◌, ◌≢◌, zero, suc, ℕ, ◌+◌, not, ◌&&◌, Bool, true, false, List, [], ◌∷◌, ◌++◌, Option, None, if◌then◌else◌, refl, ap, subst, ◌∙◌, add-one}
use Rattle.gl_base.specs.declared.side.Side.{Side}
use Rattle.gl_base.specs.declared.side.Side.TheVariants.{Equipment, Host}
use Rattle.line_way.specs.declared.character.Character.{Character}
use Rattle.line_way.specs.Ways.{characters_of, is_under_way, next_byte}
use Rattle.message_end.specs.Ends.{Machine}
use Rattle.trace_log.specs.declared.commands.HostCommand.{HostCommand}
use Rattle.trace_log.specs.declared.commands.ToolCommand.{ToolCommand}
use Rattle.end_pair.specs.declared.answers.WorldStep.{WorldStep}
use Rattle.end_pair.specs.declared.answers.WorldStep.TheVariants.{Went}
use Rattle.end_pair.specs.Kept.{Comes}
use Rattle.end_pair.specs.World.{Piece, World, and_more, given, given_next, given_times, settled, settled_times, still, way_to}
use Rattle.end_pair.proofs.Pieces.{Leads, leads_done, leads_on, leads_stop}

abbrev pub IsEmptyTo : {S T : Type 0} → Side → World S T → Type 0
IsEmptyTo side world = is_under_way (characters_of (way_to side world).under_way) ≡ false

abbrev pub IsQuiet : {S T : Type 0} → World S T → Type 0
IsQuiet world = IsEmptyTo Equipment world × IsEmptyTo Host world

pub both_empty : (a b : Bool) → (not a && not b) ≡ true → (a ≡ false) × (b ≡ false)
both_empty true b is = cc
both_empty false true is = cc
both_empty false false is = (refl, refl)

none-next : (cs : List Character) → is_under_way (characters_of cs) ≡ false → next_byte (characters_of cs) ≡ None
none-next [] none = refl
none-next (c ∷ cs) none = cc

-- a piece so many times, or until nothing is left for it
pub record Repeats {S T : Type 0}
    (once : World S T → Piece S T) (times : ℕ → World S T → Piece S T) (Empty : World S T → Type 0) : Type 0 where
  pub over : (world : World S T) → times 0 world ≡ still world
  pub more : (n m : ℕ) (world : World S T) → n ≡ m + 1 → times n world ≡ and_more (once world) (times m)
  pub none : (n : ℕ) (world : World S T) → Empty world → times n world ≡ still world

module _ {V S T : Type 0} (see : V → World S T) (Dark : Side → V → World S T → Type 0)
    {once : World S T → Piece S T} {times : ℕ → World S T → Piece S T} {Empty : World S T → Type 0}
    (is : Repeats once times Empty) where
  pub times_done :
      (n : ℕ) (now : V) (lines : List ℕ) (whole : Piece S T) (old : List ℕ) → Empty (see now)
      → Leads see Dark (times n (see now)) lines whole old → Comes see Dark whole now old lines Went
  times_done n now lines whole old none leads =
      leads_done see Dark now lines whole old
      (subst (λ (p : Piece S T). Leads see Dark p lines whole old) (is.none n (see now) none) leads)

  pub times_over :
      (n : ℕ) (now : V) (lines : List ℕ) (whole : Piece S T) (old : List ℕ) → n ≡ 0
      → Leads see Dark (times n (see now)) lines whole old → Comes see Dark whole now old lines Went
  times_over n now lines whole old over leads =
      leads_done see Dark now lines whole old
      (subst (λ (p : Piece S T). Leads see Dark p lines whole old)
      (ap (λ (k : ℕ). times k (see now)) over ∙ is.over (see now)) leads)

  pub times_on :
      (n m : ℕ) (now after : V) (between lines : List ℕ) (whole : Piece S T) (old : List ℕ) → n ≡ m + 1
      → Comes see Dark (once (see now)) after between lines Went
      → Leads see Dark (times n (see now)) between whole old → Leads see Dark (times m (see after)) lines whole old
  times_on n m now after between lines whole old is_n comes leads =
      leads_on see Dark (once (see now)) (times m) after between lines whole old comes
      (subst (λ (p : Piece S T). Leads see Dark p between whole old) (is.more n m (see now) is_n) leads)

  pub times_stop :
      (n m : ℕ) (now after : V) (between lines : List ℕ) (answer : WorldStep) (whole : Piece S T) (old : List ℕ)
      → n ≡ m + 1 → answer ≢ Went → Comes see Dark (once (see now)) after between lines answer
      → Leads see Dark (times n (see now)) between whole old → Comes see Dark whole after old lines answer
  times_stop n m now after between lines answer whole old is_n stops comes leads =
      leads_stop see Dark (once (see now)) (times m) after between lines answer whole old stops comes
      (subst (λ (p : Piece S T). Leads see Dark p between whole old) (is.more n m (see now) is_n) leads)

-- ---- to one end

module _ {S T : Type 0} (e : Machine S ToolCommand) (h : Machine T HostCommand) where
  given-none : (side : Side) (world : World S T) → IsEmptyTo side world → given e h side world ≡ still world
  given-none side world none =
      ap (λ (next : Option ℕ). given_next e h side next world) (none-next (way_to side world).under_way none)

  times-more : (n m : ℕ) (side : Side) (world : World S T) → n ≡ m + 1
      → given_times e h n side world ≡ and_more (given e h side world) (given_times e h m side)
  times-more n m side world is_n = ap (λ (k : ℕ). given_times e h k side world) (is_n ∙ add-one m)

  times-none : (n : ℕ) (side : Side) (world : World S T) → IsEmptyTo side world
      → given_times e h n side world ≡ still world
  times-none zero side world none = refl
  times-none (suc n) side world none =
      ap (λ (first : Piece S T). and_more first (given_times e h n side)) (given-none side world none)
      ∙ ap (λ (next : Piece S T). record { world = next.world; entries = next.entries ++ []; went = next.went })
      (times-none n side world none)

  pub gives_times : (side : Side) → Repeats (given e h side) (λ n. given_times e h n side) (IsEmptyTo side)
  gives_times side = record {
    over = λ world. refl;
    more = λ n m world is_n. times-more n m side world is_n;
    none = λ n world empty. times-none n side world empty;
  }

  -- ---- to both ends

  settled-none : (world : World S T) → IsEmptyTo Equipment world → IsEmptyTo Host world
      → settled e h world ≡ still world
  settled-none world none empty =
      ap (λ (b : Bool). if b then given e h Equipment world else given e h Host world) none
      ∙ given-none Host world empty

  settles-more : (n m : ℕ) (world : World S T) → n ≡ m + 1
      → settled_times e h n world ≡ and_more (settled e h world) (settled_times e h m)
  unfolding settled_times
  settles-more n m world is_n = ap (λ (k : ℕ). settled_times e h k world) (is_n ∙ add-one m)

  settles-none : (n : ℕ) (world : World S T) → IsEmptyTo Equipment world → IsEmptyTo Host world
      → settled_times e h n world ≡ still world
  unfolding settled_times
  settles-none zero world none empty = refl
  settles-none (suc n) world none empty =
      ap (λ (first : Piece S T). and_more first (settled_times e h n)) (settled-none world none empty)
      ∙ ap (λ (next : Piece S T). record { world = next.world; entries = next.entries ++ []; went = next.went })
      (settles-none n world none empty)

  settles-zero : (world : World S T) → settled_times e h 0 world ≡ still world
  unfolding settled_times
  settles-zero world = refl

  pub settles_times : Repeats (settled e h) (settled_times e h) IsQuiet
  settles_times =
      record { over = settles-zero; more = settles-more; none = λ n world quiet. settles-none n world quiet.0 quiet.1 }
