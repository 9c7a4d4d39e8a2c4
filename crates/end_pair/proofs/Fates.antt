-- What becomes of characters on the line, as moves.
use Rattle.std.proofs.Common.{◌<◌, zero, suc, ℕ, List, ◌∷◌, refl, sym, subst}
use Rattle.gl_base.specs.declared.side.Side.{Side}
use Rattle.gl_base.specs.declared.side.Side.TheVariants.{Equipment, Host}
use Rattle.line_way.specs.Kept.{with_change, with_noise}
use Rattle.message_end.specs.Core.{Step}
use Rattle.message_end.specs.Core.Went.{Goes}
use Rattle.message_end.specs.Doings.{Doing}
use Rattle.message_end.specs.Ends.{KeepsLaw, Machine}
use Rattle.message_end.specs.Log.{log_of}
use Rattle.message_end.specs.Moves.{Kind, LinePlans, Move, line_of_moves, plan_at}
use Rattle.message_end.specs.Moves.Kind.{Added, Changed, Did, Lost, Started}
use Rattle.trace_log.specs.Log.{Entry, Happening}
use Rattle.trace_log.specs.declared.commands.HostCommand.{HostCommand}
use Rattle.trace_log.specs.declared.commands.ToolCommand.{ToolCommand}
use Rattle.end_pair.specs.InSteps.{IsFate}
use Rattle.end_pair.specs.InSteps.AreSteps.{line_changes}
use Rattle.end_pair.specs.World.{Piece, World, added_to, changed_at, lost, lost_from, still, way_to}
use Rattle.end_pair.proofs.ByteWays.{bytes-to, bytes-with, dropped, with-byte}
use Rattle.end_pair.proofs.LineDeeds.{lost-more, lost-none}
use Rattle.end_pair.proofs.HeldSteps as held
use Rattle.end_pair.proofs.Renamed.{like-change, like-lost, like-noise}

module _ {S T : Type 0}
    (did_e : ℕ → List Doing → S → Type 0) (did_h : ℕ → List Doing → T → Type 0)
    (tool : ToolCommand → Type 0) (user : HostCommand → Type 0)
    (first_e : Step S Happening) (first_h : Step T Happening)
    (e : Machine S ToolCommand) (h : Machine T HostCommand) (plans : LinePlans)
    (law_e : KeepsLaw (plan_at Equipment plans) did_e tool (Goes first_e) e)
    (law_h : KeepsLaw (plan_at Host plans) did_h user (Goes first_h) h) where
  abbrev AreMade : List Move → S → T → Type 0
  AreMade = held.AreMade did_e did_h tool user first_e first_h e h plans law_e law_h

  abbrev Holds : World S T → List Move → Type 0
  Holds = held.Holds did_e did_h tool user first_e first_h e h plans law_e law_h

  abbrev Good : Piece S T → List Entry → Type 0
  Good = held.Good did_e did_h tool user first_e first_h e h plans law_e law_h

  abbrev Keeps : (World S T → Piece S T) → Type 0
  Keeps = held.Keeps did_e did_h tool user first_e first_h e h plans law_e law_h

  goes-still : Keeps still
  goes-still = held.goes-still did_e did_h tool user first_e first_h e h plans law_e law_h

  fate-made :
      (side : Side) (kind : Kind) (now : ℕ) (moves : List Move) (s : S) (t : T) → IsFate kind → AreMade moves s t
      → AreMade (record { side = side; moment = now; kind = kind } ∷ moves) s t
  fate-made side (Did doing) now moves s t is made = absurd is
  fate-made side (Started note base) now moves s t is made = absurd is
  fate-made Equipment kind now moves s t is made = record {
    keep = (tt, made.keep);
    timely = (tt, made.timely);
    clean = (refl, made.clean);
    equipment = made.equipment;
    host = made.host;
    steps = line_changes _ moves Equipment now kind refl is made.steps;
  }
  fate-made Host kind now moves s t is made = record {
    keep = (tt, made.keep);
    timely = (tt, made.timely);
    clean = (refl, made.clean);
    equipment = made.equipment;
    host = made.host;
    steps = line_changes _ moves Host now kind refl is made.steps;
  }

  lost-once : (side : Side) (world : World S T) (moves : List Move) → Holds world moves
      → Holds (lost_from 1 side world) (record { side = side; moment = world.moment; kind = Lost } ∷ moves)
  lost-once side world moves holds = record {
    made = fate-made side Lost world.moment moves world.equipment world.host tt holds.made;
    stands = like-lost side world.ways (line_of_moves plans moves) holds.stands;
    bytes =
        bytes-with side (lost 1 (way_to side world)) world.ways
        (dropped 1 (way_to side world).under_way (bytes-to side world.ways holds.bytes)) holds.bytes;
  }

  pub losses-keep : (n : ℕ) (side : Side) → Keeps (λ world. still (lost_from n side world))
  losses-keep zero side world moves holds =
      subst (λ (w : World S T). Good (still w) (log_of moves)) (sym (lost-none side world))
      (goes-still world moves holds)
  losses-keep (suc n) side world moves holds =
      subst (λ (w : World S T). Good (still w) (log_of moves)) (sym (lost-more n side world))
      (losses-keep n side (lost_from 1 side world) _ (lost-once side world moves holds))

  pub change-keeps : (side : Side) (place byte : ℕ) → byte < 256 → Keeps (λ world. still (changed_at side place byte world))
  change-keeps side place byte small world moves holds =
      goes-still (changed_at side place byte world)
      (record { side = side; moment = world.moment; kind = Changed place byte } ∷ moves) (record {
        made = fate-made side (Changed place byte) world.moment moves world.equipment world.host tt holds.made;
        stands = like-change side place byte world.ways (line_of_moves plans moves) holds.stands;
        bytes =
            bytes-with side (with_change place byte (way_to side world)) world.ways
            (with-byte place byte (way_to side world).under_way small (bytes-to side world.ways holds.bytes))
            holds.bytes;
      })

  pub add-keeps : (side : Side) (byte : ℕ) → byte < 256 → Keeps (λ world. still (added_to side byte world))
  add-keeps side byte small world moves holds =
      goes-still (added_to side byte world)
      (record { side = side; moment = world.moment; kind = Added byte } ∷ moves) (record {
        made = fate-made side (Added byte) world.moment moves world.equipment world.host tt holds.made;
        stands = like-noise side byte world.ways (line_of_moves plans moves) holds.stands;
        bytes =
            bytes-with side (with_noise byte (way_to side world)) world.ways
            (small, bytes-to side world.ways holds.bytes) holds.bytes;
      })
