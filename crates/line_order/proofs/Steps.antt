-- Each deed keeps what holds of a line.
use Rattle.std.specs.Prelude.{◌≡◌, ℕ, ◌*◌, List, [], ◌∷◌, ◌++◌, length, map, Option, None, refl}
use Rattle.std.proofs.Common.{sym, ap, ◌∙◌, subst, arith}
use Rattle.std.proofs.lemmas.List.Elements.{All-nil}
use Rattle.block_codec.specs.Block.{BlockView}
use Rattle.gl_base.specs.declared.side.Side.{Side}
use Rattle.gl_base.specs.declared.side.Side.TheVariants.{Equipment, Host}
use Rattle.line_end.specs.declared.plan.Times.{Times}
use Rattle.line_end.specs.Laws.{IsOwn}
use Rattle.line_end.specs.Plan.{TimesFit}
use Rattle.line_end.specs.Runs.{CanCall, taken_by}
use Rattle.line_end.specs.State.{LineState}
use Rattle.line_end.specs.Step.{LineCall, Outcome, line_step}
use Rattle.line_end.specs.Step.LineCall.{Take}
use Rattle.line_end.proofs.Kept.{kept, kept-new}
use Rattle.line_end.proofs.Small.{step_facts}
use Rattle.line_order.specs.Acts.{Act, arrived_after, CanAct, Deed, GivesBlock, IsRun, act_here, called, changed, frames_after, handed, line_after, line_after_deed, number_after, power_lost, received, with_way, without_first}
use Rattle.line_order.specs.Acts.Act.{Hand, Lose, Change, Add, Call, PowerLoss}
use Rattle.line_order.specs.Characters.{Character, noise}
use Rattle.line_order.specs.Laws.{BlocksArriveInOrder}
use Rattle.line_order.specs.Line.{Arrival, Line, Station, View, WrittenFrame, last_of, whole_frame, new_line, new_station, seen_from}
use Rattle.line_order.proofs.Calls.{Gathers, gathers, last-none}
use Rattle.line_order.proofs.Flows.{Flows, flows-changed, flows-least, flows-noise, flows-rest, flows-wider}
use Rattle.line_order.proofs.Given.{contains-none}
use Rattle.line_order.proofs.Receiving.{IsKept, IsReceived, kept-bytes, received-call}
use Rattle.line_order.proofs.Sending.{flowing-wrote, hearing-call, hearing-frames, number-rises, sending-call, sending-later, sending-wrote}
use Rattle.line_order.proofs.Sound.{IsDirection, IsFlowing, IsSending, IsSound, bytes_of}

-- a call of the end here
pub called-sound :
    (taken : List Character) (call : LineCall) (view : View) → bytes_of taken ≡ taken_by call
    → CanCall view.here.state call → GivesBlock call → IsSound taken view → IsSound [] (called taken call view)
called-sound taken call view are can gives is = record {
  out = record {
    sending =
        sending-call s call view.here.given (frames_after view.written view.here.given o.written view.here.frames) later
        gives (sending-wrote s.held view.here.given view.here.frames view.written o.written facts_written is.out.sending);
    flowing =
        flowing-wrote s.held view.here.given view.here.frames view.written o.written view.there.gathered
        view.here.under_way view.there.arrived view.lost facts_written is.out.sending is.out.flowing;
    hearing =
        hearing-call call (frames_after view.written view.here.given o.written view.here.frames) view.here.given
        view.there.arrived
        (hearing-frames view.here.frames view.here.given view.there.arrived view.written o.written is.out.hearing);
  };
  back = record {
    sending =
        sending-later view.there.state.held view.there.given view.there.frames view.written later
        (number-rises view.written o.written) is.back.sending;
    flowing = both.0;
    hearing = both.1;
  };
  here_takes = record { is_state = kept s call is.here_takes.is_state can; bytes = keeps.1 };
  there_takes = is.there_takes;
}
  where
    s : LineState
    s = view.here.state

    o : Outcome
    o = line_step view.here.state call

    later : ℕ
    later = number_after view.written (line_step view.here.state call).written

    facts_written : IsOwn view.here.state.held (line_step view.here.state call).written
    facts_written = (step_facts view.here.state call).written

    new : List ℕ
    new = (line_step view.here.state call).next.gathered

    gathers_bytes : Gathers (bytes_of view.here.gathered) (bytes_of taken) new
    gathers_bytes =
        subst (λ (xs : List ℕ). Gathers (bytes_of view.here.gathered) xs new) (sym are)
        (subst (λ (xs : List ℕ). Gathers xs (taken_by call) new) (sym is.here_takes.bytes)
        (gathers view.here.state call is.here_takes.is_state))

    kept_are : List Character
    kept_are = last_of (length (line_step view.here.state call).next.gathered) (received view.here taken)

    keeps : IsKept view.here.gathered taken kept_are × (bytes_of kept_are ≡ new)
    keeps = kept-bytes view.here.gathered taken new gathers_bytes

    empties : new ≡ [] → kept_are ≡ []
    empties none =
        ap (λ (bytes : List ℕ). last_of (length bytes) (received view.here taken)) none
        ∙ last-none (received view.here taken)

    both : IsReceived view later kept_are
        (arrived_after view.lost (line_step view.here.state call).event
        (whole_frame (received view.here taken) view.there.frames) view.here.arrived)
    both = received-call taken call view later kept_are (number-rises view.written _) are keeps.0 empties is

-- other characters on their way
pub way-sound :
    (taken rest : List Character) (view : View)
    → IsFlowing view.here.gathered (taken ++ rest) view.here.arrived view.written view.lost
    → IsSound [] view → IsSound taken (with_way rest view)
way-sound taken rest view flowing is = record {
  out = record { sending = is.out.sending; flowing = is.out.flowing; hearing = is.out.hearing };
  back = record { sending = is.back.sending; flowing = flowing; hearing = is.back.hearing };
  here_takes = is.here_takes;
  there_takes = record { is_state = is.there_takes.is_state; bytes = is.there_takes.bytes };
}

pub flowing-way :
    (gathered way other : List Character) (arrived : List Arrival) (written lost : ℕ)
    → ((low high : ℕ) → Flows way low high → Flows other low high) → IsFlowing gathered way arrived written lost
    → IsFlowing gathered other arrived written lost
flowing-way gathered way other arrived written lost follows is = record {
  low = is.low;
  mid = is.mid;
  before = is.before;
  front = is.front;
  back = follows is.mid (300 * written) is.back;
  since = is.since;
}

pub flows-without_first :
    (xs : List Character) (low high : ℕ) → Flows xs low high → Flows (without_first xs) low high
flows-without_first [] low high flows = flows
flows-without_first (x ∷ xs) low high flows = flows-rest x xs low high flows

-- the next character is handed over
pub handed-sound : (now : ℕ) (view : View) → IsSound [] view → IsSound [] (handed now view.there.under_way view)
handed-sound now view is = go view.there.under_way refl
  where
    go : (way : List Character) → view.there.under_way ≡ way → IsSound [] (handed now way view)
    go [] none = is
    go (c ∷ rest) at =
        let flowing : IsFlowing view.here.gathered (c ∷ rest) view.here.arrived view.written view.lost =
        subst (λ (xs : List Character). IsFlowing view.here.gathered xs view.here.arrived view.written view.lost) at
        is.back.flowing
        in
        called-sound (c ∷ []) (Take c.byte now) (with_way rest view) refl tt tt (way-sound (c ∷ []) rest view flowing is)

-- a character that the layer above gives is noise
pub noise-bytes : (bytes : List ℕ) → bytes_of (map noise bytes) ≡ bytes
noise-bytes [] = refl
noise-bytes (byte ∷ bytes) = ap (λ (rest : List ℕ). byte ∷ rest) (noise-bytes bytes)

pub call-sound :
    (call : LineCall) (view : View) → CanCall view.here.state call → GivesBlock call → IsSound [] view
    → IsSound [] (called (map noise (taken_by call)) call view)
call-sound call view can gives is =
    called-sound (map noise (taken_by call)) call view (noise-bytes (taken_by call)) can gives (record {
      out = is.out;
      back = record {
        sending = is.back.sending;
        flowing =
            flowing-way view.here.gathered view.there.under_way (map noise (taken_by call) ++ view.there.under_way)
            view.here.arrived view.written view.lost (flows-noise (taken_by call) view.there.under_way) is.back.flowing;
        hearing = is.back.hearing;
      };
      here_takes = is.here_takes;
      there_takes = is.there_takes;
    })

-- an end without power sends nothing that was given before
pub sending-new :
    (held : Option BlockView) (given : List BlockView) (frames : List WrittenFrame) (written : ℕ)
    → IsSending held given frames written → IsSending None given frames written
sending-new held given frames written is = record { last = λ block holds. cc; own = is.own; rises = is.rises }

-- with an empty line all frames are behind
pub flowing-empty :
    (gathered way : List Character) (arrived : List Arrival) (written lost : ℕ) → IsFlowing gathered way arrived written lost
    → IsFlowing gathered [] arrived written written × IsFlowing [] [] arrived written written
flowing-empty gathered way arrived written lost is =
    let most = flows-least gathered is.low is.mid is.front in
    let more = flows-least way is.mid (300 * written) is.back in (
      record {
        low = is.low;
        mid = 300 * written;
        before = is.before;
        front = flows-wider gathered is.low is.mid is.low (300 * written) (omega arith) more is.front;
        back = omega arith;
        since = omega arith;
      },
      record {
        low = is.low;
        mid = 300 * written;
        before = is.before;
        front = omega (arith, most, more);
        back = omega arith;
        since = omega arith;
      },
    )

pub power-sound : (view : View) → IsSound [] view → IsSound [] (power_lost view)
power-sound view is = record {
  out = record {
    sending = sending-new view.here.state.held view.here.given view.here.frames view.written is.out.sending;
    flowing =
        (flowing-empty view.there.gathered view.here.under_way view.there.arrived view.written view.lost is.out.flowing).0;
    hearing = is.out.hearing;
  };
  back = record {
    sending = is.back.sending;
    flowing =
        (flowing-empty view.here.gathered view.there.under_way view.here.arrived view.written view.lost is.back.flowing).1;
    hearing = is.back.hearing;
  };
  here_takes = record {
    is_state = kept-new view.here.state.side view.here.state.times is.here_takes.is_state.times;
    bytes = refl;
  };
  there_takes = record { is_state = is.there_takes.is_state; bytes = is.there_takes.bytes };
}

pub act-sound : (act : Act) (view : View) → CanAct view.here.state act → IsSound [] view → IsSound [] (act_here act view)
act-sound (Hand now) view can is = handed-sound now view is
act-sound Lose view can is =
    way-sound [] (without_first view.there.under_way) view
    (flowing-way view.here.gathered view.there.under_way (without_first view.there.under_way) view.here.arrived
    view.written view.lost (flows-without_first view.there.under_way) is.back.flowing) is
act-sound (Change place byte) view can is =
    way-sound [] (changed place byte view.there.under_way) view
    (flowing-way view.here.gathered view.there.under_way (changed place byte view.there.under_way) view.here.arrived
    view.written view.lost (flows-changed place byte view.there.under_way) is.back.flowing) is
act-sound (Add byte) view can is =
    way-sound [] (noise byte ∷ view.there.under_way) view
    (flowing-way view.here.gathered view.there.under_way (noise byte ∷ view.there.under_way) view.here.arrived
    view.written view.lost (λ low high flows. flows) is.back.flowing) is
act-sound (Call call) view can is = call-sound call view can.0 can.1 is
act-sound PowerLoss view can is = power-sound view is

-- the line as the other end sees it
pub turned :
    (here there : Station) (written lost : ℕ)
    → IsSound [] (record { here = here; there = there; written = written; lost = lost })
    → IsSound [] (record { here = there; there = here; written = written; lost = lost })
turned here there written lost is =
    record { out = is.back; back = is.out; here_takes = is.there_takes; there_takes = is.here_takes }

pub deed-sound :
    (side : Side) (act : Act) (line : Line) → CanAct (seen_from side line).here.state act
    → IsSound [] (seen_from Equipment line)
    → IsSound [] (seen_from Equipment (line_after_deed line (record { side = side; act = act })))
deed-sound Equipment act line can is = act-sound act (seen_from Equipment line) can is
deed-sound Host act line can is =
    let there = turned line.equipment line.host line.written line.lost is in
    let after = act_here act (seen_from Host line) in
    turned after.here after.there after.written after.lost (act-sound act (seen_from Host line) can there)

-- a new end, as the sender and as the receiver of a new one
pub direction-new :
    (side other : Side) (times others : Times)
    → IsDirection (new_station side times) (new_station other others) [] 0 0
direction-new side other times others = record {
  sending = record {
    last = λ block holds. cc;
    own = λ f member. absurd (contains-none f member);
    rises = λ f g member. absurd (contains-none f member);
  };
  flowing = record {
    low = 0;
    mid = 0;
    before = λ a member. absurd (contains-none a member);
    front = omega arith;
    back = omega arith;
    since = omega arith;
  };
  hearing = record {
    own = λ a member. absurd (contains-none a member);
    in_order = record { order = λ i j d less within. absurd (omega arith); blocks = All-nil _ };
  };
}

pub run-sound :
    (equipment host : Times) (deeds : List Deed) → TimesFit equipment → TimesFit host
    → IsRun (new_line equipment host) deeds → IsSound [] (seen_from Equipment (line_after (new_line equipment host) deeds))
run-sound equipment host [] fits other run = record {
  out = direction-new Equipment Host equipment host;
  back = direction-new Host Equipment host equipment;
  here_takes = record { is_state = kept-new Equipment equipment fits; bytes = refl };
  there_takes = record { is_state = kept-new Host host other; bytes = refl };
}
run-sound equipment host (deed ∷ before) fits other run =
    deed-sound deed.side deed.act (line_after (new_line equipment host) before) run.0
    (run-sound equipment host before fits other run.1)

-- the blocks of both directions arrive in order
pub arrive_in_order : BlocksArriveInOrder
arrive_in_order equipment host deeds fits other run =
    let sound = run-sound equipment host deeds fits other run in
    record { to_host = sound.out.hearing.in_order; to_equipment = sound.back.hearing.in_order }
