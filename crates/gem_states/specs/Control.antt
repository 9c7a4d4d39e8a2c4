-- The control state model, as its table.
use Rattle.std.specs.Prelude.{◌≡◌, ◌≢◌, Bool, true, false, List, fold, if◌then◌else◌}
use Rattle.gem_states.specs.declared.control.ControlIn.{ControlIn}
use Rattle.gem_states.specs.declared.control.ControlIn.TheVariants.{Online, Offline, ToLocal, ToRemote, AttemptDone, AttemptFailed, RequestOffline, RequestOnline}
use Rattle.gem_states.specs.declared.control.ControlOut.{ControlOut}
use Rattle.gem_states.specs.declared.control.ControlOut.TheVariants.{Nothing, SendAttempt, Ack, Abort}
use Rattle.gem_states.specs.declared.control.ControlState.{ControlState}
use Rattle.gem_states.specs.declared.control.ControlState.TheVariants.{EquipmentOffline, Attempt, HostOffline, Local, Remote}

-- the state, and whether the operator's switch stands at local (SEMI E30, control state model)
pub record ControlView : Type 0 where
  pub state : ControlState
  pub is_local : Bool

-- on-line, the state is the switch's (SEMI E30, ON-LINE)
pub record IsControl (control : ControlView) : Type 0 where
  pub local : control.state ≡ Local → control.is_local ≡ true
  pub remote : control.state ≡ Remote → control.is_local ≡ false

-- neither LOCAL nor REMOTE (SEMI E30, OFF-LINE)
pub record IsOffline (state : ControlState) : Type 0 where
  pub local : state ≢ Local
  pub remote : state ≢ Remote

-- the next state, and what is to be sent
pub record ControlOutcome : Type 0 where
  pub next : ControlView
  pub output : ControlOut

-- the switch stands at local where the plan's state is LOCAL (this profile)
abbrev pub is_switch_local : ControlState → Bool
is_switch_local Local = true
is_switch_local _ = false

-- the state as planned
abbrev pub new_control : ControlState → ControlView
new_control state = record { state = state; is_local = is_switch_local state }

-- on-line by the switch (SEMI E30, ON-LINE)
abbrev pub online_state : Bool → ControlState
online_state is_local = if is_local then Local else Remote

-- another state, and an output; the switch stays
abbrev pub goes_to : ControlState → ControlOut → ControlView → ControlOutcome
goes_to state output control = record { next = record control { state = state }; output = output }

abbrev pub goes_online : ControlOut → ControlView → ControlOutcome
goes_online output control = goes_to (online_state control.is_local) output control

-- the state stays
abbrev pub stays_with : ControlOut → ControlView → ControlOutcome
stays_with output control = record { next = control; output = output }

-- off-line the switch alone is set (this profile)
abbrev pub switches : Bool → ControlView → ControlOutcome
switches is_local control = stays_with Nothing (record control { is_local = is_local })

-- on-line the state goes with the switch (SEMI E30, ON-LINE)
abbrev pub switches_online : Bool → ControlOutcome
switches_online is_local = record {
  next = record { state = online_state is_local; is_local = is_local };
  output = Nothing;
}

-- what follows on-line: S1F15 is acknowledged with 0, S1F17 with 2, already on-line (SEMI E5, OFLACK, ONLACK)
abbrev pub online_row : ControlIn → ControlView → ControlOutcome
online_row Offline control = goes_to EquipmentOffline Nothing control
online_row ToLocal control = switches_online true
online_row ToRemote control = switches_online false
online_row RequestOffline control = goes_to HostOffline (Ack 0) control
online_row RequestOnline control = stays_with (Ack 2) control
online_row _ control = stays_with Nothing control

-- the table: state, input, and what follows. What has no row of its own changes nothing. ATTEMPT ON-LINE is left by
-- the end of its attempt alone, and S1F17 is aborted there and in EQUIPMENT OFF-LINE (SEMI E30, control state model)
abbrev pub control_row : ControlState → ControlIn → ControlView → ControlOutcome
control_row EquipmentOffline (Online communicating) control =
    if communicating then goes_to Attempt SendAttempt control else stays_with Nothing control
control_row EquipmentOffline ToLocal control = switches true control
control_row EquipmentOffline ToRemote control = switches false control
control_row EquipmentOffline RequestOnline control = stays_with Abort control
control_row EquipmentOffline _ control = stays_with Nothing control
control_row Attempt ToLocal control = switches true control
control_row Attempt ToRemote control = switches false control
control_row Attempt AttemptDone control = goes_online Nothing control
control_row Attempt AttemptFailed control = goes_to EquipmentOffline Nothing control
control_row Attempt RequestOnline control = stays_with Abort control
control_row Attempt _ control = stays_with Nothing control
control_row HostOffline Offline control = goes_to EquipmentOffline Nothing control
control_row HostOffline ToLocal control = switches true control
control_row HostOffline ToRemote control = switches false control
control_row HostOffline RequestOnline control = goes_online (Ack 0) control
control_row HostOffline _ control = stays_with Nothing control
control_row Local input control = online_row input control
control_row Remote input control = online_row input control

abbrev pub control_step : ControlView → ControlIn → ControlOutcome
control_step control input = control_row control.state input control

abbrev pub control_next : ControlView → ControlIn → ControlView
control_next control input = (control_step control input).next

-- the state after these inputs, the oldest first, from the planned state on (SEMI E30, control state model)
abbrev pub control_after : ControlState → List ControlIn → ControlView
control_after planned past = fold control_next (new_control planned) past
