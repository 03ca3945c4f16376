-- What can be asked of an end.
use Rattle.std.specs.Prelude.{ℕ, ◌+◌, ◌*◌, ◌%◌, Bool, true, false, cond, ◌&&◌, Some, None, Option, nat_le, nat_lt}
use Rattle.bringup.specs.declared.signal.Signal.TheVariants.{Cominit, Comsas}
use Rattle.bringup.specs.declared.end.End.{End}
use Rattle.bringup.specs.declared.rate.Rate.{Rate}
use Rattle.bringup.specs.declared.end.Window.{Window}
use Rattle.bringup.specs.declared.end.Phase.{Phase}
use Rattle.bringup.specs.declared.end.Phase.TheVariants as phase
use Rattle.bringup.specs.declared.end.Activity.{Activity}
use Rattle.bringup.specs.declared.end.Activity.TheVariants.{Idle, Burst, Align0, Align1}
use Rattle.bringup.specs.declared.end.Outcome.{Outcome}
use Rattle.bringup.specs.declared.end.Outcome.TheVariants.{Pending, Ready, Failed}
use Rattle.bringup.specs.Signals.{idle_of, burst}
use Rattle.bringup.specs.Rates.{supports, rate_number}

-- Whether a signal of such idles is in a burst at its tick t: six times an idle and a burst, then idle.
abbrev pub in_burst : ℕ → ℕ → Bool
in_burst idle t = nat_lt t (6 * (idle + burst)) && nat_le idle (t % (idle + burst))

abbrev pub sending : Bool → Activity
sending true = Burst
sending false = Idle

-- In a window at a supported rate: 960 ticks idle, then ALIGN(0), and ALIGN(1) once a lock has counted.
abbrev pub sending_window : Option Window → End → Activity
sending_window None e = Idle
sending_window (Some w) e =
    cond (supports e.rates w.rate && nat_le 960 e.elapsed)
    (cond w.locked Align1 Align0) Idle

abbrev pub activity_in : Phase → End → Activity
activity_in phase.Unstarted e = Idle
activity_in phase.SendingCominit e = sending (in_burst (idle_of Cominit) e.elapsed)
activity_in phase.Awaiting e = Idle
activity_in phase.SendingComsas e = sending (in_burst (idle_of Comsas) e.elapsed)
activity_in phase.Falling e = Idle
activity_in phase.Negotiating e = sending_window e.window e
activity_in phase.Ready e = Idle
activity_in phase.Failed e = Idle

-- What an end sends now.
abbrev pub activity : End → Activity
activity e = activity_in e.phase e

-- The rate of the latest window, none before any; and its number, 1 to 4, or 0.
abbrev pub latest_rate : Option Window → Option Rate
latest_rate None = None
latest_rate (Some w) = Some w.rate

abbrev pub told_rate : Option Window → ℕ
told_rate None = 0
told_rate (Some w) = rate_number w.rate

abbrev pub outcome_in : Phase → Outcome
outcome_in phase.Unstarted = Pending
outcome_in phase.SendingCominit = Pending
outcome_in phase.Awaiting = Pending
outcome_in phase.SendingComsas = Pending
outcome_in phase.Falling = Pending
outcome_in phase.Negotiating = Pending
outcome_in phase.Ready = Ready
outcome_in phase.Failed = Failed
