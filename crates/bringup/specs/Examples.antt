-- Worked examples: those of the code, and at the edges which idle is of which signal and which lock is in time.
use Rattle.std.specs.Prelude.{◌≡◌, ℕ, ◌+◌, false, Some, None}
use Rattle.code.specs.Laws as code
use Rattle.bringup.specs.declared.signal.Signal.TheVariants.{Comwake, Cominit, Comsas}
use Rattle.bringup.specs.declared.rate.Rate.TheVariants.{G1}
use Rattle.bringup.specs.declared.end.End.{End}
use Rattle.bringup.specs.declared.end.Phase.TheVariants.{Negotiating}
use Rattle.bringup.specs.declared.end.Standing.TheVariants.{AfterInvalid}
use Rattle.bringup.specs.declared.end.Activity.{Activity}
use Rattle.bringup.specs.declared.end.Activity.TheVariants.{Align0, Align1}
use Rattle.bringup.specs.Detection.{signal_of, deaf}
use Rattle.bringup.specs.Rates.{rate_set}
use Rattle.bringup.specs.Bringup.{noting}
use Rattle.bringup.specs.Asking.{activity}

-- An end with all rates, so many ticks into its first window.
abbrev pub in_first_window : ℕ → End
in_first_window n = record {
  rates = rate_set 7;
  phase = Negotiating;
  elapsed = n;
  detector = deaf;
  window = Some (record { rate = G1; standing = AfterInvalid; locked = false; aligned = false });
}

-- What that end sends when it notes there that it is locked: ALIGN(1) if the lock counts.
abbrev pub sent_after_lock : ℕ → Activity
sent_after_lock n = activity (noting 0 3 (in_first_window n)).end

pub record Examples : Type 0 where
  pub characters : code.Examples
  pub idle_164 : signal_of 164 ≡ None
  pub idle_165 : signal_of 165 ≡ Some Comwake
  pub idle_525 : signal_of 525 ≡ Some Cominit
  pub idle_1575 : signal_of 1575 ≡ Some Comsas
  pub idle_4725 : signal_of 4725 ≡ None
  pub lock_in_time : sent_after_lock (960 + 313425) ≡ Align1
  pub lock_too_late : sent_after_lock (960 + 313426) ≡ Align0
