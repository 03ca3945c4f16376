-- Many ticks at once, while nothing comes due.
use Rattle.std.specs.Prelude.{◌≡◌, ℕ, suc, ◌+◌, ◌-◌, ◌<◌, Bool, false, not, ◌||◌, cond, Some, None, Option, nat_le, nat_lt}
use Rattle.bringup.specs.declared.detector.Detector.{Detector}
use Rattle.bringup.specs.declared.end.End.{End}
use Rattle.bringup.specs.declared.end.Phase.{Phase}
use Rattle.bringup.specs.declared.end.Phase.TheVariants.{Unstarted, SendingCominit, Awaiting, SendingComsas, Falling, Negotiating, Ready, Failed}
use Rattle.bringup.specs.Detection.{passed}
use Rattle.bringup.specs.Bringup.{signalled, settled}

-- n counted up by k, to at most cap.
abbrev pub capped : ℕ → ℕ → ℕ → ℕ
capped cap n k = cond (nat_lt n cap) (cond (nat_le (cap - n) k) cap (n + k)) n

abbrev pub rested : ℕ → Detector → Detector
rested k d = cond d.burst d
    (record {
      idle = capped 4725 d.idle k;
      burst = d.burst;
      signal = d.signal;
      alike = d.alike;
      cominit = d.cominit;
      comsas = d.comsas;
      fallen = d.fallen;
    })

-- For how many ticks COMSAS does not fall; 400,000 stands for as many as can be noted.
abbrev pub detector_calm : Detector → ℕ
detector_calm d = cond (d.burst || (not d.comsas || d.fallen)) 400000 (4724 - d.idle)

-- In so many ticks COMSAS does not fall: each only lengthens the idle.
abbrev pub OnlyRests : ℕ → Detector → Type 0
OnlyRests n d = (k : ℕ) → k < n → passed (rested k d) ≡ rested (suc k) d

-- So many ticks in which nothing comes due.
abbrev pub skipped : ℕ → End → End
skipped k e = record {
  rates = e.rates;
  phase = e.phase;
  elapsed = capped 328640 e.elapsed k;
  detector = rested k e.detector;
  window = e.window;
}

-- For how many ticks the phase brings nothing new.
abbrev pub phase_calm : Phase → End → ℕ
phase_calm Unstarted e = 400000
phase_calm SendingCominit e = 9254 - e.elapsed
phase_calm Awaiting e = cond (signalled e.detector) 0 400000
phase_calm SendingComsas e = 23924 - e.elapsed
phase_calm Falling e = cond e.detector.fallen 0 (cond e.detector.comsas 400000 (32639 - e.elapsed))
phase_calm Negotiating e = 328639 - e.elapsed
phase_calm Ready e = 400000
phase_calm Failed e = 400000

-- How long a phase lasts, if it ends by itself; an end that has detected COMSAS waits for its fall.
abbrev pub timer : Phase → End → Option ℕ
timer Unstarted e = None
timer SendingCominit e = Some 9255
timer Awaiting e = None
timer SendingComsas e = Some 23925
timer Falling e = cond e.detector.comsas None (Some 32640)
timer Negotiating e = Some 328640
timer Ready e = None
timer Failed e = None

abbrev pub has_run_out : Option ℕ → ℕ → Bool
has_run_out None t = false
has_run_out (Some n) t = nat_le n t

-- In so many ticks no transition comes due.
abbrev pub NothingDue : ℕ → End → Type 0
NothingDue n e = (k : ℕ) → k < n → settled e.phase (skipped (suc k) e) ≡ skipped (suc k) e
