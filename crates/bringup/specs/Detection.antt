-- What an end hears of the other's signals.
use Rattle.std.specs.Prelude.{ℕ, ◌+◌, Bool, true, false, cond, ◌&&◌, Some, None, Option, nat_le, nat_lt}
use Rattle.bringup.specs.declared.signal.Signal.{Signal}
use Rattle.bringup.specs.declared.signal.Signal.TheVariants.{Comwake, Cominit, Comsas}
use Rattle.bringup.specs.declared.detector.Detector.{Detector}

-- The signal that an idle belongs to, by its ticks.
abbrev pub signal_of : ℕ → Option Signal
signal_of idle =
    cond (nat_lt idle 165) None
    (cond (nat_lt idle 525) (Some Comwake)
    (cond (nat_lt idle 1575) (Some Cominit)
    (cond (nat_lt idle 4725) (Some Comsas) None)))

-- An idle after one more tick; past 4,725 it need not be counted.
abbrev pub longer : ℕ → ℕ
longer idle = cond (nat_lt idle 4725) (idle + 1) idle

-- A tick: in a burst nothing changes. COMSAS has fallen when, after it was detected, the idle reaches 4,725.
abbrev pub passed : Detector → Detector
passed d = cond d.burst d
    (record {
      idle = longer d.idle;
      burst = d.burst;
      signal = d.signal;
      alike = d.alike;
      cominit = d.cominit;
      comsas = d.comsas;
      fallen = cond (d.comsas && nat_le 4725 (longer d.idle)) true d.fallen;
    })

-- One more like idle, counted up to four.
abbrev pub more : ℕ → ℕ
more n = cond (nat_lt n 4) (n + 1) n

abbrev pub is_comwake : Option Signal → Bool
is_comwake None = false
is_comwake (Some Comwake) = true
is_comwake (Some Cominit) = false
is_comwake (Some Comsas) = false

abbrev pub is_cominit : Option Signal → Bool
is_cominit None = false
is_cominit (Some Comwake) = false
is_cominit (Some Cominit) = true
is_cominit (Some Comsas) = false

abbrev pub is_comsas : Option Signal → Bool
is_comsas None = false
is_comsas (Some Comwake) = false
is_comsas (Some Cominit) = false
is_comsas (Some Comsas) = true

-- How many like idles stand in a row with one more, after n of the one before; an idle that is no signal's ends the row.
abbrev pub alike_after : Option Signal → Option Signal → ℕ → ℕ
alike_after None before n = 0
alike_after (Some Comwake) before n = cond (is_comwake before) (more n) 1
alike_after (Some Cominit) before n = cond (is_cominit before) (more n) 1
alike_after (Some Comsas) before n = cond (is_comsas before) (more n) 1

-- An idle was closed by a burst; four like idles in a row detect the signal.
abbrev pub closed : Option Signal → ℕ → Detector → Detector
closed signal n d = record {
  idle = d.idle;
  burst = true;
  signal = signal;
  alike = n;
  cominit = cond (is_cominit signal && nat_le 4 n) true d.cominit;
  comsas = cond (is_comsas signal && nat_le 4 n) true d.comsas;
  fallen = d.fallen;
}

-- A burst starts; in a burst that is nothing.
abbrev pub risen : Detector → Detector
risen d = cond d.burst d (closed (signal_of d.idle) (alike_after (signal_of d.idle) d.signal d.alike) d)

-- A burst ends, whether one was heard or not: the idle counts from here.
abbrev pub ceased : Detector → Detector
ceased d = record {
  idle = 0;
  burst = false;
  signal = d.signal;
  alike = d.alike;
  cominit = d.cominit;
  comsas = d.comsas;
  fallen = d.fallen;
}

-- Nothing heard yet.
abbrev pub deaf : Detector
deaf = record { idle = 0; burst = false; signal = None; alike = 0; cominit = false; comsas = false; fallen = false }
