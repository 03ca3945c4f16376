-- The signals' times in ticks, and what writing one into memory answers and leaves.
use Rattle.std.specs.Prelude.{ℕ, ◌+◌, ◌*◌, cond, List, [], ◌∷◌, ◌++◌, length, take, drop, Ok, Err, Result, ◌==◌, nat_lt}
use Rattle.code.specs.Refusals.{Refusal, plain}
use Rattle.bringup.specs.declared.signal.Signal.{Signal}
use Rattle.bringup.specs.declared.signal.Signal.TheVariants.{Comwake, Cominit, Comsas}
use Rattle.bringup.specs.declared.signal.SignalRefusal.{SignalRefusal}
use Rattle.bringup.specs.declared.signal.SignalRefusal.TheVariants.{NoSuchSignal, TooFewPlaces}

abbrev pub signal_refusal : SignalRefusal → Refusal
signal_refusal NoSuchSignal = plain 18
signal_refusal TooFewPlaces = plain 19

-- How long a burst lasts.
abbrev pub burst : ℕ
burst = 320

-- How long the idle before each burst lasts.
abbrev pub idle_of : Signal → ℕ
idle_of Comwake = 320
idle_of Cominit = 960
idle_of Comsas = 2880

-- How long the closing idle lasts.
abbrev pub closing_of : Signal → ℕ
closing_of Comwake = 525
closing_of Cominit = 1575
closing_of Comsas = 4725

-- How long the whole signal lasts.
abbrev pub whole_of : Signal → ℕ
whole_of s = 6 * (idle_of s + burst) + closing_of s

-- Six times an idle and a burst, then the closing idle.
abbrev pub times_of : Signal → List ℕ
times_of s =
    idle_of s ∷ burst ∷ idle_of s ∷ burst ∷ idle_of s ∷ burst ∷ idle_of s ∷ burst ∷ idle_of s ∷ burst ∷ idle_of s ∷ burst ∷ closing_of s ∷ []

-- Signals by number.
abbrev pub signal_at : ℕ → Result Signal SignalRefusal
signal_at n = cond (n == 0) (Ok Comwake) (cond (n == 1) (Ok Cominit) (cond (n == 2) (Ok Comsas) (Err NoSuchSignal)))

-- Memory with a list written over the part from the place on; the rest stays.
abbrev pub written_at : List ℕ → ℕ → List ℕ → List ℕ
written_at memory place list = take place memory ++ (list ++ drop (place + length list) memory)

-- An answer, and what memory holds afterwards.
pub record Written : Type 0 where
  pub answer : Result Unit Refusal
  pub memory : List ℕ

abbrev pub writing_at : Result Signal SignalRefusal → ℕ → List ℕ → Written
writing_at (Err refusal) place memory = record { answer = Err (signal_refusal refusal); memory = memory }
writing_at (Ok signal) place memory =
    cond (nat_lt (length memory) (place + 13)) (record { answer = Err (signal_refusal TooFewPlaces); memory = memory })
    (record { answer = Ok tt; memory = written_at memory place (times_of signal) })

abbrev pub signal_writing : ℕ → ℕ → List ℕ → Written
signal_writing number place memory = writing_at (signal_at number) place memory
