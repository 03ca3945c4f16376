-- Rates of speed negotiation windows.
use Rattle.std.specs.Prelude.{ℕ, ◌/◌, ◌%◌, Bool, false, not, ◌&&◌, ◌||◌, ◌==◌, nat_le}
use Rattle.bringup.specs.declared.rate.Rate.{Rate}
use Rattle.bringup.specs.declared.rate.Rate.TheVariants.{G1, G2, G3, G4}
use Rattle.bringup.specs.declared.rate.RateSet.{RateSet}

-- G1 counts one, G2 two, G3 four.
abbrev pub rate_set : ℕ → RateSet
rate_set n = record { g1 = (n % 2 == 1); g2 = (n / 2 % 2 == 1); g3 = nat_le 4 n }

abbrev pub supports : RateSet → Rate → Bool
supports s G1 = s.g1
supports s G2 = s.g2
supports s G3 = s.g3
supports s G4 = false

abbrev pub next_rate : Rate → Rate
next_rate G1 = G2
next_rate G2 = G3
next_rate G3 = G4
next_rate G4 = G4

abbrev pub previous_rate : Rate → Rate
previous_rate G1 = G1
previous_rate G2 = G1
previous_rate G3 = G2
previous_rate G4 = G3

-- Whether a rate is one above the highest supported.
abbrev pub past_highest : RateSet → Rate → Bool
past_highest s G1 = false
past_highest s G2 = not (s.g2 || s.g3)
past_highest s G3 = s.g2 && not s.g3
past_highest s G4 = s.g3

abbrev pub rate_number : Rate → ℕ
rate_number G1 = 1
rate_number G2 = 2
rate_number G3 = 3
rate_number G4 = 4
