-- Rates in the order of windows, and how far an end goes up.
use Rattle.std.proofs.Common.{◌≡◌, suc, ◌<◌, ◌≤◌, true, false, ◌||◌, ap, arith}
use Rattle.bringup.specs.declared.rate.Rate.{Rate}
use Rattle.bringup.specs.declared.rate.Rate.TheVariants.{G1, G2, G3, G4}
use Rattle.bringup.specs.declared.rate.RateSet.{RateSet}
use Rattle.bringup.specs.Rates.{supports, next_rate, previous_rate, past_highest, rate_number}

-- their numbers are 1 to 4
pub at_least_one : (r : Rate) → 1 ≤ rate_number r
at_least_one r = grind arith

-- and no more
pub at_most_four : (r : Rate) → rate_number r ≤ 4
at_most_four r = grind arith

-- a rate is known by its number
pub rate_same : (r q : Rate) → rate_number r ≡ rate_number q → r ≡ q
rate_same r q e = grind arith

-- the next rate is another
pub next_differs : (r : Rate) → rate_number (next_rate r) ≡ suc (rate_number r) → r ≡ next_rate r → ⊥
next_differs r e d = omega (arith, ap rate_number d)

-- above the first, so is the one before
pub previous_differs : (r : Rate) → 2 ≤ rate_number r → r ≡ previous_rate r → ⊥
previous_differs r h d = grind arith

-- above a supported rate there is one, and going back leads to it
pub supported_next : (s : RateSet) (r : Rate) → supports s r ≡ true → (rate_number (next_rate r) ≡ suc (rate_number r)) × (previous_rate (next_rate r) ≡ r)
supported_next s r e = (grind arith, grind arith)

-- below a supported rate an end does not give up
pub supported_above : (s : RateSet) (r q : Rate) → supports s q ≡ true → rate_number r < rate_number q → past_highest s r ≡ false
supported_above s r q e lt = grind arith

-- the highest supported rate is this one, above it or just below it
abbrev pub Within : RateSet → Rate → Type 0
Within s G1 = Unit {0}
Within s G2 = Unit {0}
Within s G3 = (s.g2 || s.g3) ≡ true
Within s G4 = s.g3 ≡ true

-- an end that does not give up goes one rate up, and stays in reach
pub within_step : (s : RateSet) (r : Rate) → Within s r → past_highest s r ≡ false → (rate_number (next_rate r) ≡ suc (rate_number r)) × Within s (next_rate r)
within_step s r h p = (grind arith, grind arith)
