-- Disparities, and the numbers that they go by.
use Rattle.std.specs.Prelude.{ℕ, cond, Ok, Err, Result, ◌==◌, nat_lt}
use Rattle.code.specs.declared.character.numbers.Disparity.{Disparity}
use Rattle.code.specs.declared.character.numbers.Disparity.TheVariants.{Minus, Plus}
use Rattle.code.specs.declared.character.numbers.UnknownDisparity.{UnknownDisparity}

-- The number of a disparity.
abbrev pub disparity_number : Disparity → ℕ
disparity_number Minus = 0
disparity_number Plus = 1

-- The disparity of a number, which is plus unless the number is 0.
abbrev pub disparity_with : ℕ → Disparity
disparity_with number = cond (number == 0) Minus Plus

-- A number as a disparity. There is none above 1.
abbrev pub disparity_from : ℕ → Result Disparity UnknownDisparity
disparity_from number = cond (nat_lt 1 number) (Err (record { 0 = number })) (Ok (disparity_with number))
