-- Halves as they stand in the tables.
use Rattle.std.specs.Prelude.{◌≡◌, ℕ, ◌-◌, ◌^◌, ◌<◌, cond, ◌==◌}
use Rattle.code.specs.declared.tables.Half.{Half}
use Rattle.code.specs.Characters.{used_after}

abbrev pub half_at : Half → ℕ → ℕ
half_at half disparity = cond (disparity == 0) half.0 half.1

-- The disparity that the next half uses.
abbrev pub half_then : Half → ℕ → ℕ
half_then half disparity = cond half.2 (1 - disparity) disparity

-- At the disparity the half is the one written, which leaves what the encoder uses next.
pub record IsHalf (width : ℕ) (half : Half) (written disparity : ℕ) : Type 0 where
  pub stands : half_at half disparity ≡ written
  pub fits : half_at half disparity < 2 ^ width
  pub leaves : half_then half disparity ≡ used_after width written disparity
