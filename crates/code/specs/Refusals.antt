-- Refusals by number, with the values that go with them.
use Rattle.std.specs.Prelude.{ℕ, List, [], Ok, Err, Result}

pub record Refusal : Type 0 where
  pub number : ℕ
  pub values : List ℕ

-- A refusal that names nothing else.
abbrev pub plain : ℕ → Refusal
plain n = record { number = n; values = [] }

-- An answer with its refusal as a number and values.
abbrev pub numbered : {V E : Type 0} → (E → Refusal) → Result V E → Result V Refusal
numbered refusal (Ok value) = Ok value
numbered refusal (Err e) = Err (refusal e)

-- The number of the refusal, or 0 for an answer that is none.
abbrev pub number_or_zero : {A E : Type 0} → (E → ℕ) → Result A E → ℕ
number_or_zero number (Ok answer) = 0
number_or_zero number (Err refusal) = number refusal
