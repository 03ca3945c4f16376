-- Kinds of codes, and the numbers that they go by.
use Rattle.std.specs.Prelude.{ℕ, cond, Ok, Err, Result, ◌==◌, nat_lt}
use Rattle.code.specs.declared.character.Code.{Code}
use Rattle.code.specs.declared.character.numbers.Kind.{Kind}
use Rattle.code.specs.declared.character.numbers.Kind.TheVariants.{Data, Special}
use Rattle.code.specs.declared.character.numbers.UnknownKind.{UnknownKind}

-- The number of a kind.
abbrev pub kind_number : Kind → ℕ
kind_number Data = 0
kind_number Special = 1

-- The kind of a number, which is special unless the number is 0.
abbrev pub kind_with : ℕ → Kind
kind_with number = cond (number == 0) Data Special

-- The code of a kind's number and a byte.
abbrev pub code_with : ℕ → ℕ → Code
code_with number byte = record { kind = kind_with number; byte = byte }

-- A number as a kind. There is none above 1.
abbrev pub kind_from : ℕ → Result Kind UnknownKind
kind_from number = cond (nat_lt 1 number) (Err (record { 0 = number })) (Ok (kind_with number))
