-- How a character is read, and what the four characters of a dword make.
use Rattle.std.specs.Prelude.{ℕ, ◌+◌, Bool, true, false, cond, not, ◌&&◌, Some, None, Option, ◌==◌, nat_lt}
use Rattle.std.specs.Option.{option_or}
use Rattle.code.specs.declared.character.Code.{Code}
use Rattle.code.specs.Kinds.{kind_number, code_with}
use Rattle.code.specs.Characters.{decoded, unlike}
use Rattle.link.specs.declared.dword.Dword.{Dword}
use Rattle.link.specs.declared.reading.Reading.{Reading}
use Rattle.link.specs.declared.reading.Reading.TheVariants.{Refused, Like, Unlike}
use Rattle.link.specs.declared.reading.Readings.{Readings}
use Rattle.link.specs.declared.reading.Verdict.{Verdict}
use Rattle.link.specs.declared.reading.Verdict.TheVariants.{Vouches, Doubts}

-- A code at a place of a dword: a special one is refused at places 1 to 3.
abbrev pub placed : ℕ → Code → Reading
placed place code =
    cond (nat_lt 0 place && kind_number code.kind == 1) Refused (cond (unlike (kind_number code.kind) code.byte) (Unlike code) (Like code))

abbrev pub read_as : ℕ → Option Code → Reading
read_as place None = Refused
read_as place (Some code) = placed place code

-- A character at a place and a disparity.
abbrev pub reading : ℕ → ℕ → ℕ → Reading
reading place character disparity = read_as place (decoded character disparity)

abbrev pub is_refused : Reading → Bool
is_refused Refused = true
is_refused (Like code) = false
is_refused (Unlike code) = false

-- The code, of which a refused character has none.
abbrev pub code_of : Reading → Code
code_of Refused = code_with 0 0
code_of (Like code) = code
code_of (Unlike code) = code

abbrev pub kind_of : Reading → ℕ
kind_of reading = kind_number (code_of reading).kind

abbrev pub byte_of : Reading → ℕ
byte_of reading = (code_of reading).byte

-- The sum of 1, 2, 4 and 8 for the refused places 0 to 3.
abbrev pub weight : Reading → ℕ → ℕ
weight reading number = cond (is_refused reading) number 0

abbrev pub mask : Readings → ℕ
mask r = weight r.first 1 + weight r.second 2 + weight r.third 4 + weight r.fourth 8

-- A dword with no refused character.
abbrev pub is_good : Readings → Bool
is_good r = not (is_refused r.first) && not (is_refused r.second) && not (is_refused r.third) && not (is_refused r.fourth)

abbrev pub dword : Readings → Dword
dword r = record { kind = kind_of r.first; b0 = byte_of r.first; b1 = byte_of r.second; b2 = byte_of r.third; b3 = byte_of r.fourth }

-- What a character says: one that is refused doubts, and one with unlike columns vouches.
abbrev pub own_verdict : Reading → Option Verdict
own_verdict Refused = Some Doubts
own_verdict (Like code) = None
own_verdict (Unlike code) = Some Vouches

-- What the first character that is refused or has unlike columns says, if there is one.
abbrev pub verdict : Readings → Option Verdict
verdict r = option_or (own_verdict r.first) (option_or (own_verdict r.second) (option_or (own_verdict r.third) (own_verdict r.fourth)))
