-- What a line can hold, and what writing to it does.
use Rattle.std.specs.Prelude.{◌≡◌, ℕ, ◌+◌, ◌*◌, ◌/◌, Bool, cond, ◌||◌, List, [], ◌++◌, length, Ok, Err, Result, nat_lt}
use Rattle.code.specs.Bits.{bits_of, inverted}
use Rattle.code.specs.Refusals.{Refusal, plain}
use Rattle.line.specs.Waiting.{Meaning}
use Rattle.line.specs.declared.refusal.PutRefusal.{PutRefusal}
use Rattle.line.specs.declared.refusal.PutRefusal.TheVariants.{NotACharacter, NoRoom}
use Rattle.line.specs.declared.refusal.TurnRefusal.{TurnRefusal}
use Rattle.line.specs.declared.refusal.TurnRefusal.TheVariants.{NotWaiting}
use Rattle.line.specs.declared.refusal.MemoryRefusal.{MemoryRefusal}
use Rattle.line.specs.declared.refusal.MemoryRefusal.TheVariants.{OutOfRange}

-- The number of each refusal to put.
abbrev pub put_refusal : PutRefusal → Refusal
put_refusal NotACharacter = plain 1
put_refusal NoRoom = plain 2

-- The number of the refusal to turn.
abbrev pub turn_refusal : TurnRefusal → Refusal
turn_refusal NotWaiting = plain 4

-- The number of the refusal of memory.
abbrev pub memory_refusal : MemoryRefusal → Refusal
memory_refusal OutOfRange = plain 3

-- The largest multiple of ten within so many bits.
abbrev pub tens : ℕ → ℕ
tens bits = bits / 10 * 10

-- Outside the range of lines, 40 to 65,530 bits.
abbrev pub out_of_range : ℕ → Bool
out_of_range capacity = nat_lt capacity 40 || nat_lt 65530 capacity

-- The capacity of a line over memory of so many bits: the tens within, or none where these are outside the range.
abbrev pub line_capacity : ℕ → ℕ
line_capacity bits = cond (out_of_range (tens bits)) 0 (tens bits)

-- What an empty line over memory of so many bits means.
abbrev pub empty_line : ℕ → Meaning
empty_line bits = record { waiting = []; capacity = line_capacity bits }

-- What checking memory of so many bits for a line answers.
abbrev pub checking : ℕ → Result ℕ Refusal
checking bits = cond (out_of_range (tens bits)) (Err (memory_refusal OutOfRange)) (Ok (tens bits))

-- What a call that writes answers, and what the line then means.
pub record Written : Type 0 where
  pub answer : Result Unit Refusal
  pub line : Meaning

-- A refused call leaves the line.
abbrev pub refused : Refusal → Meaning → Written
refused refusal line = record { answer = Err refusal; line = line }

-- After an accepted call other bits wait.
abbrev pub accepted : List ℕ → Meaning → Written
accepted waiting line = record { answer = Ok tt; line = record { waiting = waiting; capacity = line.capacity } }

-- Putting a character appends its ten bits.
abbrev pub putting : Meaning → ℕ → Written
putting line character =
    cond (nat_lt 1023 character) (refused (put_refusal NotACharacter) line)
    (cond (nat_lt line.capacity (length line.waiting + 10)) (refused (put_refusal NoRoom) line)
    (accepted (line.waiting ++ bits_of 10 character) line))

-- Turning a place inverts the bit that waits there; place 0 is the next to be taken.
abbrev pub turning : Meaning → ℕ → Written
turning line place =
    cond (nat_lt place (length line.waiting)) (accepted (inverted line.waiting place) line)
    (refused (turn_refusal NotWaiting) line)

-- A declined call leaves the whole value as it was, the borrowed memory too.
abbrev pub Still : {V E S : Type 0} → Result V E → S → S → Type 0
Still (Ok value) before after = Unit {0}
Still (Err e) before after = after ≡ before

-- What memory holds after a call that writes: what it stores where it is accepted, and else what stood there.
abbrev pub stored : {V E : Type 0} → Result V E → List ℕ → List ℕ → List ℕ
stored (Ok value) new old = new
stored (Err e) new old = old
