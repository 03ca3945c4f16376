-- What a sender tests before it puts anything.
use Rattle.std.specs.Prelude.{ℕ, ◌+◌, cond, not, ◌&&◌, List, ◌++◌, length, Ok, Err, Result, ◌==◌, nat_lt}
use Rattle.code.specs.Characters.{special}
use Rattle.code.specs.Refusals.{Refusal}
use Rattle.line.specs.Waiting.{Meaning}
use Rattle.link.specs.declared.dword.Dword.{Dword}
use Rattle.link.specs.declared.sender.SendRefusal.TheVariants.{KindAboveOne, NotSpecial, NoRoom}
use Rattle.link.specs.Sending.{send_refusal}

-- A fact that an accepted call shows.
abbrev pub Accepted : {V E : Type 0} → Result V E → Type 0 → Type 0
Accepted (Ok value) fact = fact
Accepted (Err e) fact = Unit {0}

-- Whether a dword's codes are valid.
abbrev pub checked_dword : Dword → Result Unit Refusal
checked_dword w =
    cond (nat_lt 1 w.kind) (Err (send_refusal KindAboveOne))
    (cond (w.kind == 1 && not (special w.b0)) (Err (send_refusal NotSpecial)) (Ok tt))

-- Whether forty more bits can wait on a line.
abbrev pub checked_room : Meaning → Result Unit Refusal
checked_room line = cond (nat_lt line.capacity (length line.waiting + 40)) (Err (send_refusal NoRoom)) (Ok tt)

-- A line on which bits are put behind those that wait.
abbrev pub followed_by : Meaning → List ℕ → Meaning
followed_by line bits = record { waiting = line.waiting ++ bits; capacity = line.capacity }
