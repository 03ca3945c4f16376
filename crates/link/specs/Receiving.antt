-- A hearing from a tap: the answer, the receiver's state after it, and what the tap means then.
use Rattle.std.specs.Prelude.{◌≡◌, ℕ, cond, List, [], ◌∷◌, Ok, Err, Result, ◌==◌}
use Rattle.code.specs.Refusals.{Refusal, plain}
use Rattle.line.specs.Waiting.{Meaning}
use Rattle.link.specs.declared.heard.Heard.{Heard}
use Rattle.link.specs.declared.heard.Heard.TheVariants.{Dry}
use Rattle.link.specs.declared.state.State.{State}
use Rattle.link.specs.declared.receiver.hearing.HearRefusal.{HearRefusal}
use Rattle.link.specs.declared.receiver.hearing.HearRefusal.TheVariants.{NumbersSpent}
use Rattle.link.specs.Hearing.{hearing}

abbrev pub hear_refusal : HearRefusal → Refusal
hear_refusal NumbersSpent = plain 7

-- How many dwords can be numbered.
abbrev pub most_numbers : ℕ
most_numbers = 4294967295

pub record Outcome : Type 0 where
  pub answer : Result Heard Refusal
  pub state : State
  pub tap : Meaning

-- Dry alters nothing; else the first bit is taken and heard.
abbrev pub heard_first : State → ℕ → List ℕ → Outcome
heard_first s capacity [] = record { answer = Ok Dry; state = s; tap = record { waiting = []; capacity = capacity } }
heard_first s capacity (bit ∷ bits) =
    record { answer = Ok (hearing s bit).heard; state = (hearing s bit).state; tap = record { waiting = bits; capacity = capacity } }

-- Refused when all numbers are given, before the tap is asked.
abbrev pub heard_from : State → Meaning → Outcome
heard_from s tap =
    cond (s.ledger.number == most_numbers) (record { answer = Err (hear_refusal NumbersSpent); state = s; tap = tap })
    (heard_first s tap.capacity tap.waiting)

-- A tap from which no bit was taken is as it was, in every field.
abbrev pub Untouched : {S : Type 0} → Result Heard HearRefusal → Meaning → S → S → Type 0
Untouched (Err refusal) tap before after = after ≡ before
Untouched (Ok heard) tap before after = tap.waiting ≡ [] → after ≡ before
