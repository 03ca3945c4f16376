-- What each call answers, by what was called and answered before it.
use Rattle.std.specs.Prelude.{◌≡◌, ℕ, cond, List, [], ◌∷◌, ◌++◌, length, take, Some, None, Ok, Err, Option, Result, ◌==◌}
use Rattle.code.specs.Refusals.{Refusal, numbered}
use Rattle.line.specs.Waiting.{Meaning}
use Rattle.line.specs.Writing.{turning, turn_refusal}
use Rattle.link.specs.declared.heard.Heard.{Heard}
use Rattle.link.specs.declared.heard.Heard.TheVariants.{Dry, More, Slip, Gained, Good, Bad}
use Rattle.link.specs.declared.state.State.{State}
use Rattle.link.specs.declared.receiver.hearing.HearRefusal.TheVariants.{NumbersSpent}
use Rattle.link.specs.Hearing.{fresh, hearing}
use Rattle.link.specs.Receiving.{hear_refusal, most_numbers}
use Rattle.link.specs.Sending.{disparity_after_all, sending, send_refusal}
use Rattle.transcript.specs.declared.call.LinkEvent.{LinkEvent}
use Rattle.transcript.specs.declared.call.LinkEvent.TheVariants as event
use Rattle.transcript.specs.History.{History, deed, sent, answers, waits}

-- What the line means after a history; it was empty, and its capacity never changes.
abbrev pub line_after : ℕ → ℕ → History → Meaning
line_after capacity d h = record { waiting = waits d h; capacity = capacity }

-- The numbers of the dwords in some answers, good and bad together.
abbrev pub numbers_by : Heard → List ℕ
numbers_by Dry = []
numbers_by More = []
numbers_by Slip = []
numbers_by Gained = []
numbers_by (Good g) = g.number ∷ []
numbers_by (Bad b) = b.number ∷ []

abbrev pub numbers : List Heard → List ℕ
numbers [] = []
numbers (a ∷ rest) = numbers_by a ++ numbers rest

-- The bits that hearings took, in order.
abbrev pub heard : ℕ → History → List ℕ
heard d [] = []
heard d (e ∷ h) = heard d h ++ take (length (deed e).answers) (waits d h)

-- What bits make of a receiver.
abbrev pub listened : State → List ℕ → State
listened s [] = s
listened s (bit ∷ bits) = listened (hearing s bit).state bits

-- Taking answers the first bit, or none.
abbrev pub first_of : List ℕ → Option ℕ
first_of [] = None
first_of (bit ∷ bits) = Some bit

-- Hearing answers dry, or what the rules of hearing say to the first bit.
abbrev pub heard_first : State → List ℕ → Heard
heard_first s [] = Dry
heard_first s (bit ∷ bits) = (hearing s bit).heard

-- It is declined when every number is given.
abbrev pub hears : ℕ → History → Result Heard Refusal
hears d h =
    cond (length (numbers (answers h)) == most_numbers) (Err (hear_refusal NumbersSpent))
    (Ok (heard_first (listened fresh (heard d h)) (waits d h)))

-- The answer of an event is that of its call after the history.
abbrev pub Answers : ℕ → ℕ → History → LinkEvent → Type 0
Answers capacity d h (event.Send w r) =
    numbered send_refusal r ≡ (sending (disparity_after_all d (sent h)) (line_after capacity d h) w).answer
Answers capacity d h (event.Turn place r) = numbered turn_refusal r ≡ (turning (line_after capacity d h) place).answer
Answers capacity d h (event.Take r) = r ≡ first_of (waits d h)
Answers capacity d h (event.Hear r) = numbered hear_refusal r ≡ hears d h

-- Every event has the answer of its call.
abbrev pub Exact : ℕ → ℕ → History → Type 0
Exact capacity d [] = Unit {0}
Exact capacity d (e ∷ h) = Answers capacity d h e × Exact capacity d h
