-- A run by the meaning of its calls: what a line, its sender and its receiver come to. No law speaks of it; the proofs go
-- from here to the history.
use Rattle.std.specs.Prelude.{◌≡◌, ℕ, [], ◌∷◌}
use Rattle.code.specs.Refusals.{numbered}
use Rattle.line.specs.Waiting.{Meaning, Taken, IsBit}
use Rattle.line.specs.Writing.{turning, turn_refusal}
use Rattle.link.specs.declared.state.State.{State}
use Rattle.link.specs.Accepting.{Accepted}
use Rattle.link.specs.Hearing.{fresh}
use Rattle.link.specs.Receiving.{hear_refusal, heard_from}
use Rattle.link.specs.Sending.{ValidDword, sending, send_refusal}
use Rattle.transcript.specs.declared.call.LinkEvent.{LinkEvent}
use Rattle.transcript.specs.declared.call.LinkEvent.TheVariants as event
use Rattle.transcript.specs.History.{History}

-- What the line means, the sender's disparity, and the receiver's state.
pub record Link : Type 0 where
  pub line : Meaning
  pub disparity : ℕ
  pub receiver : State

-- An empty line of this capacity, a sender opened at disparity d, and a receiver that has heard nothing.
abbrev pub unused : ℕ → ℕ → Link
unused capacity d = record { line = record { waiting = []; capacity = capacity }; disparity = d; receiver = fresh }

-- The call of an event, made on one link, gave its answer and left another.
abbrev pub Makes : Link → LinkEvent → Link → Type 0
Makes a (event.Send w r) b =
    (numbered send_refusal r ≡ (sending a.disparity a.line w).answer)
    × (b ≡ record { line = (sending a.disparity a.line w).line; disparity = (sending a.disparity a.line w).disparity; receiver = a.receiver })
    × Accepted r (ValidDword w)
Makes a (event.Turn place r) b =
    (numbered turn_refusal r ≡ (turning a.line place).answer)
    × (b ≡ record { line = (turning a.line place).line; disparity = a.disparity; receiver = a.receiver })
Makes a (event.Take r) b =
    Taken a.line r b.line × IsBit r × (b ≡ record { line = b.line; disparity = a.disparity; receiver = a.receiver })
Makes a (event.Hear r) b =
    (numbered hear_refusal r ≡ (heard_from a.receiver a.line).answer)
    × (b ≡ record { line = (heard_from a.receiver a.line).tap; disparity = a.disparity; receiver = (heard_from a.receiver a.line).state })

-- The link that an unused one has come to by the events.
pub data Reached (capacity d : ℕ) : History → Link → Type 0 where
  start : Reached capacity d [] (unused capacity d)
  makes : {h : History} {a b : Link} (e : LinkEvent) → Makes a e b → Reached capacity d h a → Reached capacity d (e ∷ h) b
