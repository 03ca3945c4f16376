-- Runs of calls on a link that nobody has used: every answer, what is left on the line, and the laws.
use Rattle.std.specs.Prelude.{◌≡◌, ℕ, ◌<◌, ◌≤◌, List, map, reverse, length, take, drop, Ok, Err, Result}
use Rattle.line.specs.Waiting.{Meaning}
use Rattle.link.specs.declared.state.State.{State}
use Rattle.link.specs.Sending.{disparity_after_all}
use Rattle.transcript.specs.declared.call.LinkCall.{LinkCall}
use Rattle.transcript.specs.declared.call.LinkEvent.{LinkEvent}
use Rattle.transcript.specs.History.{call_of, sent}
use Rattle.transcript.specs.Answering.{Exact, line_after}
use Rattle.transcript.specs.Reaching.{Link, Makes}
use Rattle.transcript.specs.Laws.{LinkLaws}
use Rattle.runs.specs.declared.links.Link.{Link as Lent}
use Rattle.runs.specs.declared.links.LinkRun.{LinkRun}
use Rattle.runs.specs.declared.refusal.RunRefusal.{RunRefusal}
use Rattle.runs.specs.declared.refusal.RunRefusal.TheVariants.{TooFewPlaces, BitsWaiting}

-- What a line, its sender and its receiver mean together.
abbrev pub link_of : Meaning → ℕ → State → Link
link_of line disparity receiver = record { line = line; disparity = disparity; receiver = receiver }

-- A lent link as it stands.
abbrev pub standing : {L : Type 0} → (L → Meaning) → Lent L → Link
standing meaning lent = link_of (meaning lent.line.now) lent.sender.now.disparity lent.receiver.state

-- The events of the calls, one for each, in order: the history that they make has the answer of every call and obeys the
-- laws of a link, and it tells which bits wait on the line and at which disparity the sender stands.
pub record Lawful (capacity opened : ℕ) (calls : List LinkCall) (events : List LinkEvent) (line : Meaning) (disparity : ℕ) : Type 0 where
  pub each : map call_of events ≡ calls
  pub exact : Exact capacity opened (reverse events)
  pub laws : LinkLaws opened (reverse events)
  pub line_left : line ≡ line_after capacity opened (reverse events)
  pub disparity_left : disparity ≡ disparity_after_all opened (sent (reverse events))

-- A call of a link: which call the event is of, what it answers and leaves; and the lent places stay lent.
abbrev pub LinkCalled : {L : Type 0} → (L → Meaning) → Lent L → LinkCall → LinkEvent → Lent L → Type 0
LinkCalled meaning before call event after =
    (call_of event ≡ call)
    × Makes (standing meaning before) event (standing meaning after)
    × (after.line.ghost_name ≡ before.line.ghost_name)
    × (after.sender.ghost_name ≡ before.sender.ghost_name)

-- The run of a link: the law of its calls and events, and the places behind them stay.
pub record LinkRan {L : Type 0} (meaning : L → Meaning) (before after : LinkRun L) : Type 0 where
  pub lawful :
      Lawful (meaning before.line.now).capacity before.sender.now.disparity before.calls.now
      (take (length before.calls.now) after.events.now) (meaning after.line.now) after.sender.now.disparity
  pub rest : drop (length before.calls.now) after.events.now ≡ drop (length before.calls.now) before.events.now

-- The same places are lent: what was lent ends as the run leaves it.
pub record SamePlaces {L : Type 0} (before after : LinkRun L) : Type 0 where
  pub line : after.line.ghost_name ≡ before.line.ghost_name
  pub sender : after.sender.ghost_name ≡ before.sender.ghost_name
  pub calls : after.calls ≡ before.calls
  pub events : after.events.ghost_name ≡ before.events.ghost_name

-- There is a place for the event of each call.
abbrev pub HasPlaces : {L : Type 0} → LinkRun L → Type 0
HasPlaces run = length run.calls.now ≤ length run.events.now

-- No bit waits on the line.
abbrev pub IsEmpty : {L : Type 0} → (L → Meaning) → LinkRun L → Type 0
IsEmpty meaning run = length (meaning run.line.now).waiting ≡ 0

-- Declined exactly if there are fewer places than calls, or else if bits wait on the line.
abbrev pub LinkDeclined : {L X : Type 0} → (L → Meaning) → LinkRun L → Result X RunRefusal → Type 0
LinkDeclined meaning run (Ok value) = HasPlaces run × IsEmpty meaning run
LinkDeclined meaning run (Err TooFewPlaces) = length run.events.now < length run.calls.now
LinkDeclined meaning run (Err BitsWaiting) = HasPlaces run × (0 < length (meaning run.line.now).waiting)
