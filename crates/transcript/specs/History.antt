-- What was called on a link and answered, the newest event first, and what can be read off it.
use Rattle.std.specs.Prelude.{◌≡◌, ℕ, ◌+◌, ◌⊎◌, List, [], ◌∷◌, ◌++◌, length, drop, Some, None, Ok, Err}
use Rattle.code.specs.Bits.{inverted}
use Rattle.link.specs.declared.dword.Dword.{Dword}
use Rattle.link.specs.declared.heard.Heard.{Heard}
use Rattle.link.specs.declared.heard.Heard.TheVariants.{Dry, More, Slip, Gained, Good, Bad}
use Rattle.link.specs.Sending.{stream, disparity_after_all}
use Rattle.transcript.specs.declared.call.LinkCall.{LinkCall}
use Rattle.transcript.specs.declared.call.LinkCall.TheVariants as call
use Rattle.transcript.specs.declared.call.LinkEvent.{LinkEvent}
use Rattle.transcript.specs.declared.call.LinkEvent.TheVariants as event

abbrev pub History : Type 0
History = List LinkEvent

-- The call that an event is of.
abbrev pub call_of : LinkEvent → LinkCall
call_of (event.Send w r) = call.Send w
call_of (event.Turn place r) = call.Turn place
call_of (event.Take r) = call.Take
call_of (event.Hear r) = call.Hear

-- What one event did: the dword that was sent, the place that was turned, how many bits were taken without being heard,
-- and the answer of a hearing that took a bit. A declined or dry call did nothing.
pub record Deed : Type 0 where
  pub dwords : List Dword
  pub turnings : List ℕ
  pub takings : ℕ
  pub answers : List Heard

abbrev pub nothing : Deed
nothing = record { dwords = []; turnings = []; takings = 0; answers = [] }

abbrev pub sending_deed : Dword → Deed
sending_deed w = record { dwords = w ∷ []; turnings = []; takings = 0; answers = [] }

abbrev pub turning_deed : ℕ → Deed
turning_deed place = record { dwords = []; turnings = place ∷ []; takings = 0; answers = [] }

abbrev pub taking_deed : Deed
taking_deed = record { dwords = []; turnings = []; takings = 1; answers = [] }

abbrev pub hearing_deed : Heard → Deed
hearing_deed a = record { dwords = []; turnings = []; takings = 0; answers = a ∷ [] }

abbrev pub heard_deed : Heard → Deed
heard_deed Dry = nothing
heard_deed More = hearing_deed More
heard_deed Slip = hearing_deed Slip
heard_deed Gained = hearing_deed Gained
heard_deed (Good g) = hearing_deed (Good g)
heard_deed (Bad b) = hearing_deed (Bad b)

abbrev pub deed : LinkEvent → Deed
deed (event.Send w (Ok done)) = sending_deed w
deed (event.Send w (Err refusal)) = nothing
deed (event.Turn place (Ok done)) = turning_deed place
deed (event.Turn place (Err refusal)) = nothing
deed (event.Take (Some bit)) = taking_deed
deed (event.Take None) = nothing
deed (event.Hear (Ok a)) = heard_deed a
deed (event.Hear (Err refusal)) = nothing

-- The dwords of the accepted sends, in order.
abbrev pub sent : History → List Dword
sent [] = []
sent (e ∷ h) = sent h ++ (deed e).dwords

-- How many bits were taken without being heard.
abbrev pub skipped : History → ℕ
skipped [] = 0
skipped (e ∷ h) = skipped h + (deed e).takings

-- The answers of the hearings that took a bit, in order. If hearings alone took bits once one had, the answer at i belongs
-- to the bit that was put at skipped + i.
abbrev pub answers : History → List Heard
answers [] = []
answers (e ∷ h) = answers h ++ (deed e).answers

-- How many bits have left the line.
abbrev pub removed : History → ℕ
removed h = skipped h + length (answers h)

-- The bits put by a sender that was opened at disparity d.
abbrev pub put : ℕ → History → List ℕ
put d h = stream d (sent h)

-- A list with the bits at some places after the first n inverted.
abbrev pub turned_at : ℕ → List ℕ → List ℕ → List ℕ
turned_at n [] bits = bits
turned_at n (place ∷ places) bits = turned_at n places (inverted bits (n + place))

-- The bits put, as they left the line or wait on it.
abbrev pub carried : ℕ → History → List ℕ
carried d [] = []
carried d (e ∷ h) = turned_at (removed h) (deed e).turnings (carried d h) ++ stream (disparity_after_all d (sent h)) (deed e).dwords

-- The bits that wait on a line which was empty.
abbrev pub waits : ℕ → History → List ℕ
waits d h = drop (removed h) (carried d h)

-- Once a bit is heard, none is taken otherwise.
abbrev pub HearsAlone : History → Type 0
HearsAlone [] = Unit {0}
HearsAlone (e ∷ h) = HearsAlone h × (((deed e).takings ≡ 0) ⊎ (answers h ≡ []))
