-- From the meaning of each call to what it did.
use Rattle.std.proofs.Common.{◌≡◌, ℕ, ◌+◌, not, ◌&&◌, eqb, ltb, List, [], ◌∷◌, length, Some, None, Ok, Err, Result, sym, refl, ap, ◌∙◌, subst}
use Rattle.code.specs.Bits.{inverted}
use Rattle.code.specs.Characters.{special}
use Rattle.code.specs.Refusals.{Refusal}
use Rattle.line.specs.Waiting.{Meaning}
use Rattle.line.specs.Writing.{Written, turning, turn_refusal, accepted, refused}
use Rattle.line.specs.declared.refusal.TurnRefusal.TheVariants.{NotWaiting}
use Rattle.link.specs.declared.dword.Dword.{Dword}
use Rattle.link.specs.declared.heard.Heard.{Heard}
use Rattle.link.specs.declared.heard.Heard.TheVariants.{Dry}
use Rattle.link.specs.declared.receiver.hearing.HearRefusal.TheVariants.{NumbersSpent}
use Rattle.link.specs.declared.sender.SendRefusal.{SendRefusal}
use Rattle.link.specs.declared.sender.SendRefusal.TheVariants.{KindAboveOne, NotSpecial, NoRoom}
use Rattle.link.specs.declared.state.State.{State}
use Rattle.link.specs.Hearing.{hearing}
use Rattle.link.specs.Receiving.{Outcome, hear_refusal, most_numbers, heard_first, heard_from}
use Rattle.link.specs.Sending.{Sending, sending, accepted_send, declined_send}
use Rattle.transcript.specs.declared.call.LinkEvent.{LinkEvent}
use Rattle.transcript.specs.declared.call.LinkEvent.TheVariants as event
use Rattle.transcript.specs.History.{History, deed, nothing, heard_deed}
use Rattle.transcript.specs.Reaching.{Link, Reached, start, makes}
use Rattle.transcript.proofs.OneHearing.{either_way, hearing_tells}
use Rattle.transcript.proofs.Runs.{Run, starts, sends, turns, takes, hears, idles}

-- an answer is not both
ok_or_err : {V E : Type 0} {v : V} {e : E} → ◌≡◌ {A = Result V E} (Ok v) (Err e) → ⊥
ok_or_err e = cc

heard_is : {x y : Heard} → ◌≡◌ {A = Result Heard Refusal} (Ok x) (Ok y) → x ≡ y
heard_is e = cc

-- ---- each call goes one of its ways

data Sends (d : ℕ) (line : Meaning) (w : Dword) (s : Sending) : Type 0 where
  accepts : s ≡ accepted_send d line w → Sends d line w s
  declines : (refusal : SendRefusal) → s ≡ declined_send refusal d line → Sends d line w s

sends_either : (d : ℕ) (line : Meaning) (w : Dword) → Sends d line w (sending d line w)
sends_either d line w =
    let P = Sends d line w in
    either_way P (ltb 1 w.kind) _ _ (declines KindAboveOne refl)
    (either_way P (eqb w.kind 1 && not (special w.b0)) _ _ (declines NotSpecial refl)
    (either_way P (ltb line.capacity (length line.waiting + 40)) _ _ (declines NoRoom refl) (accepts refl)))

data Turns (line : Meaning) (place : ℕ) (w : Written) : Type 0 where
  accepts_turn : w ≡ accepted (inverted line.waiting place) line → Turns line place w
  declines_turn : w ≡ refused (turn_refusal NotWaiting) line → Turns line place w

turns_either : (line : Meaning) (place : ℕ) → Turns line place (turning line place)
turns_either line place = either_way (Turns line place) (ltb place (length line.waiting)) _ _ (accepts_turn refl) (declines_turn refl)

data Hears (s : State) (tap : Meaning) (o : Outcome) : Type 0 where
  spent : o ≡ record { answer = Err (hear_refusal NumbersSpent); state = s; tap = tap } → Hears s tap o
  dry : o ≡ record { answer = Ok Dry; state = s; tap = tap } → Hears s tap o
  bit : (b : ℕ) (bits : List ℕ) → tap.waiting ≡ b ∷ bits
      → o ≡ record { answer = Ok (hearing s b).heard; state = (hearing s b).state; tap = record { waiting = bits; capacity = tap.capacity } }
      → Hears s tap o

hears-first : (s : State) (capacity : ℕ) (waiting : List ℕ) → Hears s (record { waiting = waiting; capacity = capacity }) (heard_first s capacity waiting)
hears-first s capacity [] = dry refl
hears-first s capacity (b ∷ bits) = bit b bits refl refl

hears_either : (s : State) (tap : Meaning) → Hears s tap (heard_from s tap)
hears_either s tap =
    either_way (Hears s tap) (eqb s.ledger.number most_numbers) _ _ (spent refl) (hears-first s tap.capacity tap.waiting)

-- ---- so that a reached link is a run's

abbrev pub Ran : ℕ → ℕ → History → Link → Type 0
Ran capacity d h a = Run d h a.line.waiting a.disparity a.receiver × (a.line.capacity ≡ capacity)

-- an event that did nothing, and left the line and the sender as they were
rests : {capacity d : ℕ} {h : History} (a : Link) (e : LinkEvent) → deed e ≡ nothing → Ran capacity d h a → Ran capacity d (e ∷ h) a
rests a e is (run, holds) = (idles e is run, holds)

pub as_run : {capacity d : ℕ} {h : History} {a : Link} → Reached capacity d h a → Ran capacity d h a
as_run start = (starts, refl)
as_run {capacity} {d} (makes {h = h} {a = a} (event.Send w (Ok done)) (answer, is, valid) reached) =
    let ran = as_run reached in
    let to : Sending → Type 0 = λ s. Ran capacity d (event.Send w (Ok done) ∷ h) (record { line = s.line; disparity = s.disparity; receiver = a.receiver }) in
    subst (Ran capacity d (event.Send w (Ok done) ∷ h)) (sym is)
    (elim (sends_either a.disparity a.line w) [
      | accepts e ↦ subst to (sym e) (sends (event.Send w (Ok done)) w refl valid ran.0, ran.1)
      | declines refusal e ↦ absurd (ok_or_err (answer ∙ ap (λ s. s.answer) e))
    ])
as_run {capacity} {d} (makes {h = h} {a = a} (event.Send w (Err r)) (answer, is, _) reached) =
    let to : Sending → Type 0 = λ s. Ran capacity d (event.Send w (Err r) ∷ h) (record { line = s.line; disparity = s.disparity; receiver = a.receiver }) in
    subst (Ran capacity d (event.Send w (Err r) ∷ h)) (sym is)
    (elim (sends_either a.disparity a.line w) [
      | accepts e ↦ absurd (ok_or_err (sym (answer ∙ ap (λ s. s.answer) e)))
      | declines refusal e ↦ subst to (sym e) (rests a (event.Send w (Err r)) refl (as_run reached))
    ])
as_run {capacity} {d} (makes {h = h} {a = a} (event.Turn place (Ok done)) (answer, is) reached) =
    let ran = as_run reached in
    let to : Written → Type 0 = λ w. Ran capacity d (event.Turn place (Ok done) ∷ h) (record { line = w.line; disparity = a.disparity; receiver = a.receiver }) in
    subst (Ran capacity d (event.Turn place (Ok done) ∷ h)) (sym is)
    (elim (turns_either a.line place) [
      | accepts_turn e ↦ subst to (sym e) (turns (event.Turn place (Ok done)) place refl ran.0, ran.1)
      | declines_turn e ↦ absurd (ok_or_err (answer ∙ ap (λ w. w.answer) e))
    ])
as_run {capacity} {d} (makes {h = h} {a = a} (event.Turn place (Err r)) (answer, is) reached) =
    let to : Written → Type 0 = λ w. Ran capacity d (event.Turn place (Err r) ∷ h) (record { line = w.line; disparity = a.disparity; receiver = a.receiver }) in
    subst (Ran capacity d (event.Turn place (Err r) ∷ h)) (sym is)
    (elim (turns_either a.line place) [
      | accepts_turn e ↦ absurd (ok_or_err (sym (answer ∙ ap (λ w. w.answer) e)))
      | declines_turn e ↦ subst to (sym e) (rests a (event.Turn place (Err r)) refl (as_run reached))
    ])
as_run {capacity} {d} (makes {h = h} {a = a} {b = b} (event.Take (Some x)) (taken, _, is) reached) =
    let ran = as_run reached in
    let first = subst (λ l. Run d h l.waiting a.disparity a.receiver) taken ran.0 in
    subst (Ran capacity d (event.Take (Some x) ∷ h)) (sym is)
    (takes (event.Take (Some x)) x refl first, sym (ap (λ l. l.capacity) taken) ∙ ran.1)
as_run {capacity} {d} (makes {h = h} {a = a} (event.Take None) (taken, _, is) reached) =
    subst (Ran capacity d (event.Take None ∷ h)) (sym is)
    (subst (λ l. Ran capacity d (event.Take None ∷ h) (record { line = l; disparity = a.disparity; receiver = a.receiver })) (sym taken.1)
    (rests a (event.Take None) refl (as_run reached)))
as_run {capacity} {d} (makes {h = h} {a = a} (event.Hear (Ok x)) (answer, is) reached) =
    let ran = as_run reached in
    let to : Outcome → Type 0 = λ o. Ran capacity d (event.Hear (Ok x) ∷ h) (record { line = o.tap; disparity = a.disparity; receiver = o.state }) in
    subst (Ran capacity d (event.Hear (Ok x) ∷ h)) (sym is)
    (elim (hears_either a.receiver a.line) [
      | spent e ↦ absurd (ok_or_err (answer ∙ ap (λ o. o.answer) e))
      | dry e ↦
          let none = heard_is (answer ∙ ap (λ o. o.answer) e) in
          subst to (sym e) (rests a (event.Hear (Ok x)) (ap heard_deed none) ran)
      | bit b bits waits e ↦
          let told = heard_is (answer ∙ ap (λ o. o.answer) e) in
          let first = subst (λ q. Run d h q a.disparity a.receiver) waits ran.0 in
          subst to (sym e) (hears (event.Hear (Ok x)) b (ap heard_deed told ∙ hearing_tells a.receiver b) first, ran.1)
    ])
as_run {capacity} {d} (makes {h = h} {a = a} (event.Hear (Err r)) (answer, is) reached) =
    let to : Outcome → Type 0 = λ o. Ran capacity d (event.Hear (Err r) ∷ h) (record { line = o.tap; disparity = a.disparity; receiver = o.state }) in
    subst (Ran capacity d (event.Hear (Err r) ∷ h)) (sym is)
    (elim (hears_either a.receiver a.line) [
      | spent e ↦ subst to (sym e) (rests a (event.Hear (Err r)) refl (as_run reached))
      | dry e ↦ absurd (ok_or_err (sym (answer ∙ ap (λ o. o.answer) e)))
      | bit b bits waits e ↦ absurd (ok_or_err (sym (answer ∙ ap (λ o. o.answer) e)))
    ])
