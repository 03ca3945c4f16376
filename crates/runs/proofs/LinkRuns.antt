-- Lists of calls on a link, one call after another.
use Rattle.std.proofs.Common.{◌≡◌, ℕ, List, [], ◌∷◌, length, map, refl, sym, subst, ap₂, ◌∙◌}
use mathlib.Core.List.{reverse_aux}
use Rattle.std.proofs.lemmas.List.{nil_from_length}
use Rattle.line.specs.Waiting.{Meaning}
use Rattle.link.specs.declared.state.State.{State}
use Rattle.link.specs.Hearing.{fresh}
use Rattle.transcript.specs.declared.call.LinkCall.{LinkCall}
use Rattle.transcript.specs.declared.call.LinkEvent.{LinkEvent}
use Rattle.transcript.specs.History.{History, call_of}
use Rattle.transcript.specs.Reaching.{Reached, start, makes}
use Rattle.transcript.proofs.Exactness.{exact, line_left, disparity_left}
use Rattle.transcript.proofs.LinkLaws.{link_laws}
use Rattle.runs.specs.declared.links.Link.{Link as Lent}
use Rattle.runs.specs.Driving.{Steps, done, next}
use Rattle.runs.specs.LinkRuns.{link_of, standing, LinkCalled, Lawful}

-- a link that nobody has used is reached by no events
reached_unused : (line : Meaning) (d : ℕ) (receiver : State) → line.waiting ≡ [] → receiver ≡ fresh → Reached line.capacity d [] (link_of line d receiver)
reached_unused line d receiver empty new =
    subst (Reached line.capacity d [])
    (ap₂ (λ (w : List ℕ) (r : State). link_of (record { waiting = w; capacity = line.capacity }) d r) (sym empty) (sym new))
    start

module _ {L : Type 0} (meaning : L → Meaning) where
  -- the same line and sender stay lent
  pub same_lent : {before after : Lent L} {calls : List LinkCall} {events : List LinkEvent} → Steps (LinkCalled meaning) before calls events after → (before.line.ghost_name ≡ after.line.ghost_name) × (before.sender.ghost_name ≡ after.sender.ghost_name)
  same_lent done = (refl, refl)
  same_lent (next (is, made, line, sender) others) = let then = same_lent others in (sym line ∙ then.0, sym sender ∙ then.1)

  -- the events are those of the calls, and lead on from the history of the link
  links_driven : (capacity d : ℕ) {h : History} {before after : Lent L} {calls : List LinkCall} {events : List LinkEvent} → Reached capacity d h (standing meaning before) → Steps (LinkCalled meaning) before calls events after → (map call_of events ≡ calls) × Reached capacity d (reverse_aux events h) (standing meaning after)
  links_driven capacity d so_far done = (refl, so_far)
  links_driven capacity d {h = h} so_far (next {a = e} (is, made, line, sender) others) =
      let then = links_driven capacity d {h = e ∷ h} (makes e made so_far) others in
      (ap₂ (λ (x : LinkCall) xs. x ∷ xs) is then.0, then.1)

  -- what calls lead to is reached from an unused link, so all that is proved of such links holds
  pub lawful : (before after : Lent L) (calls : List LinkCall) (events : List LinkEvent) → length (meaning before.line.now).waiting ≡ 0 → before.receiver.state ≡ fresh → Steps (LinkCalled meaning) before calls events after → Lawful (meaning before.line.now).capacity before.sender.now.disparity calls events (meaning after.line.now) after.sender.now.disparity
  lawful before after calls events empty new steps =
      let line = meaning before.line.now in
      let d = before.sender.now.disparity in
      let small = before.sender.now.binary in
      let unused = reached_unused line d before.receiver.state (nil_from_length _ empty) new in
      let driven = links_driven line.capacity d unused steps in
      record {
        each = driven.0;
        exact = exact line.capacity d small driven.1;
        laws = link_laws line.capacity d small driven.1;
        line_left = line_left line.capacity d small driven.1;
        disparity_left = disparity_left line.capacity d small driven.1;
      }
