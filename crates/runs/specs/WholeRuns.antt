-- When a run of two ends and two links is declined.
use Rattle.std.specs.Prelude.{ℕ, ◌≤◌, Ok, Err, Result}
use Rattle.line.specs.Waiting.{Meaning}
use Rattle.runs.specs.declared.links.LinkRun.{LinkRun}
use Rattle.runs.specs.declared.refusal.RunRefusal.{RunRefusal}
use Rattle.runs.specs.declared.refusal.RunRefusal.TheVariants.{TooFewPlaces, BitsWaiting}
use Rattle.runs.specs.LinkRuns.{HasPlaces, IsEmpty}

-- Every memory has a place for each of its calls.
abbrev pub Fits : {L M : Type 0} → ℕ → ℕ → LinkRun L → LinkRun M → Type 0
Fits calls places one other = (calls ≤ places) × HasPlaces one × HasPlaces other

-- Declined exactly if some memory has fewer places than its calls, or else if bits wait on a line.
abbrev pub WholeDeclined : {L M X : Type 0} → (L → Meaning) → (M → Meaning) → ℕ → ℕ → LinkRun L → LinkRun M → Result X RunRefusal → Type 0
WholeDeclined meaning₁ meaning₂ calls places one other (Ok value) = Fits calls places one other × IsEmpty meaning₁ one × IsEmpty meaning₂ other
WholeDeclined meaning₁ meaning₂ calls places one other (Err TooFewPlaces) = ¬ Fits calls places one other
WholeDeclined meaning₁ meaning₂ calls places one other (Err BitsWaiting) =
    Fits calls places one other × (IsEmpty meaning₁ one → ¬ IsEmpty meaning₂ other)
