-- Runs of calls on two ends that nobody has used, with the answers in lent memory: the memory afterwards, when the run is
-- declined, and the law of agreement.
use Rattle.std.specs.Prelude.{◌≡◌, ℕ, ◌<◌, ◌≤◌, List, map, length, take, drop, Ok, Err, Result}
use Rattle.agreement.specs.FairLine.{Courses, all_called, both_unused, life_of, Outcomes}
use Rattle.runs.specs.declared.ends.EndCall.{EndCall}
use Rattle.runs.specs.declared.ends.EndRefusal.{EndRefusal}
use Rattle.code.specs.Refusals.{numbered}
use Rattle.runs.specs.declared.refusal.RunRefusal.{RunRefusal}
use Rattle.runs.specs.declared.refusal.RunRefusal.TheVariants.{TooFewPlaces}
use Rattle.runs.specs.EndRuns.{meant, end_refusal, all_answers}

-- What the calls make of two unused ends.
abbrev pub courses : List EndCall → Courses
courses calls = all_called (map meant calls) both_unused

-- Memory after the calls: every call's answer is in its place, in order, and the other places stay.
abbrev pub Written : List EndCall → List (Result Unit EndRefusal) → List (Result Unit EndRefusal) → Type 0
Written calls before after =
    (map (numbered end_refusal) (take (length calls) after) ≡ all_answers calls both_unused)
    × (drop (length calls) after ≡ drop (length calls) before)

-- The same by what was answered: if declined, all places stay.
abbrev pub Answered : {X : Type 0} → List EndCall → Result X RunRefusal → List (Result Unit EndRefusal) → List (Result Unit EndRefusal) → Type 0
Answered calls (Ok value) before after = Written calls before after
Answered calls (Err refusal) before after = after ≡ before

-- Declined exactly if there are fewer places than calls.
abbrev pub Declined : {X : Type 0} → ℕ → ℕ → Result X RunRefusal → Type 0
Declined calls places (Ok value) = calls ≤ places
Declined calls places (Err refusal) = (refusal ≡ TooFewPlaces) × (places < calls)

-- The law of agreement: on every fair line, whenever they were started, the two ends that were called so agree.
abbrev pub EndsAgree : List EndCall → Type 0
EndsAgree calls =
    (delay first second : ℕ) →
    Outcomes delay (courses calls) (life_of first (courses calls).first) (life_of second (courses calls).second)
