-- Calls one after another, and one more.
use Rattle.std.proofs.Common.{◌≡◌, ℕ, ◌+◌, ◌<◌, List, [], ◌∷◌, ◌++◌, length, get_or, take, set}
use Rattle.std.proofs.lemmas.List.{take_more, take_more_set}
use Rattle.runs.specs.Driving.{Steps, done, next}

module _ {S C A : Type 0} (step : S → C → A → S → Type 0) where
  -- a call more
  steps_more : {s t u : S} {calls : List C} {answers : List A} {c : C} {a : A} → Steps step s calls answers t → step t c a u → Steps step s (calls ++ (c ∷ [])) (answers ++ (a ∷ [])) u
  steps_more done last = next last done
  steps_more (next first others) last = next first (steps_more others last)

  -- the call at i, with its answer written there
  pub steps_on : (s t u : S) (calls : List C) (answers : List A) (i : ℕ) (c : C) (a : A) → i < length calls → i < length answers → c ≡ get_or calls i c → Steps step s (take i calls) (take i answers) t → step t c a u → Steps step s (take (i + 1) calls) (take (i + 1) (set answers i a)) u
  steps_on s t u calls answers i c a lt room is so_far last =
      rw (take_more calls i c lt, take_more_set answers i a room, ← is) (steps_more so_far last)
