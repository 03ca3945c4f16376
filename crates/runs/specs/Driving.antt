-- Calls one after another.
use Rattle.std.specs.Prelude.{List, [], ◌∷◌}

-- The calls lead from one state to another, each with its answer.
pub data Steps {S C A : Type 0} (step : S → C → A → S → Type 0) : S → List C → List A → S → Type 0 where
  done : {s : S} → Steps step s [] [] s
  next : {s t u : S} {c : C} {a : A} {calls : List C} {answers : List A} → step s c a t → Steps step t calls answers u → Steps step s (c ∷ calls) (a ∷ answers) u
