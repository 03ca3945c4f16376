-- What a tap means, and what taking a bit does to it.
use Rattle.std.specs.Prelude.{◌≡◌, ℕ, ◌<◌, List, [], ◌∷◌, Some, None, Option}

-- The bits that wait, the first to be taken first, and the most bits that can wait, which no call changes.
pub record Meaning : Type 0 where
  pub waiting : List ℕ
  pub capacity : ℕ

-- One more bit before those that wait.
abbrev pub with_first : ℕ → Meaning → Meaning
with_first bit tap = record { waiting = bit ∷ tap.waiting; capacity = tap.capacity }

-- Taking answers the first bit and removes it; where none waits it answers none and alters nothing.
abbrev pub Taken : Meaning → Option ℕ → Meaning → Type 0
Taken before (Some bit) after = before ≡ with_first bit after
Taken before None after = (before.waiting ≡ []) × (after ≡ before)

-- What is taken is a bit.
abbrev pub IsBit : Option ℕ → Type 0
IsBit (Some bit) = bit < 2
IsBit None = Unit {0}

-- A dry tap is left as it was, in every field.
abbrev pub DryStill : {S : Type 0} → Option ℕ → S → S → Type 0
DryStill (Some bit) before after = Unit {0}
DryStill None before after = after ≡ before
