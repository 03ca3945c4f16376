-- Rings: lists whose last place is followed by the first.
use Rattle.std.specs.Prelude.{ℕ, ◌-◌, cond, List, ◌++◌, take, drop, nat_lt}

-- The first len elements of a ring from its front on.
unfoldable pub cyclic : {X : Type 0} → List X → ℕ → ℕ → List X
cyclic xs front len = take len (drop front (xs ++ xs))

-- Place n of a ring of so many places, for n below twice their number.
abbrev pub wrap : ℕ → ℕ → ℕ
wrap size n = cond (nat_lt n size) n (n - size)
