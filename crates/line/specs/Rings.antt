-- Rings: where their places lie, and what taking one into use and letting one go does.
use Rattle.std.specs.Prelude.{◌≡◌, ℕ, ◌+◌, cond, List, take, Some, None, Option, nat_lt}
use Rattle.line.specs.Cyclic.{cyclic, wrap}
use Rattle.line.specs.declared.ring.Ring.{Ring}

-- Place k from the front on.
abbrev pub place_of : Ring → ℕ → ℕ
place_of ring k = wrap ring.size (ring.front + k)

-- The first place in use.
abbrev pub first_of : Ring → Option ℕ
first_of ring = cond (nat_lt 0 ring.count) (Some ring.front) None

-- One place more is in use, behind the last; where all are in use, all stays.
abbrev pub Grown : Ring → Option ℕ → Ring → Type 0
Grown before (Some place) after =
    (place ≡ place_of before before.count) × (after.size ≡ before.size) × (after.front ≡ before.front) × (after.count ≡ before.count + 1)
Grown before None after = (before.count ≡ before.size) × (after ≡ before)

-- The first place is let go; where none is in use, all stays.
abbrev pub Advanced : Ring → Option ℕ → Ring → Type 0
Advanced before (Some place) after =
    (place ≡ before.front) × (after.size ≡ before.size) × (after.front ≡ place_of before 1) × (before.count ≡ after.count + 1)
Advanced before None after = (before.count ≡ 0) × (after ≡ before)

-- The elements of a list that lie in the places in use, the front's first. The list may go on beyond the ring.
unfoldable pub in_use : {X : Type 0} → List X → Ring → List X
in_use xs ring = cyclic (take ring.size xs) ring.front ring.count
