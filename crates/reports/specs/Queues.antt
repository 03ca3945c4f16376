-- Queues over borrowed memory: the elements that wait, and what pushing and popping do to them and to the memory.
use Rattle.std.specs.Prelude.{◌≡◌, ℕ, ◌+◌, ◌-◌, cond, List, [], ◌∷◌, ◌++◌, length, take, Some, None, Ok, Err, Option, Result, ◌==◌, slice_set}
use Rattle.code.specs.Refusals.{Refusal, plain}
use Rattle.reports.specs.declared.queue.Queue.{Queue}
use Rattle.reports.specs.declared.queue.QueueRefusal.{QueueRefusal}
use Rattle.reports.specs.declared.queue.QueueRefusal.TheVariants.{Full}
use Rattle.line.specs.Cyclic.{cyclic, wrap}

module _ {T : Type 0} where
  abbrev pub queue_refusal : QueueRefusal T → Refusal
  queue_refusal (Full element) = plain 21

  -- What the borrowed memory holds.
  abbrev pub memory_of : Queue T → List T
  memory_of q = q.memory.now

  -- The place of memory that the first element has.
  abbrev pub start : Queue T → ℕ
  start q = q.ring.front

  -- How many elements wait.
  abbrev pub count_of : Queue T → ℕ
  count_of q = q.ring.count

  -- The elements that wait, the next to be popped first.
  abbrev pub elements : Queue T → List T
  elements q = cyclic (memory_of q) (start q) (count_of q)

  -- How many elements can still be pushed.
  abbrev pub room_of : Queue T → ℕ
  room_of q = length (memory_of q) - count_of q

  -- The place of memory that the next pushed element takes.
  abbrev pub free_place : Queue T → ℕ
  free_place q = wrap (length (memory_of q)) (start q + count_of q)

  -- What pushing answers.
  abbrev pub pushing : Queue T → T → Result Unit Refusal
  pushing q x = cond (room_of q == 0) (Err (queue_refusal (Full x))) (Ok tt)

  -- A queue before and after one element was pushed: it joins at the end and is written to one place of memory.
  pub record Appended (before : Queue T) (x : T) (after : Queue T) : Type 0 where
    pub joined : elements after ≡ elements before ++ x ∷ []
    pub memory : memory_of after ≡ slice_set (memory_of before) (free_place before) x
    pub count : count_of after ≡ count_of before + 1
    pub first : start after ≡ start before

  -- A refused element comes back, and nothing changes.
  abbrev pub Pushed : Queue T → T → Result Unit (QueueRefusal T) → Queue T → Type 0
  Pushed before x (Ok _) after = Appended before x after
  Pushed before x (Err (Full y)) after = (y ≡ x) × (after ≡ before)

  -- The first element leaves, and the memory stays; an empty queue does not change.
  abbrev pub Popped : Queue T → Option T → Queue T → Type 0
  Popped before (Some x) after = (elements before ≡ x ∷ elements after) × (memory_of after ≡ memory_of before)
  Popped before None after = (elements before ≡ []) × (after ≡ before)

  -- Memory after more elements were pushed than the count that wait from a start.
  abbrev pub written : ℕ → ℕ → List T → List T → List T
  written start count [] memory = memory
  written start count (x ∷ xs) memory = written start (count + 1) xs (slice_set memory (wrap (length memory) (start + count)) x)

  -- A queue before and after some elements were pushed.
  pub record Kept (before : Queue T) (xs : List T) (after : Queue T) : Type 0 where
    pub appended : elements after ≡ elements before ++ xs
    pub count : count_of after ≡ count_of before + length xs
    pub room : room_of after ≡ room_of before - length xs
    pub memory : memory_of after ≡ written (start before) (count_of before) xs (memory_of before)
    pub first : start after ≡ start before

  -- The same, of as many of the elements as there was room for.
  abbrev pub Filled : Queue T → List T → Queue T → Type 0
  Filled before xs after = Kept before (take (room_of before) xs) after
