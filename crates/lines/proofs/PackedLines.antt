-- The laws of a line over packed bits, from what holds of every such line.
use Rattle.std.proofs.Common.{◌≡◌, ℕ, ◌+◌, ◌*◌, ◌<◌, ◌≤◌, List, [], ◌∷◌, ◌++◌, length, get_or, take, set, sym, refl, ap, ◌∙◌, subst, arith}
use Rattle.std.proofs.Math.Nat.{ℕ_set}
use Rattle.std.proofs.lemmas.List.{append-nil, append_assoc, length_push, length-take-le, take_more, take_all}
use Rattle.line.specs.Cyclic.{wrap}
use Rattle.line.specs.Rings.{place_of}
use Rattle.line.specs.Waiting.{Meaning}
use Rattle.line.specs.Writing.{accepted, line_capacity}
use Rattle.line.specs.declared.ring.Ring.{Ring}
use Rattle.line.proofs.Rings.{length_in_use}
use Rattle.lines.specs.Packed.{packed_meaning, memory_bits, overwritten, Appended}
use Rattle.lines.specs.declared.packed_line.PackedLine.{PackedLine}
use Rattle.lines.proofs.Meanings.{capacity_within}
use Rattle.lines.proofs.PackedBits.{length_bits, overwritten-more}

module _ (line : PackedLine) where
  pub size_within : line.ring.size ≤ 8 * length line.bytes.now
  size_within = omega (arith, line.sized, capacity_within (8 * length line.bytes.now))

  pub ring_within : line.ring.size ≤ length (memory_bits line)
  ring_within = omega (arith, size_within, length_bits line.bytes.now)

  pub length_waiting : length (packed_meaning line).waiting ≡ line.ring.count
  length_waiting = length_in_use (memory_bits line) line.ring ring_within

pub appended_none : (line : PackedLine) → Appended line [] line
unfolding overwritten
appended_none line =
    record {
      line = ap (λ bits. (accepted bits (packed_meaning line)).line) (sym (append-nil (packed_meaning line).waiting));
      memory = refl;
      front = refl;
      count = omega arith;
      lent = refl;
    }

-- One bit more joins.
appended-more : (before middle after : PackedLine) (bits : List ℕ) (bit : ℕ)
    → Appended before bits middle → Appended middle (bit ∷ []) after → Appended before (bits ++ bit ∷ []) after
unfolding overwritten
appended-more before middle after bits bit a b =
    let size : middle.ring.size ≡ before.ring.size = ap (λ (m : Meaning). m.capacity) a.line in
    let count : middle.ring.front + middle.ring.count ≡ before.ring.front + (before.ring.count + length bits) = omega (arith, a.front, a.count) in
    let place : place_of middle.ring middle.ring.count ≡ place_of before.ring (before.ring.count + length bits) =
    ap (λ n. wrap n (middle.ring.front + middle.ring.count)) size ∙ ap (wrap before.ring.size) count in
    record {
      line =
          b.line
          ∙ (ap (λ m. (accepted (m.waiting ++ bit ∷ []) m).line) a.line
          ∙ ap (λ w. (accepted w (packed_meaning before)).line) (append_assoc (packed_meaning before).waiting bits (bit ∷ [])));
      memory =
          b.memory
          ∙ (ap (λ n. set (memory_bits middle) n bit) place
          ∙ (ap (λ m. set m (place_of before.ring (before.ring.count + length bits)) bit) a.memory
          ∙ sym (overwritten-more before.ring before.ring.count bit bits (memory_bits before))));
      front = b.front ∙ a.front;
      count = omega (arith, a.count, b.count, length_push bits bit);
      lent = b.lent ∙ a.lent;
    }

-- The bits of a list join one by one.
module _ (before middle : PackedLine) (bits : List ℕ) (k : ℕ) (a : Appended before (take k bits) middle) where
  pub room-left : k < length bits → length (packed_meaning before).waiting + length bits ≤ before.ring.size
      → middle.ring.count < middle.ring.size
  room-left h room =
      let size : middle.ring.size ≡ before.ring.size = ap (λ (m : Meaning). m.capacity) a.line in
      omega (arith, length_waiting before, a.count, length-take-le k bits (omega arith))

  pub appended_next : (after : PackedLine) (bit : ℕ) → k < length bits → bit ≡ get_or bits k 0 → Appended middle (bit ∷ []) after
      → Appended before (take (k + 1) bits) after
  appended_next after bit h e b =
      let one_more : take k bits ++ bit ∷ [] ≡ take (k + 1) bits = ap (λ x. take k bits ++ x ∷ []) e ∙ sym (take_more bits k 0 h) in
      subst (λ bs. Appended before bs after) one_more (appended-more before middle after (take k bits) bit a b)

  pub appended_all : length bits ≤ k → Appended before bits middle
  appended_all h = subst (λ bs. Appended before bs middle) (take_all k bits h) a

-- A line whose ring is the same is the same.
pub same_line : (line : PackedLine) (ring : Ring) (sized : ring.size ≡ line_capacity (8 * length line.bytes.now)) → ring ≡ line.ring
    → record { bytes = line.bytes; ring = ring; sized = sized } ≡ line
same_line line ring sized e =
    subst
    (λ r. (h : r.size ≡ line_capacity (8 * length line.bytes.now)) → record { bytes = line.bytes; ring = r; sized = h } ≡ line)
    (sym e)
    (λ h. ap (λ (s : line.ring.size ≡ line_capacity (8 * length line.bytes.now)). record { bytes = line.bytes; ring = line.ring; sized = s }) (ℕ_set _ _ h line.sized))
    sized
