-- What lines mean: meanings with the same parts are the same, and a capacity is a multiple of ten within the memory.
use Rattle.std.proofs.Common.{◌≡◌, ℕ, ◌+◌, ◌*◌, ◌/◌, ◌<◌, ◌≤◌, ◌++◌, length, Ok, ap, ◌∙◌, arith}
use Rattle.code.specs.Bits.{bits_of, inverted}
use Rattle.std.proofs.lemmas.Bool.Decides.{nat_tests}
use Rattle.line.specs.Waiting.{Meaning}
use Rattle.line.specs.Writing.{line_capacity, accepted, putting, turning}

pub same_meaning : (a b : Meaning) → a.waiting ≡ b.waiting → a.capacity ≡ b.capacity → a ≡ b
same_meaning a b e f =
    ap (λ bits. record { waiting = bits; capacity = a.capacity }) e
    ∙ ap (λ n. record { waiting = b.waiting; capacity = n }) f

pub capacity_within : (bits : ℕ) → line_capacity bits ≤ bits
capacity_within bits = grind (arith, nat_tests)

pub capacity_small : (bits : ℕ) → line_capacity bits ≤ 65530
capacity_small bits = grind (arith, nat_tests)

pub capacity-tens : (bits : ℕ) → line_capacity bits ≡ 10 * (line_capacity bits / 10)
capacity-tens bits = grind (arith, nat_tests)

pub capacity_range : (bits n : ℕ) → n ≡ line_capacity bits → n ≡ line_capacity n
capacity_range bits n e = grind (arith, nat_tests)

pub put_accepted : (line : Meaning) (character : ℕ) → Ok tt ≡ (putting line character).answer → (character ≤ 1023) × (length line.waiting + 10 ≤ line.capacity)
put_accepted line character e = grind (arith, nat_tests)

pub put_line : (line : Meaning) (character : ℕ) → Ok tt ≡ (putting line character).answer
    → (accepted (line.waiting ++ bits_of 10 character) line).line ≡ (putting line character).line
put_line line character e = grind (arith, nat_tests)

pub turn_accepted : (line : Meaning) (place : ℕ) → Ok tt ≡ (turning line place).answer → place < length line.waiting
turn_accepted line place e = grind (arith, nat_tests)

pub turn_line : (line : Meaning) (place : ℕ) → Ok tt ≡ (turning line place).answer
    → (accepted (inverted line.waiting place) line).line ≡ (turning line place).line
turn_line line place e = grind (arith, nat_tests)
