use Rattle.std.proofs.Common.{take}
use Rattle.code.specs.Bits.{bits_of}
use Rattle.lines.specs.Packed.{Appended}
use Rattle.lines.proofs.packed_line.PackedLine.append.Given as goal

-- The first k bits of the character have joined.
abbrev pub invariant-loop-k : goal.invariant-loop-k
invariant-loop-k l = Appended l.initial.self (take l.k (bits_of 10 l.character)) l.self
