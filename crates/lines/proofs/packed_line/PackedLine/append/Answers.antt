use Rattle.code.specs.Bits.{bits_of}
use Rattle.std.proofs.Common.{arith}
use Rattle.lines.proofs.PackedLines.{appended_none, room-left, appended_next, appended_all}
use Rattle.lines.proofs.packed_line.PackedLine.append.Goals as goal

pub loop-k-init : goal.loop-k-init
loop-k-init c = appended_none c.args.self.now

pub append_bit-requires : goal.append_bit-requires
append_bit-requires c =
    let bits = bits_of 10 c.args.character in (
      room-left c.args.self.now c.loop-k.self bits c.loop-k.k c.loop-k.invariant c.loop-k-test.true c.requires,
      c.bit_of_character.ensures.bit,
    )

pub loop-k-preserved : goal.loop-k-preserved
loop-k-preserved c =
    appended_next c.args.self.now c.loop-k.self (bits_of 10 c.args.character) c.loop-k.k c.loop-k.invariant c.append_bit.new.self c.bit_of_character.result c.loop-k-test.true c.bit_of_character.ensures.value c.append_bit.ensures

pub returns : goal.returns
returns c =
    appended_all c.args.self.now c.loop-k.self (bits_of 10 c.args.character) c.loop-k.k c.loop-k.invariant (omega arith)
