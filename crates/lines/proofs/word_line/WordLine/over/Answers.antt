use Rattle.std.proofs.Common.{refl}
use Rattle.lines.proofs.Characters.{no_characters}
use Rattle.lines.proofs.Meanings.{same_meaning}
use Rattle.lines.proofs.word_line.WordLine.over.Goals as goal

pub returns-clause-line : goal.returns-clause-line
returns-clause-line c =
    same_meaning _ _ (no_characters c.args.memory.now c.over.result 0 c.over.ensures.count refl) refl
