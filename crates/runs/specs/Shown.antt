-- How the two ends are told apart in print.
use Rattle.std.specs.Prelude.{ℕ, List, codes}
use Rattle.runs.specs.declared.ends.WhichEnd.{WhichEnd}
use Rattle.runs.specs.declared.ends.WhichEnd.TheVariants.{First, Second}

abbrev pub which_text : WhichEnd → List ℕ
which_text First = codes "first"
which_text Second = codes "second"
