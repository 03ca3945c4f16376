use Rattle.std.proofs.Common.{◌≡◌, ℕ, arith}
use Rattle.std.proofs.lemmas.Bool.Decides.{nat_tests}
use Rattle.std.specs.Result.{result_unwrap_or}
use Rattle.code.specs.declared.character.numbers.Kind.TheVariants.{Special}
use Rattle.code.specs.Kinds.{kind_with, kind_from}
use Rattle.code.proofs.Codes.{unlike_with}
use Rattle.code.proofs.character.decoding.has_unlike_columns.Goals as goal

-- a number above 1 is taken for that of a special code
taken : (number : ℕ) → result_unwrap_or (kind_from number) Special ≡ kind_with number
taken number = grind (arith, nat_tests)

pub returns : goal.returns
returns c = rw (c.has_unlike_columns.ensures, c.unwrap_or-kind.ensures, c.try_from.ensures, taken c.args.kind) (unlike_with c.args.kind c.args.byte)
