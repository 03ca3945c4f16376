use Rattle.std.proofs.Common.{◌≡◌, drop}
use Rattle.line.specs.Records.{records}
use Rattle.line.specs.Opening.{first_fault}
use Rattle.line.proofs.record.first_fault.Given as goal

-- The first fault from here on is the first of all.
abbrev pub invariant-loop-index : goal.invariant-loop-index
invariant-loop-index l = first_fault l.index (drop l.index (records l.bytes)) ≡ first_fault 0 (records l.bytes)
