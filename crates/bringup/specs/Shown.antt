-- How what an end sends and what became of it are printed.
use Rattle.std.specs.Prelude.{ℕ, List, codes}
use Rattle.bringup.specs.declared.end.Activity.{Activity}
use Rattle.bringup.specs.declared.end.Activity.TheVariants.{Idle, Burst, Align0, Align1}
use Rattle.bringup.specs.declared.end.Outcome.{Outcome}
use Rattle.bringup.specs.declared.end.Outcome.TheVariants.{Pending, Ready, Failed}

abbrev pub activity_text : Activity → List ℕ
activity_text Idle = codes "idle"
activity_text Burst = codes "burst"
activity_text Align0 = codes "ALIGN(0)"
activity_text Align1 = codes "ALIGN(1)"

abbrev pub outcome_text : Outcome → List ℕ
outcome_text Pending = codes "neither"
outcome_text Ready = codes "ready"
outcome_text Failed = codes "failed"
