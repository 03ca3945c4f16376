-- Runs of calls on two ends that nobody has used: every answer, the ends afterwards, and the law of agreement.
use Rattle.std.specs.Prelude.{◌≡◌, ℕ, List, [], ◌∷◌, map, vec_items, Result}
use Rattle.code.specs.Refusals.{Refusal, numbered}
use Rattle.bringup.specs.declared.end.End.{End}
use Rattle.bringup.specs.Bringup.{starting, noting, start_refusal, note_refusal}
use Rattle.agreement.specs.FairLine.{started, noted, Call, start, note, Which, here, there, Courses, called, all_called, both_unused, life_of, Outcomes}
use Rattle.runs.specs.declared.ends.WhichEnd.{WhichEnd}
use Rattle.runs.specs.declared.ends.WhichEnd.TheVariants.{First, Second}
use Rattle.runs.specs.declared.ends.EndStep.{EndStep}
use Rattle.runs.specs.declared.ends.EndStep.TheVariants.{Start, Note}
use Rattle.runs.specs.declared.ends.EndCall.{EndCall}
use Rattle.runs.specs.declared.ends.EndRefusal.{EndRefusal}
use Rattle.runs.specs.declared.ends.EndRefusal.TheVariants as refused
use Rattle.runs.specs.declared.ends.TwoEnds.{TwoEnds}
use Rattle.runs.specs.declared.ends.EndRun.{EndRun}

abbrev pub stepped : EndStep → End → End
stepped (Start n) e = started n e
stepped (Note k g) e = noted k g e

-- What a call answers.
abbrev pub answered : EndStep → End → Result Unit Refusal
answered (Start n) e = (starting n e).answer
answered (Note k g) e = (noting k g e).answer

-- A refusal by number.
abbrev pub end_refusal : EndRefusal → Refusal
end_refusal (refused.Start refusal) = start_refusal refusal
end_refusal (refused.Note refusal) = note_refusal refusal

-- Calls as the law speaks of them.
abbrev pub end_of : WhichEnd → Which
end_of First = here
end_of Second = there

abbrev pub call_on : WhichEnd → EndStep → Call
call_on w (Start n) = start (end_of w) n
call_on w (Note k g) = note (end_of w) k g

abbrev pub meant : EndCall → Call
meant c = call_on c.which c.step

abbrev pub state_in : WhichEnd → Courses → End
state_in First c = c.first.state
state_in Second c = c.second.state

abbrev pub answered_in : EndCall → Courses → Result Unit Refusal
answered_in x c = answered x.step (state_in x.which c)

-- The answers of calls one after another.
abbrev pub all_answers : List EndCall → Courses → List (Result Unit Refusal)
all_answers [] c = []
all_answers (x ∷ xs) c = answered_in x c ∷ all_answers xs (called (meant x) c)

-- Two ends as their courses have them.
abbrev pub Stand : Courses → TwoEnds → Type 0
Stand c e = (c.first.state ≡ e.first) × (c.second.state ≡ e.second)

-- A call of two ends: what it answers, and the ends afterwards.
abbrev pub EndsCalled : TwoEnds → EndCall → Result Unit EndRefusal → TwoEnds → Type 0
EndsCalled ends call answer after =
    (c : Courses) → Stand c ends →
    Stand (called (meant call) c) after × (numbered end_refusal answer ≡ answered_in call c)

-- A run of the calls: the ends are what the calls make of unused ones, every call has its answer, and the ends agree on
-- every fair line, whenever they were started.
pub record EndRunOf (calls : List EndCall) (run : EndRun) : Type 0 where
  pub ends : Stand (all_called (map meant calls) both_unused) run.ends
  pub answers : map (numbered end_refusal) (vec_items run.answers) ≡ all_answers calls both_unused
  pub agree : (delay first second : ℕ) →
      let c = all_called (map meant calls) both_unused in
      Outcomes delay c (life_of first c.first) (life_of second c.second)
