-- Lists of calls on two ends, one call after another.
use Rattle.std.proofs.Common.{◌≡◌, List, [], ◌∷◌, ◌++◌, map, Result, refl, ap, ap₂}
use Rattle.code.specs.Refusals.{Refusal, numbered}
use Rattle.agreement.specs.FairLine.{Call, Courses, called, all_called}
use Rattle.runs.specs.declared.ends.EndCall.{EndCall}
use Rattle.runs.specs.declared.ends.EndRefusal.{EndRefusal}
use Rattle.runs.specs.declared.ends.TwoEnds.{TwoEnds}
use Rattle.runs.specs.Driving.{Steps, done, next}
use Rattle.runs.specs.EndRuns.{meant, end_refusal, answered_in, all_answers, Stand, EndsCalled}

-- calls and then others
pub all_called-append : (xs ys : List Call) (c : Courses) → all_called (xs ++ ys) c ≡ all_called ys (all_called xs c)
all_called-append [] ys c = refl
all_called-append (x ∷ xs) ys c = all_called-append xs ys (called x c)

-- their answers are answers and then others
pub all_answers-append : (xs ys : List EndCall) (c : Courses) → all_answers (xs ++ ys) c ≡ all_answers xs c ++ all_answers ys (all_called (map meant xs) c)
all_answers-append [] ys c = refl
all_answers-append (x ∷ xs) ys c = ap (λ (l : List (Result Unit Refusal)). answered_in x c ∷ l) (all_answers-append xs ys (called (meant x) c))

-- ends that stand as courses have them stand so after the calls, and every answer is that of its call
pub ends_driven : (c : Courses) {before after : TwoEnds} {calls : List EndCall} {answers : List (Result Unit EndRefusal)} → Stand c before → Steps EndsCalled before calls answers after → Stand (all_called (map meant calls) c) after × (map (numbered end_refusal) answers ≡ all_answers calls c)
ends_driven c stand done = (stand, refl)
ends_driven c {calls = call ∷ calls} stand (next made others) =
    let one = made c stand in
    let then = ends_driven (called (meant call) c) one.0 others in
    (then.0, ap₂ (λ (x : Result Unit Refusal) xs. x ∷ xs) one.1 then.1)
