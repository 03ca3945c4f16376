-- What opening a sender answers.
use Rattle.std.specs.Prelude.{ℕ, cond, Ok, Err, Result, nat_lt}
use Rattle.bringup.specs.declared.end.End.{End}
use Rattle.bringup.specs.declared.end.Outcome.{Outcome}
use Rattle.bringup.specs.declared.end.Outcome.TheVariants.{Pending, Ready, Failed}
use Rattle.bringup.specs.Asking.{outcome_in}
use Rattle.link.specs.declared.sender.Sender.{Sender}
use Rattle.link.specs.declared.sender.OpenRefusal.{OpenRefusal}
use Rattle.link.specs.declared.sender.OpenRefusal.TheVariants.{DisparityAboveOne, NotReady}

-- A refusal to open: its number, and the end, which comes back.
pub record Returned : Type 0 where
  pub number : ℕ
  pub end : End

-- The number of each refusal.
abbrev pub open_refusal : OpenRefusal → Returned
open_refusal (DisparityAboveOne end) = record { number = 14; end = end }
open_refusal (NotReady end) = record { number = 13; end = end }

-- An answer with the disparity for the sender, and the number and the end for the refusal.
abbrev pub opened : Result Sender OpenRefusal → Result ℕ Returned
opened (Ok sender) = Ok sender.disparity
opened (Err refusal) = Err (open_refusal refusal)

-- Only a ready end gives a sender.
abbrev pub opening_by : Outcome → End → ℕ → Result ℕ Returned
opening_by Pending end disparity = Err (open_refusal (NotReady end))
opening_by Ready end disparity = Ok disparity
opening_by Failed end disparity = Err (open_refusal (NotReady end))

-- The first number that applies with the end, or a sender at the disparity.
abbrev pub opening : End → ℕ → Result ℕ Returned
opening end disparity =
    cond (nat_lt 1 disparity) (Err (open_refusal (DisparityAboveOne end))) (opening_by (outcome_in end.phase) end disparity)
