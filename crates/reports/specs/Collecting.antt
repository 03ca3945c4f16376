-- Collecting: what the bits of a tap put into two queues, and why it stops.
use Rattle.std.specs.Prelude.{◌≡◌, ℕ, ◌+◌, ◌-◌, Bool, cond, Option, List, [], ◌∷◌, ◌++◌, length, ◌==◌, nat_lt}
use Rattle.std.specs.Bool.{then_some}
use Rattle.std.specs.Option.{option_map, option_to_list}
use Rattle.link.specs.declared.heard.Settlement.{Settlement}
use Rattle.link.specs.declared.heard.BadDword.{BadDword}
use Rattle.link.specs.declared.heard.Heard.{Heard}
use Rattle.link.specs.declared.heard.Heard.TheVariants as heard
use Rattle.link.specs.declared.heard.Heard.TheVariants.{More, Good}
use Rattle.link.specs.declared.receiver.hearing.HearRefusal.TheVariants.{NumbersSpent}
use Rattle.link.specs.declared.state.State.{State}
use Rattle.link.specs.Hearing.{hearing}
use Rattle.link.specs.Receiving.{most_numbers}
use Rattle.reports.specs.declared.queue.Queue.{Queue}
use Rattle.reports.specs.declared.record.DwordRecord.{DwordRecord}
use Rattle.reports.specs.declared.report.Report.{Report}
use Rattle.reports.specs.declared.report.Report.TheVariants.{Gained, Slip, Bad, Lost}
use Rattle.reports.specs.declared.collecting.Stop.{Stop}
use Rattle.reports.specs.declared.collecting.Stop.TheVariants.{Dry, Spent, DwordsFull, ReportsFull, Declined}
use Rattle.reports.specs.Queues.{Kept}
use Rattle.reports.specs.Shown.{dword_record, bad_report, settlement_report}

-- The dword that an answer hands out.
abbrev pub dwords_of : Heard → List DwordRecord
dwords_of heard.Dry = []
dwords_of More = []
dwords_of heard.Slip = []
dwords_of heard.Gained = []
dwords_of (Good g) = dword_record g ∷ []
dwords_of (heard.Bad b) = []

abbrev pub settlement_reports : Option Settlement → List Report
settlement_reports settlement = option_to_list (option_map settlement_report settlement)

abbrev pub lost_reports : Bool → List Report
lost_reports lost = option_to_list (then_some lost Lost)

abbrev pub bad_reports : BadDword → List Report
bad_reports b = settlement_reports b.settlement ++ ((Bad (bad_report b) ∷ []) ++ lost_reports b.lost)

-- The reports of an answer, three at most.
abbrev pub reports_of : Heard → List Report
reports_of heard.Dry = []
reports_of More = []
reports_of heard.Slip = Slip ∷ []
reports_of heard.Gained = Gained ∷ []
reports_of (Good g) = settlement_reports g.settlement
reports_of (heard.Bad b) = bad_reports b

-- How many bits were taken, why no more, the receiver then, the bits that wait then, and what was put into the queues.
pub record Collection : Type 0 where
  pub bits : ℕ
  pub stop : Stop
  pub state : State
  pub waiting : List ℕ
  pub dwords : List DwordRecord
  pub reports : List Report

abbrev pub stopped : Stop → State → List ℕ → Collection
stopped stop s bits = record { bits = 0; stop = stop; state = s; waiting = bits; dwords = []; reports = [] }

abbrev pub after_one : Heard → Collection → Collection
after_one h c = record {
  bits = c.bits + 1;
  stop = c.stop;
  state = c.state;
  waiting = c.waiting;
  dwords = dwords_of h ++ c.dwords;
  reports = reports_of h ++ c.reports;
}

-- At most so many bits, with so much room for dwords and for reports; the first reason to stop that applies, in this order.
abbrev pub collected : ℕ → ℕ → ℕ → State → List ℕ → Collection
collected most room places s [] = stopped Dry s []
collected most room places s (bit ∷ bits) =
    cond (most == 0) (stopped Spent s (bit ∷ bits))
    (cond (room == 0) (stopped DwordsFull s (bit ∷ bits))
    (cond (nat_lt places 3) (stopped ReportsFull s (bit ∷ bits))
    (cond (s.ledger.number == most_numbers) (stopped (Declined NumbersSpent) s (bit ∷ bits))
    (let h = hearing s bit in
    after_one h.heard
    (collected (most - 1) (room - length (dwords_of h.heard)) (places - length (reports_of h.heard)) h.state bits)))))

-- A collection as it is answered and left in the receiver, the tap and the queues.
pub record Collects (c : Collection) (bits : ℕ) (stop : Stop) (state : State) (waiting : List ℕ) (dwords dwords' : Queue DwordRecord) (reports reports' : Queue Report) : Type 0 where
  pub taken : bits ≡ c.bits
  pub because : stop ≡ c.stop
  pub after : state ≡ c.state
  pub left : waiting ≡ c.waiting
  pub kept_dwords : Kept dwords c.dwords dwords'
  pub kept_reports : Kept reports c.reports reports'
