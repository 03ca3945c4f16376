-- The meaning of one end's bring-up: what a tick and a sign do, and what the calls answer and leave.
use Rattle.std.specs.Prelude.{ℕ, zero, suc, ◌+◌, Bool, true, false, cond, ◌&&◌, ◌||◌, Some, None, Ok, Err, Option, Result, ◌==◌, nat_le, nat_lt}
use Rattle.code.specs.Refusals.{Refusal, plain}
use Rattle.bringup.specs.declared.detector.Detector.{Detector}
use Rattle.bringup.specs.declared.rate.Rate.{Rate}
use Rattle.bringup.specs.declared.rate.Rate.TheVariants.{G1}
use Rattle.bringup.specs.declared.rate.RateSet.{RateSet}
use Rattle.bringup.specs.declared.end.End.{End}
use Rattle.bringup.specs.declared.end.Phase.{Phase}
use Rattle.bringup.specs.declared.end.Phase.TheVariants.{Unstarted, SendingCominit, Awaiting, SendingComsas, Falling, Negotiating, Ready, Failed}
use Rattle.bringup.specs.declared.end.Standing.{Standing}
use Rattle.bringup.specs.declared.end.Standing.TheVariants.{AfterInvalid, AfterValid, Final}
use Rattle.bringup.specs.declared.end.Window.{Window}
use Rattle.bringup.specs.declared.end.Sign.{Sign}
use Rattle.bringup.specs.declared.end.Sign.TheVariants as sign
use Rattle.bringup.specs.declared.end.noting.StartRefusal.{StartRefusal}
use Rattle.bringup.specs.declared.end.noting.StartRefusal.TheVariants.{RateSetOutside, StartedBefore}
use Rattle.bringup.specs.declared.end.noting.NoteRefusal.{NoteRefusal}
use Rattle.bringup.specs.declared.end.noting.NoteRefusal.TheVariants.{TooManyTicks, SignOutside, NotStarted}
use Rattle.bringup.specs.Detection.{passed, risen, ceased, deaf}
use Rattle.bringup.specs.Rates.{supports, next_rate, previous_rate, past_highest, rate_set}

-- ---- Phases

abbrev pub entered : Phase → End → End
entered p e = record { rates = e.rates; phase = p; elapsed = 0; detector = e.detector; window = e.window }

-- A window opens.
abbrev pub opened : Rate → Standing → End → End
opened r standing e = record {
  rates = e.rates;
  phase = Negotiating;
  elapsed = 0;
  detector = e.detector;
  window = Some (record { rate = r; standing = standing; locked = false; aligned = false });
}

abbrev pub signalled : Detector → Bool
signalled d = d.cominit || d.comsas

-- COMINIT is sent: COMSAS follows as soon as COMINIT or COMSAS has been detected.
abbrev pub awaited : End → End
awaited e = cond (signalled e.detector) (entered SendingComsas e) (entered Awaiting e)

-- COMSAS is sent: the first window follows as soon as the other's has fallen.
abbrev pub awaited_fall : End → End
awaited_fall e = cond e.detector.fallen (opened G1 AfterInvalid e) (entered Falling e)

-- What follows a window. After a valid one the next; after an invalid one, if the previous was valid, a final one at that
-- rate; else failed if this was one above the highest supported rate; else the next. The final one gives ready or failed.
abbrev pub closing_as : Standing → Window → End → End
closing_as AfterInvalid w e =
    cond w.aligned (opened (next_rate w.rate) AfterValid e)
    (cond (past_highest e.rates w.rate) (entered Failed e) (opened (next_rate w.rate) AfterInvalid e))
closing_as AfterValid w e = cond w.aligned (opened (next_rate w.rate) AfterValid e) (opened (previous_rate w.rate) Final e)
closing_as Final w e = entered (cond w.aligned Ready Failed) e

abbrev pub closing : Window → End → End
closing w e = closing_as w.standing w e

-- The latest window closes.
abbrev pub closed_window : Option Window → End → End
closed_window None e = e
closed_window (Some w) e = closing w e

-- The transitions that are due, by the phase: COMINIT lasts 9,255 ticks, COMSAS 23,925, a window 960 + 327,680; and the
-- end fails if 32,640 ticks pass after COMSAS with none detected.
abbrev pub settled : Phase → End → End
settled Unstarted e = e
settled SendingCominit e = cond (nat_lt e.elapsed 9255) e (awaited e)
settled Awaiting e = cond (signalled e.detector) (entered SendingComsas e) e
settled SendingComsas e = cond (nat_lt e.elapsed 23925) e (awaited_fall e)
settled Falling e =
    cond e.detector.fallen (opened G1 AfterInvalid e)
    (cond (e.detector.comsas || nat_lt e.elapsed 32640) e (entered Failed e))
settled Negotiating e = cond (nat_lt e.elapsed 328640) e (closed_window e.window e)
settled Ready e = e
settled Failed e = e

-- ---- A tick

-- Ticks past the longest phase need not be counted.
abbrev pub later : ℕ → ℕ
later n = cond (nat_lt n 328640) (n + 1) n

-- A tick goes by, before any transition.
abbrev pub aged : End → End
aged e = record {
  rates = e.rates;
  phase = e.phase;
  elapsed = later e.elapsed;
  detector = passed e.detector;
  window = e.window;
}

abbrev pub tick : End → End
tick e = settled e.phase (aged e)

abbrev pub ticks : ℕ → End → End
ticks zero e = e
ticks (suc k) e = tick (ticks k e)

-- ---- A sign

abbrev pub detecting : Detector → End → End
detecting d e = record { rates = e.rates; phase = e.phase; elapsed = e.elapsed; detector = d; window = e.window }

abbrev pub in_window : Window → End → End
in_window w e = record { rates = e.rates; phase = e.phase; elapsed = e.elapsed; detector = e.detector; window = Some w }

abbrev pub is_awaiting : Phase → Bool
is_awaiting Unstarted = false
is_awaiting SendingCominit = false
is_awaiting Awaiting = true
is_awaiting SendingComsas = false
is_awaiting Falling = false
is_awaiting Negotiating = false
is_awaiting Ready = false
is_awaiting Failed = false

abbrev pub is_negotiating : Phase → Bool
is_negotiating Unstarted = false
is_negotiating SendingCominit = false
is_negotiating Awaiting = false
is_negotiating SendingComsas = false
is_negotiating Falling = false
is_negotiating Negotiating = true
is_negotiating Ready = false
is_negotiating Failed = false

abbrev pub is_unstarted : Phase → Bool
is_unstarted Unstarted = true
is_unstarted SendingCominit = false
is_unstarted Awaiting = false
is_unstarted SendingComsas = false
is_unstarted Falling = false
is_unstarted Negotiating = false
is_unstarted Ready = false
is_unstarted Failed = false

-- A lock counts at a supported rate, at most 313,425 ticks into a window's second part, which starts at 960.
abbrev pub lock_counts : Window → End → Bool
lock_counts w e =
    is_negotiating e.phase && (supports e.rates w.rate && (nat_le 960 e.elapsed && nat_le e.elapsed (960 + 313425)))

abbrev pub locked_window : Window → Window
locked_window w = record { rate = w.rate; standing = w.standing; locked = true; aligned = w.aligned }

abbrev pub aligned_window : Window → Window
aligned_window w = record { rate = w.rate; standing = w.standing; locked = w.locked; aligned = true }

-- A lock in the latest window.
abbrev pub locked_in : Option Window → End → End
locked_in None e = e
locked_in (Some w) e = cond (lock_counts w e) (in_window (locked_window w) e) e

-- An ALIGN(1) in the latest window, which it makes valid if a lock counted before.
abbrev pub aligned_in : Option Window → End → End
aligned_in None e = e
aligned_in (Some w) e = cond (is_negotiating e.phase && w.locked) (in_window (aligned_window w) e) e

-- A sign with no place in the phase does nothing.
abbrev pub signed : Sign → End → End
signed sign.Nothing e = e
signed sign.BurstStarts e =
    cond (is_awaiting e.phase && signalled (risen e.detector))
    (entered SendingComsas (detecting (risen e.detector) e)) (detecting (risen e.detector) e)
signed sign.BurstEnds e = detecting (ceased e.detector) e
signed sign.Locked e = locked_in e.window e
signed sign.Align1 e = aligned_in e.window e

-- Signs by number.
abbrev pub sign_at : ℕ → Sign
sign_at g =
    cond (g == 1) sign.BurstStarts (cond (g == 2) sign.BurstEnds (cond (g == 3) sign.Locked (cond (g == 4) sign.Align1 sign.Nothing)))

-- ---- Calls

abbrev pub start_refusal : StartRefusal → Refusal
start_refusal RateSetOutside = plain 8
start_refusal StartedBefore = plain 9

abbrev pub note_refusal : NoteRefusal → Refusal
note_refusal TooManyTicks = plain 10
note_refusal SignOutside = plain 11
note_refusal NotStarted = plain 12

-- Rate sets by number, and signs by number, refused where there is none.
abbrev pub rates_numbered : ℕ → Result RateSet StartRefusal
rates_numbered n = cond (n == 0 || nat_lt 7 n) (Err RateSetOutside) (Ok (rate_set n))

abbrev pub sign_numbered : ℕ → Result Sign NoteRefusal
sign_numbered g = cond (nat_lt 4 g) (Err SignOutside) (Ok (sign_at g))

-- An end that nobody has used.
abbrev pub unused : End
unused = record {
  rates = record { g1 = false; g2 = false; g3 = false };
  phase = Unstarted;
  elapsed = 0;
  detector = deaf;
  window = None;
}

-- An end just started.
abbrev pub begun : RateSet → End
begun rates = record { rates = rates; phase = SendingCominit; elapsed = 0; detector = deaf; window = None }

-- An answer, and the end afterwards.
pub record Called : Type 0 where
  pub answer : Result Unit Refusal
  pub end : End

abbrev pub declined : Refusal → End → Called
declined refusal e = record { answer = Err refusal; end = e }

abbrev pub done : End → Called
done e = record { answer = Ok tt; end = e }

abbrev pub starting : ℕ → End → Called
starting n e =
    cond (n == 0 || nat_lt 7 n) (declined (start_refusal RateSetOutside) e)
    (cond (is_unstarted e.phase) (done (begun (rate_set n))) (declined (start_refusal StartedBefore) e))

-- So many ticks pass, and then the sign follows.
abbrev pub noting : ℕ → ℕ → End → Called
noting k g e =
    cond (nat_lt 400000 k) (declined (note_refusal TooManyTicks) e)
    (cond (nat_lt 4 g) (declined (note_refusal SignOutside) e)
    (cond (is_unstarted e.phase) (declined (note_refusal NotStarted) e)
    (done (signed (sign_at g) (ticks k e)))))
