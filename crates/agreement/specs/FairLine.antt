-- Two ends on a fair line: what the line promises, and what the two ends then come to.
use Rattle.std.specs.Prelude.{◌≡◌, ℕ, zero, suc, ◌+◌, ◌-◌, ◌<◌, ◌≤◌, max, Bool, true, false, cond, not, ◌&&◌, ◌||◌, ◌⊎◌, Some, Option, List, [], ◌∷◌, ◌++◌, ◌==◌, ◌≢◌, nat_lt}
use Rattle.bringup.specs.declared.end.Phase.{Phase}
use Rattle.bringup.specs.declared.rate.Rate.{Rate}
use Rattle.bringup.specs.declared.rate.RateSet.{RateSet}
use Rattle.bringup.specs.declared.end.End.{End}
use Rattle.bringup.specs.declared.end.Sign.{Sign}
use Rattle.bringup.specs.declared.end.Sign.TheVariants.{Nothing, BurstStarts, BurstEnds, Locked, Align1}
use Rattle.bringup.specs.declared.end.Outcome.{Outcome}
use Rattle.bringup.specs.declared.end.Outcome.TheVariants as outcome
use Rattle.bringup.specs.declared.end.Activity.{Activity}
use Rattle.bringup.specs.declared.end.Activity.TheVariants.{Idle, Burst}
use Rattle.bringup.specs.declared.end.Activity.TheVariants as sends
use Rattle.bringup.specs.Bringup.{starting, noting, is_unstarted, signed, tick, sign_at, begun, unused}
use Rattle.bringup.specs.Rates.{supports}
use Rattle.bringup.specs.Asking.{activity, latest_rate, outcome_in}

-- An end after a start, and after a note, declined or not.
abbrev pub started : ℕ → End → End
started n e = (starting n e).end

abbrev pub noted : ℕ → ℕ → End → End
noted k g e = (noting k g e).end

-- What one end noted since its start: each note is the ticks since the one before, and a sign.
pub record Note : Type 0 where
  pub ticks : ℕ
  pub sign : Sign

-- how many ticks the end has lived
abbrev pub age : List Note → ℕ
age [] = 0
age (n ∷ ns) = n.ticks + age ns

-- the signs noted at an end's tick t
abbrev pub signs_at : List Note → ℕ → List Sign
signs_at [] t = []
signs_at (n ∷ ns) t =
    cond (nat_lt t n.ticks) [] (cond (t == n.ticks) (n.sign ∷ signs_at ns 0) (signs_at ns (t - n.ticks)))

abbrev pub all_signed : List Sign → End → End
all_signed [] e = e
all_signed (g ∷ gs) e = all_signed gs (signed g e)

-- the state at the end of tick t, by what is noted at each tick
unfoldable pub after : (ℕ → List Sign) → End → ℕ → End
after h e zero = all_signed (h 0) e
after h e (suc t) = all_signed (h (suc t)) (tick (after h e t))

-- One end's life: the common clock's tick at which it was started, with which rates, and its notes
pub record Life : Type 0 where
  pub born : ℕ
  pub rates : RateSet
  pub notes : List Note

abbrev pub state_at : Life → ℕ → End
state_at s t = after (signs_at s.notes) (begun s.rates) t

abbrev pub present : Life → End
present s = state_at s (age s.notes)

abbrev pub is_sign : Sign → Sign → Bool
is_sign Nothing Nothing = true
is_sign Nothing BurstStarts = false
is_sign Nothing BurstEnds = false
is_sign Nothing Locked = false
is_sign Nothing Align1 = false
is_sign BurstStarts Nothing = false
is_sign BurstStarts BurstStarts = true
is_sign BurstStarts BurstEnds = false
is_sign BurstStarts Locked = false
is_sign BurstStarts Align1 = false
is_sign BurstEnds Nothing = false
is_sign BurstEnds BurstStarts = false
is_sign BurstEnds BurstEnds = true
is_sign BurstEnds Locked = false
is_sign BurstEnds Align1 = false
is_sign Locked Nothing = false
is_sign Locked BurstStarts = false
is_sign Locked BurstEnds = false
is_sign Locked Locked = true
is_sign Locked Align1 = false
is_sign Align1 Nothing = false
is_sign Align1 BurstStarts = false
is_sign Align1 BurstEnds = false
is_sign Align1 Locked = false
is_sign Align1 Align1 = true

abbrev pub has : Sign → List Sign → Bool
has g [] = false
has g (x ∷ xs) = is_sign g x || has g xs

-- sign g is noted at tick t
abbrev pub Notes : Life → Sign → ℕ → Type 0
Notes s g t = has g (signs_at s.notes t) ≡ true

abbrev pub is_burst : Activity → Bool
is_burst Idle = false
is_burst Burst = true
is_burst sends.Align0 = false
is_burst sends.Align1 = false

abbrev pub bursting : Life → ℕ → Bool
bursting s t = is_burst (activity (state_at s t))

-- a burst of s starts, or ends, with tick t + 1
abbrev pub StartsBurst : Life → ℕ → Type 0
StartsBurst s t = (bursting s t ≡ false) × (bursting s (suc t) ≡ true)

abbrev pub EndsBurst : Life → ℕ → Type 0
EndsBurst s t = (bursting s t ≡ true) × (bursting s (suc t) ≡ false)

abbrev pub rate_at : Life → ℕ → Option Rate
rate_at s t = latest_rate (state_at s t).window

-- tick t of `hearer` is `delay` ticks later than tick u of `other`
abbrev pub Reaches : ℕ → Life → Life → ℕ → ℕ → Type 0
Reaches delay hearer other t u = t + hearer.born ≡ u + other.born + delay

-- the hearer is locked, which shows by the ALIGN(1) that it sends, and the other's ALIGN(1) arrives at its rate
abbrev pub Receiving : Life → Life → ℕ → ℕ → Type 0
Receiving hearer other t u =
    (activity (state_at hearer t) ≡ sends.Align1) × (activity (state_at other u) ≡ sends.Align1) × (rate_at other u ≡ rate_at hearer t)

-- What a fair line brings to one end of what the other sends.
pub record Hears (delay : ℕ) (hearer other : Life) : Type 0 where
  -- every burst edge noted was sent
  pub start_sent : (t : ℕ) → Notes hearer BurstStarts t → (u : ℕ) × (Reaches delay hearer other t (suc u) × StartsBurst other u)
  pub end_sent : (t : ℕ) → Notes hearer BurstEnds t → (u : ℕ) × (Reaches delay hearer other t (suc u) × EndsBurst other u)
  -- every burst edge sent is noted, if the hearer has started before it arrives
  pub start_heard : (t u : ℕ) → Reaches delay hearer other t (suc u) → StartsBurst other u →
      suc u ≤ age other.notes → 0 < t → t < age hearer.notes → Notes hearer BurstStarts t
  pub end_heard : (t u : ℕ) → Reaches delay hearer other t (suc u) → EndsBurst other u →
      suc u ≤ age other.notes → 0 < t → t < age hearer.notes → Notes hearer BurstEnds t
  -- ALIGN(1) is noted only if it was sent, at the hearer's rate
  pub align_sent : (t : ℕ) → Notes hearer Align1 t →
      (u : ℕ) × (Reaches delay hearer other t u × ((activity (state_at other u) ≡ sends.Align1) × (rate_at other u ≡ rate_at hearer t)))
  -- in any 200 ticks in which the other's ALIGN(1) arrives throughout, a locked end notes it
  pub align_heard : (t u : ℕ) → Reaches delay hearer other t u → ((k : ℕ) → k ≤ 200 → Receiving hearer other (t + k) (u + k)) →
      u + 200 ≤ age other.notes → t + 200 < age hearer.notes → (k : ℕ) × ((0 < k) × (k ≤ 200) × Notes hearer Align1 (t + k))

abbrev pub FairLine : ℕ → Life → Life → Type 0
FairLine delay a b = (delay ≤ 7000) × Hears delay a b × Hears delay b a

-- Outcomes

-- an end that is ready or failed
abbrev pub over : Outcome → Bool
over outcome.Pending = false
over outcome.Ready = true
over outcome.Failed = true

abbrev pub is_over : Phase → Bool
is_over p = over (outcome_in p)

-- what an end's outcome is at the end of a life
abbrev pub outcome_of : Life → Outcome
outcome_of s = outcome_in (present s).phase

-- ready or failed
abbrev pub Over : Life → Type 0
Over s = over (outcome_of s) ≡ true

abbrev pub present_rate : Life → Option Rate
present_rate s = latest_rate (present s).window

pub record BothReady (a b : Life) : Type 0 where
  pub first : outcome_of a ≡ outcome.Ready
  pub second : outcome_of b ≡ outcome.Ready
  pub rate : Rate
  pub rate_first : present_rate a ≡ Some rate
  pub rate_second : present_rate b ≡ Some rate
  pub supported_first : supports a.rates rate ≡ true
  pub supported_second : supports b.rates rate ≡ true

abbrev pub BothFailed : Life → Life → Type 0
BothFailed a b = (outcome_of a ≡ outcome.Failed) × (outcome_of b ≡ outcome.Failed)

abbrev pub shared : Life → Life → Rate → Bool
shared a b r = supports a.rates r && supports b.rates r

-- a window opens at tick t: the rate that the end tells changes
abbrev pub OpensWindow : Life → ℕ → Type 0
OpensWindow s t = (before : ℕ) × ((t ≡ suc before) × (rate_at s before ≢ rate_at s t))

-- in each of its closed windows at a rate that both support, s notes a lock at most 313,425 ticks into the second part
abbrev pub LocksInTime : Life → Life → Life → Type 0
LocksInTime a b s = (w : ℕ) (r : Rate) → OpensWindow s w → rate_at s w ≡ Some r → shared a b r ≡ true → w + (960 + 327680) ≤ age s.notes →
    (k : ℕ) × ((k ≤ 313425) × Notes s Locked (w + 960 + k))

-- both have lived for n ticks since the later start
abbrev pub LivedFor : ℕ → Life → Life → Type 0
LivedFor n a b = (max a.born b.born + n ≤ a.born + age a.notes) × (max a.born b.born + n ≤ b.born + age b.notes)

pub record Agreement (delay : ℕ) (a b : Life) : Type 0 where
  -- bring-up comes to an end, within a time that is the same for every run
  pub ends : LivedFor 1709885 a b → Over a × Over b
  -- both come out ready at one rate that both support, or both failed
  pub agree : Over a → Over b → BothReady a b ⊎ BothFailed a b
  -- if they share a rate and both always lock in time at the shared ones, they end ready
  pub succeed : Over a → Over b → (r : Rate) → shared a b r ≡ true → LocksInTime a b a → LocksInTime a b b → BothReady a b

-- Lists of calls on two ends that nobody has used; declined calls stay in.

pub data Which : Type 0 where
  here there : Which

pub data Call : Type 0 where
  start : Which → ℕ → Call
  note : Which → ℕ → ℕ → Call

-- an end and what it accepted so far
pub record Course : Type 0 where
  pub state : End
  pub accepted : List Note

abbrev pub note_accepted : ℕ → ℕ → End → Bool
note_accepted k g e = not (nat_lt 400000 k) && (not (nat_lt 4 g) && not (is_unstarted e.phase))

abbrev pub start_one : ℕ → Course → Course
start_one n c = record { state = started n c.state; accepted = c.accepted }

abbrev pub note_one : ℕ → ℕ → Course → Course
note_one k g c = record {
  state = noted k g c.state;
  accepted = cond (note_accepted k g c.state) (c.accepted ++ (record { ticks = k; sign = sign_at g } ∷ [])) c.accepted;
}

pub record Courses : Type 0 where
  pub first : Course
  pub second : Course

abbrev pub on_one : Which → (Course → Course) → Courses → Courses
on_one here f c = record { first = f c.first; second = c.second }
on_one there f c = record { first = c.first; second = f c.second }

abbrev pub called : Call → Courses → Courses
called (start w n) c = on_one w (start_one n) c
called (note w k g) c = on_one w (note_one k g) c

abbrev pub all_called : List Call → Courses → Courses
all_called [] c = c
all_called (x ∷ xs) c = all_called xs (called x c)

abbrev pub both_unused : Courses
both_unused = record { first = record { state = unused; accepted = [] }; second = record { state = unused; accepted = [] } }

-- a course begun at a tick of the common clock
abbrev pub life_of : ℕ → Course → Life
life_of born c = record { born = born; rates = c.state.rates; notes = c.accepted }

-- On a fair line, whenever each end starts and whatever else is called, the ends agree.
pub record Outcomes (delay : ℕ) (c : Courses) (a b : Life) : Type 0 where
  -- the lives are those of the two ends
  pub first : is_unstarted c.first.state.phase ≡ false → present a ≡ c.first.state
  pub second : is_unstarted c.second.state.phase ≡ false → present b ≡ c.second.state
  pub agreement : is_unstarted c.first.state.phase ≡ false → is_unstarted c.second.state.phase ≡ false →
      FairLine delay a b → Agreement delay a b

abbrev pub FairLinesAgree : Type 0
FairLinesAgree = (calls : List Call) (delay born-first born-second : ℕ) →
    let c = all_called calls both_unused in
    Outcomes delay c (life_of born-first c.first) (life_of born-second c.second)
