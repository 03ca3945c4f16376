-- How one end goes from tick to tick, phase by phase.
use Rattle.std.proofs.Common.{◌≡◌, ℕ, zero, suc, ◌<◌, Bool, true, false, cond, ◌&&◌, ◌||◌, ltb, leb, List, [], ◌∷◌, Some, Option, refl, ap, ◌∙◌, arith}
use Rattle.std.proofs.lemmas.Bool.{lt-ltb}
use Rattle.std.proofs.lemmas.Bool.Decides.{nat_tests}
use Rattle.bringup.specs.declared.detector.Detector.{Detector}
use Rattle.bringup.specs.declared.end.Phase.{Phase}
use Rattle.bringup.specs.declared.end.Phase.TheVariants.{SendingCominit, Awaiting, SendingComsas, Falling, Negotiating}
use Rattle.bringup.specs.declared.rate.Rate.TheVariants.{G1}
use Rattle.bringup.specs.declared.rate.RateSet.{RateSet}
use Rattle.bringup.specs.declared.end.Standing.TheVariants.{AfterInvalid}
use Rattle.bringup.specs.declared.end.Window.{Window}
use Rattle.bringup.specs.declared.end.End.{End}
use Rattle.bringup.specs.declared.end.Sign.{Sign}
use Rattle.bringup.specs.declared.end.Sign.TheVariants.{Nothing, BurstStarts, BurstEnds, Locked, Align1}
use Rattle.bringup.specs.Detection.{passed, risen, ceased}
use Rattle.bringup.specs.Bringup.{is_awaiting, is_negotiating, signed, tick, later, signalled, closing, locked_window, aligned_window}
use Rattle.bringup.specs.Rates.{supports}
use Rattle.bringup.specs.Detection.{deaf}
use Rattle.agreement.specs.FairLine.{all_signed}

-- an end by its parts
abbrev pub make : RateSet → Phase → ℕ → Detector → Option Window → End
make s p k d w = record { rates = s; phase = p; elapsed = k; detector = d; window = w }

-- what a sign does to the detector
abbrev pub heard_one : Sign → Detector → Detector
heard_one Nothing d = d
heard_one BurstStarts d = risen d
heard_one BurstEnds d = ceased d
heard_one Locked d = d
heard_one Align1 d = d

-- what signs make of a detector: only burst edges count
abbrev pub heard : List Sign → Detector → Detector
heard [] d = d
heard (g ∷ gs) d = heard gs (heard_one g d)

-- the detector at the end of tick t, by the signs alone
unfoldable pub ears : (ℕ → List Sign) → ℕ → Detector
ears h zero = heard (h 0) deaf
ears h (suc t) = heard (h (suc t)) (passed (ears h t))

-- the two halves of the definition of ears
pub ears_zero : (h : ℕ → List Sign) → ears h 0 ≡ heard (h 0) deaf
unfolding ears
ears_zero h = refl

-- each tick passes and then its signs are heard
pub ears_suc : (h : ℕ → List Sign) (t : ℕ) → ears h (suc t) ≡ heard (h (suc t)) (passed (ears h t))
unfolding ears
ears_suc h t = refl

-- signs reach the detector alone, but where the end waits or negotiates
pub sign_other : (g : Sign) (s : RateSet) (p : Phase) (k : ℕ) (d : Detector) (w : Option Window) →
    is_awaiting p ≡ false → is_negotiating p ≡ false → signed g (make s p k d w) ≡ make s p k (heard_one g d) w
sign_other g s p k d w a n = grind (arith, nat_tests)

-- where a phase has no place for signs, they reach the detector alone
pub signs_other : (gs : List Sign) (s : RateSet) (p : Phase) (k : ℕ) (d : Detector) (w : Option Window) →
    is_awaiting p ≡ false → is_negotiating p ≡ false → all_signed gs (make s p k d w) ≡ make s p k (heard gs d) w
signs_other [] s p k d w a n = refl
signs_other (g ∷ gs) s p k d w a n = ap (all_signed gs) (sign_other g s p k d w a n) ∙ signs_other gs s p k (heard_one g d) w a n

-- within the longest phase every tick is counted
pub later_below : (k : ℕ) → k < 328640 → later k ≡ suc k
later_below k h = grind (arith, nat_tests)

-- COMINIT goes on
pub cominit_step : (gs : List Sign) (s : RateSet) (k : ℕ) (d : Detector) (w : Option Window) → suc k < 9255 →
    all_signed gs (tick (make s SendingCominit k d w)) ≡ make s SendingCominit (suc k) (heard gs (passed d)) w
cominit_step gs s k d w h =
    let a : later k ≡ suc k = later_below k (omega arith) in
    let b : ltb (suc k) 9255 ≡ true = lt-ltb (suc k) 9255 h in
    rw (a, b) (signs_other gs s SendingCominit (suc k) (passed d) w refl refl)

-- a detected signal stays detected
pub risen_comsas : (d : Detector) → d.comsas ≡ true → (risen d).comsas ≡ true
risen_comsas d h = grind (arith, nat_tests)

-- a detected COMINIT stays detected over a burst
pub risen_cominit : (d : Detector) → d.cominit ≡ true → (risen d).cominit ≡ true
risen_cominit d h = grind (arith, nat_tests)

-- and so does either signal
pub risen-signalled : (d : Detector) → signalled d ≡ true → signalled (risen d) ≡ true
risen-signalled d h = grind (arith, nat_tests)

-- COMINIT is sent and the end waits for a signal; COMSAS is begun as soon as one is detected
abbrev pub waiting : RateSet → ℕ → Detector → Option Window → End
waiting s k d w = cond (signalled d) (make s SendingComsas 0 d w) (make s Awaiting k d w)

-- one sign at an end that waits: its detector hears it, and COMSAS follows if that detects a signal
pub sign-waiting : (g : Sign) (s : RateSet) (k : ℕ) (d : Detector) (w : Option Window) →
    signed g (waiting s k d w) ≡ waiting s k (heard_one g d) w
sign-waiting g s k d w = go (signalled d) refl
  where
    kept : (g : Sign) → signalled d ≡ true → signalled (heard_one g d) ≡ true
    kept g e = grind (arith, nat_tests, risen-signalled d e)

    go : (b : Bool) → signalled d ≡ b → signed g (waiting s k d w) ≡ waiting s k (heard_one g d) w
    go true e = rw (e, kept g e) (sign_other g s SendingComsas 0 d w refl refl)
    go false e = rw e (one g)
      where
        one : (g : Sign) → signed g (make s Awaiting k d w) ≡ waiting s k (heard_one g d) w
        one g = grind (arith, nat_tests)

-- the same of all signs of a tick, one after the other
pub signs_waiting : (gs : List Sign) (s : RateSet) (k : ℕ) (d : Detector) (w : Option Window) →
    all_signed gs (waiting s k d w) ≡ waiting s k (heard gs d) w
signs_waiting [] s k d w = refl
signs_waiting (g ∷ gs) s k d w = ap (all_signed gs) (sign-waiting g s k d w) ∙ signs_waiting gs s k (heard_one g d) w

-- the last tick of COMINIT leads into waiting
pub cominit_end : (gs : List Sign) (s : RateSet) (d : Detector) (w : Option Window) →
    all_signed gs (tick (make s SendingCominit 9254 d w)) ≡ waiting s 0 (heard gs (passed d)) w
cominit_end gs s d w = signs_waiting gs s 0 (passed d) w

-- a tick of waiting is waiting with the detector a tick further
pub waiting_step : (gs : List Sign) (s : RateSet) (k : ℕ) (d : Detector) (w : Option Window) →
    all_signed gs (tick (make s Awaiting k d w)) ≡ waiting s (later k) (heard gs (passed d)) w
waiting_step gs s k d w = signs_waiting gs s (later k) (passed d) w

-- before its end COMSAS goes on
pub comsas_step : (gs : List Sign) (s : RateSet) (k : ℕ) (d : Detector) (w : Option Window) → suc k < 23925 →
    all_signed gs (tick (make s SendingComsas k d w)) ≡ make s SendingComsas (suc k) (heard gs (passed d)) w
comsas_step gs s k d w h =
    let a : later k ≡ suc k = later_below k (omega arith) in
    let b : ltb (suc k) 23925 ≡ true = lt-ltb (suc k) 23925 h in
    rw (a, b) (signs_other gs s SendingComsas (suc k) (passed d) w refl refl)

-- the first window as it opens
abbrev pub first_window : Window
first_window = record { rate = G1; standing = AfterInvalid; locked = false; aligned = false }

-- COMSAS ends; without a fall the end waits for it
pub comsas_end : (gs : List Sign) (s : RateSet) (d : Detector) (w : Option Window) → (passed d).fallen ≡ false →
    all_signed gs (tick (make s SendingComsas 23924 d w)) ≡ make s Falling 0 (heard gs (passed d)) w
comsas_end gs s d w f =
    rw f (signs_other gs s Falling 0 (passed d) w refl refl)

-- while nothing has fallen, and it is detected or time is left, the end waits on
pub falling_step : (gs : List Sign) (s : RateSet) (k : ℕ) (d : Detector) (w : Option Window) → (passed d).fallen ≡ false →
    ((passed d).comsas || ltb (later k) 32640) ≡ true →
    all_signed gs (tick (make s Falling k d w)) ≡ make s Falling (later k) (heard gs (passed d)) w
falling_step gs s k d w f g =
    rw (f, g) (signs_other gs s Falling (later k) (passed d) w refl refl)

-- a window's signs
abbrev pub in_time : RateSet → ℕ → Window → Bool
in_time s k w = supports s w.rate && (leb 960 k && leb k 314385)

-- what one sign makes of a window
abbrev pub window_one : Sign → RateSet → ℕ → Window → Window
window_one Nothing s k w = w
window_one BurstStarts s k w = w
window_one BurstEnds s k w = w
window_one Locked s k w = cond (in_time s k w) (locked_window w) w
window_one Align1 s k w = cond w.locked (aligned_window w) w

-- what the signs of a tick make of it
abbrev pub window_all : List Sign → RateSet → ℕ → Window → Window
window_all [] s k w = w
window_all (g ∷ gs) s k w = window_all gs s k (window_one g s k w)

-- in a window a sign reaches the detector and the window, each by itself
pub sign_window : (g : Sign) (s : RateSet) (k : ℕ) (d : Detector) (w : Window) →
    signed g (make s Negotiating k d (Some w)) ≡ make s Negotiating k (heard_one g d) (Some (window_one g s k w))
sign_window Nothing s k d w = refl
sign_window BurstStarts s k d w = refl
sign_window BurstEnds s k d w = refl
sign_window Locked s k d w = grind (arith, nat_tests)
sign_window Align1 s k d w = grind (arith, nat_tests)

-- and so do all signs of a tick
pub signs_window : (gs : List Sign) (s : RateSet) (k : ℕ) (d : Detector) (w : Window) →
    all_signed gs (make s Negotiating k d (Some w)) ≡ make s Negotiating k (heard gs d) (Some (window_all gs s k w))
signs_window [] s k d w = refl
signs_window (g ∷ gs) s k d w =
    ap (all_signed gs) (sign_window g s k d w) ∙ signs_window gs s k (heard_one g d) (window_one g s k w)

-- before its end a window goes on, with its signs
pub window_step : (gs : List Sign) (s : RateSet) (k : ℕ) (d : Detector) (w : Window) → suc k < 328640 →
    all_signed gs (tick (make s Negotiating k d (Some w))) ≡ make s Negotiating (suc k) (heard gs (passed d)) (Some (window_all gs s (suc k) w))
window_step gs s k d w h =
    let a : later k ≡ suc k = later_below k (omega arith) in
    let b : ltb (suc k) 328640 ≡ true = lt-ltb (suc k) 328640 h in
    rw (a, b) (signs_window gs s (suc k) (passed d) w)

-- no lock counts as a window opens
pub window_opens : (gs : List Sign) (s : RateSet) (w : Window) → w.locked ≡ false → window_all gs s 0 w ≡ w
window_opens [] s w e = refl
window_opens (g ∷ gs) s w e = grind (arith, nat_tests, window_opens gs s w e)

-- in the tick that opens a window no lock counts, so its signs change nothing of it
pub signs_opening : (gs : List Sign) (s : RateSet) (d : Detector) (w : Window) → w.locked ≡ false →
    all_signed gs (make s Negotiating 0 d (Some w)) ≡ make s Negotiating 0 (heard gs d) (Some w)
signs_opening gs s d w e = signs_window gs s 0 d w ∙ ap (λ z. make s Negotiating 0 (heard gs d) (Some z)) (window_opens gs s w e)

-- COMSAS ends and the other has fallen: the first window opens
pub comsas_open : (gs : List Sign) (s : RateSet) (d : Detector) (w : Option Window) → (passed d).fallen ≡ true →
    all_signed gs (tick (make s SendingComsas 23924 d w)) ≡ make s Negotiating 0 (heard gs (passed d)) (Some first_window)
comsas_open gs s d w f =
    rw f (signs_opening gs s (passed d) first_window refl)

-- the other falls while the end waits: the first window opens
pub falling_open : (gs : List Sign) (s : RateSet) (k : ℕ) (d : Detector) (w : Option Window) → (passed d).fallen ≡ true →
    all_signed gs (tick (make s Falling k d w)) ≡ make s Negotiating 0 (heard gs (passed d)) (Some first_window)
falling_open gs s k d w f =
    rw f (signs_opening gs s (passed d) first_window refl)

-- the last tick closes the window, and then its signs are heard
pub window_end : (gs : List Sign) (s : RateSet) (d : Detector) (w : Window) →
    all_signed gs (tick (make s Negotiating 328639 d (Some w))) ≡ all_signed gs (closing w (make s Negotiating 328640 (passed d) (Some w)))
window_end gs s d w = refl
