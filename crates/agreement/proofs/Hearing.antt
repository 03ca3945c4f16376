-- What an end's detector makes of the other's bursts.
use Rattle.std.proofs.Common.{◌≡◌, ℕ, zero, suc, ◌+◌, ◌*◌, ◌<◌, ◌≤◌, Bool, true, false, leb, List, [], ◌∷◌, Some, Option, sym, refl, ap, ◌∙◌, add-zero, add-suc, suc-mul, zero-add, zero-mul, arith}
use Rattle.std.proofs.lemmas.Bool.{false≢true}
use Rattle.std.proofs.lemmas.Bool.Decides.{nat_tests}
use Rattle.bringup.specs.declared.detector.Detector.{Detector}
use Rattle.bringup.specs.declared.signal.Signal.{Signal}
use Rattle.bringup.specs.declared.signal.Signal.TheVariants.{Cominit, Comsas}
use Rattle.bringup.specs.declared.end.Sign.{Sign}
use Rattle.bringup.specs.declared.end.Sign.TheVariants.{BurstStarts, BurstEnds}
use Rattle.bringup.specs.Detection.{passed, risen, ceased, more, signal_of, alike_after, closed}
use Rattle.agreement.specs.FairLine.{has}
use Rattle.agreement.proofs.Machine.{heard}

-- a tick's signs, by whether they hold a burst's start or end
pub heard_quiet : (gs : List Sign) (d : Detector) → has BurstStarts gs ≡ false → has BurstEnds gs ≡ false → heard gs d ≡ d
heard_quiet [] d a b = refl
heard_quiet (g ∷ gs) d a b = grind (arith, nat_tests, heard_quiet gs d)

-- after a start a burst is heard
pub risen-burst : (d : Detector) → (risen d).burst ≡ true
risen-burst d = grind (arith, nat_tests)

-- a start within a burst is nothing
pub risen-in_burst : (d : Detector) → d.burst ≡ true → risen d ≡ d
risen-in_burst d e = rw e

-- in a burst nothing but its end changes anything
pub heard-in_burst : (gs : List Sign) (d : Detector) → d.burst ≡ true → has BurstEnds gs ≡ false → heard gs d ≡ d
heard-in_burst [] d a b = refl
heard-in_burst (g ∷ gs) d a b = grind (arith, nat_tests, heard-in_burst gs d)

-- signs with a start and no end come to one start
pub heard-start : (gs : List Sign) (d : Detector) → has BurstStarts gs ≡ true → has BurstEnds gs ≡ false → heard gs d ≡ risen d
heard-start [] d a b = absurd (false≢true a)
heard-start (g ∷ gs) d a b = grind (arith, nat_tests, heard-start gs d, heard-in_burst gs (risen d), risen-burst d)

-- after an end, signs without a start change nothing
heard-ceased : (gs : List Sign) (d : Detector) → has BurstStarts gs ≡ false → heard gs (ceased d) ≡ ceased d
heard-ceased [] d a = refl
heard-ceased (g ∷ gs) d a = grind (arith, nat_tests, heard-ceased gs d)

-- signs with an end and no start come to one end
pub heard-end : (gs : List Sign) (d : Detector) → has BurstStarts gs ≡ false → has BurstEnds gs ≡ true → heard gs d ≡ ceased d
heard-end [] d a b = absurd (false≢true b)
heard-end (g ∷ gs) d a b = grind (arith, nat_tests, heard-end gs d, heard-ceased gs d)

-- the detector's step when the other's activity goes from burst x to burst y
abbrev pub hear : Bool → Bool → Detector → Detector
hear false false d = d
hear false true d = risen d
hear true false d = ceased d
hear true true d = d

-- a detector driven by the other's bursts
unfoldable pub relay : (ℕ → Bool) → Detector → ℕ → Detector
relay b d zero = d
relay b d (suc j) = hear (b j) (b (suc j)) (passed (relay b d j))

-- the two halves of the definition of relay
pub relay_zero : (b : ℕ → Bool) (d : Detector) → relay b d 0 ≡ d
unfolding relay
relay_zero b d = refl

-- each tick passes and then its edge is heard
pub relay_suc : (b : ℕ → Bool) (d : Detector) (j : ℕ) → relay b d (suc j) ≡ hear (b j) (b (suc j)) (passed (relay b d j))
unfolding relay
relay_suc b d j = refl

-- one tick more, with what is known of its edge
pub relay_step : (b : ℕ → Bool) (d e : Detector) (j : ℕ) (x y : Bool) → b j ≡ x → b (suc j) ≡ y → relay b d j ≡ e →
    relay b d (suc j) ≡ hear x y (passed e)
relay_step b d e j x y p q r =
    relay_suc b d j ∙ ap (λ z. hear z (b (suc j)) (passed (relay b d j))) p ∙ ap (λ z. hear x z (passed (relay b d j))) q
    ∙ ap (λ z. hear x y (passed z)) r

-- flags stay
pub hear_fallen : (x y : Bool) (d : Detector) → (hear x y d).fallen ≡ d.fallen
hear_fallen x y d = grind (arith, nat_tests)

-- bursts seen from a later tick on
abbrev pub shift : ℕ → (ℕ → Bool) → ℕ → Bool
shift j b i = b (j + i)

-- a long hearing is a hearing and then another from there
pub relay_split : (b : ℕ → Bool) (d : Detector) (j k : ℕ) → relay b d (j + k) ≡ relay (shift j b) (relay b d j) k
relay_split b d j zero = rw (add-zero j) (sym (relay_zero (shift j b) (relay b d j)))
relay_split b d j (suc k) =
    rw (add-suc j k) (relay_step b d (relay (shift j b) (relay b d j) k) (j + k) (b (j + k)) (b (suc (j + k))) refl refl (relay_split b d j k)
    ∙ sym (relay_step (shift j b) (relay b d j) (relay (shift j b) (relay b d j) k) k (b (j + k)) (b (suc (j + k))) refl (ap b (add-suc j k)) refl))

-- a detector with another idle time
abbrev pub idled : ℕ → Detector → Detector
idled n d = record {
  idle = n;
  burst = d.burst;
  signal = d.signal;
  alike = d.alike;
  cominit = d.cominit;
  comsas = d.comsas;
  fallen = d.fallen;
}

-- in a burst a tick changes nothing
pub passed-burst : (d : Detector) → d.burst ≡ true → passed d ≡ d
passed-burst d e = rw e

-- in an idle a tick lengthens it
pub passed_idle : (n : ℕ) (d : Detector) → d.burst ≡ false → suc n < 4725 → passed (idled n d) ≡ idled (suc n) d
passed_idle n d e lt =
    grind (arith, nat_tests)

-- a burst that goes on leaves the detector as it is
pub stay_burst : (b : ℕ → Bool) (d : Detector) → d.burst ≡ true → (k : ℕ) → ((i : ℕ) → i ≤ k → b i ≡ true) → relay b d k ≡ d
stay_burst b d e zero h = relay_zero b d
stay_burst b d e (suc k) h =
    relay_step b d d k true true (h k (omega arith)) (h (suc k) (omega arith)) (stay_burst b d e k (λ i le. h i (omega arith)))
    ∙ passed-burst d e

-- an idle that goes on is counted
pub stay_idle : (b : ℕ → Bool) (d : Detector) (n : ℕ) → d.burst ≡ false → (k : ℕ) → ((i : ℕ) → i ≤ k → b i ≡ false) →
    n + k < 4725 → relay b (idled n d) k ≡ idled (n + k) d
stay_idle b d n e zero h lt = relay_zero b (idled n d) ∙ ap (λ z. idled z d) (sym (add-zero n))
stay_idle b d n e (suc k) h lt =
    relay_step b (idled n d) (idled (n + k) d) k false false (h k (omega arith)) (h (suc k) (omega arith))
    (stay_idle b d n e k (λ i le. h i (omega arith)) (omega arith))
    ∙ passed_idle (n + k) d e (omega arith) ∙ ap (λ z. idled z d) (sym (add-suc n k))

-- a burst, an idle, and the start of the next burst
pub one_period : (b : ℕ → Bool) (d : Detector) (n m : ℕ) → suc m < 4725 → d.burst ≡ true →
    ((i : ℕ) → i ≤ n → b i ≡ true) → ((i : ℕ) → i ≤ m → b (suc n + i) ≡ false) → b (suc (suc n + m)) ≡ true →
    relay b d (suc (suc n + m)) ≡ closed (signal_of (suc m)) (alike_after (signal_of (suc m)) d.signal d.alike) (idled (suc m) (ceased d))
one_period b d n m lt e on off next =
    let first : relay b d n ≡ d = stay_burst b d e n on in
    let off0 : b (suc n) ≡ false = ap b (sym (add-zero (suc n))) ∙ off 0 (omega arith) in
    let fallen-burst : relay b d (suc n) ≡ ceased d =
    relay_step b d d n true false (on n (omega arith)) off0 first ∙ ap ceased (passed-burst d e) in
    let quiet : relay b d (suc n + m) ≡ idled m (ceased d) =
    relay_split b d (suc n) m ∙ ap (λ z. relay (shift (suc n) b) z m) fallen-burst
    ∙ stay_idle (shift (suc n) b) (ceased d) 0 refl m (λ i le. off i le) (omega arith)
    ∙ ap (λ z. idled z (ceased d)) (zero-add m) in
    relay_step b d (idled m (ceased d)) (suc n + m) false true (off m (omega arith)) next quiet
    ∙ ap risen (passed_idle m (ceased d) refl lt)

-- the detector after one more period, at the start of the next burst
abbrev pub period : ℕ → Detector → Detector
period m d = closed (signal_of (suc m)) (alike_after (signal_of (suc m)) d.signal d.alike) (idled (suc m) (ceased d))

unfoldable pub periods : ℕ → ℕ → Detector → Detector
periods m zero d = d
periods m (suc k) d = period m (periods m k d)

-- each period ends in a burst
pub periods_burst : (m k : ℕ) (d : Detector) → d.burst ≡ true → (periods m k d).burst ≡ true
unfolding periods
periods_burst m zero d e = e
periods_burst m (suc k) d e = refl

-- periods do not let COMSAS fall
pub periods_fallen : (m k : ℕ) (d : Detector) → (periods m k d).fallen ≡ d.fallen
unfolding periods
periods_fallen m zero d = refl
periods_fallen m (suc k) d = periods_fallen m k d

-- one more like idle counts, up to four
pub more_grows : (a n : ℕ) → a ≤ n → a < 4 → suc a ≤ more n
more_grows a n le lt = grind (arith, nat_tests)

-- an idle of a signal is at least the first of its row
some_alike : (s : Signal) (before : Option Signal) (n : ℕ) → 1 ≤ alike_after (Some s) before n
some_alike s before n = grind (arith, nat_tests)

-- three more after one are four
four : (n : ℕ) → 1 ≤ n → leb 4 (more (more (more n))) ≡ true
four n h = grind (arith, nat_tests)

-- four periods of COMSAS detect it, whatever came before
pub comsas_detected : (d : Detector) → (periods 2879 4 d).comsas ≡ true
unfolding periods
comsas_detected d = let f : leb 4 (more (more (more (alike_after (Some Comsas) d.signal d.alike)))) ≡ true = four (alike_after (Some Comsas) d.signal d.alike) (some_alike Comsas d.signal d.alike) in
    rw f

-- four periods of COMINIT detect it, whatever came before
pub cominit_detected : (d : Detector) → (periods 959 4 d).cominit ≡ true
unfolding periods
cominit_detected d = let f : leb 4 (more (more (more (alike_after (Some Cominit) d.signal d.alike)))) ≡ true = four (alike_after (Some Cominit) d.signal d.alike) (some_alike Cominit d.signal d.alike) in
    rw f

-- k periods of bursts of n + 1 ticks and idles of m + 1, from the start of a burst to that of another
pub train : (b : ℕ → Bool) (d : Detector) (n m : ℕ) → suc m < 4725 → d.burst ≡ true → (k : ℕ) →
    ((q i : ℕ) → q < k → i ≤ n → b (q * suc (suc n + m) + i) ≡ true) →
    ((q i : ℕ) → q < k → i ≤ m → b (q * suc (suc n + m) + (suc n + i)) ≡ false) →
    ((q : ℕ) → q ≤ k → b (q * suc (suc n + m)) ≡ true) →
    relay b d (k * suc (suc n + m)) ≡ periods m k d
unfolding periods
train b d n m lt e zero on off next = ap (relay b d) (zero-mul (suc (suc n + m))) ∙ relay_zero b d
train b d n m lt e (suc k) on off next =
    let p : ℕ = suc (suc n + m) in
    let ih : relay b d (k * p) ≡ periods m k d =
    train b d n m lt e k (λ q i lq li. on q i (omega arith) li) (λ q i lq li. off q i (omega arith) li) (λ q lq. next q (omega arith)) in
    ap (relay b d) (suc-mul k p) ∙ relay_split b d (k * p) p ∙ ap (λ z. relay (shift (k * p) b) z p) ih
    ∙ one_period (shift (k * p) b) (periods m k d) n m lt (periods_burst m k d e)
    (λ i li. on k i (omega arith) li) (λ i li. off k i (omega arith) li) (ap b (sym (suc-mul k p)) ∙ next (suc k) (omega arith))
