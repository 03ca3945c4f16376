-- What a detector makes of COMINIT and COMSAS.
use Rattle.std.proofs.Common.{◌≡◌, ℕ, zero, suc, ◌+◌, ◌*◌, ◌%◌, ◌<◌, ◌≤◌, Bool, true, false, ◌&&◌, ltb, leb, None, Option, sym, refl, ap, ◌∙◌, subst, inl, inr, add-zero, add-suc, arith}
use Rattle.std.proofs.lemmas.Bool.{cond-true, lt-leb, and_right, and_left, and_from, and_parts, ltb-true, leb-true, both_ways, true≢false, false≢true, cases_Bool, cases_lt}
use Rattle.std.proofs.lemmas.Bool.Decides.{nat_tests}
use Rattle.bringup.specs.declared.detector.Detector.{Detector}
use Rattle.bringup.specs.declared.signal.Signal.{Signal}
use Rattle.bringup.specs.Detection.{passed, risen, ceased, signal_of, alike_after, closed, is_comsas}
use Rattle.bringup.specs.Signals.{burst}
use Rattle.bringup.specs.Asking.{in_burst}
use Rattle.agreement.proofs.Hearing.{hear, relay, relay_zero, relay_suc, relay_step, relay_split, shift, idled, passed-burst, stay_burst, stay_idle, periods, periods_burst, periods_fallen, comsas_detected, cominit_detected, train, risen-burst, hear_fallen}

-- a signal is in a burst past the idle of each of its six periods
pub burst_on : (idle u : ℕ) → u < 6 * (idle + burst) → idle ≤ u % (idle + burst) → in_burst idle u ≡ true
burst_on idle u a b = grind (arith, nat_tests)

-- it is idle at the start of each
pub burst_off : (idle u : ℕ) → u % (idle + burst) < idle → in_burst idle u ≡ false
burst_off idle u a = grind (arith, nat_tests)

-- and after its six periods
pub burst_past : (idle u : ℕ) → 6 * (idle + burst) ≤ u → in_burst idle u ≡ false
burst_past idle u a = grind (arith, nat_tests)

-- where it bursts, it is in a period and past its idle
pub is_burst_on : (idle u : ℕ) → in_burst idle u ≡ true → (u < 6 * (idle + burst)) × (idle ≤ u % (idle + burst))
is_burst_on idle u e =
    let p = and_parts (ltb u (6 * (idle + burst))) (leb idle (u % (idle + burst))) e in
    (ltb-true u (6 * (idle + burst)) p.0, leb-true idle (u % (idle + burst)) p.1)

-- what a tick leaves
pub passed_same : (d : Detector) →
    ((passed d).burst ≡ d.burst) × ((passed d).signal ≡ d.signal) × ((passed d).alike ≡ d.alike)
    × ((passed d).cominit ≡ d.cominit) × ((passed d).comsas ≡ d.comsas)
passed_same d = (grind (arith, nat_tests), grind (arith, nat_tests), grind (arith, nat_tests), grind (arith, nat_tests), grind (arith, nat_tests))

-- nothing falls that was not detected
pub passed_fallen : (d : Detector) → d.comsas ≡ false → (passed d).fallen ≡ d.fallen
passed_fallen d e = grind (arith, nat_tests)

-- a tick lengthens an idle by one at most
pub passed-longer : (d : Detector) → (passed d).idle ≤ d.idle + 1
passed-longer d = grind (arith, nat_tests)

-- an idle under 1,575 is not of COMSAS
pub short_kind : (n : ℕ) → n < 1575 → is_comsas (signal_of n) ≡ false
short_kind n h = grind (arith, nat_tests)

-- a first idle makes at most one alike
pub first_alike : (k : Option Signal) (n : ℕ) → alike_after k None n ≤ 1
first_alike k n = grind (arith, nat_tests)

-- a start closes the idle
pub risen_idle : (d : Detector) → d.burst ≡ false →
    risen d ≡ closed (signal_of d.idle) (alike_after (signal_of d.idle) d.signal d.alike) d
risen_idle d e = rw e

-- What is known of a detector that has heard COMINIT at most, at tick u of the sender
pub record Early (u : ℕ) (d : Detector) : Type 0 where
  pub no_comsas : d.comsas ≡ false
  pub not_fallen : d.fallen ≡ false
  pub once : is_comsas d.signal ≡ true → d.alike ≤ 1
  pub fresh : u < 960 → (d.signal ≡ None) × (d.cominit ≡ false)
  pub held : d.burst ≡ true → in_burst 960 u ≡ true
  pub recent : 960 ≤ u → u < 7680 → d.burst ≡ false → d.idle ≤ (u + 320) % 1280

-- an idle that does not complete a row of four of COMSAS detects none
closed_no_comsas : (k : Option Signal) (n : ℕ) (d : Detector) → d.comsas ≡ false → (is_comsas k && leb 4 n) ≡ false → (closed k n d).comsas ≡ false
closed_no_comsas k n d e f = rw f e

-- the first burst of COMINIT starts
early_first : (u : ℕ) (d : Detector) → Early u d → u < 960 → in_burst 960 u ≡ false → in_burst 960 (suc u) ≡ true →
    Early (suc u) (risen (passed d))
early_first u d h lt x y =
    let same = passed_same d in
    let off : (passed d).burst ≡ false = elim (cases_Bool d.burst) [ inl e ↦ absurd (both_ways (in_burst 960 u) x (h.held e)) | inr e ↦ same.0 ∙ e ] in
    let kind : (passed d).signal ≡ None = same.1 ∙ (h.fresh lt).0 in
    let k : Option Signal = signal_of (passed d).idle in
    let few : alike_after k (passed d).signal (passed d).alike ≤ 1 = subst (λ z. alike_after k z (passed d).alike ≤ 1) (sym kind) (first_alike k (passed d).alike) in
    let c : (closed k (alike_after k (passed d).signal (passed d).alike) (passed d)).comsas ≡ false =
    closed_no_comsas k (alike_after k (passed d).signal (passed d).alike) (passed d) (same.4 ∙ h.no_comsas)
    (and_right (is_comsas k) (leb 4 (alike_after k (passed d).signal (passed d).alike)) (lt-leb 4 (alike_after k (passed d).signal (passed d).alike) (omega arith))) in
    let on = is_burst_on 960 (suc u) y in
    subst (Early (suc u)) (sym (risen_idle (passed d) off))
    (record {
      no_comsas = c;
      not_fallen = passed_fallen d h.no_comsas ∙ h.not_fallen;
      once = λ _. few;
      fresh = λ l. absurd (omega (arith, on.1));
      held = λ _. y;
      recent = λ _ _ e. absurd (true≢false e);
    })

-- a later burst of COMINIT starts
early_next : (u : ℕ) (d : Detector) → Early u d → 960 ≤ u → in_burst 960 u ≡ false → in_burst 960 (suc u) ≡ true →
    Early (suc u) (risen (passed d))
early_next u d h ge x y =
    let same = passed_same d in
    let on = is_burst_on 960 (suc u) y in
    let offd : d.burst ≡ false = elim (cases_Bool d.burst) [ inl e ↦ absurd (both_ways (in_burst 960 u) x (h.held e)) | inr e ↦ e ] in
    let off : (passed d).burst ≡ false = same.0 ∙ offd in
    let k : Option Signal = signal_of (passed d).idle in
    let n : ℕ = alike_after k (passed d).signal (passed d).alike in
    let short : (passed d).idle < 1575 = omega (arith, passed-longer d, h.recent ge (omega (arith, on.0)) offd) in
    let not-comsas : is_comsas k ≡ false = short_kind (passed d).idle short in
    let c : (closed k n (passed d)).comsas ≡ false =
    closed_no_comsas k n (passed d) (same.4 ∙ h.no_comsas) (and_left (is_comsas k) (leb 4 n) not-comsas) in
    subst (Early (suc u)) (sym (risen_idle (passed d) off))
    (record {
      no_comsas = c;
      not_fallen = passed_fallen d h.no_comsas ∙ h.not_fallen;
      once = λ e. absurd (both_ways (is_comsas k) not-comsas e);
      fresh = λ l. absurd (omega (arith, on.1));
      held = λ _. y;
      recent = λ _ _ e. absurd (true≢false e);
    })

-- a burst of COMINIT ends
early_ends : (u : ℕ) (d : Detector) → Early u d → in_burst 960 u ≡ true → in_burst 960 (suc u) ≡ false → Early (suc u) (ceased (passed d))
early_ends u d h x y =
    let same = passed_same d in
    let on = is_burst_on 960 u x in
    record {
      no_comsas = same.4 ∙ h.no_comsas;
      not_fallen = passed_fallen d h.no_comsas ∙ h.not_fallen;
      once = λ e. subst (λ z. z ≤ 1) (sym same.2) (h.once (ap is_comsas (sym same.1) ∙ e));
      fresh = λ l. absurd (omega (arith, on.1));
      held = λ e. absurd (false≢true e);
      recent = λ _ _ _. omega arith;
    }

-- no burst starts or ends
early_stays : (u : ℕ) (d : Detector) → Early u d → in_burst 960 (suc u) ≡ in_burst 960 u → Early (suc u) (passed d)
early_stays u d h same-burst =
    let same = passed_same d in
    record {
      no_comsas = same.4 ∙ h.no_comsas;
      not_fallen = passed_fallen d h.no_comsas ∙ h.not_fallen;
      once = λ e. subst (λ z. z ≤ 1) (sym same.2) (h.once (ap is_comsas (sym same.1) ∙ e));
      fresh = λ l. (same.1 ∙ (h.fresh (omega arith)).0, same.3 ∙ (h.fresh (omega arith)).1);
      held = λ e. same-burst ∙ h.held (sym same.0 ∙ e);
      recent = λ a l e. close a l (sym same.0 ∙ e);
    }
  where
    -- the tick starts no burst
    no_start : 960 ≤ suc u → suc u < 7680 → (suc u % 1280 ≡ 960 → ⊥) × (960 ≤ u)
    no_start a l =
        let z : suc u % 1280 ≡ 960 → ⊥ = λ e. both_ways (in_burst 960 (suc u)) (same-burst ∙ burst_off 960 u (omega arith)) (burst_on 960 (suc u) l (omega arith)) in
        (z, elim (cases_lt u 960) [ inl p ↦ absurd (z (omega arith)) | inr p ↦ p ])

    close : 960 ≤ suc u → suc u < 7680 → d.burst ≡ false → (passed d).idle ≤ (suc u + 320) % 1280
    close a l e =
        let n = no_start a l in
        omega (arith, passed-longer d, h.recent n.1 (omega arith) e, n.0)

-- so a tick of the other's COMINIT keeps COMSAS undetected
pub early_step : (u : ℕ) (d : Detector) → Early u d → Early (suc u) (hear (in_burst 960 u) (in_burst 960 (suc u)) (passed d))
early_step u d h = go (in_burst 960 u) (in_burst 960 (suc u)) refl refl
  where
    go : (x y : Bool) → in_burst 960 u ≡ x → in_burst 960 (suc u) ≡ y → Early (suc u) (hear x y (passed d))
    go false false x y = early_stays u d h (y ∙ sym x)
    go false true x y = elim (cases_lt u 960) [ inl l ↦ early_first u d h l x y | inr l ↦ early_next u d h l x y ]
    go true false x y = early_ends u d h x y
    go true true x y = early_stays u d h (y ∙ sym x)

-- and so does all of it
pub early_lasts : (b : ℕ → Bool) (d : Detector) (u : ℕ) → Early u d → (j : ℕ) →
    ((i : ℕ) → i ≤ j → b i ≡ in_burst 960 (u + i)) → Early (u + j) (relay b d j)
early_lasts b d u h zero is = rw (relay_zero b d, add-zero u) h
early_lasts b d u h (suc j) is =
    let ih = early_lasts b d u h j (λ i le. is i (omega arith)) in
    let e : relay b d (suc j) ≡ hear (in_burst 960 (u + j)) (in_burst 960 (suc (u + j))) (passed (relay b d j)) =
    relay_step b d (relay b d j) j (in_burst 960 (u + j)) (in_burst 960 (suc (u + j)))
    (is j (omega arith)) (is (suc j) (omega arith) ∙ ap (in_burst 960) (add-suc u j)) refl in
    rw (add-suc u j, e) (early_step (u + j) (relay b d j) ih)

-- A whole COMINIT, from the tick before its first burst
module _ (b : ℕ → Bool) (d : Detector) (is : (i : ℕ) → i ≤ 5121 → b i ≡ in_burst 960 (959 + i)) where
  -- the first burst
  cominit_first : relay b d 1 ≡ risen (passed d)
  cominit_first = relay_step b d d 0 false true (is 0 (omega arith) ∙ burst_off 960 959 (omega arith))
      (is 1 (omega arith) ∙ burst_on 960 960 (omega arith) (omega arith)) (relay_zero b d)

  -- it is detected with the fifth burst at the latest
  pub cominit_heard : (relay b d 5121).cominit ≡ true
  cominit_heard =
      ap (λ z. z.cominit) (relay_split b d 1 5120 ∙ ap (λ z. relay (shift 1 b) z 5120) cominit_first
      ∙ train (shift 1 b) (risen (passed d)) 319 959 (omega arith) (risen-burst (passed d)) 4
      (λ q i lq li. is (1 + (q * 1280 + i)) (omega arith) ∙ burst_on 960 (959 + (1 + (q * 1280 + i))) (omega arith) (omega arith))
      (λ q i lq li. is (1 + (q * 1280 + (320 + i))) (omega arith) ∙ burst_off 960 (959 + (1 + (q * 1280 + (320 + i)))) (omega arith))
      (λ q lq. is (1 + q * 1280) (omega arith) ∙ burst_on 960 (959 + (1 + q * 1280)) (omega arith) (omega arith)))
      ∙ cominit_detected (risen (passed d))

-- a start lets nothing fall
pub risen_fallen : (d : Detector) → (risen d).fallen ≡ d.fallen
risen_fallen d = hear_fallen false true d

-- the fifth period finds COMSAS detected
five_detected : (d : Detector) → (periods 2879 5 d).comsas ≡ true
unfolding periods
five_detected d = grind (arith, nat_tests, comsas_detected d)

-- A whole COMSAS, from the tick before its first burst, until it falls
module _ (b : ℕ → Bool) (d : Detector) (last : ℕ) (is : (i : ℕ) → i ≤ last → b i ≡ in_burst 2880 (2879 + i)) where
  -- the first burst
  comsas_first : 1 ≤ last → relay b d 1 ≡ risen (passed d)
  comsas_first l = relay_step b d d 0 false true (is 0 (omega arith) ∙ burst_off 2880 2879 (omega arith))
      (is 1 (omega arith) ∙ burst_on 2880 2880 (omega arith) (omega arith)) (relay_zero b d)

  -- each further period is heard as one
  comsas_train : (k : ℕ) → k ≤ 5 → 1 + k * 3200 ≤ last → relay b d (1 + k * 3200) ≡ periods 2879 k (risen (passed d))
  comsas_train k le l =
      relay_split b d 1 (k * 3200) ∙ ap (λ z. relay (shift 1 b) z (k * 3200)) (comsas_first (omega arith))
      ∙ train (shift 1 b) (risen (passed d)) 319 2879 (omega arith) (risen-burst (passed d)) k
      (λ q i lq li. is (1 + (q * 3200 + i)) (omega arith) ∙ burst_on 2880 (2879 + (1 + (q * 3200 + i))) (omega arith) (omega arith))
      (λ q i lq li. is (1 + (q * 3200 + (320 + i))) (omega arith) ∙ burst_off 2880 (2879 + (1 + (q * 3200 + (320 + i)))) (omega arith))
      (λ q lq. is (1 + q * 3200) (omega arith) ∙ burst_on 2880 (2879 + (1 + q * 3200)) (omega arith) (omega arith))

  -- it is detected with the fifth burst at the latest
  pub comsas_heard : 12801 ≤ last → (relay b d 12801).comsas ≡ true
  comsas_heard l = ap (λ z. z.comsas) (comsas_train 4 (omega arith) l) ∙ comsas_detected (risen (passed d))

  -- it falls 4725 ticks after its last burst, and not before
  comsas_rest : 21045 ≤ last → relay b d 21045 ≡ idled 4724 (ceased (periods 2879 5 (risen (passed d))))
  comsas_rest l =
      let e : Detector = periods 2879 5 (risen (passed d)) in
      let on : e.burst ≡ true = periods_burst 2879 5 (risen (passed d)) (risen-burst (passed d)) in
      let c : ℕ → Bool = shift 16001 b in
      let held : relay c e 319 ≡ e =
      stay_burst c e on 319 (λ i li. is (16001 + i) (omega arith) ∙ burst_on 2880 (2879 + (16001 + i)) (omega arith) (omega arith)) in
      let ended : relay c e 320 ≡ ceased e =
      relay_step c e e 319 true false (is 16320 (omega arith) ∙ burst_on 2880 19199 (omega arith) (omega arith))
      (is 16321 (omega arith) ∙ burst_past 2880 19200 (omega arith)) held ∙ ap ceased (passed-burst e on) in
      let quiet : relay c e 5044 ≡ idled 4724 (ceased e) =
      relay_split c e 320 4724 ∙ ap (λ z. relay (shift 320 c) z 4724) ended
      ∙ stay_idle (shift 320 c) (ceased e) 0 refl 4724
      (λ i li. is (16001 + (320 + i)) (omega arith) ∙ burst_past 2880 (2879 + (16001 + (320 + i))) (omega arith)) (omega arith) in
      relay_split b d 16001 5044 ∙ ap (λ z. relay c z 5044) (comsas_train 5 (omega arith) (omega arith)) ∙ quiet

  -- one tick before the end of the closing idle it has not fallen
  pub comsas_not_fallen : 21045 ≤ last → d.comsas ≡ false → d.fallen ≡ false → (relay b d 21045).fallen ≡ false
  comsas_not_fallen l e f =
      ap (λ z. z.fallen) (comsas_rest l) ∙ periods_fallen 2879 5 (risen (passed d)) ∙ risen_fallen (passed d) ∙ passed_fallen d e ∙ f

  -- with that tick it has
  pub comsas_fallen : 21045 ≤ last → (passed (relay b d 21045)).fallen ≡ true
  comsas_fallen l =
      ap (λ z. (passed z).fallen) (comsas_rest l)
      ∙ cond-true ((periods 2879 5 (risen (passed d))).comsas && true) true (periods 2879 5 (risen (passed d))).fallen
      (and_from (periods 2879 5 (risen (passed d))).comsas true (five_detected (risen (passed d))) refl)

-- flags stay
pub passed_fallen_stays : (d : Detector) → d.fallen ≡ true → (passed d).fallen ≡ true
passed_fallen_stays d e = grind (arith, nat_tests)

-- what has fallen stays fallen
pub relay_fallen_stays : (b : ℕ → Bool) (d : Detector) (i k : ℕ) → (relay b d i).fallen ≡ true → (relay b d (i + k)).fallen ≡ true
relay_fallen_stays b d i zero e = rw (add-zero i) e
relay_fallen_stays b d i (suc k) e =
    rw (add-suc i k) (ap (λ z. z.fallen) (relay_suc b d (i + k)) ∙ hear_fallen (b (i + k)) (b (suc (i + k))) (passed (relay b d (i + k)))
    ∙ passed_fallen_stays (relay b d (i + k)) (relay_fallen_stays b d i k e))
