-- The stages of one end's life, in closed form.
use Rattle.std.proofs.Common.{◌≡◌, ℕ, zero, suc, ◌+◌, ◌-◌, ◌<◌, ◌≤◌, Bool, true, false, ◌||◌, ltb, ◌⊎◌, List, [], ◌∷◌, Some, None, Option, sym, refl, ap, ◌∙◌, subst, ap₂, inl, inr, add-zero, add-suc, arith}
use Rattle.std.proofs.lemmas.Bool.{cond-true, cond-false, lt-ltb, cases_lt, cases_Bool, both_ways, false≢true, or_left, or_right}
use Rattle.std.proofs.lemmas.Bool.Decides.{nat_tests}
use Rattle.bringup.specs.declared.detector.Detector.{Detector}
use Rattle.bringup.specs.declared.end.Phase.{Phase}
use Rattle.bringup.specs.declared.end.Phase.TheVariants.{SendingCominit, Awaiting, SendingComsas, Falling, Negotiating}
use Rattle.bringup.specs.declared.rate.RateSet.{RateSet}
use Rattle.bringup.specs.declared.end.Window.{Window}
use Rattle.bringup.specs.declared.end.End.{End}
use Rattle.bringup.specs.declared.end.Sign.{Sign}
use Rattle.bringup.specs.declared.end.Sign.TheVariants.{Nothing, BurstStarts, BurstEnds, Locked, Align1}
use Rattle.bringup.specs.Detection.{passed, risen, ceased}
use Rattle.bringup.specs.Bringup.{tick, later, signalled, begun}
use Rattle.bringup.specs.Asking.{activity, sending, in_burst}
use Rattle.bringup.specs.Detection.{deaf}
use Rattle.agreement.specs.FairLine.{all_signed, after, is_burst, is_over}
use Rattle.agreement.proofs.Trains.{burst_past, burst_off, risen_fallen, passed_fallen_stays, passed_same}
use Rattle.agreement.proofs.Machine.{make, heard, ears, ears_zero, ears_suc, waiting, first_window, risen_comsas, risen-signalled, signs_other, cominit_step, cominit_end, waiting_step, comsas_step, comsas_end, falling_step, comsas_open, falling_open}

module _ (h : ℕ → List Sign) (s : RateSet) where
  -- the state at the end of tick t
  abbrev pub state : ℕ → End
  state t = after h (begun s) t

  -- one tick more
  pub state-suc : (t : ℕ) (e f : End) → state t ≡ e → all_signed (h (suc t)) (tick e) ≡ f → state (suc t) ≡ f
  unfolding after
  state-suc t e f p q = ap (λ z. all_signed (h (suc t)) (tick z)) p ∙ q

  -- an end in phase p for k ticks, at tick t
  abbrev pub In : ℕ → Phase → ℕ → Option Window → Type 0
  In t p k w = state t ≡ make s p k (ears h t) w

  -- what a step gives, with the detector's own step
  pub step : (t : ℕ) (p q : Phase) (j k : ℕ) (v w : Option Window) → In t p j v →
      all_signed (h (suc t)) (tick (make s p j (ears h t) v)) ≡ make s q k (heard (h (suc t)) (passed (ears h t))) w →
      In (suc t) q k w
  step t p q j k v w e f = state-suc t (make s p j (ears h t) v) (make s q k (ears h (suc t)) w) e
      (f ∙ ap (λ d. make s q k d w) (sym (ears_suc h t)))

  -- an end sends COMINIT for its first 9,255 ticks
  pub cominit_stage : (t : ℕ) → t < 9255 → In t SendingCominit t None
  unfolding after
  cominit_stage zero _ = signs_other (h 0) s SendingCominit 0 deaf None refl refl ∙ ap (λ d. make s SendingCominit 0 d None) (sym (ears_zero h))
  cominit_stage (suc t) lt =
      step t SendingCominit SendingCominit t (suc t) None None (cominit_stage t (omega arith))
      (cominit_step (h (suc t)) s t (ears h t) None lt)

  -- and then waits for a signal
  pub waiting_begins : state 9255 ≡ waiting s 0 (ears h 9255) None
  waiting_begins =
      state-suc 9254 (make s SendingCominit 9254 (ears h 9254) None) (waiting s 0 (ears h 9255) None) (cominit_stage 9254 (omega arith))
      (cominit_end (h 9255) s (ears h 9254) None ∙ ap (λ d. waiting s 0 d None) (sym (ears_suc h 9254)))

  -- until a signal is detected the end waits
  pub waiting_stage : (j : ℕ) → ((i : ℕ) → i < j → signalled (ears h (9255 + i)) ≡ false) →
      (k : ℕ) × (state (9255 + j) ≡ waiting s k (ears h (9255 + j)) None)
  waiting_stage zero _ = (0, waiting_begins)
  waiting_stage (suc j) quiet =
      let (k, e) = waiting_stage j (λ i lt. quiet i (omega arith)) in
      let q : signalled (ears h (9255 + j)) ≡ false = quiet j (omega arith) in
      let a : In (9255 + j) Awaiting k None =
      e ∙ cond-false (signalled (ears h (9255 + j))) (make s SendingComsas 0 (ears h (9255 + j)) None)
      (make s Awaiting k (ears h (9255 + j)) None) q in (
        later k,
        rw (add-suc 9255 j)
            (state-suc (9255 + j) (make s Awaiting k (ears h (9255 + j)) None) (waiting s (later k) (ears h (suc (9255 + j))) None) a
            (waiting_step (h (suc (9255 + j))) s k (ears h (9255 + j)) None
            ∙ ap (λ d. waiting s (later k) d None) (sym (ears_suc h (9255 + j))))),
      )

  -- COMSAS is sent for 23,925 ticks from where it begins
  pub comsas_stage : (t : ℕ) (w : Option Window) → In t SendingComsas 0 w → (j : ℕ) → j < 23925 → In (t + j) SendingComsas j w
  comsas_stage t w e zero _ = rw (add-zero t) e
  comsas_stage t w e (suc j) lt =
      rw (add-suc t j) (step (t + j) SendingComsas SendingComsas j (suc j) w w (comsas_stage t w e j (omega arith))
      (comsas_step (h (suc (t + j))) s j (ears h (t + j)) w lt))

  -- Bursts

  -- whether the end sends a burst in a tick
  abbrev pub bursts : ℕ → Bool
  bursts t = is_burst (activity (state t))

  -- which follows from what is known of its state
  bursts_of : (t : ℕ) (e : End) → state t ≡ e → bursts t ≡ is_burst (activity e)
  bursts_of t e p = ap (λ z. is_burst (activity z)) p

  -- no signal was detected from the end of COMINIT to before tick x
  abbrev pub Unheard : ℕ → Type 0
  Unheard x = (i : ℕ) → 9255 ≤ i → i < x → signalled (ears h i) ≡ false

  -- COMSAS begins with tick c
  pub record Begins (c : ℕ) : Type 0 where
    pub after_cominit : 9255 ≤ c
    pub detected : signalled (ears h c) ≡ true
    pub not_before : Unheard c

  -- while no signal is detected, it waits
  waiting_at : (x : ℕ) → 9255 ≤ x → Unheard x → (k : ℕ) × (state x ≡ waiting s k (ears h x) None)
  waiting_at x ge quiet =
      let e : 9255 + (x - 9255) ≡ x = omega arith in
      subst (λ z. (k : ℕ) × (state z ≡ waiting s k (ears h z) None)) e
      (waiting_stage (x - 9255) (λ i lt. quiet (9255 + i) (omega arith) (omega arith)))

  -- a waiting end sends no burst
  waiting_silent : (k : ℕ) (d : Detector) (w : Option Window) → is_burst (activity (waiting s k d w)) ≡ false
  waiting_silent k d w = grind (arith, nat_tests)

  -- of a signal it sends just the bursts
  sent-burst : (b : Bool) → is_burst (sending b) ≡ b
  sent-burst b = grind (arith, nat_tests)

  -- until COMSAS begins, COMINIT's bursts are all that is sent
  pub sends_cominit : (x : ℕ) → Unheard x → (i : ℕ) → i ≤ x → bursts i ≡ in_burst 960 i
  sends_cominit x quiet i le = elim (cases_lt i 9255) [
    | inl lt ↦ bursts_of i (make s SendingCominit i (ears h i) None) (cominit_stage i lt) ∙ sent-burst (in_burst 960 i)
    | inr ge ↦ (let (k, e) = waiting_at i ge (λ j a b. quiet j a (omega arith)) in
        bursts_of i (waiting s k (ears h i) None) e ∙ waiting_silent k (ears h i) None ∙ sym (burst_past 960 i (omega arith)))
  ]

  module _ (c : ℕ) (begins : Begins c) where
    -- with the detection COMSAS begins
    pub comsas_begins : In c SendingComsas 0 None
    comsas_begins =
        let (k, e) = waiting_at c begins.after_cominit begins.not_before in
        e ∙ cond-true (signalled (ears h c)) (make s SendingComsas 0 (ears h c) None) (make s Awaiting k (ears h c) None) begins.detected

    -- its bursts are those of COMSAS
    pub sends_comsas : (j : ℕ) → j < 23925 → bursts (c + j) ≡ in_burst 2880 j
    sends_comsas j lt = bursts_of (c + j) (make s SendingComsas j (ears h (c + j)) None) (comsas_stage c None comsas_begins j lt) ∙ sent-burst (in_burst 2880 j)

    -- as far as COMSAS's first burst
    pub sends_early : (i : ℕ) → i < c + 2880 → bursts i ≡ in_burst 960 i
    sends_early i lt = elim (cases_lt i c) [
      | inl l ↦ sends_cominit c begins.not_before i (omega arith)
      | inr g ↦ (let e : c + (i - c) ≡ i = omega arith in
          subst (λ z. bursts z ≡ in_burst 960 z) e (sends_comsas (i - c) (omega arith)
          ∙ burst_off 2880 (i - c) (omega arith) ∙ sym (burst_past 960 (c + (i - c)) (omega (arith, begins.after_cominit)))))
    ]

  -- From COMSAS to the first window

  -- what burst edges keep, the signs of a tick keep
  heard_keeps : (P : Detector → Type 0) → ((d : Detector) → P d → P (risen d)) → ((d : Detector) → P d → P (ceased d)) →
      (gs : List Sign) (d : Detector) → P d → P (heard gs d)
  heard_keeps P r c [] d p = p
  heard_keeps P r c (Nothing ∷ gs) d p = heard_keeps P r c gs d p
  heard_keeps P r c (BurstStarts ∷ gs) d p = heard_keeps P r c gs (risen d) (r d p)
  heard_keeps P r c (BurstEnds ∷ gs) d p = heard_keeps P r c gs (ceased d) (c d p)
  heard_keeps P r c (Locked ∷ gs) d p = heard_keeps P r c gs d p
  heard_keeps P r c (Align1 ∷ gs) d p = heard_keeps P r c gs d p

  -- and what ticks keep too, stays
  ears_keep : (P : Detector → Type 0) → ((d : Detector) → P d → P (risen d)) → ((d : Detector) → P d → P (ceased d)) →
      ((d : Detector) → P d → P (passed d)) → (t j : ℕ) → P (ears h t) → P (ears h (t + j))
  ears_keep P r c q t zero p = rw (add-zero t) p
  ears_keep P r c q t (suc j) p = rw (add-suc t j)
      (subst P (sym (ears_suc h (t + j)))
      (heard_keeps P r c (h (suc (t + j))) (passed (ears h (t + j))) (q (ears h (t + j)) (ears_keep P r c q t j p))))

  -- signs do not let COMSAS fall, only ticks do
  pub fallen_next : (t : ℕ) → (ears h (suc t)).fallen ≡ (passed (ears h t)).fallen
  fallen_next t = ap (λ d. d.fallen) (ears_suc h t)
      ∙ heard_keeps (λ d. d.fallen ≡ (passed (ears h t)).fallen) (λ d e. risen_fallen d ∙ e) (λ _ e. e) (h (suc t)) (passed (ears h t)) refl

  -- what has fallen stays fallen
  pub fallen_stays : (t j : ℕ) → (passed (ears h t)).fallen ≡ true → (passed (ears h (t + j))).fallen ≡ true
  fallen_stays t zero e = rw (add-zero t) e
  fallen_stays t (suc j) e = rw (add-suc t j)
      (passed_fallen_stays (ears h (suc (t + j))) (fallen_next (t + j) ∙ fallen_stays t j e))

  -- what is detected stays detected
  pub comsas_stays : (t j : ℕ) → (ears h t).comsas ≡ true → (ears h (t + j)).comsas ≡ true
  comsas_stays = ears_keep (λ d. d.comsas ≡ true) risen_comsas (λ _ e. e) (λ d e. (passed_same d).4 ∙ e)

  -- a tick counts for one at most
  later_at_most : (k : ℕ) → later k ≤ k + 1
  later_at_most k = grind (arith, nat_tests)

  module _ (c : ℕ) (begins : Begins c) where
    -- the other's COMSAS has fallen before this end's own is sent
    pub opens_at_once : (passed (ears h (c + 23924))).fallen ≡ true → In (suc (c + 23924)) Negotiating 0 (Some first_window)
    opens_at_once f = step (c + 23924) SendingComsas Negotiating 23924 0 None (Some first_window)
        (comsas_stage c None (comsas_begins c begins) 23924 (omega arith))
        (comsas_open (h (suc (c + 23924))) s (ears h (c + 23924)) None f)

    -- otherwise the end waits for it
    pub falling_stage : (j : ℕ) → ((i : ℕ) → i ≤ j → (passed (ears h (c + 23924 + i))).fallen ≡ false) →
        ((i : ℕ) → i < j → ((ears h (c + 23925 + i)).comsas ≡ true) ⊎ (suc i < 32640)) →
        (k : ℕ) × ((k ≤ j) × In (c + 23925 + j) Falling k None)
    falling_stage zero nf heard-it =
        let f : (passed (ears h (c + 23924))).fallen ≡ false = subst (λ z. (passed (ears h z)).fallen ≡ false) (add-zero (c + 23924)) (nf 0 (omega arith)) in
        let e : suc (c + 23924) ≡ c + 23925 + 0 = omega arith in (
          0,
          (
            omega arith,
            subst (λ z. In z Falling 0 None) e
                (step (c + 23924) SendingComsas Falling 23924 0 None None
                (comsas_stage c None (comsas_begins c begins) 23924 (omega arith))
                (comsas_end (h (suc (c + 23924))) s (ears h (c + 23924)) None f)),
          ),
        )
    falling_stage (suc j) nf heard-it =
        let (k, p) = falling_stage j (λ i le. nf i (omega arith)) (λ i lt. heard-it i (omega arith)) in
        let x : ℕ = c + 23925 + j in
        let e : c + 23924 + suc j ≡ x = omega arith in
        let f : (passed (ears h x)).fallen ≡ false = subst (λ z. (passed (ears h z)).fallen ≡ false) e (nf (suc j) (omega arith)) in
        let l : later k ≤ suc j = omega (arith, later_at_most k, p.0) in
        let g : ((passed (ears h x)).comsas || ltb (later k) 32640) ≡ true =
        elim (heard-it j (omega arith)) [
          | inl a ↦ or_left (passed (ears h x)).comsas (ltb (later k) 32640) ((passed_same (ears h x)).4 ∙ a)
          | inr a ↦ or_right (passed (ears h x)).comsas (ltb (later k) 32640) (lt-ltb (later k) 32640 (omega arith))
        ] in (
          later k,
          (
            l,
            rw (add-suc (c + 23925) j)
                (step x Falling Falling k (later k) None None p.1 (falling_step (h (suc x)) s k (ears h x) None f g)),
          ),
        )

    -- if the other falls after COMSAS is sent, the first window opens then
    pub opens_later : (j : ℕ) → ((i : ℕ) → i ≤ j → (passed (ears h (c + 23924 + i))).fallen ≡ false) →
        ((i : ℕ) → i < j → ((ears h (c + 23925 + i)).comsas ≡ true) ⊎ (suc i < 32640)) →
        (passed (ears h (c + 23925 + j))).fallen ≡ true → In (suc (c + 23925 + j)) Negotiating 0 (Some first_window)
    opens_later j nf heard-it f =
        let (k, p) = falling_stage j nf heard-it in
        step (c + 23925 + j) Falling Negotiating k 0 None (Some first_window) p.1
        (falling_open (h (suc (c + 23925 + j))) s k (ears h (c + 23925 + j)) None f)

  -- what is detected stays detected
  pub signalled_stays : (t j : ℕ) → signalled (ears h t) ≡ true → signalled (ears h (t + j)) ≡ true
  signalled_stays = ears_keep (λ d. signalled d ≡ true) risen-signalled (λ _ e. e)
      (λ d e. ap₂ (λ p q. p || q) (passed_same d).3 (passed_same d).4 ∙ e)

  -- COMSAS begins, or no signal was detected
  begun_or_unheard : (n : ℕ) → Unheard (9255 + n) ⊎ ((c : ℕ) × ((c < 9255 + n) × Begins c))
  begun_or_unheard zero = inl (λ i a b. absurd (omega arith))
  begun_or_unheard (suc n) = elim (begun_or_unheard n) [
    | inr p ↦ inr (p.0, (omega (arith, p.1.0), p.1.1))
    | inl quiet ↦ elim (cases_Bool (signalled (ears h (9255 + n)))) [
      | inl e ↦ inr (9255 + n, (omega arith, record { after_cominit = omega arith; detected = e; not_before = quiet }))
      | inr e ↦ inl (λ i a b. elim (cases_lt i (9255 + n)) [
        | inl l ↦ quiet i a l
        | inr g ↦ (let z : 9255 + n ≡ i = omega arith in subst (λ k. signalled (ears h k) ≡ false) z e)
      ])
    ]
  ]

  -- once a signal is detected, COMSAS has begun at some tick up to then
  pub begins_by : (t : ℕ) → 9255 ≤ t → signalled (ears h t) ≡ true → (c : ℕ) × ((c ≤ t) × Begins c)
  begins_by t ge e =
      let z : 9255 + suc (t - 9255) ≡ suc t = omega arith in
      elim (begun_or_unheard (suc (t - 9255))) [
        | inl quiet ↦ absurd (both_ways (signalled (ears h t)) (quiet t ge (omega arith)) e)
        | inr p ↦ (p.0, (omega (arith, p.1.0), p.1.1))
      ]

  -- an end that is over has sent COMSAS
  pub over-begun : (t : ℕ) → is_over (state t).phase ≡ true → (c : ℕ) × ((c + 23925 ≤ t) × Begins c)
  over-begun t over = elim (cases_lt t 9255) [
    | inl l ↦ absurd (not_over SendingCominit t None (cominit_stage t l) refl over)
    | inr ge ↦ elim (cases_Bool (signalled (ears h t))) [
      | inr e ↦
          (let z : 9255 + suc (t - 9255) ≡ suc t = omega arith in
          elim (begun_or_unheard (suc (t - 9255))) [
            | inl quiet ↦ (let (k, p) = waiting_at t ge (λ i a b. quiet i a (omega arith)) in
                absurd (not_over Awaiting k None (p ∙ cond-false (signalled (ears h t)) (make s SendingComsas 0 (ears h t) None) (make s Awaiting k (ears h t) None) e) refl over))
            | inr p ↦ (p.0, (comsas_sent p.0 p.1.1 (omega (arith, p.1.0)), p.1.1))
          ])
      | inl e ↦ (let p = begins_by t ge e in (p.0, (comsas_sent p.0 p.1.1 p.1.0, p.1.1)))
    ]
  ]
    where
      not_over : (p : Phase) (k : ℕ) (w : Option Window) → In t p k w → is_over p ≡ false → is_over (state t).phase ≡ true → ⊥
      not_over p k w e n o = false≢true (sym n ∙ ap is_over (sym (ap (λ z. z.phase) e)) ∙ o)

      comsas_sent : (c : ℕ) → Begins c → c ≤ t → c + 23925 ≤ t
      comsas_sent c b le = elim (cases_lt t (c + 23925)) [
        | inr g ↦ g
        | inl l ↦ (let z : c + (t - c) ≡ t = omega arith in
            absurd (not_over SendingComsas (t - c) None
            (subst (λ q. In q SendingComsas (t - c) None) z (comsas_stage c None (comsas_begins c b) (t - c) (omega arith))) refl over))
      ]
