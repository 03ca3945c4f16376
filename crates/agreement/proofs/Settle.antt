-- Two ends that open a window together come to one outcome.
use Rattle.std.proofs.Common.{◌≡◌, ℕ, zero, suc, ◌+◌, ◌-◌, ◌*◌, ◌<◌, ◌≤◌, Bool, true, false, ◌⊎◌, Some, sym, refl, ap, ◌∙◌, subst, inl, inr, arith}
use Rattle.std.proofs.lemmas.Bool.{both_ways, true≢false, false≢true, cases_Bool, cases_lt, and_from, and_parts}
use Rattle.bringup.specs.declared.end.Phase.{Phase}
use Rattle.bringup.specs.declared.end.Phase.TheVariants.{Negotiating, Ready, Failed}
use Rattle.bringup.specs.declared.rate.Rate.{Rate}
use Rattle.bringup.specs.declared.end.Standing.TheVariants.{AfterInvalid, AfterValid, Final}
use Rattle.bringup.specs.declared.end.Window.{Window}
use Rattle.bringup.specs.declared.end.Sign.TheVariants.{Locked}
use Rattle.bringup.specs.declared.end.Activity.TheVariants.{Idle}
use Rattle.bringup.specs.Rates.{supports, next_rate, previous_rate, past_highest, rate_number}
use Rattle.bringup.specs.Asking.{activity, latest_rate, outcome_in}
use Rattle.agreement.specs.FairLine.{Life, Hears, state_at, rate_at, present, present_rate, age, signs_at, Over, is_over, BothReady, BothFailed, shared, OpensWindow, LocksInTime, has}
use Rattle.agreement.proofs.Stages.{In}
use Rattle.agreement.proofs.Windows.{current, window_stage, open_rate, lock_noted, locked_since, fresh_window, after, is_align1, closes_ready, closes_failed, closes_valid, closes_back, closes_gives_up, closes_next, over_stays}
use Rattle.agreement.proofs.RateOrder.{Within, within_step, at_least_one, at_most_four, rate_same, next_differs, previous_differs, supported_next, supported_above}
use Rattle.agreement.proofs.Pair.{At, Silent, SilentBefore, invalid_alone, valid_both_locked, both_locked_valid}

-- One end

-- x is over, or has lived through n windows from tick o on
abbrev pub Lasting : Life → ℕ → ℕ → Type 0
Lasting x o n = (o ≤ age x.notes) × (Over x ⊎ (o + n * 328640 ≤ age x.notes))

module _ (x : Life) where
  -- the window is closed
  pub lasting_closes : (o n : ℕ) (w : Window) → w.locked ≡ false → w.aligned ≡ false → At x o w → Lasting x o (suc n) → o + 328640 ≤ age x.notes
  lasting_closes o n w f u e l = elim l.1 [
    | inr long ↦ omega arith
    | inl over ↦ elim (cases_lt (age x.notes) (o + 328640)) [
      | inr g ↦ g
      | inl lt ↦
          (let z : o + (age x.notes - o) ≡ age x.notes = omega (arith, l.0) in
          let i = window_stage (signs_at x.notes) x.rates o w f u e (age x.notes - o) (omega (arith, l.0)) in
          absurd (false≢true (ap is_over (sym (ap (λ q. q.phase) (subst (λ t. In (signs_at x.notes) x.rates t Negotiating (age x.notes - o) (Some (current (signs_at x.notes) x.rates o w f u e (age x.notes - o)))) z i))) ∙ over)))
    ]
  ]

  -- after a window one less is left
  pub lasting_next : (o n : ℕ) → o + 328640 ≤ age x.notes → Lasting x o (suc n) → Lasting x (o + 328640) n
  lasting_next o n c l = (c, elim l.1 [ inl over ↦ inl over | inr long ↦ inr (omega arith) ])

  -- an end that was over is so now, at that rate
  pub ends_over : (p : Phase) → is_over p ≡ true → (t : ℕ) (w : Window) → In (signs_at x.notes) x.rates t p 0 (Some w) → t ≤ age x.notes →
      ((present x).phase ≡ p) × (present_rate x ≡ Some w.rate)
  ends_over p over t w e le =
      let (n, i) = over_stays (signs_at x.notes) x.rates t (Some w) p over 0 e (age x.notes - t) in
      let z : t + (age x.notes - t) ≡ age x.notes = omega arith in
      let j : In (signs_at x.notes) x.rates (age x.notes) p n (Some w) = subst (λ q. In (signs_at x.notes) x.rates q p n (Some w)) z i in
      (ap (λ q. q.phase) j, ap (λ q. latest_rate q.window) j)

  -- an end that failed is failed now
  pub ends_failed : (t : ℕ) (w : Window) → In (signs_at x.notes) x.rates t Failed 0 (Some w) → t ≤ age x.notes → (present x).phase ≡ Failed
  ends_failed t w e le = (ends_over Failed refl t w e le).0

  -- in the last part of a window, only its rate is sent at
  pub window_rate : (o : ℕ) (w : Window) → w.locked ≡ false → w.aligned ≡ false → At x o w → (u : ℕ) → u < o + 328640 → o + 328640 ≤ u + 14000 → rate_at x u ≡ Some w.rate
  window_rate o w f v e u lt ge =
      let z : o + (u - o) ≡ u = omega arith in
      subst (λ q. rate_at x q ≡ Some w.rate) z
      (ap (λ q. latest_rate q.window) (window_stage (signs_at x.notes) x.rates o w f v e (u - o) (omega arith))
      ∙ ap Some (open_rate (signs_at x.notes) x.rates o w f v e (u - o)))

  -- a failed end sends nothing
  failed_idle : (t : ℕ) (w : Window) → In (signs_at x.notes) x.rates t Failed 0 (Some w) → (u : ℕ) → t ≤ u → activity (state_at x u) ≡ Idle
  failed_idle t w e u le =
      let (n, i) = over_stays (signs_at x.notes) x.rates t (Some w) Failed refl 0 e (u - t) in
      let z : t + (u - t) ≡ u = omega arith in
      subst (λ q. activity (state_at x q) ≡ Idle) z (ap activity i)

  -- once failed after a window, an end is silent at every other rate
  pub failed_silent : (o : ℕ) (w v : Window) → w.locked ≡ false → w.aligned ≡ false → At x o w →
      In (signs_at x.notes) x.rates (o + 328640) Failed 0 (Some v) → (r : Rate) → (Some w.rate ≡ Some r → ⊥) → Silent x (o + 328640) r
  failed_silent o w v f g e failed r other u ge a q = elim (cases_lt u (o + 328640)) [
    | inl lt ↦ other (sym (window_rate o w f g e u lt ge) ∙ q)
    | inr le ↦ false≢true (ap is_align1 (sym (failed_idle (o + 328640) v failed u le) ∙ a))
  ]

-- An end whose partner has failed fails too
module _ (delay : ℕ) (short : delay ≤ 7000) (x y : Life) (fair : Hears delay x y) (f : ℕ) where
  -- an invalid window of an end that hears no ALIGN(1): it fails, or the same holds of the next
  alone_step : (n : ℕ) (r : Rate) (o : ℕ) → At x o (fresh_window r AfterInvalid) → Within x.rates r → Silent y f r →
      f + y.born ≤ o + x.born + delay → Lasting x o (suc n) →
      (rate_number (next_rate r) ≡ suc (rate_number r) → Within x.rates (next_rate r) → At x (o + 328640) (fresh_window (next_rate r) AfterInvalid) →
      o + 328640 ≤ age x.notes → (present x).phase ≡ Failed) →
      (present x).phase ≡ Failed
  alone_step n r o e within silent near lasting onward =
      let w : Window = fresh_window r AfterInvalid in
      let c : o + 328640 ≤ age x.notes = lasting_closes x o n w refl refl e lasting in
      let v = invalid_alone delay short x y fair w refl refl o e f near silent in
      elim (cases_Bool (past_highest x.rates r)) [
        | inl p ↦ ends_failed x (o + 328640) (current (signs_at x.notes) x.rates o w refl refl e 328639)
            (closes_gives_up (signs_at x.notes) x.rates o w refl refl e refl v p) c
        | inr p ↦ (let s = within_step x.rates r within p in
            onward s.0 s.1 (closes_next (signs_at x.notes) x.rates o w refl refl e refl v p) c)
      ]

  -- so it fails, after at most so many windows as rates are left
  pub alone : (n : ℕ) (r : Rate) (o : ℕ) → At x o (fresh_window r AfterInvalid) → 4 ≤ rate_number r + n → Within x.rates r →
      ((q : Rate) → rate_number r ≤ rate_number q → Silent y f q) → f + y.born ≤ o + x.born + delay → Lasting x o (suc n) → (present x).phase ≡ Failed
  alone zero r o e enough within silent near lasting =
      alone_step zero r o e within (silent r (omega arith)) near lasting
      (λ step-up _ _ _. absurd (omega (arith, at_most_four (next_rate r))))
  alone (suc n) r o e enough within silent near lasting =
      alone_step (suc n) r o e within (silent r (omega arith)) near lasting
      (λ step-up within-next e-next c. alone n (next_rate r) (o + 328640) e-next (omega arith) within-next
      (λ q le. silent q (omega arith)) (omega arith) (lasting_next x o (suc n) c lasting))

-- Two ends

-- both open the window w, at most the delay apart
pub record Joint (delay : ℕ) (a b : Life) (oa ob : ℕ) (w : Window) : Type 0 where
  pub opens_a : At a oa w
  pub opens_b : At b ob w
  pub near_a : ob + b.born ≤ oa + a.born + delay
  pub near_b : oa + a.born ≤ ob + b.born + delay
  pub silent_a : SilentBefore a oa w.rate
  pub silent_b : SilentBefore b ob w.rate
  pub new_a : OpensWindow a oa
  pub new_b : OpensWindow b ob

module _ (delay : ℕ) (short : delay ≤ 7000) (a b : Life) (fair-a : Hears delay a b) (fair-b : Hears delay b a) where
  module _ (oa ob : ℕ) (w : Window) (f : w.locked ≡ false) (u : w.aligned ≡ false) (j : Joint delay a b oa ob w)
      (ca : oa + 328640 ≤ age a.notes) (cb : ob + 328640 ≤ age b.notes) where
    -- the windows of a and of b as they close
    abbrev wa : Window
    wa = current (signs_at a.notes) a.rates oa w f u j.opens_a 328639

    abbrev wb : Window
    wb = current (signs_at b.notes) b.rates ob w f u j.opens_b 328639

    -- if one window is valid, both are, at a rate that both support
    a_valid : wa.aligned ≡ true → (wb.aligned ≡ true) × (supports a.rates w.rate ≡ true) × (supports b.rates w.rate ≡ true)
    a_valid v =
        let l = valid_both_locked delay short a b fair-a w f u oa j.opens_a ob j.opens_b j.near_a j.near_b j.silent_b v in
        (both_locked_valid delay short b a fair-b w f u ob j.opens_b oa j.opens_a j.near_b j.near_a cb ca l.1.0 l.0.0, l.0.1, l.1.1)

    -- the same from b to a
    b_valid : wb.aligned ≡ true → wa.aligned ≡ true
    b_valid v =
        let l = valid_both_locked delay short b a fair-b w f u ob j.opens_b oa j.opens_a j.near_b j.near_a j.silent_a v in
        both_locked_valid delay short a b fair-a w f u oa j.opens_a ob j.opens_b j.near_a j.near_b ca cb l.1.0 l.0.0

    -- so both are valid or neither is
    pub together : ((wa.aligned ≡ true) × (wb.aligned ≡ true) × (supports a.rates w.rate ≡ true) × (supports b.rates w.rate ≡ true))
        ⊎ ((wa.aligned ≡ false) × (wb.aligned ≡ false))
    together = elim (cases_Bool wa.aligned) [
      | inl v ↦ (let p = a_valid v in inl (v, p.0, p.1, p.2))
      | inr n ↦ inr (n, elim (cases_Bool wb.aligned) [ inl v ↦ absurd (both_ways wa.aligned n (b_valid v)) | inr m ↦ m ])
    ]

    -- a window at a shared rate in which both lock in time is valid
    pub shared-valid : shared a b w.rate ≡ true → LocksInTime a b a → LocksInTime a b b → wa.aligned ≡ true
    shared-valid sh la lb =
        let p = and_parts (supports a.rates w.rate) (supports b.rates w.rate) sh in
        both_locked_valid delay short a b fair-a w f u oa j.opens_a ob j.opens_b j.near_a j.near_b ca cb
        (locked a oa j.opens_a j.new_a ca la p.0) (locked b ob j.opens_b j.new_b cb lb p.1)
      where
        locked : (x : Life) (o : ℕ) (e : At x o w) → OpensWindow x o → o + 328640 ≤ age x.notes → LocksInTime a b x → supports x.rates w.rate ≡ true →
            (current (signs_at x.notes) x.rates o w f u e 314385).locked ≡ true
        locked x o e new c l sup =
            let (k, q) = l o w.rate new (ap (λ z. latest_rate z.window) e) sh c in
            let z : o + 960 + k ≡ suc (o + (959 + k)) = omega arith in
            (locked_since (signs_at x.notes) x.rates o w f u e (suc (959 + k))
            (lock_noted (signs_at x.notes) x.rates o w f u e (959 + k) sup (omega arith) (omega (arith, q.0))
            (subst (λ t. has Locked (signs_at x.notes t) ≡ true) z q.1))).0

    -- both open another window, at another rate
    pub joint_next : (v : Window) → At a (oa + 328640) v → At b (ob + 328640) v → (Some w.rate ≡ Some v.rate → ⊥) →
        Joint delay a b (oa + 328640) (ob + 328640) v
    joint_next v ea eb other = record {
      opens_a = ea;
      opens_b = eb;
      near_a = omega (arith, j.near_a);
      near_b = omega (arith, j.near_b);
      silent_a = λ t lt ge _ q. other (sym (window_rate a oa w f u j.opens_a t lt ge) ∙ q);
      silent_b = λ t lt ge _ q. other (sym (window_rate b ob w f u j.opens_b t lt ge) ∙ q);
      new_a = (oa + 328639, (omega arith, λ q. other (sym (window_rate a oa w f u j.opens_a (oa + 328639) (omega arith) (omega arith)) ∙ (q ∙ ap (λ z. latest_rate z.window) ea))));
      new_b = (ob + 328639, (omega arith, λ q. other (sym (window_rate b ob w f u j.opens_b (ob + 328639) (omega arith) (omega arith)) ∙ (q ∙ ap (λ z. latest_rate z.window) eb))));
    }

module _ (delay : ℕ) (short : delay ≤ 7000) (a b : Life) (fair-a : Hears delay a b) (fair-b : Hears delay b a) where
  -- both lock in time at shared rates
  abbrev pub Locks : Type 0
  Locks = LocksInTime a b a × LocksInTime a b b

  -- the outcome, and what is hoped for
  abbrev pub Result : Type 0 → Type 0
  Result hope = (BothReady a b ⊎ BothFailed a b) × (hope → BothReady a b)

  -- the outcome if both failed and nothing was to be hoped for
  both_failed : {hope : Type 0} → (present a).phase ≡ Failed → (present b).phase ≡ Failed → (hope → ⊥) → Result hope
  both_failed p q never = (inr (ap outcome_in p, ap outcome_in q), λ h. absurd (never h))

  -- the last window
  settle_last : (r : Rate) (oa ob : ℕ) → Joint delay a b oa ob (fresh_window r Final) → Lasting a oa 1 → Lasting b ob 1 →
      Result ((shared a b r ≡ true) × Locks)
  settle_last r oa ob j la lb =
      let w : Window = fresh_window r Final in
      let ca : oa + 328640 ≤ age a.notes = lasting_closes a oa 0 w refl refl j.opens_a la in
      let cb : ob + 328640 ≤ age b.notes = lasting_closes b ob 0 w refl refl j.opens_b lb in
      elim (together delay short a b fair-a fair-b oa ob w refl refl j ca cb) [
        | inl p ↦
            (let ra = ends_over a Ready refl (oa + 328640) (current (signs_at a.notes) a.rates oa w refl refl j.opens_a 328639)
            (closes_ready (signs_at a.notes) a.rates oa w refl refl j.opens_a refl p.0) ca in
            let rb = ends_over b Ready refl (ob + 328640) (current (signs_at b.notes) b.rates ob w refl refl j.opens_b 328639)
            (closes_ready (signs_at b.notes) b.rates ob w refl refl j.opens_b refl p.1) cb in
            let ready : BothReady a b = record {
              first = ap outcome_in ra.0;
              second = ap outcome_in rb.0;
              rate = r;
              rate_first = ra.1 ∙ ap Some (open_rate (signs_at a.notes) a.rates oa w refl refl j.opens_a 328639);
              rate_second = rb.1 ∙ ap Some (open_rate (signs_at b.notes) b.rates ob w refl refl j.opens_b 328639);
              supported_first = p.2;
              supported_second = p.3;
            } in
            (inl ready, λ _. ready))
        | inr p ↦ both_failed
            (ends_failed a (oa + 328640) (current (signs_at a.notes) a.rates oa w refl refl j.opens_a 328639)
            (closes_failed (signs_at a.notes) a.rates oa w refl refl j.opens_a refl p.0) ca)
            (ends_failed b (ob + 328640) (current (signs_at b.notes) b.rates ob w refl refl j.opens_b 328639)
            (closes_failed (signs_at b.notes) b.rates ob w refl refl j.opens_b refl p.1) cb)
            (λ h. true≢false (sym (shared-valid delay short a b fair-a fair-b oa ob w refl refl j ca cb h.0 h.1.0 h.1.1) ∙ p.0))
      ]

  -- what is hoped for at a window that is not the last
  abbrev pub Hope : Rate → Bool → Type 0
  Hope r av = Locks × ((av ≡ true → shared a b (previous_rate r) ≡ true)
      × (av ≡ false → (q : Rate) × ((shared a b q ≡ true) × (rate_number r ≤ rate_number q))))

  -- who lasts for more windows lasts for one
  lasting_one : (x : Life) (o n : ℕ) → Lasting x o (suc n) → Lasting x o 1
  lasting_one x o n l = (l.0, elim l.1 [ inl over ↦ inl over | inr long ↦ inr (omega arith) ])

  -- one window that is not the last, with what follows it
  settle_step : (n : ℕ) (r : Rate) (av : Bool) (oa ob : ℕ) → Joint delay a b oa ob (fresh_window r (after av)) →
      4 ≤ rate_number r + n → (av ≡ true → 2 ≤ rate_number r) → (av ≡ false → Within a.rates r × Within b.rates r) →
      Lasting a oa (suc (suc n)) → Lasting b ob (suc (suc n)) →
      ((next : Bool) → rate_number (next_rate r) ≡ suc (rate_number r) → Joint delay a b (oa + 328640) (ob + 328640) (fresh_window (next_rate r) (after next)) →
      (next ≡ false → Within a.rates (next_rate r) × Within b.rates (next_rate r)) →
      oa + 328640 ≤ age a.notes → ob + 328640 ≤ age b.notes → Result (Hope (next_rate r) next)) →
      Result (Hope r av)
  settle_step n r av oa ob j enough pos within la lb onward =
      elim (together delay short a b fair-a fair-b oa ob (fresh_window r (after av)) refl refl j ca cb) [ inl p ↦ was_valid p | inr p ↦ was_invalid av refl p ]
    where
      ca : oa + 328640 ≤ age a.notes
      ca = lasting_closes a oa (suc n) (fresh_window r (after av)) refl refl j.opens_a la

      cb : ob + 328640 ≤ age b.notes
      cb = lasting_closes b ob (suc n) (fresh_window r (after av)) refl refl j.opens_b lb

      a_valid? : Bool
      a_valid? = (wa delay short a b fair-a fair-b oa ob (fresh_window r (after av)) refl refl j ca cb).aligned

      b_valid? : Bool
      b_valid? = (wb delay short a b fair-a fair-b oa ob (fresh_window r (after av)) refl refl j ca cb).aligned

      was_valid : ((a_valid? ≡ true) × (b_valid? ≡ true) × (supports a.rates r ≡ true) × (supports b.rates r ≡ true)) → Result (Hope r av)
      was_valid p =
          let s = supported_next a.rates r p.2 in
          let next = joint_next delay short a b fair-a fair-b oa ob (fresh_window r (after av)) refl refl j ca cb (fresh_window (next_rate r) AfterValid)
          (closes_valid (signs_at a.notes) a.rates oa (fresh_window r (after av)) refl refl j.opens_a av refl p.0) (closes_valid (signs_at b.notes) b.rates ob (fresh_window r (after av)) refl refl j.opens_b av refl p.1) (λ d. next_differs r s.0 (cc d)) in
          let res = onward true s.0 next (λ e. absurd (true≢false e)) ca cb in
          (res.0, λ h. res.1 (h.0, ((λ _. ap (shared a b) s.1 ∙ and_from (supports a.rates r) (supports b.rates r) p.2 p.3), λ e. absurd (true≢false e))))

      -- hope lies above a rate whose window was not valid
      hope_above : av ≡ false → a_valid? ≡ false → Hope r av → (q : Rate) × ((shared a b q ≡ true) × (rate_number r < rate_number q))
      hope_above e n h =
          let (q, t) = h.1.1 e in
          elim (cases_lt (rate_number r) (rate_number q)) [
            | inl lt ↦ (q, (t.0, lt))
            | inr ge ↦
                (let same : q ≡ r = rate_same q r (omega (arith, t.1)) in
                absurd (true≢false (sym (shared-valid delay short a b fair-a fair-b oa ob (fresh_window r (after av)) refl refl j ca cb (subst (λ z. shared a b z ≡ true) same t.0) h.0.0 h.0.1) ∙ n)))
          ]

      hope_a : av ≡ false → a_valid? ≡ false → past_highest a.rates r ≡ true → Hope r av → ⊥
      hope_a e n p h =
          let (q, t) = hope_above e n h in
          both_ways (past_highest a.rates r) (supported_above a.rates r q (and_parts (supports a.rates q) (supports b.rates q) t.0).0 t.1) p

      hope_b : av ≡ false → a_valid? ≡ false → past_highest b.rates r ≡ true → Hope r av → ⊥
      hope_b e n p h =
          let (q, t) = hope_above e n h in
          both_ways (past_highest b.rates r) (supported_above b.rates r q (and_parts (supports a.rates q) (supports b.rates q) t.0).1 t.1) p

      gives_up_a : av ≡ false → a_valid? ≡ false → past_highest a.rates r ≡ true → In (signs_at a.notes) a.rates (oa + 328640) Failed 0 (Some (current (signs_at a.notes) a.rates oa (fresh_window r (after av)) refl refl j.opens_a 328639))
      gives_up_a e n p = closes_gives_up (signs_at a.notes) a.rates oa (fresh_window r (after av)) refl refl j.opens_a (ap after e) n p

      gives_up_b : av ≡ false → b_valid? ≡ false → past_highest b.rates r ≡ true → In (signs_at b.notes) b.rates (ob + 328640) Failed 0 (Some (current (signs_at b.notes) b.rates ob (fresh_window r (after av)) refl refl j.opens_b 328639))
      gives_up_b e n p = closes_gives_up (signs_at b.notes) b.rates ob (fresh_window r (after av)) refl refl j.opens_b (ap after e) n p

      a_alone : av ≡ false → a_valid? ≡ false → b_valid? ≡ false → past_highest a.rates r ≡ false → past_highest b.rates r ≡ true → (present a).phase ≡ Failed
      a_alone e na nb pa pb =
          let s = within_step a.rates r (within e).0 pa in
          alone delay short a b fair-a (ob + 328640) n (next_rate r) (oa + 328640) (closes_next (signs_at a.notes) a.rates oa (fresh_window r (after av)) refl refl j.opens_a (ap after e) na pa) (omega (arith, s.0)) s.1
          (λ q le. failed_silent b ob (fresh_window r (after av)) (current (signs_at b.notes) b.rates ob (fresh_window r (after av)) refl refl j.opens_b 328639) refl refl j.opens_b (gives_up_b e nb pb) q
          (λ d. let z : r ≡ q = cc d in omega (arith, ap rate_number z, s.0)))
          (omega (arith, j.near_a)) (lasting_next a oa (suc n) ca la)

      b_alone : av ≡ false → a_valid? ≡ false → b_valid? ≡ false → past_highest a.rates r ≡ true → past_highest b.rates r ≡ false → (present b).phase ≡ Failed
      b_alone e na nb pa pb =
          let s = within_step b.rates r (within e).1 pb in
          alone delay short b a fair-b (oa + 328640) n (next_rate r) (ob + 328640) (closes_next (signs_at b.notes) b.rates ob (fresh_window r (after av)) refl refl j.opens_b (ap after e) nb pb) (omega (arith, s.0)) s.1
          (λ q le. failed_silent a oa (fresh_window r (after av)) (current (signs_at a.notes) a.rates oa (fresh_window r (after av)) refl refl j.opens_a 328639) refl refl j.opens_a (gives_up_a e na pa) q
          (λ d. let z : r ≡ q = cc d in omega (arith, ap rate_number z, s.0)))
          (omega (arith, j.near_b)) (lasting_next b ob (suc n) cb lb)

      was_invalid : (v : Bool) → av ≡ v → ((a_valid? ≡ false) × (b_valid? ≡ false)) → Result (Hope r av)
      was_invalid true e p =
          let back = joint_next delay short a b fair-a fair-b oa ob (fresh_window r (after av)) refl refl j ca cb (fresh_window (previous_rate r) Final)
          (closes_back (signs_at a.notes) a.rates oa (fresh_window r (after av)) refl refl j.opens_a (ap after e) p.0) (closes_back (signs_at b.notes) b.rates ob (fresh_window r (after av)) refl refl j.opens_b (ap after e) p.1) (λ d. previous_differs r (pos e) (cc d)) in
          let res = settle_last (previous_rate r) (oa + 328640) (ob + 328640) back
          (lasting_one a (oa + 328640) n (lasting_next a oa (suc n) ca la)) (lasting_one b (ob + 328640) n (lasting_next b ob (suc n) cb lb)) in
          (res.0, λ h. res.1 (h.1.0 e, h.0))
      was_invalid false e p = elim (cases_Bool (past_highest a.rates r)) [
        | inl pa ↦ elim (cases_Bool (past_highest b.rates r)) [
          | inl pb ↦ both_failed (ends_failed a (oa + 328640) (current (signs_at a.notes) a.rates oa (fresh_window r (after av)) refl refl j.opens_a 328639) (gives_up_a e p.0 pa) ca)
              (ends_failed b (ob + 328640) (current (signs_at b.notes) b.rates ob (fresh_window r (after av)) refl refl j.opens_b 328639) (gives_up_b e p.1 pb) cb) (hope_a e p.0 pa)
          | inr pb ↦ both_failed (ends_failed a (oa + 328640) (current (signs_at a.notes) a.rates oa (fresh_window r (after av)) refl refl j.opens_a 328639) (gives_up_a e p.0 pa) ca)
              (b_alone e p.0 p.1 pa pb) (hope_a e p.0 pa)
        ]
        | inr pa ↦ elim (cases_Bool (past_highest b.rates r)) [
          | inl pb ↦ both_failed (a_alone e p.0 p.1 pa pb)
              (ends_failed b (ob + 328640) (current (signs_at b.notes) b.rates ob (fresh_window r (after av)) refl refl j.opens_b 328639) (gives_up_b e p.1 pb) cb) (hope_b e p.0 pb)
          | inr pb ↦
              (let sa = within_step a.rates r (within e).0 pa in
              let sb = within_step b.rates r (within e).1 pb in
              let next = joint_next delay short a b fair-a fair-b oa ob (fresh_window r (after av)) refl refl j ca cb (fresh_window (next_rate r) AfterInvalid)
              (closes_next (signs_at a.notes) a.rates oa (fresh_window r (after av)) refl refl j.opens_a (ap after e) p.0 pa) (closes_next (signs_at b.notes) b.rates ob (fresh_window r (after av)) refl refl j.opens_b (ap after e) p.1 pb) (λ d. next_differs r sa.0 (cc d)) in
              let res = onward false sa.0 next (λ _. (sa.1, sb.1)) ca cb in (
                res.0,
                λ h. res.1 (
                  h.0,
                  (
                    (λ f. absurd (false≢true f)),
                    λ _.
                        let (q, t) = hope_above e p.0 h in (q, (t.0, omega (arith, t.1, sa.0))),
                  ),
                ),
              ))
        ]
      ]

  -- so with enough windows left two ends that open one together come to one outcome
  pub settle : (n : ℕ) (r : Rate) (av : Bool) (oa ob : ℕ) → Joint delay a b oa ob (fresh_window r (after av)) →
      4 ≤ rate_number r + n → (av ≡ true → 2 ≤ rate_number r) → (av ≡ false → Within a.rates r × Within b.rates r) →
      Lasting a oa (suc (suc n)) → Lasting b ob (suc (suc n)) → Result (Hope r av)
  settle zero r av oa ob j enough pos within la lb =
      settle_step zero r av oa ob j enough pos within la lb
      (λ next up _ _ _ _. absurd (omega (arith, at_most_four (next_rate r))))
  settle (suc n) r av oa ob j enough pos within la lb =
      settle_step (suc n) r av oa ob j enough pos within la lb
      (λ next up jn wn ca cb. settle n (next_rate r) next (oa + 328640) (ob + 328640) jn (omega arith) (λ _. omega (arith, at_least_one r)) wn
      (lasting_next a oa (suc (suc n)) ca la) (lasting_next b ob (suc (suc n)) cb lb))
