-- One window that two ends open within the delay of one another.
use Rattle.std.proofs.Common.{◌≡◌, ℕ, suc, ◌+◌, ◌-◌, ◌<◌, ◌≤◌, true, false, Some, sym, ap, ◌∙◌, subst, inl, inr, add-suc, arith}
use Rattle.std.proofs.lemmas.Bool.{cases_Bool, cases_lt}
use Rattle.bringup.specs.declared.end.Phase.TheVariants.{Negotiating}
use Rattle.bringup.specs.declared.rate.Rate.{Rate}
use Rattle.bringup.specs.declared.end.Window.{Window}
use Rattle.bringup.specs.declared.end.Sign.TheVariants.{Align1}
use Rattle.bringup.specs.declared.end.Activity.TheVariants as sends
use Rattle.bringup.specs.Rates.{supports}
use Rattle.bringup.specs.Asking.{activity, latest_rate}
use Rattle.agreement.specs.FairLine.{Life, Hears, Reaches, Receiving, state_at, rate_at, age, signs_at, has}
use Rattle.agreement.proofs.Stages.{In}
use Rattle.agreement.proofs.Windows.{current, window_stage, open_rate, locked_stays, aligned_stays, locked_since, aligned_since, align_noted_valid, sends_align, align_sender_locked}

-- an end's phase, as the line's definitions have it
abbrev pub At : Life → ℕ → Window → Type 0
At x o w = In (signs_at x.notes) x.rates o Negotiating 0 (Some w)

-- y sends no ALIGN(1) at rate r from 14000 ticks before its tick f on
abbrev pub Silent : Life → ℕ → Rate → Type 0
Silent y f r = (u : ℕ) → f ≤ u + 14000 → activity (state_at y u) ≡ sends.Align1 → rate_at y u ≡ Some r → ⊥

-- ... and up to f
abbrev pub SilentBefore : Life → ℕ → Rate → Type 0
SilentBefore y f r = (u : ℕ) → u < f → f ≤ u + 14000 → activity (state_at y u) ≡ sends.Align1 → rate_at y u ≡ Some r → ⊥

module _ (delay : ℕ) (short : delay ≤ 7000) (x y : Life) (fair : Hears delay x y)
    (w : Window) (fresh : w.locked ≡ false) (unaligned : w.aligned ≡ false) (ox : ℕ) (opens-x : At x ox w) where
  -- the window of x after k ticks
  abbrev wx : ℕ → Window
  wx k = current (signs_at x.notes) x.rates ox w fresh unaligned opens-x k

  -- its rate through the window
  rate_x : (k : ℕ) → k < 328640 → rate_at x (ox + k) ≡ Some w.rate
  rate_x k lt = ap (λ e. latest_rate e.window) (window_stage (signs_at x.notes) x.rates ox w fresh unaligned opens-x k lt)
      ∙ ap Some (open_rate (signs_at x.notes) x.rates ox w fresh unaligned opens-x k)

  -- a valid window heard ALIGN(1) of y
  heard_of : (wx 328639).aligned ≡ true →
      (j u : ℕ) × ((j < 328639) × (u + y.born + delay ≡ suc (ox + j) + x.born) × (activity (state_at y u) ≡ sends.Align1) × (rate_at y u ≡ Some w.rate) × ((wx (suc j)).locked ≡ true))
  heard_of v =
      let (j, p) = aligned_since (signs_at x.notes) x.rates ox w fresh unaligned opens-x 328639 v in
      let (u, q) = fair.align_sent (suc (ox + j)) p.1 in (
        j,
        u,
        (
          p.0,
          omega (arith, q.0),
          q.1.0,
          q.1.1 ∙ subst (λ z. rate_at x z ≡ Some w.rate) (add-suc ox j) (rate_x (suc j) (omega (arith, p.0))),
          p.2,
        ),
      )

  -- with a silent partner no window is valid
  pub invalid_alone : (f : ℕ) → f + y.born ≤ ox + x.born + delay → Silent y f w.rate → (wx 328639).aligned ≡ false
  invalid_alone f near silent = elim (cases_Bool (wx 328639).aligned) [
    | inl v ↦ (let (j, u, p) = heard_of v in absurd (silent u (omega (arith, p.1)) p.2 p.3))
    | inr e ↦ e
  ]

  module _ (oy : ℕ) (opens-y : At y oy w) (near-x : oy + y.born ≤ ox + x.born + delay) (near-y : ox + x.born ≤ oy + y.born + delay) where
    -- the window of y after k ticks
    abbrev wy : ℕ → Window
    wy k = current (signs_at y.notes) y.rates oy w fresh unaligned opens-y k

    -- its rate through the window
    rate_y : (k : ℕ) → k < 328640 → rate_at y (oy + k) ≡ Some w.rate
    rate_y k lt = ap (λ e. latest_rate e.window) (window_stage (signs_at y.notes) y.rates oy w fresh unaligned opens-y k lt)
        ∙ ap Some (open_rate (signs_at y.notes) y.rates oy w fresh unaligned opens-y k)

    -- if x's window is valid, both locked in time at a rate that both support
    pub valid_both_locked : SilentBefore y oy w.rate → (wx 328639).aligned ≡ true →
        (((wx 314385).locked ≡ true) × (supports x.rates w.rate ≡ true)) × (((wy 314385).locked ≡ true) × (supports y.rates w.rate ≡ true))
    valid_both_locked silent v =
        let (j, u, p) = heard_of v in
        let lx = locked_since (signs_at x.notes) x.rates ox w fresh unaligned opens-x (suc j) p.4 in
        elim (cases_lt u oy) [
          | inl l ↦ absurd (silent u l (omega (arith, p.1)) p.2 p.3)
          | inr g ↦
              (let e : oy + (u - oy) ≡ u = omega arith in
              let lt : u - oy < 328640 = omega (arith, p.1, p.0) in
              let a : activity (state_at y (oy + (u - oy))) ≡ sends.Align1 = subst (λ z. activity (state_at y z) ≡ sends.Align1) (sym e) p.2 in (
                lx,
                locked_since (signs_at y.notes) y.rates oy w fresh unaligned opens-y (u - oy)
                    (align_sender_locked (signs_at y.notes) y.rates oy w fresh unaligned opens-y (u - oy) lt a),
              ))
        ]

    -- from the latest lock on ALIGN(1) arrives at x, which is locked
    receiving : (wx 314385).locked ≡ true → (wy 314385).locked ≡ true → (i j : ℕ) → 314385 ≤ i → i < 328640 → 314385 ≤ j → j < 328640 →
        Receiving x y (ox + i) (oy + j)
    receiving lx ly i j ai bi aj bj =
        let ei : 314385 + (i - 314385) ≡ i = omega arith in
        let ej : 314385 + (j - 314385) ≡ j = omega arith in
        let li : (wx i).locked ≡ true = subst (λ z. (wx z).locked ≡ true) ei (locked_stays (signs_at x.notes) x.rates ox w fresh unaligned opens-x 314385 (i - 314385) lx) in
        let lj : (wy j).locked ≡ true = subst (λ z. (wy z).locked ≡ true) ej (locked_stays (signs_at y.notes) y.rates oy w fresh unaligned opens-y 314385 (j - 314385) ly) in (
          sends_align (signs_at x.notes) x.rates ox w fresh unaligned opens-x i (omega arith) bi li
              (locked_since (signs_at x.notes) x.rates ox w fresh unaligned opens-x 314385 lx).1,
          sends_align (signs_at y.notes) y.rates oy w fresh unaligned opens-y j (omega arith) bj lj
              (locked_since (signs_at y.notes) y.rates oy w fresh unaligned opens-y 314385 ly).1,
          rate_y j bj ∙ sym (rate_x i bi),
        )

    -- if both locked in time, x's window is valid
    pub both_locked_valid : ox + 328640 ≤ age x.notes → oy + 328640 ≤ age y.notes →
        (wx 314385).locked ≡ true → (wy 314385).locked ≡ true → (wx 328639).aligned ≡ true
    both_locked_valid ax ay lx ly =
        let u : ℕ = ox + 328400 + x.born - (y.born + delay) in
        let r : Reaches delay x y (ox + 328400) u = omega arith in
        let (k, p) = fair.align_heard (ox + 328400) u r
        (λ k le.
        let ei : ox + (328400 + k) ≡ ox + 328400 + k = omega arith in
        let ej : oy + (u - oy + k) ≡ u + k = omega arith in
        subst (λ z. Receiving x y z (u + k)) ei (subst (λ z. Receiving x y (ox + (328400 + k)) z) ej
        (receiving lx ly (328400 + k) (u - oy + k) (omega arith) (omega arith) (omega arith) (omega arith))))
        (omega arith) (omega arith) in
        let e : ox + 328400 + k ≡ suc (ox + (328399 + k)) = omega (arith, p.0) in
        let n : has Align1 (signs_at x.notes (suc (ox + (328399 + k)))) ≡ true = subst (λ z. has Align1 (signs_at x.notes z) ≡ true) e p.2 in
        let g : 314385 + (14014 + k) ≡ 328399 + k = omega arith in
        let l : (wx (328399 + k)).locked ≡ true = subst (λ z. (wx z).locked ≡ true) g
        (locked_stays (signs_at x.notes) x.rates ox w fresh unaligned opens-x 314385 (14014 + k) lx) in
        let f : suc (328399 + k) + (328639 - suc (328399 + k)) ≡ 328639 = omega (arith, p.1) in
        subst (λ z. (wx z).aligned ≡ true) f
        (aligned_stays (signs_at x.notes) x.rates ox w fresh unaligned opens-x (suc (328399 + k)) (328639 - suc (328399 + k))
        (align_noted_valid (signs_at x.notes) x.rates ox w fresh unaligned opens-x (328399 + k) l n))
