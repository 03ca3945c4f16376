-- Two ends that have sent COMSAS open their first windows together.
use Rattle.std.proofs.Common.{◌≡◌, ℕ, suc, ◌+◌, ◌-◌, ◌<◌, ◌≤◌, Bool, true, false, ◌⊎◌, None, List, sym, refl, ap, ◌∙◌, subst, inl, inr, arith}
use Rattle.std.proofs.lemmas.Bool.Decides.{nat_tests}
use Rattle.std.proofs.lemmas.Bool.{both_ways, false≢true, cases_lt, or_right}
use Rattle.bringup.specs.declared.end.Phase.TheVariants.{Falling}
use Rattle.bringup.specs.declared.rate.Rate.{Rate}
use Rattle.bringup.specs.declared.end.Sign.{Sign}
use Rattle.bringup.specs.declared.end.Activity.TheVariants.{Idle}
use Rattle.bringup.specs.declared.end.Activity.TheVariants as sends
use Rattle.bringup.specs.Detection.{passed}
use Rattle.bringup.specs.Bringup.{signalled}
use Rattle.bringup.specs.Asking.{activity, latest_rate, in_burst, sending}
use Rattle.agreement.specs.FairLine.{Life, Hears, Reaches, state_at, rate_at, age, signs_at, Over, is_over, OpensWindow}
use Rattle.agreement.proofs.Machine.{first_window, ears}
use Rattle.agreement.proofs.Stages.{In, Begins, comsas_begins, comsas_stage, comsas_stays, fallen_stays, falling_stage, opens_at_once, opens_later}
use Rattle.agreement.proofs.Line.{detected_since, hears_comsas, not_fallen_before, falls}
use Rattle.agreement.proofs.Windows.{is_align1}
use Rattle.agreement.proofs.Pair.{At, SilentBefore}

-- a signal is no ALIGN(1)
not_align1_sending : (b : Bool) → is_align1 (sending b) ≡ false
not_align1_sending b = grind (arith, nat_tests)

-- x begins COMSAS at its tick c
abbrev pub Starts : Life → ℕ → Type 0
Starts x c = Begins (signs_at x.notes) x.rates c

-- x opens its first window at tick o, as soon as both COMSAS are over for it; the other's arrives at tick t
pub record Opened (x : Life) (c t o : ℕ) : Type 0 where
  pub opens : At x o first_window
  pub own : c + 23925 ≤ o
  pub others : t + 23925 ≤ o
  pub soonest : (o ≡ c + 23925) ⊎ (o ≡ t + 23925)
  pub silent : (r : Rate) → SilentBefore x o r
  pub reached : o ≤ age x.notes
  pub new : OpensWindow x o

-- the first window's rate is the first that the end tells
first_new : (x : Life) (v : ℕ) → rate_at x v ≡ None → At x (suc v) first_window → OpensWindow x (suc v)
first_new x v before opens =
    (v, (refl, λ e. let z = sym before ∙ (e ∙ ap (λ q. latest_rate q.window) opens) in cc z))

module _ (delay : ℕ) (short : delay ≤ 7000) (x y : Life) (fx : Hears delay x y) (fy : Hears delay y x) (cx cy : ℕ)
    (bx : Starts x cx) (by : Starts y cy) (sx : cx + 23925 ≤ age x.notes) (sy : cy + 23925 ≤ age y.notes)
    (tx ty : ℕ) (rx : Reaches delay x y tx cy) (ry : Reaches delay y x ty cx) where
  -- when x begins COMSAS, something of y has arrived
  since : (u : ℕ) × (Reaches delay x y cx u × (960 ≤ u))
  since = detected_since delay x y fx cx (omega arith) (omega arith) bx.detected

  -- y begins COMSAS after its COMINIT, or on hearing x's
  late : (cy ≤ 9255) ⊎ (cy ≤ ty + 15680)
  late = elim (cases_lt 9255 cy) [
    | inr le ↦ inl le
    | inl gt ↦ elim (cases_lt (ty + 15680) cy) [
      | inr le ↦ inr le
      | inl l ↦
          (let p = hears_comsas delay y x fy cx ty bx ry sx (omega arith) in
          let z : ty + 15680 + (cy - 1 - (ty + 15680)) ≡ cy - 1 = omega arith in
          let q : (ears (signs_at y.notes) (cy - 1)).comsas ≡ true =
          subst (λ k. (ears (signs_at y.notes) k).comsas ≡ true) z
          (comsas_stays (signs_at y.notes) y.rates (ty + 15680) (cy - 1 - (ty + 15680)) p) in
          absurd (both_ways (signalled (ears (signs_at y.notes) (cy - 1))) (by.not_before (cy - 1) (omega arith) (omega arith))
          (or_right (ears (signs_at y.notes) (cy - 1)).cominit (ears (signs_at y.notes) (cy - 1)).comsas q)))
    ]
  ]

  -- y's COMSAS arrives soon after x's own began
  pub soon : tx ≤ cx + 29680
  soon = let (u, p) = since in elim late
      [ inl l ↦ omega (arith, p.0, p.1) | inr l ↦ omega arith ]

  -- the signs of x
  abbrev hx : ℕ → List Sign
  hx = signs_at x.notes

  -- the COMSAS of y has not fallen before its closing idle has arrived
  not_yet : (k : ℕ) → cx ≤ k → k < tx + 23924 → k < age x.notes → (passed (ears hx k)).fallen ≡ false
  not_yet k ge lt la =
      let (u, p) = since in
      not_fallen_before delay x y fx cy tx by rx sy k (k + x.born - (y.born + delay)) (omega (arith, p.0)) lt la

  -- x waits for it long enough
  heard_by : (j : ℕ) → cx + 23925 + j ≤ age x.notes → (i : ℕ) → i < j → ((ears hx (cx + 23925 + i)).comsas ≡ true) ⊎ (suc i < 32640)
  heard_by j la i lt = elim (cases_lt (cx + 23925 + i) (tx + 15680)) [
    | inl l ↦ inr (omega (arith, soon))
    | inr g ↦
        (let z : tx + 15680 + (cx + 23925 + i - (tx + 15680)) ≡ cx + 23925 + i = omega arith in
        inl (subst (λ k. (ears hx k).comsas ≡ true) z
        (comsas_stays hx x.rates (tx + 15680) (cx + 23925 + i - (tx + 15680)) (hears_comsas delay x y fx cy tx by rx sy (omega arith)))))
  ]

  -- until then x waits
  waits : (j : ℕ) → cx + 23925 + j ≤ tx + 23924 → cx + 23925 + j ≤ age x.notes → (k : ℕ) × ((k ≤ j) × In hx x.rates (cx + 23925 + j) Falling k None)
  waits j le la = falling_stage hx x.rates cx bx j
      (λ i li. not_yet (cx + 23924 + i) (omega arith) (omega arith) (omega arith)) (heard_by j la)

  -- an end that is over was not still waiting
  pub over-opened : Over x → tx + 23925 ≤ age x.notes
  over-opened over = elim (cases_lt (age x.notes) (tx + 23925)) [
    | inr g ↦ g
    | inl l ↦
        (let z : cx + 23925 + (age x.notes - (cx + 23925)) ≡ age x.notes = omega arith in
        let (k, p) = waits (age x.notes - (cx + 23925)) (omega arith) (omega arith) in
        let i : In hx x.rates (age x.notes) Falling k None = subst (λ t. In hx x.rates t Falling k None) z p.1 in
        absurd (false≢true (ap is_over (sym (ap (λ e. e.phase) i)) ∙ over)))
  ]

  -- while COMSAS is sent there is no ALIGN(1)
  comsas_silent : (u : ℕ) → cx ≤ u → u < cx + 23925 → activity (state_at x u) ≡ sends.Align1 → ⊥
  comsas_silent u ge lt a =
      let z : cx + (u - cx) ≡ u = omega arith in
      let e : activity (state_at x u) ≡ sending (in_burst 2880 (u - cx)) =
      subst (λ t. activity (state_at x t) ≡ sending (in_burst 2880 (u - cx))) z
      (ap activity (comsas_stage hx x.rates cx None (comsas_begins hx x.rates cx bx) (u - cx) (omega arith))) in
      false≢true (sym (not_align1_sending (in_burst 2880 (u - cx))) ∙ ap is_align1 (sym e ∙ a))

  -- nor while the end waits for the fall
  waiting_silent : (u : ℕ) → cx + 23925 ≤ u → u ≤ tx + 23924 → u ≤ age x.notes → activity (state_at x u) ≡ sends.Align1 → ⊥
  waiting_silent u ge lt la a =
      let z : cx + 23925 + (u - (cx + 23925)) ≡ u = omega arith in
      let (k, p) = waits (u - (cx + 23925)) (omega arith) (omega arith) in
      let e : activity (state_at x u) ≡ Idle = subst (λ t. activity (state_at x t) ≡ Idle) z (ap activity p.1) in
      false≢true (ap is_align1 (sym e ∙ a))

  -- with the fall the first window opens
  pub opens_first : tx + 23925 ≤ age x.notes → (o : ℕ) × Opened x cx tx o
  opens_first la = elim (cases_lt cx tx) [
    | inr at_once ↦
        (let z : tx + 23924 + (cx - tx) ≡ cx + 23924 = omega arith in
        let f : (passed (ears hx (cx + 23924))).fallen ≡ true = subst (λ k. (passed (ears hx k)).fallen ≡ true) z
        (fallen_stays hx x.rates (tx + 23924) (cx - tx) (falls delay x y fx cy tx by rx sy (omega arith))) in (
          suc (cx + 23924),
          record {
            opens = opens_at_once hx x.rates cx bx f;
            own = omega arith;
            others = omega arith;
            soonest = inl (omega arith);
            silent = λ r u lt ge a _. comsas_silent u (omega arith) (omega arith) a;
            reached = omega arith;
            new = first_new x (cx + 23924)
                (ap (λ q. latest_rate q.window) (comsas_stage hx x.rates cx None (comsas_begins hx x.rates cx bx) 23924 (omega arith)))
                (opens_at_once hx x.rates cx bx f);
          },
        ))
    | inl later ↦
        (let j : ℕ = tx - cx - 1 in
        let z : tx + 23924 ≡ cx + 23925 + j = omega arith in
        let f : (passed (ears hx (cx + 23925 + j))).fallen ≡ true = subst (λ k. (passed (ears hx k)).fallen ≡ true) z (falls delay x y fx cy tx by rx sy (omega arith)) in (
          suc (cx + 23925 + j),
          record {
            opens = opens_later hx x.rates cx bx j (λ i li. not_yet (cx + 23924 + i) (omega arith) (omega arith) (omega arith))
                (heard_by j (omega arith)) f;
            own = omega arith;
            others = omega arith;
            soonest = inr (omega arith);
            silent = λ r u lt ge a _. elim (cases_lt u (cx + 23925)) [
              | inl l ↦ comsas_silent u (omega arith) l a
              | inr g ↦ waiting_silent u g (omega arith) (omega arith) a
            ];
            reached = omega arith;
            new = first_new x (cx + 23925 + j) (let (k, p) = waits j (omega arith) (omega arith) in ap (λ q. latest_rate q.window) p.1)
                (opens_later hx x.rates cx bx j (λ i li. not_yet (cx + 23924 + i) (omega arith) (omega arith) (omega arith))
                (heard_by j (omega arith)) f);
          },
        ))
  ]
