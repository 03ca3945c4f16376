-- One window of one end.
use Rattle.std.proofs.Common.{◌≡◌, ℕ, zero, suc, ◌+◌, ◌-◌, ◌<◌, ◌≤◌, Bool, true, false, cond, ◌&&◌, leb, ◌⊎◌, List, [], ◌∷◌, Some, Option, sym, refl, ap, ◌∙◌, subst, inl, inr, add-zero, add-suc, arith}
use Rattle.std.proofs.lemmas.Bool.Decides.{nat_tests}
use Rattle.std.proofs.lemmas.Bool.{cond-true, cond-false, and_from, and_parts, le-leb, leb-true, both_ways, false≢true, cases_Bool, cases_lt, or_right}
use Rattle.bringup.specs.declared.end.Phase.{Phase}
use Rattle.bringup.specs.declared.end.Phase.TheVariants.{Negotiating, Ready, Failed}
use Rattle.bringup.specs.declared.rate.Rate.{Rate}
use Rattle.bringup.specs.declared.rate.RateSet.{RateSet}
use Rattle.bringup.specs.declared.end.Standing.{Standing}
use Rattle.bringup.specs.declared.end.Standing.TheVariants.{AfterInvalid, AfterValid, Final}
use Rattle.bringup.specs.declared.end.Window.{Window}
use Rattle.bringup.specs.declared.end.Sign.{Sign}
use Rattle.bringup.specs.declared.end.Sign.TheVariants.{Locked, Align1}
use Rattle.bringup.specs.declared.end.Activity.{Activity}
use Rattle.bringup.specs.declared.end.Activity.TheVariants.{Idle, Burst}
use Rattle.bringup.specs.declared.end.Activity.TheVariants as sends
use Rattle.bringup.specs.Bringup.{locked_window, aligned_window, is_awaiting, is_negotiating, settled, closing, later}
use Rattle.bringup.specs.Rates.{supports, next_rate, previous_rate, past_highest}
use Rattle.bringup.specs.Asking.{activity}
use Rattle.bringup.specs.Detection.{passed}
use Rattle.bringup.specs.declared.detector.Detector.{Detector}
use Rattle.bringup.specs.declared.end.End.{End}
use Rattle.agreement.specs.FairLine.{has, is_sign, all_signed, is_over}
use Rattle.agreement.proofs.Machine.{make, ears, window_one, window_all, in_time, window_step, heard, signs_opening, signs_other}
use Rattle.agreement.proofs.Stages.{state, In, step}

-- what a window keeps, and how it may change at its tick k
pub record Grows (s : RateSet) (k : ℕ) (gs : List Sign) (v w : Window) : Type 0 where
  pub rate : w.rate ≡ v.rate
  pub standing : w.standing ≡ v.standing
  pub lock_stays : v.locked ≡ true → w.locked ≡ true
  pub align_stays : v.aligned ≡ true → w.aligned ≡ true
  pub lock_counts : w.locked ≡ true → (v.locked ≡ true) ⊎ (in_time s k v ≡ true)
  pub align_noted : w.aligned ≡ true → (v.aligned ≡ true) ⊎ ((has Align1 gs ≡ true) × (w.locked ≡ true))

-- a sign locks a window only in time
locked_by : (g : Sign) (s : RateSet) (k : ℕ) (w : Window) → (window_one g s k w).locked ≡ true → (w.locked ≡ true) ⊎ (in_time s k w ≡ true)
locked_by g s k w e = elim (cases_Bool w.locked) [ inl l ↦ inl l | inr n ↦ inr (grind (arith, nat_tests)) ]

-- and makes it valid only as an ALIGN(1) in a locked one
aligned_by : (g : Sign) (s : RateSet) (k : ℕ) (w : Window) → (window_one g s k w).aligned ≡ true →
    (w.aligned ≡ true) ⊎ ((is_sign Align1 g ≡ true) × ((window_one g s k w).locked ≡ true))
aligned_by g s k w e = elim (cases_Bool w.aligned) [ inl a ↦ inl a | inr n ↦ inr (grind (arith, nat_tests), grind (arith, nat_tests)) ]

-- so the signs of a tick let a window grow only
pub grows : (gs : List Sign) (s : RateSet) (k : ℕ) (w : Window) → Grows s k gs w (window_all gs s k w)
grows [] s k w = record {
  rate = refl;
  standing = refl;
  lock_stays = λ e. e;
  align_stays = λ e. e;
  lock_counts = λ e. inl e;
  align_noted = λ e. inl e;
}
grows (g ∷ gs) s k w =
    let v : Window = window_one g s k w in
    let h : Grows s k gs v (window_all gs s k v) = grows gs s k v in
    record {
      rate = grind (arith, nat_tests, h.rate);
      standing = grind (arith, nat_tests, h.standing);
      lock_stays = λ e. h.lock_stays (grind (arith, nat_tests));
      align_stays = λ e. h.align_stays (grind (arith, nat_tests));
      lock_counts = λ e. elim (h.lock_counts e) [ inl l ↦ locked_by g s k w l | inr t ↦ inr (grind (arith, nat_tests, t)) ];
      align_noted = λ e. elim (h.align_noted e) [
        | inl a ↦ elim (aligned_by g s k w a) [
          | inl b ↦ inl b
          | inr p ↦ inr (grind (arith, nat_tests, p.0), h.lock_stays (grind (arith, nat_tests, p.1)))
        ]
        | inr p ↦ inr (or_right (is_sign Align1 g) (has Align1 gs) p.0, p.1)
      ];
    }

-- a lock in time counts
pub locks : (gs : List Sign) (s : RateSet) (k : ℕ) (w : Window) → has Locked gs ≡ true → in_time s k w ≡ true → (window_all gs s k w).locked ≡ true
locks [] s k w h i = absurd (false≢true h)
locks (g ∷ gs) s k w h i = grind (arith, nat_tests, locks gs s k w, locks gs s k (aligned_window w), (grows gs s k (locked_window w)).lock_stays)

-- ALIGN(1) after a lock makes the window valid
pub aligns : (gs : List Sign) (s : RateSet) (k : ℕ) (w : Window) → has Align1 gs ≡ true → w.locked ≡ true → (window_all gs s k w).aligned ≡ true
aligns [] s k w h l = absurd (false≢true h)
aligns (g ∷ gs) s k w h l = grind (arith, nat_tests, aligns gs s k w, aligns gs s k (locked_window w), (grows gs s k (aligned_window w)).align_stays)

-- whether an end sends ALIGN(1)
abbrev pub is_align1 : Activity → Bool
is_align1 Idle = false
is_align1 Burst = false
is_align1 sends.Align0 = false
is_align1 sends.Align1 = true

-- it does not before a lock has counted
not_align1 : (b : Bool) → is_align1 (cond b sends.Align0 Idle) ≡ false
not_align1 b = grind (arith, nat_tests)

-- an end that is over makes no transition
over_settled : (p : Phase) (e : End) → is_over p ≡ true → settled p e ≡ e
over_settled p e over = grind (arith, nat_tests)

-- and neither waits nor negotiates
over_idle : (p : Phase) → is_over p ≡ true → (is_awaiting p ≡ false) × (is_negotiating p ≡ false)
over_idle p over = (grind (arith, nat_tests), grind (arith, nat_tests))

-- a window as it opens
abbrev pub fresh_window : Rate → Standing → Window
fresh_window r standing = record { rate = r; standing = standing; locked = false; aligned = false }

-- where the next window stands, unless it is the final one
abbrev pub after : Bool → Standing
after true = AfterValid
after false = AfterInvalid

-- The window opened at tick o with w
module _ (h : ℕ → List Sign) (s : RateSet) (o : ℕ) (w : Window) (fresh : w.locked ≡ false) (unaligned : w.aligned ≡ false)
    (opens : In h s o Negotiating 0 (Some w)) where
  -- the window after k ticks
  unfoldable pub current : ℕ → Window
  current zero = w
  current (suc k) = window_all (h (suc (o + k))) s (suc k) (current k)

  -- from where it opens the end is in it for 328,640 ticks
  pub window_stage : (k : ℕ) → k < 328640 → In h s (o + k) Negotiating k (Some (current k))
  unfolding current
  window_stage zero _ = rw (add-zero o) opens
  window_stage (suc k) lt = rw (add-suc o k)
      (step h s (o + k) Negotiating Negotiating k (suc k) (Some (current k)) (Some (current (suc k))) (window_stage k (omega arith))
      (window_step (h (suc (o + k))) s k (ears h (o + k)) (current k) lt))

  -- from tick to tick the window grows
  pub grown : (k : ℕ) → Grows s (suc k) (h (suc (o + k))) (current k) (current (suc k))
  unfolding current
  grown k = grows (h (suc (o + k))) s (suc k) (current k)

  -- its rate stays
  pub open_rate : (k : ℕ) → (current k).rate ≡ w.rate
  unfolding current
  open_rate zero = refl
  open_rate (suc k) = (grown k).rate ∙ open_rate k

  -- and so does its standing
  pub open_standing : (k : ℕ) → (current k).standing ≡ w.standing
  unfolding current
  open_standing zero = refl
  open_standing (suc k) = (grown k).standing ∙ open_standing k

  -- a lock stays
  pub locked_stays : (k j : ℕ) → (current k).locked ≡ true → (current (k + j)).locked ≡ true
  locked_stays k zero e = rw (add-zero k) e
  locked_stays k (suc j) e = rw (add-suc k j) ((grown (k + j)).lock_stays (locked_stays k j e))

  -- a valid window stays valid
  pub aligned_stays : (k j : ℕ) → (current k).aligned ≡ true → (current (k + j)).aligned ≡ true
  aligned_stays k zero e = rw (add-zero k) e
  aligned_stays k (suc j) e = rw (add-suc k j) ((grown (k + j)).align_stays (aligned_stays k j e))

  -- only at a supported rate is there a lock
  supported : (k : ℕ) → (current k).locked ≡ true → supports s w.rate ≡ true
  unfolding current
  supported zero e = absurd (both_ways w.locked fresh e)
  supported (suc k) e = elim ((grown k).lock_counts e) [
    | inl p ↦ supported k p
    | inr p ↦ ap (supports s) (sym (open_rate k)) ∙ (and_parts (supports s (current k).rate) (leb 960 (suc k) && leb (suc k) 314385) p).0
  ]

  -- a lock comes in time, at a supported rate
  pub locked_since : (k : ℕ) → (current k).locked ≡ true → ((current 314385).locked ≡ true) × (supports s w.rate ≡ true)
  locked_since k e = elim (cases_lt k 314386) [
    | inl lt ↦ (let z : k + (314385 - k) ≡ 314385 = omega arith in
        (subst (λ n. (current n).locked ≡ true) z (locked_stays k (314385 - k) e), supported k e))
    | inr ge ↦ (let z : 314385 + (k - 314385) ≡ k = omega arith in
        (back (k - 314385) (subst (λ n. (current n).locked ≡ true) (sym z) e), supported k e))
  ]
    where
      back : (j : ℕ) → (current (314385 + j)).locked ≡ true → (current 314385).locked ≡ true
      back zero e = e
      back (suc j) e = elim ((grown (314385 + j)).lock_counts (subst (λ n. (current n).locked ≡ true) (add-suc 314385 j) e)) [
        | inl p ↦ back j p
        | inr p ↦ absurd (omega (
          arith,
          leb-true (suc (314385 + j)) 314385
              (and_parts (leb 960 (suc (314385 + j))) (leb (suc (314385 + j)) 314385)
              (and_parts (supports s (current (314385 + j)).rate) (leb 960 (suc (314385 + j)) && leb (suc (314385 + j)) 314385) p).1).1,
        ))
      ]

  -- a valid window noted ALIGN(1) after a lock
  pub aligned_since : (k : ℕ) → (current k).aligned ≡ true →
      (j : ℕ) × ((j < k) × (has Align1 (h (suc (o + j))) ≡ true) × ((current (suc j)).locked ≡ true))
  unfolding current
  aligned_since zero e = absurd (both_ways w.aligned unaligned e)
  aligned_since (suc k) e = elim ((grown k).align_noted e) [
    | inl p ↦ (let (j, q) = aligned_since k p in (j, (omega (arith, q.0), q.1, q.2)))
    | inr p ↦ (k, (omega arith, p.0, p.1))
  ]

  -- a lock noted in time counts
  pub lock_noted : (k : ℕ) → supports s w.rate ≡ true → 960 ≤ suc k → suc k ≤ 314385 → has Locked (h (suc (o + k))) ≡ true → (current (suc k)).locked ≡ true
  unfolding current
  lock_noted k sup ge le n = locks (h (suc (o + k))) s (suc k) (current k) n
      (and_from (supports s (current k).rate) (leb 960 (suc k) && leb (suc k) 314385) (ap (supports s) (open_rate k) ∙ sup)
      (and_from (leb 960 (suc k)) (leb (suc k) 314385) (le-leb 960 (suc k) ge) (le-leb (suc k) 314385 le)))

  -- an ALIGN(1) noted after a lock makes the window valid
  pub align_noted_valid : (k : ℕ) → (current k).locked ≡ true → has Align1 (h (suc (o + k))) ≡ true → (current (suc k)).aligned ≡ true
  unfolding current
  align_noted_valid k l n = aligns (h (suc (o + k))) s (suc k) (current k) n l

  -- a locked window sends ALIGN(1)
  pub sends_align : (k : ℕ) → 960 ≤ k → k < 328640 → (current k).locked ≡ true → supports s w.rate ≡ true → activity (state h s (o + k)) ≡ sends.Align1
  sends_align k ge lt l sup =
      ap activity (window_stage k lt)
      ∙ cond-true (supports s (current k).rate && leb 960 k) (cond (current k).locked sends.Align1 sends.Align0) Idle
      (and_from (supports s (current k).rate) (leb 960 k) (ap (supports s) (open_rate k) ∙ sup) (le-leb 960 k ge))
      ∙ cond-true (current k).locked sends.Align1 sends.Align0 l

  -- what sends ALIGN(1) has locked
  pub align_sender_locked : (k : ℕ) → k < 328640 → activity (state h s (o + k)) ≡ sends.Align1 → (current k).locked ≡ true
  align_sender_locked k lt e = elim (cases_Bool (current k).locked) [
    | inl l ↦ l
    | inr n ↦ absurd (false≢true (sym (not_align1 (supports s (current k).rate && leb 960 k)) ∙ ap is_align1 (sym (idle_or_align0 n) ∙ e)))
  ]
    where
      idle_or_align0 : (current k).locked ≡ false → activity (state h s (o + k)) ≡ cond (supports s (current k).rate && leb 960 k) sends.Align0 Idle
      idle_or_align0 n = ap activity (window_stage k lt)
          ∙ ap (λ z. cond (supports s (current k).rate && leb 960 k) z Idle) (cond-false (current k).locked sends.Align1 sends.Align0 n)

  -- the window closes with the tick after its last
  closes : (p : Phase) (v : Option Window) →
      all_signed (h (suc (o + 328639))) (closing (current 328639) (make s Negotiating 328640 (passed (ears h (o + 328639))) (Some (current 328639))))
      ≡ make s p 0 (heard (h (suc (o + 328639))) (passed (ears h (o + 328639)))) v →
      In h s (o + 328640) p 0 v
  closes p v e = subst (λ z. In h s z p 0 v) (sym (add-suc o 328639))
      (step h s (o + 328639) Negotiating p 328639 0 (Some (current 328639)) v (window_stage 328639 (omega arith)) e)

  -- whether the window was valid when it closed
  abbrev valid : Bool
  valid = (current 328639).aligned

  -- the detector as the last tick leaves it
  abbrev last_detector : Detector
  last_detector = passed (ears h (o + 328639))

  -- the end before the transition of the last tick
  abbrev last_end : End
  last_end = make s Negotiating 328640 last_detector (Some (current 328639))

  -- what follows is a window: its first signs change nothing of it
  reopened : (r : Rate) (standing : Standing) → closing (current 328639) last_end ≡ make s Negotiating 0 last_detector (Some (fresh_window r standing)) →
      In h s (o + 328640) Negotiating 0 (Some (fresh_window r standing))
  reopened r standing e = closes Negotiating (Some (fresh_window r standing))
      (ap (all_signed (h (suc (o + 328639)))) e ∙ signs_opening (h (suc (o + 328639))) s last_detector (fresh_window r standing) refl)

  -- or an end that is over, whose signs do nothing
  ended : (p : Phase) → is_over p ≡ true → closing (current 328639) last_end ≡ make s p 0 last_detector (Some (current 328639)) →
      In h s (o + 328640) p 0 (Some (current 328639))
  ended p over e = closes p (Some (current 328639))
      (ap (all_signed (h (suc (o + 328639)))) e
      ∙ signs_other (h (suc (o + 328639))) s p 0 last_detector (Some (current 328639)) (over_idle p over).0 (over_idle p over).1)

  -- a valid final window gives ready
  pub closes_ready : w.standing ≡ Final → valid ≡ true → In h s (o + 328640) Ready 0 (Some (current 328639))
  closes_ready l v = ended Ready refl (simp (open_standing 328639, l, v))

  -- an invalid final window gives failed
  pub closes_failed : w.standing ≡ Final → valid ≡ false → In h s (o + 328640) Failed 0 (Some (current 328639))
  closes_failed l v = ended Failed refl (simp (open_standing 328639, l, v))

  -- a valid window is followed by the next rate
  pub closes_valid : (av : Bool) → w.standing ≡ after av → valid ≡ true → In h s (o + 328640) Negotiating 0 (Some (fresh_window (next_rate w.rate) AfterValid))
  closes_valid true l v = reopened (next_rate w.rate) AfterValid (simp (open_standing 328639, l, v, open_rate 328639))
  closes_valid false l v = reopened (next_rate w.rate) AfterValid (simp (open_standing 328639, l, v, open_rate 328639))

  -- an invalid one after a valid one is followed by the final one
  pub closes_back : w.standing ≡ AfterValid → valid ≡ false →
      In h s (o + 328640) Negotiating 0 (Some (fresh_window (previous_rate w.rate) Final))
  closes_back l v = reopened (previous_rate w.rate) Final (simp (open_standing 328639, l, v, open_rate 328639))

  -- an invalid one above the highest rate gives failed
  pub closes_gives_up : w.standing ≡ AfterInvalid → valid ≡ false → past_highest s w.rate ≡ true →
      In h s (o + 328640) Failed 0 (Some (current 328639))
  closes_gives_up l v p = ended Failed refl (simp (open_standing 328639, l, v, open_rate 328639, p))

  -- any other is followed by the next rate
  pub closes_next : w.standing ≡ AfterInvalid → valid ≡ false → past_highest s w.rate ≡ false →
      In h s (o + 328640) Negotiating 0 (Some (fresh_window (next_rate w.rate) AfterInvalid))
  closes_next l v p = reopened (next_rate w.rate) AfterInvalid (simp (open_standing 328639, l, v, open_rate 328639, p))

-- so it is over for good
pub over_stays : (h : ℕ → List Sign) (s : RateSet) (t : ℕ) (w : Option Window) (p : Phase) → is_over p ≡ true →
    (k : ℕ) → In h s t p k w → (j : ℕ) → (n : ℕ) × In h s (t + j) p n w
over_stays h s t w p over k e zero = (k, rw (add-zero t) e)
over_stays h s t w p over k e (suc j) =
    let (n, i) = over_stays h s t w p over k e j in
    let d : Detector = passed (ears h (t + j)) in (
      later n,
      rw (add-suc t j) (step h s (t + j) p p n (later n) w w i
          (ap (all_signed (h (suc (t + j)))) (over_settled p (make s p (later n) d w) over)
          ∙ signs_other (h (suc (t + j))) s p (later n) d w (over_idle p over).0 (over_idle p over).1)),
    )
