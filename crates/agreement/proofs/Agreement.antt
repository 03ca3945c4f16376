-- On a fair line both ends come to one outcome.
use Rattle.std.proofs.Common.{◌≡◌, ℕ, ◌+◌, ◌-◌, ◌*◌, ◌≤◌, max, true, false, ◌⊎◌, ap, inl, inr, arith}
use Rattle.std.proofs.lemmas.Bool.{false≢true, cases_lt, or_right, or_left}
use Rattle.bringup.specs.declared.rate.Rate.TheVariants.{G1}
use Rattle.bringup.specs.declared.end.Standing.TheVariants.{AfterInvalid}
use Rattle.bringup.specs.Bringup.{signalled}
use Rattle.agreement.specs.FairLine.{Life, Hears, Reaches, Agreement, LivedFor, age, signs_at, Over, over, BothReady, BothFailed}
use Rattle.agreement.proofs.Machine.{ears}
use Rattle.agreement.proofs.Stages.{over-begun, begins_by, signalled_stays}
use Rattle.agreement.proofs.Line.{detected_since, hears_cominit, hears_comsas}
use Rattle.agreement.proofs.Meeting.{Starts, Opened, over-opened, opens_first}
use Rattle.agreement.proofs.Windows.{fresh_window}
use Rattle.agreement.proofs.RateOrder.{at_least_one}
use Rattle.agreement.proofs.Settle.{Joint, Result, Hope, settle}

-- signalled at t, an end begins COMSAS by t or by the end of its COMINIT
begins_soon : (x : Life) (t : ℕ) → signalled (ears (signs_at x.notes) t) ≡ true → (c : ℕ) × ((c ≤ t + (9255 - t)) × Starts x c)
begins_soon x t e = begins_by (signs_at x.notes) x.rates (t + (9255 - t)) (omega arith)
    (signalled_stays (signs_at x.notes) x.rates t (9255 - t) e)

-- Both begin COMSAS, the earlier starter on hearing the later one's COMINIT
pub record Meets (x y : Life) : Type 0 where
  pub cx : ℕ
  pub cy : ℕ
  pub starts_x : Starts x cx
  pub starts_y : Starts y cy
  pub by_x : cx + x.born ≤ max x.born y.born + 35760
  pub by_y : cy + y.born ≤ max x.born y.born + 35760

module _ (delay : ℕ) (short : delay ≤ 7000) (x y : Life) (fx : Hears delay x y) (fy : Hears delay y x) (first : x.born ≤ y.born)
    (lived : LivedFor 1709885 x y) where
  -- the earlier starter hears all of the later one's COMINIT
  earlier_at : (t : ℕ) → Reaches delay x y t 959 → (c : ℕ) × ((c + x.born ≤ y.born + 13080) × Starts x c)
  earlier_at t r =
      let (c, p) = begins_soon x (t + 5121) (or_left (ears (signs_at x.notes) (t + 5121)).cominit (ears (signs_at x.notes) (t + 5121)).comsas
      (hears_cominit delay x y fx t r (omega arith) (omega arith))) in
      (c, (omega (arith, p.0), p.1))

  -- the later starter hears all of the earlier one's COMSAS
  later_at : (c t : ℕ) → Starts x c → c + x.born ≤ y.born + 13080 → Reaches delay y x t c → (d : ℕ) × ((d + y.born ≤ y.born + 35760) × Starts y d)
  later_at c t starts bound r =
      let (d, p) = begins_soon y (t + 15680) (or_right (ears (signs_at y.notes) (t + 15680)).cominit (ears (signs_at y.notes) (t + 15680)).comsas
      (hears_comsas delay y x fy c t starts r (omega arith) (omega arith))) in
      (d, (omega (arith, p.0), p.1))

  -- and begins its own, soon after
  later-after : (c : ℕ) → Starts x c → c + x.born ≤ y.born + 13080 → (d : ℕ) × ((d + y.born ≤ y.born + 35760) × Starts y d)
  later-after c starts bound =
      let (u, q) = detected_since delay x y fx c (omega arith) (omega arith) starts.detected in
      later_at c (c + x.born + delay - y.born) starts bound (omega (arith, q.0))

  -- so both begin
  meets_after : (c : ℕ) → Starts x c → c + x.born ≤ y.born + 13080 → Meets x y
  meets_after c starts bound =
      let (d, p) = later-after c starts bound in
      record { cx = c; cy = d; starts_x = starts; starts_y = p.1; by_x = omega arith; by_y = omega (arith, p.0) }

  -- the earlier starter begins, and then the later one
  meets : Meets x y
  meets =
      let (c, p) = earlier_at (959 + y.born + delay - x.born) (omega arith) in
      meets_after c p.1 p.0

module _ (delay : ℕ) (short : delay ≤ 7000) (a b : Life) (fa : Hears delay a b) (fb : Hears delay b a) where
  -- from both COMSAS to the outcome
  module _ (ca cb : ℕ) (ba : Starts a ca) (bb : Starts b cb) (sa : ca + 23925 ≤ age a.notes) (sb : cb + 23925 ≤ age b.notes) where
    -- when the COMSAS of b begins to arrive at a
    abbrev ta : ℕ
    ta = cb + b.born + delay - a.born

    -- and that of a at b
    abbrev tb : ℕ
    tb = ca + a.born + delay - b.born

    -- those are the ticks in which they arrive
    ra : Reaches delay a b ta cb
    ra = let (u, q) = detected_since delay b a fb cb (omega arith) (omega arith) bb.detected in omega (arith, q.0)

    rb : Reaches delay b a tb ca
    rb = let (u, q) = detected_since delay a b fa ca (omega arith) (omega arith) ba.detected in omega (arith, q.0)

    -- the first windows open within the delay of one another
    joint : (oa ob : ℕ) → Opened a ca ta oa → Opened b cb tb ob → Joint delay a b oa ob (fresh_window G1 AfterInvalid)
    joint oa ob pa pb = record {
      opens_a = pa.opens;
      opens_b = pb.opens;
      near_a = elim pb.soonest [ inl e ↦ omega (arith, ra, pa.others) | inr e ↦ omega (arith, rb, pa.own) ];
      near_b = elim pa.soonest [ inl e ↦ omega (arith, rb, pb.others) | inr e ↦ omega (arith, ra, pb.own) ];
      new_a = pa.new;
      new_b = pb.new;
      silent_a = pa.silent G1;
      silent_b = pb.silent G1;
    }

    -- so the two come to one outcome
    pub outcome : ta + 23925 ≤ age a.notes → tb + 23925 ≤ age b.notes →
        ((o : ℕ) → Opened a ca ta o → Over a ⊎ (o + 5 * 328640 ≤ age a.notes)) →
        ((o : ℕ) → Opened b cb tb o → Over b ⊎ (o + 5 * 328640 ≤ age b.notes)) →
        Result delay short a b fa fb (Hope delay short a b fa fb G1 false)
    outcome la lb over-a over-b =
        let (oa, pa) = opens_first delay short a b fa fb ca cb ba bb sa sb ta tb ra rb la in
        let (ob, pb) = opens_first delay short b a fb fa cb ca bb ba sb sa tb ta rb ra lb in
        settle delay short a b fa fb 3 G1 false oa ob (joint oa ob pa pb) (omega arith) (λ e. absurd (false≢true e)) (λ _. (tt, tt))
        (pa.reached, over-a oa pa) (pb.reached, over-b ob pb)

  -- ends that are over have lived long enough for that
  both_over : Over a → Over b → Result delay short a b fa fb (Hope delay short a b fa fb G1 false)
  both_over over-a over-b =
      let (ca, pa) = over-begun (signs_at a.notes) a.rates (age a.notes) over-a in
      let (cb, pb) = over-begun (signs_at b.notes) b.rates (age b.notes) over-b in
      outcome ca cb pa.1 pb.1 pa.0 pb.0
      (over-opened delay short a b fa fb ca cb pa.1 pb.1 pa.0 pb.0 (ta ca cb pa.1 pb.1 pa.0 pb.0) (tb ca cb pa.1 pb.1 pa.0 pb.0)
      (ra ca cb pa.1 pb.1 pa.0 pb.0) (rb ca cb pa.1 pb.1 pa.0 pb.0) over-a)
      (over-opened delay short b a fb fa cb ca pb.1 pa.1 pb.0 pa.0 (tb ca cb pa.1 pb.1 pa.0 pb.0) (ta ca cb pa.1 pb.1 pa.0 pb.0)
      (rb ca cb pa.1 pb.1 pa.0 pb.0) (ra ca cb pa.1 pb.1 pa.0 pb.0) over-b)
      (λ _ _. inl over-a) (λ _ _. inl over-b)

  -- both lived long enough by the clock
  both_met : (ca cb : ℕ) → Starts a ca → Starts b cb → ca + a.born ≤ max a.born b.born + 35760 → cb + b.born ≤ max a.born b.born + 35760 →
      LivedFor 1709885 a b → BothReady a b ⊎ BothFailed a b
  both_met ca cb ba bb la lb lived =
      let sa : ca + 23925 ≤ age a.notes = omega arith in
      let sb : cb + 23925 ≤ age b.notes = omega arith in
      let ra' : ta ca cb ba bb sa sb + a.born ≡ cb + b.born + delay = ra ca cb ba bb sa sb in
      let rb' : tb ca cb ba bb sa sb + b.born ≡ ca + a.born + delay = rb ca cb ba bb sa sb in
      (outcome ca cb ba bb sa sb (omega arith) (omega arith)
      (λ o p. inr (elim p.soonest [ inl e ↦ omega arith | inr e ↦ omega arith ]))
      (λ o p. inr (elim p.soonest [ inl e ↦ omega arith | inr e ↦ omega arith ]))).0

  -- one outcome is the end of both
  over_both : BothReady a b ⊎ BothFailed a b → Over a × Over b
  over_both (inl r) = (ap over r.first, ap over r.second)
  over_both (inr f) = (ap over f.0, ap over f.1)

  -- the law for two lives
  pub agreement : Agreement delay a b
  agreement = record {
    ends = λ lived. over_both (elim (cases_lt b.born a.born) [
      | inr le ↦ (let m = meets delay short a b fa fb le lived in both_met m.cx m.cy m.starts_x m.starts_y m.by_x m.by_y lived)
      | inl lt ↦ (let m = meets delay short b a fb fa (omega arith) (omega (arith, lived)) in
          both_met m.cy m.cx m.starts_y m.starts_x (omega (arith, m.by_y)) (omega (arith, m.by_x)) lived)
    ]);
    agree = λ oa ob. (both_over oa ob).0;
    succeed = λ oa ob r sh la lb. (both_over oa ob).1 (
      (la, lb),
      (
        (λ e. absurd (false≢true e)),
        λ _. (r, (sh, at_least_one r)),
      ),
    );
  }
