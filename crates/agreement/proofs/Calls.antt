-- From lists of calls to lives.
use Rattle.std.proofs.Common.{◌≡◌, ℕ, zero, suc, ◌+◌, ◌<◌, Bool, true, false, cond, not, ◌&&◌, ◌||◌, eqb, ltb, ◌⊎◌, List, [], ◌∷◌, ◌++◌, sym, refl, ap, ◌∙◌, subst, ap₂, inl, inr, add-zero, add-suc, arith}
use Rattle.std.proofs.lemmas.Bool.{cond-true, cond-false, cases_Bool, both_ways}
use Rattle.std.proofs.lemmas.Bool.Decides.{nat_tests}
use Rattle.code.specs.Refusals.{plain}
use Rattle.bringup.specs.declared.end.Phase.{Phase}
use Rattle.bringup.specs.declared.rate.RateSet.{RateSet}
use Rattle.bringup.specs.declared.end.End.{End}
use Rattle.bringup.specs.declared.end.Sign.{Sign}
use Rattle.bringup.specs.Bringup.{Called, declined, done, is_unstarted, signed, tick, ticks, settled, aged, begun, sign_at}
use Rattle.bringup.specs.Rates.{rate_set}
use Rattle.agreement.specs.FairLine.{started, noted, Note, age, signs_at, all_signed, after, present, here, there, Call, start, note, Course, start_one, note_one, note_accepted, Courses, called, all_called, both_unused, life_of, FairLinesAgree}
use Rattle.agreement.proofs.Agreement.{agreement}

-- the state after some notes, note by note
abbrev replay : List Note → End → End
replay [] e = e
replay (n ∷ ns) e = replay ns (signed n.sign (ticks n.ticks e))

-- one more note at the end of a list
replay_more : (ns : List Note) (n : Note) (e : End) → replay (ns ++ (n ∷ [])) e ≡ signed n.sign (ticks n.ticks (replay ns e))
replay_more [] n e = refl
replay_more (m ∷ ns) n e = replay_more ns n (signed m.sign (ticks m.ticks e))

-- the two halves of the definition of after
after-zero : (h : ℕ → List Sign) (e : End) → after h e 0 ≡ all_signed (h 0) e
unfolding after
after-zero h e = refl

-- each tick passes and then its signs follow
after-suc : (h : ℕ → List Sign) (e : End) (t : ℕ) → after h e (suc t) ≡ all_signed (h (suc t)) (tick (after h e t))
unfolding after
after-suc h e t = refl

module _ (n : Note) (ns : List Note) (e : End) where
  -- the signs by their ticks, with a note ahead of the others
  abbrev h : ℕ → List Sign
  h = signs_at (n ∷ ns)

  -- the end after that note
  abbrev next : End
  next = signed n.sign (ticks n.ticks e)

  -- before its tick there are none
  h_before : (t : ℕ) → t < n.ticks → h t ≡ []
  h_before t lt = grind (arith, nat_tests)

  -- at its tick it comes first
  h_at : h n.ticks ≡ n.sign ∷ signs_at ns 0
  h_at = grind (arith, nat_tests)

  -- later the others follow
  h_after : (j : ℕ) → h (suc (n.ticks + j)) ≡ signs_at ns (suc j)
  h_after j = grind (arith, nat_tests)

  -- so until its tick only time passes
  before : (t : ℕ) → t < n.ticks → after h e t ≡ ticks t e
  before zero lt = after-zero h e ∙ ap (λ gs. all_signed gs e) (h_before 0 lt)
  before (suc t) lt = after-suc h e t ∙ ap (λ gs. all_signed gs (tick (after h e t))) (h_before (suc t) lt) ∙ ap tick (before t (omega arith))

  -- then its sign follows, and those of the same tick
  at_sign : (k : ℕ) → n.ticks ≡ k → after h e k ≡ all_signed (signs_at ns 0) (signed n.sign (ticks k e))
  at_sign zero q = after-zero h e ∙ ap (λ gs. all_signed gs e) (ap h (sym q) ∙ h_at)
  at_sign (suc k) q = after-suc h e k ∙ ap (λ gs. all_signed gs (tick (after h e k))) (ap h (sym q) ∙ h_at)
      ∙ ap (λ z. all_signed (n.sign ∷ signs_at ns 0) (tick z)) (before k (omega arith))

  -- and the rest goes on from there
  later : (j : ℕ) → after h e (n.ticks + j) ≡ after (signs_at ns) next j
  later zero = ap (after h e) (add-zero n.ticks) ∙ at_sign n.ticks refl ∙ sym (after-zero (signs_at ns) next)
  later (suc j) = ap (after h e) (add-suc n.ticks j) ∙ after-suc h e (n.ticks + j)
      ∙ ap (λ gs. all_signed gs (tick (after h e (n.ticks + j)))) (h_after j)
      ∙ ap (λ z. all_signed (signs_at ns (suc j)) (tick z)) (later j) ∙ sym (after-suc (signs_at ns) next j)

-- so the calls one by one and the life by its ticks end alike
replayed : (ns : List Note) (e : End) → after (signs_at ns) e (age ns) ≡ replay ns e
replayed [] e = after-zero (signs_at []) e
replayed (n ∷ ns) e = later n ns e (age ns) ∙ replayed ns (signed n.sign (ticks n.ticks e))

-- what a tick and a sign keep: the rates, and that the end was started
pub record Keeps (e f : End) : Type 0 where
  pub rates : f.rates ≡ e.rates
  pub still : is_unstarted e.phase ≡ false → is_unstarted f.phase ≡ false

-- transitions keep the rate set
tick-rates : (p : Phase) (e : End) → (settled p e).rates ≡ e.rates
tick-rates p e = grind (arith, nat_tests)

-- and no end becomes unstarted again
tick-started : (p : Phase) (e : End) → e.phase ≡ p → is_unstarted p ≡ false → is_unstarted (settled p e).phase ≡ false
tick-started p e q h = grind (arith, nat_tests)

-- so do ticks
keeps_ticks : (k : ℕ) (e : End) → Keeps e (ticks k e)
keeps_ticks zero e = record { rates = refl; still = λ h. h }
keeps_ticks (suc k) e =
    let ih = keeps_ticks k e in
    record {
      rates = tick-rates (ticks k e).phase (aged (ticks k e)) ∙ ih.rates;
      still = λ h. tick-started (ticks k e).phase (aged (ticks k e)) refl (ih.still h);
    }

-- and signs
keeps_sign : (g : Sign) (e : End) → Keeps e (signed g e)
keeps_sign g e = record { rates = grind (arith, nat_tests); still = λ h. grind (arith, nat_tests) }

-- a course is what its accepted calls make of it
pub record Running (c : Course) (s : RateSet) : Type 0 where
  pub is_started : is_unstarted c.state.phase ≡ false
  pub by_notes : c.state ≡ replay c.accepted (begun s)
  pub rates : c.state.rates ≡ s

-- the end is what its life says, or was never started
abbrev Tracked : Course → Type 0
Tracked c = ((is_unstarted c.state.phase ≡ true) × (c.accepted ≡ [])) ⊎ ((s : RateSet) × Running c s)

-- ---- what a call leaves, by the first test that applies

-- whether a rate set is refused
abbrev outside : ℕ → Bool
outside n = eqb n 0 || ltb 7 n

-- the end that a call leaves
abbrev left : Called → End
left x = x.end

-- a refused rate set leaves the end
start_outside : (n : ℕ) (e : End) → outside n ≡ true → started n e ≡ e
start_outside n e o = grind (arith, nat_tests)

-- any other starts it unless it was started
start_inside : (n : ℕ) (e : End) → outside n ≡ false → started n e ≡ left (cond (is_unstarted e.phase) (done (begun (rate_set n))) (declined (plain 9) e))
start_inside n e o = grind (arith, nat_tests)

-- a second start leaves the end
start_again : (n : ℕ) (e : End) → is_unstarted e.phase ≡ false → started n e ≡ e
start_again n e u = grind (arith, nat_tests)

-- the first one begins its life
start_first : (n : ℕ) (e : End) → outside n ≡ false → is_unstarted e.phase ≡ true → started n e ≡ begun (rate_set n)
start_first n e o u = grind (arith, nat_tests)

-- a note, by its three tests
note_by : (a b u : Bool) (e f : End) → left (cond a (declined (plain 10) e) (cond b (declined (plain 11) e) (cond u (declined (plain 12) e) (done f)))) ≡ cond (not a && (not b && not u)) f e
note_by a b u e f = grind (arith, nat_tests)

-- an accepted note changes the end, a declined one leaves it
note_leaves : (k g : ℕ) (e : End) → noted k g e ≡ cond (note_accepted k g e) (signed (sign_at g) (ticks k e)) e
note_leaves k g e = note_by (ltb 400000 k) (ltb 4 g) (is_unstarted e.phase) e (signed (sign_at g) (ticks k e))

-- ---- courses

-- a start keeps the end and its life together
start_tracked : (n : ℕ) (c : Course) → Tracked c → Tracked (start_one n c)
start_tracked n c (inr p) =
    let q : start_one n c ≡ c = ap (λ e. record { state = e; accepted = c.accepted }) (start_again n c.state p.1.is_started) in
    subst Tracked (sym q) (inr p)
start_tracked n c (inl p) = elim (cases_Bool (outside n)) [
  | inl o ↦ (let q : start_one n c ≡ c = ap (λ e. record { state = e; accepted = c.accepted }) (start_outside n c.state o) in subst Tracked (sym q) (inl p))
  | inr o ↦
      (let q : start_one n c ≡ record { state = begun (rate_set n); accepted = [] } =
      ap₂ (λ e ns. record { state = e; accepted = ns }) (start_first n c.state o p.0) p.1 in
      subst Tracked (sym q) (inr (rate_set n, record { is_started = refl; by_notes = refl; rates = refl })))
]

-- so does a note, accepted or not
note_tracked_by : (k g : ℕ) (c : Course) (b : Bool) → note_accepted k g c.state ≡ b → (b ≡ true → is_unstarted c.state.phase ≡ false)
    → Tracked c → Tracked (note_one k g c)
note_tracked_by k g c false a u t =
    let q : note_one k g c ≡ c =
    ap₂ (λ e d. record { state = e; accepted = cond d (c.accepted ++ (record { ticks = k; sign = sign_at g } ∷ [])) c.accepted })
    (note_leaves k g c.state ∙ cond-false (note_accepted k g c.state) (signed (sign_at g) (ticks k c.state)) c.state a) a in
    subst Tracked (sym q) t
note_tracked_by k g c true a u (inl p) = absurd (both_ways (is_unstarted c.state.phase) (u refl) p.0)
note_tracked_by k g c true a u (inr p) =
    let n : Note = record { ticks = k; sign = sign_at g } in
    let d : Course = record { state = signed (sign_at g) (ticks k c.state); accepted = c.accepted ++ (n ∷ []) } in
    let q : note_one k g c ≡ d =
    ap₂ (λ e x. record { state = e; accepted = cond x (c.accepted ++ (n ∷ [])) c.accepted })
    (note_leaves k g c.state ∙ cond-true (note_accepted k g c.state) (signed (sign_at g) (ticks k c.state)) c.state a) a in
    let kt = keeps_ticks k c.state in
    let ks = keeps_sign (sign_at g) (ticks k c.state) in
    subst Tracked (sym q) (inr (
      p.0,
      record {
        is_started = ks.still (kt.still (u refl));
        by_notes = ap (λ e. signed (sign_at g) (ticks k e)) p.1.by_notes ∙ sym (replay_more c.accepted n (begun p.0));
        rates = ks.rates ∙ kt.rates ∙ p.1.rates;
      },
    ))

-- an accepted note is one of a started end
accepted-started : (a b u : Bool) → (not a && (not b && not u)) ≡ true → u ≡ false
accepted-started a b u e = grind (arith, nat_tests)

note_tracked : (k g : ℕ) (c : Course) → Tracked c → Tracked (note_one k g c)
note_tracked k g c t =
    note_tracked_by k g c (note_accepted k g c.state) refl (accepted-started (ltb 400000 k) (ltb 4 g) (is_unstarted c.state.phase)) t

-- of both ends
BothTracked : Courses → Type 0
BothTracked c = Tracked c.first × Tracked c.second

-- a call on one leaves the other
call_tracked : (x : Call) (c : Courses) → BothTracked c → BothTracked (called x c)
unfolding BothTracked
call_tracked (start here n) c t = (start_tracked n c.first t.0, t.1)
call_tracked (start there n) c t = (t.0, start_tracked n c.second t.1)
call_tracked (note here k g) c t = (note_tracked k g c.first t.0, t.1)
call_tracked (note there k g) c t = (t.0, note_tracked k g c.second t.1)

-- so it holds of all lists of calls
calls_tracked : (xs : List Call) (c : Courses) → BothTracked c → BothTracked (all_called xs c)
calls_tracked [] c t = t
calls_tracked (x ∷ xs) c t = calls_tracked xs (called x c) (call_tracked x c t)

-- the present state of the life is the state of the end
pub present_is : (born : ℕ) (c : Course) → Tracked c → is_unstarted c.state.phase ≡ false → present (life_of born c) ≡ c.state
present_is born c (inl p) e = absurd (both_ways (is_unstarted c.state.phase) e p.0)
present_is born c (inr p) e =
    replayed c.accepted (begun c.state.rates) ∙ ap (λ s. replay c.accepted (begun s)) p.1.rates ∙ sym p.1.by_notes

-- the law over lists of calls
pub fair_lines_agree : FairLinesAgree
unfolding BothTracked
fair_lines_agree calls delay first second =
    let c : Courses = all_called calls both_unused in
    let t = calls_tracked calls both_unused (inl (refl, refl), inl (refl, refl)) in
    record {
      first = present_is first c.first t.0;
      second = present_is second c.second t.1;
      agreement = λ _ _ fair. agreement delay fair.0 (life_of first c.first) (life_of second c.second) fair.1 fair.2;
    }
