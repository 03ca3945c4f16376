-- What one end hears of the other over a fair line.
use Rattle.std.proofs.Common.{◌≡◌, ℕ, zero, suc, ◌+◌, ◌-◌, ◌<◌, ◌≤◌, Bool, true, false, List, [], ◌∷◌, None, sym, refl, ap, ◌∙◌, subst, inl, inr, add-zero, add_assoc, add-suc, zero-add, arith}
use Rattle.std.proofs.lemmas.Bool.{both_ways, true≢false, false≢true, cases_Bool, cases_lt, cases_eq, or_from}
use Rattle.bringup.specs.declared.detector.Detector.{Detector}
use Rattle.bringup.specs.declared.end.Sign.{Sign}
use Rattle.bringup.specs.declared.end.Sign.TheVariants.{Nothing, BurstStarts, BurstEnds, Locked, Align1}
use Rattle.bringup.specs.Detection.{passed, is_comsas}
use Rattle.bringup.specs.Bringup.{signalled}
use Rattle.bringup.specs.Asking.{in_burst}
use Rattle.bringup.specs.Detection.{deaf}
use Rattle.agreement.specs.FairLine.{Life, Hears, Reaches, bursting, age, signs_at, has, StartsBurst, EndsBurst}
use Rattle.agreement.proofs.Machine.{heard, ears, ears_zero, ears_suc}
use Rattle.agreement.proofs.Hearing.{heard_quiet, heard-start, heard-end, hear, relay, relay_zero, relay_suc, relay_step, shift, hear_fallen}
use Rattle.agreement.proofs.Stages.{Begins, sends_cominit, sends_early, sends_comsas}
use Rattle.agreement.proofs.Trains.{Early, early_lasts, cominit_heard, comsas_heard, comsas_not_fallen, comsas_fallen, relay_fallen_stays, passed_same, passed_fallen}

-- a detector just started, in a burst or not
abbrev pub soundless : Bool → Detector
soundless b = record { idle = 0; burst = b; signal = None; alike = 0; cominit = false; comsas = false; fallen = false }

-- signs without burst edges leave a detector as it is
pub soundless_heard : (gs : List Sign) (b : Bool) →
    (x : Bool) × ((heard gs (soundless b) ≡ soundless x) × (x ≡ true → b ≡ false → has BurstStarts gs ≡ true))
soundless_heard [] b = (b, (refl, λ p q. absurd (both_ways b q p)))
soundless_heard (Nothing ∷ gs) b = soundless_heard gs b
soundless_heard (BurstStarts ∷ gs) true =
    let (x, p) = soundless_heard gs true in (x, (p.0, λ _ q. absurd (true≢false q)))
soundless_heard (BurstStarts ∷ gs) false =
    let (x, p) = soundless_heard gs true in (x, (p.0, λ _ _. refl))
soundless_heard (BurstEnds ∷ gs) b =
    let (x, p) = soundless_heard gs false in (x, (p.0, λ e _. p.1 e refl))
soundless_heard (Locked ∷ gs) b = soundless_heard gs b
soundless_heard (Align1 ∷ gs) b = soundless_heard gs b

module _ (delay : ℕ) (hearer other : Life) (fair : Hears delay hearer other) where
  -- the hearer's signs in a tick
  abbrev signs : ℕ → List Sign
  signs = signs_at hearer.notes

  -- its detector after a tick
  abbrev pub hearing : ℕ → Detector
  hearing t = ears signs t

  -- an edge of a burst that was sent wherever its sign g is noted
  module _ (g : Sign) (Edge : ℕ → Type 0)
      (sent : (t : ℕ) → has g (signs t) ≡ true → (u : ℕ) × (Reaches delay hearer other t (suc u) × Edge u)) where
    -- is noted just where one arrives
    edge_noted : (t u : ℕ) → Reaches delay hearer other t (suc u) → has g (signs t) ≡ true → Edge u
    edge_noted t u r n =
        let (v, p) = sent t n in
        let e : v ≡ u = omega (arith, p.0) in
        subst Edge e p.1

    -- so where the other has none, none is noted
    no_edge : (t u : ℕ) → Reaches delay hearer other t (suc u) → (Edge u → ⊥) → has g (signs t) ≡ false
    no_edge t u r never = elim (cases_Bool (has g (signs t))) [ inl e ↦ absurd (never (edge_noted t u r e)) | inr e ↦ e ]

    -- nor before anything of the other can arrive
    no_edge_yet : (t : ℕ) → t + hearer.born ≤ other.born + delay → has g (signs t) ≡ false
    no_edge_yet t le = elim (cases_Bool (has g (signs t)))
        [ inl e ↦ (let (v, p) = sent t e in absurd (omega (arith, p.0))) | inr e ↦ e ]

  -- a tick's signs do to the detector what the other's bursts say
  slot : (t u : ℕ) → Reaches delay hearer other t (suc u) → 0 < t → t < age hearer.notes → suc u ≤ age other.notes →
      (d : Detector) → heard (signs t) d ≡ hear (bursting other u) (bursting other (suc u)) d
  slot t u r pos la lo d = go (bursting other u) (bursting other (suc u)) refl refl
    where
      no_start : (StartsBurst other u → ⊥) → has BurstStarts (signs t) ≡ false
      no_start = no_edge BurstStarts (StartsBurst other) fair.start_sent t u r

      no_end : (EndsBurst other u → ⊥) → has BurstEnds (signs t) ≡ false
      no_end = no_edge BurstEnds (EndsBurst other) fair.end_sent t u r

      go : (x y : Bool) → bursting other u ≡ x → bursting other (suc u) ≡ y → heard (signs t) d ≡ hear x y d
      go false false x y = heard_quiet (signs t) d (no_start (λ p. both_ways (bursting other (suc u)) y p.1))
          (no_end (λ p. both_ways (bursting other u) x p.0))
      go false true x y = heard-start (signs t) d (fair.start_heard t u r (x, y) lo pos la)
          (no_end (λ p. both_ways (bursting other u) x p.0))
      go true false x y = heard-end (signs t) d (no_start (λ p. both_ways (bursting other u) p.0 x))
          (fair.end_heard t u r (x, y) lo pos la)
      go true true x y = heard_quiet (signs t) d (no_start (λ p. both_ways (bursting other u) p.0 x))
          (no_end (λ p. both_ways (bursting other (suc u)) p.1 y))

  -- the detector follows the other's bursts
  pub follows : (t u : ℕ) → Reaches delay hearer other t u → (j : ℕ) → t + j < age hearer.notes → u + j ≤ age other.notes →
      hearing (t + j) ≡ relay (shift u (bursting other)) (hearing t) j
  follows t u r zero la lo = rw (add-zero t) (sym (relay_zero (shift u (bursting other)) (hearing t)))
  follows t u r (suc j) la lo =
      let ih : hearing (t + j) ≡ relay (shift u (bursting other)) (hearing t) j = follows t u r j (omega arith) (omega arith) in
      rw (add-suc t j)
      (ears_suc signs (t + j)
      ∙ slot (suc (t + j)) (u + j) (omega arith) (omega arith) (omega arith) (omega arith) (passed (hearing (t + j)))
      ∙ sym (relay_step (shift u (bursting other)) (hearing t) (hearing (t + j)) j (bursting other (u + j)) (bursting other (suc (u + j)))
      refl (ap (bursting other) (add-suc u j)) (sym ih)))

  -- before the other's start nothing is heard
  pub record Blank (d : Detector) : Type 0 where
    pub off : d.burst ≡ false
    pub none : d.signal ≡ None
    pub no_cominit : d.cominit ≡ false
    pub no_comsas : d.comsas ≡ false
    pub not_fallen : d.fallen ≡ false

  -- before anything of the other can arrive, no edge is noted
  quiet_slot : (t : ℕ) → t + hearer.born ≤ other.born + delay → (d : Detector) → heard (signs t) d ≡ d
  quiet_slot t le d = heard_quiet (signs t) d
      (no_edge_yet BurstStarts (StartsBurst other) fair.start_sent t le) (no_edge_yet BurstEnds (EndsBurst other) fair.end_sent t le)

  -- so until then nothing is detected
  pub blank : (t : ℕ) → t + hearer.born ≤ other.born + delay → Blank (hearing t)
  blank zero le = subst Blank (sym (ears_zero signs ∙ quiet_slot 0 le deaf))
      (record { off = refl; none = refl; no_cominit = refl; no_comsas = refl; not_fallen = refl })
  blank (suc t) le =
      let ih = blank t (omega arith) in
      let same = passed_same (hearing t) in
      subst Blank (sym (ears_suc signs t ∙ quiet_slot (suc t) le (passed (hearing t))))
      (record {
        off = same.0 ∙ ih.off;
        none = same.1 ∙ ih.none;
        no_cominit = same.3 ∙ ih.no_cominit;
        no_comsas = same.4 ∙ ih.no_comsas;
        not_fallen = passed_fallen (hearing t) ih.no_comsas ∙ ih.not_fallen;
      })

  -- Until the other's COMSAS, at its tick u, the hearer's detector is early
  pub early_start : (u : ℕ) → Reaches delay hearer other 0 u → bursting other u ≡ in_burst 960 u → 0 < u → Early u (hearing 0)
  early_start u r b pos =
      let (x, p) = soundless_heard (signs 0) false in
      let u' : suc (u - 1) ≡ u = omega arith in
      subst (Early u) (sym (ears_zero signs ∙ p.0))
      (record {
        no_comsas = refl;
        not_fallen = refl;
        once = λ e. absurd (false≢true e);
        fresh = λ _. (refl, refl);
        held = λ e. sym b ∙ subst (λ z. bursting other z ≡ true) u' (edge_noted BurstStarts (StartsBurst other) fair.start_sent 0 (u - 1) (omega arith) (p.1 e refl)).1;
        recent = λ _ _ _. omega arith;
      })

  -- and nothing is detected when the other's start arrives
  pub early_at_birth : (t : ℕ) → Reaches delay hearer other t 0 → Early 0 (hearing t)
  early_at_birth t r =
      let h = blank t (omega arith) in
      record {
        no_comsas = h.no_comsas;
        not_fallen = h.not_fallen;
        once = λ e. absurd (false≢true (ap is_comsas (sym h.none) ∙ e));
        fresh = λ _. (h.none, h.no_cominit);
        held = λ e. absurd (both_ways (hearing t).burst h.off e);
        recent = λ l _ _. absurd (omega arith);
      }

  -- nor while its COMINIT arrives
  pub early : (t u : ℕ) → Reaches delay hearer other t u → t < age hearer.notes → u ≤ age other.notes →
      ((i : ℕ) → i ≤ u → bursting other i ≡ in_burst 960 i) → Early u (hearing t)
  early t u r la lo b = elim (cases_lt u t) [
    | inl less ↦  -- the hearer started first
        (let e : (t - u) + u ≡ t = omega arith in
        let s : Reaches delay hearer other (t - u) 0 = omega arith in
        let f = follows (t - u) 0 s u (omega arith) (omega arith) in
        let g = early_lasts (shift 0 (bursting other)) (hearing (t - u)) 0 (early_at_birth (t - u) s) u
        (λ i le. ap (bursting other) (zero-add i) ∙ b i le ∙ ap (in_burst 960) (sym (zero-add i))) in
        subst (λ z. Early u (hearing z)) e (subst (λ z. Early z (hearing ((t - u) + u))) (zero-add u) (subst (Early (0 + u)) (sym f) g)))
    | inr more ↦ elim (cases_eq u t) [
      | inl same ↦
          (let s : Reaches delay hearer other 0 0 = omega arith in
          let f = follows 0 0 s u (omega arith) (omega arith) in
          let g = early_lasts (shift 0 (bursting other)) (hearing 0) 0 (early_at_birth 0 s) u
          (λ i le. ap (bursting other) (zero-add i) ∙ b i le ∙ ap (in_burst 960) (sym (zero-add i))) in
          let e : 0 + u ≡ t = omega arith in
          subst (λ z. Early u (hearing z)) e (subst (λ z. Early z (hearing (0 + u))) (zero-add u) (subst (Early (0 + u)) (sym f) g)))
      | inr other-first ↦
          (let s : Reaches delay hearer other 0 (u - t) = omega arith in
          let f = follows 0 (u - t) s t (omega arith) (omega arith) in
          let pos : 0 < u - t = omega arith in
          let g = early_lasts (shift (u - t) (bursting other)) (hearing 0) (u - t) (early_start (u - t) s (b (u - t) (omega arith)) pos) t
          (λ i le. b ((u - t) + i) (omega arith)) in
          let e : (u - t) + t ≡ u = omega arith in
          subst (λ z. Early u (hearing z)) (zero-add t) (subst (λ z. Early z (hearing (0 + t))) e (subst (Early ((u - t) + t)) (sym f) g)))
    ]
  ]

  -- a signal detected comes of the other's bursts
  pub detected_since : (t : ℕ) → t < age hearer.notes → 960 ≤ age other.notes → signalled (hearing t) ≡ true →
      (u : ℕ) × (Reaches delay hearer other t u × (960 ≤ u))
  detected_since t la lo e = elim (cases_lt (t + hearer.born) (other.born + delay)) [
    | inl l ↦ (let h = blank t (omega arith) in absurd (both_ways (signalled (hearing t)) (or_from (hearing t).cominit (hearing t).comsas h.no_cominit h.no_comsas) e))
    | inr g ↦ elim (cases_lt (t + hearer.born - (other.born + delay)) 960) [
      | inl l ↦
          (let u : ℕ = t + hearer.born - (other.born + delay) in
          let r : Reaches delay hearer other t u = omega arith in
          let h = early t u r la (omega arith) (λ i le. sends_cominit (signs_at other.notes) other.rates 9255 (λ j a b. absurd (omega arith)) i (omega arith)) in
          absurd (both_ways (signalled (hearing t)) (or_from (hearing t).cominit (hearing t).comsas (h.fresh l).1 h.no_comsas) e))
      | inr m ↦ (t + hearer.born - (other.born + delay), (omega arith, m))
    ]
  ]

  -- COMINIT heard whole is detected
  pub hears_cominit : (t : ℕ) → Reaches delay hearer other t 959 → t + 5121 < age hearer.notes → 6080 ≤ age other.notes →
      (hearing (t + 5121)).cominit ≡ true
  hears_cominit t r la lo =
      ap (λ d. d.cominit) (follows t 959 r 5121 la lo)
      ∙ cominit_heard (shift 959 (bursting other)) (hearing t)
      (λ i le. sends_cominit (signs_at other.notes) other.rates 9255 (λ j a b. absurd (omega arith)) (959 + i) (omega arith))

  -- the other's COMSAS begins with its tick c, which arrives at tick t, and is sent whole
  module _ (c t : ℕ) (begins : Begins (signs_at other.notes) other.rates c) (r : Reaches delay hearer other t c)
      (whole : c + 23925 ≤ age other.notes) where
    -- what arrives from the last idle tick before the first burst on is COMSAS
    bursts_here : (i : ℕ) → i ≤ 21045 → shift (c + 2879) (bursting other) i ≡ in_burst 2880 (2879 + i)
    bursts_here i le = ap (bursting other) (add_assoc c 2879 i) ∙ sends_comsas (signs_at other.notes) other.rates c begins (2879 + i) (omega arith)

    -- up to its first burst nothing of COMSAS is detected
    before_comsas : (x u : ℕ) → Reaches delay hearer other x u → x < age hearer.notes → u < c + 2880 → Early u (hearing x)
    before_comsas x u s la lt = early x u s la (omega arith)
        (λ i le. sends_early (signs_at other.notes) other.rates c begins i (omega arith))

    -- its fourth like idle detects it
    pub hears_comsas : t + 15680 < age hearer.notes → (hearing (t + 15680)).comsas ≡ true
    hears_comsas la =
        let e : (t + 2879) + 12801 ≡ t + 15680 = omega arith in
        subst (λ z. (hearing z).comsas ≡ true) e
        (ap (λ d. d.comsas) (follows (t + 2879) (c + 2879) (omega arith) 12801 (omega arith) (omega arith))
        ∙ comsas_heard (shift (c + 2879) (bursting other)) (hearing (t + 2879)) 21045 bursts_here (omega arith))

    -- it has not fallen before its closing idle is over
    after_first : (i : ℕ) → i < 21045 → (t + 2879) + i < age hearer.notes → (passed (hearing ((t + 2879) + i))).fallen ≡ false
    after_first i lt la =
        let h = before_comsas (t + 2879) (c + 2879) (omega arith) (omega arith) (omega arith) in
        let b : ℕ → Bool = shift (c + 2879) (bursting other) in
        let d : Detector = hearing (t + 2879) in
        let f : hearing ((t + 2879) + i) ≡ relay b d i = follows (t + 2879) (c + 2879) (omega arith) i la (omega arith) in
        let n : (relay b d (suc i)).fallen ≡ (passed (hearing ((t + 2879) + i))).fallen =
        ap (λ z. z.fallen) (relay_suc b d i) ∙ hear_fallen (b i) (b (suc i)) (passed (relay b d i)) ∙ ap (λ z. (passed z).fallen) (sym f) in
        let k : suc i + (21045 - suc i) ≡ 21045 = omega arith in
        elim (cases_Bool (passed (hearing ((t + 2879) + i))).fallen) [
          | inl e ↦ absurd (both_ways (relay b d 21045).fallen
              (comsas_not_fallen b d 21045 bursts_here (omega arith) h.no_comsas h.not_fallen)
              (subst (λ z. (relay b d z).fallen ≡ true) k (relay_fallen_stays b d (suc i) (21045 - suc i) (n ∙ e))))
          | inr e ↦ e
        ]

    -- it falls with tick t + 23925, and not before
    pub not_fallen_before : (x u : ℕ) → Reaches delay hearer other x u → x < t + 23924 → x < age hearer.notes →
        (passed (hearing x)).fallen ≡ false
    not_fallen_before x u s le la = elim (cases_lt x (t + 2879)) [
      | inl l ↦ (let h = before_comsas x u s la (omega arith) in passed_fallen (hearing x) h.no_comsas ∙ h.not_fallen)
      | inr g ↦ (let e : (t + 2879) + (x - (t + 2879)) ≡ x = omega arith in
          subst (λ z. (passed (hearing z)).fallen ≡ false) e (after_first (x - (t + 2879)) (omega arith) (omega arith)))
    ]

    -- and then it falls
    pub falls : t + 23924 < age hearer.notes → (passed (hearing (t + 23924))).fallen ≡ true
    falls la =
        let e : (t + 2879) + 21045 ≡ t + 23924 = omega arith in
        subst (λ z. (passed (hearing z)).fallen ≡ true) e
        (ap (λ d. (passed d).fallen) (follows (t + 2879) (c + 2879) (omega arith) 21045 (omega arith) (omega arith))
        ∙ comsas_fallen (shift (c + 2879) (bursting other)) (hearing (t + 2879)) 21045 bursts_here (omega arith))
