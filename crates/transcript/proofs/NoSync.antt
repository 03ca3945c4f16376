-- Whether a stream brings three K28.5 primitives; where it does not, every bit is answered by more.
use Rattle.std.proofs.Common.{◌≡◌, ℕ, zero, suc, ◌+◌, ◌-◌, ◌<◌, ◌≤◌, true, false, ◌&&◌, eqb, ◌⊎◌, List, [], ◌∷◌, ◌++◌, drop, refl, ap, ◌∙◌, subst, inl, inr, arith}
use lib.ListN.{replicate-append-replicate}
use Rattle.std.proofs.lemmas.Bool.{cases_lt, cases_Bool, ne_eqb, both_ways}
use Rattle.link.specs.declared.dword.Dword.{Dword}
use Rattle.link.specs.Sending.{stream, disparity_after, c0, c1, c2, c3}
use Rattle.link.specs.Hearing.{before_sync}
use Rattle.transcript.proofs.Running.{readings_of, said, mores, at_start}
use Rattle.link.specs.Readings.{kind_of, byte_of}
use Rattle.link.specs.declared.heard.Heard.TheVariants.{More}
use Rattle.transcript.specs.Laws.{is_k28_5, AllValid}
use Rattle.transcript.proofs.Hunting.{hunting}
use Rattle.transcript.proofs.Commas.{hunt_over}
use Rattle.transcript.proofs.CleanDwords.{match_dword, said_clean, judged_clean}
use Rattle.transcript.proofs.InOrder.{early, dword_small, K28_5From, K28_5To, drop_dword}
use Rattle.transcript.proofs.GainingSync.{Gains, last, counts, skips, Hunts, begins, waits, passes}

pub data Few : ℕ → List Dword → Type 0 where
  f_none : {n : ℕ} → Few n []
  f_count : {n : ℕ} {w : Dword} {ws : List Dword} → is_k28_5 w ≡ true → Few n ws → Few (suc n) (w ∷ ws)
  f_skip : {n : ℕ} {w : Dword} {ws : List Dword} → is_k28_5 w ≡ false → Few n ws → Few n (w ∷ ws)

pub data Lacks : ℕ → List Dword → Type 0 where
  l_none : {k : ℕ} → Lacks k []
  l_begins : {w : Dword} {ws : List Dword} → is_k28_5 w ≡ true → Few 2 (w ∷ ws) → Lacks 0 (w ∷ ws)
  l_waits : {k : ℕ} {w : Dword} {ws : List Dword} → k < 40 → (k ≡ 0 → is_k28_5 w ≡ false) → Lacks 0 ws → Lacks k (w ∷ ws)
  l_passes : {k : ℕ} {w : Dword} {ws : List Dword} → 40 ≤ k → Lacks (k - 40) ws → Lacks k (w ∷ ws)

pub record Split (P : List Dword → Type 0) (ws : List Dword) : Type 0 where
  pub front : List Dword
  pub rest : List Dword
  pub is : ws ≡ front ++ rest
  pub holds : P front

gains? : (ws : List Dword) (left : ℕ) → Split (Gains left) ws ⊎ Few left ws
gains? [] left = inr f_none
gains? (w ∷ ws) zero = elim (cases_Bool (is_k28_5 w)) [
  | inl k ↦ inl (record { front = w ∷ []; rest = ws; is = refl; holds = last k })
  | inr no-k ↦ elim (gains? ws zero) [
    | inl s ↦ inl (record { front = w ∷ s.front; rest = s.rest; is = ap (λ r. w ∷ r) s.is; holds = skips no-k s.holds })
    | inr f ↦ inr (f_skip no-k f)
  ]
]
gains? (w ∷ ws) (suc left) = elim (cases_Bool (is_k28_5 w)) [
  | inl k ↦ elim (gains? ws left) [
    | inl s ↦ inl (record { front = w ∷ s.front; rest = s.rest; is = ap (λ r. w ∷ r) s.is; holds = counts k s.holds })
    | inr f ↦ inr (f_count k f)
  ]
  | inr no-k ↦ elim (gains? ws (suc left)) [
    | inl s ↦ inl (record { front = w ∷ s.front; rest = s.rest; is = ap (λ r. w ∷ r) s.is; holds = skips no-k s.holds })
    | inr f ↦ inr (f_skip no-k f)
  ]
]

gains_front : (w : Dword) (ws : List Dword) → is_k28_5 w ≡ true → Split (Gains 1) ws → Split (Hunts 0) (w ∷ ws)
gains_front w ws k s = record { front = w ∷ s.front; rest = s.rest; is = ap (λ r. w ∷ r) s.is; holds = begins k (counts k s.holds) }

pub hunts? : (ws : List Dword) (k : ℕ) → Split (Hunts k) ws ⊎ Lacks k ws
hunts? [] k = inr l_none
hunts? (w ∷ ws) k = elim (cases_lt k 40) [
  | inr ge ↦ elim (hunts? ws (k - 40)) [
    | inl s ↦ inl (record { front = w ∷ s.front; rest = s.rest; is = ap (λ r. w ∷ r) s.is; holds = passes ge s.holds })
    | inr f ↦ inr (l_passes ge f)
  ]
  | inl lt ↦ elim (cases_Bool (is_k28_5 w)) [
    | inr no-k ↦ elim (hunts? ws 0) [
      | inl s ↦ inl (record { front = w ∷ s.front; rest = s.rest; is = ap (λ r. w ∷ r) s.is; holds = waits lt (λ z. no-k) s.holds })
      | inr f ↦ inr (l_waits lt (λ z. no-k) f)
    ]
    | inl is-k ↦ elim (cases_lt 0 k) [
      | inl cut ↦ elim (hunts? ws 0) [
        | inl s ↦ inl (record { front = w ∷ s.front; rest = s.rest; is = ap (λ r. w ∷ r) s.is; holds = waits lt (λ z. absurd (omega arith)) s.holds })
        | inr f ↦ inr (l_waits lt (λ z. absurd (omega arith)) f)
      ]
      | inr whole ↦ let z : 0 ≡ k = omega arith in elim (gains? ws 1) [
        | inl s ↦ inl (subst (λ n. Split (Hunts n) (w ∷ ws)) z (gains_front w ws is-k s))
        | inr f ↦ inr (subst (λ n. Lacks n (w ∷ ws)) z (l_begins is-k (f_count is-k f)))
      ]
    ]
  ]
]

mores_join : (a b : ℕ) → mores a ++ mores b ≡ mores (a + b)
mores_join a b = replicate-append-replicate a b More

few_shape : {left : ℕ} {ws : List Dword} → Few left ws → (count d : ℕ) → count + suc left ≡ 3 → AllValid ws → d < 2 →
    (n : ℕ) × (said (at_start d (early count)) (stream d ws) ≡ mores n)
unfolding before_sync
few_shape f_none count d c v h = (0, refl)
few_shape (f_count {w = w} {ws = ws} k g) count d c (v, vs) h =
    let j = readings_of d (c0 d w) (c1 d w) (c2 d w) (c3 d w) in
    let good = (judged_clean d w v h).0 in
    let same = (judged_clean d w v h).1 in
    let k28·5 : (eqb (kind_of j.first) 1 && eqb (byte_of j.first) 0xBC) ≡ true = ap is_k28_5 same ∙ k in
    let few = ne_eqb count 2 (λ e. omega arith) in
    let ih = few_shape g (count + 1) (disparity_after d w) (omega arith) vs (dword_small d w h) in
    (40 + ih.0, said_clean d (early count) w (stream (disparity_after d w) ws) v h ∙ rw (good, k28·5, few) (ap (λ r. mores 40 ++ r) ih.1) ∙ mores_join 40 ih.0)
few_shape (f_skip {w = w} {ws = ws} k g) count d c (v, vs) h =
    let j = readings_of d (c0 d w) (c1 d w) (c2 d w) (c3 d w) in
    let good = (judged_clean d w v h).0 in
    let same = (judged_clean d w v h).1 in
    let k28·5 : (eqb (kind_of j.first) 1 && eqb (byte_of j.first) 0xBC) ≡ false = ap is_k28_5 same ∙ k in
    let ih = few_shape g count (disparity_after d w) c vs (dword_small d w h) in
    (40 + ih.0, said_clean d (early count) w (stream (disparity_after d w) ws) v h ∙ rw (good, k28·5) (ap (λ r. mores 40 ++ r) ih.1) ∙ mores_join 40 ih.0)

pub never_shape : {k : ℕ} {ws : List Dword} → Lacks k ws → (e d : ℕ) → AllValid ws → d < 2 → (n : ℕ) × (said (hunting e (early 0)) (drop k (stream d ws)) ≡ mores n)
never_shape (l_none {k = zero}) e d v h = (0, refl)
never_shape (l_none {k = suc k}) e d v h = (0, refl)
never_shape (l_begins {w = w} {ws = ws} k g) e d (v, vs) h =
    let ih = few_shape g 0 d refl (v, vs) h in
    (ih.0, match_dword e d (early 0) w (stream (disparity_after d w) ws) (K28_5From w k) h ∙ ih.1)
never_shape (l_waits {k = k} {w = w} {ws = ws} lt none g) e d (v, vs) h =
    let ih = never_shape g e (disparity_after d w) vs (dword_small d w h) in
    (40 - k + ih.0, hunt_over e (early 0) d k w ws v vs h lt (λ z k28·5. both_ways (is_k28_5 w) (none z) (K28_5To w k28·5)) ∙ ap (λ r. mores (40 - k) ++ r) ih.1 ∙ mores_join (40 - k) ih.0)
never_shape (l_passes {k = k} {w = w} {ws = ws} ge g) e d (v, vs) h =
    let ih = never_shape g e (disparity_after d w) vs (dword_small d w h) in
    (ih.0, ap (said (hunting e (early 0))) (drop_dword d k w (stream (disparity_after d w) ws) ge) ∙ ih.1)
