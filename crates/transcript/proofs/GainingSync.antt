-- Up to sync: more to every bit, then gained at the end of the third K28.5 primitive begun.
use Rattle.std.proofs.Common.{◌≡◌, ℕ, suc, ◌+◌, ◌-◌, ◌*◌, ◌<◌, ◌≤◌, true, false, ◌&&◌, eqb, List, [], ◌∷◌, ◌++◌, length, drop, sym, refl, ap, ◌∙◌, subst, append_assoc, append-nil, arith}
use lib.ListN.{replicate-append-replicate}
use Rattle.std.proofs.lemmas.Bool.{eq-eqb, ne_eqb, both_ways}
use Rattle.link.specs.declared.dword.Dword.{Dword}
use Rattle.link.specs.declared.heard.Heard.{Heard}
use Rattle.link.specs.declared.heard.Heard.TheVariants.{More, Gained}
use Rattle.link.specs.Sending.{dword_bits, stream, disparity_after, disparity_after_all, c0, c1, c2, c3}
use Rattle.transcript.proofs.Bits.{dword_then}
use Rattle.link.specs.Hearing.{before_sync}
use Rattle.transcript.proofs.Running.{readings_of, said, mores, at_start}
use Rattle.link.specs.Readings.{kind_of, byte_of}
use Rattle.transcript.specs.Laws.{is_k28_5, AllValid}
use Rattle.transcript.proofs.Hunting.{Bits, hunting}
use Rattle.transcript.proofs.Commas.{hunt_past, Follows, goes_on, BitsAppend, BitsStream}
use Rattle.transcript.proofs.CleanDwords.{match_dword, said_clean, judged_clean}
use Rattle.transcript.proofs.InOrder.{early, synced, dword_small, K28_5From, K28_5To, drop_dword}

pub mores_mores : (a b : ℕ) (r : List Heard) → mores a ++ (mores b ++ r) ≡ mores (a + b) ++ r
mores_mores a b r = sym (append_assoc (mores a) (mores b) r) ∙ ap (λ m. m ++ r) (replicate-append-replicate a b More)

-- a list whose last dword is the K28.5 primitive after so many others
pub data Gains : ℕ → List Dword → Type 0 where
  last : {w : Dword} → is_k28_5 w ≡ true → Gains 0 (w ∷ [])
  counts : {n : ℕ} {w : Dword} {ws : List Dword} → is_k28_5 w ≡ true → Gains n ws → Gains (suc n) (w ∷ ws)
  skips : {n : ℕ} {w : Dword} {ws : List Dword} → is_k28_5 w ≡ false → Gains n ws → Gains n (w ∷ ws)

-- the same from a bit on
pub data Hunts : ℕ → List Dword → Type 0 where
  begins : {w : Dword} {ws : List Dword} → is_k28_5 w ≡ true → Gains 2 (w ∷ ws) → Hunts 0 (w ∷ ws)
  waits : {k : ℕ} {w : Dword} {ws : List Dword} → k < 40 → (k ≡ 0 → is_k28_5 w ≡ false) → Hunts 0 ws → Hunts k (w ∷ ws)
  passes : {k : ℕ} {w : Dword} {ws : List Dword} → 40 ≤ k → Hunts (k - 40) ws → Hunts k (w ∷ ws)

abbrev gained_then : ℕ → List Dword → List ℕ → List Heard
gained_then d ws xs = Gained ∷ said (at_start (disparity_after_all d ws) (synced 0 0 0 false 0)) xs

early_shape : {left : ℕ} {ws : List Dword} → Gains left ws → (count d : ℕ) → count + suc left ≡ 3 → AllValid ws → d < 2 → (xs : List ℕ) →
    (n : ℕ) × ((n + 1 ≡ 40 * length ws) × (said (at_start d (early count)) (stream d ws ++ xs) ≡ mores n ++ gained_then d ws xs))
unfolding before_sync
early_shape (last {w = w} k) count d c (v, vs) h xs =
    let j = readings_of d (c0 d w) (c1 d w) (c2 d w) (c3 d w) in
    let good = (judged_clean d w v h).0 in
    let same = (judged_clean d w v h).1 in
    let k28·5 : (eqb (kind_of j.first) 1 && eqb (byte_of j.first) 0xBC) ≡ true = ap is_k28_5 same ∙ k in
    let two = eq-eqb count 2 (omega arith) in
    (39, (refl, ap (λ r. said (at_start d (early count)) (r ++ xs)) (append-nil (dword_bits d w)) ∙ said_clean d (early count) w xs v h ∙ rw (good, k28·5, two) refl))
early_shape (counts {n = left} {w = w} {ws = ws} k g) count d c (v, vs) h xs =
    let j = readings_of d (c0 d w) (c1 d w) (c2 d w) (c3 d w) in
    let good = (judged_clean d w v h).0 in
    let same = (judged_clean d w v h).1 in
    let k28·5 : (eqb (kind_of j.first) 1 && eqb (byte_of j.first) 0xBC) ≡ true = ap is_k28_5 same ∙ k in
    let few = ne_eqb count 2 (λ e. omega arith) in
    let ih = early_shape g (count + 1) (disparity_after d w) (omega arith) vs (dword_small d w h) xs in (
      40 + ih.0,
      (
        omega (arith, ih.1.0),
        ap (said (at_start d (early count))) (append_assoc (dword_bits d w) (stream (disparity_after d w) ws) xs) ∙ said_clean d (early count) w (stream (disparity_after d w) ws ++ xs) v h
            ∙ rw (good, k28·5, few) (ap (λ r. mores 40 ++ r) ih.1.1) ∙ mores_mores 40 ih.0 _,
      ),
    )
early_shape (skips {w = w} {ws = ws} k g) count d c (v, vs) h xs =
    let j = readings_of d (c0 d w) (c1 d w) (c2 d w) (c3 d w) in
    let good = (judged_clean d w v h).0 in
    let same = (judged_clean d w v h).1 in
    let k28·5 : (eqb (kind_of j.first) 1 && eqb (byte_of j.first) 0xBC) ≡ false = ap is_k28_5 same ∙ k in
    let ih = early_shape g count (disparity_after d w) c vs (dword_small d w h) xs in (
      40 + ih.0,
      (
        omega (arith, ih.1.0),
        ap (said (at_start d (early count))) (append_assoc (dword_bits d w) (stream (disparity_after d w) ws) xs) ∙ said_clean d (early count) w (stream (disparity_after d w) ws ++ xs) v h
            ∙ rw (good, k28·5) (ap (λ r. mores 40 ++ r) ih.1.1) ∙ mores_mores 40 ih.0 _,
      ),
    )

follows_hunts : {k : ℕ} {ws : List Dword} (d : ℕ) (xs : List ℕ) → Hunts k ws → AllValid ws → Follows d (stream d ws ++ xs)
follows_hunts {ws = w ∷ ws} d xs g (v, vs) = subst (Follows d) (sym (append_assoc (dword_bits d w) (stream (disparity_after d w) ws) xs ∙ dword_then d w (stream (disparity_after d w) ws ++ xs))) (goes_on w.kind w.b0 v.first _)
follows_hunts {ws = []} d xs g v = elim g [ ]

pub hunting_shape : {k : ℕ} {ws : List Dword} → Hunts k ws → (e d : ℕ) → AllValid ws → d < 2 → (xs : List ℕ) → Bits xs →
    (n : ℕ) × ((n + 1 + k ≡ 40 * length ws) × (said (hunting e (early 0)) (drop k (stream d ws ++ xs)) ≡ mores n ++ gained_then d ws xs))
hunting_shape (begins {w = w} {ws = ws} k g) e d (v, vs) h xs bx =
    let ih = early_shape g 0 d refl (v, vs) h xs in (
      ih.0,
      (
        omega (arith, ih.1.0),
        ap (said (hunting e (early 0))) (append_assoc (dword_bits d w) (stream (disparity_after d w) ws) xs)
            ∙ match_dword e d (early 0) w (stream (disparity_after d w) ws ++ xs) (K28_5From w k) h
            ∙ ap (said (at_start d (early 0))) (sym (append_assoc (dword_bits d w) (stream (disparity_after d w) ws) xs)) ∙ ih.1.1,
      ),
    )
hunting_shape (waits {k = k} {w = w} {ws = ws} lt none g) e d (v, vs) h xs bx =
    let ih = hunting_shape g e (disparity_after d w) vs (dword_small d w h) xs bx in
    let rest = stream (disparity_after d w) ws ++ xs in (
      40 - k + ih.0,
      (
        omega (arith, ih.1.0),
        ap (λ r. said (hunting e (early 0)) (drop k r)) (append_assoc (dword_bits d w) (stream (disparity_after d w) ws) xs)
            ∙ hunt_past e (early 0) d k w rest v (follows_hunts (disparity_after d w) xs g vs) (BitsAppend _ _ (BitsStream (disparity_after d w) ws) bx) h lt (λ z k28·5. both_ways (is_k28_5 w) (none z) (K28_5To w k28·5))
            ∙ ap (λ r. mores (40 - k) ++ r) ih.1.1 ∙ mores_mores (40 - k) ih.0 _,
      ),
    )
hunting_shape (passes {k = k} {w = w} {ws = ws} ge g) e d (v, vs) h xs bx =
    let ih = hunting_shape g e (disparity_after d w) vs (dword_small d w h) xs bx in (
      ih.0,
      (
        omega (arith, ih.1.0),
        ap (λ r. said (hunting e (early 0)) (drop k r)) (append_assoc (dword_bits d w) (stream (disparity_after d w) ws) xs)
            ∙ ap (said (hunting e (early 0))) (drop_dword d k w (stream (disparity_after d w) ws ++ xs) ge) ∙ ih.1.1,
      ),
    )
