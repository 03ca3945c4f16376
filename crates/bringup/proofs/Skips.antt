-- Ticks in which nothing comes due can be taken at once.
use Rattle.std.proofs.Common.{◌≡◌, ℕ, zero, suc, ◌+◌, ◌-◌, ◌<◌, ◌≤◌, sym, ap, ◌∙◌, ap₂, zero-add, arith}
use Rattle.std.proofs.lemmas.Bool.Decides.{nat_tests}
use Rattle.bringup.specs.declared.end.End.{End}
use Rattle.bringup.specs.Detection.{longer}
use Rattle.bringup.specs.Bringup.{tick, ticks, settled, aged, later}
use Rattle.bringup.specs.Skipping.{capped, skipped, OnlyRests, NothingDue}

-- so many ticks and then others are their sum
ticks_add : (a b : ℕ) (e : End) → ticks (a + b) e ≡ ticks a (ticks b e)
ticks_add zero b e = ap (λ n. ticks n e) (zero-add b)
ticks_add (suc a) b e = ap (λ n. ticks n e) (let z : suc a + b ≡ suc (a + b) = omega arith in z) ∙ ap tick (ticks_add a b e)

-- one more tick of a phase counts one further, up to the cap
later-capped : (n k : ℕ) → later (capped 328640 n k) ≡ capped 328640 n (suc k)
later-capped n k = grind (arith, nat_tests)

-- and so does one more tick of an idle
longer-capped : (n k : ℕ) → longer (capped 4725 n k) ≡ capped 4725 n (suc k)
longer-capped n k = grind (arith, nat_tests)

-- no ticks skip nothing
skipped_none : (e : End) → e ≡ skipped 0 e
skipped_none e = grind (arith, nat_tests)

-- so many ticks in which nothing comes due are one skip
calm_ticks : (k : ℕ) (e : End) → OnlyRests k e.detector → NothingDue k e → ticks k e ≡ skipped k e
calm_ticks zero e d p = skipped_none e
calm_ticks (suc k) e d p =
    ap tick (calm_ticks k e (λ j lt. d j (omega arith)) (λ j lt. p j (omega arith)))
    ∙ ap (settled e.phase) (aged-skipped)
    ∙ p k (omega arith)
  where
    aged-skipped : aged (skipped k e) ≡ skipped (suc k) e
    aged-skipped = ap₂ (λ n x. record { rates = e.rates; phase = e.phase; elapsed = n; detector = x; window = e.window })
        (later-capped e.elapsed k) (d k (omega arith))

-- with such a skip ahead, the ticks left are those that were to pass
pub skip_ahead : (n k : ℕ) (e : End) → k ≤ n → OnlyRests k e.detector → NothingDue k e → ticks (n - k) (skipped k e) ≡ ticks n e
skip_ahead n k e le d p =
    let z : n - k + k ≡ n = omega arith in
    ap (ticks (n - k)) (sym (calm_ticks k e d p)) ∙ sym (ticks_add (n - k) k e) ∙ ap (λ m. ticks m e) z

-- and so with one tick
pub tick_ahead : (n : ℕ) (e : End) → 0 < n → ticks (n - 1) (tick e) ≡ ticks n e
tick_ahead n e pos =
    let z : n - 1 + 1 ≡ n = omega arith in
    sym (ticks_add (n - 1) 1 e) ∙ ap (λ m. ticks m e) z
