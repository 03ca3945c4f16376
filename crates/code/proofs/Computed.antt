-- A rule of a table or of all small numbers, proved by one test that antt computes.
use Rattle.std.proofs.Common.{◌≡◌, ℕ, zero, suc, ◌+◌, ◌<◌, Bool, true, false, not, ◌&&◌, ◌||◌, T, ltb, List, [], ◌∷◌, length, get_or, sym, refl, ◌∙◌, subst, inl, inr, le_of_suc-le-suc, not-suc-le-zero, add-zero, add-suc, suc-add, zero-add, arith, ltb→lt}
use Rattle.std.proofs.lemmas.Bool.{cases_lt, both_ways}

pub both_left : (a b : Bool) → T (a && b) → T a
both_left true b t = tt
both_left false b t = absurd t

pub both_right : (a b : Bool) → T (a && b) → T b
both_right true b t = t
both_right false b t = absurd t

-- a test that implies another
pub implied : (a b : Bool) → T (not a || b) → a ≡ true → T b
implied true b t e = t
implied false b t e = let z : ◌≡◌ {A = Bool} false true = e in absurd (both_ways false refl z)

-- each entry of a table passes a test at its place, counted from i
abbrev pub passed : {A : Type 0} (test : ℕ → A → Bool) → ℕ → List A → Bool
passed test i [] = true
passed test i (x ∷ xs) = test i x && passed test (suc i) xs

from : {A : Type 0} (test : ℕ → A → Bool) (xs : List A) (none : A) (i : ℕ) → T (passed test i xs)
    → (k : ℕ) → k < length xs → T (test (i + k) (get_or xs k none))
from test [] none i t k h = absurd (not-suc-le-zero h)
from test (x ∷ xs) none i t zero h = subst (λ (m : ℕ). T (test m x)) (sym (add-zero i)) (both_left (test i x) (passed test (suc i) xs) t)
from test (x ∷ xs) none i t (suc k) h =
    subst (λ (m : ℕ). T (test m (get_or xs k none))) (suc-add i k ∙ sym (add-suc i k))
    (from test xs none (suc i) (both_right (test i x) (passed test (suc i) xs) t) k (le_of_suc-le-suc h))

pub entry : {A : Type 0} (test : ℕ → A → Bool) (xs : List A) (none : A) → T (passed test 0 xs) → (k : ℕ) → k < length xs → T (test k (get_or xs k none))
entry test xs none t k h = subst (λ (m : ℕ). T (test m (get_or xs k none))) (zero-add k) (from test xs none 0 t k h)

-- each entry is below a bound
pub small_entry : (bound : ℕ) (xs : List ℕ) → T (passed (λ k x. ltb x bound) 0 xs) → (k : ℕ) → k < length xs → get_or xs k 0 < bound
small_entry bound xs t k h = ltb→lt (get_or xs k 0) bound (entry (λ (k x : ℕ). ltb x bound) xs 0 t k h)

-- a test at each number below n
abbrev pub below : ℕ → (ℕ → Bool) → Bool
below zero f = true
below (suc n) f = f n && below n f

pub at_below : (n : ℕ) (f : ℕ → Bool) → T (below n f) → (k : ℕ) → k < n → T (f k)
at_below zero f t k h = absurd (not-suc-le-zero h)
at_below (suc n) f t k h =
    elim (cases_lt k n) [
      | inl lt ↦ at_below n f (both_right (f n) (below n f) t) k lt
      | inr ge ↦ let e : n ≡ k = omega arith in subst (λ (m : ℕ). T (f m)) e (both_left (f n) (below n f) t)
    ]

-- a test at minus and plus
pub at_disparity_below : (f : ℕ → Bool) → T (f 0) → T (f 1) → (d : ℕ) → d < 2 → T (f d)
at_disparity_below f m p zero h = m
at_disparity_below f m p (suc zero) h = p
at_disparity_below f m p (suc (suc d)) h = absurd (not-suc-le-zero (le_of_suc-le-suc (le_of_suc-le-suc h)))

-- a test at each number below n and at both disparities
pub at_both : (n : ℕ) (f : ℕ → ℕ → Bool) → T (below n (λ k. f k 0)) → T (below n (λ k. f k 1)) → (k d : ℕ) → k < n → d < 2 → T (f k d)
at_both n f m p k d hk hd =
    at_disparity_below (f k) (at_below n (λ (j : ℕ). f j 0) m k hk) (at_below n (λ (j : ℕ). f j 1) p k hk) d hd
