-- The laws of a list under a ring: how the elements in use are read, changed, joined and left.
use Rattle.std.proofs.Common.{◌≡◌, ℕ, ◌+◌, ◌<◌, ◌≤◌, List, [], ◌∷◌, ◌++◌, length, get_or, take, set, Some, None, Option, refl, sym, ap, ◌∙◌, arith}
use Rattle.std.proofs.Math.Seq.{take-set-lt}
use Rattle.std.proofs.lemmas.Bool.Decides.{nat_tests}
use Rattle.std.proofs.lemmas.List.{length-take-le, get_or-take}
use Rattle.line.specs.Cyclic.{cyclic, wrap}
use Rattle.line.specs.Rings.{place_of, first_of, in_use, Grown, Advanced}
use Rattle.line.specs.declared.ring.Ring.{Ring}
use Rattle.line.proofs.Cyclics.{length_cyclic, getd_cyclic, wrap_low, wrap_below, cyclic_pop, cyclic_push, cyclic-set}

pub none_in_use : {X : Type 0} (xs : List X) (ring : Ring) → ring.count ≡ 0 → in_use xs ring ≡ []
unfolding in_use cyclic
none_in_use xs ring e = ap (cyclic (take ring.size xs) ring.front) e

-- Place 0 is the front.
pub place_first : (ring : Ring) → 0 < ring.size → place_of ring 0 ≡ ring.front
place_first ring h = wrap_low ring.size (ring.front + 0) (omega (arith, ring.first)) ∙ omega arith

-- A place counted from the front is one of the ring.
pub place_within : (ring : Ring) (k : ℕ) → k < ring.size → place_of ring k < ring.size
place_within ring k h = wrap_below ring.size (ring.front + k) (omega (arith, ring.first))

module _ {X : Type 0} (xs : List X) (ring : Ring) (within : ring.size ≤ length xs) where
  length_ring : length (take ring.size xs) ≡ ring.size
  length_ring = length-take-le ring.size xs within

  pub length_in_use : length (in_use xs ring) ≡ ring.count
  unfolding in_use
  length_in_use =
      let n = length_ring in
      length_cyclic (take ring.size xs) ring.front ring.count (omega (arith, ring.first)) (omega (arith, ring.fits))

  -- Element k in use stands at place k from the front.
  pub get_in_use : (k : ℕ) (d : X) → k < ring.count → get_or (in_use xs ring) k d ≡ get_or xs (place_of ring k) d
  unfolding in_use
  get_in_use k d h =
      let n = length_ring in
      getd_cyclic (take ring.size xs) ring.front ring.count k d (omega (arith, ring.first, ring.fits)) (omega (arith, ring.fits)) h
      ∙ (ap (λ m. get_or (take ring.size xs) (wrap m (ring.front + k)) d) n
      ∙ get_or-take ring.size xs (place_of ring k) d (place_within ring k (omega (arith, ring.fits))))

  -- It alone changes with that place.
  pub set_in_use : (k : ℕ) (x : X) → k < ring.count → in_use (set xs (place_of ring k) x) ring ≡ set (in_use xs ring) k x
  unfolding in_use
  set_in_use k x h =
      let n = length_ring in
      ap (λ ys. cyclic ys ring.front ring.count) (take-set-lt ring.size xs (place_of ring k) x (place_within ring k (omega (arith, ring.fits))))
      ∙ (ap (λ m. cyclic (set (take ring.size xs) (wrap m (ring.front + k)) x) ring.front ring.count) (sym n)
      ∙ cyclic-set (take ring.size xs) ring.front ring.count k x (omega (arith, ring.first, ring.fits)) (omega (arith, ring.fits)) h)

  module _ (place : ℕ) (after : Ring) where
    -- What is written to the place that is taken into use joins behind the last.
    pub grown_in_use : (x : X) → Grown ring (Some place) after → in_use (set xs place x) after ≡ in_use xs ring ++ x ∷ []
    unfolding in_use
    grown_in_use x (here, size, front, count) =
        let n = length_ring in
        let free : ring.count < ring.size = omega (arith, after.fits) in
        let inside : place_of ring ring.count < ring.size = place_within ring ring.count free in
        ap (λ m. cyclic (take m (set xs place x)) after.front after.count) size
        ∙ (ap (λ m. cyclic (take ring.size (set xs place x)) m after.count) front
        ∙ (ap (cyclic (take ring.size (set xs place x)) ring.front) count
        ∙ (ap (λ p. cyclic (take ring.size (set xs p x)) ring.front (ring.count + 1)) here
        ∙ (ap (λ ys. cyclic ys ring.front (ring.count + 1)) (take-set-lt ring.size xs (place_of ring ring.count) x inside)
        ∙ (ap (λ m. cyclic (set (take ring.size xs) (wrap m (ring.front + ring.count)) x) ring.front (ring.count + 1)) (sym n)
        ∙ cyclic_push (take ring.size xs) ring.front ring.count x (omega (arith, ring.first)) (omega arith))))))

    -- The element at the place that is let go was the first.
    pub advanced_in_use : (d : X) → Advanced ring (Some place) after → in_use xs ring ≡ get_or xs place d ∷ in_use xs after
    unfolding in_use
    advanced_in_use d (here, size, front, count) =
        let n = length_ring in
        let some : after.count < ring.size = omega (arith, ring.fits) in
        let first : ring.front < ring.size = omega (arith, ring.first) in
        let ys = take ring.size xs in
        ap (cyclic ys ring.front) count
        ∙ (cyclic_pop ys ring.front after.count (omega arith) (omega arith) d
        ∙ (ap (λ x. x ∷ cyclic ys (wrap (length ys) (ring.front + 1)) after.count) (get_or-take ring.size xs ring.front d first)
        ∙ (ap (λ m. get_or xs ring.front d ∷ cyclic ys (wrap m (ring.front + 1)) after.count) n
        ∙ (ap (λ p. get_or xs p d ∷ cyclic ys (place_of ring 1) after.count) (sym here)
        ∙ (ap (λ p. get_or xs place d ∷ cyclic ys p after.count) (sym front)
        ∙ ap (λ m. get_or xs place d ∷ cyclic (take m xs) after.front after.count) (sym size))))))

-- Where a place is in use, it is the first that is let go.
pub advanced_some : (before after : Ring) (o : Option ℕ) → 0 < before.count → Advanced before o after → Advanced before (Some before.front) after
advanced_some before after (Some place) some (here, size, front, count) = (refl, size, front, count)
advanced_some before after None some (none, same) = absurd (omega arith)

-- What the first place says of how many are in use.
pub first_none : (ring : Ring) → None ≡ first_of ring → ring.count ≡ 0
first_none ring e = grind (arith, nat_tests)

pub first_some : (ring : Ring) (place : ℕ) → Some place ≡ first_of ring → (0 < ring.count) × (place ≡ ring.front)
first_some ring place e = grind (arith, nat_tests)
