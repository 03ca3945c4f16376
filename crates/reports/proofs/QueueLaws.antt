-- The laws of a queue whose elements lie in the places that a ring has in use.
use Rattle.std.proofs.Common.{◌≡◌, ℕ, ◌+◌, List, [], ◌∷◌, length, get_or, set, Option, Some, None, sym, refl, ap, ◌∙◌, subst, arith}
use Rattle.std.proofs.Math.Nat.{ℕ_set}
use Rattle.std.proofs.lemmas.List.{length-take, nil_from_length}
use Rattle.line.specs.declared.ring.Ring.{Ring}
use Rattle.line.specs.Cyclic.{cyclic, wrap}
use Rattle.line.specs.Rings.{Grown, Advanced}
use Rattle.line.proofs.Cyclics.{length_cyclic, cyclic_push, cyclic_pop}
use Rattle.reports.specs.declared.queue.Queue.{Queue}
use Rattle.reports.specs.Queues.{memory_of, elements, count_of, Appended, Popped}

-- where none wait, none are shown
pub none_shown : {X : Type 0} (xs : List X) (front count : ℕ) → count ≡ 0 → cyclic xs front count ≡ []
unfolding cyclic
none_shown xs front count h = nil_from_length (cyclic xs front count) (simp length-take (omega arith))

module _ {T : Type 0} where
  -- the ring counts the elements
  pub length_elements : (q : Queue T) → length (elements q) ≡ count_of q
  length_elements q = length_cyclic (memory_of q) q.ring.front q.ring.count (omega arith) (omega arith)

  -- a queue of the same memory and the same ring is the same
  pub same_queue : (q : Queue T) (ring : Ring) (whole : ring.size ≡ length q.memory.now) → ring ≡ q.ring → record { memory = q.memory; ring = ring; whole = whole } ≡ q
  same_queue q ring whole e =
      subst (λ (r : Ring). (w : r.size ≡ length q.memory.now) → record { memory = q.memory; ring = r; whole = w } ≡ q) (sym e)
      (λ w. ap (λ (z : q.ring.size ≡ length q.memory.now). record { memory = q.memory; ring = q.ring; whole = z }) (ℕ_set _ _ w q.whole)) whole

  -- a ring grown by the place that was written has one element more
  pub appended : (q q' : Queue T) (place : ℕ) (x : T) → Grown q.ring (Some place) q'.ring → memory_of q' ≡ set (memory_of q) place x → Appended q x q'
  appended q q' place x g m =
      let xs = memory_of q in
      let at : memory_of q' ≡ set xs (wrap (length xs) (q.ring.front + q.ring.count)) x =
      m ∙ ap (λ (i : ℕ). set xs i x) (g.0 ∙ ap (λ (n : ℕ). wrap n (q.ring.front + q.ring.count)) q.whole) in
      record {
        joined =
            ap (λ (i : ℕ). cyclic (memory_of q') i q'.ring.count) g.2
            ∙ (ap (cyclic (memory_of q') q.ring.front) g.3
            ∙ (ap (λ (ys : List T). cyclic ys q.ring.front (q.ring.count + 1)) at
            ∙ cyclic_push xs q.ring.front q.ring.count x (omega arith) (omega arith)));
        memory = at;
        count = g.3;
        first = g.2;
      }

  -- a ring advanced past the place that was read has lost the first element
  pub popped : (q : Queue T) (ring : Ring) (place : ℕ) (x : T) → Advanced q.ring (Some place) ring → x ≡ get_or (memory_of q) place x
      → (elements q ≡ x ∷ cyclic (memory_of q) ring.front ring.count) × (memory_of q ≡ memory_of q)
  popped q ring place x a e =
      let xs = memory_of q in
      let next : ring.front ≡ wrap (length xs) (q.ring.front + 1) = a.2 ∙ ap (λ (n : ℕ). wrap n (q.ring.front + 1)) q.whole in
      let first : get_or xs q.ring.front x ≡ x = ap (λ (i : ℕ). get_or xs i x) (sym a.0) ∙ sym e in (
        ap (cyclic xs q.ring.front) a.3
            ∙ (cyclic_pop xs q.ring.front ring.count (omega arith) (omega arith) x
            ∙ (ap (λ (y : T). y ∷ cyclic xs (wrap (length xs) (q.ring.front + 1)) ring.count) first
            ∙ ap (λ (i : ℕ). x ∷ cyclic xs i ring.count) (sym next))),
        refl,
      )

  -- where the ring cannot advance, nothing changes
  pub none_popped : (q : Queue T) (r : Option T) (ring : Ring) (whole : ring.size ≡ length q.memory.now) → r ≡ None → q.ring.count ≡ 0 → ring ≡ q.ring
      → Popped q r (record { memory = q.memory; ring = ring; whole = whole })
  none_popped q r ring whole n c e =
      let q' : Queue T = record { memory = q.memory; ring = ring; whole = whole } in
      subst (λ (o : Option T). Popped q o q') (sym n) (none_shown (memory_of q) q.ring.front q.ring.count c, same_queue q ring whole e)
