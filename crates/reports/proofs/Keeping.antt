-- Some elements pushed, one after the other.
use Rattle.std.proofs.Common.{◌≡◌, ℕ, zero, suc, ◌+◌, ◌-◌, ◌≤◌, List, [], ◌∷◌, ◌++◌, length, set, sym, refl, ap, ◌∙◌, subst, take, append_assoc, append-nil, arith, length-append}
use Rattle.std.proofs.lemmas.Grind.{common_steps}
use Rattle.std.proofs.lemmas.List.{length-set, take_all}
use Rattle.reports.specs.declared.queue.Queue.{Queue}
use Rattle.line.specs.Cyclic.{wrap}
use Rattle.reports.specs.Queues.{memory_of, count_of, elements, room_of, start, written, Kept, Filled}

module _ {T : Type 0} where
  pub written-append : (first count : ℕ) (xs ys memory : List T) → written first count (xs ++ ys) memory ≡ written first (count + length xs) ys (written first count xs memory)
  written-append first count [] ys memory = ap (λ (n : ℕ). written first n ys memory) (omega arith)
  written-append first count (x ∷ xs) ys memory =
      let after = set memory (wrap (length memory) (first + count)) x in
      written-append first (count + 1) xs ys after
      ∙ ap (λ (n : ℕ). written first n ys (written first (count + 1) xs after)) (omega arith)

  pub kept_none : (q : Queue T) → Kept q [] q
  kept_none q = record { appended = sym (append-nil (elements q)); count = omega arith; room = omega arith; memory = refl; first = refl }

  pub kept_then : (a b c : Queue T) (xs ys : List T) → Kept a xs b → Kept b ys c → Kept a (xs ++ ys) c
  kept_then a b c xs ys p q =
      let n = length-append xs ys in
      record {
        appended = q.appended ∙ (ap (λ (l : List T). l ++ ys) p.appended ∙ append_assoc (elements a) xs ys);
        count = omega (arith, n, p.count, q.count);
        room = omega (arith, n, p.room, q.room);
        memory =
            q.memory
            ∙ (ap (λ (s : ℕ). written s (count_of b) ys (memory_of b)) p.first
            ∙ (ap (λ (k : ℕ). written (start a) k ys (memory_of b)) p.count
            ∙ (ap (λ (l : List T). written (start a) (count_of a + length xs) ys l) p.memory
            ∙ sym (written-append (start a) (count_of a) xs ys (memory_of a)))));
        first = q.first ∙ p.first;
      }

  -- what is left of the places takes what follows
  take_both : (n m : ℕ) (xs ys : List T) → m ≡ n - length (take n xs) → take n (xs ++ ys) ≡ take n xs ++ take m ys
  take_both n m [] ys e = grind (arith, common_steps)
  take_both zero m (x ∷ xs) ys e = grind (arith, common_steps)
  take_both (suc n) m (x ∷ xs) ys e = ap (λ (zs : List T). x ∷ zs) (take_both n m xs ys (omega arith))

  -- filling by one list and then another is filling by both
  pub filled_then : (a b c : Queue T) (xs ys : List T) → Filled a xs b → Filled b ys c → Filled a (xs ++ ys) c
  filled_then a b c xs ys p q =
      subst (λ (zs : List T). Kept a zs c) (sym (take_both (room_of a) (room_of b) xs ys p.room)) (kept_then a b c (take (room_of a) xs) (take (room_of b) ys) p q)

  -- where there is room for all, all are pushed
  pub filled_whole : (q q' : Queue T) (xs : List T) → length xs ≤ room_of q → Filled q xs q' → Kept q xs q'
  filled_whole q q' xs h p = subst (λ (ys : List T). Kept q ys q') (take_all (room_of q) xs h) p

  -- pushing leaves as many places as there were
  length_written : (first count : ℕ) (xs memory : List T) → length (written first count xs memory) ≡ length memory
  length_written first count [] memory = refl
  length_written first count (x ∷ xs) memory =
      length_written first (count + 1) xs (set memory (wrap (length memory) (first + count)) x) ∙ length-set memory (wrap (length memory) (first + count)) x

  pub kept-size : (q q' : Queue T) (xs : List T) → Kept q xs q' → length (memory_of q') ≡ length (memory_of q)
  kept-size q q' xs k = ap length k.memory ∙ length_written (start q) (count_of q) xs (memory_of q)
