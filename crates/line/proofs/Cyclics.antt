-- The laws of rings: the first element goes, one joins at the end, one is changed in place.
use Rattle.std.proofs.Common.{◌≡◌, ℕ, zero, suc, ◌+◌, ◌-◌, ◌<◌, ◌≤◌, ◌≢◌, List, [], ◌∷◌, ◌++◌, length, get_or, drop, set, sym, refl, ap, ◌∙◌, ⊎_elim, arith}
use Rattle.std.proofs.lemmas.List.{same_lists, length-take, length-drop, length-append, length-set, length_push, get_or-take, get_or-drop, get_or_default, get_or_push, get_or-set_same, get_or-set_other, get_or_append_left, get_or-append_right}
use Rattle.std.proofs.lemmas.Bool.{cases_eq, cases_lt}
use Rattle.std.proofs.lemmas.Bool.Decides.{nat_tests}
use Rattle.line.specs.Cyclic.{cyclic, wrap}

pub wrap_low : (size n : ℕ) → n < size → wrap size n ≡ n
wrap_low size n h = grind (arith, nat_tests)

wrap_high : (size n : ℕ) → size ≤ n → wrap size n ≡ n - size
wrap_high size n h = grind (arith, nat_tests)

pub wrap_below : (size n : ℕ) → n < size + size → wrap size n < size
wrap_below size n h = grind (arith, nat_tests)

-- Places that differ by less than the size are different places of the ring.
wrap_apart : (size front j k : ℕ) → front < size → j < size → k < size → j ≢ k → wrap size (front + j) ≢ wrap size (front + k)
wrap_apart size front j k f a b ne e = ne (grind (arith, nat_tests))

-- Place k after the next is place k + 1 after this.
wrap_next : (size front k : ℕ) → front < size → k < size → wrap size (wrap size (front + 1) + k) ≡ wrap size (front + suc k)
wrap_next size front k f h = grind (arith, nat_tests)

pub length_cyclic : {X : Type 0} (xs : List X) (front len : ℕ) → front ≤ length xs → len ≤ length xs → length (cyclic xs front len) ≡ len
unfolding cyclic
length_cyclic xs front len f l = simp (length-take, length-drop, length-append) (omega arith)

-- Place n of a list twice over is its place in the ring.
getd_twice : {X : Type 0} (xs : List X) (n : ℕ) (d : X) → n < length xs + length xs → get_or (xs ++ xs) n d ≡ get_or xs (wrap (length xs) n) d
getd_twice xs n d h =
    ⊎_elim
    (λ low. get_or_append_left xs xs d n low ∙ ap (λ i. get_or xs i d) (sym (wrap_low (length xs) n low)))
    (λ high. get_or-append_right xs xs (length xs) n d refl high ∙ ap (λ i. get_or xs i d) (sym (wrap_high (length xs) n high)))
    (cases_lt n (length xs))

-- Element k from the front stands at place front + k of the ring.
pub getd_cyclic : {X : Type 0} (xs : List X) (front len k : ℕ) (d : X) → front < length xs → len ≤ length xs → k < len
    → get_or (cyclic xs front len) k d ≡ get_or xs (wrap (length xs) (front + k)) d
unfolding cyclic
getd_cyclic xs front len k d f l h =
    get_or-take len (drop front (xs ++ xs)) k d h
    ∙ (get_or-drop front (xs ++ xs) k d
    ∙ getd_twice xs (front + k) d (omega arith))

module _ {X : Type 0} (xs : List X) (front len : ℕ) (f : front < length xs) (l : len < length xs) where
  pop_at : (d : X) (k : ℕ) (e : X) → k < len + 1
      → get_or (cyclic xs front (len + 1)) k e ≡ get_or (get_or xs front d ∷ cyclic xs (wrap (length xs) (front + 1)) len) k e
  pop_at d zero e h =
      getd_cyclic xs front (len + 1) 0 e f (omega arith) h
      ∙ (ap (λ i. get_or xs i e) (wrap_low (length xs) (front + 0) (omega arith) ∙ omega arith)
      ∙ get_or_default xs front e d f)
  pop_at d (suc k) e h =
      getd_cyclic xs front (len + 1) (suc k) e f (omega arith) h
      ∙ (ap (λ i. get_or xs i e) (sym (wrap_next (length xs) front k f (omega arith)))
      ∙ sym (getd_cyclic xs (wrap (length xs) (front + 1)) len k e (wrap_below (length xs) (front + 1) (omega arith)) (omega arith) (omega arith)))

  -- The first element, and the ring without it.
  pub cyclic_pop : (d : X) → cyclic xs front (len + 1) ≡ get_or xs front d ∷ cyclic xs (wrap (length xs) (front + 1)) len
  cyclic_pop d =
      let next : wrap (length xs) (front + 1) < length xs = wrap_below (length xs) (front + 1) (omega arith) in
      let all : length (cyclic xs front (len + 1)) ≡ len + 1 = length_cyclic xs front (len + 1) (omega arith) (omega arith) in
      let rest : length (cyclic xs (wrap (length xs) (front + 1)) len) ≡ len =
      length_cyclic xs (wrap (length xs) (front + 1)) len (omega arith) (omega arith) in
      same_lists _ _ (omega arith) (λ k e h. pop_at d k e (omega arith))

-- One element of the ring is changed: the one at place p from the front.
module _ {X : Type 0} (xs : List X) (front len p : ℕ) (x : X) (f : front < length xs) (l : len ≤ length xs) where
  length_cyclic_set : length (cyclic (set xs (wrap (length xs) (front + p)) x) front len) ≡ len
  length_cyclic_set =
      let n : length (set xs (wrap (length xs) (front + p)) x) ≡ length xs = length-set xs (wrap (length xs) (front + p)) x in
      length_cyclic (set xs (wrap (length xs) (front + p)) x) front len (omega arith) (omega arith)

  set_at : (k : ℕ) (d : X) → k < len
      → get_or (cyclic (set xs (wrap (length xs) (front + p)) x) front len) k d ≡ get_or (set xs (wrap (length xs) (front + p)) x) (wrap (length xs) (front + k)) d
  set_at k d h =
      let n : length (set xs (wrap (length xs) (front + p)) x) ≡ length xs = length-set xs (wrap (length xs) (front + p)) x in
      getd_cyclic (set xs (wrap (length xs) (front + p)) x) front len k d (omega arith) (omega arith) h
      ∙ ap (λ z. get_or (set xs (wrap (length xs) (front + p)) x) (wrap z (front + k)) d) n

  -- That element is the new one, and the others are as they were.
  set_same : (k : ℕ) (d : X) → k < len → k ≡ p → get_or (cyclic (set xs (wrap (length xs) (front + p)) x) front len) k d ≡ x
  set_same k d h e =
      set_at k d h
      ∙ (ap (λ i. get_or (set xs (wrap (length xs) (front + p)) x) (wrap (length xs) (front + i)) d) e
      ∙ get_or-set_same xs (wrap (length xs) (front + p)) x d (wrap_below (length xs) (front + p) (omega arith)))

  set_other : (k : ℕ) (d : X) → k < len → p < length xs → k ≢ p
      → get_or (cyclic (set xs (wrap (length xs) (front + p)) x) front len) k d ≡ get_or xs (wrap (length xs) (front + k)) d
  set_other k d h m ne =
      set_at k d h
      ∙ get_or-set_other xs (wrap (length xs) (front + p)) (wrap (length xs) (front + k)) x d (wrap_apart (length xs) front k p f (omega arith) m ne)

-- The ring with the element at place p changed.
module _ {X : Type 0} (xs : List X) (front len p : ℕ) (x : X) (f : front < length xs) (l : len ≤ length xs) (h : p < len) where
  changed_at : (k : ℕ) (d : X) → k < len
      → get_or (cyclic (set xs (wrap (length xs) (front + p)) x) front len) k d ≡ get_or (set (cyclic xs front len) p x) k d
  changed_at k d b =
      let n : length (cyclic xs front len) ≡ len = length_cyclic xs front len (omega arith) l in
      ⊎_elim
      (λ (e : k ≡ p).
      set_same xs front len p x f l k d b e
      ∙ sym (ap (λ i. get_or (set (cyclic xs front len) p x) i d) e ∙ get_or-set_same (cyclic xs front len) p x d (omega arith)))
      (λ (ne : k ≢ p).
      set_other xs front len p x f l k d b (omega arith) ne
      ∙ sym (get_or-set_other (cyclic xs front len) p k x d ne ∙ getd_cyclic xs front len k d f l b))
      (cases_eq k p)

  pub cyclic-set : cyclic (set xs (wrap (length xs) (front + p)) x) front len ≡ set (cyclic xs front len) p x
  cyclic-set =
      let n = length_cyclic_set xs front len p x f l in
      same_lists _ _
      (n ∙ sym (length-set (cyclic xs front len) p x ∙ length_cyclic xs front len (omega arith) l))
      (λ k d m. changed_at k d (omega arith))

-- The ring with one more element at the end.
module _ {X : Type 0} (xs : List X) (front len : ℕ) (x : X) (f : front < length xs) (l : len < length xs) where
  pushed_at : (k : ℕ) (d : X) → k < len + 1
      → get_or (cyclic (set xs (wrap (length xs) (front + len)) x) front (len + 1)) k d ≡ get_or (cyclic xs front len ++ x ∷ []) k d
  pushed_at k d b =
      let n : length (cyclic xs front len) ≡ len = length_cyclic xs front len (omega arith) (omega arith) in
      ⊎_elim
      (λ (e : k ≡ len).
      set_same xs front (len + 1) len x f (omega arith) k d b e
      ∙ sym (get_or_push (cyclic xs front len) x d k (n ∙ sym e)))
      (λ (ne : k ≢ len).
      set_other xs front (len + 1) len x f (omega arith) k d b l ne
      ∙ sym (get_or_append_left (cyclic xs front len) (x ∷ []) d k (omega arith) ∙ getd_cyclic xs front len k d f (omega arith) (omega arith)))
      (cases_eq k len)

  pub cyclic_push : cyclic (set xs (wrap (length xs) (front + len)) x) front (len + 1) ≡ cyclic xs front len ++ x ∷ []
  cyclic_push =
      let n : length (cyclic xs front len) ≡ len = length_cyclic xs front len (omega arith) (omega arith) in
      let more = length_cyclic_set xs front (len + 1) len x f (omega arith) in
      same_lists _ _
      (more ∙ sym (length_push (cyclic xs front len) x ∙ ap (λ z. z + 1) n))
      (λ k d m. pushed_at k d (omega arith))
