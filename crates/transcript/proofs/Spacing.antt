-- From turned bits that are spaced to a run of characters.
use Rattle.std.proofs.Common.{◌≡◌, ℕ, zero, suc, ◌+◌, ◌-◌, ◌*◌, ◌<◌, ◌≤◌, min, Bool, true, false, cond, not, ◌&&◌, eqb, ◌⊎◌, List, [], ◌∷◌, ◌++◌, length, get_or, take, drop, sym, refl, ap, ◌∙◌, subst, inl, inr, arith, length-drop, length-take, get_or-drop, get_or-take, get_or-set_same}
use lib.ListN.{get_or-eq_default, get_or-append}
use Rattle.std.proofs.lemmas.Bool.{cases_lt, cases_Bool, cases_eq, both_ways, and_parts, and_from, eqb-true, eq-eqb}
use borrow.Author.Tests.{clash}
use Rattle.transcript.proofs.CodeFacts.{ValidCode}
use Rattle.code.specs.Characters.{encoded, after, unlike}
use Rattle.transcript.proofs.Bits.{get_d_past, bits, number, turn, length_bits, number-bits}
use Rattle.link.specs.declared.reading.Reading.{Reading}
use Rattle.link.specs.Readings.{reading}
use Rattle.transcript.proofs.Hunting.{Bits}
use Rattle.transcript.proofs.Commas.{BitsBits, BitsDrop}
use Rattle.transcript.proofs.Track.{clean, turned, Status, Step, kept, blind, caught, struck, slipped, Placed, step, Cell, Steps, done, more, Nth, here, there}
use Rattle.code.proofs.Laws.{characters_fit, disparity_fits}

abbrev pub Differ : List ℕ → List ℕ → ℕ → Type 0
Differ x y i = get_or x i 0 ≡ get_or y i 0 → ⊥

other : (a b : ℕ) → a < 2 → b < 2 → (a ≡ b → ⊥) → a ≡ 1 - b
other a b h k ne = elim (cases_lt a 1) [
  | inl p ↦ elim (cases_lt b 1) [ inl q ↦ absurd (ne (omega arith)) | inr q ↦ omega arith ]
  | inr p ↦ elim (cases_lt b 1) [ inl q ↦ omega arith | inr q ↦ absurd (ne (omega arith)) ]
]

differ_inside : (x y : List ℕ) (i n : ℕ) → length x ≡ n → length y ≡ n → Differ x y i → i < n
differ_inside x y i n lx ly df = elim (cases_lt i n) [
  | inl lt ↦ lt
  | inr ge ↦ let a : length x ≤ i = omega arith in let b : length y ≤ i = omega arith in
      absurd (df (get_or-eq_default x 0 a ∙ sym (get_or-eq_default y 0 b)))
]

-- two lists of bits that differ at one place at most
pub one_apart : (x y : List ℕ) → length x ≡ length y → Bits x → Bits y → ((i j : ℕ) → i < j → Differ x y i → Differ x y j → ⊥) →
    (x ≡ y) ⊎ ((i : ℕ) × ((i < length y) × (x ≡ turn i y) × Differ x y i))
one_apart [] [] l bx by one = inl refl
one_apart [] (b ∷ y) l bx by one = absurd (omega arith)
one_apart (a ∷ x) [] l bx by one = absurd (omega arith)
one_apart (a ∷ x) (b ∷ y) l (ba, bx) (bb, by) one =
    joined (cases_eq a b) (one_apart x y (omega arith) bx by (λ i j lt p q. one (suc i) (suc j) (omega arith) p q))
  where
    joined : (a ≡ b) ⊎ (a ≡ b → ⊥) → (x ≡ y) ⊎ ((i : ℕ) × ((i < length y) × (x ≡ turn i y) × Differ x y i)) →
        (a ∷ x ≡ b ∷ y) ⊎ ((i : ℕ) × ((i < length (b ∷ y)) × (a ∷ x ≡ turn i (b ∷ y)) × Differ (a ∷ x) (b ∷ y) i))
    joined (inl e) (inl es) = inl (cc)
    joined (inl e) (inr (i, (lt, is, df))) = inr (suc i, (omega arith, cc, df))
    joined (inr ne) (inl es) = let f : a ≡ 1 - b = other a b ba bb ne in inr (0, (omega arith, cc, ne))
    joined (inr ne) (inr (i, (lt, is, df))) = absurd (one 0 (suc i) (omega arith) ne df)

-- a code as it is sent
pub record Sym : Type 0 where
  pub kind : ℕ
  pub byte : ℕ

abbrev pub char : ℕ → Sym → ℕ
char d s = encoded s.kind s.byte d

abbrev pub code_bits : ℕ → List Sym → List ℕ
code_bits d [] = []
code_bits d (s ∷ ss) = bits (char d s) ++ code_bits (after (char d s) d) ss

abbrev pub Placeds : ℕ → List Sym → Type 0
Placeds place [] = Unit {0}
Placeds place (s ∷ ss) = Placed place s.kind s.byte × Placeds (suc place) ss

-- ends of a run: the sender's disparity, the receiver's
abbrev pub d_end : ℕ → List Sym → ℕ
d_end d [] = d
d_end d (s ∷ ss) = d_end (after (char d s) d) ss

abbrev pub e_end : ℕ → List Sym → List ℕ → ℕ
e_end e [] x = e
e_end e (s ∷ ss) x = e_end (after (number (take 10 x)) e) ss (drop 10 x)

-- whether two lists are the same
abbrev pub same? : List ℕ → List ℕ → Bool
same? [] [] = true
same? [] (b ∷ y) = false
same? (a ∷ x) [] = false
same? (a ∷ x) (b ∷ y) = eqb a b && same? x y

abbrev pub cells_of : ℕ → ℕ → ℕ → List Sym → List ℕ → List Cell
cells_of place d e [] x = []
cells_of place d e (s ∷ ss) x =
    record { struck_bit = not (same? (take 10 x) (bits (char d s))); kind = s.kind; byte = s.byte; judged_as = reading place (number (take 10 x)) e }
    ∷ cells_of (suc place) (after (char d s) d) (after (number (take 10 x)) e) ss (drop 10 x)

pub same_true : (x y : List ℕ) → same? x y ≡ true → x ≡ y
same_true [] [] e = refl
same_true [] (b ∷ y) e = absurd (clash e)
same_true (a ∷ x) [] e = absurd (clash e)
same_true (a ∷ x) (b ∷ y) e = let p = and_parts _ _ e in let q = eqb-true a b p.0 in let r = same_true x y p.1 in cc

same_refl : (x : List ℕ) → same? x x ≡ true
same_refl [] = refl
same_refl (a ∷ x) = and_from _ _ (eq-eqb a a refl) (same_refl x)

pub same_of : (x y : List ℕ) → x ≡ y → same? x y ≡ true
same_of x y e = rw e (same_refl y)

turned_apart : (x y : List ℕ) (i : ℕ) → i < length y → Bits y → x ≡ turn i y → x ≡ y → ⊥
turned_apart x y i h b e f =
    let g : get_or (turn i y) i 0 ≡ get_or y i 0 = ap (λ z. get_or z i 0) (sym e ∙ f) in
    let s = get_or-set_same y i (1 - get_or y i 0) 0 h in
    omega (arith, g, s)

pub BitsTake : (n : ℕ) (x : List ℕ) → Bits x → Bits (take n x)
BitsTake zero x b = tt
BitsTake (suc n) [] b = tt
BitsTake (suc n) (a ∷ x) (b, bs) = (b, BitsTake n x bs)

status_after : {t : Bool} {d e kind byte d' e' : ℕ} {p p' : Bool} {v : Reading} → Step t d e p kind byte v d' e' p' → Status d' e' p'
status_after (kept t r reads e) = inl e
status_after (blind t w li v e p) = inr (e, p)
status_after (caught t w un v e) = inl e
status_after (struck t r v (inl e) p) = inl e
status_after (struck t r v (inr (e, q)) p) = inr (e, p)
status_after (slipped t r v e p) = inr (e, p)

-- turned bits by position, and telling characters by index
module _ (T : ℕ → Type 0) (U : ℕ → Type 0)
    (between : (p q : ℕ) → T p → T q → p < q → (c : ℕ) × ((p < 10 * c) × (10 * c + 10 ≤ q) × U c)) where
  -- a turned bit pends if no telling character came after it
  abbrev pub Pends : ℕ → Bool → Type 0
  Pends base p = p ≡ true → (q : ℕ) × (T q × (q < base) × ((c : ℕ) → q < 10 * c → 10 * c + 10 ≤ base → U c → ⊥))

  -- a character's event, from its ten bits
  event : (c d kind byte : ℕ) (x : List ℕ) → ValidCode kind byte → d < 2 → length x ≡ 10 → Bits x →
      ((i : ℕ) → i < 10 → Differ x (bits (encoded kind byte d)) i → T (10 * c + i)) →
      (x ≡ bits (encoded kind byte d)) ⊎ ((i : ℕ) × ((i < 10) × (x ≡ turn i (bits (encoded kind byte d))) × T (10 * c + i)))
  event c d kind byte x v h lx bx turns =
      let y = bits (encoded kind byte d) in
      let ly = length_bits (encoded kind byte d) in
      elim (one_apart x y (lx ∙ sym ly) bx (BitsBits _) (λ i j lt p q.
      let b = differ_inside x y j 10 lx ly q in
      let r = between (10 * c + i) (10 * c + j) (turns i (omega arith) p) (turns j b q) (omega arith) in
      omega (arith, r.1.0, r.1.1))) [
        | inl e ↦ inl e
        | inr r ↦ inr (r.0, (omega (arith, r.1.0, ly), r.1.1, turns r.0 (omega (arith, r.1.0, ly)) r.1.2))
      ]

  pub record After (base d e : ℕ) (p : Bool) (cells : List Cell) (d'' e'' : ℕ) : Type 0 where
    pub p'' : Bool
    pub steps : Steps d e p d'' e'' p'' cells
    pub status : Status d'' e'' p''
    pub pends : Pends base p''

  module _ (c d : ℕ) (s : Sym) (x : List ℕ) where
    abbrev y : List ℕ
    y = bits (char d s)

    -- one character of the run
    pub record One (place e : ℕ) (p : Bool) : Type 0 where
      pub p' : Bool
      pub does : Step (not (same? (take 10 x) y)) d e p s.kind s.byte (reading place (number (take 10 x)) e) (after (char d s) d) (after (number (take 10 x)) e) p'
      pub pends : Pends (10 * (c + 1)) p'

    pub one : (place e : ℕ) (p : Bool) → Placed place s.kind s.byte → d < 2 → 10 ≤ length x → Bits x →
        ((i : ℕ) → i < 10 → Differ (take 10 x) y i → T (10 * c + i)) →
        (U c → unlike s.kind s.byte ≡ true) → Status d e p → Pends (10 * c) p → One place e p
    one place e p v h long bx turns tells status pends =
        let l : length (take 10 x) ≡ 10 = length-take 10 x ∙ (let z : min 10 (length x) ≡ 10 = omega arith in z) in
        by_event (event c d s.kind s.byte (take 10 x) v.0 h l (BitsTake 10 x bx) turns)
      where
        by_event : (take 10 x ≡ y) ⊎ ((i : ℕ) × ((i < 10) × (take 10 x ≡ turn i y) × T (10 * c + i))) → One place e p
        by_event (inl is) =
            let n-is : number (take 10 x) ≡ char d s = ap number is ∙ number-bits (char d s) (characters_fit s.kind s.byte d v.0 h) in
            let st = step place s.kind s.byte d e (number (take 10 x)) p v h status (clean n-is) tt in
            let t : false ≡ not (same? (take 10 x) y) = sym (ap not (same_of (take 10 x) y is)) in
            record {
              p' = cond (unlike s.kind s.byte) false p;
              does = subst (λ b. Step b d e p s.kind s.byte (reading place (number (take 10 x)) e) (after (char d s) d) (after (number (take 10 x)) e) (cond (unlike s.kind s.byte) false p)) t st;
              pends = λ pend. elim (cases_Bool (unlike s.kind s.byte)) [
                | inl un ↦ absurd (clash (subst (λ b. cond b false p ≡ true) un pend))
                | inr li ↦
                    let q = pends (subst (λ b. cond b false p ≡ true) li pend) in (
                      q.0,
                      (
                        q.1.0,
                        omega (arith, q.1.1),
                        λ c' a b u. elim (cases_lt c' c) [
                          | inl lt ↦ q.1.2 c' a (omega arith) u
                          | inr ge ↦ let z : c' ≡ c = omega arith in both_ways (unlike s.kind s.byte) li (tells (subst U z u))
                        ],
                      ),
                    )
              ];
            }
        by_event (inr (i, (lt, is, at))) =
            let ly = length_bits (char d s) in
            let free : p ≡ false = elim (cases_Bool p) [
              | inl pt ↦ let q = pends pt in let r = between q.0 (10 * c + i) q.1.0 at (omega (arith, q.1.1)) in
                  absurd (q.1.2 r.0 r.1.0 (omega (arith, r.1.1)) r.1.2)
              | inr pf ↦ pf
            ] in
            let st = step place s.kind s.byte d e (number (take 10 x)) p v h status (turned i lt (ap number is)) free in
            let t : true ≡ not (same? (take 10 x) y) = elim (cases_Bool (same? (take 10 x) y)) [
              | inl alike ↦ absurd (turned_apart (take 10 x) y i (omega (arith, ly)) (BitsBits (char d s)) is (same_true (take 10 x) y alike))
              | inr unalike ↦ sym (ap not unalike)
            ] in
            record {
              p' = true;
              does = subst (λ b. Step b d e p s.kind s.byte (reading place (number (take 10 x)) e) (after (char d s) d) (after (number (take 10 x)) e) true) t st;
              pends = λ _. (10 * c + i, (at, omega arith, λ c' a b u. omega arith));
            }

  -- a run of characters
  pub steps_from : (ss : List Sym) (place c d e : ℕ) (p : Bool) (x : List ℕ) → Placeds place ss → d < 2 → 10 * length ss ≤ length x → Bits x →
      ((i : ℕ) → i < 10 * length ss → Differ x (code_bits d ss) i → T (10 * c + i)) →
      ((j : ℕ) (s : Sym) → Nth ss j s → U (c + j) → unlike s.kind s.byte ≡ true) →
      Status d e p → Pends (10 * c) p → After (10 * (c + length ss)) d e p (cells_of place d e ss x) (d_end d ss) (e_end e ss x)
  steps_from [] place c d e p x v h long bx turns tells status pends =
      record { p'' = p; steps = done; status = status; pends = subst (λ n. Pends n p) (let z : 10 * c ≡ 10 * (c + 0) = omega arith in z) pends }
  steps_from (s ∷ ss) place c d e p x (v, vs) h long bx turns tells status pends =
      let y = bits (char d s) in
      let ly = length_bits (char d s) in
      let d' = after (char d s) d in
      let h' : d' < 2 = disparity_fits (char d s) d h in
      let first = one c d s x place e p v h (omega arith) bx
      (λ i lt df. turns i (omega arith) (λ same. df (get_or-take 10 x i 0 lt ∙ same ∙ get_or-append y (code_bits d' ss) 0 i (omega (arith, ly)))))
      (λ u. tells 0 s here (subst U (let z : c ≡ c + 0 = omega arith in z) u)) status pends in
      let rest = steps_from ss (suc place) (c + 1) d' (after (number (take 10 x)) e) first.p' (drop 10 x) vs h' (omega (arith, length-drop 10 x)) (BitsDrop 10 x bx)
      (λ i lt df. subst T (let z : 10 * c + (10 + i) ≡ 10 * (c + 1) + i = omega arith in z)
      (turns (10 + i) (omega arith) (λ same. df (get_or-drop 10 x i 0 ∙ same ∙ get_d_past y (code_bits d' ss) i 10 ly))))
      (λ j t nth u. tells (suc j) t (there nth) (subst U (let z : c + 1 + j ≡ c + suc j = omega arith in z) u))
      (status_after first.does) first.pends in
      record {
        p'' = rest.p'';
        steps = more h h' first.does rest.steps;
        status = rest.status;
        pends = subst (λ n. Pends n rest.p'') (let z : 10 * (c + 1 + length ss) ≡ 10 * (c + suc (length ss)) = omega arith in z) rest.pends;
      }
