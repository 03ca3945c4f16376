-- The characters of dwords in sync, by dword and place, and the masks reported for them.
use Rattle.std.proofs.Common.{◌≡◌, ℕ, zero, suc, ◌+◌, ◌*◌, ◌/◌, ◌%◌, ◌^◌, ◌<◌, ◌≤◌, min, Bool, true, false, cond, not, eqb, List, [], ◌∷◌, ◌++◌, length, get_or, take, drop, sym, refl, ap, ◌∙◌, subst, inl, inr, arith, length-drop, length-take, get_or-drop, get_or-take}
use lib.ListN.{get_or-append}
use Rattle.std.proofs.lemmas.List.{take_all}
use Rattle.std.proofs.lemmas.Bool.{cases_Bool, cases_eq}
use Rattle.link.specs.declared.dword.Dword.{Dword}
use Rattle.link.specs.declared.state.Ledger.{Ledger}
use Rattle.link.specs.Hearing.{Closing, settlement, handed_out, reported}
use Rattle.link.specs.declared.heard.BadDword.{BadDword}
use Rattle.link.specs.declared.heard.Heard.{Heard}
use Rattle.link.specs.declared.heard.Heard.TheVariants.{Bad}
use Rattle.code.specs.Characters.{after}
use Rattle.transcript.proofs.Bits.{get_d_past, bits, number, length_bits, length_dword}
use Rattle.link.specs.Sending.{stream, dword_bits, disparity_after}
use Rattle.link.specs.declared.reading.Readings.{Readings}
use Rattle.link.specs.declared.reading.Reading.{Reading}
use Rattle.link.specs.declared.reading.Reading.TheVariants.{Refused}
use Rattle.link.specs.Readings.{is_good, mask, verdict}
use Rattle.transcript.specs.Laws.{kind_at, byte_at}
use Rattle.transcript.proofs.HandedOut.{alike_take}
use Rattle.transcript.proofs.Track.{Cell, Nth, here, there}
use Rattle.transcript.proofs.Vouching.{Pair, replies, closes_bad, ending, ends_good, ends_lost, ends_bad}
use Rattle.transcript.proofs.Spacing.{Sym, Differ, char, code_bits, cells_of, same?, same_of, same_true, e_end}
use Rattle.transcript.proofs.Dwords.{syms, drop4, drop4_is, length_drop4, pair, pairs, all_cells, code_dword}
use Rattle.transcript.proofs.DwordAnswers.{nth_cons}
use Rattle.transcript.proofs.Places.{nth_after}

-- a cell says whether its ten bits are as put
pub record Says (c : Cell) (x y : List ℕ) (base : ℕ) : Type 0 where
  pub if_turned : (i : ℕ) → i < 10 → Differ x y (base + i) → c.struck_bit ≡ true
  pub if_clean : ((i : ℕ) → i < 10 → Differ x y (base + i) → ⊥) → c.struck_bit ≡ false

-- the first character
says_first : (kind byte : ℕ) (v : Reading) (x y r : List ℕ) → length y ≡ 10 → 10 ≤ length x → Says (record { struck_bit = not (same? (take 10 x) y); kind = kind; byte = byte; judged_as = v }) x (y ++ r) 0
says_first kind byte v x y r ly long = record {
  if_turned = λ i lt df. elim (cases_Bool (same? (take 10 x) y)) [
    | inl alike ↦ absurd (df (
        ap (λ n. get_or x n 0) (let z : 0 + i ≡ i = omega arith in z) ∙ sym (get_or-take 10 x i 0 lt) ∙ ap (λ b. get_or b i 0) (same_true (take 10 x) y alike)
        ∙ sym (get_or-append y r 0 i (omega arith)) ∙ ap (λ n. get_or (y ++ r) n 0) (let z : i ≡ 0 + i = omega arith in z)))
    | inr unalike ↦ ap not unalike
  ];
  if_clean = λ none.
      let lx : length (take 10 x) ≡ length y = length-take 10 x ∙ (let z : min 10 (length x) ≡ length y = omega arith in z) in
      let e : take 10 (take 10 x) ≡ take 10 y = alike_take 10 (take 10 x) y lx (λ i lt. get_or-take 10 x i 0 lt ∙ elim (cases_eq (get_or x i 0) (get_or y i 0)) [
        | inl e ↦ e
        | inr ne ↦ absurd (none i lt (λ same. ne (ap (λ n. get_or x n 0) (let z : i ≡ 0 + i = omega arith in z) ∙ same ∙ ap (λ n. get_or (y ++ r) n 0) (let z : 0 + i ≡ i = omega arith in z) ∙ get_or-append y r 0 i (omega arith))))
      ]) in
      ap not (same_of (take 10 x) y (sym (take_all 10 (take 10 x) (omega (arith, lx, ly))) ∙ e ∙ take_all 10 y (omega arith)));
}

-- one after n others
says_past : (c : Cell) (x z y r : List ℕ) (base n : ℕ) → z ≡ drop n x → length y ≡ n → Says c z r base → Says c x (y ++ r) (n + base)
says_past c x z y r base n zis ly s = record {
  if_turned = λ i lt df. s.if_turned i lt (λ same. df (at i same));
  if_clean = λ none. s.if_clean (λ i lt df. none i lt (λ same. df (back i same)));
}
  where
    assoc : (i : ℕ) → n + base + i ≡ n + (base + i)
    assoc i = omega arith

    at : (i : ℕ) → get_or z (base + i) 0 ≡ get_or r (base + i) 0 → get_or x (n + base + i) 0 ≡ get_or (y ++ r) (n + base + i) 0
    at i same = ap (λ m. get_or x m 0) (assoc i) ∙ sym (get_or-drop n x (base + i) 0) ∙ ap (λ b. get_or b (base + i) 0) (sym zis) ∙ same ∙ sym (get_d_past y r (base + i) n ly) ∙ ap (λ m. get_or (y ++ r) m 0) (sym (assoc i))

    back : (i : ℕ) → get_or x (n + base + i) 0 ≡ get_or (y ++ r) (n + base + i) 0 → get_or z (base + i) 0 ≡ get_or r (base + i) 0
    back i same = ap (λ b. get_or b (base + i) 0) zis ∙ get_or-drop n x (base + i) 0 ∙ ap (λ m. get_or x m 0) (sym (assoc i)) ∙ same ∙ ap (λ m. get_or (y ++ r) m 0) (assoc i) ∙ get_d_past y r (base + i) n ly

-- the characters of a list of codes
pub says_at : (ss : List Sym) (place d e : ℕ) (x : List ℕ) {r : ℕ} {c : Cell} → 10 * length ss ≤ length x → Nth (cells_of place d e ss x) r c → Says c x (code_bits d ss) (10 * r)
says_at [] place d e x long nth = elim nth [ ]
says_at (s ∷ ss) place d e x long here = says_first s.kind s.byte _ x (bits (char d s)) (code_bits (after (char d s) d) ss) (length_bits (char d s)) (omega arith)
says_at (s ∷ ss) place d e x long (there {x = c} {i = r} nth) =
    subst (Says c x (code_bits d (s ∷ ss))) (let z : 10 + 10 * r ≡ 10 * suc r = omega arith in z)
    (says_past c x (drop 10 x) (bits (char d s)) (code_bits (after (char d s) d) ss) (10 * r) 10 refl (length_bits (char d s))
    (says_at ss (suc place) (after (char d s) d) (after (number (take 10 x)) e) (drop 10 x) (omega (arith, length-drop 10 x)) nth))

says_widen : (c : Cell) (x y r : List ℕ) (base n : ℕ) → length y ≡ n → base + 10 ≤ n → Says c x y base → Says c x (y ++ r) base
says_widen c x y r base n ly fits s = record {
  if_turned = λ i lt df. s.if_turned i lt (λ same. df (same ∙ sym (get_or-append y r 0 (base + i) (omega arith))));
  if_clean = λ none. s.if_clean (λ i lt df. none i lt (λ same. df (same ∙ get_or-append y r 0 (base + i) (omega arith))));
}

abbrev pub reading_at : ℕ → Readings → Reading
reading_at zero j = j.first
reading_at (suc zero) j = j.second
reading_at (suc (suc zero)) j = j.third
reading_at (suc (suc (suc n))) j = j.fourth

-- the character at a place of a dword
pub record CellAt (d e : ℕ) (vs : List Dword) (x : List ℕ) (j r : ℕ) : Type 0 where
  pub cell : Cell
  pub nth : Nth (all_cells d e vs x) (4 * j + r) cell
  pub says : Says cell x (stream d vs) (40 * j + 10 * r)
  pub w : Dword
  pub nth_w : Nth vs j w
  pub kind_is : cell.kind ≡ kind_at r w
  pub byte_is : cell.byte ≡ byte_at r w
  pub in_pair : Pair
  pub nth_pair : Nth (pairs e vs x) j in_pair
  pub judged_is : cell.judged_as ≡ reading_at r in_pair.judged_as

first_says : (d e : ℕ) (w : Dword) (ws : List Dword) (x : List ℕ) (r : ℕ) (c : Cell) → 40 ≤ length x → r < 4 → Nth (cells_of 0 d e (syms w) x) r c → Says c x (stream d (w ∷ ws)) (40 * 0 + 10 * r)
first_says d e w ws x r c long lt nth =
    subst (Says c x (dword_bits d w ++ stream (disparity_after d w) ws)) (let z : 10 * r ≡ 40 * 0 + 10 * r = omega arith in z)
    (says_widen c x (dword_bits d w) (stream (disparity_after d w) ws) (10 * r) 40 (length_dword d w) (omega arith)
    (subst (λ b. Says c x b (10 * r)) (code_dword d w) (says_at (syms w) 0 d e x (omega arith) nth)))

pub cell_at : (vs : List Dword) (d e : ℕ) (x : List ℕ) (j r : ℕ) → j < length vs → r < 4 → 40 * length vs ≤ length x → CellAt d e vs x j r
cell_at [] d e x j r lt lr long = absurd (omega arith)
cell_at (w ∷ ws) d e x zero zero lt lr long =
    record { cell = _; nth = here; says = first_says d e w ws x 0 _ (omega arith) lr here; w = w; nth_w = here; kind_is = refl; byte_is = refl; in_pair = pair e w x; nth_pair = here; judged_is = refl }
cell_at (w ∷ ws) d e x zero (suc zero) lt lr long =
    record { cell = _; nth = there here; says = first_says d e w ws x 1 _ (omega arith) lr (there here); w = w; nth_w = here; kind_is = refl; byte_is = refl; in_pair = pair e w x; nth_pair = here; judged_is = refl }
cell_at (w ∷ ws) d e x zero (suc (suc zero)) lt lr long =
    record { cell = _; nth = there (there here); says = first_says d e w ws x 2 _ (omega arith) lr (there (there here)); w = w; nth_w = here; kind_is = refl; byte_is = refl; in_pair = pair e w x; nth_pair = here; judged_is = refl }
cell_at (w ∷ ws) d e x zero (suc (suc (suc zero))) lt lr long =
    record { cell = _; nth = there (there (there here)); says = first_says d e w ws x 3 _ (omega arith) lr (there (there (there here))); w = w; nth_w = here; kind_is = refl; byte_is = refl; in_pair = pair e w x; nth_pair = here; judged_is = refl }
cell_at (w ∷ ws) d e x zero (suc (suc (suc (suc r)))) lt lr long = absurd (omega arith)
cell_at (w ∷ ws) d e x (suc j) r lt lr long =
    let ih = cell_at ws (disparity_after d w) (e_end e (syms w) x) (drop4 x) j r (omega arith) lr (omega (arith, length_drop4 x)) in
    record {
      cell = ih.cell;
      nth = subst (λ i. Nth (all_cells d e (w ∷ ws) x) i ih.cell) (let z : 4 + (4 * j + r) ≡ 4 * suc j + r = omega arith in z) (nth_after (cells_of 0 d e (syms w) x) ih.nth);
      says = subst (Says ih.cell x (stream d (w ∷ ws))) (let z : 40 + (40 * j + 10 * r) ≡ 40 * suc j + 10 * r = omega arith in z)
          (says_past ih.cell x (drop4 x) (dword_bits d w) (stream (disparity_after d w) ws) (40 * j + 10 * r) 40 (drop4_is x) (length_dword d w) ih.says);
      w = ih.w;
      nth_w = there ih.nth_w;
      kind_is = ih.kind_is;
      byte_is = ih.byte_is;
      in_pair = ih.in_pair;
      nth_pair = there ih.nth_pair;
      judged_is = ih.judged_is;
    }

-- a refused place is in the mask
pub mask_bit : (j : Readings) (r : ℕ) → r < 4 → reading_at r j ≡ Refused → mask j / (2 ^ r) % 2 ≡ 1
mask_bit j zero lt is = grind arith
mask_bit j (suc zero) lt is = grind arith
mask_bit j (suc (suc zero)) lt is = grind arith
mask_bit j (suc (suc (suc zero))) lt is = grind arith
mask_bit j (suc (suc (suc (suc r)))) lt is = absurd (omega arith)

-- and makes the dword bad
pub refused_bad : (j : Readings) (r : ℕ) → reading_at r j ≡ Refused → is_good j ≡ false
refused_bad j zero is = grind arith
refused_bad j (suc zero) is = grind arith
refused_bad j (suc (suc zero)) is = grind arith
refused_bad j (suc (suc (suc r))) is = grind arith

-- a bad dword is reported with its mask
pub record Reported (a : Heard) (m : ℕ) : Type 0 where
  pub report : BadDword
  pub is : a ≡ Bad report
  pub mask_is : report.mask ≡ m

report_of : Readings → Ledger → Bool → BadDword
report_of j l lost = record { settlement = settlement (verdict j) l; number = l.number; mask = mask j; lost = lost }

reported_here : {a : Heard} (y₀ y : Pair) (l : Ledger) (lost : Bool) → y ≡ y₀ → a ≡ (reported y₀.judged_as l lost).heard → Reported a (mask y.judged_as)
unfolding report_of
reported_here y₀ y l lost same is =
    record { report = report_of y₀.judged_as l lost; is = is; mask_is = sym (ap (λ v. mask v.judged_as) same) }

pub reply_bad : (ps : List Pair) (l : Ledger) {j : ℕ} {a : Heard} {y : Pair} → Nth (replies l ps) j a → Nth ps j y → is_good y.judged_as ≡ false
    → Reported a (mask y.judged_as)
reply_bad [] l nth ny refused = elim nth [ ]
reply_bad (y₀ ∷ ps) l {j} {a} {y} nth ny refused =
    let g = y₀.judged_as in
    let on : Closing → Type 0 = λ c. Nth (c.heard ∷ cond c.ledger.synced (replies c.ledger ps) []) j a in
    elim (nth_cons ny) [
      | inl here-y ↦
          let same = here-y.1 in
          let z = here-y.0 in
          let bad₀ : is_good g ≡ false = subst (λ v. is_good v.judged_as ≡ false) same refused in
          elim (nth_cons (subst on (closes_bad g l (eqb l.debt 3) bad₀ refl) nth)) [
            | inl q ↦ reported_here y₀ y l (eqb l.debt 3) same q.1
            | inr q ↦ absurd (omega (arith, q.1.0))
          ]
      | inr later-y ↦
          let n = later-y.0 in
          let z = later-y.1.0 in
          let place : (i : ℕ) → j ≡ suc i → Nth ps i y = λ i e. subst (λ k. Nth ps k y) (let w : n ≡ i = omega arith in w) later-y.1.1 in
          elim (ending g l) [
            | ends_good g' e ↦ elim (nth_cons (subst on e nth)) [
              | inl q ↦ absurd (omega (arith, q.0))
              | inr q ↦ reply_bad ps (handed_out g l).ledger q.1.1 (place q.0 q.1.0) refused
            ]
            | ends_lost e ↦ elim (nth_cons (subst on e nth)) [
              | inl q ↦ absurd (omega (arith, q.0))
              | inr q ↦ elim q.1.1 [ ]
            ]
            | ends_bad e ↦ elim (nth_cons (subst on e nth)) [
              | inl q ↦ absurd (omega (arith, q.0))
              | inr q ↦ reply_bad ps (reported g l false).ledger q.1.1 (place q.0 q.1.0) refused
            ]
          ]
    ]
