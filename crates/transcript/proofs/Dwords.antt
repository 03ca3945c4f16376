-- Dwords heard in sync, from spaced turned bits.
use Rattle.std.proofs.Common.{◌≡◌, ℕ, suc, ◌+◌, ◌-◌, ◌*◌, ◌<◌, ◌≤◌, Bool, true, List, [], ◌∷◌, ◌++◌, length, get_or, take, drop, sym, refl, ap, ◌∙◌, subst, inl, inr, append-nil, arith, length-drop, get_or-drop, drop-drop}
use lib.ListN.{get_or-append}
use Rattle.link.specs.declared.dword.Dword.{Dword}
use Rattle.code.specs.Characters.{unlike}
use Rattle.transcript.proofs.CodeFacts.{valid_data}
use Rattle.transcript.proofs.Bits.{get_d_past, dword_is, bits, number, length_dword}
use Rattle.link.specs.Sending.{ValidDword, dword_bits, stream, disparity_after, c0, c1, c2, c3}
use Rattle.transcript.proofs.Running.{readings_of}
use Rattle.transcript.proofs.Hunting.{Bits}
use Rattle.transcript.proofs.Commas.{BitsDrop}
use Rattle.transcript.specs.Laws.{AllValid}
use Rattle.transcript.proofs.InOrder.{dword_small}
use Rattle.transcript.proofs.Track.{Status, Cell, Steps, done, more, Nth, here, there}
use Rattle.transcript.proofs.Vouching.{Pair, Track, rests, hears}
use Rattle.transcript.proofs.Spacing.{Sym, Differ, Placeds, code_bits, cells_of, e_end, Pends, steps_from}

abbrev pub syms : Dword → List Sym
syms w = record { kind = w.kind; byte = w.b0 } ∷ record { kind = 0; byte = w.b1 } ∷ record { kind = 0; byte = w.b2 } ∷ record { kind = 0; byte = w.b3 } ∷ []

abbrev pub drop4 : List ℕ → List ℕ
drop4 x = drop 10 (drop 10 (drop 10 (drop 10 x)))

pub drop4_is : (x : List ℕ) → drop4 x ≡ drop 40 x
drop4_is x = ap (λ r. drop 10 (drop 10 r)) (drop-drop 10 10 x) ∙ ap (drop 10) (drop-drop 10 20 x) ∙ drop-drop 10 30 x

pub length_drop4 : (x : List ℕ) → length (drop4 x) ≡ length x - 40
length_drop4 x = ap length (drop4_is x) ∙ length-drop 40 x

-- the dwords and how they are judged
abbrev pub pair : ℕ → Dword → List ℕ → Pair
pair e w x = record { sent_as = w; judged_as = readings_of e (number (take 10 x)) (number (take 10 (drop 10 x))) (number (take 10 (drop 10 (drop 10 x)))) (number (take 10 (drop 10 (drop 10 (drop 10 x))))) }

abbrev pub pairs : ℕ → List Dword → List ℕ → List Pair
pairs e [] x = []
pairs e (w ∷ ws) x = pair e w x ∷ pairs (e_end e (syms w) x) ws (drop4 x)

-- their characters
abbrev pub all_cells : ℕ → ℕ → List Dword → List ℕ → List Cell
all_cells d e [] x = []
all_cells d e (w ∷ ws) x = cells_of 0 d e (syms w) x ++ all_cells (disparity_after d w) (e_end e (syms w) x) ws (drop4 x)

StepsAppend : {d e d' e' d'' e'' : ℕ} {p p' p'' : Bool} {cs ds : List Cell} → Steps d e p d' e' p' cs → Steps d' e' p' d'' e'' p'' ds → Steps d e p d'' e'' p'' (cs ++ ds)
StepsAppend done r = r
StepsAppend (more h h' s rest) r = more h h' s (StepsAppend rest r)

pub code_dword : (d : ℕ) (w : Dword) → code_bits d (syms w) ≡ dword_bits d w
code_dword d w = ap (λ r. bits (c0 d w) ++ (bits (c1 d w) ++ (bits (c2 d w) ++ r))) (append-nil (bits (c3 d w))) ∙ sym (dword_is d w)

placed-dword : (w : Dword) → ValidDword w → Placeds 0 (syms w)
placed-dword w v = ((v.first, inl refl), ((valid_data w.b1 v.second, inr refl), ((valid_data w.b2 v.third, inr refl), ((valid_data w.b3 v.fourth, inr refl), tt))))

module _ (T : ℕ → Type 0) (U : ℕ → Type 0)
    (between : (p q : ℕ) → T p → T q → p < q → (c : ℕ) × ((p < 10 * c) × (10 * c + 10 ≤ q) × U c)) where
  pub record Tracked (d e : ℕ) (p : Bool) (ws : List Dword) (x : List ℕ) : Type 0 where
    pub d'' : ℕ
    pub e'' : ℕ
    pub p'' : Bool
    pub track : Track d e p (pairs e ws x)
    pub steps : Steps d e p d'' e'' p'' (all_cells d e ws x)

  pub tracked : (ws : List Dword) (a d e : ℕ) (p : Bool) (x : List ℕ) → AllValid ws → d < 2 → 40 * length ws ≤ length x → Bits x →
      ((i : ℕ) → i < 40 * length ws → Differ x (stream d ws) i → T (40 * a + i)) →
      ((j : ℕ) (w : Dword) (r : ℕ) (s : Sym) → Nth ws j w → Nth (syms w) r s → U (4 * (a + j) + r) → unlike s.kind s.byte ≡ true) →
      Status d e p → Pends T U between (40 * a) p → Tracked d e p ws x
  tracked [] a d e p x v h long bx turns tells status pends = record { d'' = d; e'' = e; p'' = p; track = rests; steps = done }
  tracked (w ∷ ws) a d e p x (v, vs) h long bx turns tells status pends =
      let ld = length_dword d w in
      let one = steps_from T U between (syms w) 0 (4 * a) d e p x (placed-dword w v) h (omega arith) bx
      (λ i lt df. subst T (let z : 40 * a + i ≡ 10 * (4 * a) + i = omega arith in z)
      (turns i (omega arith) (λ same. df (same ∙ get_or-append (dword_bits d w) (stream (disparity_after d w) ws) 0 i (omega (arith, ld)) ∙ ap (λ y. get_or y i 0) (sym (code_dword d w))))))
      (λ j s nth u. tells 0 w j s here nth (subst U (let z : 4 * a + j ≡ 4 * (a + 0) + j = omega arith in z) u))
      status (subst (λ n. Pends T U between n p) (let z : 40 * a ≡ 10 * (4 * a) = omega arith in z) pends) in
      let rest = tracked ws (a + 1) (disparity_after d w) (e_end e (syms w) x) one.p'' (drop4 x) vs (dword_small d w h) (omega (arith, length_drop4 x)) (BitsDrop 10 _ (BitsDrop 10 _ (BitsDrop 10 _ (BitsDrop 10 x bx))))
      (λ i lt df. subst T (let z : 40 * a + (40 + i) ≡ 40 * (a + 1) + i = omega arith in z)
      (turns (40 + i) (omega arith) (λ same. df (ap (λ y. get_or y i 0) (drop4_is x) ∙ get_or-drop 40 x i 0 ∙ same ∙ get_d_past (dword_bits d w) (stream (disparity_after d w) ws) i 40 ld))))
      (λ j w' r s nj nr u. tells (suc j) w' r s (there nj) nr (subst U (let z : 4 * (a + 1 + j) + r ≡ 4 * (a + suc j) + r = omega arith in z) u))
      one.status (subst (λ n. Pends T U between n one.p'') (let z : 10 * (4 * a + 4) ≡ 40 * (a + 1) = omega arith in z) one.pends) in
      record { d'' = rest.d''; e'' = rest.e''; p'' = rest.p''; track = hears _ _ _ _ status (dword_small d w h) one.steps rest.track; steps = StepsAppend one.steps rest.steps }
