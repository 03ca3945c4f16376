-- Characters heard in sync, at the sender's disparity or at the other.
use Rattle.std.proofs.Common.{◌≡◌, ℕ, zero, suc, ◌-◌, ◌<◌, Bool, true, false, cond, ◌&&◌, eqb, ltb, ◌⊎◌, List, [], ◌∷◌, Some, None, Option, sym, refl, ap, ◌∙◌, inl, inr, arith}
use Rattle.std.specs.Option.{option_or}
use Rattle.std.proofs.lemmas.Bool.{cases_lt, cases_Bool, both_ways, lt-ltb}
use Rattle.transcript.proofs.CodeFacts.{ValidCode, like_keeps, like_same, turned_leaves, unlike-refused, unlike_sets}
use Rattle.code.specs.Characters.{encoded, decoded, after, unlike}
use Rattle.transcript.proofs.Bits.{bits, number, turn}
use Rattle.link.specs.declared.reading.Reading.{Reading}
use Rattle.link.specs.declared.reading.Reading.TheVariants.{Refused, Like, Unlike}
use Rattle.link.specs.Readings.{reading, read_as, is_refused, own_verdict}
use Rattle.link.specs.declared.reading.Verdict.{Verdict}
use Rattle.link.specs.declared.reading.Verdict.TheVariants.{Vouches}
use Rattle.transcript.proofs.CleanDwords.{Reads, reads_column, column}
use Rattle.code.specs.declared.character.Code.{Code}
use Rattle.code.specs.Kinds.{kind_number, code_with}
use Rattle.code.proofs.Codes.{unlike_with}
use Rattle.code.proofs.Laws.{decoding_undoes_encoding, disparity_fits}

-- a character of a code: as it was put, or with one bit turned
pub data Event (d kind byte n : ℕ) : Type 0 where
  clean : n ≡ encoded kind byte d → Event d kind byte n
  turned : (i : ℕ) → i < 10 → n ≡ number (turn i (bits (encoded kind byte d))) → Event d kind byte n

abbrev pub is_turned : {d kind byte n : ℕ} → Event d kind byte n → Bool
is_turned (clean e) = false
is_turned (turned i h e) = true

-- spaced: none is turned while an earlier one is pending
abbrev pub Allowed : {d kind byte n : ℕ} → Bool → Event d kind byte n → Type 0
Allowed p (clean e) = Unit {0}
Allowed p (turned i h e) = p ≡ false

-- pending: a bit was turned after the last clean character with unlike columns
abbrev pub pending_after : {d n : ℕ} (kind byte : ℕ) → Bool → Event d kind byte n → Bool
pending_after kind byte p (clean e) = cond (unlike kind byte) false p
pending_after kind byte p (turned i h e) = true

-- the receiver's disparity is the sender's, or the other while a turned bit is pending
abbrev pub Status : ℕ → ℕ → Bool → Type 0
Status d e p = (e ≡ d) ⊎ ((e ≡ 1 - d) × (p ≡ true))

-- what a character does
pub data Step (t : Bool) (d e : ℕ) (p : Bool) (kind byte : ℕ) (v : Reading) (d' e' : ℕ) (p' : Bool) : Type 0 where
  kept : t ≡ false → e ≡ d → Reads v kind byte → e' ≡ d' → Step t d e p kind byte v d' e' p'
  blind : t ≡ false → e ≡ 1 - d → unlike kind byte ≡ false → v ≡ Like (code_with kind byte) → e' ≡ 1 - d' → p' ≡ true → Step t d e p kind byte v d' e' p'
  caught : t ≡ false → e ≡ 1 - d → unlike kind byte ≡ true → v ≡ Refused → e' ≡ d' → Step t d e p kind byte v d' e' p'
  struck : t ≡ true → e ≡ d → v ≡ Refused → Status d' e' true → p' ≡ true → Step t d e p kind byte v d' e' p'
  slipped : t ≡ true → e ≡ d → is_refused v ≡ false → e' ≡ 1 - d' → p' ≡ true → Step t d e p kind byte v d' e' p'

-- a code that may stand at a place
abbrev pub Placed : ℕ → ℕ → ℕ → Type 0
Placed place kind byte = ValidCode kind byte × ((place ≡ 0) ⊎ (kind ≡ 0))

two : (x y : ℕ) → x < 2 → y < 2 → (x ≡ y) ⊎ (x ≡ 1 - y)
two x y h k = elim (cases_lt x 1) [
  | inl a ↦ elim (cases_lt y 1) [ inl b ↦ inl (omega arith) | inr b ↦ inr (omega arith) ]
  | inr a ↦ elim (cases_lt y 1) [ inl b ↦ inr (omega arith) | inr b ↦ inl (omega arith) ]
]

later : (place kind byte : ℕ) → kind ≡ 0 → read_as (suc place) (Some (code_with kind byte)) ≡ column kind byte
later place kind byte z = rw (z, lt-ltb 0 (suc place) (omega arith)) refl

good_column : (c : Code) (u : Bool) → is_refused (cond u (Unlike c) (Like c)) ≡ false
good_column c true = refl
good_column c false = refl

-- a character in its own column, at a place where its code may stand
read_placed : (place kind byte d : ℕ) → Placed place kind byte → d < 2 → reading place (encoded kind byte d) d ≡ column kind byte
read_placed place kind byte d (v, inl z) h = rw (decoding_undoes_encoding kind byte d v h, z, unlike_with kind byte) refl
read_placed zero kind byte d (v, inr z) h = rw (decoding_undoes_encoding kind byte d v h, unlike_with kind byte) refl
read_placed (suc place) kind byte d (v, inr z) h = ap (read_as (suc place)) (decoding_undoes_encoding kind byte d v h) ∙ later place kind byte z

module _ (place kind byte d n : ℕ) (v : Placed place kind byte) (h : d < 2) where
  abbrev d'' : ℕ
  d'' = after (encoded kind byte d) d

  strike : (i : ℕ) (p : Bool) → i < 10 → n ≡ number (turn i (bits (encoded kind byte d))) → (r : Option Code) → decoded n d ≡ r →
      Step true d d p kind byte (read_as place r) d'' (after n d) true
  strike i p lt is None as_none = struck refl refl refl (either (two (after n d) d'' (disparity_fits n d h) (disparity_fits _ d h))) refl
    where
      either : (after n d ≡ d'') ⊎ (after n d ≡ 1 - d'') → Status d'' (after n d) true
      either (inl a) = inl a
      either (inr a) = inr (a, refl)
  strike i p lt is (Some c) as_code = elim (cases_Bool (ltb 0 place && eqb (kind_number c.kind) 1)) [
    | inl out ↦ struck refl refl (rw out refl) (either (two (after n d) d'' (disparity_fits n d h) (disparity_fits _ d h))) refl
    | inr in_place ↦ slipped refl refl (rw in_place (good_column c (unlike (kind_number c.kind) c.byte)))
        (ap (λ x. after x d) is ∙ turned_leaves kind byte d i c v.0 h lt (ap (λ x. decoded x d) (sym is) ∙ as_code)) refl
  ]
    where
      either : (after n d ≡ d'') ⊎ (after n d ≡ 1 - d'') → Status d'' (after n d) true
      either (inl a) = inl a
      either (inr a) = inr (a, refl)

pub step : (place kind byte d e n : ℕ) (p : Bool) → Placed place kind byte → d < 2 → Status d e p → (ev : Event d kind byte n) → Allowed p ev →
    Step (is_turned ev) d e p kind byte (reading place n e) (after (encoded kind byte d) d) (after n e) (pending_after kind byte p ev)
step place kind byte d e n p v h (inl right) (clean is) a =
    kept refl right (rw (is, right, read_placed place kind byte d v h) (reads_column kind byte (unlike kind byte) v.0)) (rw (is, right) refl)
step place kind byte d e n p v h (inl right) (turned i lt is) a = rw right (strike place kind byte d n v h i p lt is (decoded n d) refl)
step place kind byte d e n p v h (inr (wrong, pends)) (clean is) a = elim (cases_Bool (unlike kind byte)) [
  | inl un ↦ caught refl wrong un (rw (is, wrong, unlike-refused kind byte d v.0 un h) refl) (rw (is, wrong) (unlike_sets kind byte d v.0 un h))
  | inr li ↦
      let h' : e < 2 = omega arith in
      let same = like_same kind byte d e v.0 li h h' in
      blind refl wrong li (ap (λ x. reading place x e) (is ∙ same) ∙ read_placed place kind byte e v h' ∙ rw li refl)
      (ap (λ x. after x e) is ∙ like_keeps kind byte d e v.0 li h h' ∙ wrong ∙ ap (λ x. 1 - x) (sym (like_keeps kind byte d d v.0 li h h)))
      (rw li pends)
]
step place kind byte d e n p v h (inr (wrong, pends)) (turned i lt is) a = absurd (both_ways p a pends)

-- a character in a run of them: whether a bit of it was turned, the code sent, and how it was judged
pub record Cell : Type 0 where
  pub struck_bit : Bool
  pub kind : ℕ
  pub byte : ℕ
  pub judged_as : Reading

-- a run of characters
pub data Steps : (d e : ℕ) (p : Bool) (d'' e'' : ℕ) (p'' : Bool) → List Cell → Type 0 where
  done : {d e : ℕ} {p : Bool} → Steps d e p d e p []
  more : {t : Bool} {d e kind byte d' e' d'' e'' : ℕ} {p p' p'' : Bool} {v : Reading} {cells : List Cell} → d < 2 → d' < 2 → Step t d e p kind byte v d' e' p' →
      Steps d' e' p' d'' e'' p'' cells → Steps d e p d'' e'' p'' (record { struck_bit = t; kind = kind; byte = byte; judged_as = v } ∷ cells)

abbrev pub verdict_of : List Cell → Option Verdict
verdict_of [] = None
verdict_of (c ∷ cs) = option_or (own_verdict c.judged_as) (verdict_of cs)

abbrev pub Goods : List Cell → Type 0
Goods [] = Unit {0}
Goods (c ∷ cs) = (is_refused c.judged_as ≡ false) × Goods cs

abbrev pub AllRead : List Cell → Type 0
AllRead [] = Unit {0}
AllRead (c ∷ cs) = Reads c.judged_as c.kind c.byte × AllRead cs

apart : (d e : ℕ) → d < 2 → e ≡ d → e ≡ 1 - d → ⊥
apart d e h a b = omega arith

-- at the other disparity no character vouches before one is refused
pub none_vouches : {d e d'' e'' : ℕ} {p p'' : Bool} {cells : List Cell} → Steps d e p d'' e'' p'' cells → e ≡ 1 - d → verdict_of cells ≡ Some Vouches → ⊥
none_vouches done wrong says = cc
none_vouches (more h h' (kept t right reads e) rest) wrong says = apart _ _ h right wrong
none_vouches (more h h' (blind t w li v e p) rest) wrong says = none_vouches rest e (rw v at says)
none_vouches (more h h' (caught t w un v e) rest) wrong says = let s = rw v at says in cc
none_vouches (more h h' (struck t right v s p) rest) wrong says = apart _ _ h right wrong
none_vouches (more h h' (slipped t right v e p) rest) wrong says = apart _ _ h right wrong

-- a run with none refused that ends at the sender's disparity began there, and each character is read as it was sent
pub good_run : {d e d'' e'' : ℕ} {p p'' : Bool} {cells : List Cell} → Steps d e p d'' e'' p'' cells → d'' < 2 → Goods cells → e'' ≡ d'' → (e ≡ d) × AllRead cells
good_run done h goods right = (right, tt)
good_run (more h h' (kept t r reads e) rest) k (g, gs) right = (r, (reads, (good_run rest k gs right).1))
good_run (more h h' (blind t w li v e p) rest) k (g, gs) right = absurd (apart _ _ h' (good_run rest k gs right).0 e)
good_run (more h h' (caught t w un v e) rest) k (g, gs) right = absurd (both_ways _ g (ap is_refused v))
good_run (more h h' (struck t r v s p) rest) k (g, gs) right = absurd (both_ways _ g (ap is_refused v))
good_run (more h h' (slipped t r v e p) rest) k (g, gs) right = absurd (apart _ _ h' (good_run rest k gs right).0 e)

-- what stands at a place
pub data Nth {A : Type 0} : List A → ℕ → A → Type 0 where
  here : {x : A} {xs : List A} → Nth (x ∷ xs) 0 x
  there : {x y : A} {xs : List A} {i : ℕ} → Nth xs i x → Nth (y ∷ xs) (suc i) x

-- a clean character with unlike columns
abbrev pub Telling : Cell → Type 0
Telling c = (c.struck_bit ≡ false) × (unlike c.kind c.byte ≡ true)

-- at the other disparity, the first clean character with unlike columns is refused
pub caught_at : {d e d'' e'' : ℕ} {p p'' : Bool} {cells : List Cell} {u : ℕ} {c : Cell} → Steps d e p d'' e'' p'' cells → e ≡ 1 - d → Nth cells u c → Telling c →
    ((v : ℕ) (x : Cell) → v < u → Nth cells v x → Telling x → ⊥) → c.judged_as ≡ Refused
caught_at done wrong n tells first = elim n [ ]
caught_at (more h h' (kept t r reads e) rest) wrong n tells first = absurd (apart _ _ h r wrong)
caught_at (more h h' (struck t r v s p) rest) wrong n tells first = absurd (apart _ _ h r wrong)
caught_at (more h h' (slipped t r v e p) rest) wrong n tells first = absurd (apart _ _ h r wrong)
caught_at (more h h' (caught t w un v e) rest) wrong here tells first = v
caught_at (more h h' (caught t w un v e) rest) wrong (there n) tells first = absurd (first 0 _ (omega arith) here (t, un))
caught_at (more h h' (blind t w li v e p) rest) wrong here (clean-c, un) first = absurd (both_ways _ li un)
caught_at (more h h' (blind t w li v e p) rest) wrong (there n) tells first = caught_at rest e n tells (λ i x lt nx. first (suc i) x (omega arith) (there nx))

own_or_later : {t : Bool} {d e kind byte d' e' d'' e'' : ℕ} {p p' p'' : Bool} {v : Reading} {cells : List Cell} {u : ℕ} {c : Cell} →
    Step t d e p kind byte v d' e' p' → Steps d' e' p' d'' e'' p'' cells → t ≡ true → Nth cells u c → Telling c →
    ((i : ℕ) (x : Cell) → i < u → Nth cells i x → Telling x → ⊥) → (v ≡ Refused) ⊎ (c.judged_as ≡ Refused)
own_or_later (struck t r v s p) rest is n tells first = inl v
own_or_later (slipped t r v e p) rest is n tells first = inr (caught_at rest e n tells first)
own_or_later (kept t r reads e) rest is n tells first = absurd (both_ways _ t is)
own_or_later (blind t w li v e p) rest is n tells first = absurd (both_ways _ t is)
own_or_later (caught t w un v e) rest is n tells first = absurd (both_ways _ t is)

-- a turned bit is refused at its own character or at the first telling one after it
pub refused_at : {d e d'' e'' : ℕ} {p p'' : Bool} {cells : List Cell} {i u : ℕ} {b c : Cell} → Steps d e p d'' e'' p'' cells → Nth cells i b → b.struck_bit ≡ true →
    i < u → Nth cells u c → Telling c → ((v : ℕ) (x : Cell) → i < v → v < u → Nth cells v x → Telling x → ⊥) → (b.judged_as ≡ Refused) ⊎ (c.judged_as ≡ Refused)
refused_at done m is lt n tells first = elim m [ ]
refused_at (more h h' s rest) here is lt here tells first = absurd (omega arith)
refused_at (more h h' s rest) (there m) is lt here tells first = absurd (omega arith)
refused_at (more h h' s rest) here is lt (there n) tells first = own_or_later s rest is n tells (λ i x a nx. first (suc i) x (omega arith) (omega arith) (there nx))
refused_at (more h h' s rest) (there m) is lt (there n) tells first = refused_at rest m is (omega arith) n tells (λ i x a b nx. first (suc i) x (omega arith) (omega arith) (there nx))
