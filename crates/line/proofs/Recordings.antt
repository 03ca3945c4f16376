-- The laws of records: where their bytes and bits stand, and how the bits that are left go down.
use Rattle.std.proofs.Common.{◌≡◌, ℕ, zero, suc, ◌+◌, ◌-◌, ◌*◌, ◌/◌, ◌%◌, ◌^◌, ◌<◌, ◌≤◌, min, List, [], ◌∷◌, ◌++◌, length, get_or, take, drop, sym, refl, ap, ◌∙◌, ⊎_elim, ◌==◌, arith}
use Rattle.std.proofs.lemmas.List.{length-take, length-drop, length-append, get_or_past, get_or_default, get_or-take, get_or-drop, drop-drop, drop_all, drop_more, at_drop_more, at_drop_all}
use Rattle.std.specs.Simd.{first_chunks}
use Rattle.std.specs.List.{sum_by}
use Rattle.std.proofs.lemmas.List.Concat.{length-flat_map}
use Rattle.std.proofs.lemmas.List.Sums.{sum_by-le}
use Rattle.std.proofs.lemmas.Bool.{cases_lt, eq-eqb, ne_eqb, cond-true, cond-false}
use Rattle.line.specs.Recordings.{gone_from}
use Rattle.line.specs.declared.recording.Place.{Place}
use Rattle.line.specs.Records.{records, bit_places, held_bits, all_bits, bits_left}
use Rattle.line.proofs.BitLists.{length_joined, getd_joined}

length_first_records : (n : ℕ) (bytes : List ℕ) → length (first_chunks 16 n bytes) ≡ n
length_first_records zero bytes = refl
length_first_records (suc n) bytes = ap suc (length_first_records n (drop 16 bytes))

getd_first_records : (n i : ℕ) (bytes : List ℕ) → i < n → get_or (first_chunks 16 n bytes) i [] ≡ take 16 (drop (16 * i) bytes)
getd_first_records zero i bytes h = absurd (omega arith)
getd_first_records (suc n) zero bytes h = refl
getd_first_records (suc n) (suc i) bytes h =
    let place : 16 + 16 * i ≡ 16 * suc i = omega arith in
    getd_first_records n i (drop 16 bytes) (omega arith)
    ∙ (ap (take 16) (drop-drop (16 * i) 16 bytes)
    ∙ ap (λ k. take 16 (drop k bytes)) place)

pub length_records : (bytes : List ℕ) → length (records bytes) ≡ min (length bytes / 16) 4096
length_records bytes = length_first_records (min (length bytes / 16) 4096) bytes

module _ (bytes : List ℕ) (i : ℕ) (h : i < length (records bytes)) where
  -- A record is the 16 bytes from its place on.
  pub record_bytes : (n : ℕ) → n ≡ 16 → take n (drop (16 * i) bytes) ≡ get_or (records bytes) i []
  record_bytes n e =
      ap (λ k. take k (drop (16 * i) bytes)) e
      ∙ sym (getd_first_records (min (length bytes / 16) 4096) i bytes (omega (arith, length_records bytes)))

  pub length_record : length (get_or (records bytes) i []) ≡ 16
  length_record =
      ap length (sym (record_bytes 16 refl))
      ∙ (length-take 16 (drop (16 * i) bytes) ∙ omega (arith, length-drop (16 * i) bytes, length_records bytes))

module _ (block : List ℕ) (whole : length block ≡ 16) where
  pub length_places : length (bit_places block) ≡ 120
  length_places = omega (arith, length_joined 8 (drop 1 block), length-drop 1 block)

  -- Place p lies in byte p / 8 of those after the count.
  pub place_bit : (p : ℕ) → p < 120 → get_or (bit_places block) p 0 ≡ get_or block (1 + p / 8) 0 / 2 ^ (7 - p % 8) % 2
  place_bit p h =
      let split : p ≡ 8 * (p / 8) + p % 8 = omega arith in
      ap (λ i. get_or (bit_places block) i 0) split
      ∙ (getd_joined 8 (drop 1 block) (p / 8) (p % 8) 0 (omega (arith, length-drop 1 block)) (omega arith)
      ∙ ap (λ b. b / 2 ^ (7 - p % 8) % 2) (get_or-drop 1 block (p / 8) 0))

  pub length_held : length (held_bits block) ≡ min (get_or block 0 0) 120
  length_held = length-take (get_or block 0 0) (bit_places block) ∙ omega (arith, length_places)

-- The bits that a record holds stand at its first places.
held_bit : (block : List ℕ) (p : ℕ) → p < length (held_bits block) → get_or (held_bits block) p 0 ≡ get_or (bit_places block) p 0
held_bit block p h =
    get_or-take (get_or block 0 0) (bit_places block) p 0 (omega (arith, length-take (get_or block 0 0) (bit_places block)))

-- Where no bit is gone, all are left.
left_whole : (blocks : List (List ℕ)) → bits_left blocks 0 ≡ all_bits blocks
left_whole [] = refl
left_whole (block ∷ blocks) = refl

-- Past the last record nothing is left.
pub left_none : (blocks : List (List ℕ)) (i gone : ℕ) → length blocks ≤ i → bits_left (drop i blocks) gone ≡ []
left_none blocks i gone h = at_drop_all (λ rest. bits_left rest gone) blocks i h

-- From a record on.
module _ (blocks : List (List ℕ)) (i : ℕ) (block : List ℕ) (here : i < length blocks) (own : block ≡ get_or blocks i []) where
  -- What is left of the record stands before the bits of the records after it.
  left_here : (gone : ℕ) → bits_left (drop i blocks) gone ≡ drop gone (held_bits block) ++ all_bits (drop (i + 1) blocks)
  left_here gone =
      at_drop_more (λ rest. bits_left rest gone) blocks i [] here
      ∙ ap (λ b. drop gone (held_bits b) ++ all_bits (drop (i + 1) blocks)) (sym own)

  -- Where the record is spent, what is left begins with the next.
  pub left_next : (gone : ℕ) → length (held_bits block) ≤ gone → bits_left (drop i blocks) gone ≡ bits_left (drop (i + 1) blocks) 0
  left_next gone spent =
      left_here gone
      ∙ (ap (λ bits. bits ++ all_bits (drop (i + 1) blocks)) (drop_all gone (held_bits block) spent)
      ∙ sym (left_whole (drop (i + 1) blocks)))

  -- Where it is not, the bit at the place after those gone comes first.
  pub left_bit : (gone bit : ℕ) → gone < length (held_bits block) → bit ≡ get_or (bit_places block) gone 0
      → bits_left (drop i blocks) gone ≡ bit ∷ bits_left (drop i blocks) (gone + 1)
  left_bit gone bit more e =
      left_here gone
      ∙ (ap (λ bits. bits ++ all_bits (drop (i + 1) blocks)) (drop_more (held_bits block) gone 0 more)
      ∙ (ap (λ b. b ∷ drop (gone + 1) (held_bits block) ++ all_bits (drop (i + 1) blocks)) (held_bit block gone more ∙ sym e)
      ∙ ap (λ bits. bit ∷ bits) (sym (left_here (gone + 1)))))

  -- What is left of the record counts beside the bits of the records after it.
  pub length_left : (gone : ℕ) → length (bits_left (drop i blocks) gone) ≡ length (held_bits block) - gone + length (bits_left (drop (i + 1) blocks) 0)
  length_left gone =
      ap length (left_here gone)
      ∙ (length-append (drop gone (held_bits block)) (all_bits (drop (i + 1) blocks))
      ∙ omega (arith, length-drop gone (held_bits block), ap length (left_whole (drop (i + 1) blocks))))

-- The first of more chunks are the chunks.
pub take_chunks : (k n : ℕ) (bytes : List ℕ) → k ≤ n → take k (first_chunks 16 n bytes) ≡ first_chunks 16 k bytes
take_chunks zero n bytes h = refl
take_chunks (suc k) zero bytes h = absurd (omega arith)
take_chunks (suc k) (suc n) bytes h = ap (λ rest. take 16 bytes ∷ rest) (take_chunks k n (drop 16 bytes) (omega arith))

-- A record holds at most 120 bits.
pub few_held : (bytes : List ℕ) (i : ℕ) → i < length (records bytes) → length (held_bits (get_or (records bytes) i [])) ≤ 120
few_held bytes i h = omega (arith, length_held (get_or (records bytes) i []) (length_record bytes i h))

-- Records from a place on whose bits are all gone are passed over.
pub passed : (blocks : List (List ℕ)) (place : Place) (n : ℕ) → place.index + n ≤ length blocks
    → ((k : ℕ) → place.index ≤ k → k < place.index + n → length (held_bits (get_or blocks k [])) ≤ gone_from place k)
    → bits_left (drop (place.index + n) blocks) (gone_from place (place.index + n)) ≡ bits_left (drop place.index blocks) place.gone
passed blocks place zero h spent =
    let here : place.index + 0 ≡ place.index = omega arith in
    ap (λ i. bits_left (drop i blocks) (gone_from place i)) here
    ∙ ap (bits_left (drop place.index blocks)) (cond-true (place.index == place.index) place.gone 0 (eq-eqb place.index place.index refl))
passed blocks place (suc n) h spent =
    let i = place.index + n in
    let next : place.index + suc n ≡ i + 1 = omega arith in
    let later = cond-false (i + 1 == place.index) place.gone 0 (ne_eqb (i + 1) place.index (λ e. omega arith)) in
    ap (λ j. bits_left (drop j blocks) (gone_from place j)) next
    ∙ (ap (bits_left (drop (i + 1) blocks)) later
    ∙ (sym (left_next blocks i (get_or blocks i []) (omega arith) refl (gone_from place i) (spent i (omega arith) (omega arith)))
    ∙ passed blocks place n (omega arith) (λ k low high. spent k low (omega arith))))

-- Where all records from a place on are passed over, nothing is left.
pub passed_all : (blocks : List (List ℕ)) (place : Place)
    → ((k : ℕ) → place.index ≤ k → k < length blocks → length (held_bits (get_or blocks k [])) ≤ gone_from place k)
    → bits_left (drop place.index blocks) place.gone ≡ []
passed_all blocks place spent =
    ⊎_elim
    (λ (low : place.index < length blocks).
    let end : place.index + (length blocks - place.index) ≡ length blocks = omega arith in
    sym (passed blocks place (length blocks - place.index) (omega arith) (λ k a b. spent k a (omega arith)))
    ∙ left_none blocks (place.index + (length blocks - place.index)) (gone_from place (place.index + (length blocks - place.index))) (omega arith))
    (λ high. left_none blocks place.index place.gone high)
    (cases_lt place.index (length blocks))

-- The bits of the records from one on, less those gone from it, are left.
pub counted : (blocks : List (List ℕ)) (i gone : ℕ) → gone ≤ length (held_bits (get_or blocks i []))
    → (length (bits_left (drop i blocks) gone) ≡ sum_by (λ block. length (held_bits block)) (drop i blocks) - gone)
    × (gone ≤ sum_by (λ block. length (held_bits block)) (drop i blocks))
counted blocks i gone within =
    let all : length (all_bits (drop i blocks)) ≡ sum_by (λ block. length (held_bits block)) (drop i blocks) = length-flat_map held_bits (drop i blocks) in
    ⊎_elim
    (λ (low : i < length blocks).
    let whole = ap length (left_whole (drop i blocks)) in
    let none = length_left blocks i (get_or blocks i []) low refl 0 in
    let some = length_left blocks i (get_or blocks i []) low refl gone in
    (omega arith, omega arith))
    (λ (high : length blocks ≤ i).
    let past : get_or blocks i [] ≡ [] = get_or_past blocks i [] high in
    let zero_gone : gone ≡ 0 = omega (arith, ap (λ block. length (held_bits block)) past) in
    let nothing = ap length (left_none blocks i gone high) in
    let whole = ap length (sym (left_whole (drop i blocks)) ∙ left_none blocks i 0 high) in
    (omega arith, omega arith))
    (cases_lt i (length blocks))

-- All records of a recording hold few enough bits to count.
pub held_fits : (bytes : List ℕ) (i : ℕ) → sum_by (λ block. length (held_bits block)) (drop i (records bytes)) < 2 ^ 64
held_fits bytes i =
    let blocks = records bytes in
    let most =
    sum_by-le (λ block. length (held_bits block)) 120 (drop i blocks)
    (λ k d h.
    let inside : i + k < length blocks = omega (arith, length-drop i blocks) in
    let same = get_or-drop i blocks k d ∙ get_or_default blocks (i + k) d [] inside in
    omega (arith, ap (λ block. length (held_bits block)) same, few_held bytes (i + k) inside)) in
    omega (arith, most, length-drop i blocks, length_records bytes)
