-- The laws of a ring of characters, of whose first some bits are gone.
use Rattle.std.proofs.Common.{◌≡◌, ℕ, ◌+◌, ◌-◌, ◌*◌, ◌/◌, ◌%◌, ◌^◌, ◌<◌, ◌≤◌, List, [], ◌∷◌, ◌++◌, length, get_or, drop, set, Some, sym, ap, ◌∙◌, arith}
use lib.Bits.{bit_xor}
use Rattle.std.specs.List.{flat_map}
use Rattle.std.proofs.lemmas.List.{length-drop, drop-append-le, drop_at, drop_more, drop-set-add, get_or-drop, append-nil}
use Rattle.code.specs.Bits.{bits_of, inverted}
use Rattle.line.specs.Rings.{place_of, in_use, Grown, Advanced}
use Rattle.line.specs.declared.ring.Ring.{Ring}
use Rattle.line.proofs.BitLists.{length_bits_of, getd_bits_of, bits_of_xor, length_joined, getd_joined, joined-append, joined-set}
use Rattle.line.proofs.Rings.{none_in_use, place_first, length_in_use, get_in_use, set_in_use, grown_in_use, advanced_in_use}
use Rattle.lines.specs.Words.{character_bits}

pub no_characters : (words : List ℕ) (ring : Ring) (gone : ℕ) → ring.count ≡ 0 → gone ≡ 0 → character_bits words ring gone ≡ []
unfolding character_bits
no_characters words ring gone none g =
    ap (λ n. drop n (flat_map (bits_of 10) (in_use words ring))) g ∙ ap (flat_map (bits_of 10)) (none_in_use words ring none)

module _ (words : List ℕ) (ring : Ring) (within : ring.size ≤ length words) where
  length_held : length (flat_map (bits_of 10) (in_use words ring)) ≡ 10 * ring.count
  length_held = length_joined 10 (in_use words ring) ∙ ap (λ k. 10 * k) (length_in_use words ring within)

  pub length_characters : (gone : ℕ) → length (character_bits words ring gone) ≡ 10 * ring.count - gone
  unfolding character_bits
  length_characters gone =
      length-drop gone (flat_map (bits_of 10) (in_use words ring)) ∙ ap (λ k. k - gone) length_held

  -- A bit leaves the first character: bit number gone of the word at the front.
  pub bit_leaves : (gone : ℕ) → 0 < ring.count → gone < 10
      → character_bits words ring gone ≡ get_or (bits_of 10 (get_or words ring.front 0)) gone 0 ∷ character_bits words ring (gone + 1)
  unfolding character_bits
  bit_leaves gone more part =
      let held = in_use words ring in
      let bits = flat_map (bits_of 10) held in
      let here : gone ≡ 10 * 0 + gone = omega arith in
      let front = get_in_use words ring within 0 0 more ∙ ap (λ n. get_or words n 0) (place_first ring (omega (arith, ring.fits))) in
      let first : get_or bits gone 0 ≡ get_or (bits_of 10 (get_or words ring.front 0)) gone 0 =
      ap (λ n. get_or bits n 0) here
      ∙ (getd_joined 10 held 0 gone 0 (omega (arith, length_in_use words ring within)) part
      ∙ (ap (λ w. w / 2 ^ (9 - gone) % 2) front ∙ sym (getd_bits_of 10 gone (get_or words ring.front 0) 0 part))) in
      drop_more bits gone 0 (omega (arith, length_held)) ∙ ap (λ b. b ∷ drop (gone + 1) bits) first

  module _ (place : ℕ) (after : Ring) where
    -- A character joins behind the last.
    pub character_joins : (gone c : ℕ) → gone ≤ 10 * ring.count → Grown ring (Some place) after
        → character_bits (set words place c) after gone ≡ character_bits words ring gone ++ bits_of 10 c
    unfolding character_bits
    character_joins gone c g grown =
        let held = in_use words ring in
        ap (λ xs. drop gone (flat_map (bits_of 10) xs)) (grown_in_use words ring within place after c grown)
        ∙ (ap (drop gone) (joined-append 10 held (c ∷ []) ∙ ap (λ xs. flat_map (bits_of 10) held ++ xs) (append-nil (bits_of 10 c)))
        ∙ drop-append-le gone (flat_map (bits_of 10) held) (bits_of 10 c) (omega (arith, length_held)))

    -- With its last bit the first character leaves.
    pub character_leaves : Advanced ring (Some place) after → character_bits words ring 10 ≡ character_bits words after 0
    unfolding character_bits
    character_leaves gone =
        let first = bits_of 10 (get_or words place 0) in
        let rest = flat_map (bits_of 10) (in_use words after) in
        ap (λ xs. drop 10 (flat_map (bits_of 10) xs)) (advanced_in_use words ring within place after 0 gone)
        ∙ drop_at first rest 10 (length_bits_of 10 (get_or words place 0))

  -- Bit j of character k, which is the bit that waits at place p, is inverted.
  module _ (gone p k j : ℕ) (l : k < ring.count) (m : j < 10) (e : gone + p ≡ 10 * k + j) where
    turned_bit : get_or (bits_of 10 (get_or words (place_of ring k) 0)) j 0 ≡ get_or (character_bits words ring gone) p 0
    unfolding character_bits
    turned_bit =
        let held = in_use words ring in
        let old = get_or words (place_of ring k) 0 in
        getd_bits_of 10 j old 0 m
        ∙ sym (get_or-drop gone (flat_map (bits_of 10) held) p 0
        ∙ (ap (λ i. get_or (flat_map (bits_of 10) held) i 0) e
        ∙ (getd_joined 10 held k j 0 (omega (arith, length_in_use words ring within)) m
        ∙ ap (λ w. w / 2 ^ (9 - j) % 2) (get_in_use words ring within k 0 l))))

    pub bit_turns : character_bits (set words (place_of ring k) (bit_xor (get_or words (place_of ring k) 0) (2 ^ (9 - j)))) ring gone
        ≡ inverted (character_bits words ring gone) p
    unfolding character_bits
    bit_turns =
        let held = in_use words ring in
        let old = get_or words (place_of ring k) 0 in
        let new = bit_xor old (2 ^ (9 - j)) in
        let b = 1 - get_or (bits_of 10 old) j 0 in
        let same : old ≡ get_or held k 0 = sym (get_in_use words ring within k 0 l) in
        ap (λ xs. drop gone (flat_map (bits_of 10) xs)) (set_in_use words ring within k new l)
        ∙ (ap (drop gone) (joined-set 10 held k j new b (omega (arith, length_in_use words ring within)) m (bits_of_xor 10 j old m ∙ ap (λ w. set (bits_of 10 w) j b) same))
        ∙ (ap (λ i. drop gone (set (flat_map (bits_of 10) held) i b)) (sym e)
        ∙ (drop-set-add gone (flat_map (bits_of 10) held) p b
        ∙ ap (λ v. set (drop gone (flat_map (bits_of 10) held)) p (1 - v)) turned_bit)))
