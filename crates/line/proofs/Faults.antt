-- The search for a fault, step by step: what is found from here on decides what is found in all.
use Rattle.std.proofs.Common.{◌≡◌, ℕ, ◌+◌, ◌<◌, ◌≤◌, Bool, true, false, cond, not, ◌||◌, ◌==◌, List, [], length, get_or, drop, Some, None, Option, sym, ap, ◌∙◌, arith}
use Rattle.std.specs.Bool.{MatchBool, then_some}
use Rattle.std.specs.List.{range_with_len, AllWithin, HoldsAt}
use Rattle.std.proofs.lemmas.List.{length-drop, get_or-drop, get_or_default, at_drop_more, at_drop_all}
use Rattle.std.proofs.lemmas.List.Folds.{list_any_at, list_any_none}
use Rattle.std.proofs.lemmas.List.FromFn.{length-range_with_len, get_or-range_with_len}
use Rattle.std.proofs.lemmas.Bool.{eq-eqb, ne_eqb, cond_above}
use Rattle.line.specs.Records.{bit_places}
use Rattle.line.specs.Opening.{any_set, record_fault, first_fault, fault_or}
use Rattle.line.specs.declared.recording.RecordFault.{RecordFault}
use Rattle.line.specs.declared.recording.RecordFault.TheVariants.{BitBeyond}

-- What is found among the places from p on is whether a bit is set there.
pub any_from : (bits : List ℕ) (p n : ℕ) → p + n ≡ length bits → (b : Bool)
    → MatchBool b
    ((k : ℕ) × (k < length (range_with_len p n)) × HoldsAt (λ i. get_or bits i 0 ≡ 0 → ⊥) (range_with_len p n) k)
    (AllWithin (λ i. get_or bits i 0 ≡ 0) (range_with_len p n) 0 (length (range_with_len p n)))
    → any_set (drop p bits) ≡ b
any_from bits p n e true (k, h, set) =
    let within : k < n = omega (arith, length-range_with_len p n) in
    let bit = get_or-drop p bits k 0 ∙ ap (λ i. get_or bits i 0) (sym (get_or-range_with_len p n k 0 within)) in
    list_any_at (λ x. not (x == 0)) (drop p bits) k 0 (omega (arith, length-drop p bits))
    (ap not (ne_eqb (get_or (drop p bits) k 0) 0 (λ z. set 0 (sym bit ∙ z))))
any_from bits p n e false none =
    list_any_none (λ x. not (x == 0)) (drop p bits)
    (λ k d h.
    let within : k < n = omega (arith, length-drop p bits) in
    let bit = get_or_default (drop p bits) k d 0 h ∙ (get_or-drop p bits k 0 ∙ ap (λ i. get_or bits i 0) (sym (get_or-range_with_len p n k 0 within))) in
    ap not (eq-eqb (get_or (drop p bits) k d) 0 (bit ∙ none k 0 (omega arith) (omega (arith, length-range_with_len p n)))))

-- Where the bit at a place is not set, one is set from there on if one is from the next place on.
pub set_later : (bits : List ℕ) (p : ℕ) → p < length bits → get_or bits p 0 ≡ 0 → any_set (drop (p + 1) bits) ≡ any_set (drop p bits)
set_later bits p h bit =
    sym (at_drop_more any_set bits p 0 h ∙ ap (λ b. not b || any_set (drop (p + 1) bits)) (eq-eqb (get_or bits p 0) 0 bit))

-- From the end on no bit is set.
pub none_set : (bits : List ℕ) (p : ℕ) → length bits ≤ p → any_set (drop p bits) ≡ false
none_set bits p h = at_drop_all any_set bits p h

-- A record that does not count too many bits is judged by the bits beyond its count.
judged_by : (block : List ℕ) (b : Bool) → get_or block 0 0 ≤ 120 → any_set (drop (get_or block 0 0) (bit_places block)) ≡ b
    → cond b (Some BitBeyond) None ≡ record_fault block
judged_by block b few e = cond_above 120 (get_or block 0 0) _ _ _ few (ap (λ x. cond x (Some BitBeyond) None) (sym e))

pub judged : (block : List ℕ) (b : Bool) → get_or block 0 0 ≤ 120 → any_set (drop (get_or block 0 0) (bit_places block)) ≡ b
    → then_some b BitBeyond ≡ record_fault block
judged block true few e = judged_by block true few e
judged block false few e = judged_by block false few e

-- The first fault from a record on is its own, or else the first from the next on.
pub fault_from : (blocks : List (List ℕ)) (i : ℕ) (o : Option RecordFault) → i < length blocks → o ≡ record_fault (get_or blocks i [])
    → first_fault i (drop i blocks) ≡ fault_or i o (first_fault (i + 1) (drop (i + 1) blocks))
fault_from blocks i o h e =
    at_drop_more (first_fault i) blocks i [] h
    ∙ ap (λ own. fault_or i own (first_fault (i + 1) (drop (i + 1) blocks))) (sym e)

pub no_fault : (blocks : List (List ℕ)) (i : ℕ) → length blocks ≤ i → first_fault i (drop i blocks) ≡ None
no_fault blocks i h = at_drop_all (first_fault i) blocks i h
