-- The laws of a link, over whole histories, in words of what was sent, put, turned, heard, handed out, reported and lost.
-- Neither a receiver's state nor its step occurs here.
use Rattle.std.specs.Prelude.{◌≡◌, ℕ, zero, suc, ◌+◌, ◌*◌, ◌/◌, ◌%◌, ◌^◌, ◌<◌, ◌≤◌, Bool, true, cond, ◌&&◌, ◌⊎◌, Some, None, Option, List, [], ◌∷◌, ◌++◌, length, get_or, take, drop, ◌==◌, ◌≢◌, slice_index, slice_index_or}
use Rattle.code.specs.Characters.{unlike}
use Rattle.link.specs.declared.dword.Dword.{Dword}
use Rattle.link.specs.declared.heard.Settlement.{Settlement}
use Rattle.link.specs.declared.heard.Settlement.TheVariants.{Vouched, Doubtful}
use Rattle.link.specs.declared.heard.GoodDword.{GoodDword}
use Rattle.link.specs.declared.heard.BadDword.{BadDword}
use Rattle.link.specs.declared.heard.Heard.{Heard}
use Rattle.link.specs.declared.heard.Heard.TheVariants.{Dry, More, Slip, Gained, Good, Bad}
use Rattle.link.specs.Sending.{ValidDword}
use Rattle.transcript.specs.History.{History, sent, skipped, answers, removed, put, carried, HearsAlone}
use Rattle.transcript.specs.Answering.{numbers_by, numbers}

-- A turned bit: one heard unlike it was put. Positions count the bits put, from 0.
abbrev pub TurnedBit : ℕ → History → ℕ → Type 0
TurnedBit d h p = (skipped h ≤ p) × (p < removed h) × (slice_index (carried d h) p ≢ slice_index (put d h) p)

-- ---- Sent

abbrev pub AllValid : List Dword → Type 0
AllValid [] = Unit {0}
AllValid (w ∷ ws) = ValidDword w × AllValid ws

-- ---- Handed out

-- A dword with the number that it was handed out with.
pub record Numbered : Type 0 where
  pub number : ℕ
  pub dword : Dword

abbrev pub handed_by : Heard → List Numbered
handed_by Dry = []
handed_by More = []
handed_by Slip = []
handed_by Gained = []
handed_by (Good g) = record { number = g.number; dword = g.dword } ∷ []
handed_by (Bad b) = []

abbrev pub handed : List Heard → List Numbered
handed [] = []
handed (a ∷ rest) = handed_by a ++ handed rest

-- Dwords numbered one after another.
abbrev pub numbered_from : ℕ → List Dword → List Numbered
numbered_from n [] = []
numbered_from n (w ∷ ws) = record { number = n; dword = w } ∷ numbered_from (n + 1) ws

-- A K28.5 primitive: kind 1 with BCh first.
abbrev pub is_k28_5 : Dword → Bool
is_k28_5 w = w.kind == 1 && w.b0 == 0xBC

-- What follows the n-th K28.5 primitive.
abbrev pub beyond : ℕ → List Dword → List Dword
beyond zero ws = ws
beyond (suc n) [] = []
beyond (suc n) (w ∷ ws) = cond (is_k28_5 w) (beyond n ws) (beyond (suc n) ws)

-- The sent dwords of which every bit was heard, from the first that was begun after hearing had.
abbrev pub heard_whole : History → List Dword
heard_whole h = drop ((skipped h + 39) / 40) (take (removed h / 40) (sent h))

-- With no bit turned, the dwords handed out are those after the third K28.5 primitive begun, in order, numbered from 0.
abbrev pub HandedInOrder : ℕ → History → Type 0
HandedInOrder d h = ((p : ℕ) → TurnedBit d h p → ⊥) → handed (answers h) ≡ numbered_from 0 (beyond 3 (heard_whole h))

-- ---- Numbers

-- Good and bad dwords are numbered together from 0, also where sync was lost between them.
abbrev pub NumberedInOrder : History → Type 0
NumberedInOrder h = (i : ℕ) → i < length (numbers (answers h)) → slice_index (numbers (answers h)) i ≡ i

-- The answers up to the first that loses sync, it included.
abbrev pub until_lost : List Heard → List Heard
until_lost [] = []
until_lost (Dry ∷ rest) = Dry ∷ until_lost rest
until_lost (More ∷ rest) = More ∷ until_lost rest
until_lost (Slip ∷ rest) = Slip ∷ until_lost rest
until_lost (Gained ∷ rest) = Gained ∷ until_lost rest
until_lost (Good g ∷ rest) = Good g ∷ until_lost rest
until_lost (Bad b ∷ rest) = Bad b ∷ cond b.lost [] (until_lost rest)

abbrev pub kept : History → List Heard
kept h = until_lost (answers h)

-- One of these answers; its bit was put at skipped + i.
abbrev pub AnswerAt : History → ℕ → Heard → Type 0
AnswerAt h i a = (i < length (kept h)) × (slice_index_or (kept h) i Dry ≡ a)

-- The end of the bits heard by then.
abbrev pub kept_end : History → ℕ
kept_end h = skipped h + length (kept h)

-- After sync is gained a dword ends every forty bits, and the dword that ends there has the next number.
abbrev pub EveryFortyBits : History → Type 0
EveryFortyBits h = (g i n : ℕ) (a : Heard) → AnswerAt h g Gained → AnswerAt h i a → numbers_by a ≡ n ∷ [] → i ≡ g + 40 * (n + 1)

-- ---- Vouched for

-- Character c, counted from the first put, is of a code with unlike columns.
abbrev pub no_dword : Dword
no_dword = record { kind = 0; b0 = 0; b1 = 0; b2 = 0; b3 = 0 }

abbrev pub kind_at : ℕ → Dword → ℕ
kind_at zero w = w.kind
kind_at (suc place) w = 0

abbrev pub byte_at : ℕ → Dword → ℕ
byte_at zero w = w.b0
byte_at (suc zero) w = w.b1
byte_at (suc (suc zero)) w = w.b2
byte_at (suc (suc (suc place))) w = w.b3

abbrev pub UnlikeAt : History → ℕ → Type 0
UnlikeAt h c =
    let w = get_or (sent h) (c / 4) no_dword in
    (c / 4 < length (sent h)) × (unlike (kind_at (c % 4) w) (byte_at (c % 4) w) ≡ true)

-- No bit of character c is turned.
abbrev pub Clean : ℕ → History → ℕ → Type 0
Clean d h c = (p : ℕ) → 10 * c ≤ p → p < 10 * c + 10 → TurnedBit d h p → ⊥

-- Turned bits are spaced, up to the end of the dword that loses sync: none before sync, and between any two a clean
-- character with unlike columns.
pub record Spaced (d : ℕ) (h : History) : Type 0 where
  pub in_sync : (p : ℕ) → TurnedBit d h p → p < kept_end h → (i : ℕ) × (AnswerAt h i Gained × (skipped h + i < p))
  pub between : (p q : ℕ) → TurnedBit d h p → TurnedBit d h q → p < q → q < kept_end h
      → (c : ℕ) × ((p < 10 * c) × (10 * c + 10 ≤ q) × UnlikeAt h c × Clean d h c)

-- An answer vouches for a number.
abbrev pub vouched_in : Option Settlement → ℕ → Type 0
vouched_in None n = ⊥
vouched_in (Some (Vouched span)) n = (span.first ≤ n) × (n ≤ span.last)
vouched_in (Some (Doubtful span)) n = ⊥

abbrev pub VouchedBy : Heard → ℕ → Type 0
VouchedBy Dry n = ⊥
VouchedBy More n = ⊥
VouchedBy Slip n = ⊥
VouchedBy Gained n = ⊥
VouchedBy (Good g) n = vouched_in g.settlement n
VouchedBy (Bad b) n = vouched_in b.settlement n

-- The dword that was put as the forty bits that end at a position.
abbrev pub SentAt : History → ℕ → Dword → Type 0
SentAt h end w = (m : ℕ) × ((end ≡ 40 * m + 40) × (m < length (sent h)) × (slice_index_or (sent h) m no_dword ≡ w))

-- Each dword that is handed out and vouched for is the one sent there.
abbrev pub VouchedIsSent : History → Type 0
VouchedIsSent h = (i j : ℕ) (g : GoodDword) (a : Heard)
    → AnswerAt h i (Good g) → AnswerAt h j a → VouchedBy a g.number → SentAt h (skipped h + i + 1) g.dword

-- Each number that is vouched for was handed out before.
abbrev pub VouchedWasHanded : History → Type 0
VouchedWasHanded h = (j n : ℕ) (a : Heard) → AnswerAt h j a → VouchedBy a n
    → (i : ℕ) × ((g : GoodDword) × ((i < j) × (g.number ≡ n) × AnswerAt h i (Good g)))

-- Character c is refused: its place is in the mask that is reported for its dword.
abbrev pub RefusedAt : History → ℕ → Type 0
RefusedAt h c = (i : ℕ) × ((b : BadDword)
    × (AnswerAt h i (Bad b) × (skipped h + i + 1 ≡ 40 * (c / 4) + 40) × (b.mask / 2 ^ (c % 4) % 2 ≡ 1)))

-- Character u is the first clean one with unlike columns after character c.
pub record NextUnlike (d : ℕ) (h : History) (c u : ℕ) : Type 0 where
  pub later : c < u
  pub columns : UnlikeAt h u
  pub clean : Clean d h u
  pub first : (v : ℕ) → c < v → v < u → UnlikeAt h v → Clean d h v → ⊥

-- Each turned bit is refused at its own character or at the first clean one with unlike columns after it, if the dword of
-- that one is heard whole while sync lasts.
abbrev pub TurnedIsRefused : ℕ → History → Type 0
TurnedIsRefused d h = (p u : ℕ) → TurnedBit d h p → p < kept_end h → NextUnlike d h (p / 10) u → 40 * (u / 4) + 40 ≤ kept_end h
    → RefusedAt h (p / 10) ⊎ RefusedAt h u

-- ---- All of it

-- The laws of a link whose sender was opened at disparity d.
pub record LinkLaws (d : ℕ) (h : History) : Type 0 where
  pub sent_valid : AllValid (sent h)
  pub handed_in_order : HearsAlone h → HandedInOrder d h
  pub numbered_in_order : NumberedInOrder h
  pub every_forty_bits : EveryFortyBits h
  pub vouched_is_sent : HearsAlone h → Spaced d h → VouchedIsSent h
  pub vouched_was_handed : VouchedWasHanded h
  pub turned_is_refused : HearsAlone h → Spaced d h → TurnedIsRefused d h

-- Two senders opened at disparity d, each on its own line, put equal bits exactly when they accepted equal dwords.
pub record SendersAgree (d : ℕ) (h g : History) : Type 0 where
  pub same_dwords : put d h ≡ put d g → sent h ≡ sent g
  pub same_bits : sent h ≡ sent g → put d h ≡ put d g
