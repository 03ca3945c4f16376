-- What a recording means: the bits that wait in its records.
use Rattle.std.specs.Prelude.{◌≡◌, ℕ, ◌<◌, cond, ◌==◌, List, [], length, drop, Some, None, Option, slice_index_or}
use Rattle.line.specs.Records.{records, held_bits, all_bits, bits_left}
use Rattle.line.specs.Waiting.{Meaning}
use Rattle.line.specs.declared.recording.Place.{Place}
use Rattle.line.specs.declared.recording.Recording.{Recording}

-- What a recording means that has come to a place.
abbrev pub meaning_at : List ℕ → Place → Meaning
meaning_at bytes place =
    record { waiting = bits_left (drop place.index (records bytes)) place.gone; capacity = length (all_bits (records bytes)) }

-- What a recording means.
abbrev pub recording_meaning : Recording → Meaning
recording_meaning recording = meaning_at recording.bytes.now recording.place

-- What a recording means when it is opened: all its bits wait.
abbrev pub meaning_whole : List ℕ → Meaning
meaning_whole bytes = record { waiting = all_bits (records bytes); capacity = length (all_bits (records bytes)) }

-- How many bits are gone from a record, which is the one of a place or a later one.
abbrev pub gone_from : Place → ℕ → ℕ
gone_from place index = cond (index == place.index) place.gone 0

-- The place of the bit that waits first from a place on; none where no bit waits.
abbrev pub FirstPlace : List ℕ → Place → Option Place → Type 0
FirstPlace bytes place (Some first) =
    (first.index < length (records bytes))
    × (first.gone < length (held_bits (slice_index_or (records bytes) first.index [])))
    × (meaning_at bytes first ≡ meaning_at bytes place)
FirstPlace bytes place None = (meaning_at bytes place).waiting ≡ []
