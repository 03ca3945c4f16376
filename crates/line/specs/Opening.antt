-- What opening a recording answers.
use Rattle.std.specs.Prelude.{◌≡◌, ℕ, ◌+◌, ◌%◌, Bool, cond, not, ◌||◌, List, [], ◌∷◌, length, drop, Some, None, Ok, Err, Option, Result, ◌==◌, nat_lt, slice_index}
use Rattle.std.specs.List.{list_any}
use Rattle.code.specs.Refusals.{Refusal, plain}
use Rattle.line.specs.Waiting.{Meaning}
use Rattle.line.specs.Records.{records, bit_places}
use Rattle.line.specs.Recordings.{meaning_whole, recording_meaning}
use Rattle.line.specs.declared.recording.RecordFault.{RecordFault}
use Rattle.line.specs.declared.recording.RecordFault.TheVariants.{TooManyBits, BitBeyond}
use Rattle.line.specs.declared.recording.RecordingFault.{RecordingFault}
use Rattle.line.specs.declared.recording.RecordingFault.TheVariants.{WrongLength, InRecord}
use Rattle.line.specs.declared.recording.Recording.{Recording}

-- The number of each fault; a faulty record is named, from 0.
abbrev pub recording_refusal : RecordingFault → Refusal
recording_refusal WrongLength = plain 15
recording_refusal (InRecord index TooManyBits) = record { number = 16; values = index ∷ [] }
recording_refusal (InRecord index BitBeyond) = record { number = 17; values = index ∷ [] }

-- Some bit is set.
abbrev pub any_set : List ℕ → Bool
any_set bits = list_any (λ bit. not (bit == 0)) bits

-- The fault of a record: its count is above 120, or else a bit is set beyond its count.
abbrev pub record_fault : List ℕ → Option RecordFault
record_fault block =
    cond (nat_lt 120 (slice_index block 0)) (Some TooManyBits)
    (cond (any_set (drop (slice_index block 0) (bit_places block))) (Some BitBeyond) None)

-- The fault of record number index, if it has one, or else a later one.
abbrev pub fault_or : ℕ → Option RecordFault → Option RecordingFault → Option RecordingFault
fault_or index (Some fault) later = Some (InRecord index fault)
fault_or index None later = later

-- The first fault in some records, of which the first has number index.
abbrev pub first_fault : ℕ → List (List ℕ) → Option RecordingFault
first_fault index [] = None
first_fault index (block ∷ blocks) = fault_or index (record_fault block) (first_fault (index + 1) blocks)

-- The first fault in the bytes of a recording; its length is tested first.
abbrev pub fault_in : List ℕ → Option RecordingFault
fault_in bytes =
    cond (nat_lt 65536 (length bytes) || not (length bytes % 16 == 0)) (Some WrongLength) (first_fault 0 (records bytes))

-- A refusal where there is a fault, and else the meaning.
abbrev pub unless_fault : Option RecordingFault → Meaning → Result Meaning Refusal
unless_fault (Some fault) meaning = Err (recording_refusal fault)
unless_fault None meaning = Ok meaning

-- What opening answers: the first fault, or a recording whose bits all wait.
abbrev pub opening : List ℕ → Result Meaning Refusal
opening bytes = unless_fault (fault_in bytes) (meaning_whole bytes)

-- An answer with the meaning for the recording, and the number and values for the fault.
abbrev pub opened : Result Recording RecordingFault → Result Meaning Refusal
opened (Ok recording) = Ok (recording_meaning recording)
opened (Err fault) = Err (recording_refusal fault)

-- An opened recording lies over the bytes that were lent.
abbrev pub OverBytes : List ℕ → Result Recording RecordingFault → Type 0
OverBytes bytes (Ok recording) = recording.bytes.now ≡ bytes
OverBytes bytes (Err fault) = Unit {0}
