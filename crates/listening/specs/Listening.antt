-- The text of all that is heard in a tap, and what listening to a recording answers.
use Rattle.std.specs.Prelude.{◌≡◌, ℕ, ◌+◌, cond, List, [], ◌∷◌, ◌++◌, Some, None, Ok, Err, string_bytes, codes, decimal, Option, Result, String, ◌==◌}
use Rattle.std.specs.declared.alloc.Global.{Global}
use Rattle.code.specs.Refusals.{Refusal}
use Rattle.line.specs.Waiting.{Meaning}
use Rattle.line.specs.Opening.{opening, recording_refusal}
use Rattle.link.specs.declared.state.State.{State}
use Rattle.link.specs.Hearing.{fresh, hearing}
use Rattle.link.specs.Receiving.{most_numbers}
use Rattle.listening.specs.declared.text.ListenFault.{ListenFault}
use Rattle.listening.specs.declared.text.ListenFault.TheVariants.{NotOpened, NoMemory}
use Rattle.reports.specs.declared.record.DwordRecord.{DwordRecord}
use Rattle.reports.specs.declared.report.Report.{Report}
use Rattle.reports.specs.Shown.{heard_lines, line, dword_text, report_text, end_text}

-- The lines that bits give, until the numbers are spent.
abbrev pub told : State → List ℕ → List ℕ
told s [] = []
told s (bit ∷ bits) =
    cond (s.ledger.number == most_numbers) [] (heard_lines (hearing s bit).heard ++ told (hearing s bit).state bits)

-- The text of an output, where it is known.
abbrev pub text_of : Option (List ℕ) → List ℕ
text_of (Some text) = text
text_of None = []

-- What some values print, a line each.
abbrev pub lines_of : {X : Type 0} → (X → Option (List ℕ)) → List X → List ℕ
lines_of output [] = []
lines_of output (x ∷ xs) = line (text_of (output x)) ++ lines_of output xs

-- The lines of collected reports, and of collected dwords.
abbrev pub report_lines : List Report → List ℕ
report_lines = lines_of (λ (report : Report). Some (report_text report))

abbrev pub dword_lines : List DwordRecord → List ℕ
dword_lines = lines_of (λ (dword : DwordRecord). Some (dword_text dword))

-- How many bits are taken.
abbrev pub taken : State → List ℕ → ℕ
taken s [] = 0
taken s (bit ∷ bits) = cond (s.ledger.number == most_numbers) 0 (taken (hearing s bit).state bits + 1)

-- All lines that a receiver which has heard nothing gives, and the end.
abbrev pub listening : List ℕ → List ℕ
listening bits = told fresh bits ++ line (end_text (taken fresh bits))

-- The text for a recording, or why it is refused.
abbrev pub listened : Result Meaning Refusal → Result (List ℕ) Refusal
listened (Ok tap) = Ok (listening tap.waiting)
listened (Err refusal) = Err refusal

-- What listening answers. Only want of memory, which no rule determines, can keep it from that.
abbrev pub Listened : List ℕ → Result (String Global) ListenFault → Type 0
Listened bytes (Ok text) = Ok (string_bytes text) ≡ listened (opening bytes)
Listened bytes (Err (NotOpened fault)) = Err (recording_refusal fault) ≡ listened (opening bytes)
Listened bytes (Err NoMemory) = Unit {0}

-- A number after a space, for each of some values.
abbrev pub spaced : List ℕ → List ℕ
spaced [] = []
spaced (value ∷ values) = codes " " ++ (decimal value ++ spaced values)

-- A refusal by its number, with its values.
abbrev pub refusal_text : Refusal → List ℕ
refusal_text refusal = codes "refused " ++ (decimal refusal.number ++ spaced refusal.values)

abbrev pub fault_text : ListenFault → List ℕ
fault_text (NotOpened fault) = refusal_text (recording_refusal fault)
fault_text NoMemory = codes "no memory"
