-- The lines that are printed.
use Rattle.std.specs.Prelude.{ℕ, ◌/◌, ◌%◌, Bool, true, cond, Some, None, Option, List, [], ◌∷◌, ◌++◌, codes, decimal}
use Rattle.std.specs.Fmt.{digit_glyph}
use Rattle.link.specs.declared.heard.Settlement.{Settlement}
use Rattle.link.specs.declared.heard.Settlement.TheVariants as settlement
use Rattle.link.specs.declared.heard.GoodDword.{GoodDword}
use Rattle.link.specs.declared.heard.BadDword.{BadDword}
use Rattle.link.specs.declared.heard.Heard.{Heard}
use Rattle.link.specs.declared.heard.Heard.TheVariants as heard
use Rattle.link.specs.declared.heard.Heard.TheVariants.{Dry, More, Good}
use Rattle.reports.specs.declared.record.DwordRecord.{DwordRecord}
use Rattle.reports.specs.declared.report.BadReport.{BadReport}
use Rattle.reports.specs.declared.report.Report.{Report}
use Rattle.reports.specs.declared.report.Report.TheVariants.{Gained, Slip, Vouched, Doubtful, Bad, Lost}

-- What is recorded of a good dword, and reported of a bad one and of a settlement.
abbrev pub dword_record : GoodDword → DwordRecord
dword_record good = record { number = good.number; dword = good.dword }

abbrev pub bad_report : BadDword → BadReport
bad_report bad = record { number = bad.number; mask = bad.mask }

abbrev pub settlement_report : Settlement → Report
settlement_report (settlement.Vouched span) = Vouched span
settlement_report (settlement.Doubtful span) = Doubtful span

-- A byte as two hexadecimal digits, in capitals.
abbrev pub hex_pair : ℕ → List ℕ
hex_pair byte = digit_glyph true (byte / 16) ∷ digit_glyph true (byte % 16) ∷ []

abbrev pub dword_text : DwordRecord → List ℕ
dword_text d =
    codes "dword " ++ (decimal d.number ++ (codes " " ++ (decimal d.dword.kind
    ++ (codes " " ++ (hex_pair d.dword.b0
    ++ (codes " " ++ (hex_pair d.dword.b1
    ++ (codes " " ++ (hex_pair d.dword.b2
    ++ (codes " " ++ hex_pair d.dword.b3))))))))))

abbrev pub report_text : Report → List ℕ
report_text Gained = codes "gained"
report_text Slip = codes "slip"
report_text (Vouched span) = codes "vouched " ++ (decimal span.first ++ (codes " " ++ decimal span.last))
report_text (Doubtful span) = codes "doubtful " ++ (decimal span.first ++ (codes " " ++ decimal span.last))
report_text (Bad bad) = codes "bad " ++ (decimal bad.number ++ (codes " " ++ decimal bad.mask))
report_text Lost = codes "lost"

abbrev pub end_text : ℕ → List ℕ
end_text bits = codes "end " ++ decimal bits

abbrev pub line : List ℕ → List ℕ
line text = text ++ 10 ∷ []

-- The lines of an answer: a span before its dword or bad line, a lost sync after it.
abbrev pub settlement_lines : Option Settlement → List ℕ
settlement_lines None = []
settlement_lines (Some settlement) = line (report_text (settlement_report settlement))

abbrev pub good_lines : GoodDword → List ℕ
good_lines g = settlement_lines g.settlement ++ line (dword_text (dword_record g))

abbrev pub lost_lines : Bool → List ℕ
lost_lines lost = cond lost (line (report_text Lost)) []

abbrev pub bad_lines : BadDword → List ℕ
bad_lines b = settlement_lines b.settlement ++ (line (report_text (Bad (bad_report b))) ++ lost_lines b.lost)

abbrev pub heard_lines : Heard → List ℕ
heard_lines Dry = []
heard_lines More = []
heard_lines heard.Slip = line (report_text Slip)
heard_lines heard.Gained = line (report_text Gained)
heard_lines (Good g) = good_lines g
heard_lines (heard.Bad b) = bad_lines b
