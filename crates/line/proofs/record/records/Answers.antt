use Rattle.std.proofs.Common.{◌≡◌, ◌/◌, length, min, take, ap, ◌∙◌, arith}
use Rattle.std.specs.Simd.{first_chunks}
use Rattle.line.proofs.Recordings.{take_chunks}
use Rattle.line.proofs.record.records.Goals as goal

pub returns : goal.returns
returns c =
    let bytes = c.args.bytes.now in
    let all = length bytes / 16 in
    let count : c.min.result ≡ min all 4096 = c.min.ensures ∙ ap (λ n. min n 4096) c.as_chunks.ensures.front_len in
    ap (take c.min.result) c.as_chunks.ensures.front
    ∙ (ap (λ n. take n (first_chunks 16 all bytes)) count ∙ take_chunks (min all 4096) all bytes (omega arith))
