use Rattle.std.proofs.Common.{◌≡◌, ◌^◌, length, drop, arith, rules}
use Rattle.std.specs.List.{sum_by}
use Rattle.std.proofs.lemmas.Iterator.{YieldsList-from_slice, YieldsList-from_map}
use Rattle.std.proofs.lemmas.Iterator.Consumers.{YieldsList-at, sum_by_from_yields_List, fits_by_from_yields_list}
use Rattle.line.specs.Records.{records, held_bits}
use Rattle.line.proofs.Recordings.{counted, held_fits}
use Rattle.line.proofs.recording.RecordingTap.count.Goals as goal

pub sum-requires-clause-fits : goal.sum-requires-clause-fits
sum-requires-clause-fits c =
    let blocks = c.records_left.result.now in
    fits_by_from_yields_list (λ block. length (held_bits block)) blocks c.map.result (2 ^ 64)
    (YieldsList-from_map _ (λ block. length (held_bits block)) (YieldsList-at c.map.ensures.source (YieldsList-from_slice blocks cc)) c.map.ensures.closure (λ x r q k. search rules))
    (rw c.records_left.ensures (held_fits c.args.self.now.bytes.now c.args.self.now.place.index))

-- The sum is that of the bits that the records hold.
summed : (c : goal.After-way_told-1) → c.sum.result ≡ sum_by (λ block. length (held_bits block)) (drop c.args.self.now.place.index (records c.args.self.now.bytes.now))
summed c =
    let blocks = c.records_left.result.now in
    rw (← c.records_left.ensures)
    (sum_by_from_yields_List (λ block. length (held_bits block)) blocks c.map.result c.sum.result c.sum.ensures.ran
    (YieldsList-from_map _ (λ block. length (held_bits block)) (YieldsList-at c.map.ensures.source (YieldsList-from_slice blocks cc)) c.map.ensures.closure (λ x r q k. search rules)))

pub overflow_sub-result : goal.overflow_sub-result
overflow_sub-result c =
    let s = c.args.self.now in
    omega (arith, summed c, (counted (records s.bytes.now) s.place.index s.place.gone s.within).1)

pub returns : goal.returns
returns c =
    let s = c.args.self.now in
    omega (arith, summed c, (counted (records s.bytes.now) s.place.index s.place.gone s.within).0)
