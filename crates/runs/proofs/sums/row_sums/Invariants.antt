-- The rows before this one have no bad group, and their sums are known.
use Rattle.std.proofs.Common.{◌≡◌, ℕ, ◌<◌, length, get_or, pos, None}
use Rattle.codes.specs.declared.facts.Facts.{Facts}
use Rattle.runs.specs.Feeds.{row_codes, first_bad_row, codes_of}
use Rattle.runs.specs.Passes.{codes_total}
use Rattle.runs.proofs.sums.row_sums.Given as goal

abbrev pub invariant-loop-row : goal.invariant-loop-row
invariant-loop-row g l =
    let F : Facts = (g.K.Kernel.means l.kernel).facts in
    let codes = row_codes (g.K.Kernel.unpacked F.shape) F.shape l.count l.weights in
    (length l.sums ≡ 64)
    × (first_bad_row codes (length l.yielded) ≡ None)
    × ((r : ℕ) → r < length l.yielded → get_or l.sums r (pos 0) ≡ codes_total (codes_of (codes r)))
