-- The rows before this one have taken the columns in.
use Rattle.std.proofs.Common.{◌≡◌, ◌*◌, length, Ok}
use Rattle.std.specs.Iterator.Adapters.{zip_first, zip_second}
use Rattle.std.specs.Slice.Iter.{chunks_exact_rest, chunks_exact_size}
use Rattle.codes.specs.declared.side.Side.TheVariants.{Activations}
use Rattle.kernels.specs.Lists.{unpacked_list}
use Rattle.runs.specs.Stories.{Story}
use Rattle.runs.specs.Feeds.{row_codes, codes_of, columns_with}
use Rattle.runs.specs.Tells.{Tells}
use Rattle.runs.specs.Passes.{Checked}
use Rattle.runs.proofs.Taking.{TakenTo}
use Rattle.runs.proofs.run.take_in.Given as goal

abbrev pub invariant-loop-row : goal.invariant-loop-row
invariant-loop-row g l =
    let m = g.K.Kernel.means l.initial.kernel in
    let F = (g.K.Kernel.means l.initial.kernel).facts in
    let u = g.K.Kernel.unpacked (g.K.Kernel.means l.initial.kernel).facts.shape in
    let n = l.columns.count in
    let ws = l.columns.weights.now in
    let as' = l.columns.activations.now in
    let cs = columns_with F.rows n (λ row. codes_of (row_codes u F.shape n ws row)) (codes_of (unpacked_list u F.shape Activations n as')) in
    (zip_first l.initial.row-iterator ≡ record { start = 0; end = l.facts.rows })
    × (chunks_exact_rest (zip_second l.initial.row-iterator) ≡ ws)
    × (chunks_exact_size (zip_second l.initial.row-iterator) ≡ l.groups * l.facts.shape.weight_words)
    × (length l.kept.rows ≡ 64)
    × ((g.K.Kernel.means l.kernel).facts ≡ F)
    × (Checked u F l.initial.kept.accepted n ws as' (Ok l.columns)
    → (s : Story) → Tells m l.initial.kept s
    → TakenTo m l.initial.kept s cs 0 m l.initial.kept
    → TakenTo m l.initial.kept s cs (length l.yielded) (g.K.Kernel.means l.kernel) l.kept)
