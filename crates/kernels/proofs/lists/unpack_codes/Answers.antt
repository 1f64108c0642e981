-- The three ends of an unpacking: the numbers are refused, a group is, or the codes are read.
use Rattle.std.proofs.Common.{◌≡◌, ℕ, List, length, ℤ, Ok, Err, Result, ap, ◌∙◌}
use Rattle.std.proofs.lemmas.Result.{err_from_is_err_and}
use Rattle.codes.specs.declared.facts.Facts.{Facts}
use Rattle.codes.specs.declared.side.Side.{Side}
use Rattle.kernels.specs.declared.refusal.UnpackRefusal.{UnpackRefusal}
use Rattle.kernels.specs.Lists.{unpacked_list, bad_group}
use Rattle.kernels.proofs.ListSizes.{zero_within}
use Rattle.kernels.proofs.UnpackedLists.{sizes_refuse, sizes_pass, unpack_refused, unpack_read, as_lent}
use Rattle.kernels.proofs.lists.unpack_codes.Goals as goal

pub returns-in_err-list : goal.returns-in_err-list
returns-in_err-list g c =
    let k = c.args.kernel.now in
    let F : Facts = (g.K.Kernel.means k).facts in
    let side = c.args.side in
    let words = c.args.words.now in
    let codes = c.args.codes.now in
    let n = length codes in
    let U = g.K.Kernel.unpacked F.shape in
    let refusal : UnpackRefusal = c.in_err-list.field-0.0 in
    let p = err_from_is_err_and c.from_residual.result c.from_residual.ensures.1 in
    let known = unpack_refused (g.K.Kernel.packed F.shape) U F.shape side (g.met.K.Kernel.packs k) (g.met.K.Kernel.unpacks k) (zero_within F.shape side F.shape_rules) F.shape_rules.2.0 n words codes c.from_residual.result refusal (p.1 ∙ ap Err p.2) (sizes_refuse U F.shape side n words refusal c.in_err-list.ensures) in
    record { answer = known.answer; after = known.after; again = known.again }

pub returns-in_err-check : goal.returns-in_err-check
returns-in_err-check g c =
    let k = c.args.kernel.now in
    let F : Facts = (g.K.Kernel.means k).facts in
    let side = c.args.side in
    let words = c.args.words.now in
    let codes = c.args.codes.now in
    let n = length codes in
    let U = g.K.Kernel.unpacked F.shape in
    let e = c.in_ok-list.ensures in
    let all : g.row.K.Denot → Side → List ℕ → ℕ → Result (List ℤ) ℕ = λ k side words n. unpacked_list (g.K.Kernel.unpacked (g.K.Kernel.means k).facts.shape) (g.K.Kernel.means k).facts.shape side n words in
    let refusal : UnpackRefusal = c.in_err-check.field-0.0 in
    let p = err_from_is_err_and c.from_residual-in_err-check.result c.from_residual-in_err-check.ensures.1 in
    let bad = as_lent (λ k side words n. Err refusal ≡ bad_group (all k side words n)) e.0 e.1 e.2 e.3 c.in_err-check.ensures in
    let known = unpack_refused (g.K.Kernel.packed F.shape) U F.shape side (g.met.K.Kernel.packs k) (g.met.K.Kernel.unpacks k) (zero_within F.shape side F.shape_rules) F.shape_rules.2.0 n words codes c.from_residual-in_err-check.result refusal (p.1 ∙ ap Err p.2) (sizes_pass U F.shape side n words (Err refusal) e.4 bad) in
    record { answer = known.answer; after = known.after; again = known.again }

pub returns : goal.returns
returns g c =
    let k = c.args.kernel.now in
    let F : Facts = (g.K.Kernel.means k).facts in
    let side = c.args.side in
    let words = c.args.words.now in
    let codes = c.args.codes.now in
    let n = length codes in
    let U = g.K.Kernel.unpacked F.shape in
    let e = c.in_ok-list.ensures in
    let all : g.row.K.Denot → Side → List ℕ → ℕ → Result (List ℤ) ℕ = λ k side words n. unpacked_list (g.K.Kernel.unpacked (g.K.Kernel.means k).facts.shape) (g.K.Kernel.means k).facts.shape side n words in
    let good = as_lent (λ k side words n. Ok tt ≡ bad_group (all k side words n)) e.0 e.1 e.2 e.3 c.in_ok-check.ensures in
    let read = as_lent (λ k side words n. (codes : List ℤ) → all k side words n ≡ Ok codes → c.read.new.codes ≡ codes) e.0 e.1 e.2 e.3 c.read.ensures in
    let known = unpack_read (g.K.Kernel.packed F.shape) U F.shape side (g.met.K.Kernel.packs k) (g.met.K.Kernel.unpacks k) (zero_within F.shape side F.shape_rules) F.shape_rules.2.0 n words codes c.read.new.codes e.4 good read in
    record { answer = known.answer; after = known.after; again = known.again }
