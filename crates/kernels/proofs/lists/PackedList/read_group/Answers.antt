-- One code more, and all of them.
use Rattle.std.proofs.Common.{◌≡◌, ℕ, ◌+◌, ◌<◌, ◌≤◌, length, take, sym, ap, ◌∙◌, arith, w16, SFits, to_z, of_z, rules}
use Rattle.std.proofs.lemmas.List.{take_all}
use Rattle.std.proofs.lemmas.Int.{to_z-of_z}
use Rattle.codes.specs.declared.shape.Shape.{Shape}
use Rattle.codes.specs.Shapes.{words_on}
use Rattle.kernels.proofs.GroupReads.{packing_length, read_at, code_read, reads, place_more}
use Rattle.kernels.proofs.lists.PackedList.read_group.Goals as goal
use Rattle.kernels.proofs.lists.PackedList.read_group.Goals.{in-Ok, in_default}

pub loop-place-preserved : goal.loop-place-preserved
loop-place-preserved g c = λ all u l.
    let k = c.args.self.now.kernel.now in
    let S : Shape = (g.K.Kernel.means k).facts.shape in
    let side = c.args.self.now.side in
    let words = c.args.words.now in
    let place : ℕ = c.loop-place.place in
    let full : length all ≡ S.group = (g.met.K.Kernel.unpacks k side words all u).0.full in
    let long : length words ≡ words_on S side = packing_length (g.K.Kernel.packed S) (g.K.Kernel.unpacked S) S side (g.met.K.Kernel.packs k) (g.met.K.Kernel.unpacks k) words all u in
    let before : length c.loop-place.codes ≤ S.group = omega (arith, l, c.match-read_code.auto.codes) in
    let here : place < length c.loop-place.codes = omega (arith, c.loop-place-test.true, c.loop-place.auto.codes) in
    elim c.match-read_code.branch [
      | in-Ok w ↦
          let f : SFits w16 w.in-Ok.read = search rules in
          ap (take (place + 1)) w.codes-is
          ∙ place_more c.loop-place.codes all place (to_z w16 (of_z w16 w.in-Ok.read)) here (omega (arith, full, before))
          (to_z-of_z w16 w.in-Ok.read f ∙ code_read S side (length words) all place w.in-Ok.read (w.in-Ok.ensures ∙ ap (λ o. read_at S side (length words) o place) u))
          (c.loop-place.invariant all u before)
      | in_default w ↦ absurd (w.in_default.not-Ok _ (c.read_code.ensures ∙ ap (λ o. read_at S side (length words) o place) u ∙ reads S side (length words) all place (omega (arith, here, before)) long))
    ]

pub returns : goal.returns
returns g c = λ all u l.
    let e : c.loop-place.place ≡ length c.args.codes.now = omega (arith, c.loop-place-test.false, c.loop-place.auto.place-end) in
    sym (take_all c.loop-place.place c.loop-place.codes (omega (arith, c.loop-place.auto.codes)))
    ∙ c.loop-place.invariant all u (omega (arith, l, c.loop-place.auto.codes))
    ∙ ap (λ i. take i all) e
