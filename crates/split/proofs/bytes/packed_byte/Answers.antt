use Rattle.std.proofs.Common.{ℕ, zero, suc, List, [], ◌∷◌, get_or, ℤ, pos, arith, w16, SFits}
use Rattle.std.specs.List.{AllByRecursion}
use Rattle.std.proofs.lemmas.Int.{ints, to_z-of_z}
use Rattle.split.specs.Bytes.{InByte}
use Rattle.split.proofs.bytes.packed_byte.Goals as goal

bytes_at : (codes : List ℤ) (place : ℕ) → AllByRecursion InByte codes → InByte (get_or codes place (pos 0))
bytes_at [] place h = (omega (arith, ints), omega (arith, ints))
bytes_at (code ∷ codes) zero (h, hs) = h
bytes_at (code ∷ codes) (suc place) (h, hs) = bytes_at codes place hs

pub byte_of-requires : goal.byte_of-requires
byte_of-requires c =
    let fits : SFits w16 c.code_or_fill.result = record { sfits = c.code_or_fill.type_inv } in
    simp to_z-of_z (rw c.code_or_fill.ensures (bytes_at c.args.codes.now c.args.place c.requires))
