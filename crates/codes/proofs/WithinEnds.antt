-- Ends by their two numbers, and the test of a code within them.
use Rattle.std.proofs.Common.{◌≡◌, true, false, ℤ, ap₂, inl, inr, arith}
use lib.Signed.{le_z}
use Rattle.std.proofs.lemmas.Int.{ints}
use Rattle.std.proofs.lemmas.Bool.{cases_Bool, and_parts, and_from}
use Rattle.codes.specs.declared.ends.Ends.{Ends}
use Rattle.codes.specs.Codes.{Within, Outside, holds}

pub ends_are : (e : Ends) (low high : ℤ) → e.low ≡ low → e.high ≡ high → e ≡ record { low = low; high = high }
ends_are e low high p q = ap₂ (λ (l h : ℤ). let r : Ends = record { low = l; high = h } in r) p q

pub holds_within : (e : Ends) (code : ℤ) → holds e code ≡ true → Within e code
holds_within e code h =
    let p = and_parts (le_z e.low code) (le_z code e.high) h in
    let l = p.0 in
    let u = p.1 in
    (grind (arith, ints), grind (arith, ints))

pub within_holds : (e : Ends) (code : ℤ) → Within e code → holds e code ≡ true
within_holds e code w = and_from (le_z e.low code) (le_z code e.high) (grind (arith, ints)) (grind (arith, ints))

pub fails_outside : (e : Ends) (code : ℤ) → holds e code ≡ false → Outside e.low e.high code
fails_outside e code h =
    elim (cases_Bool (le_z e.low code)) [
      | inl l ↦ (let u : le_z code e.high ≡ false = rw l at h in inr (grind (arith, ints)))
      | inr l ↦ inl (grind (arith, ints))
    ]
