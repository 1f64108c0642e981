-- Bytes and the codes that they hold.
use Rattle.std.specs.Prelude.{◌≡◌, ℕ, suc, ◌-◌, ◌<◌, true, false, ltb, ℤ, pos, negsuc, ◌-ℤ◌, ◌*ℤ◌, FitsSigned, nat_lt, refl}
use Rattle.std.proofs.Common.{sym, ap, subst, ◌∙◌, arith, to_z, of_z}
use Rattle.std.specs.Int.{w16}
use Rattle.std.proofs.lemmas.Int.{ints, to_z-of_z}
use Rattle.std.proofs.lemmas.Bool.{cond-true, cond-false, cond_both, ltb-true, ltb-false, lt-ltb, le-ltb}
use Rattle.codes.proofs.Extremes.{corner_most, corner_least}
use Rattle.split.specs.Bytes.{InByte, byte_code, code_byte, byte_at, code_at}
use Rattle.split.specs.Lanes.{InLane}

-- ---- a byte has a code that a byte holds

byte_holds : (byte : ℕ) → byte < 256 → InByte (byte_code byte)
byte_holds byte h =
    cond_both (nat_lt byte 128) (pos byte) (pos byte -ℤ pos 256) InByte
    (λ e. let l = ltb-true byte 128 e in (omega (arith, ints), omega (arith, ints)))
    (λ e. let l = ltb-false byte 128 e in (omega (arith, ints), omega (arith, ints)))

pub code_in : (place word : ℕ) → InByte (code_at place word)
code_in place word = byte_holds (byte_at place word) (omega arith)

-- ---- the byte of a code, and the code of a byte

pub byte_back : (code : ℤ) → InByte code → byte_code (code_byte code) ≡ code
byte_back (pos n) h =
    let t : ltb n 128 ≡ true = lt-ltb n 128 (omega (arith, ints)) in
    cond-true _ _ _ t
byte_back (negsuc n) h =
    let t : ltb (256 - suc n) 128 ≡ false = le-ltb (256 - suc n) 128 (omega (arith, ints)) in
    cond-false _ _ _ t ∙ omega (arith, ints)

pub byte_below : (code : ℤ) → InByte code → code_byte code < 256
byte_below (pos n) h = omega (arith, ints)
byte_below (negsuc n) h = omega arith

above_back : (byte : ℕ) → byte < 256 → code_byte (pos byte -ℤ pos 256) ≡ byte
above_back byte h =
    let t : ltb byte 256 ≡ true = lt-ltb byte 256 h in
    ap code_byte (cond-true (nat_lt byte 256) (negsuc (256 - suc byte)) (pos (byte - 256)) t) ∙ omega arith

pub code_back : (byte : ℕ) → byte < 256 → code_byte (byte_code byte) ≡ byte
code_back byte h = cond_both (nat_lt byte 128) (pos byte) (pos byte -ℤ pos 256) (λ z. code_byte z ≡ byte) (λ e. refl) (λ e. above_back byte h)

-- ---- the product of two codes, as numbers of 16 bits with sign

lane_fits : (z : ℤ) → InLane z → FitsSigned w16 z
lane_fits (pos n) h = record { sfits = omega (arith, ints) }
lane_fits (negsuc n) h = record { sfits = omega (arith, ints) }

product_fits : (u v : ℤ) → InByte u → InByte v → FitsSigned w16 (u *ℤ v)
product_fits u v hu hv =
    let most = corner_most 128 127 128 127 u v hu hv in
    let least = corner_least 128 127 128 127 u v hu hv in
    lane_fits (u *ℤ v) (omega (arith, ints), omega (arith, ints))

pub record Product (u v x y : ℤ) : Type 0 where
  pub fits : FitsSigned w16 (to_z w16 (of_z w16 u) *ℤ to_z w16 (of_z w16 v))
  pub is : to_z w16 (of_z w16 (to_z w16 (of_z w16 u) *ℤ to_z w16 (of_z w16 v))) ≡ x *ℤ y

pub product_is : (u v x y : ℤ) → FitsSigned w16 u → FitsSigned w16 v → u ≡ x → v ≡ y → InByte x → InByte y → Product u v x y
product_is u v x y fu fv eu ev hx hy =
    let e : to_z w16 (of_z w16 u) *ℤ to_z w16 (of_z w16 v) ≡ x *ℤ y =
    ap (λ (z : ℤ). z *ℤ to_z w16 (of_z w16 v)) (to_z-of_z w16 u fu ∙ eu) ∙ ap (λ (z : ℤ). x *ℤ z) (to_z-of_z w16 v fv ∙ ev) in
    let f = product_fits x y hx hy in
    record {
      fits = subst (FitsSigned w16) (sym e) f;
      is = ap (λ (z : ℤ). to_z w16 (of_z w16 z)) e ∙ to_z-of_z w16 (x *ℤ y) f;
    }
