-- What each call of a kernel answers: the questions in their order.
use Rattle.std.specs.Prelude.{ℕ, ◌+◌, Bool, cond, ◌&&◌, List, length, ℤ, pos, ◌+ℤ◌, Some, None, Ok, Err, Option, Result, ◌==◌, nat_le, nat_lt, slice_index_or}
use Rattle.codes.specs.declared.shape.Shape.{Shape}
use Rattle.codes.specs.declared.side.Side.{Side}
use Rattle.codes.specs.declared.side.Side.TheVariants.{Weights, Activations}
use Rattle.codes.specs.declared.facts.Facts.{Facts}
use Rattle.codes.specs.Places.{first_outside}
use Rattle.codes.specs.Shapes.{ends_on, words_on}
use Rattle.kernels.specs.declared.refusal.PackRefusal.{PackRefusal}
use Rattle.kernels.specs.declared.refusal.PackRefusal.TheVariants.{Count, Words, Code}
use Rattle.kernels.specs.declared.refusal.CodeRefusal.{CodeRefusal}
use Rattle.kernels.specs.declared.refusal.CodeRefusal.TheVariants.{Place, Length as CodeLength, Packing as CodePacking}
use Rattle.kernels.specs.declared.refusal.RowRefusal.{RowRefusal}
use Rattle.kernels.specs.declared.refusal.RowRefusal.TheVariants.{Row as NoRow}
use Rattle.kernels.specs.declared.refusal.StepRefusal.{StepRefusal}
use Rattle.kernels.specs.declared.refusal.StepRefusal.TheVariants.{Row, Length, Packing, Interval}
use Rattle.kernels.specs.Groups.{Unpacking, dot}

-- one question: go on where the test holds, else the refusal
abbrev pub ask : {T E : Type 0} → Bool → E → Result T E → Result T E
ask test e next = cond test next (Err e)

-- packing n codes, of which at most `most` may come at once, into `words` words where `needed` are needed
abbrev pub none_outside : Option ℕ → Result (Unit {0}) PackRefusal
none_outside None = Ok tt
none_outside (Some place) = Err (Code place)

abbrev pub pack_answer : (most needed : ℕ) → Shape → Side → List ℤ → (words : ℕ) → Result (Unit {0}) PackRefusal
pack_answer most needed s side codes words =
    ask (nat_le 1 (length codes) && nat_le (length codes) most) Count
    (ask (words == needed) Words (none_outside (first_outside (ends_on s side) codes)))

-- packing one group
abbrev pub group_answer : Shape → Side → List ℤ → (words : ℕ) → Result (Unit {0}) PackRefusal
group_answer s side codes words = pack_answer s.group (words_on s side) s side codes words

-- reading the code at a place of a group
abbrev pub code_in : Option (List ℤ) → (place : ℕ) → Result ℤ CodeRefusal
code_in None place = Err CodePacking
code_in (Some codes) place = Ok (slice_index_or codes place (pos 0))

abbrev pub code_answer : Unpacking → Shape → Side → List ℕ → (place : ℕ) → Result ℤ CodeRefusal
code_answer unpacked s side words place =
    ask (nat_lt place s.group) Place (ask (length words == words_on s side) CodeLength (code_in (unpacked side words) place))

-- a call that asks for the row alone
abbrev pub row_answer : {V : Type 0} → (row : ℕ) → V → Result V RowRefusal
row_answer row value = ask (nat_lt row 64) NoRow (Ok value)

-- the sum of the products of two packed groups, where both are packings
abbrev pub both_dot : Option (List ℤ) → Option (List ℤ) → Option ℤ
both_dot None activations = None
both_dot (Some weights) None = None
both_dot (Some weights) (Some activations) = Some (dot weights activations)

abbrev pub gain_of : Option ℤ → (below : Bool) → Result ℤ StepRefusal
gain_of None below = Err Packing
gain_of (Some gain) below = ask below Interval (Ok gain)

-- what a step of a row with so many steps adds to its total, or why there is none
unfoldable pub step_gain : Unpacking → Facts → (row steps : ℕ) → (weights activations : List ℕ) → Result ℤ StepRefusal
step_gain unpacked f row steps weights activations =
    ask (nat_lt row 64) Row
    (ask (length weights == words_on f.shape Weights && length activations == words_on f.shape Activations) Length
    (gain_of (both_dot (unpacked Weights weights) (unpacked Activations activations)) (nat_lt steps f.interval)))

abbrev pub step_answer : Result ℤ StepRefusal → Result (Unit {0}) StepRefusal
step_answer (Ok gain) = Ok tt
step_answer (Err e) = Err e

-- a row's total and steps after a step with that gain
abbrev pub total_after : Result ℤ StepRefusal → ℤ → ℤ
total_after (Ok gain) total = total +ℤ gain
total_after (Err e) total = total

abbrev pub steps_after : Result ℤ StepRefusal → ℕ → ℕ
steps_after (Ok gain) steps = steps + 1
steps_after (Err e) steps = steps
