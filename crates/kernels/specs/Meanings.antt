-- What a kernel means, and what its calls do to that.
use Rattle.std.specs.Prelude.{◌≡◌, ℕ, cond, List, ℤ, pos, Result, ◌≢◌, nat_lt}
use Rattle.codes.specs.declared.facts.Facts.{Facts}
use Rattle.kernels.specs.declared.refusal.StepRefusal.{StepRefusal}
use Rattle.kernels.specs.Groups.{Unpacking}
use Rattle.kernels.specs.Answers.{step_gain, total_after, steps_after}

-- fixed facts and, for each of 64 rows, a total and a count of steps
pub record Meaning : Type 0 where
  pub facts : Facts
  pub total : (row : ℕ) → ℤ
  pub steps : (row : ℕ) → ℕ

-- the facts and every row but this one are as they were
pub record OthersKept (row : ℕ) (m n : Meaning) : Type 0 where
  pub facts : n.facts ≡ m.facts
  pub total : (other : ℕ) → (other ≢ row) → n.total other ≡ m.total other
  pub steps : (other : ℕ) → (other ≢ row) → n.steps other ≡ m.steps other

-- a step with that gain leads from m to n; where it is a refusal, nothing changes
pub record Stepped (row : ℕ) (gain : Result ℤ StepRefusal) (m n : Meaning) : Type 0 where
  pub others : OthersKept row m n
  pub total : n.total row ≡ total_after gain (m.total row)
  pub steps : n.steps row ≡ steps_after gain (m.steps row)

-- a drain leads from m to n: total and steps 0, if there is such a row
pub record Drained (row : ℕ) (m n : Meaning) : Type 0 where
  pub others : OthersKept row m n
  pub total : n.total row ≡ cond (nat_lt row 64) (pos 0) (m.total row)
  pub steps : n.steps row ≡ cond (nat_lt row 64) 0 (m.steps row)

-- what a step of the row adds in the state m
abbrev pub gain_at : Unpacking → Meaning → (row : ℕ) → (weights activations : List ℕ) → Result ℤ StepRefusal
gain_at unpacked m row weights activations = step_gain unpacked m.facts row (m.steps row) weights activations
