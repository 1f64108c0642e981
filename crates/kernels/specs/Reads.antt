-- What reading the places of a group, and looking at one group after another, tells.
use Rattle.std.specs.Prelude.{ℕ, Bool, false, ℤ, Some, None, Ok, Err, Option, Result}
use Rattle.kernels.specs.declared.refusal.CodeRefusal.{CodeRefusal}
use Rattle.kernels.specs.declared.refusal.UnpackRefusal.{UnpackRefusal}
use Rattle.kernels.specs.declared.refusal.UnpackRefusal.TheVariants.{Group}
use Rattle.kernels.specs.Lists.{is_zero}

-- the place was read, as code 0
abbrev pub reads_zero : Result ℤ CodeRefusal → Bool
reads_zero (Ok code) = is_zero code
reads_zero (Err e) = false

-- the refusal of the first bad group, if there is one
abbrev pub none_bad : Option ℕ → Result (Unit {0}) UnpackRefusal
none_bad None = Ok tt
none_bad (Some group) = Err (Group group)
