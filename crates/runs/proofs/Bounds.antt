-- Sums of codes within their ends stay small.
use Rattle.std.proofs.Common.{ℕ, zero, suc, ◌+◌, ◌*◌, ◌%◌, ◌^◌, ◌<◌, ◌≤◌, List, [], ◌∷◌, ◌++◌, length, take, drop, ℤ, pos, negsuc, ◌+ℤ◌, ◌-ℤ◌, ◌*ℤ◌, neg_ℤ, ◌≤ℤ◌, mod-lt, suc-mul, mul-le-mul, arith, length-take, w64, SFits}
use Rattle.std.specs.List.{AllByRecursion}
use Rattle.std.proofs.ByRecursion.{All-weaker, All-take, All-drop, All-get_or}
use Rattle.std.proofs.lemmas.Int.{ints}
use Rattle.codes.specs.declared.facts.Facts.{Facts}
use Rattle.codes.specs.Codes.{Within, groups}
use Rattle.codes.specs.Sums.{Column, sum_of}
use Rattle.runs.specs.Stories.{Story, fed, settled, columns_of, open_groups, since_drain, onto, group_of}
use Rattle.runs.specs.Feeds.{weight_at, ColumnWithin}
use Rattle.runs.specs.Tells.{products, sum_of_weights, sum_of_activations}

-- z is at most k away from 0
pub record Near (z : ℤ) (k : ℕ) : Type 0 where
  pub low : pos 0 ≤ℤ (z +ℤ pos k)
  pub high : z ≤ℤ pos k

near_pos : (n k : ℕ) → n ≤ k → Near (pos n) k
near_pos n k h = record { low = omega (arith, ints); high = omega (arith, ints) }

near_neg : (n k : ℕ) → n ≤ k → Near (neg_ℤ (pos n)) k
near_neg n k h = record { low = omega (arith, ints); high = omega (arith, ints) }

size_pos : (n : ℕ) → Near (pos n) 255 → n ≤ 255
size_pos n h = omega (arith, ints, h.high)

size_neg : (n : ℕ) → Near (negsuc n) 255 → suc n ≤ 255
size_neg n h = omega (arith, ints, h.low)

near_mul : (a b : ℤ) → Near a 255 → Near b 255 → Near (a *ℤ b) 65025
near_mul (pos a) (pos b) h k = near_pos (a * b) 65025 (mul-le-mul (size_pos a h) (size_pos b k))
near_mul (pos a) (negsuc b) h k = near_neg (a * suc b) 65025 (mul-le-mul (size_pos a h) (size_neg b k))
near_mul (negsuc a) (pos b) h k = near_neg (suc a * b) 65025 (mul-le-mul (size_neg a h) (size_pos b k))
near_mul (negsuc a) (negsuc b) h k = near_pos (suc a * suc b) 65025 (mul-le-mul (size_neg a h) (size_neg b k))

near_add : (a b : ℤ) (j k l : ℕ) → j + k ≤ l → Near a j → Near b k → Near (a +ℤ b) l
near_add a b j k l e h i = record { low = omega (arith, ints, h.low, i.low); high = omega (arith, ints, h.high, i.high) }

near_sub : (a b : ℤ) (j k l : ℕ) → j + k ≤ l → Near a j → Near b k → Near (a -ℤ b) l
near_sub a b j k l e h i = record { low = omega (arith, ints, h.low, i.high); high = omega (arith, ints, h.high, i.low) }

near_more : (a : ℤ) (j l : ℕ) → j ≤ l → Near a j → Near a l
near_more a j l e h = record { low = omega (arith, ints, h.low); high = omega (arith, ints, h.high) }

pub near_fits : (z : ℤ) (k : ℕ) → k < 2 ^ 62 → Near z k → SFits w64 z
near_fits (pos n) k l h = record { sfits = let e : n ≤ k = omega (arith, ints, h.high) in let s : n < 2 ^ 63 = omega arith in s }
near_fits (negsuc n) k l h = record { sfits = let e : suc n ≤ k = omega (arith, ints, h.low) in let s : n < 2 ^ 63 = omega arith in s }

-- a code within its ends
near_code : (lo hi z : ℤ) → neg_ℤ (pos 255) ≤ℤ lo → hi ≤ℤ pos 255 → lo ≤ℤ z → z ≤ℤ hi → Near z 255
near_code lo hi z a b c d = record { low = omega (arith, ints, a, c); high = omega (arith, ints, b, d) }

weight_near : (f : Facts) (z : ℤ) → Within f.shape.weight_ends z → Near z 255
weight_near f z h = let r = f.shape_rules.0 in near_code _ _ z r.0.0 r.1.1 h.0 h.1

activation_near : (f : Facts) (z : ℤ) → Within f.shape.activation_ends z → Near z 255
activation_near f z h = let r = f.shape_rules.1 in near_code _ _ z r.0.0 r.1.1 h.0 h.1

-- the weight of a row of the run
pub weight_within : (f : Facts) (r : ℕ) (c : Column) → r < f.rows → ColumnWithin f c → Within f.shape.weight_ends (weight_at r c)
weight_within f r c l h = All-get_or (Within f.shape.weight_ends) c.weights r (pos 0) (omega (arith, h.rows)) h.weights

sum_near : {X : Type 0} (h : X → ℤ) (k : ℕ) (xs : List X) → AllByRecursion (λ x. Near (h x) k) xs → Near (sum_of h xs) (length xs * k)
sum_near h k [] a = near_more (pos 0) 0 (0 * k) (omega arith) (near_pos 0 0 (omega arith))
sum_near h k (x ∷ xs) a = near_add (h x) (sum_of h xs) k (length xs * k) (suc (length xs) * k) (omega (arith, suc-mul (length xs) k)) a.0 (sum_near h k xs a.1)

module _ (f : Facts) (r : ℕ) (l : r < f.rows) where
  pub products_near : (cs : List Column) → AllByRecursion (ColumnWithin f) cs → Near (products r cs) (length cs * 65025)
  products_near cs a = sum_near (λ c. weight_at r c *ℤ c.activation) 65025 cs (All-weaker (ColumnWithin f) _ (λ c h. near_mul (weight_at r c) c.activation (weight_near f _ (weight_within f r c l h)) (activation_near f _ h.activation)) cs a)

  pub weights_near : (cs : List Column) → AllByRecursion (ColumnWithin f) cs → Near (sum_of_weights r cs) (length cs * 255)
  weights_near cs a = sum_near (weight_at r) 255 cs (All-weaker (ColumnWithin f) _ (λ c h. weight_near f _ (weight_within f r c l h)) cs a)

pub activations_near : (f : Facts) (cs : List Column) → AllByRecursion (ColumnWithin f) cs → Near (sum_of_activations cs) (length cs * 255)
activations_near f cs a = sum_near (λ c. c.activation) 255 cs (All-weaker (ColumnWithin f) _ (λ c h. activation_near f _ h.activation) cs a)

all_left : {X : Type 0} (P : X → Type 0) (xs ys : List X) → AllByRecursion P (xs ++ ys) → AllByRecursion P xs
all_left P [] ys a = tt
all_left P (x ∷ xs) ys a = (a.0, all_left P xs ys a.1)

all_right : {X : Type 0} (P : X → Type 0) (xs ys : List X) → AllByRecursion P (xs ++ ys) → AllByRecursion P ys
all_right P [] ys a = a
all_right P (x ∷ xs) ys a = all_right P xs ys a.1

all_onto : {X : Type 0} (P : X → Type 0) (g : ℕ → X) (k : ℕ) (old : List X) → ((j : ℕ) → P (g j)) → AllByRecursion P old → AllByRecursion P (onto g k old)
all_onto P g zero old h a = a
all_onto P g (suc k) old h a = (h k, all_onto P g k old h a)

-- a group of at most 128 fair columns
abbrev Small : Facts → List Column → Type 0
Small f g = AllByRecursion (ColumnWithin f) g × (length g ≤ 128)

all_open : (f : Facts) (s : Story) → AllByRecursion (ColumnWithin f) (columns_of s) → AllByRecursion (Small f) (open_groups f.shape.group s)
all_open f [] a = tt
all_open f (fed cs ∷ s) a =
    all_onto (Small f) (group_of f.shape.group cs) (groups f.shape.group (length cs)) (open_groups f.shape.group s)
    (λ j. (
      All-take (ColumnWithin f) f.shape.group (drop (j * f.shape.group) cs) (All-drop (ColumnWithin f) (j * f.shape.group) cs (all_left (ColumnWithin f) cs (columns_of s) a)),
      omega (arith, length-take f.shape.group (drop (j * f.shape.group) cs), f.shape_rules.2.1),
    ))
    (all_open f s (all_right (ColumnWithin f) cs (columns_of s) a))
all_open f (settled ∷ s) a = tt

-- what the record of a row holds fits
pub drained_fits : (f : Facts) (r : ℕ) (s : Story) → r < f.rows → AllByRecursion (ColumnWithin f) (columns_of s) → length (columns_of s) ≤ f.longest
    → SFits w64 (products r (columns_of s) -ℤ sum_of (products r) (since_drain f.shape.group f.interval s))
drained_fits f r s l a few =
    let gs = open_groups f.shape.group s in
    let k = length gs % f.interval in
    let small = All-take (Small f) k gs (all_open f s a) in
    let each : AllByRecursion (λ g. Near (products r g) 8323200) (take k gs) = All-weaker (Small f) _ (λ g h. near_more (products r g) (length g * 65025) 8323200 (mul-le-mul {n₂ = 128} {m₂ = 65025} h.1 (omega arith)) (products_near f r l g h.0)) (take k gs) small in
    let t = sum_near (products r) 8323200 (take k gs) each in
    let p = products_near f r l (columns_of s) a in
    let k-small : length (take k gs) ≤ 65536 = omega (arith, length-take k gs, mod-lt (length gs) {m = f.interval} f.interval_rule.0, f.interval_rule.1) in
    let n-small : length (columns_of s) ≤ 65536 = omega (arith, few, f.longest_rule.1) in
    near_fits _ (length (columns_of s) * 65025 + length (take k gs) * 8323200) (omega arith) (near_sub _ _ (length (columns_of s) * 65025) (length (take k gs) * 8323200) _ (omega arith) p t)

pub products_fit : (f : Facts) (r : ℕ) (cs : List Column) → r < f.rows → AllByRecursion (ColumnWithin f) cs → length cs ≤ f.longest → SFits w64 (products r cs)
products_fit f r cs l a few = near_fits _ (length cs * 65025) (omega (arith, few, f.longest_rule.1)) (products_near f r l cs a)

pub weights_fit : (f : Facts) (r : ℕ) (cs : List Column) → r < f.rows → AllByRecursion (ColumnWithin f) cs → length cs ≤ f.longest → SFits w64 (sum_of_weights r cs)
weights_fit f r cs l a few = near_fits _ (length cs * 255) (omega (arith, few, f.longest_rule.1)) (weights_near f r l cs a)

pub activations_fit : (f : Facts) (cs : List Column) → AllByRecursion (ColumnWithin f) cs → length cs ≤ f.longest → SFits w64 (sum_of_activations cs)
activations_fit f cs a few = near_fits _ (length cs * 255) (omega (arith, few, f.longest_rule.1)) (activations_near f cs a)
