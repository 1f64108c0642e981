-- Loops over the chunks of a list, numbered from 0: each turn has the part that its number says.
use Rattle.std.proofs.Common.{◌≡◌, ℕ, ◌+◌, ◌-◌, ◌*◌, ◌<◌, ◌≤◌, min, List, [], ◌++◌, length, take, drop, ℤ, Some, None, Bor, sym, ap, ◌∙◌, subst, inl, inr, add-mul, one-mul, arith}
use Rattle.std.specs.Iterator.Adapters.{enumerate_source, enumerate_count, enumerate_steps}
use Rattle.std.specs.Slice.Iter.{chunks_rest, chunks_size, chunks_steps, chunks_exact_rest, chunks_exact_size, chunks_exact_steps}
use Rattle.std.proofs.lemmas.Nat.{mul-le}
use Rattle.std.proofs.lemmas.List.{length-append, length-drop, take_at, take_all, drop_at, drop_all, drop-drop, append-nil, nil_from_length}
use Rattle.std.proofs.lemmas.Bool.{cases_lt}
use Rattle.codes.specs.declared.facts.Facts.{Facts}
use Rattle.codes.specs.declared.side.Side.{Side}
use Rattle.codes.specs.Codes.{groups}
use Rattle.codes.specs.Shapes.{words_on}
use Rattle.kernels.specs.Lists.{words_for}
use Rattle.kernels.proofs.ListSizes.{some_words, width_of, part_ends, group_starts, groups_hold}

-- a front as long as a chunk, or the whole list where less is left
pub front_parts : {X : Type 0} (m n : ℕ) (front rest : List X) → length front ≡ min m n → length rest ≡ n - m → (take m (front ++ rest) ≡ front) × (drop m (front ++ rest) ≡ rest)
front_parts m n front rest e r =
    elim (cases_lt n m) [
      | inl l ↦
          let none : rest ≡ [] = nil_from_length rest (omega arith) in (
            ap (λ ys. take m (front ++ ys)) none ∙ ap (take m) (append-nil front) ∙ take_all m front (omega arith),
            drop_all m (front ++ rest) (omega (arith, length-append front rest)) ∙ sym none,
          )
      | inr l ↦ (take_at front rest m (omega arith), drop_at front rest m (omega arith))
    ]

-- the chunk in front of what is left from one number on
record Front {X : Type 0} (xs : List X) (size at : ℕ) (part rest : List X) : Type 0 where
  pub part_is : part ≡ take size (drop (at * size) xs)
  pub rest_is : rest ≡ drop ((at + 1) * size) xs

front_at : {X : Type 0} (xs : List X) (size at : ℕ) (left part rest : List X) → left ≡ drop (at * size) xs → left ≡ part ++ rest → length part ≡ min size (length left) → Front xs size at part rest
front_at xs size at left part rest is cut long =
    let sum : length left ≡ length part + length rest = ap length cut ∙ length-append part rest in
    let f = front_parts size (length left) part rest long (omega arith) in
    let on : at * size + size ≡ (at + 1) * size = omega (arith, add-mul at 1 size, one-mul size) in
    record {
      part_is = sym f.0 ∙ ap (take size) (sym cut ∙ is);
      rest_is = sym f.1 ∙ ap (drop size) (sym cut ∙ is) ∙ drop-drop size (at * size) xs ∙ ap (λ i. drop i xs) on;
    }

-- a loop stands at a number: its chunks have that size, and what it has left begins there
pub record StandsAt {X : Type 0} (xs : List X) (size at chunk : ℕ) (rest : List X) : Type 0 where
  pub size_is : chunk ≡ size
  pub rest_is : rest ≡ drop (at * size) xs

-- a turn has that part, and leaves the loop at the next number
pub record Turn {X : Type 0} (xs : List X) (size before after chunk : ℕ) (rest : List X) (p : ℕ × Bor (List X)) : Type 0 where
  pub at : p.0 ≡ before
  pub part_is : p.1.now ≡ take size (drop (p.0 * size) xs)
  pub next : after ≡ p.0 + 1
  pub on : StandsAt xs size after chunk rest

turned : {X : Type 0} (xs : List X) (size before after chunk : ℕ) (rest : List X) (p : ℕ × Bor (List X)) → p.0 ≡ before → after ≡ before + 1 → chunk ≡ size → Front xs size before p.1.now rest
    → Turn xs size before after chunk rest p
turned xs size before after chunk rest p e next same f =
    record {
      at = e;
      part_is = f.part_is ∙ ap (λ i. take size (drop (i * size) xs)) (sym e);
      next = omega (arith, e, next);
      on = record { size_is = same; rest_is = f.rest_is ∙ ap (λ i. drop (i * size) xs) (sym next) };
    }

-- ---- whole chunks

exact_turn : {X : Type 0} (xs : List X) (size count : ℕ) (s t : _) (p : ℕ × Bor (List X)) → length xs ≡ count * size → 1 ≤ size
    → StandsAt xs size (enumerate_count s) (chunks_exact_size (enumerate_source s)) (chunks_exact_rest (enumerate_source s)) → enumerate_steps (chunks_exact_steps {A = X}) s (Some p) t
    → (p.0 < count) × Turn xs size (enumerate_count s) (enumerate_count t) (chunks_exact_size (enumerate_source t)) (chunks_exact_rest (enumerate_source t)) p
exact_turn xs size count s t p long some stands h =
    let step = h.0 in
    let n : ℕ = enumerate_count s in
    let left = ap length stands.rest_is ∙ length-drop (n * size) xs in
    let sum = ap length step.1.0 ∙ length-append p.1.now (chunks_exact_rest (enumerate_source t)) in
    let there : n < count = elim (cases_lt n count) [
      | inl l ↦ l
      | inr l ↦ absurd (omega (arith, mul-le count size n size l (omega arith), left, sum, long, step.1.1, stands.size_is, some))
    ] in
    let f = front_at xs size n _ p.1.now _ stands.rest_is step.1.0 (omega (arith, step.1.1, stands.size_is, sum)) in
    (omega (arith, there, h.1), turned xs size n _ _ _ p h.1 h.2 (step.0 ∙ stands.size_is) f)

pub exact_end : {X : Type 0} (xs : List X) (size count : ℕ) (s t : _) → length xs ≡ count * size
    → StandsAt xs size (enumerate_count s) (chunks_exact_size (enumerate_source s)) (chunks_exact_rest (enumerate_source s)) → enumerate_steps (chunks_exact_steps {A = X}) s None t → count ≤ enumerate_count s
exact_end xs size count s t long stands h =
    let left = ap length stands.rest_is ∙ length-drop (enumerate_count s * size) xs in
    elim (cases_lt (enumerate_count s) count) [
      | inl l ↦ absurd (omega (arith, part_ends (enumerate_count s) size count l, left, long, h.0.1.0, stands.size_is))
      | inr l ↦ l
    ]

-- ---- chunks of which the last may be short

chunks_turn : {X : Type 0} (xs : List X) (size : ℕ) (s t : _) (p : ℕ × Bor (List X))
    → StandsAt xs size (enumerate_count s) (chunks_size (enumerate_source s)) (chunks_rest (enumerate_source s)) → enumerate_steps (chunks_steps {A = X}) s (Some p) t
    → (p.0 * size < length xs) × Turn xs size (enumerate_count s) (enumerate_count t) (chunks_size (enumerate_source t)) (chunks_rest (enumerate_source t)) p
chunks_turn xs size s t p stands h =
    let step = h.0 in
    let n : ℕ = enumerate_count s in
    let begins : n * size < length xs = omega (arith, ap length stands.rest_is ∙ length-drop (n * size) xs, step.1.2) in
    let f = front_at xs size n _ p.1.now _ stands.rest_is step.1.0 (step.1.1 ∙ ap (λ k. min k (length (chunks_rest (enumerate_source s)))) stands.size_is) in
    (subst (λ (i : ℕ). i * size < length xs) (sym h.1) begins, turned xs size n _ _ _ p h.1 h.2 (step.0 ∙ stands.size_is) f)

chunks_end : {X : Type 0} (xs : List X) (size : ℕ) (s t : _)
    → StandsAt xs size (enumerate_count s) (chunks_size (enumerate_source s)) (chunks_rest (enumerate_source s)) → enumerate_steps (chunks_steps {A = X}) s None t → length xs ≤ enumerate_count s * size
chunks_end xs size s t stands h = omega (arith, ap length stands.rest_is ∙ length-drop (enumerate_count s * size) xs, h.0.1.0)

-- ---- the groups of a list

-- a turn over the words of the groups of n codes; f is what the code has read of the facts F
pub record WordsTurn (F f : Facts) (side : Side) (n : ℕ) (words : List ℕ) (before after chunk : ℕ) (rest : List ℕ) (p : ℕ × Bor (List ℕ)) : Type 0 where
  pub there : p.0 < groups F.shape.group n
  pub starts : p.0 * F.shape.group < n
  pub read_starts : p.0 * f.shape.group < n
  pub turn : Turn words (words_on F.shape side) before after chunk rest p

pub words_turn : (F f : Facts) (side : Side) (n : ℕ) (words : List ℕ) (s t : _) (p : ℕ × Bor (List ℕ)) → f ≡ F → length words ≡ words_for F.shape side n
    → StandsAt words (words_on F.shape side) (enumerate_count s) (chunks_exact_size (enumerate_source s)) (chunks_exact_rest (enumerate_source s)) → enumerate_steps (chunks_exact_steps {A = ℕ}) s (Some p) t
    → WordsTurn F f side n words (enumerate_count s) (enumerate_count t) (chunks_exact_size (enumerate_source t)) (chunks_exact_rest (enumerate_source t)) p
words_turn F f side n words s t p same long stands h =
    let e = exact_turn words (words_on F.shape side) (groups F.shape.group n) s t p long (some_words F side) stands h in
    let starts : p.0 * F.shape.group < n = group_starts p.0 F.shape.group n F.shape_rules.2.0 e.0 in
    record { there = e.0; starts = starts; read_starts = subst (λ (x : Facts). p.0 * x.shape.group < n) (sym same) starts; turn = e.1 }

-- a turn over the codes of groups, each of which has its words
pub record CodesTurn (F : Facts) (codes : List ℤ) (width words before after chunk : ℕ) (rest : List ℤ) (p : ℕ × Bor (List ℤ)) : Type 0 where
  pub there : p.0 < groups F.shape.group (length codes)
  pub ends : p.0 * width + width ≤ words
  pub starts : p.0 * F.shape.group < length codes
  pub turn : Turn codes F.shape.group before after chunk rest p

pub codes_turn : (F f : Facts) (side : Side) (codes : List ℤ) (s t : _) (p : ℕ × Bor (List ℤ)) (width words : ℕ) → f ≡ F → words ≡ words_for F.shape side (length codes) → width ≡ words_on f.shape side
    → StandsAt codes F.shape.group (enumerate_count s) (chunks_size (enumerate_source s)) (chunks_rest (enumerate_source s)) → enumerate_steps (chunks_steps {A = ℤ}) s (Some p) t
    → CodesTurn F codes width words (enumerate_count s) (enumerate_count t) (chunks_size (enumerate_source t)) (chunks_rest (enumerate_source t)) p
codes_turn F f side codes s t p width words same long w stands h =
    let e = chunks_turn codes F.shape.group s t p stands h in
    let count : ℕ = groups F.shape.group (length codes) in
    let there : p.0 < count = elim (cases_lt p.0 count) [
      | inl l ↦ l
      | inr l ↦ absurd (omega (arith, mul-le count F.shape.group p.0 F.shape.group l (omega arith), groups_hold F.shape.group (length codes) F.shape_rules.2.0, e.0))
    ] in
    let all : words ≡ count * width = long ∙ ap (λ x. count * x) (sym (width_of f F side width w same)) in
    record { there = there; ends = omega (arith, part_ends p.0 width count there, all); starts = e.0; turn = e.1 }

pub codes_end : (f : Facts) (codes : List ℤ) (s t : _)
    → StandsAt codes f.shape.group (enumerate_count s) (chunks_size (enumerate_source s)) (chunks_rest (enumerate_source s)) → enumerate_steps (chunks_steps {A = ℤ}) s None t
    → groups f.shape.group (length codes) ≤ enumerate_count s
codes_end f codes s t stands h =
    let l = chunks_end codes f.shape.group s t stands h in
    elim (cases_lt (enumerate_count s) (groups f.shape.group (length codes))) [
      | inl k ↦ absurd (omega (arith, group_starts (enumerate_count s) f.shape.group (length codes) f.shape_rules.2.0 k, l))
      | inr k ↦ k
    ]
