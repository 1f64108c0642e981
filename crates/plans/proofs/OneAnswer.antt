-- A request has one answer, and a check that gives it in either case gives it exactly.
use Rattle.std.proofs.Common.{◌≡◌, ℕ, Ok, Err, Result, sym, refl, ap, ◌∙◌, subst, inl, inr, arith, MatchResult}
use Rattle.std.proofs.lemmas.Bool.{cases_order, cases_lt, false≢true}
use Rattle.plans.specs.declared.kind.Kind.{Kind}
use Rattle.plans.specs.declared.request.Request.{Request}
use Rattle.plans.specs.declared.refusal.PlanRefusal.{PlanRefusal}
use Rattle.plans.specs.declared.refusal.PlanRefusal.TheVariants.{UnknownKind, Sizes, Depth, Counts, ZeroPoints, Products, Lane, Sum}
use Rattle.plans.specs.Questions.{refusal_number, Yes, No}
use Rattle.plans.specs.Answers.{FirstNo, Accepted, Longest, with_interval, OneAnswer, Answered}

clash : (k : Kind) (r : Request) (e : PlanRefusal) → Yes k r e → No k r e → ⊥
clash k r UnknownKind y n = n
clash k r Sizes y n = n y
clash k r Depth y n = n y
clash k r Counts y n = n y
clash k r ZeroPoints y n = n y
clash k r Products y n = y n
clash k r Lane y n = y n
clash k r Sum y n = y n

same_number : (e f : PlanRefusal) → refusal_number e ≡ refusal_number f → e ≡ f
same_number UnknownKind f h = grind arith
same_number Sizes f h = grind arith
same_number Depth f h = grind arith
same_number Counts f h = grind arith
same_number ZeroPoints f h = grind arith
same_number Products f h = grind arith
same_number Lane f h = grind arith
same_number Sum f h = grind arith

longest_once : (k : Kind) (r : Request) (m n : ℕ) → Longest k r m → Longest k r n → m ≡ n
longest_once k r m n a b =
    elim (cases_order m n) [
      | inl e ↦ e
      | inr o ↦ elim o [
        | inl l ↦ absurd (b.holds (a.beyond n l b.range.1))
        | inr g ↦ absurd (a.holds (b.beyond m g a.range.1))
      ]
    ]

same_interval : (k : Kind) (r m n : Request) → Accepted k r m → Accepted k r n → m.interval ≡ n.interval
same_interval k r m n a b =
    elim (cases_lt 0 r.interval) [
      | inl l ↦ a.asked l ∙ sym (b.asked l)
      | inr g ↦ (let z : r.interval ≡ 0 = omega arith in longest_once k r m.interval n.interval (a.left z) (b.left z))
    ]

pub one_answer : (k : Kind) (r : Request) → OneAnswer k r
one_answer k r =
    record {
      refusal = λ e f a b. elim (cases_order (refusal_number e) (refusal_number f)) [
        | inl h ↦ same_number e f h
        | inr o ↦ elim o [
          | inl l ↦ absurd (clash k r e (b.before e l) a.no)
          | inr g ↦ absurd (clash k r f (a.before f g) b.no)
        ]
      ];
      plan = λ m n a b. a.rest ∙ ap (with_interval r) (same_interval k r m n a b) ∙ sym b.rest;
      either = λ n e a b. clash k r e (a.yes e) b.no;
    }

pub ok_err : {T E : Type 0} (a : Result T E) (p : T) (e : E) → a ≡ Ok p → a ≡ Err e → ⊥
ok_err a p e q r = let z : ◌≡◌ {A = ℕ} 0 1 = cc in omega arith

pub same_ok : {T E : Type 0} (a : Result T E) (p q : T) → a ≡ Ok p → a ≡ Ok q → p ≡ q
same_ok a p q e f = cc

pub same_err : {T E : Type 0} (a : Result T E) (p q : E) → a ≡ Err p → a ≡ Err q → p ≡ q
same_err a p q e f = cc

-- from the answer by cases to the exact answer
pub exactly : {T : Type 0} (k : Kind) (numbers : T → Request) (r : Request) (a : Result T PlanRefusal) → MatchResult a (λ p. Accepted k r (numbers p)) (λ e. FirstNo k r e) → Answered k numbers r a
exactly k numbers r (Ok p) h =
    record {
      refused = λ e. (λ q. absurd (ok_err (Ok p) p e refl q), λ f. absurd ((one_answer k r).either (numbers p) e h f));
      made = (λ _. h.yes, λ _. refl);
      plan = λ p' q. subst (λ x. Accepted k r (numbers x)) (same_ok (Ok p) p p' refl q) h;
      one = one_answer k r;
    }
exactly k numbers r (Err e) h =
    record {
      refused = λ f. (λ q. subst (FirstNo k r) (same_err (Err e) e f refl q) h, λ g. ap Err ((one_answer k r).refusal e f h g));
      made = (λ q. absurd (false≢true q), λ y. absurd (clash k r e (y e) h.no));
      plan = λ p q. absurd (ok_err (Err e) p e q refl);
      one = one_answer k r;
    }
