-- An unpacking into as many codes as are asked for, but at most one more than a list may have.
use Rattle.std.proofs.Common.{◌≡◌, ℕ, ◌<◌, min, Bool, true, false, List, length, ℤ, is_ok, if◌then◌else◌, Ok, Err, Result, sym, refl, ap, ◌∙◌, subst, inl, inr, arith}
use Rattle.std.proofs.lemmas.Bool.{cases_lt}
use Rattle.std.proofs.lemmas.List.{with_items_is}
use Rattle.std.specs.Vec.{with_items}
use Rattle.std.proofs.lemmas.Bool.Decides.{nat_tests}
use Rattle.std.specs.declared.alloc.Global.{Global}
use Rattle.std.specs.declared.vec.Vec.{Vec}
use Rattle.codes.specs.declared.shape.Shape.{Shape}
use Rattle.codes.specs.declared.side.Side.{Side}
use Rattle.kernels.specs.declared.refusal.UnpackRefusal.{UnpackRefusal}
use Rattle.kernels.specs.declared.refusal.UnpackRefusal.TheVariants.{Count}
use Rattle.kernels.specs.Groups.{Unpacking}
use Rattle.kernels.specs.Answers.{ask}
use Rattle.kernels.specs.Lists.{unpacked_list, bad_group, unpack_list_answer, codes_after}
use Rattle.replies.specs.declared.reply.Reply.TheVariants.{Codes}
use Rattle.replies.specs.Responses.{CodesOrRefused, UnpackReplied}

passed : {E : Type 0} (y : Unit {0}) (b : Bool) (e : E) (next : Result (Unit {0}) E) → Ok y ≡ ask b e next → Ok y ≡ next
passed y true e next h = h
passed y false e next h = cc

all_codes : (y : Unit {0}) (all : Result (List ℤ) ℕ) (before : List ℤ) → Ok y ≡ bad_group all → all ≡ Ok (codes_after all before)
all_codes y (Ok codes) before h = refl
all_codes y (Err group) before h = cc

module _ (u : Unpacking) (s : Shape) (side : Side) (words : List ℕ) where
  good : (y : Unit {0}) (n : ℕ) → Ok y ≡ unpack_list_answer u s side n words → Ok y ≡ bad_group (unpacked_list u s side n words)
  unfolding unpack_list_answer
  good y n h = passed y _ _ _ (passed y _ _ _ h)

  too_many : (n : ℕ) → 65536 < n → unpack_list_answer u s side n words ≡ Err Count
  unfolding unpack_list_answer
  too_many n h = grind (arith, nat_tests)

  few : (y : Unit {0}) (n k : ℕ) → k ≡ min n 65537 → Ok y ≡ unpack_list_answer u s side k words → k ≡ n
  few y n k e h =
      elim (cases_lt n 65537) [
        | inl l ↦ omega arith
        | inr l ↦ let m = too_many k (omega arith) in cc
      ]

  pub unpacked : (n : ℕ) (lent : List ℤ) (answer : Result (Unit {0}) UnpackRefusal) (y : Unit {0}) (v : Vec ℤ Global) (read : List ℤ) → answer ≡ Ok y
      → answer ≡ unpack_list_answer u s side (length lent) words → read ≡ (if is_ok answer then codes_after (unpacked_list u s side (length lent) words) lent else lent)
      → length lent ≡ min n 65537 → length read ≡ v.len → UnpackReplied u s side n words (Codes (with_items v read))
  unpacked n lent answer y v read e h i l r =
      let same : length lent ≡ n = few y n (length lent) l (sym e ∙ h) in
      let yes = sym e ∙ h ∙ ap (λ k. unpack_list_answer u s side k words) same in
      let Is : Result (Unit {0}) UnpackRefusal → Type 0 = λ a. read ≡ (if is_ok a then codes_after (unpacked_list u s side (length lent) words) lent else lent) in
      let Replies : Result (Unit {0}) UnpackRefusal → Type 0 = λ a. CodesOrRefused a (unpacked_list u s side n words) (Codes (with_items v read)) in
      subst Replies yes
      (all_codes y (unpacked_list u s side n words) lent (good y n yes)
      ∙ ap Ok (sym (with_items_is v read r ∙ subst Is e i ∙ ap (λ k. codes_after (unpacked_list u s side k words) lent) same)))
