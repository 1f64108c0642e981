-- A list of calls, one more at its end.
use Rattle.std.proofs.Common.{◌≡◌, ℕ, zero, suc, ◌+◌, ◌<◌, ◌≤◌, List, [], ◌∷◌, ◌++◌, length, get_or, take, drop, set, sym, refl, ap, ◌∙◌, subst, arith, length-take-le, take_all}
use Rattle.std.proofs.lemmas.List.{take_more, take_more_set, drop-drop, drop-set-lt}
use Rattle.codes.specs.declared.facts.Facts.{Facts}
use Rattle.codes.specs.declared.shape.Shape.{Shape}
use Rattle.kernels.specs.Groups.{Unpacking}
use Rattle.kernels.specs.Meanings.{Meaning}
use Rattle.runs.specs.declared.replay.Run.{Run}
use Rattle.runs.specs.declared.calls.Call.{Call}
use Rattle.runs.specs.declared.calls.Call.TheVariants as call
use Rattle.runs.specs.declared.calls.Answer.{Answer}
use Rattle.runs.specs.declared.calls.Answer.TheVariants as answer
use Rattle.runs.specs.Stories.{Story}
use Rattle.runs.specs.Tells.{ReadTrue}
use Rattle.runs.specs.Law.{Point, StandsAt, kernel_of, Right, point_after, Turns, AllRight, point_before, end_point, ReadsExact, Lawful}

module _ (f : Facts) (u : Unpacking) where
  -- the calls so far are right, and lead there
  abbrev pub Leads : List Call → List Answer → Point → Point → Type 0
  Leads calls answers p q = AllRight f u calls answers p × (end_point f u calls answers p ≡ q)

  leads_push : (calls : List Call) (answers : List Answer) (c : Call) (a : Answer) (p : Point) → length calls ≡ length answers
      → AllRight f u calls answers p → Right f u c a (end_point f u calls answers p)
      → Leads (calls ++ (c ∷ [])) (answers ++ (a ∷ [])) p (point_after f u c a (end_point f u calls answers p))
  leads_push [] [] c a p e h right = ((right, tt), refl)
  leads_push [] (b ∷ bs) c a p e h right = absurd (let no : 0 ≡ suc (length bs) = e in omega arith)
  leads_push (d ∷ ds) [] c a p e h right = absurd (let no : suc (length ds) ≡ 0 = e in omega arith)
  leads_push (d ∷ ds) (b ∷ bs) c a p e h right =
      let e' : suc (length ds) ≡ suc (length bs) = e in
      let r = leads_push ds bs c a (point_after f u d b p) (omega arith) h.1 right in
      ((h.0, r.0), r.1)

  leads_past : (calls : List Call) (answers : List Answer) (c : Call) (p : Point) → length answers ≤ length calls
      → AllRight f u calls answers p → Leads (calls ++ (c ∷ [])) answers p (end_point f u calls answers p)
  leads_past [] [] c p l h = (tt, refl)
  leads_past [] (b ∷ bs) c p l h = absurd (let no : suc (length bs) ≤ 0 = l in omega arith)
  leads_past (d ∷ ds) [] c p l h = (tt, refl)
  leads_past (d ∷ ds) (b ∷ bs) c p l h =
      let l' : suc (length bs) ≤ suc (length ds) = l in
      let r = leads_past ds bs c (point_after f u d b p) (omega arith) h.1 in
      ((h.0, r.0), r.1)

  -- answers beyond the calls say nothing
  leads_rest : (i : ℕ) (calls : List Call) (answers : List Answer) (p : Point) → length calls ≤ i
      → AllRight f u calls (take i answers) p → Leads calls answers p (end_point f u calls (take i answers) p)
  leads_rest i [] answers p l h = (tt, refl)
  leads_rest zero (d ∷ ds) answers p l h = absurd (let no : suc (length ds) ≤ 0 = l in omega arith)
  leads_rest (suc i) (d ∷ ds) [] p l h = (tt, refl)
  leads_rest (suc i) (d ∷ ds) (b ∷ bs) p l h =
      let l' : suc (length ds) ≤ suc i = l in
      let r = leads_rest i ds bs (point_after f u d b p) (omega arith) h.1 in
      ((h.0, r.0), r.1)

  -- the answer at a place is right where its call was made
  right_at : (calls : List Call) (answers : List Answer) (i : ℕ) (p : Point) (d : Call) (e : Answer) → i < length calls → i < length answers → AllRight f u calls answers p
      → Right f u (get_or calls i d) (get_or answers i e) (point_before f u calls answers i p)
  right_at [] answers i p d e l k h = absurd (let no : i < 0 = l in omega arith)
  right_at (c ∷ cs) [] i p d e l k h = absurd (let no : i < 0 = k in omega arith)
  right_at (c ∷ cs) (a ∷ as') zero p d e l k h = h.0
  right_at (c ∷ cs) (a ∷ as') (suc i) p d e l k h =
      let l' : suc i < suc (length cs) = l in
      let k' : suc i < suc (length as') = k in
      right_at cs as' i (point_after f u c a p) d e (omega arith) (omega arith) h.1

  -- so every accepted read is exact
  pub reads_exact : (calls : List Call) (answers : List Answer) (p : Point) → AllRight f u calls answers p → ReadsExact f u calls answers p
  reads_exact calls answers p h row sum steps drains s R =
      let at : Point = point_before f u calls answers R.i p in
      let right = right_at calls answers R.i p call.Settle answer.Misplaced R.made R.answered h in
      let read = subst (λ (a : Answer). Right f u (call.Read row) a at) (R.answer_is answer.Misplaced) (subst (λ (c : Call). Right f u c (get_or answers R.i answer.Misplaced) at) (R.call_is call.Settle) right) in
      subst (λ (t : Story). ReadTrue f t row sum steps drains) (sym R.since) read.1

-- the first i calls are made, and the run stands where they lead
pub record WalkedTo {K : Type 0} (means : K → Meaning) (f : Facts) (u : Unpacking) (calls : List Call) (from : Point) (i : ℕ) (run : Run K) (answers : List Answer) : Type 0 where
  pub right : AllRight f u (take i calls) (take i answers) from
  pub stands : StandsAt means run (end_point f u (take i calls) (take i answers) from)

module _ {K : Type 0} (means : K → Meaning) (unpacked : Shape → Unpacking) (f : Facts) (calls : List Call) (from : Point) where
  abbrev u : Unpacking
  u = unpacked f.shape

  pub walked_more : (i : ℕ) (run q : Run K) (answers : List Answer) (d : Call) (a : Answer) → i < length calls → i < length answers → (means (kernel_of run)).facts ≡ f
      → Turns means unpacked run (get_or calls i d) a q → WalkedTo means f (unpacked f.shape) calls from i run answers → WalkedTo means f (unpacked f.shape) calls from (i + 1) q (set answers i a)
  walked_more i run q answers d a l l' same h w =
      let x : Call = get_or calls i d in
      let p : Point = end_point f u (take i calls) (take i answers) from in
      let F : Facts → Type 0 = λ y. Right y (unpacked y.shape) x a p × StandsAt means q (point_after y (unpacked y.shape) x a p) in
      let m = subst F same (h.1 p w.stands) in
      let e : take (i + 1) calls ≡ take i calls ++ (x ∷ []) = take_more calls i d l in
      let e' : take (i + 1) (set answers i a) ≡ take i answers ++ (a ∷ []) = take_more_set answers i a l' in
      let long : length (take i calls) ≡ length (take i answers) = omega (arith, length-take-le i calls (omega arith), length-take-le i answers (omega arith)) in
      let c = leads_push f u (take i calls) (take i answers) x a from long w.right m.0 in
      let Q : List Call → Type 0 = λ cs. Leads f u cs (take (i + 1) (set answers i a)) from (point_after f u x a p) in
      let R : List Answer → Type 0 = λ bs. Leads f u (take i calls ++ (x ∷ [])) bs from (point_after f u x a p) in
      let c' = subst Q (sym e) (subst R (sym e') c) in
      record { right = c'.0; stands = subst (λ (y : Point). StandsAt means q y) (sym c'.1) m.1 }

  pub walked_past : (i : ℕ) (run : Run K) (answers : List Answer) → i < length calls → length answers ≤ i → WalkedTo means f (unpacked f.shape) calls from i run answers → WalkedTo means f (unpacked f.shape) calls from (i + 1) run answers
  walked_past i run answers l l' w =
      let x : Call = get_or calls i call.Settle in
      let p : Point = end_point f u (take i calls) (take i answers) from in
      let e : take (i + 1) calls ≡ take i calls ++ (x ∷ []) = take_more calls i call.Settle l in
      let e' : take (i + 1) answers ≡ take i answers = take_all (i + 1) answers (omega arith) ∙ sym (take_all i answers l') in
      let few : length (take i answers) ≤ length (take i calls) = omega (arith, length-take-le i calls (omega arith), ap length (take_all i answers l')) in
      let c = leads_past f u (take i calls) (take i answers) x from few w.right in
      let Q : List Call → Type 0 = λ cs. Leads f u cs (take (i + 1) answers) from p in
      let R : List Answer → Type 0 = λ bs. Leads f u (take i calls ++ (x ∷ [])) bs from p in
      let c' = subst Q (sym e) (subst R (sym e') c) in
      record { right = c'.0; stands = subst (λ (y : Point). StandsAt means run y) (sym c'.1) w.stands }

  pub walked_all : (i : ℕ) (run : Run K) (answers : List Answer) → length calls ≤ i → WalkedTo means f (unpacked f.shape) calls from i run answers → Lawful means f (unpacked f.shape) calls answers from run
  walked_all i run answers l w =
      let Q : List Call → Type 0 = λ cs. AllRight f u cs (take i answers) from × StandsAt means run (end_point f u cs (take i answers) from) in
      let h = subst Q (take_all i calls l) (w.right, w.stands) in
      let c = leads_rest f u i calls answers from l h.0 in
      record { right = c.0; reads = reads_exact f u calls answers from c.0; stands = subst (λ (y : Point). StandsAt means run y) (sym c.1) h.1 }

-- ---- the places behind the answers that were written

pub rest_next : {X : Type 0} (xs ys : List X) (i : ℕ) → drop i xs ≡ drop i ys → drop (i + 1) xs ≡ drop (i + 1) ys
rest_next xs ys i h = sym (drop-drop 1 i xs) ∙ ap (drop 1) h ∙ drop-drop 1 i ys

pub rest_written : {X : Type 0} (xs ys : List X) (i : ℕ) (x : X) → drop i xs ≡ drop i ys → drop (i + 1) (set xs i x) ≡ drop (i + 1) ys
rest_written xs ys i x h = drop-set-lt (i + 1) xs i x (omega arith) ∙ rest_next xs ys i h
