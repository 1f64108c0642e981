-- The texts of replies, as bytes.
use Rattle.std.specs.Prelude.{List, ◌++◌, codes, decimal, flat_map, ℕ, ℤ}
use Rattle.std.specs.Fmt.{signed_decimal}
use Rattle.codes.specs.declared.shape.Shape.{Shape}
use Rattle.codes.specs.declared.facts.Facts.{Facts}
use Rattle.codes.specs.declared.zero_points.ZeroPoints.{ZeroPoints}
use Rattle.replies.specs.declared.reply.Reply.{Reply}
use Rattle.replies.specs.declared.reply.Reply.TheVariants as reply

-- each item behind a space
abbrev pub items_text : {A : Type 0} → (A → List ℕ) → List A → List ℕ
items_text text items = flat_map (λ x. codes " " ++ text x) items

-- ---- facts

abbrev pub ends_text : Shape → List ℕ
ends_text s =
    codes "ends " ++ (signed_decimal s.weight_ends.low ++ (codes " " ++ (signed_decimal s.weight_ends.high
    ++ (codes " " ++ (signed_decimal s.activation_ends.low ++ (codes " " ++ signed_decimal s.activation_ends.high))))))

abbrev pub shape_text : Shape → List ℕ
shape_text s = codes " group " ++ (decimal s.group ++ (codes " words " ++ (decimal s.weight_words ++ (codes " " ++ decimal s.activation_words))))

abbrev pub counts_text : Facts → List ℕ
counts_text f = codes " interval " ++ (decimal f.interval ++ (codes " rows " ++ (decimal f.rows ++ (codes " longest " ++ decimal f.longest))))

abbrev pub zeros_text : ZeroPoints → List ℕ
zeros_text z = codes " zeros " ++ (signed_decimal z.weight ++ (codes " " ++ signed_decimal z.activation))

abbrev pub limits_text : Facts → List ℕ
limits_text f = shape_text f.shape ++ (counts_text f ++ zeros_text f.zeros)

abbrev pub facts_text : Facts → List ℕ
facts_text f = ends_text f.shape ++ limits_text f

-- ---- replies

-- what a read answers
abbrev pub sum_text : (sum : ℤ) (steps drains : ℕ) → List ℕ
sum_text sum steps drains = codes "sum " ++ (signed_decimal sum ++ (codes " steps " ++ (decimal steps ++ (codes " drains " ++ decimal drains))))

abbrev pub reply_text : Reply → List ℕ
reply_text (reply.Accepted interval) = codes "accepted interval " ++ decimal interval
reply_text (reply.Refused number) = codes "refused " ++ decimal number
reply_text (reply.RefusedAt number place) = codes "refused " ++ (decimal number ++ (codes " " ++ decimal place))
reply_text (reply.RefusedInRow number row group) = codes "refused " ++ (decimal number ++ (codes " " ++ (decimal row ++ (codes " " ++ decimal group))))
reply_text (reply.Facts facts) = facts_text facts
reply_text (reply.Words words) = codes "words" ++ items_text decimal words.items
reply_text (reply.Codes list) = codes "codes" ++ items_text signed_decimal list.items
reply_text reply.Stepped = codes "stepped"
reply_text (reply.Steps steps) = codes "steps " ++ decimal steps
reply_text (reply.Total total) = codes "total " ++ signed_decimal total
reply_text reply.Opened = codes "opened"
reply_text reply.Fed = codes "fed"
reply_text reply.Settled = codes "settled"
reply_text (reply.Sum sum steps drains) = sum_text sum steps drains
reply_text reply.Resumed = codes "resumed"
reply_text reply.Cleared = codes "cleared"
reply_text reply.Misplaced = codes "misplaced"
reply_text (reply.Expected line what) = codes "error " ++ (decimal line ++ (codes " expected " ++ what.now))
