-- Ranks: numbers by which most rows of a listing are told apart.
use Rattle.std.specs.Prelude.{◌+◌, ◌*◌, ◌-◌, ◌%◌, ◌^◌, ◌==◌, ◌+ℤ◌, ℕ, zero, suc, ℤ, pos, neg_ℤ, nat_abs, nat_lt, int_le, Bool, true, false, if◌then◌else◌, List, [], ◌∷◌, Option, Some, None, slice_get}
use Rattle.cq_values.specs.declared.value.Value.{Value}
use Rattle.cq_values.specs.declared.value.Value.TheVariants.{Null, Number, Text, Day}
use Rattle.cq_values.specs.Value.{Row, column}
use Rattle.cq_model_bags.specs.declared.sort_key.SortKey.{SortKey}

-- an even rank is that of one value alone
abbrev pub is_own : ℕ → Bool
is_own rank = rank % 2 == 0

-- numbers that are too far from 0 share the least and the greatest rank
abbrev pub number_rank : ℤ → ℕ
number_rank n =
    if int_le n (neg_ℤ (pos (2 ^ 60))) then 1
    else if int_le (pos (2 ^ 60)) n then 2 ^ 62 - 1
    else 2 * nat_abs (n +ℤ pos (2 ^ 60))

-- how many ranks so many bytes have
abbrev pub texts_of : ℕ → ℕ
texts_of zero = 2
texts_of (suc n) = 257 * texts_of n

-- a byte is a digit from 1 on, and where there is none it is 0
abbrev pub digit_of : Option ℕ → ℕ
digit_of None = 0
digit_of (Some b) = b + 1

-- so many bytes are digits, and texts with more of them share a rank
abbrev pub text_rank : ℕ → List ℕ → ℕ
text_rank n [] = 0
text_rank zero (b ∷ t) = 1
text_rank (suc n) (b ∷ t) = if nat_lt b 256 then (b + 1) * texts_of n + text_rank n t else texts_of (suc n) - 1

-- numbers, then days, then texts, and NULL last
abbrev pub value_rank : Value → ℕ
value_rank (Number n) = number_rank n
value_rank (Day d) = 2 ^ 62 + number_rank d
value_rank (Text t) = 2 * 2 ^ 62 + text_rank 7 t
value_rank Null = 3 * 2 ^ 62

-- where there is no value the rank is 0
abbrev pub rank_of : Option Value → ℕ
rank_of None = 0
rank_of (Some v) = value_rank v

abbrev pub column_rank : Row → ℕ → ℕ
column_rank row at = rank_of (slice_get row at)

-- DESC turns the ranks round
abbrev pub directed_rank : Bool → ℕ → ℕ
directed_rank false rank = rank
directed_rank true rank = 2 ^ 64 - 1 - rank

-- two ranks as one number; the second counts where the first is that of one value
abbrev pub joined : Bool → ℕ → ℕ → ℕ
joined descending first second = directed_rank descending first * 2 ^ 64 + (if is_own first then second else 0)

abbrev pub key_rank : SortKey → Row → ℕ
key_rank key row = directed_rank key.descending (value_rank (column row key.column))

-- the ranks of what a listing compares first and second
abbrev pub row_ranks : List SortKey → Row → ℕ
row_ranks [] row = joined false (column_rank row 0) (column_rank row 1)
row_ranks (k ∷ []) row = joined k.descending (value_rank (column row k.column)) (column_rank row 0)
row_ranks (k ∷ l ∷ ks) row = joined k.descending (value_rank (column row k.column)) (key_rank l row)
