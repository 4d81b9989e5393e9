-- SET, one assignment after the other.
use Rattle.std.proofs.Common.{◌≡◌, ℕ, ◌+◌, ◌<◌, List, [], ◌∷◌, ◌++◌, take, length, refl, ◌∙◌, ap, true}
use Rattle.std.specs.Prelude.{slice_index_or, slice_set, Option}
use Rattle.std.specs.List.{Any}
use Rattle.std.proofs.lemmas.List.{take_more}
use Rattle.cq_values.specs.Value.{Row}
use Rattle.cq_model.specs.declared.assignment.Assignment.{Assignment}
use Rattle.cq_model.specs.Expr.{Cond}
use Rattle.cq_model.specs.Eval.{eval}
use Rattle.cq_model.specs.Meaning.{keeps}
use Rattle.cq_model.specs.Write.{with_set}
use Rattle.cq_test_plain.specs.declared.fault.PlainFault.{PlainFault}
use Rattle.cq_test_plain.specs.declared.fault.PlainFault.TheVariants.{Memory, TooWide, SumOutOfRange}
use Rattle.cq_test_plain.specs.Faults.{Tells}
use Rattle.cq_test_plain.specs.WideWrites.{IsSetWide, IsUpdateWide, in_image}

-- the last assignment is carried out last
with_set-push : (assignments : List Assignment) (last : Assignment) (old row : Row)
    → with_set (assignments ++ last ∷ []) old row ≡ slice_set (with_set assignments old row) last.column (eval last.value old)
with_set-push [] last old row = refl
with_set-push (a ∷ later) last old row = with_set-push later last old (slice_set row a.column (eval a.value old))

-- one assignment more
pub with_set_more : (assignments : List Assignment) (i : ℕ) (a : Assignment) (old row : Row) → i < length assignments → slice_index_or assignments i a ≡ a
    → with_set (take (i + 1) assignments) old row ≡ slice_set (with_set (take i assignments) old row) a.column (eval a.value old)
with_set_more assignments i a old row inside at =
    ap (λ first. with_set first old row) (take_more assignments i a inside ∙ ap (λ next. take i assignments ++ next ∷ []) at)
    ∙ with_set-push (take i assignments) a old row

-- where WHERE chooses the row, an UPDATE is too wide if the row's image is
pub told_in_image : (assignments : List Assignment) (condition : Option Cond) (row : Row) (fault : PlainFault)
    → keeps condition row ≡ true → Tells (Any (IsSetWide row) assignments) ⊥ fault → Tells (IsUpdateWide assignments condition row) ⊥ fault
told_in_image assignments condition row Memory chosen told = tt
told_in_image assignments condition row TooWide chosen told = in_image chosen told
told_in_image assignments condition row SumOutOfRange chosen told = absurd told
