-- The order of values and of rows is total, and only equal ones tie. So rows can be keys.
use Rattle.std.proofs.Common.{◌≡◌, ◌∙◌, refl, sym, ap, arith, Bool, true, false, Ordering, Less, Equal, Greater, nat_cmp, int_cmp}
use Rattle.std.specs.Ordering.{ordering_then, is_eq, eq_by_cmp}
use Rattle.std.specs.Cmp.{IsTotalOrder, IsEquivalence, eq_by_cmp_equiv}
use Rattle.std.specs.FinMap.{IsAntisymmetric, slice_cmp-IsAntisymmetric, nat_cmp-IsAntisymmetric, int_cmp-IsAntisymmetric}
use Rattle.std.proofs.lemmas.Cmp.{on_total, then_total, nat_cmp_total, int_cmp_total, nat_list_cmp_total, lists_total, tied_itself}
use Rattle.cq_values.specs.declared.value.Value.{Value}
use Rattle.cq_values.specs.declared.value.Value.TheVariants.{Null, Number, Text, Day}
use Rattle.cq_values.specs.Value.{Row}
use Rattle.cq_values.specs.Order.{kind, number, bytes, value_cmp, row_cmp, same_row}

pub value_cmp_total : IsTotalOrder value_cmp
value_cmp_total = then_total (on_total kind nat_cmp_total) (then_total (on_total number int_cmp_total) (on_total bytes nat_list_cmp_total))

pub row_cmp_total : IsTotalOrder row_cmp
row_cmp_total = lists_total value_cmp_total

-- what ties by two orders ties by each
pub then_both : (o p : Ordering) → ordering_then o p ≡ Equal → (o ≡ Equal) × (p ≡ Equal)
then_both Less p e = absurd (cc)
then_both Equal p e = (refl, e)
then_both Greater p e = absurd (cc)

-- a value is known by its kind, its number and its bytes
known : (a b : Value) → kind a ≡ kind b → number a ≡ number b → bytes a ≡ bytes b → a ≡ b
known (Number m) (Number n) k e t = ap Number e
known (Day m) (Day n) k e t = ap Day e
known (Text s) (Text u) k e t = ap Text t
known Null Null k e t = refl
known (Number m) (Day n) k e t = absurd (omega arith)
known (Number m) (Text n) k e t = absurd (omega arith)
known (Number m) Null k e t = absurd (omega arith)
known (Day m) (Number n) k e t = absurd (omega arith)
known (Day m) (Text n) k e t = absurd (omega arith)
known (Day m) Null k e t = absurd (omega arith)
known (Text m) (Number n) k e t = absurd (omega arith)
known (Text m) (Day n) k e t = absurd (omega arith)
known (Text m) Null k e t = absurd (omega arith)
known Null (Number n) k e t = absurd (omega arith)
known Null (Day n) k e t = absurd (omega arith)
known Null (Text n) k e t = absurd (omega arith)

pub value_cmp_same : IsAntisymmetric value_cmp
value_cmp_same a b e =
    let first = then_both (nat_cmp (kind a) (kind b)) _ e in
    let rest = then_both (int_cmp (number a) (number b)) _ first.1 in
    known a b (nat_cmp-IsAntisymmetric _ _ first.0) (int_cmp-IsAntisymmetric _ _ rest.0) (slice_cmp-IsAntisymmetric nat_cmp-IsAntisymmetric _ _ rest.1)

pub row_cmp_same : IsAntisymmetric row_cmp
row_cmp_same = slice_cmp-IsAntisymmetric value_cmp_same

pub same_row-refl : (r : Row) → same_row r r ≡ true
unfolding same_row
same_row-refl r = ap is_eq (tied_itself row_cmp_total r)

pub same_row-equiv : IsEquivalence same_row
unfolding same_row
same_row-equiv = eq_by_cmp_equiv row_cmp_total

is_eq-Equal : (o : Ordering) → is_eq o ≡ true → o ≡ Equal
is_eq-Equal Less e = absurd (cc)
is_eq-Equal Equal e = refl
is_eq-Equal Greater e = absurd (cc)

-- rows that pass the test are one
pub same_row-same : (r s : Row) → same_row r s ≡ true → r ≡ s
unfolding same_row
same_row-same r s e = row_cmp_same r s (is_eq-Equal _ e)

-- a test that only equal values pass, and each with itself, is that of the order
pub ties_where_same : (E : Value → Value → Bool) → ((x y : Value) → E x y ≡ true → x ≡ y) → ((x : Value) → E x x ≡ true) → (x y : Value) → E x y ≡ eq_by_cmp value_cmp x y
ties_where_same E same itself x y = by_answers (E x y) (eq_by_cmp value_cmp x y) (λ e. ap (λ (z : Value). eq_by_cmp value_cmp x z) (sym (same x y e)) ∙ ap is_eq (tied_itself value_cmp_total x))
    (λ e. ap (λ (z : Value). E x z) (sym (value_cmp_same x y (is_eq-Equal _ e))) ∙ itself x)
  where
    by_answers : (a b : Bool) → (a ≡ true → b ≡ true) → (b ≡ true → a ≡ true) → a ≡ b
    by_answers true b f g = sym (f refl)
    by_answers false true f g = g refl
    by_answers false false f g = refl
