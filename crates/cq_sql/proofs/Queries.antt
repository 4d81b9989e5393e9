-- Queries are read exactly, clause by clause.
use Rattle.std.proofs.Common.{◌≡◌, ℕ, ◌≤◌, Bool, true, false, List, [], ◌∷◌, ◌++◌, Option, Some, None, refl, sym, ap, subst, ◌∙◌, append_assoc, arith, inl, inr}
use Rattle.cq_sql_language.specs.declared.statement.FromSource.{FromSource}
use Rattle.cq_sql_language.specs.declared.statement.JoinedSource.{JoinedSource}
use Rattle.cq_sql_language.specs.declared.statement.OrderKey.{OrderKey}
use Rattle.cq_sql_language.specs.declared.statement.Select.{Select}
use Rattle.cq_sql_language.specs.declared.statement.SelectItem.{SelectItem}
use Rattle.cq_sql_language.specs.declared.token.Keyword.{Keyword}
use Rattle.cq_sql_language.specs.declared.token.Keyword.TheVariants as keywords
use Rattle.cq_sql_language.specs.declared.token.Symbol.TheVariants as symbols
use Rattle.cq_sql_language.specs.declared.token.Token.{Token}
use Rattle.cq_sql_language.specs.declared.token.Token.TheVariants as tokens
use Rattle.cq_sql_language.specs.declared.written.ColumnName.{ColumnName}
use Rattle.cq_sql_language.specs.Expression.{IsExpression}
use Rattle.cq_sql_language.specs.Parts.{◌before◌, IsWord, IsCondition, IsListBy, IsNumber, Each, Separated}
use Rattle.cq_sql_language.specs.Query.{IsDistinct, IsAlias, IsSelectItem, IsSource, IsColumnName, AreJoinWords, IsJoin, IsOrderKey, IsLimit, IsSelect}
use Rattle.cq_sql_language.specs.Written.{Written}
use Rattle.cq_sql_expressions.specs.Chains.{joined_at}
use Rattle.cq_sql_expressions.specs.Expressions.{primary_of, factor_of, product_of, sum_of, predicate_of, negation_of, operand_of, expression_of, expression_at}
use Rattle.cq_sql_expressions.proofs.Conditions.{EndsExpression, expression_reads}
use Rattle.cq_sql_expressions.specs.declared.leads.Lead.TheVariants as leads
use Rattle.cq_sql_expressions.specs.Lists.{list_at}
use Rattle.cq_sql_expressions.specs.Read.{after_keyword}
use Rattle.cq_sql_expressions.proofs.Exact.{Reads, Anything, Nothing, keyword_takes, word_leads}
use Rattle.cq_sql_expressions.proofs.Lists.{EndsList, comma_reads}
use Rattle.cq_sql_expressions.proofs.Steps.{by_same, last_makes, lead_makes, made_reads, part_makes, with_ends}
use Rattle.cq_sql_expressions.proofs.Tails.{EndsTail, IsTail, tail_reads, list_behind_reads}
use Rattle.cq_sql.specs.declared.later.LaterClauses.{LaterClauses}
use Rattle.cq_sql.specs.Parts.{condition_at}
use Rattle.cq_sql.specs.Queries.{distinct_at, select_item_at, limit_at, later_at, query_of, query_at}
use Rattle.cq_sql.proofs.NameReads.{number_reads, column_name_reads}
use Rattle.cq_sql.proofs.Orders.{order_key_reads}
use Rattle.cq_sql.proofs.Places.{place, not_word, not_symbol, not_name, not_join, ends_expression, condition_starts, list_starts, limit_starts, start_place, before_place}
use Rattle.cq_sql.proofs.Sources.{alias_reads, source_reads, joins_read}
use Rattle.std.proofs.lemmas.Option.{some_pair_parts}

-- ---- Items
-- AS does not go on with an expression
alias_ends : (alias : Option (List ℕ)) (ts rest : List Token) → IsAlias alias ts → EndsExpression rest → EndsExpression (ts ++ rest)
alias_ends None ts rest h end = rw h end
alias_ends (Some name) ts rest h end = rw (h.2, h.3) refl

-- items are read exactly, where neither more of an expression nor AS follows
select_item_reads : Reads (EndsTail keywords.As EndsExpression) IsSelectItem select_item_at
unfolding select_item_at
select_item_reads =
    made_reads {make = λ x. record { value = x.0; alias = x.1 }} (λ (item : SelectItem). (item.value, item.alias)) (λ item. refl) (λ x. refl) (part_makes expression_reads (λ alias back rest h end. alias_ends alias back rest h end.0) (λ value. last_makes (λ alias. record { value = value; alias = alias }) (with_ends alias_reads (λ rest end. (tt, end.1)))))

-- lists of items are read exactly
items_read : Reads (EndsList leads.Comma (EndsTail keywords.As EndsExpression)) (Separated IsSelectItem) (list_at leads.Comma select_item_at)
items_read = comma_reads select_item_reads (λ ts. (refl, refl))

-- no item begins with DISTINCT
no_distinct_item : (ts : List Token) → list_at leads.Comma select_item_at (tokens.Keyword keywords.Distinct ∷ ts) ≡ None
unfolding list_at select_item_at expression_at expression_of operand_of negation_of predicate_of sum_of product_of joined_at factor_of primary_of
no_distinct_item ts = refl

-- where no DISTINCT stands in front, there is none
no_distinct : (ts : List Token) → after_keyword keywords.Distinct ts ≡ None → distinct_at ts ≡ Some (false, ts)
no_distinct (tokens.Keyword keywords.Distinct ∷ ts) end = absurd (cc end)
no_distinct ts end = refl

-- DISTINCT is read exactly, where no other one follows
distinct_reads : Reads (λ rest. after_keyword keywords.Distinct rest ≡ None) IsDistinct distinct_at
distinct_reads = record { found = found; only = only } where
  found : (b : Bool) (front rest : List Token) → IsDistinct b front → after_keyword keywords.Distinct rest ≡ None → distinct_at (front ++ rest) ≡ Some (b, rest)
  found true front rest h end = rw h refl
  found false front rest h end = rw h (no_distinct rest end)

  only : (b : Bool) (ts rest : List Token) → distinct_at ts ≡ Some (b, rest) → (front : List Token) × (ts ≡ front ++ rest) × IsDistinct b front
  only b (tokens.Keyword keywords.Distinct ∷ ts) rest e =
      let p = some_pair_parts true b ts rest e in
      (tokens.Keyword keywords.Distinct ∷ [], ap (λ (us : List Token). tokens.Keyword keywords.Distinct ∷ us) p.1, subst (λ (x : Bool). IsDistinct x (tokens.Keyword keywords.Distinct ∷ [])) p.0 refl)
  only b ts rest e =
      let p = some_pair_parts false b ts rest e in
      ([], p.1, subst (λ (x : Bool). IsDistinct x []) p.0 refl)

-- ---- Later clauses
-- conditions behind a word are read exactly
pub condition_reads : (word : Keyword) → Reads (EndsTail word EndsExpression) (IsCondition word) (condition_at word)
condition_reads word = by_same (tail_reads word expression_reads) to from where
  to : (condition : Option Written) (ts : List Token) → IsCondition word condition ts → IsTail word IsExpression condition ts
  to None ts h = h
  to (Some w) ts h = h

  from : (condition : Option Written) (ts : List Token) → IsTail word IsExpression condition ts → IsCondition word condition ts
  from None ts h = h
  from (Some w) ts h = h

-- an optional limit is read exactly
limit_reads : Reads (EndsTail keywords.Limit Anything) IsLimit limit_at
limit_reads = by_same (tail_reads keywords.Limit number_reads) to from where
  to : (limit : Option ℕ) (ts : List Token) → IsLimit limit ts → IsTail keywords.Limit IsNumber limit ts
  to None ts h = h
  to (Some n) ts h = h

  from : (limit : Option ℕ) (ts : List Token) → IsTail keywords.Limit IsNumber limit ts → IsLimit limit ts
  from None ts h = h
  from (Some n) ts h = h

-- the later clauses, each with those behind it
abbrev IsOrdered : List OrderKey × Option ℕ → List Token → Type 0
IsOrdered x = IsListBy keywords.Order IsOrderKey x.0 before IsLimit x.1

abbrev IsHaving : Option Written × (List OrderKey × Option ℕ) → List Token → Type 0
IsHaving x = IsCondition keywords.Having x.0 before IsOrdered x.1

abbrev IsGrouped : List ColumnName × (Option Written × (List OrderKey × Option ℕ)) → List Token → Type 0
IsGrouped x = IsListBy keywords.Group IsColumnName x.0 before IsHaving x.1

abbrev IsKept : Option Written × (List ColumnName × (Option Written × (List OrderKey × Option ℕ))) → List Token → Type 0
IsKept x = IsCondition keywords.Where x.0 before IsGrouped x.1

abbrev IsLater : LaterClauses → List Token → Type 0
IsLater later = IsKept (later.condition, (later.group, (later.having, (later.order, later.limit))))

module _ (rest : List Token) (end : rest ≡ []) where
  -- the places at which the later clauses may begin
  limit_place : (n : ℕ) (limit : Option ℕ) (ts : List Token) → n ≤ 6 → IsLimit limit ts → n ≤ place (ts ++ rest)
  limit_place n limit ts le h = start_place n keywords.Limit ts rest (limit_starts limit ts h) le (rw end (omega (arith, le)))

  order_place : (n : ℕ) (x : List OrderKey × Option ℕ) (ts : List Token) → n ≤ 5 → IsOrdered x ts → n ≤ place (ts ++ rest)
  order_place n x ts le h = before_place n keywords.Order rest (list_starts IsOrderKey keywords.Order x.0) le (λ us k. limit_place n x.1 us (omega (arith, le)) k) ts h

  having_place : (n : ℕ) (x : Option Written × (List OrderKey × Option ℕ)) (ts : List Token) → n ≤ 4 → IsHaving x ts → n ≤ place (ts ++ rest)
  having_place n x ts le h = before_place n keywords.Having rest (condition_starts keywords.Having x.0) le (λ us k. order_place n x.1 us (omega (arith, le)) k) ts h

  group_place : (n : ℕ) (x : List ColumnName × (Option Written × (List OrderKey × Option ℕ))) (ts : List Token) → n ≤ 3 → IsGrouped x ts → n ≤ place (ts ++ rest)
  group_place n x ts le h = before_place n keywords.Group rest (list_starts IsColumnName keywords.Group x.0) le (λ us k. having_place n x.1 us (omega (arith, le)) k) ts h

  later_place : (n : ℕ) (later : LaterClauses) (ts : List Token) → n ≤ 2 → IsLater later ts → n ≤ place (ts ++ rest)
  later_place n later ts le h =
      before_place n keywords.Where rest (condition_starts keywords.Where later.condition) le (λ us k. group_place n (later.group, (later.having, (later.order, later.limit))) us (omega (arith, le)) k) ts h

-- the clauses from WHERE on are read exactly, up to the end
later_reads : Reads Nothing IsLater later_at
unfolding later_at
later_reads =
    made_reads {make = λ x. record { condition = x.0; group = x.1.0; having = x.1.1.0; order = x.1.1.1.0; limit = x.1.1.1.1 }} (λ (later : LaterClauses). (later.condition, (later.group, (later.having, (later.order, later.limit))))) (λ later. refl) (λ x. refl)
    (part_makes
    (condition_reads keywords.Where)
    (λ x back rest h end. let there = group_place rest end 3 x back (omega arith) h in (ends_expression (back ++ rest) (omega (arith, there)), not_word keywords.Where (back ++ rest) (omega (arith, there))))
    (λ condition. part_makes
    (list_behind_reads keywords.Group column_name_reads (λ ts. refl))
    (λ x back rest h end. let there = having_place rest end 4 x back (omega arith) h in ((not_symbol symbols.Dot (back ++ rest) (omega (arith, there)), not_symbol symbols.Comma (back ++ rest) (omega (arith, there))), not_word keywords.Group (back ++ rest) (omega (arith, there))))
    (λ group. part_makes
    (condition_reads keywords.Having)
    (λ x back rest h end. let there = order_place rest end 5 x back (omega arith) h in (ends_expression (back ++ rest) (omega (arith, there)), not_word keywords.Having (back ++ rest) (omega (arith, there))))
    (λ having. part_makes
    (list_behind_reads keywords.Order order_key_reads (λ ts. (refl, refl)))
    (λ x back rest h end. let there = limit_place rest end 6 x back (omega arith) h in (((not_word keywords.Asc (back ++ rest) (omega (arith, there)), not_word keywords.Desc (back ++ rest) (omega (arith, there))), not_symbol symbols.Comma (back ++ rest) (omega (arith, there))), not_word keywords.Order (back ++ rest) (omega (arith, there))))
    (λ order. last_makes (λ limit. record { condition = condition; group = group; having = having; order = order; limit = limit }) (with_ends limit_reads (λ rest end. (tt, rw end refl))))))))

-- ---- The query
-- the joins and the later clauses
abbrev IsJoinedOn : List JoinedSource × LaterClauses → List Token → Type 0
IsJoinedOn x = Each IsJoin x.0 before IsLater x.1

-- JOIN has a place
join_place : (front more : List Token) → AreJoinWords front → 1 ≤ place (front ++ more)
join_place front more (inl h) = rw h (omega arith)
join_place front more (inr h) = rw (h.2, h.3) (omega arith)

-- joins begin at a place, or what follows them does
joins_start : (joins : List JoinedSource) (ts rest : List Token) → Each IsJoin joins ts → 1 ≤ place rest → 1 ≤ place (ts ++ rest)
joins_start [] ts rest h next = rw h next
joins_start (j ∷ js) ts rest h next =
    let one = h.3 in
    let split : ts ++ rest ≡ one.0 ++ (one.1 ++ (h.1 ++ rest)) = rw (h.2, one.2) (append_assoc (one.0 ++ one.1) h.1 rest ∙ append_assoc one.0 one.1 (h.1 ++ rest)) in
    subst (λ (us : List Token). 1 ≤ place us) (sym split) (join_place one.0 (one.1 ++ (h.1 ++ rest)) one.3)

-- behind the first source a clause begins, or nothing is left
joins_place : (x : List JoinedSource × LaterClauses) (ts rest : List Token) → rest ≡ [] → IsJoinedOn x ts → 1 ≤ place (ts ++ rest)
joins_place x ts rest end h =
    let split : ts ++ rest ≡ h.0 ++ (h.1 ++ rest) = ap (λ (us : List Token). us ++ rest) h.2 ∙ append_assoc h.0 h.1 rest in
    subst (λ (us : List Token). 1 ≤ place us) (sym split) (joins_start x.0 h.0 (h.1 ++ rest) h.3 (later_place rest end 1 x.1 h.1 (omega arith) h.4))

-- where items were read, no DISTINCT stands in front
items_not_distinct : (items : List SelectItem) (ts rest : List Token) → list_at leads.Comma select_item_at ts ≡ Some (items, rest) → after_keyword keywords.Distinct ts ≡ None
items_not_distinct items ts rest read = by_after (after_keyword keywords.Distinct ts) refl where
  by_after : (after : Option (List Token)) → after_keyword keywords.Distinct ts ≡ after → after_keyword keywords.Distinct ts ≡ None
  by_after None there = there
  by_after (Some us) there =
      let takes = keyword_takes keywords.Distinct in
      let bad : ◌≡◌ {A = Option (List SelectItem × List Token)} None (Some (items, rest)) = sym (no_distinct_item us) ∙ ap (list_at leads.Comma select_item_at) (sym (takes.only ts us there)) ∙ read in
      absurd (cc bad)

-- FROM, its sources and the later clauses
abbrev IsFrom : FromSource × (List JoinedSource × LaterClauses) → List Token → Type 0
IsFrom x = IsWord keywords.From before IsSource x.0 before IsJoinedOn x.1

-- FROM ends the items
from_ends : (x : FromSource × (List JoinedSource × LaterClauses)) (ts rest : List Token) → IsFrom x ts → EndsList leads.Comma (EndsTail keywords.As EndsExpression) (ts ++ rest)
from_ends x ts rest h = rw (h.2, h.3) ((refl, refl), refl)

-- the items, and what they are taken from
abbrev IsSelected : List SelectItem × (FromSource × (List JoinedSource × LaterClauses)) → List Token → Type 0
IsSelected x = Separated IsSelectItem x.0 before IsFrom x.1

-- no DISTINCT stands in front of the items
selected_ends : (x : List SelectItem × (FromSource × (List JoinedSource × LaterClauses))) (ts rest : List Token) → IsSelected x ts → after_keyword keywords.Distinct (ts ++ rest) ≡ None
selected_ends x ts rest h =
    let split : ts ++ rest ≡ h.0 ++ (h.1 ++ rest) = ap (λ (us : List Token). us ++ rest) h.2 ∙ append_assoc h.0 h.1 rest in
    items_not_distinct x.0 (ts ++ rest) (h.1 ++ rest) (ap (list_at leads.Comma select_item_at) split ∙ items_read.found x.0 h.0 (h.1 ++ rest) h.3 (from_ends x.1 h.1 rest h.4))

-- the later clauses of a query
abbrev later_of : Select → LaterClauses
later_of q = record { condition = q.condition; group = q.group; having = q.having; order = q.order; limit = q.limit }

-- queries are read exactly, up to the end
pub query_reads : Reads Nothing IsSelect query_at
unfolding query_at
query_reads =
    made_reads {make = λ x. query_of x.0 x.1.0 x.1.1.0 x.1.1.1.0 x.1.1.1.1} (λ (q : Select). (q.is_distinct, (q.items, (q.first, (q.joins, later_of q))))) (λ q. refl) (λ x. refl)
    (lead_makes (word_leads keywords.Select) (part_makes
    distinct_reads
    (λ x back rest h end. selected_ends x back rest h)
    (λ is_distinct. part_makes
    items_read
    (λ x back rest h end. from_ends x back rest h)
    (λ items. lead_makes (word_leads keywords.From) (part_makes
    source_reads
    (λ x back rest h end. let there = joins_place x back rest end h in (not_name (back ++ rest) there, not_word keywords.As (back ++ rest) there))
    (λ first. part_makes
    joins_read
    (λ later back rest h end. let there = later_place rest end 2 later back (omega arith) h in ((not_symbol symbols.Dot (back ++ rest) (omega (arith, there)), not_word keywords.And (back ++ rest) (omega (arith, there))), not_join (back ++ rest) (omega (arith, there))))
    (λ joins. last_makes (query_of is_distinct items first joins) later_reads)))))))
