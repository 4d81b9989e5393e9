-- Statements of each kind are read exactly, behind their first words.
use Rattle.std.proofs.Common.{◌≡◌, ℕ, List, [], ◌++◌, Option, refl, arith}
use Rattle.cq_values.specs.declared.column.ColumnDef.{ColumnDef}
use Rattle.cq_sql_language.specs.declared.statement.Constant.{Constant}
use Rattle.cq_sql_language.specs.declared.statement.Select.{Select}
use Rattle.cq_sql_language.specs.declared.statement.SetClause.{SetClause}
use Rattle.cq_sql_language.specs.declared.statement.Statement.TheVariants as statements
use Rattle.cq_sql_language.specs.declared.token.Keyword.TheVariants as keywords
use Rattle.cq_sql_language.specs.declared.token.Symbol.TheVariants as symbols
use Rattle.cq_sql_language.specs.declared.token.Token.{Token}
use Rattle.cq_sql_language.specs.Parts.{◌before◌, IsColumn, IsListBy, IsName, IsNumber, IsRow, IsSign, IsText, IsWhere, IsWord, Separated}
use Rattle.cq_sql_language.specs.Query.{IsSelect}
use Rattle.cq_sql_language.specs.Sentence.{IsSetClause}
use Rattle.cq_sql_language.specs.Written.{Written}
use Rattle.cq_sql_expressions.proofs.Conditions.{EndsExpression, expression_reads}
use Rattle.cq_sql_expressions.specs.declared.leads.Lead.TheVariants as leads
use Rattle.cq_sql_expressions.proofs.Exact.{Reads, Makes, Nothing, sign_leads, word_leads}
use Rattle.cq_sql_expressions.proofs.Lists.{EndsList, comma_reads}
use Rattle.cq_sql_expressions.proofs.Steps.{last_makes, lead_makes, made_reads, next_makes, part_makes, with_ends}
use Rattle.cq_sql_expressions.proofs.Tails.{list_behind_reads}
use Rattle.cq_sql.specs.Grammar.{create_table_at, drop_table_at, create_view_at, drop_view_at, insert_at, copy_at, delete_at, set_clause_at, update_at, select_at, move_at, merge_at, refresh_at}
use Rattle.cq_sql.specs.Parts.{condition_at}
use Rattle.cq_sql.proofs.ConstantReads.{row_reads}
use Rattle.cq_sql.proofs.NameReads.{name_reads, number_reads, text_reads}
use Rattle.cq_sql.proofs.Places.{not_symbol, ends_expression, condition_starts, start_place}
use Rattle.cq_sql.proofs.Queries.{condition_reads, query_reads}
use Rattle.cq_sql.proofs.Tables.{column_reads}

-- ---- Tables
-- what follows CREATE TABLE
abbrev pub IsTable : List ℕ × (List ColumnDef × List (List ℕ)) → List Token → Type 0
IsTable x = IsName x.0 before IsSign symbols.Open before Separated IsColumn x.1.0 before IsSign symbols.Close before IsListBy keywords.Sort IsName x.1.1

-- behind the columns stands a parenthesis, and behind it SORT or nothing
pub create_table_makes : Makes Nothing IsTable (λ x. statements.CreateTable x.0 x.1.0 x.1.1) create_table_at
unfolding create_table_at
create_table_makes =
    next_makes name_reads (λ name. lead_makes (sign_leads symbols.Open) (part_makes
    (comma_reads column_reads (λ ts. (tt, refl)))
    (λ sort back rest h end. rw (h.2, h.3) ((tt, refl), refl))
    (λ columns. lead_makes (sign_leads symbols.Close) (last_makes (λ sort. statements.CreateTable name columns sort) (with_ends (list_behind_reads keywords.Sort name_reads (λ ts. tt)) (λ rest end. rw end ((tt, refl), refl)))))))

pub drop_table_makes : Makes Nothing IsName statements.DropTable drop_table_at
unfolding drop_table_at
drop_table_makes = last_makes statements.DropTable (with_ends name_reads (λ rest end. tt))

-- ---- Views
-- what follows CREATE VIEW
abbrev pub IsView : List ℕ × Select → List Token → Type 0
IsView x = IsName x.0 before IsWord keywords.As before IsSelect x.1

pub create_view_makes : Makes Nothing IsView (λ x. statements.CreateView x.0 x.1) create_view_at
unfolding create_view_at
create_view_makes = next_makes name_reads (λ name. lead_makes (word_leads keywords.As) (last_makes (λ query. statements.CreateView name query) query_reads))

pub drop_view_makes : Makes Nothing IsName statements.DropView drop_view_at
unfolding drop_view_at
drop_view_makes = last_makes statements.DropView (with_ends name_reads (λ rest end. tt))

-- what follows MOVE and REFRESH
abbrev pub IsCounted : List ℕ × ℕ → List Token → Type 0
IsCounted x = IsName x.0 before IsNumber x.1

pub refresh_makes : Makes Nothing IsCounted (λ x. statements.Refresh x.0 x.1) refresh_at
unfolding refresh_at
refresh_makes = next_makes name_reads (λ view. last_makes (λ changes. statements.Refresh view changes) (with_ends number_reads (λ rest end. tt)))

-- ---- Writes
-- what follows INSERT
abbrev pub IsInsert : List ℕ × List (List Constant) → List Token → Type 0
IsInsert x = IsWord keywords.Into before IsName x.0 before IsWord keywords.Values before Separated IsRow x.1

pub insert_makes : Makes Nothing IsInsert (λ x. statements.Insert x.0 x.1) insert_at
unfolding insert_at
insert_makes =
    lead_makes (word_leads keywords.Into) (next_makes name_reads (λ table. lead_makes (word_leads keywords.Values) (last_makes (λ rows. statements.Insert table rows) (with_ends (comma_reads row_reads (λ ts. tt)) (λ rest end. rw end (tt, refl))))))

-- what follows COPY
abbrev pub IsCopy : List ℕ × List ℕ → List Token → Type 0
IsCopy x = IsName x.0 before IsWord keywords.From before IsText x.1

pub copy_makes : Makes Nothing IsCopy (λ x. statements.Copy x.0 x.1) copy_at
unfolding copy_at
copy_makes = next_makes name_reads (λ table. lead_makes (word_leads keywords.From) (last_makes (λ file. statements.Copy table file) (with_ends text_reads (λ rest end. tt))))

-- a condition behind WHERE is read exactly, up to the end
where_reads : Reads Nothing IsWhere (condition_at keywords.Where)
where_reads = with_ends (condition_reads keywords.Where) (λ rest end. rw end (refl, refl))

-- what follows DELETE
abbrev pub IsDelete : List ℕ × Option Written → List Token → Type 0
IsDelete x = IsWord keywords.From before IsName x.0 before IsWhere x.1

pub delete_makes : Makes Nothing IsDelete (λ x. statements.Delete x.0 x.1) delete_at
unfolding delete_at
delete_makes = lead_makes (word_leads keywords.From) (next_makes name_reads (λ table. last_makes (λ condition. statements.Delete table condition) where_reads))

-- new values are read exactly, where nothing goes on with an expression
set_clause_reads : Reads EndsExpression IsSetClause set_clause_at
unfolding set_clause_at
set_clause_reads =
    made_reads {make = λ x. record { column = x.0; value = x.1 }} (λ (c : SetClause). (c.column, c.value)) (λ c. refl) (λ x. refl) (next_makes name_reads (λ column. lead_makes (sign_leads symbols.Equal) (last_makes (λ value. record { column = column; value = value }) expression_reads)))

-- what follows UPDATE
abbrev pub IsUpdate : List ℕ × (List SetClause × Option Written) → List Token → Type 0
IsUpdate x = IsName x.0 before IsWord keywords.Set before Separated IsSetClause x.1.0 before IsWhere x.1.1

-- WHERE ends the new values, and so does the end
where_ends : (condition : Option Written) (ts rest : List Token) → IsWhere condition ts → rest ≡ [] → EndsList leads.Comma EndsExpression (ts ++ rest)
where_ends condition ts rest h end =
    let there = start_place 1 keywords.Where ts rest (condition_starts keywords.Where condition ts h) (omega arith) (rw end (omega arith)) in
    (ends_expression (ts ++ rest) there, not_symbol symbols.Comma (ts ++ rest) there)

pub update_makes : Makes Nothing IsUpdate (λ x. statements.Update x.0 x.1.0 x.1.1) update_at
unfolding update_at
update_makes =
    next_makes name_reads (λ table. lead_makes (word_leads keywords.Set) (part_makes (comma_reads set_clause_reads (λ ts. refl)) where_ends (λ assignments. last_makes (λ condition. statements.Update table assignments condition) where_reads)))

-- ---- Queries and moves
pub select_makes : Makes Nothing IsSelect statements.Select select_at
unfolding select_at
select_makes = last_makes statements.Select query_reads

pub move_makes : Makes Nothing IsCounted (λ x. statements.Move x.0 x.1) move_at
unfolding move_at
move_makes = next_makes name_reads (λ table. last_makes (λ rows. statements.Move table rows) (with_ends number_reads (λ rest end. tt)))

pub merge_makes : Makes Nothing IsName statements.Merge merge_at
unfolding merge_at
merge_makes = last_makes statements.Merge (with_ends name_reads (λ rest end. tt))
