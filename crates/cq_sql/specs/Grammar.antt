-- How statements are read, as functions on lists: what a sentence is, the model says.
use Rattle.std.specs.Prelude.{List, [], ◌∷◌, Option, Some, None}
use Rattle.cq_sql_language.specs.declared.statement.SetClause.{SetClause}
use Rattle.cq_sql_language.specs.declared.statement.Statement.{Statement}
use Rattle.cq_sql_language.specs.declared.statement.Statement.TheVariants as statements
use Rattle.cq_sql_language.specs.declared.token.Keyword.TheVariants as keywords
use Rattle.cq_sql_language.specs.declared.token.Symbol.TheVariants as symbols
use Rattle.cq_sql_language.specs.declared.token.Token.{Token}
use Rattle.cq_sql_language.specs.declared.token.Token.TheVariants as tokens
use Rattle.cq_sql_expressions.specs.Expressions.{expression_at}
use Rattle.cq_sql_expressions.specs.declared.leads.Lead.TheVariants as leads
use Rattle.cq_sql_expressions.specs.Lists.{list_at, list_behind}
use Rattle.cq_sql_expressions.specs.Read.{◌>>=◌, Reader, done, followed_by, behind, after_keyword, after_symbol}
use Rattle.cq_sql.specs.Parts.{name_at, number_at, text_at, column_at, row_at, condition_at}
use Rattle.cq_sql.specs.Queries.{query_at}

-- takes what follows CREATE TABLE: the table's name, its columns, and an optional order
unfoldable pub create_table_at : Reader Statement
create_table_at =
    followed_by name_at (λ name. behind (after_symbol symbols.Open) (followed_by (list_at leads.Comma column_at) (λ columns. behind (after_symbol symbols.Close) (followed_by (list_behind keywords.Sort name_at) (λ sort. done (statements.CreateTable name columns sort))))))

-- takes what follows DROP TABLE: the table's name
unfoldable pub drop_table_at : Reader Statement
drop_table_at = followed_by name_at (λ name. done (statements.DropTable name))

-- takes what follows CREATE VIEW: the view's name and its query
unfoldable pub create_view_at : Reader Statement
create_view_at = followed_by name_at (λ name. behind (after_keyword keywords.As) (followed_by query_at (λ query. done (statements.CreateView name query))))

-- takes what follows DROP VIEW: the view's name
unfoldable pub drop_view_at : Reader Statement
drop_view_at = followed_by name_at (λ name. done (statements.DropView name))

-- takes what follows INSERT: the table's name and the new rows
unfoldable pub insert_at : Reader Statement
insert_at =
    behind (after_keyword keywords.Into) (followed_by name_at (λ table. behind (after_keyword keywords.Values) (followed_by (list_at leads.Comma row_at) (λ rows. done (statements.Insert table rows)))))

-- takes what follows COPY: the table's name and the file's
unfoldable pub copy_at : Reader Statement
copy_at = followed_by name_at (λ table. behind (after_keyword keywords.From) (followed_by text_at (λ file. done (statements.Copy table file))))

-- takes what follows DELETE: the table's name and an optional condition
unfoldable pub delete_at : Reader Statement
delete_at =
    behind (after_keyword keywords.From) (followed_by name_at (λ table. followed_by (condition_at keywords.Where) (λ condition. done (statements.Delete table condition))))

-- takes what UPDATE sets a column to
unfoldable pub set_clause_at : Reader SetClause
set_clause_at = followed_by name_at (λ column. behind (after_symbol symbols.Equal) (followed_by expression_at (λ value. done (record { column = column; value = value }))))

-- takes what follows UPDATE: the table's name, the new values and an optional condition
unfoldable pub update_at : Reader Statement
update_at =
    followed_by name_at (λ table. behind (after_keyword keywords.Set) (followed_by (list_at leads.Comma set_clause_at) (λ assignments. followed_by (condition_at keywords.Where) (λ condition. done (statements.Update table assignments condition)))))

-- takes a query as a statement
unfoldable pub select_at : Reader Statement
select_at = followed_by query_at (λ query. done (statements.Select query))

-- takes what follows MOVE: the table's name and the number of rows
unfoldable pub move_at : Reader Statement
move_at = followed_by name_at (λ table. followed_by number_at (λ rows. done (statements.Move table rows)))

-- takes what follows MERGE: the table's name
unfoldable pub merge_at : Reader Statement
merge_at = followed_by name_at (λ table. done (statements.Merge table))

-- takes what follows REFRESH: the view's name and the number of changes
unfoldable pub refresh_at : Reader Statement
refresh_at = followed_by name_at (λ view. followed_by number_at (λ changes. done (statements.Refresh view changes)))

-- takes what follows CREATE
abbrev pub create_at : Reader Statement
create_at (tokens.Keyword keywords.Table ∷ ts) = create_table_at ts
create_at (tokens.Keyword keywords.View ∷ ts) = create_view_at ts
create_at ts = None

-- takes what follows DROP
abbrev pub drop_at : Reader Statement
drop_at (tokens.Keyword keywords.Table ∷ ts) = drop_table_at ts
drop_at (tokens.Keyword keywords.View ∷ ts) = drop_view_at ts
drop_at ts = None

-- takes a statement: its first keyword says of which kind it is
unfoldable pub statement_at : Reader Statement
statement_at (tokens.Keyword keywords.Create ∷ ts) = create_at ts
statement_at (tokens.Keyword keywords.Drop ∷ ts) = drop_at ts
statement_at (tokens.Keyword keywords.Insert ∷ ts) = insert_at ts
statement_at (tokens.Keyword keywords.Copy ∷ ts) = copy_at ts
statement_at (tokens.Keyword keywords.Delete ∷ ts) = delete_at ts
statement_at (tokens.Keyword keywords.Update ∷ ts) = update_at ts
statement_at (tokens.Keyword keywords.Select ∷ ts) = select_at (tokens.Keyword keywords.Select ∷ ts)
statement_at (tokens.Keyword keywords.Move ∷ ts) = move_at ts
statement_at (tokens.Keyword keywords.Merge ∷ ts) = merge_at ts
statement_at (tokens.Keyword keywords.Refresh ∷ ts) = refresh_at ts
statement_at ts = None

-- the statement that was read, where nothing is left behind it
abbrev pub if_all_read : Statement × List Token → Option Statement
if_all_read (statement, []) = Some statement
if_all_read (statement, t ∷ ts) = None

-- the statement that all of the tokens are, if they are one
unfoldable pub whole_statement : List Token → Option Statement
whole_statement ts = statement_at ts >>= if_all_read
