-- No check of the walk through a statement tells that a source failed.
use Rattle.std.proofs.Common.{◌≡◌, ℕ, Bool, true, false, if◌then◌else◌, List, [], ◌∷◌, ◌++◌, map, Option, Some, None, Result, Ok, Err, refl}
use Rattle.std.specs.Str.{is_utf8}
use Rattle.std.specs.Prelude.{◌+◌, ◌==◌, nat_lt, ok_or, not, is_none, is_some, length}
use Rattle.std.specs.List.{flat_map}
use Rattle.cq_values.specs.declared.column.ColumnDef.{ColumnDef}
use Rattle.cq_values.specs.declared.ty.Ty.{Ty}
use Rattle.cq_values.specs.declared.ty.Ty.TheVariants as types
use Rattle.cq_values.specs.Dates.{day_named}
use Rattle.cq_values.specs.Texts.{is_text}
use Rattle.cq_values.specs.Value.{Row}
use Rattle.cq_model.specs.declared.assignment.Assignment.{Assignment}
use Rattle.cq_model.specs.Write.{chosen}
use Rattle.cq_sql_language.specs.declared.statement.Constant.{Constant}
use Rattle.cq_sql_language.specs.declared.statement.Constant.TheVariants as constants
use Rattle.cq_sql_language.specs.declared.statement.OrderKey.{OrderKey}
use Rattle.cq_sql_language.specs.declared.statement.OutputColumn.{OutputColumn}
use Rattle.cq_sql_language.specs.declared.statement.OutputColumn.TheVariants as outputs
use Rattle.cq_sql_language.specs.declared.statement.Select.{Select}
use Rattle.cq_sql_language.specs.declared.statement.SetClause.{SetClause}
use Rattle.cq_sql_language.specs.declared.statement.Statement.{Statement}
use Rattle.cq_sql_language.specs.declared.statement.Statement.TheVariants as statements
use Rattle.cq_sql_language.specs.declared.written.ColumnName.{ColumnName}
use Rattle.cq_sql_language.specs.Written.{Written}
use Rattle.cq_binder_rules.specs.declared.fault.Fault.{Fault}
use Rattle.cq_binder_rules.specs.declared.fault.Fault.TheVariants as faults
use Rattle.cq_binder_rules.specs.Grouping.{is_empty, item_scope}
use Rattle.cq_binder_rules.specs.Scopes.{Named, from_table, of_rows, scope_of}
use Rattle.cq_binder_rules.specs.From.{From, any_source, equality_check, first_walk, from_walk, is_any_view, join_checks, join_walk, joins_walk, no_view, passing, sources_walk, view_walk}
use Rattle.cq_sql_language.specs.declared.statement.FromSource.{FromSource}
use Rattle.cq_sql_language.specs.declared.statement.JoinedSource.{JoinedSource}
use Rattle.cq_sql_language.specs.declared.statement.OnEquality.{OnEquality}
use Rattle.cq_binder_rules.specs.Headers.{header, shown_by}
use Rattle.cq_binder_rules.specs.Sets.{bound_sets, bound_where}
use Rattle.cq_binder_rules.specs.Orders.{is_no_place, key_checks, named_check, order_checks, output_check}
use Rattle.cq_binder_rules.specs.Checks.{first_fault, fault_if, too_long}
use Rattle.cq_binder_rules.specs.RowChecks.{fits_column, is_type, constant_check, constant_checks, row_checks}
use Rattle.cq_values.specs.Printed.{is_escaped}
use Rattle.cq_binder_rules.specs.Fields.{field_number, field_value, is_null_field, null_in, stored_number, typed_field}
use Rattle.cq_binder_rules.specs.Records.{Files, field_values, file_rows, record_row, record_rows}
use Rattle.cq_binder_rules.specs.SourceChecks.{group_check, group_checks, kept_check, name_check, where_check, value_check}
use Rattle.cq_binder_rules.specs.ViewChecks.{absent_checks, list_checks, no_clause, repeats, query_checks, view_select_checks}
use Rattle.cq_binder_rules.specs.Refusal.{column_checks, sort_checks, create_checks, drop_table_checks, written_table, insert_checks, delete_checks, bag_checks, source_checks, select_checks, checks, content_checks, name_checks, refusal, table_checks}
use Rattle.cq_binder_rules.specs.Kinds.{of_type}
use Rattle.cq_binder_rules.specs.Typing.{Scope, ScopeColumn, resolved, typed}
use Rattle.cq_binder_rules.specs.UpdateChecks.{column_type, is_set, row_checks_of, set_check, set_checks, update_checks, update_walk, value_checks}
use Rattle.cq_model_state.specs.State.{State, TableOf, ViewOf, is_taken}
use Rattle.cq_binder_rules.proofs.Clean.{Clean, both_clean, branch_clean, either_clean, fails_by_source, fault_clean, flat_clean, found_clean, if_clean, is_source, kept_clean, long_clean, map_clean, resolved_clean, tells_source, then_clean, typed_clean, unless_clean, value_clean, where_clean}

-- ---- Columns and constants
name_clean : (columns : List ColumnDef) (name : List ℕ) → tells_source (name_check columns name) ≡ false
name_clean columns name = if_clean _ faults.UnknownColumn refl

columns_clean : (before cs : List ColumnDef) → Clean (column_checks before cs)
columns_clean before [] = tt
columns_clean before (c ∷ cs) = (if_clean _ faults.NameTaken refl, columns_clean _ cs)

sort_clean : (columns : List ColumnDef) (before names : List (List ℕ)) → Clean (sort_checks columns before names)
sort_clean columns before [] = tt
sort_clean columns before (name ∷ names) = (name_clean columns name, (if_clean _ faults.NameTaken refl, sort_clean columns _ names))

create_clean : (name : List ℕ) (columns : List ColumnDef) (sort : List (List ℕ)) (s : State) → Clean (create_checks name columns sort s)
create_clean name columns sort s = (if_clean (is_taken name s) faults.NameTaken refl, both_clean (column_checks [] columns) (too_long (length columns) ∷ sort_checks columns [] sort) (columns_clean [] columns) (long_clean (length columns), sort_clean columns [] sort))

drop_clean : (views : List ViewOf) (o : Option TableOf) → Clean (drop_table_checks views o)
drop_clean views None = (refl, tt)
drop_clean views (Some t) = (if_clean _ faults.TableInUse refl, tt)

constant_clean : (d : ColumnDef) (c : Constant) → tells_source (constant_check d c) ≡ false
constant_clean d constants.Null = if_clean d.not_null faults.NullNotAllowed refl
constant_clean d (constants.Number l) = either_clean (is_type d.ty types.Integer) (fault_if (not (fits_column l)) faults.NumberOutside) (Some faults.TypeMismatch) (if_clean (not (fits_column l)) faults.NumberOutside refl) refl
constant_clean d (constants.Text t) = either_clean (is_type d.ty types.Text) (fault_if (nat_lt 4096 (length t)) faults.TextTooLong) (Some faults.TypeMismatch) (if_clean (nat_lt 4096 (length t)) faults.TextTooLong refl) refl
constant_clean d (constants.Date t) = either_clean (is_type d.ty types.Date) (fault_if (is_none (day_named t)) faults.BadDate) (Some faults.TypeMismatch) (if_clean (is_none (day_named t)) faults.BadDate refl) refl

constants_clean : (ds : List ColumnDef) (cs : List Constant) → Clean (constant_checks ds cs)
constants_clean [] cs = tt
constants_clean (d ∷ ds) [] = tt
constants_clean (d ∷ ds) (c ∷ cs) = (constant_clean d c, constants_clean ds cs)

row_clean : (columns : List ColumnDef) (row : List Constant) → Clean (row_checks columns row)
row_clean columns row = (if_clean _ faults.TypeMismatch refl, constants_clean columns row)

insert_clean : (max_rows : ℕ) (rows : List (List Constant)) (r : Result TableOf Fault) → fails_by_source r ≡ false → Clean (insert_checks max_rows rows r)
insert_clean max_rows rows (Err f) h = (h, tt)
insert_clean max_rows rows (Ok t) h = both_clean (flat_map (row_checks t.columns) rows) _ (flat_clean (row_checks t.columns) (row_clean t.columns) rows) (if_clean _ faults.TableFull refl, tt)

delete_clean : (condition : Option Written) (r : Result TableOf Fault) → fails_by_source r ≡ false → Clean (delete_checks condition r)
delete_clean condition (Err f) h = (h, tt)
delete_clean condition (Ok t) h = (where_clean _ condition, tt)

-- ---- UPDATE
set_clean : (s : Scope) (before : List SetClause) (a : SetClause) → Clean (set_check s before a)
set_clean s before a =
    let walked : fails_by_source (typed s a.value) ≡ false = typed_clean s a.value in (
      if_clean _ faults.UnknownColumn refl,
      (fault_clean (typed s a.value) walked, (if_clean (is_set before a.column) faults.NameTaken refl, (fault_clean _ (then_clean (typed s a.value) (of_type (column_type s.columns a.column)) walked (λ x. unless_clean _ faults.TypeMismatch _ refl)), tt))),
    )

sets_clean : (s : Scope) (before sets : List SetClause) → Clean (set_checks s before sets)
sets_clean s before [] = tt
sets_clean s before (a ∷ later) = both_clean (set_check s before a) (set_checks s (before ++ a ∷ []) later) (set_clean s before a) (sets_clean s (before ++ a ∷ []) later)

values_clean : (columns : List ColumnDef) (rows : List Row) (a : Assignment) → Clean (value_checks columns rows a)
values_clean columns rows a = (if_clean _ faults.NumberOutside refl, (if_clean _ faults.NullNotAllowed refl, tt))

update_clean : (condition : Option Written) (sets : List SetClause) (r : Result TableOf Fault) → fails_by_source r ≡ false → Clean (update_checks condition sets r)
update_clean condition sets (Err f) h = (h, tt)
update_clean condition sets (Ok t) h =
    let s = scope_of (from_table t) in
    both_clean (update_walk condition sets s) (row_checks_of condition sets t) (where_clean s condition, sets_clean s [] sets)
    (flat_clean (value_checks t.columns (chosen (bound_where s condition) t.rows)) (values_clean t.columns (chosen (bound_where s condition) t.rows)) (bound_sets s sets))

-- ---- COPY
field_clean : (at : ℕ) (t : Ty) (bytes : List ℕ) → fails_by_source (typed_field at t bytes) ≡ false
field_clean at types.Integer bytes =
    then_clean (ok_or (field_number bytes) (faults.BadRecord at)) stored_number (found_clean (field_number bytes) (faults.BadRecord at) refl) (λ n. unless_clean _ faults.NumberOutside _ refl)
field_clean at types.Text bytes = unless_clean _ faults.TextTooLong _ refl
field_clean at types.Date bytes = branch_clean (is_escaped bytes) (Err (faults.BadRecord at)) _ refl (found_clean _ faults.BadDate refl)

read_clean : (at : ℕ) (d : ColumnDef) (bytes : List ℕ) → fails_by_source (field_value at d bytes) ≡ false
read_clean at d bytes =
    branch_clean (not (is_utf8 bytes)) (Err (faults.BadRecord at)) _ refl
    (branch_clean (is_null_field d.ty bytes) (null_in d) (typed_field at d.ty bytes) (unless_clean (not d.not_null) faults.NullNotAllowed _ refl) (field_clean at d.ty bytes))

fields_clean : (at : ℕ) (ds : List ColumnDef) (ts : List (List ℕ)) → fails_by_source (field_values at ds ts) ≡ false
fields_clean at [] ts = refl
fields_clean at (d ∷ ds) [] = refl
fields_clean at (d ∷ ds) (t ∷ ts) =
    then_clean (field_value at d t) _ (read_clean at d t) (λ v. then_clean (field_values at ds ts) _ (fields_clean at ds ts) (λ vs. refl))

record_clean : (columns : List ColumnDef) (at : ℕ) (fields : List (List ℕ)) → fails_by_source (record_row columns at fields) ≡ false
record_clean columns at fields =
    branch_clean (length fields == length columns) (field_values at columns fields) (Err (faults.BadRecord at)) (fields_clean at columns fields) refl

records_clean : (columns : List ColumnDef) (at : ℕ) (rs : List (List (List ℕ))) → fails_by_source (record_rows columns at rs) ≡ false
records_clean columns at [] = refl
records_clean columns at (r ∷ rs) =
    then_clean (record_row columns at r) _ (record_clean columns at r) (λ row. then_clean (record_rows columns (at + 1) rs) _ (records_clean columns (at + 1) rs) (λ rows. refl))

content_clean : (max_rows : ℕ) (bytes : List ℕ) (r : Result TableOf Fault) → Clean (content_checks max_rows bytes r)
content_clean max_rows bytes (Err f) = tt
content_clean max_rows bytes (Ok t) = (fault_clean (file_rows t.columns bytes) (records_clean t.columns 1 _), (if_clean _ faults.TableFull refl, tt))

copy_clean : (max_rows : ℕ) (file bytes : List ℕ) (r : Result TableOf Fault) → fails_by_source r ≡ false → Clean (name_checks file r ++ content_checks max_rows bytes r)
copy_clean max_rows file bytes r h = (fault_clean r h, (if_clean _ faults.TextTooLong refl, content_clean max_rows bytes r))

groups_clean : (columns : List ScopeColumn) (group : List ColumnName) → Clean (group_checks columns group)
groups_clean columns group =
    both_clean (map (group_check columns) group) (too_long (length group) ∷ []) (map_clean (group_check columns) (λ c. fault_clean _ (resolved_clean columns c)) group) (long_clean (length group), tt)

bag_clean : (q : Select) (columns : List ScopeColumn) → Clean (bag_checks q columns)
bag_clean q columns =
    let s = item_scope q columns in
    let items : List (Option Fault) = map (value_check s) (shown_by q.items) in
    let last : List (Option Fault) = too_long (length q.items) ∷ where_check s q.having ∷ [] in
    let shown : Clean items = map_clean (value_check s) (value_clean s) (shown_by q.items) in
    let behind : Clean (items ++ last) = both_clean items last shown (long_clean (length q.items), (where_clean s q.having, tt)) in
    let all : Clean (group_checks columns q.group ++ (items ++ last)) = both_clean (group_checks columns q.group) (items ++ last) (groups_clean columns q.group) behind in
    (where_clean (of_rows columns) q.condition, all)

-- ---- ORDER BY
named_clean : (name : List ℕ) (names : List (List ℕ)) → tells_source (named_check name names) ≡ false
named_clean name [] = refl
named_clean name (n ∷ names) = either_clean (is_text n name) _ (named_check name names) (if_clean _ faults.AmbiguousColumn refl) (named_clean name names)

output_clean : (names : List (List ℕ)) (column : OutputColumn) → tells_source (output_check names column) ≡ false
output_clean names (outputs.Named name) = named_clean name names
output_clean names (outputs.At place) = if_clean (is_no_place (length names) place) faults.UnknownColumn refl

keys_clean : (names : List (List ℕ)) (keys : List OrderKey) → Clean (key_checks names keys)
keys_clean names keys = map_clean (λ key. output_check names key.column) (λ key. output_clean names key.column) keys

order_clean : (names : List (List ℕ)) (keys : List OrderKey) → Clean (order_checks names keys)
order_clean names keys = both_clean (key_checks names keys) (too_long (length keys) ∷ []) (keys_clean names keys) (long_clean (length keys), tt)

source_clean : (q : Select) (columns : List ScopeColumn) → Clean (source_checks q columns)
source_clean q columns = both_clean (bag_checks q columns) (order_checks (header 1 q.items) q.order) (bag_clean q columns) (order_clean (header 1 q.items) q.order)

-- ---- FROM
equality_clean : (columns : List ScopeColumn) (before : ℕ) (e : OnEquality) → tells_source (equality_check columns before e) ≡ false
equality_clean columns before e =
    fault_clean _ (then_clean (resolved columns e.left) _ (resolved_clean columns e.left)
    (λ l. then_clean (resolved columns e.right) _ (resolved_clean columns e.right) (λ r. unless_clean _ faults.TypeMismatch _ refl)))

passing_clean : {A : Type 0} (o : Option Fault) (x : A) → tells_source o ≡ false → fails_by_source (passing o x) ≡ false
passing_clean None x h = refl
passing_clean (Some f) x h = h

first_clean : (cs : List (Option Fault)) → Clean cs → tells_source (first_fault cs) ≡ false
first_clean [] h = refl
first_clean (Some f ∷ cs) h = h.0
first_clean (None ∷ cs) h = first_clean cs h.1

-- where the check of each source tells of none that failed
module _ (may : Named → Option Fault) (may_clean : (source : Named) → tells_source (may source) ≡ false) where
  join_clean : (from : From) (j : JoinedSource) (source : Named) → Clean (join_checks may from j source)
  join_clean from j source = (if_clean _ faults.NameTaken refl, (if_clean _ faults.TooManyTables refl, (may_clean source, map_clean _ (equality_clean _ _) j.on)))

  walk_clean : (from : From) (j : JoinedSource) (o : Option Named) → fails_by_source (join_walk may from j o) ≡ false
  walk_clean from j None = refl
  walk_clean from j (Some source) = passing_clean _ _ (first_clean (join_checks may from j source) (join_clean from j source))

  joins_clean : (s : State) (from : From) (js : List JoinedSource) → fails_by_source (joins_walk may s from js) ≡ false
  joins_clean s from [] = refl
  joins_clean s from (j ∷ js) = then_clean (join_walk may from j _) _ (walk_clean from j _) (λ wide. joins_clean s wide js)

  start_clean : (f : FromSource) (o : Option Named) → fails_by_source (first_walk may f o) ≡ false
  start_clean f None = refl
  start_clean f (Some source) = passing_clean (may source) _ (may_clean source)

  sources_clean : (s : State) (q : Select) → fails_by_source (sources_walk may s q) ≡ false
  sources_clean s q = then_clean (first_walk may q.first _) _ (start_clean q.first _) (λ from. joins_clean s from q.joins)

from_clean : (s : State) (q : Select) → fails_by_source (from_walk s q) ≡ false
from_clean s q = sources_clean any_source (λ source. refl) s q

view_from_clean : (s : State) (v : Select) → fails_by_source (view_walk s v) ≡ false
view_from_clean s v = sources_clean no_view (λ source. if_clean (is_any_view source.source) faults.ClauseInView refl) s v

select_clean : (q : Select) (r : Result From Fault) → fails_by_source r ≡ false → Clean (select_checks q r)
select_clean q (Err f) h = (h, tt)
select_clean q (Ok from) h = source_clean q from.columns

-- ---- CREATE VIEW
absent_clean : (v : Select) → Clean (absent_checks v)
absent_clean v =
    let last : List (Option Fault) = no_clause (not (is_empty v.order)) ∷ no_clause (is_some v.limit) ∷ [] in
    let ended : Clean last = (if_clean (not (is_empty v.order)) faults.ClauseInView refl, (if_clean (is_some v.limit) faults.ClauseInView refl, tt)) in
    let names = header 1 v.items in
    (if_clean (is_some v.having) faults.ClauseInView refl, both_clean (key_checks names v.order) last (keys_clean names v.order) ended)

query_clean : (v : Select) (columns : List ScopeColumn) → Clean (query_checks v columns)
query_clean v columns =
    let s = item_scope v columns in
    let repeated = repeats [] (header 1 v.items) in
    let items : List (Option Fault) = map (kept_check s) (shown_by v.items) in
    let last : List (Option Fault) = list_checks v ++ where_check s v.having ∷ absent_checks v in
    let shown : Clean items = map_clean (kept_check s) (kept_clean s) (shown_by v.items) in
    let ended : Clean last = (if_clean repeated faults.NameTaken refl, (if_clean v.is_distinct faults.ClauseInView refl, (long_clean (length v.items), (where_clean s v.having, absent_clean v)))) in
    let behind : Clean (items ++ last) = both_clean items last shown ended in
    let all : Clean (group_checks columns v.group ++ (items ++ last)) = both_clean (group_checks columns v.group) (items ++ last) (groups_clean columns v.group) behind in
    (where_clean (of_rows columns) v.condition, all)

view_clean : (v : Select) (r : Result From Fault) → fails_by_source r ≡ false → Clean (view_select_checks v r)
view_clean v (Err f) h = (h, tt)
view_clean v (Ok from) h = query_clean v from.columns

-- ---- All statements
table_clean : (b : Bool) (o : Option TableOf) (f : Fault) → is_source f ≡ false → fails_by_source (ok_or o (if b then f else faults.UnknownTable)) ≡ false
table_clean true o f h = found_clean o f h
table_clean false o f h = found_clean o faults.UnknownTable refl

moved_clean : (r : Result TableOf Fault) → fails_by_source r ≡ false → Clean (table_checks r)
moved_clean (Err f) h = (h, tt)
moved_clean (Ok t) h = tt

all_clean : (files : Files) (s : State) (statement : Statement) → Clean (checks files s statement)
all_clean files s (statements.CreateTable name columns sort) = create_clean name columns sort s
all_clean files s (statements.DropTable name) = drop_clean s.views _
all_clean files s (statements.CreateView name v) = (if_clean _ faults.NameTaken refl, view_clean v (view_walk s v) (view_from_clean s v))
all_clean files s (statements.DropView name) = (if_clean _ faults.UnknownTable refl, tt)
all_clean files s (statements.Insert name rows) = insert_clean s.max_rows rows (written_table name s) (table_clean _ _ faults.ViewNotWritten refl)
all_clean files s (statements.Copy name file) = copy_clean s.max_rows file (files file) (written_table name s) (table_clean _ _ faults.ViewNotWritten refl)
all_clean files s (statements.Delete name condition) = delete_clean condition (written_table name s) (table_clean _ _ faults.ViewNotWritten refl)
all_clean files s (statements.Update name sets condition) = update_clean condition sets (written_table name s) (table_clean _ _ faults.ViewNotWritten refl)
all_clean files s (statements.Select q) = select_clean q (from_walk s q) (from_clean s q)
all_clean files s (statements.Move name rows) = moved_clean (written_table name s) (table_clean _ _ faults.ViewNotWritten refl)
all_clean files s (statements.Merge name) = moved_clean (written_table name s) (table_clean _ _ faults.ViewNotWritten refl)
all_clean files s (statements.Refresh view changes) = (if_clean _ faults.UnknownTable refl, tt)

-- the refusal of a statement tells of no source
pub sourceless : (files : Files) (s : State) (statement : Statement) → tells_source (refusal files s statement) ≡ false
sourceless files s statement = first_clean (checks files s statement) (all_clean files s statement)
