-- Statements are read exactly, and a list of tokens has at most one tree.
use Rattle.std.proofs.Common.{◌≡◌, List, [], ◌∷◌, ◌++◌, Some, None, refl, sym, ap, subst, ◌∙◌, append_assoc}
use Rattle.std.specs.Prelude.{Result, Ok, Err, IfOk}
use Rattle.std.proofs.lemmas.List.{append-nil}
use Rattle.cq_sql_language.specs.declared.statement.Statement.{Statement}
use Rattle.cq_sql_language.specs.declared.statement.Statement.TheVariants as statements
use Rattle.cq_sql_language.specs.declared.token.Keyword.{Keyword}
use Rattle.cq_sql_language.specs.declared.token.Keyword.TheVariants as keywords
use Rattle.cq_sql_language.specs.declared.token.Token.{Token}
use Rattle.cq_sql_language.specs.declared.token.Token.TheVariants as tokens
use Rattle.cq_sql_language.specs.Parts.{◌before◌, IsWord}
use Rattle.cq_sql_language.specs.Sentence.{IsStatement}
use Rattle.cq_sql_expressions.specs.declared.fault.SqlFault.{SqlFault}
use Rattle.cq_sql_expressions.specs.declared.fault.SqlFault.TheVariants as errors
use Rattle.cq_sql_expressions.specs.Gives.{Gives}
use Rattle.cq_sql_expressions.specs.Read.{Reader}
use Rattle.cq_sql_expressions.proofs.Exact.{Reads, Makes, Nothing, bind_some}
use Rattle.cq_sql.specs.Grammar.{create_at, drop_at, select_at, statement_at, if_all_read, whole_statement}
use Rattle.cq_sql.proofs.Statements.{create_table_makes, drop_table_makes, create_view_makes, drop_view_makes, insert_makes, copy_makes, delete_makes, update_makes, select_makes, move_makes, merge_makes, refresh_makes}

-- what was read from the tokens is a statement, with these words in front
abbrev WasRead : List Token → Statement → List Token → List Token → Type 0
WasRead words s ts rest = (front : List Token) × (words ++ ts ≡ front ++ rest) × IsStatement s front

-- a keyword, and what follows it
worded : {Is : List Token → Type 0} (word : Keyword) (ts : List Token) → Is ts → (IsWord word before Is) (tokens.Keyword word ∷ ts)
worded word ts h = (tokens.Keyword word ∷ [], ts, refl, refl, h)

-- what is read behind the words of its kind is a statement with them
kind_only : {X : Type 0} {Are : X → List Token → Type 0} {make : X → Statement} {item : Reader Statement} (words : List Token) → Makes Nothing Are make item → ((x : X) (ts : List Token) → Are x ts → IsStatement (make x) (words ++ ts))
    → (s : Statement) (ts rest : List Token) → item ts ≡ Some (s, rest) → WasRead words s ts rest
kind_only words makes spelled s ts rest e =
    let o = makes.only s ts rest e in
    (words ++ o.1, ap (λ (us : List Token). words ++ us) o.3 ∙ sym (append_assoc words o.1 rest), subst (λ (x : Statement). IsStatement x (words ++ o.1)) o.2 (spelled o.0 o.1 o.4))

-- the keyword in front
abbrev word : Keyword → List Token
word k = tokens.Keyword k ∷ []

-- two keywords in front
abbrev words : Keyword → Keyword → List Token
words k l = tokens.Keyword k ∷ tokens.Keyword l ∷ []

-- what is read behind the two words of its kind is a statement with them
two_words_only : {X : Type 0} {Are : X → List Token → Type 0} {make : X → Statement} {item : Reader Statement} (k l : Keyword) → Makes Nothing Are make item
    → ((x : X) (ts : List Token) → (IsWord k before IsWord l before Are x) ts → IsStatement (make x) ts) → (s : Statement) (ts rest : List Token) → item ts ≡ Some (s, rest) → WasRead (words k l) s ts rest
two_words_only k l makes spelled s ts rest e =
    kind_only (words k l) makes (λ x us h. spelled x (words k l ++ us) (worded k (tokens.Keyword l ∷ us) (worded l us h))) s ts rest e

-- what is read behind CREATE creates a table or a view
create_only : (s : Statement) (ts rest : List Token) → create_at ts ≡ Some (s, rest) → WasRead (word keywords.Create) s ts rest
create_only s (tokens.Keyword keywords.Table ∷ ts) rest e = two_words_only keywords.Create keywords.Table create_table_makes (λ x us h. h) s ts rest e
create_only s (tokens.Keyword keywords.View ∷ ts) rest e = two_words_only keywords.Create keywords.View create_view_makes (λ x us h. h) s ts rest e
create_only s ts rest e = absurd cc

-- what is read behind DROP drops a table or a view
drop_only : (s : Statement) (ts rest : List Token) → drop_at ts ≡ Some (s, rest) → WasRead (word keywords.Drop) s ts rest
drop_only s (tokens.Keyword keywords.Table ∷ ts) rest e = two_words_only keywords.Drop keywords.Table drop_table_makes (λ x us h. h) s ts rest e
drop_only s (tokens.Keyword keywords.View ∷ ts) rest e = two_words_only keywords.Drop keywords.View drop_view_makes (λ x us h. h) s ts rest e
drop_only s ts rest e = absurd cc

-- statements are read exactly, by their first keywords
statement_reads : Reads Nothing IsStatement statement_at
unfolding statement_at
statement_reads = record { found = found; only = only } where
  found : (s : Statement) (front rest : List Token) → IsStatement s front → Nothing rest → statement_at (front ++ rest) ≡ Some (s, rest)
  found (statements.CreateTable name columns sort) front rest h end = let k = h.4 in rw (h.2, h.3, k.2, k.3) (create_table_makes.found (name, (columns, sort)) k.1 rest k.4 end)
  found (statements.DropTable name) front rest h end = let k = h.4 in rw (h.2, h.3, k.2, k.3) (drop_table_makes.found name k.1 rest k.4 end)
  found (statements.CreateView name query) front rest h end = let k = h.4 in rw (h.2, h.3, k.2, k.3) (create_view_makes.found (name, query) k.1 rest k.4 end)
  found (statements.DropView name) front rest h end = let k = h.4 in rw (h.2, h.3, k.2, k.3) (drop_view_makes.found name k.1 rest k.4 end)
  found (statements.Insert table rows) front rest h end = rw (h.2, h.3) (insert_makes.found (table, rows) h.1 rest h.4 end)
  found (statements.Copy table file) front rest h end = rw (h.2, h.3) (copy_makes.found (table, file) h.1 rest h.4 end)
  found (statements.Delete table condition) front rest h end = rw (h.2, h.3) (delete_makes.found (table, condition) h.1 rest h.4 end)
  found (statements.Update table assignments condition) front rest h end = rw (h.2, h.3) (update_makes.found (table, (assignments, condition)) h.1 rest h.4 end)
  found (statements.Select query) front rest h end =
      let whole : front ≡ tokens.Keyword keywords.Select ∷ h.1 = rw (h.2, h.3) refl in
      let read = select_makes.found query front rest h end in
      rw whole (ap (λ (us : List Token). select_at (us ++ rest)) (sym whole) ∙ read)
  found (statements.Move table rows) front rest h end = rw (h.2, h.3) (move_makes.found (table, rows) h.1 rest h.4 end)
  found (statements.Merge table) front rest h end = rw (h.2, h.3) (merge_makes.found table h.1 rest h.4 end)
  found (statements.Refresh view changes) front rest h end = rw (h.2, h.3) (refresh_makes.found (view, changes) h.1 rest h.4 end)

  only : (s : Statement) (ts rest : List Token) → statement_at ts ≡ Some (s, rest) → (front : List Token) × (ts ≡ front ++ rest) × IsStatement s front
  only s (tokens.Keyword keywords.Create ∷ ts) rest e = create_only s ts rest e
  only s (tokens.Keyword keywords.Drop ∷ ts) rest e = drop_only s ts rest e
  only s (tokens.Keyword keywords.Insert ∷ ts) rest e = kind_only (word keywords.Insert) insert_makes (λ x us h. worded keywords.Insert us h) s ts rest e
  only s (tokens.Keyword keywords.Copy ∷ ts) rest e = kind_only (word keywords.Copy) copy_makes (λ x us h. worded keywords.Copy us h) s ts rest e
  only s (tokens.Keyword keywords.Delete ∷ ts) rest e = kind_only (word keywords.Delete) delete_makes (λ x us h. worded keywords.Delete us h) s ts rest e
  only s (tokens.Keyword keywords.Update ∷ ts) rest e = kind_only (word keywords.Update) update_makes (λ x us h. worded keywords.Update us h) s ts rest e
  only s (tokens.Keyword keywords.Select ∷ ts) rest e = kind_only [] select_makes (λ x us h. h) s (tokens.Keyword keywords.Select ∷ ts) rest e
  only s (tokens.Keyword keywords.Move ∷ ts) rest e = kind_only (word keywords.Move) move_makes (λ x us h. worded keywords.Move us h) s ts rest e
  only s (tokens.Keyword keywords.Merge ∷ ts) rest e = kind_only (word keywords.Merge) merge_makes (λ x us h. worded keywords.Merge us h) s ts rest e
  only s (tokens.Keyword keywords.Refresh ∷ ts) rest e = kind_only (word keywords.Refresh) refresh_makes (λ x us h. worded keywords.Refresh us h) s ts rest e
  only s ts rest e = absurd cc

-- a tree of the tokens is what is read from them
whole_found : (s : Statement) (ts : List Token) → IsStatement s ts → whole_statement ts ≡ Some s
unfolding whole_statement
whole_found s ts h =
    let read : statement_at (ts ++ []) ≡ Some (s, []) = statement_reads.found s ts [] h refl in
    rw (sym (ap statement_at (append-nil ts)) ∙ read) refl

-- the statement is the one that was read, and nothing is left
all_read : (s t : Statement) (rest : List Token) → if_all_read (t, rest) ≡ Some s → (t ≡ s) × (rest ≡ [])
all_read s t [] e = (cc, refl)
all_read s t (r ∷ rest) e = absurd cc

-- what is read from the tokens is a tree of them
whole_only : (s : Statement) (ts : List Token) → whole_statement ts ≡ Some s → IsStatement s ts
unfolding whole_statement
whole_only s ts e =
    let b = bind_some (statement_at ts) if_all_read s e in
    let o = statement_reads.only b.0.0 ts b.0.1 b.1 in
    let all = all_read s b.0.0 b.0.1 b.2 in
    let whole : ts ≡ o.0 = o.1 ∙ ap (λ (us : List Token). o.0 ++ us) all.1 ∙ append-nil o.0 in
    subst (λ (x : Statement). IsStatement x ts) all.0 (subst (λ (us : List Token). IsStatement b.0.0 us) (sym whole) o.2)

-- reading is a function, so there is at most one tree
pub one_statement : (ts : List Token) (s t : Statement) → IsStatement s ts → IsStatement t ts → s ≡ t
one_statement ts s t h k =
    let a = whole_found s ts h in
    let b = whole_found t ts k in
    cc

-- what was returned is a tree
pub tree_read : (result : Result Statement SqlFault) (ts : List Token) → Gives (λ (s : Statement). s) result (whole_statement ts) → IfOk result (λ s. IsStatement s ts)
tree_read (Ok s) ts read = whole_only s ts read
tree_read (Err e) ts read = tt

-- where no tree was found, there is none
pub no_tree_read : (result : Result Statement SqlFault) (ts : List Token) → Gives (λ (s : Statement). s) result (whole_statement ts) → result ≡ Err errors.Syntax → (s : Statement) → IsStatement s ts → ⊥
no_tree_read result ts read is s h =
    let none : whole_statement ts ≡ None = subst (λ (r : Result Statement SqlFault). Gives (λ (x : Statement). x) r (whole_statement ts)) is read in
    let some = whole_found s ts h in
    cc
