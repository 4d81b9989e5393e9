use Rattle.std.proofs.Common.{◌≡◌, ◌∙◌, List, sym, ap, subst, false}
use Rattle.std.specs.Prelude.{IfOk}
use Rattle.cq_sql_language.specs.declared.statement.Statement.{Statement}
use Rattle.cq_sql_language.specs.declared.token.Token.{Token}
use Rattle.cq_sql_language.specs.Sentence.{IsStatement}
use Rattle.cq_sql_language.specs.Tokens.{is_past_limits}
use Rattle.cq_sql.proofs.Decided.{no_tokens, decided}
use Rattle.cq_sql.proofs.sentences.parse.Goals as goal

pub returns-in-Err-Syntax : goal.returns-in-Err-Syntax
returns-in-Err-Syntax c =
    let none = rw c.in-Err-Syntax.field-0-is at c.in-Err-Syntax.ensures in
    no_tokens c.args.text.now none

pub returns : goal.returns
returns c =
    let seen = c.as_slice-2.ensures in
    let within : is_past_limits c.in-Ok.tokens ≡ false = ap is_past_limits (sym c.as_slice.ensures) ∙ sym c.is_past_limits.ensures ∙ c.if-is_past_limits.false in
    decided c.one_cut.ensures c.args.text.now c.in-Ok.tokens c.in-Ok.ensures within c.tree_of.result
    (subst (λ (ts : List Token). IfOk c.tree_of.result (λ s. IsStatement s ts)) seen c.tree_of.ensures.tree)
    (λ e. subst (λ (ts : List Token). (s : Statement) → IsStatement s ts → ⊥) seen (c.tree_of.ensures.no_tree e))
    c.tree_of.ensures.within
