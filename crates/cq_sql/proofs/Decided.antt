-- What a piece is, from its tokens and their tree.
use Rattle.std.proofs.Common.{◌≡◌, ℕ, false, List, Result, Ok, Err, refl, ap, subst, ◌∙◌}
use Rattle.std.specs.Prelude.{IfOk}
use Rattle.cq_sql_language.specs.declared.statement.Statement.{Statement}
use Rattle.cq_sql_language.specs.declared.token.Token.{Token}
use Rattle.cq_sql_language.specs.Tokens.{HasTokens, is_past_limits}
use Rattle.cq_sql_language.specs.Sentence.{IsStatement, IsNoSentence}
use Rattle.cq_sql_expressions.specs.declared.fault.SqlFault.{SqlFault}
use Rattle.cq_sql_expressions.specs.declared.fault.SqlFault.TheVariants.{Memory, Syntax, LimitExceeded}
use Rattle.cq_sql.specs.Parses.{Parses}

-- a text without tokens is no sentence
pub no_tokens : (text : List ℕ) → ((ts : List Token) → HasTokens text ts → ⊥) → IsNoSentence text
no_tokens text none = record { within = λ ts told. absurd (none ts told); no_tree = λ ts told s tree. none ts told }

module _ (one_cut : (text : List ℕ) (ts us : List Token) → HasTokens text ts → HasTokens text us → ts ≡ us) (text : List ℕ) (tokens : List Token) (told : HasTokens text tokens) (within : is_past_limits tokens ≡ false) where
  -- tokens within the limits decide what their text is by their tree
  pub decided : (result : Result Statement SqlFault) → IfOk result (λ s. IsStatement s tokens) → (result ≡ Err Syntax → (s : Statement) → IsStatement s tokens → ⊥) → (result ≡ Err LimitExceeded → ⊥) → Parses text result
  decided (Ok s) tree no_tree limit = record { tokens = tokens; told = told; within = within; tree = tree }
  decided (Err Memory) tree no_tree limit = tt
  decided (Err LimitExceeded) tree no_tree limit = absurd (limit refl)
  decided (Err Syntax) tree no_tree limit = record {
    within = λ ts cut. ap is_past_limits (one_cut text ts tokens cut told) ∙ within;
    no_tree = λ ts cut s is. no_tree refl s (subst (λ (us : List Token). IsStatement s us) (one_cut text ts tokens cut told) is);
  }
