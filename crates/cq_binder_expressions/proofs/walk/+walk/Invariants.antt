use Rattle.std.proofs.Common.{◌≡◌, drop, map, true}
use Rattle.cq_sql_language.specs.Written.{choices, written}
use Rattle.cq_binder_rules.specs.Typing.{listed}
use Rattle.cq_binder_expressions.specs.Chains.{chained}
use Rattle.cq_binder_expressions.specs.Expressions.{scope_of}
use Rattle.cq_binder_expressions.proofs.walk.+walk.Given as goal

-- what is left completes the chain
abbrev pub invariant-chain_typing-loop-part : goal.invariant-chain_typing-loop-part
invariant-chain_typing-loop-part l =
    chained (scope_of l.scope) l.operator l.chain (map written (drop l.part-index l.others))
    ≡ chained (scope_of l.scope) l.operator l.fn.first (map written l.others)

-- what is left completes the list
abbrev pub invariant-in_typing-loop-entry : goal.invariant-in_typing-loop-entry
invariant-in_typing-loop-entry l =
    listed (scope_of l.scope) l.value l.all_agree (choices (map written (drop l.entry-index l.entries)))
    ≡ listed (scope_of l.scope) l.value true (choices (map written l.entries))
