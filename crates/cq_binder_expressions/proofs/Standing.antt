-- Where an aggregate stands in a chain of nodes.
use Rattle.std.proofs.Common.{◌≡◌, ◌⊎◌, inl, inr, ℕ, Bool, true, false, List, [], ◌∷◌, map, take, length, min, refl, sym, ap, ap₂, ◌∙◌, Box, Vec, Global}
use Rattle.std.specs.Prelude.{◌||◌}
use Rattle.std.specs.List.{fold, list_any}
use Rattle.std.proofs.lemmas.List.{take-map, take_min}
use Rattle.cq_sql_language.specs.declared.written.ExprNode.{ExprNode}
use Rattle.cq_sql_language.specs.declared.written.ExprNode.TheViews as nodes
use Rattle.cq_sql_language.specs.declared.written.Sign.{Sign}
use Rattle.cq_sql_language.specs.declared.written.Sign.TheVariants as signs
use Rattle.cq_sql_language.specs.Written.{Written, choices, signed, terms, written, Times, And, Or}
use Rattle.cq_binder_rules.specs.Grouping.{chooses_aggregate, has_aggregate}
use Rattle.cq_binder_expressions.proofs.Several.{written-And, written-In, written-Or, written-Product, written-Sum}

or_assoc : (a b c : Bool) → ((a || b) || c) ≡ (a || (b || c))
or_assoc true b c = refl
or_assoc false b c = refl

or_none : (a : Bool) → a ≡ (a || false)
or_none true = refl
or_none false = refl

-- an aggregate stands in a chain where it stands in its first part or in a later one
folded : (join : Written → Written → Written) → ((v w : Written) → has_aggregate (join v w) ≡ (has_aggregate v || has_aggregate w)) → (w : Written) (ws : List Written)
    → has_aggregate (fold join w ws) ≡ (has_aggregate w || list_any has_aggregate ws)
folded join joins w [] = or_none (has_aggregate w)
folded join joins w (v ∷ vs) =
    folded join joins (join w v) vs ∙ ap (λ (b : Bool). b || list_any has_aggregate vs) (joins w v) ∙ or_assoc (has_aggregate w) (has_aggregate v) (list_any has_aggregate vs)

in_signed : (s : Sign) (v w : Written) → has_aggregate (signed s v w) ≡ (has_aggregate v || has_aggregate w)
in_signed signs.Plus v w = refl
in_signed signs.Minus v w = refl

-- a sum has as many later terms as signs before them
in_terms : (w : Written) (ss : List Sign) (ws : List Written) → has_aggregate (terms w ss ws) ≡ (has_aggregate w || list_any has_aggregate (take (length ss) ws))
in_terms w [] ws = or_none (has_aggregate w)
in_terms w (s ∷ ss) [] = or_none (has_aggregate w)
in_terms w (s ∷ ss) (v ∷ vs) =
    in_terms (signed s w v) ss vs ∙ ap (λ (b : Bool). b || list_any has_aggregate (take (length ss) vs)) (in_signed s w v)
    ∙ or_assoc (has_aggregate w) (has_aggregate v) (list_any has_aggregate (take (length ss) vs))

in_choices : (ws : List Written) → chooses_aggregate (choices ws) ≡ list_any has_aggregate ws
in_choices [] = refl
in_choices (w ∷ ws) = ap (λ (b : Bool). has_aggregate w || b) (in_choices ws)

-- an aggregate stands in a node where it stands in its first part or in one of the others
abbrev pub HasParts : ExprNode → ExprNode → List ExprNode → Type 0
HasParts n first others = has_aggregate (written n) ≡ (has_aggregate (written first) || list_any has_aggregate (map written others))

module _ (n : ExprNode) (first : Box ExprNode Global) (others : Vec ExprNode Global) where
  pub in_chain : (n ≡ nodes.Product first others) ⊎ ((n ≡ nodes.And first others) ⊎ (n ≡ nodes.Or first others)) → HasParts n first.value others.items
  in_chain (inl is) = ap (λ m. has_aggregate (written m)) is ∙ ap has_aggregate (written-Product first others) ∙ folded Times (λ v w. refl) (written first.value) (map written others.items)
  in_chain (inr (inl is)) = ap (λ m. has_aggregate (written m)) is ∙ ap has_aggregate (written-And first others) ∙ folded And (λ v w. refl) (written first.value) (map written others.items)
  in_chain (inr (inr is)) = ap (λ m. has_aggregate (written m)) is ∙ ap has_aggregate (written-Or first others) ∙ folded Or (λ v w. refl) (written first.value) (map written others.items)

  pub in_list : (negated : Bool) → n ≡ nodes.In negated first others → HasParts n first.value others.items
  in_list negated is =
      ap (λ m. has_aggregate (written m)) is ∙ ap has_aggregate (written-In negated first others)
      ∙ ap (λ (b : Bool). has_aggregate (written first.value) || b) (in_choices (map written others.items))

  pub in_sum : (ss : Vec Sign Global) (k : ℕ) (items : List ExprNode) → n ≡ nodes.Sum first ss others → k ≡ min (length ss.items) (length others.items) → items ≡ others.items → HasParts n first.value (take k items)
  in_sum ss k items is count same =
      let few : take (length ss.items) (map written others.items) ≡ map written (take k items)
      = take-map written (length ss.items) others.items ∙ ap (map written) (sym (take_min (length ss.items) others.items))
      ∙ ap₂ (λ (j : ℕ) (es : List ExprNode). map written (take j es)) (sym count) (sym same) in
      ap (λ m. has_aggregate (written m)) is ∙ ap has_aggregate (written-Sum first others ss) ∙ in_terms (written first.value) ss.items (map written others.items)
      ∙ ap (λ (ws : List Written). has_aggregate (written first.value) || list_any has_aggregate ws) few

module _ (n first : ExprNode) (others : List ExprNode) (parts : HasParts n first others) (r : Bool) (is : r ≡ has_aggregate (written first)) where
  -- it stands in the first part
  pub stands_first : r ≡ true → r ≡ has_aggregate (written n)
  stands_first e = e ∙ sym (parts ∙ ap (λ (b : Bool). b || list_any has_aggregate (map written others)) (sym is ∙ e))

  -- or else where it stands in the others
  pub stands_later : (q : Bool) → r ≡ false → q ≡ list_any has_aggregate (map written others) → q ≡ has_aggregate (written n)
  stands_later q e of = of ∙ sym (parts ∙ ap (λ (b : Bool). b || list_any has_aggregate (map written others)) (sym is ∙ e))
