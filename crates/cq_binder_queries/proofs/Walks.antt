-- How stretches make up a walk: WHERE decides, then GROUP BY, then the items, and then what stands behind them.
use Rattle.std.proofs.Common.{◌≡◌, List, ◌++◌, Option, None, sym, ap, ◌∙◌}
use Rattle.std.proofs.lemmas.List.{append_assoc}
use Rattle.cq_binder_rules.specs.declared.fault.Fault.{Fault}
use Rattle.cq_binder_rules.specs.Checks.{first_fault, MayRefuse}
use Rattle.cq_binder_queries.proofs.Faults.{first_fault_append, none_append, or_next, refused_back, refused_front, refused_same}

-- ---- Three stretches
module _ (a b c : List (Option Fault)) (kept : first_fault a ≡ None) where
  -- the second refuses
  pub second_refused : (f : Fault) → MayRefuse (first_fault b) f → MayRefuse (first_fault (a ++ (b ++ c))) f
  second_refused f m = refused_back a (b ++ c) f kept (refused_front b c f m)

  module _ (grouped : first_fault b ≡ None) where
    -- the third refuses
    pub third_refused : (f : Fault) → MayRefuse (first_fault c) f → MayRefuse (first_fault (a ++ (b ++ c))) f
    third_refused f m = refused_back a (b ++ c) f kept (refused_back b c f grouped m)

    -- none refuses
    pub none_refuses : first_fault c ≡ None → first_fault (a ++ (b ++ c)) ≡ None
    none_refuses bound = none_append a (b ++ c) kept (none_append b c grouped bound)

-- ---- Three stretches, and what stands behind them
module _ (a b c d : List (Option Fault)) where
  abbrev front : List (Option Fault)
  front = a ++ (b ++ c)

  abbrev whole : List (Option Fault)
  whole = a ++ (b ++ (c ++ d))

  same_walk : first_fault whole ≡ first_fault (front ++ d)
  same_walk = ap first_fault (sym (append_assoc a (b ++ c) d ∙ ap (λ (cs : List (Option Fault)). a ++ cs) (append_assoc b c d)))

  -- one of the three refuses
  pub front_refused : (f : Fault) → MayRefuse (first_fault front) f → MayRefuse (first_fault whole) f
  front_refused f m = refused_same (first_fault (front ++ d)) (first_fault whole) f same_walk (refused_front front d f m)

  -- none of the three does
  pub rest_decides : first_fault front ≡ None → first_fault whole ≡ first_fault d
  rest_decides free = same_walk ∙ first_fault_append front d ∙ or_next (first_fault front) (first_fault d) free
