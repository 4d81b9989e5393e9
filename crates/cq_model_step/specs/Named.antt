-- The views that a SELECT names: those in FROM, and the one that has its answer at hand (docs/LANGUAGE.md, Views).
use Rattle.std.specs.Prelude.{ℕ, Bool, ◌||◌, nat_eq, List, Option, Some, position}
use Rattle.std.specs.List.{list_any}
use Rattle.std.specs.Option.{option_eq}
use Rattle.cq_model.specs.Views.{is_view, sources_of}
use Rattle.cq_model.specs.declared.query.Query.{Query}
use Rattle.cq_model_core.specs.Core.{has_core}
use Rattle.cq_model_state.specs.State.{ViewOf}

-- where the first created view stands whose core the query has, if there is one
abbrev pub core_place : Query → List ViewOf → Option ℕ
core_place q views = position (λ v. has_core q v.query) views

-- whether a query names the view at a place: FROM does, or the view is that one
abbrev pub is_named : List ViewOf → Query → ℕ → Bool
is_named views q place = list_any (is_view place) (sources_of q) || option_eq nat_eq (core_place q views) (Some place)
