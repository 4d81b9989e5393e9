-- When two names of sources are one.
use Rattle.std.specs.Prelude.{◌==◌, Bool, false}
use Rattle.cq_model.specs.declared.query.Source.{Source}
use Rattle.cq_model.specs.declared.query.Source.TheVariants.{Table, View}

-- two sources are the table of one number, or the view of one number
abbrev pub same_source : Source → Source → Bool
same_source (Table t) (Table u) = t == u
same_source (Table t) (View v) = false
same_source (View v) (Table t) = false
same_source (View v) (View w) = v == w
