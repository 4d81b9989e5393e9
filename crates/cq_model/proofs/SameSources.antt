-- Sources that are one.
use Rattle.std.proofs.Common.{◌≡◌, true, refl, ap}
use Rattle.std.proofs.lemmas.Bool.{eq-eqb, eqb-true}
use Rattle.cq_model.specs.Sources.{same_source}
use Rattle.cq_model.specs.declared.query.Source.{Source}
use Rattle.cq_model.specs.declared.query.Source.TheVariants.{Table, View}

-- a source is itself
pub itself : (s : Source) → same_source s s ≡ true
itself (Table n) = eq-eqb n n refl
itself (View n) = eq-eqb n n refl

-- and no other one is
pub only_itself : (s t : Source) → same_source s t ≡ true → s ≡ t
only_itself (Table m) (Table n) e = ap Table (eqb-true m n e)
only_itself (Table m) (View n) e = absurd (cc e)
only_itself (View m) (Table n) e = absurd (cc e)
only_itself (View m) (View n) e = ap View (eqb-true m n e)
