-- What a view counts rises where its query's bag changes.
use Rattle.std.proofs.Common.{subst, sym}
use Rattle.cq_model_bags.proofs.Bags.{same-append, same-refl, same-sym, same-trans}
use Rattle.cq_model_bags.specs.Bag.{SameBag}
use Rattle.cq_views_model.specs.Delta.{SameTables, changed}
use Rattle.cq_views.proofs.Bags.{cut-changed}
use Rattle.cq_views.proofs.Showing.{cut-means}
use Rattle.cq_views.proofs.Told.{all-wide}
use Rattle.cq_views.specs.Cut.{cut_bags}
use Rattle.cq_views.specs.Laws.{RisesWhereChanged}
use Rattle.cq_model_laws.proofs.Meanings.{meaning-respects}
use Rattle.cq_model.specs.Meaning.{Tables, meaning}
use Rattle.cq_views_state.proofs.Working.{rises-where_changed}

pub rises-where_bag_changes : RisesWhereChanged
rises-where_bag_changes tables changes old ready new pending suits columns waiting put differs =
    let v = old in
    let q = v.query in
    let inner = v.state.query in
    let cut = waiting.cut in
    let before = cut_bags v.columns tables in
    let behind = cut_bags v.columns (changed tables changes) in
    let stands = suits.stands in
    let wide = all-wide v tables cut stands.widths waiting.wide in
    let same_behind : SameBag (meaning inner (changed before cut)) (meaning inner behind) =
    meaning-respects inner (changed before cut) behind
    (subst (λ (now : Tables). SameTables (changed before cut) now) (sym (cut-changed v.columns tables changes))
    (record { at = λ s. same-append (before s) (before s) (cut s) (cut_bags v.columns changes s) (same-refl (before s)) (waiting.same.at s) })) in
    rises-where_changed before cut v.state ready.state new.state pending stands.rows wide waiting.counts waiting.rows put
    (λ same. differs (same-trans (meaning q (changed tables changes)) (meaning inner behind) (meaning q tables)
    (same-sym (meaning inner behind) (meaning q (changed tables changes)) (cut-means v stands.narrow (changed tables changes) columns))
    (same-trans (meaning inner behind) (meaning inner (changed before cut)) (meaning q tables)
    (same-sym (meaning inner (changed before cut)) (meaning inner behind) same_behind)
    (same-trans (meaning inner (changed before cut)) (meaning inner before) (meaning q tables) same (cut-means v stands.narrow tables suits.columns)))))
