use Rattle.std.proofs.Common.{◌≡◌, List, length, refl, sym, ◌∙◌, ap, Some}
use Rattle.std.specs.Prelude.{slice_get}
use Rattle.std.proofs.lemmas.Bool.{OnTrue_at, OnTrue_from}
use Rattle.std.proofs.lemmas.Option.{slice_get_read}
use Rattle.cq_values.specs.declared.value.Value.{Value}
use Rattle.cq_values.specs.Value.{column}
use Rattle.cq_operators_listing.specs.Places.{ArePlaces, first_key}
use Rattle.cq_operators_listing.specs.Stored.{StoredListing}
use Rattle.cq_operators_listing.proofs.FirstKeys.{suffice-before}
use Rattle.cq_operators_listing.proofs.listing.Listing.select_shown.Goals as goal

-- the places at which the first key does not stand behind the worst row's
pub returns-in-Some-get : goal.returns-in-Some-get
returns-in-Some-get c =
    let listing = c.args.self.now in
    let key = c.first_key-key.result in
    let w = c.in-Some.worst in
    let values = c.in-Some-get.values.now in
    let item = c.in-Some-get.ensures.lookup in
    let columns = c.args.batch.now.columns.items in
    let is_first : key ≡ first_key listing.keys = c.first_key-key.ensures ∙ ap first_key (c.as_slice.ensures ∙ ap (λ (s : StoredListing). s.keys) c.self.view_is) in
    let there : slice_get columns key.column ≡ Some values =
    ap (λ (columns : List (List Value)). slice_get columns key.column) (sym c.as_slice-2.ensures.value)
    ∙ slice_get_read c.as_slice-2.result.now (length c.as_slice-2.result.now) key.column values refl item.3.0 item.1 in
    OnTrue_from c.places_before.result (ArePlaces listing c.args.batch.now c.places_before.new.to)
    (λ told. suffice-before listing columns c.args.batch.now.selection c.places_before.new.to w key values (column w key.column) c.in-Some.ensures is_first there refl
    (OnTrue_at told c.places_before.ensures))
