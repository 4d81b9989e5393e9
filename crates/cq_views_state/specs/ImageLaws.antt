-- Rows whose images are taken in turn are taken together.
use Rattle.std.proofs.Common.{◌≡◌, ◌∙◌, List, [], ◌++◌, refl, sym, ap, subst, arith}
use Rattle.std.proofs.lemmas.List.{append-nil, append_assoc}
use Rattle.cq_values.specs.Value.{Row}
use Rattle.cq_model_bags.proofs.Linears.{filtered-append, projected-append}
use Rattle.cq_model_bags.specs.Bag.{Weighted, projected}
use Rattle.cq_model.specs.Meaning.{items_of, keeps}
use Rattle.cq_model.specs.declared.query.Query.{Query}
use Rattle.cq_model.specs.declared.query.Shape.TheVariants.{Plain}
use Rattle.cq_views_state.specs.GroupLaws.{each-more, each-none}
use Rattle.cq_views_state.specs.Imaging.{CanTake, Keeps, Takes, images_of}
use Rattle.cq_views_state.specs.Last.{kept_rows}
use Rattle.cq_views_model.specs.Query.{CanBeKept}
use Rattle.cq_views_state.specs.declared.imaging.ImageTaker.{ImageTaker}

images-append : (query : Query) (xs ys : Weighted) → images_of query (xs ++ ys) ≡ images_of query xs ++ images_of query ys
images-append query xs ys =
    ap (projected (items_of query.items)) (filtered-append (keeps query.filter) xs ys)
    ∙ projected-append (items_of query.items) (kept_rows query xs) (kept_rows query ys)

pub takes-none : (t : ImageTaker) → Takes t [] t
takes-none t = record { query = refl; images = sym (append-nil t.images.items); ticks = each-none t.ticks }

pub takes-more : (a b c : ImageTaker) (xs ys : Weighted) → Takes a xs b → Takes b ys c → Takes a (xs ++ ys) c
takes-more a b c xs ys first second =
    let query = a.query.now in
    let later = second.images ∙ (λ i. first.images i ++ images_of (first.query i) ys) in
    record {
      query = second.query ∙ first.query;
      images = later ∙ append_assoc a.images.items (images_of query xs) (images_of query ys) ∙ ap (λ (zs : Weighted). a.images.items ++ zs) (sym (images-append query xs ys));
      ticks = each-more a.ticks b.ticks c.ticks xs ys first.ticks second.ticks;
    }

pub keeps-itself : (t : ImageTaker) → Keeps t t
keeps-itself t = record { query = refl; more = omega arith }

pub keeps-more : (a b c : ImageTaker) → Keeps a b → Keeps b c → Keeps a c
keeps-more a b c first second = record { query = second.query ∙ first.query; more = omega (arith, first.more, second.more) }

pub fits-still : (a b : ImageTaker) (xs : Weighted) (r : Row) → Takes a xs b → CanTake a r → CanTake b r
fits-still a b xs r takes fits = record {
  can = subst (λ (q : Query). CanBeKept q) (sym takes.query) fits.can;
  plain = subst (λ (q : Query). q.shape ≡ Plain) (sym takes.query) fits.plain;
  stored = fits.stored;
}
