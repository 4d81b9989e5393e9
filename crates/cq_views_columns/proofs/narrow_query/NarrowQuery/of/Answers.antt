use Rattle.std.proofs.Common.{◌≡◌, ◌∙◌, List, sym, ap, ap₂}
use Rattle.std.specs.Global.{Vec}
use Rattle.cq_model.specs.Views.{sources_of}
use Rattle.cq_model.specs.declared.query.Source.{Source}
use Rattle.cq_views_columns.specs.Narrow.{renamed_over, sources_read}
use Rattle.cq_views_columns.specs.declared.columns.SourceColumns.{SourceColumns}
use Rattle.cq_views_columns.proofs.narrow_query.NarrowQuery.of.Goals as goal

pub returns : goal.returns
returns c =
    let q = c.args.query.now in
    let widths = c.args.widths.now in
    let sources : c.in_ok-sources.sources.items ≡ sources_of q = c.in_ok-sources.ensures in
    let new = c.in_ok-columns-2 in
    let made : c.from_vec.result ≡ c.in_ok-columns.columns.items = c.from_vec.ensures ∙ ap (λ (v : Vec SourceColumns). v.items) new.ensures.0 in
    let columns : c.in_ok-columns.columns.items ≡ sources_read q widths c.in_ok-sources.sources.items widths =
    c.in_ok-columns.ensures ∙ ap (λ (ss : List Source). sources_read q widths ss widths) c.deref.ensures.value in
    let query : new.query ≡ renamed_over q c.in_ok-sources.sources.items widths c.in_ok-columns.columns.items =
    (rw new.ensures.1 at c.renamed_over-query.ensures) ∙ ap₂ (λ (ss : List Source) (cs : List SourceColumns). renamed_over q ss widths cs) c.deref-2.ensures.value c.deref-3.ensures.value in
    c.renamed_means_same.ensures q widths (record { query = new.query; columns = c.from_vec.result }) (record {
      columns = made ∙ columns ∙ ap (λ (ss : List Source). sources_read q widths ss widths) sources;
      query = query ∙ ap₂ (λ (ss : List Source) (cs : List SourceColumns). renamed_over q ss widths cs) sources (sym made);
    })
