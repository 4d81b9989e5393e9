use Rattle.std.proofs.Common.{◌∙◌, ap}
use Rattle.std.proofs.lemmas.Result.{IfOk-weaker}
use Rattle.cq_table_columns.specs.Stored.{front_rows, marked_rows}
use Rattle.cq_table_columns.proofs.MarkedFronts.{listed_below, listed_long, listed_stand, unmarked_stand}
use Rattle.cq_table_columns.proofs.front.Front.places_at.Goals as goal

pub copies_at-requires : goal.copies_at-requires
copies_at-requires c = listed_long c.args.self.now _ (ap marked_rows c.in-Marked.is) (ap front_rows c.in-Marked.is) _ c.requires _ (c.deref.ensures.value ∙ c.in_ok-live-in-Marked.ensures)

pub copies_at-requires-in-Written : goal.copies_at-requires-in-Written
copies_at-requires-in-Written c = listed_long c.args.self.now _ (ap marked_rows c.in-Written.is) (ap front_rows c.in-Written.is) _ c.requires _ (c.deref-in-Written.ensures.value ∙ c.in_ok-live-in-Written.ensures)

pub returns-in-Rows-clause-rows : goal.returns-in-Rows-clause-rows
returns-in-Rows-clause-rows c = IfOk-weaker c.to_vec.result _ _ (λ p is. unmarked_stand c.args.self.now _ (ap marked_rows c.in-Rows.is) (ap front_rows c.in-Rows.is) _ p.items (is (λ x y same. same))) c.to_vec.ensures.items_if_clones_equal

pub returns-in-Columns-clause-rows : goal.returns-in-Columns-clause-rows
returns-in-Columns-clause-rows c =
    IfOk-weaker c.to_vec-in-Columns.result _ _ (λ p is. unmarked_stand c.args.self.now _ (ap marked_rows c.in-Columns.is) (ap front_rows c.in-Columns.is) _ p.items (is (λ x y same. same))) c.to_vec-in-Columns.ensures.items_if_clones_equal

pub returns-in_ok-live-in-Marked-clause-rows : goal.returns-in_ok-live-in-Marked-clause-rows
returns-in_ok-live-in-Marked-clause-rows c =
    let stand = listed_stand c.args.self.now _ (ap marked_rows c.in-Marked.is) (ap front_rows c.in-Marked.is) _ c.requires _ (c.deref.ensures.value ∙ c.in_ok-live-in-Marked.ensures) in
    IfOk-weaker c.copies_at.result _ _ (λ p is. stand p.items (is 0)) c.copies_at.ensures

pub returns-in_ok-live-in-Marked-clause-there : goal.returns-in_ok-live-in-Marked-clause-there
returns-in_ok-live-in-Marked-clause-there c =
    let below = listed_below c.args.self.now _ (ap marked_rows c.in-Marked.is) (ap front_rows c.in-Marked.is) _ c.requires _ (c.deref.ensures.value ∙ c.in_ok-live-in-Marked.ensures) in
    IfOk-weaker c.copies_at.result _ _ (λ p is. below p.items (is 0)) c.copies_at.ensures

pub returns-in_ok-live-in-Written-clause-rows : goal.returns-in_ok-live-in-Written-clause-rows
returns-in_ok-live-in-Written-clause-rows c =
    let stand = listed_stand c.args.self.now _ (ap marked_rows c.in-Written.is) (ap front_rows c.in-Written.is) _ c.requires _ (c.deref-in-Written.ensures.value ∙ c.in_ok-live-in-Written.ensures) in
    IfOk-weaker c.copies_at-in-Written.result _ _ (λ p is. stand p.items (is 0)) c.copies_at-in-Written.ensures

pub returns-in_ok-live-in-Written-clause-there : goal.returns-in_ok-live-in-Written-clause-there
returns-in_ok-live-in-Written-clause-there c =
    let below = listed_below c.args.self.now _ (ap marked_rows c.in-Written.is) (ap front_rows c.in-Written.is) _ c.requires _ (c.deref-in-Written.ensures.value ∙ c.in_ok-live-in-Written.ensures) in
    IfOk-weaker c.copies_at-in-Written.result _ _ (λ p is. below p.items (is 0)) c.copies_at-in-Written.ensures
