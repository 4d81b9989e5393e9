use Rattle.std.proofs.Common.{◌∙◌, ◌++◌, ap}
use Rattle.cq_model_bags.specs.Bag.{Weighted}
use Rattle.cq_views_state.proofs.ImageSizes.{images-few}
use Rattle.cq_views_state.proofs.imaging.stream_images.Goals as goal
use Rattle.cq_views_state.specs.Imaging.{images_of}

pub merged-requires : goal.merged-requires
merged-requires c =
    let gave = rw c.in_ok-more.ensures.1 at c.stream-streamed.ensures.given in
    let are = (λ i. (c.in_ok-more.ensures.0 i).items) ∙ gave.took.images ∙ ap (λ (zs : Weighted). zs ++ images_of c.args.query.now gave.given) c.new.ensures.items in
    images-few c.args.query.now gave.given c.in_ok-more.more.items are gave.holds.few.few
