use Rattle.std.proofs.Common.{refl}
use Rattle.cq_engine_tables.proofs.view.View.commit.Goals as goal

pub returns-in-Some : goal.returns-in-Some
returns-in-Some c =
    rw (← c.self.view_is, c.in-Some.is)
    (record {
      led = record { name = refl; columns = refl; query = c.commit.ensures.query; widths = c.commit.ensures.widths; built = c.commit.ensures.built; epoch = c.commit.ensures.epoch };
      goes = c.commit.ensures.takes;
      counts = c.commit.ensures.counts;
    })
