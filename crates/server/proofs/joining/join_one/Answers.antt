use Rattle.std.proofs.Common.{Some, inl, inr, refl, sym, ◌∙◌}
use Rattle.server.specs.Rows.{row_of}
use Rattle.server.proofs.joining.join_one.Goals as goal

pub returns-in-Unstarted : goal.returns-in-Unstarted
returns-in-Unstarted g c =
    let hands = c.join-handed.ensures.handed in
    record {
      unstarted = record {
        row = row_of c.args.line.parcels c.args.line.notes (Some c.args.line.running);
        at = refl;
        running = c.args.line.running;
        runs = refl;
        out = hands.out;
        promised = hands.promised;
        departed = inl (sym hands.same.3 ∙ c.in-Unstarted.is);
      };
    }

pub returns-in-Faulted : goal.returns-in-Faulted
returns-in-Faulted g c =
    let hands = c.join-handed.ensures.handed in
    record {
      unstarted = record {
        row = row_of c.args.line.parcels c.args.line.notes (Some c.args.line.running);
        at = refl;
        running = c.args.line.running;
        runs = refl;
        out = hands.out;
        promised = hands.promised;
        departed = inr (c.in-Faulted.readiness, sym hands.same.3 ∙ c.in-Faulted.is);
      };
    }
