use Rattle.std.proofs.Common.{[], refl}
use Rattle.http_tests.proofs.switch.SwitchServiceTuple2RequestFramedTestLink.call.Goals as goal
use Rattle.http_tests.proofs.switch.SwitchServiceTuple2RequestFramedTestLink.call.Goals.{in-Ok, in-Err}

pub returns : goal.returns
returns c = record {
  value = record { link = c.write_rest.new.self; end = c.match-write_rest.end };
  is = refl;
  holds = (
    record { put = []; same = refl; grew = refl },
    elim c.match-write_rest.branch [
      | in-Ok w ↦ rw w.end-is tt
      | in-Err w ↦ rw w.end-is tt
    ],
  );
}
