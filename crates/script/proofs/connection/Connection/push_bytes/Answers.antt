use Rattle.std.proofs.Common.{◌≡◌, ◌+◌, length, ◌∙◌, ap, arith}
use Rattle.server_run.specs.Steps.{given_by}
use Rattle.script.proofs.Counted.{more_counted}
use Rattle.script.proofs.connection.Connection.push_bytes.Goals as goal

pub invariant_of-self-2 : goal.invariant_of-self-2
invariant_of-self-2 c =
    let reads = c.self.inside.reads.items in
    let counted : length (given_by c.push_pieces.new.reads.items) ≡ length (given_by reads) + length c.args.bytes.now =
    ap (λ steps. length (given_by steps)) c.in_ok-push_pieces.ensures.ok ∙ more_counted reads c.args.cut c.args.bytes.now c.requires in
    (omega (arith, counted, c.in-Some.ensures.1, c.self.invariant.0), c.self.invariant.1)
