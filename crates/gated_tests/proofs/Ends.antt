-- A service of connections never errs, and ends each with its link.
use Rattle.std.proofs.Common.{◌≡◌, Result, Ok, Err}
use Rattle.service_core.specs.declared.ended.Ended.{Ended}
use Rattle.service_core.specs.declared.link.Link.{Ghosts as LinkOf}
use Rattle.service_core.specs.declared.peer.Peer.{Peer}
use Rattle.http_service.specs.Serving.{Serves, Serving}
use Rattle.server_run.specs.Creating.{OnlyEnds}

pub ends_same : {L E XE A : Type 0} (g : LinkOf L) (s : Serving L E XE) (peer : Peer) (link : L) (r : Result (Ended L) A)
    → Serves g s peer link r → OnlyEnds (λ ended. g.identity ended.link ≡ g.identity link) r
ends_same g s peer link (Ok ended) given = given.ends.same
ends_same g s peer link (Err e) given = given
