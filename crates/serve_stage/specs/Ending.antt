-- What the connections of the tests give.
use Rattle.std.specs.Prelude.{◌≡◌, Option, Result}
use Rattle.service_core.specs.Holding.{OfKept}
use Rattle.service_core.specs.declared.ended.Ended.{Ended}
use Rattle.service_core.specs.declared.link.Link.{Ghosts as LinkOf}
use Rattle.server_run.specs.Creating.{OnlyEnds}

-- a connection ends with its link, and never errs
abbrev pub EndsOf : {L E : Type 0} → LinkOf L → L → Result (Ended L) E → Type 0
EndsOf g link = OnlyEnds (λ ended. g.identity ended.link ≡ g.identity link)

-- what a connection under way may give: an end of the link that it has kept
abbrev pub GivesBack : {L E : Type 0} → LinkOf L → Option L → Result (Ended L) E → Type 0
GivesBack g kept r = OfKept kept (λ link. EndsOf g link r)
